-- The text of a verdict, byte by byte. Assumes nothing.
use Rattle.std.specs.Prelude.{ℕ, List, ◌++◌, codes, decimal}
use Rattle.meaning.specs.Causes.{cause_number}
use Rattle.meaning.specs.declared.answers.Verdict.{Verdict}
use Rattle.meaning.specs.declared.answers.Verdict.TheVariants.{Holds, Fails}

-- `holds`, or `fails PLACE CAUSE`
abbrev pub verdict_text : Verdict → List ℕ
verdict_text Holds = codes "holds"
verdict_text (Fails place cause) = codes "fails " ++ (decimal place ++ (codes " " ++ decimal (cause_number cause)))

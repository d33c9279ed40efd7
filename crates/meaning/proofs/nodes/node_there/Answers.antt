use Rattle.std.proofs.Common.{sym, ◌∙◌}
use Rattle.meaning.proofs.Beginnings.{kind_read, reads_action}
use Rattle.meaning.proofs.Loading.{node_named}
use Rattle.meaning.proofs.nodes.node_there.Goals as goal

pub returns-in_ok-first-in_default : goal.returns-in_ok-first-in_default
returns-in_ok-first-in_default c = λ p e q node.
    let bytes = c.in_ok-bytes_from.ensures p e q node in
    let split = c.in_ok-first.ensures.cases in
    let code = kind_read _ _ _ c.try_from.ensures (sym c.in_ok-kind.was ∙ c.ok.ensures.value) in
    reads_action p.actions c.in_ok-kind.kind _ _ c.in_ok-first.rest.now _ c.acting_node.result q code c.in_default.not-End c.in_default.not-Gap (sym split.0 ∙ bytes.1)
    c.in_ok-first-in_default.ensures.value (node_named c.args.loaded.now.file.now p e c.args.place q node) (c.acting_node.ensures.doing p e) (c.acting_node.ensures.reading p e)

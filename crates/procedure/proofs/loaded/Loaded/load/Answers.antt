use Rattle.std.proofs.Common.{◌+◌, ◌≤◌, length, arith, rules}
use Rattle.frames.specs.declared.frame.Due.TheVariants.{Body}
use Rattle.frames.proofs.Reading.{whole_le}
use Rattle.procedure.proofs.Joining.{laid}
use Rattle.procedure.proofs.Walking.{tail_of}
use Rattle.procedure.proofs.loaded.Loaded.load.Goals as goal

pub overflow_add-loaded : goal.overflow_add-loaded
overflow_add-loaded c =
    let sel = c.args.selected in
    let s = sel.file.now in
    let l = laid s sel.actions sel.plan sel.start sel.laid in
    let plan = whole_le s l.whole.rest.plan.place (Body (length l.whole.rest.actions)) (tail_of s l.whole l.frames).plan_sound in
    let within : c.plan.result + 4 ≤ length s = omega (arith, plan, l.lie.plan_at, c.plan.ensures) in
    search rules

use Rattle.std.proofs.Common.{length, ap, ◌∙◌, arith}
use Rattle.procedure.proofs.Worlds.{worlds_length, worlds_grown, worlds_all}
use Rattle.procedure.proofs.starts.worlds_in.Goals as goal

pub push-requires : goal.push-requires
push-requires c =
    omega (arith, ap length c.loop-i.invariant, worlds_length c.loop-i.i c.args.bytes.now 0, c.loop-i-test.true, c.requires)

pub loop-i-preserved : goal.loop-i-preserved
loop-i-preserved c =
    worlds_grown c.args.bytes.now c.push.new.self.items c.loop-i.worlds.items c.loop-i.i c.set_at.result c.push.ensures.items c.loop-i.invariant c.set_at.ensures

pub returns : goal.returns
returns c =
    record {
      items = c.loop-i.invariant ∙ worlds_all c.args.bytes.now c.loop-i.i (omega (arith, c.loop-i-test.false));
      len = omega (arith, ap length c.loop-i.invariant, worlds_length c.loop-i.i c.args.bytes.now 0, c.loop-i-test.false);
    }

use Rattle.std.proofs.Common.{ap}
use Rattle.procedure.specs.Acts.{act_seen, is_do, is_read}
use Rattle.procedure.proofs.Sorts.{joins, stays_out}
use Rattle.procedure.proofs.acts.noted.Goals as goal

pub returns-in-Doing : goal.returns-in-Doing
returns-in-Doing c =
    let s = c.args.sorts in
    record {
      does = λ a. joins s.doing c.args.k a (is_do (act_seen c.args.action)) c.requires (ap (λ x. is_do (act_seen x)) c.in-Doing.is);
      reads = λ a. stays_out s.reading c.args.k a (is_read (act_seen c.args.action)) (ap (λ x. is_read (act_seen x)) c.in-Doing.is);
    }

pub returns-in-Reading : goal.returns-in-Reading
returns-in-Reading c =
    let s = c.args.sorts in
    record {
      does = λ a. stays_out s.doing c.args.k a (is_do (act_seen c.args.action)) (ap (λ x. is_do (act_seen x)) c.in-Reading.is);
      reads = λ a. joins s.reading c.args.k a (is_read (act_seen c.args.action)) c.requires (ap (λ x. is_read (act_seen x)) c.in-Reading.is);
    }

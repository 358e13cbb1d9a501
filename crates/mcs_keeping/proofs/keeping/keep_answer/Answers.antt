use Rattle.std.proofs.Common.{refl, rules}
use Rattle.mcs_keeping.proofs.keeping.keep_answer.Goals as goal

pub returns-in_ok-insert-in-Ok-clause-ok : goal.returns-in_ok-insert-in-Ok-clause-ok
returns-in_ok-insert-in-Ok-clause-ok c =
    let updates = c.in_ok-insert-in-Ok.ensures.updates in
    rw c.in-Some.is (record {
      kept = record { outputs = c.in-Ok.outputs; cert = c.in-Some.cert };
      outputs_are = search rules;
      cert_is = refl;
      there = updates.1;
      others = updates.2;
    })

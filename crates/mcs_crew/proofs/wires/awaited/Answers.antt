use Rattle.std.proofs.Common.{◌≤◌, length, subst, arith}
use Rattle.mcs_system.specs.Faults.{IsValid}
use Rattle.mcs_system.specs.Plain.{System}
use Rattle.mcs_system.proofs.ValidLemmas.{few_contexts}
use Rattle.mcs_crew.proofs.HubLemmas.{awaited_here, awaited_there, supplied_short}
use Rattle.mcs_crew.proofs.wires.awaited.Goals as goal
use Rattle.mcs_crew.proofs.wires.awaited.Goals.{then-i-groups, else-i-groups}

pub loop-i-preserved : goal.loop-i-preserved
loop-i-preserved c =
    let m : System = c.args.plan.now in
    let i = c.loop-i.i in
    let old = c.loop-i.invariant in
    let few : length m.contexts ≤ 64 = few_contexts m (subst (λ (n : System). IsValid n) c.system.ensures c.contexts.ensures.valid) in
    elim c.if-i-groups.branch [
      | then-i-groups w ↦ rw w.count-is (record {
        count_is = λ order ordered. awaited_here m order c.args.groups c.args.group i c.loop-i.count (old.count_is order ordered) w.supplied.result.now w.if-i-groups.true (w.supplied.ensures.supplied order ordered);
        small = let short = supplied_short m i w.supplied.result.now few w.supplied.ensures.supplied in let small = old.small in omega (arith, short, small);
      })
      | else-i-groups w ↦ rw w.count-is (record {
        count_is = λ order ordered. awaited_there m order c.args.groups c.args.group i c.loop-i.count (old.count_is order ordered) w.if-i-groups.false;
        small = let small = old.small in omega (arith, small);
      })
    ]

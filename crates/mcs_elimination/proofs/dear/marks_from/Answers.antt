use Rattle.std.proofs.Common.{◌≡◌, ℕ, ◌*◌, ◌<◌, ◌≤◌, ◌∙◌, ap, subst, length}
use Rattle.std.specs.List.{AllByRecursion}
use Rattle.mcs_sets.specs.Sets.{members}
use Rattle.mcs_system.specs.Repairs.{allowed_marks}
use Rattle.mcs_system.proofs.MarkLemmas.{allowed_known}
use Rattle.mcs_costs.proofs.CostLemmas.{marks_below}
use Rattle.mcs_elimination.proofs.DearMarks.{dear_of, skipped, pushed, all_dear}
use Rattle.mcs_elimination.proofs.Above.{single_known}
use Rattle.mcs_elimination.proofs.dear.marks_from.Goals as goal

pub loop-mark-init : goal.loop-mark-init
loop-mark-init c =
    let all : c.into_iter-mark-iterator.result ≡ members (allowed_marks c.args.system.now) = c.into_iter-mark-iterator.ensures.into_iter_gives ∙ c.members-mark-items.ensures.list ∙ ap members c.allowed.ensures in record {
      dear = rw c.new-dear.ensures.items (ap (dear_of c.args.system.now c.args.price) all);
      known = rw all (marks_below c.args.system.now (allowed_marks c.args.system.now) (allowed_known c.args.system.now (allowed_marks c.args.system.now) (λ k is. is)));
    }

-- the mark that comes next
pub cost-requires : goal.cost-requires
cost-requires c =
    let next = (subst (AllByRecursion (λ k. k < 2 * length c.args.system.now.bridges)) c.in-Some.ensures.steps c.loop-mark.invariant.known).0 in
    rw c.one-alone.ensures (single_known c.args.system.now c.in-Some.mark next)

pub loop-mark-preserved : goal.loop-mark-preserved
loop-mark-preserved c = record {
  dear = skipped c.args.system.now c.args.price c.in-Some.mark c.one-alone.result c.loop-mark.mark-iterator c.next.new.self c.loop-mark.dear.items (dear_of c.args.system.now c.args.price (members (allowed_marks c.args.system.now))) c.in-Some.ensures.steps c.one-alone.ensures (subst (λ (x : ℕ). x < c.args.price) c.cost.ensures.value c.if-cost-price.false) c.loop-mark.invariant.dear;
  known = (subst (AllByRecursion (λ k. k < 2 * length c.args.system.now.bridges)) c.in-Some.ensures.steps c.loop-mark.invariant.known).1;
}

pub loop-mark-preserved-in-Continue-1 : goal.loop-mark-preserved-in-Continue-1
loop-mark-preserved-in-Continue-1 c = record {
  dear = rw (c.in_ok-push.ensures.items) (pushed c.args.system.now c.args.price c.in-Some.mark c.one-alone.result c.loop-mark.mark-iterator c.next.new.self c.loop-mark.dear.items (dear_of c.args.system.now c.args.price (members (allowed_marks c.args.system.now))) c.in-Some.ensures.steps c.one-alone.ensures (subst (λ (x : ℕ). c.args.price ≤ x) c.cost.ensures.value c.if-cost-price.true) c.loop-mark.invariant.dear);
  known = (subst (AllByRecursion (λ k. k < 2 * length c.args.system.now.bridges)) c.in-Some.ensures.steps c.loop-mark.invariant.known).1;
}

pub returns : goal.returns
returns c = all_dear c.args.system.now c.args.price c.loop-mark.mark-iterator c.loop-mark.dear.items c.in-None.ensures.steps.0 c.loop-mark.invariant.dear

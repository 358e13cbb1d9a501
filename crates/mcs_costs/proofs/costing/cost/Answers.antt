use Rattle.std.proofs.Common.{◌≡◌, ◌+◌, ◌*◌, ◌<◌, ◌∙◌, ap, sym, subst, ℕ, List, length, arith}
use Rattle.std.proofs.lemmas.List.Sums.{sum_by-cons}
use Rattle.std.specs.List.{AllByRecursion, sum_by}
use Rattle.mcs_sets.specs.Sets.{members}
use Rattle.mcs_costs.specs.Costs.{mark_weight}
use Rattle.mcs_costs.proofs.CostLemmas.{cost_fits, costs_of_members, marks_below}
use Rattle.mcs_costs.proofs.costing.cost.Goals as goal

pub loop-mark-init : goal.loop-mark-init
loop-mark-init c =
    let all : c.into_iter-mark-iterator.result ≡ members c.args.marks = c.into_iter-mark-iterator.ensures.into_iter_gives ∙ c.members-mark-items.ensures.list in record {
      counted = rw all (costs_of_members c.args.system.now c.args.marks);
      known = rw all (marks_below c.args.system.now c.args.marks c.requires);
    }

-- the mark that comes next, and those after it
pub mark_weight-sum-requires : goal.mark_weight-sum-requires
mark_weight-sum-requires c = (subst (AllByRecursion (λ k. k < 2 * length c.args.system.now.bridges)) c.in-Some.ensures.steps c.loop-mark.invariant.known).0

pub overflow_add-sum : goal.overflow_add-sum
overflow_add-sum c =
    let m = c.args.system.now in
    let whole = ap (λ (ks : List ℕ). c.loop-mark.sum + sum_by (mark_weight m) ks) (sym c.in-Some.ensures.steps) ∙ c.loop-mark.invariant.counted in
    let few = cost_fits m c.bridges-bridges.ensures.valid c.args.marks c.requires in
    omega (arith, whole, few, c.mark_weight-sum.ensures, sum_by-cons (mark_weight m) c.in-Some.mark c.next.new.self)

pub loop-mark-preserved : goal.loop-mark-preserved
loop-mark-preserved c =
    let m = c.args.system.now in
    let whole = ap (λ (ks : List ℕ). c.loop-mark.sum + sum_by (mark_weight m) ks) (sym c.in-Some.ensures.steps) ∙ c.loop-mark.invariant.counted in
    record {
      counted = omega (arith, whole, c.mark_weight-sum.ensures, sum_by-cons (mark_weight m) c.in-Some.mark c.next.new.self);
      known = (subst (AllByRecursion (λ k. k < 2 * length m.bridges)) c.in-Some.ensures.steps c.loop-mark.invariant.known).1;
    }

pub returns-clause-value : goal.returns-clause-value
returns-clause-value c =
    let m = c.args.system.now in
    let whole = ap (λ (ks : List ℕ). c.loop-mark.sum + sum_by (mark_weight m) ks) (sym c.in-None.ensures.steps.0) ∙ c.loop-mark.invariant.counted in
    omega (arith, whole)

pub returns-clause-few : goal.returns-clause-few
returns-clause-few c =
    let m = c.args.system.now in
    let whole = ap (λ (ks : List ℕ). c.loop-mark.sum + sum_by (mark_weight m) ks) (sym c.in-None.ensures.steps.0) ∙ c.loop-mark.invariant.counted in
    omega (arith, whole, cost_fits m c.bridges-bridges.ensures.valid c.args.marks c.requires)

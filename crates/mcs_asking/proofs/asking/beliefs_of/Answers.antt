use Rattle.std.proofs.Common.{◌≡◌, ◌∙◌, ◌∷◌, ◌++◌, ◌<◌, ℕ, List, length, map, refl, ap, subst, arith}
use Rattle.std.specs.List.{AllByRecursion}
use Rattle.std.proofs.lemmas.List.{length-map}
use Rattle.mcs_sets.specs.Sets.{members}
use Rattle.mcs_system.specs.Plain.{System}
use Rattle.mcs_system.specs.Seen.{formula_of, read_of}
use Rattle.mcs_system.specs.Systems.{variables, variables_of}
use Rattle.mcs_system.specs.Views.{belief_at, beliefs_at}
use Rattle.mcs_asking.proofs.AskingLemmas.{lent_belief, lent_more, variables_known}
use Rattle.mcs_asking.proofs.asking.beliefs_of.Goals as goal

pub loop-variable-init : goal.loop-variable-init
loop-variable-init c =
    let m : System = c.args.system.now in
    let all : c.into_iter-variable-iterator.result ≡ members (variables_of m c.args.context) = c.into_iter-variable-iterator.ensures.into_iter_gives ∙ c.members-variable-items.ensures.list ∙ ap members c.vars_of.ensures in record {
      lent = rw (all, c.new-beliefs.ensures.items) refl;
      known = rw all (variables_known m c.args.context);
    }

pub bounds-reads-variable : goal.bounds-reads-variable
bounds-reads-variable c =
    let m : System = c.args.system.now in
    let known = subst (AllByRecursion (λ k. k < length (variables m))) c.in-Some.ensures.steps c.loop-variable.invariant.known in
    omega (arith, known.0, length-map c.variables-reads.result.now read_of, ap length c.variables-reads.ensures.value)

pub loop-variable-preserved : goal.loop-variable-preserved
loop-variable-preserved c =
    let m : System = c.args.system.now in
    let v = c.in-Some.variable in
    let lent : map (λ f. formula_of f.now) c.loop-variable.beliefs.items ++ belief_at m v ∷ map (belief_at m) c.next.new.self ≡ beliefs_at m (variables_of m c.args.context) =
    subst (λ (vs : List ℕ). map (λ f. formula_of f.now) c.loop-variable.beliefs.items ++ map (belief_at m) vs ≡ beliefs_at m (variables_of m c.args.context)) c.in-Some.ensures.steps c.loop-variable.invariant.lent in
    let known = subst (AllByRecursion (λ k. k < length (variables m))) c.in-Some.ensures.steps c.loop-variable.invariant.known in
    let less : v < length c.variables-reads.result.now = omega (arith, known.0, length-map c.variables-reads.result.now read_of, ap length c.variables-reads.ensures.value) in
    record {
      lent = lent_more _ _ _ _ (map (belief_at m) c.next.new.self) c.in_ok-push.ensures.items (lent_belief m c.variables-reads.result.now v c.index-reads-variable.result c.variables-reads.ensures.value less) ∙ lent;
      known = known.1;
    }

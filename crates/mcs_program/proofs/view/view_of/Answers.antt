use Rattle.std.proofs.Common.{◌≤◌, ◌<◌, ◌∙◌, ℕ, List, length, sym, ap, subst}
use Rattle.std.specs.List.{AllByRecursion}
use Rattle.std.proofs.lemmas.List.{length-map}
use Rattle.mcs_program.specs.Asked.{program_names, belief_names}
use Rattle.mcs_program.specs.Placing.{view_at}
use Rattle.mcs_program.proofs.PlaceLemmas.{low_places, few_places}
use Rattle.mcs_program.proofs.view.view_of.Goals as goal

pub numbers_in-requires-clause-few : goal.numbers_in-requires-clause-few
numbers_in-requires-clause-few c =
    let p = c.args.placed.now.program.now in
    subst (λ (ps : List ℕ). length ps ≤ 64) (sym c.deref.ensures.value)
    (few_places (program_names p) (belief_names p) c.args.placed.now.placing.beliefs.items (subst (λ n. n ≤ 64) (sym (length-map p.beliefs.now (λ b. b.now))) p.few_beliefs) c.args.placed.now.right.placed_beliefs)

pub numbers_in-requires-clause-places : goal.numbers_in-requires-clause-places
numbers_in-requires-clause-places c =
    let p = c.args.placed.now.program.now in
    subst (AllByRecursion (λ k. k < 64)) (sym c.deref.ensures.value) (low_places (program_names p) (belief_names p) c.args.placed.now.placing.beliefs.items p.few c.args.placed.now.right.placed_beliefs)

pub returns : goal.returns
returns c = c.numbers_in.ensures ∙ ap (λ (ps : List ℕ). view_at ps c.args.model) c.deref.ensures.value

use Rattle.std.proofs.Common.{◌≡◌, ◌∙◌, ℕ, List, length, map, sym, ap, subst, Bor}
use Rattle.std.proofs.lemmas.List.{length-map}
use Rattle.std.specs.List.{AllByRecursion}
use Rattle.mcs_base.proofs.Each.{all_push}
use Rattle.mcs_base.proofs.Mapped.{slice_get-map_read}
use Rattle.mcs_sets.specs.Sets.{such_that}
use Rattle.mcs_system.specs.Plain.{Name}
use Rattle.mcs_system.specs.Logic.{true_names}
use Rattle.mcs_system.specs.declared.formula.Formula as code
use Rattle.mcs_system.specs.Seen.{formula_of}
use Rattle.mcs_cnf.specs.Entailments.{IsRefuted}
use Rattle.mcs_cnf.proofs.AddingLemmas.{over_at}
use Rattle.mcs_classical.specs.Consequences.{holds_goal, with_assumed, IsUpperConsequence}
use Rattle.mcs_classical.specs.Models.{IsCounterexample}
use Rattle.mcs_classical.specs.declared.bounds.Upper.{Upper}
use Rattle.mcs_classical.proofs.ConsequenceLemmas.{model_answer, model_upper}
use Rattle.mcs_classical.proofs.consequences.ask.Goals as goal

-- as many goals as are lent
counted : (names : List Name) (goals : List (Bor code.Formula)) (values places : ℕ) → places ≡ such_that (length goals) (holds_goal (true_names 0 names values) (map (λ g. formula_of g.now) goals))
    → places ≡ such_that (length (map (λ g. formula_of g.now) goals)) (holds_goal (true_names 0 names values) (map (λ g. formula_of g.now) goals))
counted names goals values places is = is ∙ ap (λ (n : ℕ). such_that n (holds_goal (true_names 0 names values) (map (λ g. formula_of g.now) goals))) (sym (length-map goals (λ (g : Bor code.Formula). formula_of g.now)))

pub counterexample_in-requires-clause-goal : goal.counterexample_in-requires-clause-goal
counterexample_in-requires-clause-goal c = over_at (λ g. formula_of g.now) c.args.given.now.asked.now.atoms.now c.args.given.now.asked.now.beliefs.now c.args.place c.index-goals-place.result c.requires.place c.index-goals-place.is c.args.given.now.asked.now.over

pub returns-in-None-clause-answer : goal.returns-in-None-clause-answer
returns-in-None-clause-answer c fs meant =
    let at = slice_get-map_read (λ g. formula_of g.now) c.args.given.now.asked.now.beliefs.now c.args.place c.index-goals-place.result c.requires.place c.index-goals-place.is in
    let g = formula_of c.index-goals-place.result.now in
    (g, at, subst (IsCounterexample c.args.given.now.asked.now.atoms.now fs g) c.in-None.is (c.in_ok-counterexample_in.ensures.exact fs meant))

pub returns-in_ok-push-in-Some-clause-answer : goal.returns-in_ok-push-in-Some-clause-answer
returns-in_ok-push-in-Some-clause-answer c fs meant =
    let at = slice_get-map_read (λ g. formula_of g.now) c.args.given.now.asked.now.beliefs.now c.args.place c.index-goals-place.result c.requires.place c.index-goals-place.is in
    let g = formula_of c.index-goals-place.result.now in
    let refuted : IsRefuted c.args.given.now.asked.now.atoms.now fs g c.in-Some.values = subst (IsCounterexample c.args.given.now.asked.now.atoms.now fs g) c.in-Some.is (c.in_ok-counterexample_in.ensures.exact fs meant) in
    model_answer c.args.given.now.asked.now.atoms.now fs (map (λ x. formula_of x.now) c.args.given.now.asked.now.beliefs.now) c.args.place c.in-Some.values c.goals_holding-possible.result g at refuted (counted c.args.given.now.asked.now.atoms.now c.args.given.now.asked.now.beliefs.now c.in-Some.values c.goals_holding-possible.result c.goals_holding-possible.ensures)

pub returns-in_ok-push-in-Some-clause-search : goal.returns-in_ok-push-in-Some-clause-search
returns-in_ok-push-in-Some-clause-search c =
    let xs = c.args.given.now.assumptions.now in
    let gs = map (λ x. formula_of x.now) c.args.given.now.asked.now.beliefs.now in
    let g = formula_of c.index-goals-place.result.now in
    let names = c.args.given.now.asked.now.atoms.now in
    let u : Upper = record { assumed = c.holding-assumed.result; possible = c.goals_holding-possible.result } in
    record {
      kept = c.counterexample_in.ensures.kept;
      right = λ fs set meant all. (let refuted : IsRefuted names (with_assumed fs xs set) g c.in-Some.values = subst (IsCounterexample names (with_assumed fs xs set) g) c.in-Some.is (c.in_ok-counterexample_in.ensures.exact (with_assumed fs xs set) meant) in
          subst (λ (us : List Upper). AllByRecursion (IsUpperConsequence fs xs gs) us) (sym c.in_ok-push-in-Some.ensures.items)
          (all_push (IsUpperConsequence fs xs gs) c.args.upper.now.items u all (model_upper names fs xs gs set c.in-Some.values g u refuted c.holding-assumed.ensures.each (counted names c.args.given.now.asked.now.beliefs.now c.in-Some.values c.goals_holding-possible.result c.goals_holding-possible.ensures))));
    }

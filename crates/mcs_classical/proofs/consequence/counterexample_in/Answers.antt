use Rattle.std.proofs.Common.{◌≤◌, ◌∙◌, [], ◌∷◌, sym, subst, ℕ, length, take, arith, Some, None}
use Rattle.std.specs.List.{AllByRecursion}
use Rattle.mcs_system.specs.Plain.{Not}
use Rattle.mcs_system.specs.Seen.{formula_of}
use Rattle.mcs_trace.specs.Clauses.{IsWithin}
use Rattle.mcs_sat.specs.Answers.{IsSettledAnswer}
use Rattle.mcs_cnf.proofs.GrowingLemmas.{grown_within, grown_fewer}
use Rattle.mcs_meant.proofs.MeaningLemmas.{adds_formula}
use Rattle.mcs_classical.proofs.RefutingLemmas.{meant_no, meant_yes}
use Rattle.mcs_classical.proofs.consequence.counterexample_in.Goals as goal

pub true_places-requires-clause-values : goal.true_places-requires-clause-values
true_places-requires-clause-values c =
    let settled : IsSettledAnswer c.push_goal.new.known (Some c.in-Some.values) = subst (IsSettledAnswer c.push_goal.new.known) c.in-Some.is c.in_ok-values.ensures.exact in
    let known : c.args.known.now.vars ≤ c.push_goal.new.known.vars = grown_fewer c.args.given.now.asked.now.atoms.now c.args.known.now c.push_goal.new.known ((Not (formula_of c.args.goal.now)) ∷ [], c.in_ok-push_goal.ensures.ok) in
    omega (arith, settled.0)

pub cut-requires-clause-fewer : goal.cut-requires-clause-fewer
cut-requires-clause-fewer c =
    let pushed = c.satisfy-found.ensures.same ∙ c.in_ok-push_goal.ensures.ok in
    let known : c.args.known.now.vars ≤ c.satisfy-found.new.self.vars = grown_fewer c.args.given.now.asked.now.atoms.now c.args.known.now c.satisfy-found.new.self ((Not (formula_of c.args.goal.now)) ∷ [], pushed) in
    omega arith

pub cut-requires-clause-within : goal.cut-requires-clause-within
cut-requires-clause-within c =
    let pushed = c.satisfy-found.ensures.same ∙ c.in_ok-push_goal.ensures.ok in
    subst (λ (k : ℕ). AllByRecursion (IsWithin c.vars-vars.result) (take k c.satisfy-found.new.self.clauses)) (sym c.count-count.ensures)
    (subst (λ (n : ℕ). AllByRecursion (IsWithin n) (take (length c.args.known.now.clauses) c.satisfy-found.new.self.clauses)) (sym c.vars-vars.ensures.value)
    (grown_within c.args.given.now.asked.now.atoms.now c.args.known.now c.satisfy-found.new.self ((Not (formula_of c.args.goal.now)) ∷ [], pushed) c.vars-vars.ensures.kept))

pub returns-in-Some-clause-exact : goal.returns-in-Some-clause-exact
returns-in-Some-clause-exact c = λ fs meant.
    let names = c.args.given.now.asked.now.atoms.now in
    let g = formula_of c.args.goal.now in
    let f = c.push_goal.new.known in
    let settled : IsSettledAnswer f (Some c.in-Some.values) = subst (IsSettledAnswer f) c.in-Some.is c.in_ok-values.ensures.exact in
    meant_no fs g names f c.in-Some.values.items c.deref.result.now c.true_places.result c.args.given.now.different (adds_formula names (Not g) c.args.known.now f c.vars-vars.ensures.kept c.requires.goal c.in_ok-push_goal.ensures.ok fs meant) settled.1
    c.deref.ensures.value c.true_places.ensures

pub returns-in-None-clause-exact : goal.returns-in-None-clause-exact
returns-in-None-clause-exact c = λ fs meant.
    let names = c.args.given.now.asked.now.atoms.now in
    let g = formula_of c.args.goal.now in
    let f = c.push_goal.new.known in
    let none : IsSettledAnswer f None = subst (IsSettledAnswer f) c.in-None.is c.in_ok-values.ensures.exact in
    meant_yes fs g names f (adds_formula names (Not g) c.args.known.now f c.vars-vars.ensures.kept c.requires.goal c.in_ok-push_goal.ensures.ok fs meant) none

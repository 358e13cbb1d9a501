use Rattle.std.proofs.Common.{◌≡◌, ◌∙◌, [], length, map, ap, arith, rules}
use Rattle.std.proofs.lemmas.Bool.Decides.{nat_tests}
use Rattle.std.proofs.lemmas.Grind.{common_steps}
use Rattle.std.proofs.lemmas.Result.{IfOk-weaker}
use Rattle.mcs_system.specs.Plain.{Classical, DefaultTheory}
use Rattle.mcs_system.specs.Logic.{with_heads}
use Rattle.mcs_system.specs.Seen.{formula_of, item_of}
use Rattle.mcs_classical.proofs.ConsequenceLemmas.{assumed_over}
use Rattle.mcs_asking.specs.Certificates.{IsAcceptedFor}
use Rattle.mcs_solver.specs.Questions.{asked_names, asked_beliefs, asked_heads}
use Rattle.mcs_solver.proofs.ViewLemmas.{no_beliefs}
use Rattle.mcs_solver.proofs.FactLemmas.{views_of_facts, none_wanted}
use Rattle.mcs_solver.proofs.views.theory_views.Goals as goal

pub extensions_from-requires-clause-added : goal.extensions_from-requires-clause-added
extensions_from-requires-clause-added c =
    let q = c.args.question.now in
    let told : map (λ f. formula_of f.now) c.deref.result.now ≡ asked_heads q = ap (map (λ f. formula_of f.now)) c.deref.ensures.value ∙ c.in_ok-heads.ensures in
    rw told (assumed_over (asked_names q) q.rules q.given.now.assumptions.now q.given.now.over)

-- asked for no belief, a theory without defaults has the one view
pub returns-then-branch-clause-exact : goal.returns-then-branch-clause-exact
returns-then-branch-clause-exact c =
    let q = c.args.question.now in
    let empty : length q.given.now.asked.now.beliefs.now ≡ 0 = grind (arith, nat_tests, common_steps, c.is_empty.ensures, c.if-is_empty.true) in
    let none : asked_beliefs q ≡ [] = no_beliefs (λ f. formula_of f.now) q.given.now.asked.now.beliefs.now empty in
    rw none (IfOk-weaker c.view_of_nothing.result _ _ (λ r all. views_of_facts (map item_of c.args.items.now) (asked_heads q) r.0.items (c.in_ok-has_no_defaults.ensures.0 c.if-branch.true) all) c.view_of_nothing.ensures.exact)

pub returns-then-branch-clause-certified : goal.returns-then-branch-clause-certified
returns-then-branch-clause-certified c =
    let q = c.args.question.now in
    let kb = with_heads (DefaultTheory (map item_of c.args.items.now)) (asked_heads q) in
    IfOk-weaker c.view_of_nothing.result _ _ (λ r all. none_wanted q.certify (IsAcceptedFor [] (Classical []) [] r.0.items) (IsAcceptedFor (asked_names q) kb (asked_beliefs q) r.0.items) r.1 (search rules) (all [] []))
    c.view_of_nothing.ensures.certified

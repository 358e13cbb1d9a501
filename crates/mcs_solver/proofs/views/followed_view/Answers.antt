use Rattle.std.proofs.Common.{map, refl}
use Rattle.std.proofs.lemmas.Result.{IfOk-weaker}
use Rattle.mcs_system.specs.Seen.{formula_of}
use Rattle.mcs_cnf.proofs.EntailmentLemmas.{one_view}
use Rattle.mcs_classical.specs.Consequences.{with_assumed}
use Rattle.mcs_solver.specs.Questions.{asked_names, asked_beliefs, heads_with}
use Rattle.mcs_solver.proofs.KindLemmas.{still_made}
use Rattle.mcs_solver.proofs.views.followed_view.Goals as goal

pub following-view-requires : goal.following-view-requires
following-view-requires c = (c.in_ok-clauses.ensures.made (heads_with c.args.question.now) c.requires.made).0.room

pub returns-clause-made : goal.returns-clause-made
returns-clause-made c =
    let q = c.args.question.now in
    let fs = map formula_of c.args.formulas.now in
    still_made (asked_names q) fs (asked_beliefs q) q.given.now.assumptions.now _ c.in_ok-clauses.clauses _ c.in_ok-clauses.found c.following-view.ensures.kept
    (λ meant. c.following-view.ensures.right fs meant) (c.in_ok-clauses.ensures.made (heads_with q) c.requires.made)

pub returns-clause-exact : goal.returns-clause-exact
returns-clause-exact c =
    let q = c.args.question.now in
    let fs = map formula_of c.args.formulas.now in
    let made = c.in_ok-clauses.ensures.made (heads_with q) c.requires.made in
    IfOk-weaker c.following-view.result _ _ (λ view h. one_view (with_assumed fs q.given.now.assumptions.now q.rules) (asked_beliefs q) view (h fs made.0 (made.1 q.given.now.assumptions.now (λ rules. refl)))) c.following-view.ensures.exact

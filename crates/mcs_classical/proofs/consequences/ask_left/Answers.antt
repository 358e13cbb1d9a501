use Rattle.std.proofs.Common.{◌≤◌, length, map, refl, sym, subst, ◌∙◌, arith}
use Rattle.std.proofs.lemmas.List.{length-map}
use Rattle.mcs_system.specs.Seen.{formula_of}
use Rattle.mcs_meant.specs.Meanings.{AreMeantBy}
use Rattle.mcs_classical.specs.Consequences.{with_assumed}
use Rattle.mcs_classical.proofs.ConsequenceLemmas.{told_all, told_already}
use Rattle.mcs_classical.proofs.consequences.ask_left.Goals as goal
use Rattle.mcs_classical.proofs.consequences.ask_left.Goals.{then-has+in_ok-answer, else-has}

pub loop-place-init : goal.loop-place-init
loop-place-init c = record { kept = refl; right = λ fs set meant all. all; told = λ fs meant told. told }

pub loop-place-preserved : goal.loop-place-preserved
loop-place-preserved c =
    let gs = map (λ g. formula_of g.now) c.args.given.now.asked.now.beliefs.now in
    let before = c.loop-place.invariant in
    elim c.if-has.branch [
      | then-has+in_ok-answer w ↦ record {
        kept = w.known-is ∙ w.in_ok-answer.ensures.search.kept ∙ before.kept;
        right = λ fs set meant all. rw w.upper-is (w.in_ok-answer.ensures.search.right fs set (subst (AreMeantBy c.args.given.now.asked.now.atoms.now (with_assumed fs c.args.given.now.assumptions.now set)) (sym before.kept) meant) (before.right fs set meant all));
        told = λ fs meant told. rw w.told-is (w.with_answer-told.ensures fs gs (w.in_ok-answer.ensures.answer fs (subst (AreMeantBy c.args.given.now.asked.now.atoms.now fs) (sym before.kept) meant)) (before.told fs meant told));
      }
      | else-has w ↦ record {
        kept = w.known-is ∙ before.kept;
        right = λ fs set meant all. rw w.upper-is (before.right fs set meant all);
        told = λ fs meant told. told_already fs gs c.loop-place.place c.loop-place.told c.if-has.told w.told-is (sym c.has.ensures.value ∙ w.if-has.false) (before.told fs meant told);
      }
    ]

pub returns-clause-exact : goal.returns-clause-exact
returns-clause-exact c = λ fs meant told.
    let gs = map (λ g. formula_of g.now) c.args.given.now.asked.now.beliefs.now in
    let past : length gs ≤ c.loop-place.place = omega (arith, length-map c.args.given.now.asked.now.beliefs.now (λ g. formula_of g.now), c.loop-place-test.false) in
    told_all fs gs c.loop-place.place c.loop-place.told past (c.loop-place.invariant.told fs meant told)

pub returns-in_err-answer-clause-search : goal.returns-in_err-answer-clause-search
returns-in_err-answer-clause-search c =
    let before = c.loop-place.invariant in record {
      kept = c.in_err-answer.ensures.search.kept ∙ before.kept;
      right = λ fs set meant all. c.in_err-answer.ensures.search.right fs set (subst (AreMeantBy c.args.given.now.asked.now.atoms.now (with_assumed fs c.args.given.now.assumptions.now set)) (sym before.kept) meant) (before.right fs set meant all);
    }

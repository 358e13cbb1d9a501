use Rattle.std.proofs.Common.{List, map, sym, ◌∙◌, arith}
use Rattle.std.proofs.lemmas.List.{length-map}
use Rattle.mcs_system.specs.Plain.{Name, Formula, Atom}
use Rattle.mcs_system.specs.Logic.{true_names}
use Rattle.mcs_entailment.proofs.General.{gathered_none, gathered_taken, gathered_passed}
use Rattle.mcs_answer_sets.proofs.ModelLemmas.{IsBelievedAt, believed, not_believed, view_all}
use Rattle.mcs_answer_sets.proofs.program.view_of.Goals.{then-is_true_at, else-is_true_at}
use Rattle.mcs_answer_sets.proofs.program.view_of.Goals as goal

pub loop-k-init : goal.loop-k-init
loop-k-init c = gathered_none (IsBelievedAt (true_names 0 c.args.program.now.atoms.now c.args.places) (map Atom (map (λ b. b.now) c.args.program.now.beliefs.now))) c.empty-view.result c.empty-view.ensures

pub loop-k-preserved : goal.loop-k-preserved
loop-k-preserved c =
    let k = c.loop-k.k in
    let a : List Name = true_names 0 c.args.program.now.atoms.now c.args.places in
    let fs : List Formula = map Atom (map (λ b. b.now) c.args.program.now.beliefs.now) in
    elim c.if-is_true_at.branch [
      | then-is_true_at w ↦ rw (w.view-is, w.with-view.ensures)
          (gathered_taken (IsBelievedAt a fs) c.loop-k.view k c.loop-k.invariant (believed a c.args.program.now.beliefs.now k c.index-beliefs-k.result c.loop-k-test.true c.index-beliefs-k.is (sym c.is_true_at.ensures ∙ w.if-is_true_at.true)))
      | else-is_true_at w ↦ rw w.view-is
          (gathered_passed (IsBelievedAt a fs) c.loop-k.view k c.loop-k.invariant (not_believed a c.args.program.now.beliefs.now k c.index-beliefs-k.result c.loop-k-test.true c.index-beliefs-k.is (sym c.is_true_at.ensures ∙ w.if-is_true_at.false)))
    ]

pub returns : goal.returns
returns c =
    view_all (true_names 0 c.args.program.now.atoms.now c.args.places) (map Atom (map (λ b. b.now) c.args.program.now.beliefs.now)) c.loop-k.view c.loop-k.k
    (omega (arith, length-map (map (λ b. b.now) c.args.program.now.beliefs.now) Atom, length-map c.args.program.now.beliefs.now (λ b. b.now), c.loop-k-test.false)) c.loop-k.invariant

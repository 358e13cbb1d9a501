use Rattle.std.proofs.Common.{◌≡◌, true, false, ◌∙◌, sym}
use Rattle.mcs_sets.specs.Sets.{has}
use Rattle.mcs_base.proofs.Mapped.{image_each_read}
use Rattle.mcs_system.specs.Seen.{default_of}
use Rattle.mcs_cnf.proofs.ListLemmas.{room_kept}
use Rattle.mcs_evidence.specs.Theories.{IsOverDefault}
use Rattle.mcs_default.proofs.General.{consequents_in, consequents_out, consequents_all}
use Rattle.mcs_default.proofs.theory.push_consequents.Goals.{then-has+in_ok-push_formula, else-has}
use Rattle.mcs_default.proofs.theory.push_consequents.Goals as goal

pub push_formula-requires-clause-over : goal.push_formula-requires-clause-over
push_formula-requires-clause-over c =
    (image_each_read (IsOverDefault c.args.theory.now.asked.now.atoms.now) (λ d. default_of d.now) c.args.theory.now.defaults.now c.loop-index.index c.index-defaults-index.result c.loop-index-test.true c.index-defaults-index.is c.args.theory.now.over).2

pub loop-index-preserved : goal.loop-index-preserved
loop-index-preserved c =
    let names = c.args.theory.now.asked.now.atoms.now in
    let i = c.loop-index.index in
    elim c.if-has.branch [
      | then-has+in_ok-push_formula w ↦
          let member : has c.args.set i ≡ true = sym c.has.ensures.value ∙ w.if-has.true in
          rw w.known-is (record {
            all = consequents_in (λ d. default_of d.now) names c.args.theory.now.defaults.now c.args.set i c.index-defaults-index.result c.args.known.now c.loop-index.known w.push_formula.new.cnf c.loop-index-test.true c.index-defaults-index.is member c.loop-index.invariant.all w.in_ok-push_formula.ensures.ok;
            room = room_kept names c.loop-index.known w.push_formula.new.cnf (default_of c.index-defaults-index.result.now).conclusion c.loop-index.invariant.room w.in_ok-push_formula.ensures.ok;
          })
      | else-has w ↦
          let member : has c.args.set i ≡ false = sym c.has.ensures.value ∙ w.if-has.false in
          rw w.known-is (record {
            all = consequents_out (λ d. default_of d.now) names c.args.theory.now.defaults.now c.args.set i c.index-defaults-index.result c.args.known.now c.loop-index.known c.loop-index-test.true c.index-defaults-index.is member c.loop-index.invariant.all;
            room = c.loop-index.invariant.room;
          })
    ]

pub returns : goal.returns
returns c = consequents_all (λ d. default_of d.now) c.args.theory.now.asked.now.atoms.now c.args.theory.now.defaults.now c.args.set c.loop-index.index c.args.known.now c.loop-index.known c.loop-index-test.false c.loop-index.invariant.all

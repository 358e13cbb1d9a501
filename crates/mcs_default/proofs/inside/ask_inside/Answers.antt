use Rattle.std.proofs.Common.{◌≡◌, ◌∙◌, true, false, List, map, refl, sym, ap, subst}
use Rattle.mcs_sets.specs.Sets.{has}
use Rattle.mcs_base.proofs.Mapped.{image_each_read, slice_get-map_read}
use Rattle.mcs_system.specs.Seen.{default_of, formula_of}
use Rattle.mcs_system.specs.declared.formula.Formula.{Formula}
use Rattle.mcs_cnf.specs.ClauseLists.{AreOver}
use Rattle.mcs_evidence.specs.Defaults.{negated_justs}
use Rattle.mcs_grounding.specs.Theories.{AreClausesOf}
use Rattle.mcs_evidence.specs.Theories.{IsOverDefault}
use Rattle.mcs_evidence.proofs.Picked.{picked_out}
use Rattle.mcs_default.specs.Told.{IsToldOfJusts}
use Rattle.mcs_grounding.proofs.DeniedLemmas.{denied_same}
use Rattle.mcs_default.proofs.AskLemmas.{inside_more, justs_told}
use Rattle.mcs_default.proofs.inside.ask_inside.Goals.{then-has+in_ok-justs+in-Allowed+in_ok-append-in-Allowed, else-has}
use Rattle.mcs_default.proofs.inside.ask_inside.Goals as goal

pub ask_justs-requires-clause-over : goal.ask_justs-requires-clause-over
ask_justs-requires-clause-over c =
    subst (λ (js : List Formula). AreOver c.args.theory.now.asked.now.atoms.now (map formula_of js)) (sym c.deref.ensures.value)
    (image_each_read (IsOverDefault c.args.theory.now.asked.now.atoms.now) (λ d. default_of d.now) c.args.theory.now.defaults.now c.loop-index.index c.index-defaults-index.result c.loop-index-test.true c.index-defaults-index.is c.args.theory.now.over).1

pub returns-in-Blocked : goal.returns-in-Blocked
returns-in-Blocked c = record {
  kept = c.ask_justs.ensures.kept ∙ c.loop-index.invariant.kept;
  told = λ fs is. (let names = c.args.theory.now.asked.now.atoms.now in
      let i = c.loop-index.index in
      let x = c.index-defaults-index.result in
      let member : has c.args.set i ≡ true = sym c.has.ensures.value ∙ c.if-has.true in
      let now : AreClausesOf names fs c.loop-index.known = rw c.loop-index.invariant.kept is in
      let told = subst (IsToldOfJusts names fs (map formula_of x.now.justs.items)) c.in-Blocked.is (justs_told names fs c.deref.result.now x.now.justs.items c.in_ok-justs.field-0 c.deref.ensures.value (c.in_ok-justs.ensures.told fs now)) in
      (i, default_of x.now, member, slice_get-map_read (λ d. default_of d.now) c.args.theory.now.defaults.now i x c.loop-index-test.true c.index-defaults-index.is, (refl, told)));
}

pub loop-index-preserved : goal.loop-index-preserved
loop-index-preserved c =
    let names = c.args.theory.now.asked.now.atoms.now in
    let i = c.loop-index.index in
    let x = c.index-defaults-index.result in
    elim c.if-has.branch [
      | then-has+in_ok-justs+in-Allowed+in_ok-append-in-Allowed w ↦
          let member : has c.args.set i ≡ true = sym c.has.ensures.value ∙ w.if-has.true in
          rw (w.known-is, w.allowed-is) (record {
            kept = w.ask_justs.ensures.kept ∙ c.loop-index.invariant.kept;
            denied = λ fs is. (let now : AreClausesOf names fs c.loop-index.known = rw c.loop-index.invariant.kept is in
                let told = subst (IsToldOfJusts names fs (map formula_of x.now.justs.items)) w.in-Allowed.is (justs_told names fs w.deref.result.now x.now.justs.items w.in_ok-justs.field-0 w.deref.ensures.value (w.in_ok-justs.ensures.told fs now)) in
                inside_more (λ d. default_of d.now) names fs c.args.theory.now.defaults.now c.args.set i x c.loop-index.allowed.items w.in-Allowed.justs.items w.append.new.self.items c.loop-index-test.true c.index-defaults-index.is member w.in_ok-append-in-Allowed.ensures.items told (c.loop-index.invariant.denied fs is));
          })
      | else-has w ↦
          let member : has c.args.set i ≡ false = sym c.has.ensures.value ∙ w.if-has.false in
          rw (w.known-is, w.allowed-is) (record {
            kept = c.loop-index.invariant.kept;
            denied = λ fs is. denied_same names fs _ _ _ _ (sym (ap negated_justs (picked_out (λ d. default_of d.now) c.args.theory.now.defaults.now c.args.set i x c.loop-index-test.true c.index-defaults-index.is member))) refl (c.loop-index.invariant.denied fs is);
          })
    ]

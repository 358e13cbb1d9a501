use Rattle.std.proofs.Common.{◌≡◌, ◌+◌, ◌<◌, ◌∙◌, true, false, List, length, map, refl, sym, subst, arith}
use Rattle.std.specs.List.{AllZip}
use Rattle.std.proofs.lemmas.List.{length-map}
use Rattle.mcs_sets.specs.Sets.{has, minus, members_from}
use Rattle.mcs_base.proofs.Mapped.{image_each_read, slice_get-map_read}
use Rattle.mcs_system.specs.Plain.{Default}
use Rattle.mcs_system.specs.Seen.{default_of}
use Rattle.mcs_trace.specs.declared.certificate.Outside.{Outside}
use Rattle.mcs_evidence.specs.Defaults.{absence_of}
use Rattle.mcs_grounding.specs.Theories.{AreClausesOf}
use Rattle.mcs_evidence.specs.Theories.{IsOverDefault, all_of}
use Rattle.mcs_default.specs.Told.{IsToldOfDefault, IsAbsentAt}
use Rattle.mcs_default.proofs.AskLemmas.{absent_more, absent_same, absent_all, absent_none}
use Rattle.mcs_default.proofs.outside.ask_outside.Goals.{then-not-has+in_ok-absence+in-Absent+in_ok-push-in-Absent, else-not-has}
use Rattle.mcs_default.proofs.outside.ask_outside.Goals as goal

pub loop-index-init : goal.loop-index-init
loop-index-init c = record {
  kept = refl;
  bound = omega arith;
  absent = λ fs is. (let ds = map (λ d. default_of d.now) c.args.theory.now.defaults.now in
      subst (λ (os : List Outside). AllZip (IsAbsentAt c.args.theory.now.asked.now.atoms.now fs ds) (members_from 0 0 (minus (all_of ds) c.args.set)) (map absence_of os)) (sym c.new-absent.ensures.items) (absent_none c.args.theory.now.asked.now.atoms.now fs ds (minus (all_of ds) c.args.set)));
}

pub ask_default-requires-clause-over : goal.ask_default-requires-clause-over
ask_default-requires-clause-over c =
    image_each_read (IsOverDefault c.args.theory.now.asked.now.atoms.now) (λ d. default_of d.now) c.args.theory.now.defaults.now c.loop-index.index c.index-defaults-index.result c.loop-index-test.true c.index-defaults-index.is c.args.theory.now.over

pub returns-in-Applies : goal.returns-in-Applies
returns-in-Applies c = record {
  kept = c.ask_default.ensures.kept ∙ c.loop-index.invariant.kept;
  told = λ fs is. (let names = c.args.theory.now.asked.now.atoms.now in
      let i = c.loop-index.index in
      let x = c.index-defaults-index.result in
      let out : has c.args.set i ≡ false = sym c.has.ensures.value ∙ c.if-not-has.true in
      let now : AreClausesOf names fs c.loop-index.known = rw c.loop-index.invariant.kept is in
      let told = subst (IsToldOfDefault names fs (default_of x.now) (i + 1)) c.in-Applies.is (c.in_ok-absence.ensures.told fs now) in
      (i, default_of x.now, refl, out, slice_get-map_read (λ d. default_of d.now) c.args.theory.now.defaults.now i x c.loop-index-test.true c.index-defaults-index.is, told));
}

pub loop-index-preserved : goal.loop-index-preserved
loop-index-preserved c =
    let names = c.args.theory.now.asked.now.atoms.now in
    let i = c.loop-index.index in
    let x = c.index-defaults-index.result in
    let ds : List Default = map (λ d. default_of d.now) c.args.theory.now.defaults.now in
    let less : i < length ds = omega (arith, length-map c.args.theory.now.defaults.now (λ d. default_of d.now), c.loop-index-test.true) in
    elim c.if-not-has.branch [
      | then-not-has+in_ok-absence+in-Absent+in_ok-push-in-Absent w ↦
          let out : has c.args.set i ≡ false = sym c.has.ensures.value ∙ w.if-not-has.true in
          rw (w.known-is, w.absent-is) (record {
            kept = w.ask_default.ensures.kept ∙ c.loop-index.invariant.kept;
            bound = omega (arith, c.loop-index-test.true);
            absent = λ fs is. (let now : AreClausesOf names fs c.loop-index.known = rw c.loop-index.invariant.kept is in
                let told = subst (IsToldOfDefault names fs (default_of x.now) (i + 1)) w.in-Absent.is (w.in_ok-absence.ensures.told fs now) in
                absent_more names fs ds c.args.set i (default_of x.now) c.loop-index.absent.items w.push.new.self.items w.in-Absent.absence less (slice_get-map_read (λ d. default_of d.now) c.args.theory.now.defaults.now i x c.loop-index-test.true c.index-defaults-index.is) out w.in_ok-push-in-Absent.ensures.items told (c.loop-index.invariant.absent fs is));
          })
      | else-not-has w ↦
          let member : has c.args.set i ≡ true = sym c.has.ensures.value ∙ w.if-not-has.false in
          rw (w.known-is, w.absent-is) (record {
            kept = c.loop-index.invariant.kept;
            bound = omega (arith, c.loop-index-test.true);
            absent = λ fs is. absent_same names fs ds c.args.set i (map absence_of c.loop-index.absent.items) less member (c.loop-index.invariant.absent fs is);
          })
    ]

pub returns : goal.returns
returns c = record {
  kept = c.loop-index.invariant.kept;
  told = λ fs is. (let ds : List Default = map (λ d. default_of d.now) c.args.theory.now.defaults.now in
      let all : c.loop-index.index ≡ length ds = omega (arith, length-map c.args.theory.now.defaults.now (λ d. default_of d.now), c.loop-index-test.false, c.loop-index.invariant.bound) in
      absent_all c.args.theory.now.asked.now.atoms.now fs ds c.args.set c.loop-index.index (map absence_of c.loop-index.absent.items) all (c.loop-index.invariant.absent fs is));
}

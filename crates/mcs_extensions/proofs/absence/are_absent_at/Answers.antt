use Rattle.std.proofs.Common.{◌∙◌, ◌+◌, ℕ, List, map, get_or, refl, sym, subst, arith}
use Rattle.std.proofs.lemmas.List.{get_or_default, map-id}
use Rattle.std.specs.List.{AllZip}
use Rattle.mcs_base.proofs.Booleans.{false_tells, true_tells}
use Rattle.mcs_system.specs.Seen.{formula_of}
use Rattle.mcs_evidence.specs.Defaults.{Absence, absence_of, IsAbsent}
use Rattle.mcs_entailment.proofs.General.{go_start, go_on, go_stop, go_end}
use Rattle.mcs_base.proofs.Zipped.{zip_short}
use Rattle.mcs_asked.specs.Questions.{theory_names, theory_items}
use Rattle.std.proofs.lemmas.Bool.{iff_false}
use Rattle.mcs_extensions.proofs.absence.are_absent_at.Goals as goal

pub returns-then-places-absences-clause-exact : goal.returns-then-places-absences-clause-exact
returns-then-places-absences-clause-exact c =
    let R : ℕ → Absence → Type 0 = λ k absence. IsAbsent (theory_names c.args.theory.now) (theory_items c.args.theory.now) (map (λ f. formula_of f.now) c.args.premises.now) (k + 1) absence in
    false_tells (λ all. zip_short R (λ (k : ℕ). k) absence_of c.args.places.now c.args.absences.now c.if-places-absences.true
    (subst (λ (ks : List ℕ). AllZip R ks (map absence_of c.args.absences.now)) (sym (map-id c.args.places.now)) all))

pub loop-index-init : goal.loop-index-init
loop-index-init c = record {
  kept = refl;
  rest = go_start (λ k absence. IsAbsent (theory_names c.args.theory.now) (theory_items c.args.theory.now) (map (λ f. formula_of f.now) c.args.premises.now) (k + 1) absence) (λ (k : ℕ). k) absence_of c.args.places.now c.args.absences.now;
}

pub is_absent-requires : goal.is_absent-requires
is_absent-requires c = c.loop-index.invariant.kept ∙ c.requires.made

pub loop-index-preserved : goal.loop-index-preserved
loop-index-preserved c =
    let i = c.loop-index.index in
    let k : ℕ = get_or c.args.places.now i 0 in
    record {
      kept = c.in_ok-absent.ensures.kept ∙ c.loop-index.invariant.kept;
      rest = go_on (λ k absence. IsAbsent (theory_names c.args.theory.now) (theory_items c.args.theory.now) (map (λ f. formula_of f.now) c.args.premises.now) (k + 1) absence) (λ (k : ℕ). k) absence_of c.args.places.now c.args.absences.now i k c.index-absences-index.result
          c.loop-index-test.true (omega arith) (get_or_default c.args.places.now i 0 k c.loop-index-test.true) c.index-absences-index.is c.loop-index.invariant.rest (c.in_ok-absent.ensures.exact.0 c.if-not-absent.false);
    }

pub returns-then-not-absent-clause-exact : goal.returns-then-not-absent-clause-exact
returns-then-not-absent-clause-exact c =
    let i = c.loop-index.index in
    let k : ℕ = get_or c.args.places.now i 0 in
    let R : ℕ → Absence → Type 0 = λ k absence. IsAbsent (theory_names c.args.theory.now) (theory_items c.args.theory.now) (map (λ f. formula_of f.now) c.args.premises.now) (k + 1) absence in
    false_tells (λ all. go_stop R (λ (k : ℕ). k) absence_of c.args.places.now c.args.absences.now i k c.index-absences-index.result
    c.loop-index-test.true (omega arith) (get_or_default c.args.places.now i 0 k c.loop-index-test.true) c.index-absences-index.is c.loop-index.invariant.rest (iff_false c.in_ok-absent.ensures.exact c.if-not-absent.true)
    (subst (λ (ks : List ℕ). AllZip R ks (map absence_of c.args.absences.now)) (sym (map-id c.args.places.now)) all))

pub returns-clause-exact : goal.returns-clause-exact
returns-clause-exact c =
    let R : ℕ → Absence → Type 0 = λ k absence. IsAbsent (theory_names c.args.theory.now) (theory_items c.args.theory.now) (map (λ f. formula_of f.now) c.args.premises.now) (k + 1) absence in
    true_tells (subst (λ (ks : List ℕ). AllZip R ks (map absence_of c.args.absences.now)) (map-id c.args.places.now)
    (go_end R (λ (k : ℕ). k) absence_of c.args.places.now c.args.absences.now c.loop-index.index c.loop-index-test.false c.if-places-absences.false c.loop-index.invariant.rest))

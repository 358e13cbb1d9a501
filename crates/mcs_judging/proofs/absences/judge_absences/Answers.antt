use Rattle.std.proofs.Common.{◌∙◌, ◌<◌, ◌+◌, ◌∷◌, [], List, ℕ, true, map, refl, sym, subst}
use Rattle.std.specs.List.{AllByRecursion}
use Rattle.mcs_system.specs.Plain.{Formula}
use Rattle.mcs_system.specs.Seen.{formula_of}
use Rattle.mcs_evidence.specs.Defaults.{IsAbsent}
use Rattle.mcs_extensions.specs.Checks.{AreAbsent}
use Rattle.mcs_proof_lines.specs.Walks.{absence_of_place, each_at}
use Rattle.mcs_asked.specs.Questions.{theory_names, theory_items}
use Rattle.mcs_judging.proofs.Ways.{IsOnTheWay, way_begins, way_on, way_ends, way_fails, each_next, each_failed}
use Rattle.mcs_judging.proofs.AbsenceLemmas.{place_told}
use Rattle.mcs_judging.proofs.absences.judge_absences.Goals as goal

pub loop-place-init : goal.loop-place-init
loop-place-init c =
    let fs : List Formula = map (λ f. formula_of f.now) c.args.premises.now in
    let are = AreAbsent (theory_names c.args.reading.now.theory.now) (theory_items c.args.reading.now.theory.now) fs in
    let p = absence_of_place c.args.reading.now.terms.now.atoms.now c.args.reading.now.terms.now.justs.now in
    let gives = c.into_iter-place-iterator.ensures.into_iter_gives in
    record {
      kept = refl;
      below = subst (AllByRecursion (λ k. k < 64)) (sym gives) c.requires.places;
      way = subst (λ (ks : List ℕ). IsOnTheWay (are c.args.places) (are ks) true (each_at p c.args.places c.args.lines.now) (each_at p ks c.args.lines.now)) (sym gives) (way_begins (are c.args.places) true (each_at p c.args.places c.args.lines.now) refl);
    }

pub judge_absence-requires : goal.judge_absence-requires
judge_absence-requires c = record { made = c.loop-place.invariant.kept ∙ c.requires.made }

pub loop-place-preserved : goal.loop-place-preserved
loop-place-preserved c =
    let fs : List Formula = map (λ f. formula_of f.now) c.args.premises.now in
    let are = AreAbsent (theory_names c.args.reading.now.theory.now) (theory_items c.args.reading.now.theory.now) fs in
    let p = absence_of_place c.args.reading.now.terms.now.atoms.now c.args.reading.now.terms.now.justs.now in
    let k : ℕ = c.in-Some.place in
    let steps = c.in-Some.ensures.steps in
    let goal = each_at p c.args.places c.args.lines.now in
    let way = subst (λ (ks : List ℕ). IsOnTheWay (are c.args.places) (are ks) c.loop-place.are_right goal (each_at p ks c.loop-place.lines)) steps c.loop-place.invariant.way in
    let told = c.in-Ok.ensures.exact in
    record {
      kept = c.in-Ok.ensures.kept ∙ c.loop-place.invariant.kept;
      below = (subst (AllByRecursion (λ k. k < 64)) steps c.loop-place.invariant.below).1;
      way = way_on (are c.args.places) (are (k ∷ c.next.new.self)) (are c.next.new.self) c.loop-place.are_right c.both-are_right.result goal (each_at p (k ∷ c.next.new.self) c.loop-place.lines) (each_at p c.next.new.self c.judge_absence.new.lines) told.value
          (IsAbsent (theory_names c.args.reading.now.theory.now) (theory_items c.args.reading.now.theory.now) fs (k + 1) told.value) way (each_next p k c.next.new.self c.loop-place.lines c.judge_absence.new.lines told.value told.is)
          (place_told (theory_names c.args.reading.now.theory.now) (theory_items c.args.reading.now.theory.now) fs c.loop-place.are_right c.both-are_right.result c.is_told.result c.in-Ok.told k told.value told.fits c.is_told.ensures c.both-are_right.ensures) (λ xs. (λ h. h, λ h. h));
    }

pub returns-in-Err-clause-exact : goal.returns-in-Err-clause-exact
returns-in-Err-clause-exact c =
    let fs : List Formula = map (λ f. formula_of f.now) c.args.premises.now in
    let are = AreAbsent (theory_names c.args.reading.now.theory.now) (theory_items c.args.reading.now.theory.now) fs in
    let p = absence_of_place c.args.reading.now.terms.now.atoms.now c.args.reading.now.terms.now.justs.now in
    let goal = each_at p c.args.places c.args.lines.now in
    let way = subst (λ (ks : List ℕ). IsOnTheWay (are c.args.places) (are ks) c.loop-place.are_right goal (each_at p ks c.loop-place.lines)) c.in-Some.ensures.steps c.loop-place.invariant.way in
    way_fails (are c.args.places) (are (c.in-Some.place ∷ c.next.new.self)) c.loop-place.are_right goal (each_at p (c.in-Some.place ∷ c.next.new.self) c.loop-place.lines) c.in-Err.fault way
    (each_failed p c.in-Some.place c.next.new.self c.loop-place.lines c.in-Err.fault c.in-Err.ensures.exact)

pub returns-clause-exact : goal.returns-clause-exact
returns-clause-exact c =
    let fs : List Formula = map (λ f. formula_of f.now) c.args.premises.now in
    let are = AreAbsent (theory_names c.args.reading.now.theory.now) (theory_items c.args.reading.now.theory.now) fs in
    let p = absence_of_place c.args.reading.now.terms.now.atoms.now c.args.reading.now.terms.now.justs.now in
    let goal = each_at p c.args.places c.args.lines.now in
    let way = subst (λ (ks : List ℕ). IsOnTheWay (are c.args.places) (are ks) c.loop-place.are_right goal (each_at p ks c.loop-place.lines)) c.in-None.ensures.steps.0 c.loop-place.invariant.way in
    way_ends (are c.args.places) (are []) c.loop-place.are_right c.loop-place.are_right goal (each_at p [] c.loop-place.lines) c.loop-place.lines way refl (λ t. (t, tt), λ t. t.0)

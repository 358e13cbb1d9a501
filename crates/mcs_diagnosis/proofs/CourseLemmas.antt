-- Level 0 tells whether the system is consistent.
use Rattle.std.proofs.Common.{◌≡◌, ◌≢◌, ℕ, ◌+◌, ◌<◌, ◌≤◌, suc, Bool, true, false, not, eqb, List, [], ◌∷◌, length, refl, sym, ap, ◌∙◌, subst, inl, inr, ◌↔◌, arith, true≢false}
use Rattle.std.proofs.lemmas.Bool.Decides.{nat_tests}
use Rattle.mcs_sets.proofs.Lattice.{size-none, none_from_size}
use Rattle.mcs_sets.specs.Orders.{PairBefore}
use Rattle.mcs_base.specs.Listings.{IsAmong, IsListing}
use Rattle.mcs_system.specs.Plain.{System}
use Rattle.mcs_system.specs.Repairs.{IsDiagnosis}
use Rattle.mcs_system.specs.Systems.{IsConsistent}
use Rattle.mcs_laws.proofs.Choices.{consistent_minimal, consistent_where_nothing}
use Rattle.mcs_states.specs.Evaluators.{EvaluatorState, KeepsRest}
use Rattle.mcs_diagnosis.specs.declared.diagnosis.Diagnosis as code
use Rattle.mcs_diagnosis.specs.Courses.{Course, IsCourse, IsPast}
use Rattle.mcs_diagnosis.specs.Diagnoses.{IsDiagnosisOfSize, ShowsFirstState}

pub found_consistent : (m : System) (level : ℕ) (ps : List ℕ) → level ≡ 0 → IsListing (IsDiagnosisOfSize m level) PairBefore ps → ps ≢ [] → IsConsistent m
found_consistent m level [] e l some = absurd (some refl)
found_consistent m level (p ∷ ps) e l some = let h = (l.exactly p).0 (inl refl) in consistent_where_nothing m (subst (IsDiagnosis m) (none_from_size p (h.1 ∙ e)) h.0.one)

pub consistent_found : (m : System) (level : ℕ) (ps : List ℕ) → level ≡ 0 → IsListing (IsDiagnosisOfSize m level) PairBefore ps → IsConsistent m → ps ≢ []
consistent_found m level ps e l c none =
    let among : IsAmong 0 ps = (l.exactly 0).1 ((consistent_minimal m c.equilibrium c.balanced 0).1 refl, size-none ∙ sym e) in
    subst (IsAmong 0) none among

next_course : (e e' : EvaluatorState) (system : System) (level : ℕ) (was now : Bool) → IsCourse e system level was → KeepsRest e e' → ¬ IsPast system level
    → (now ≡ true → IsConsistent system) → (IsConsistent system → now ≡ true) → IsCourse e' system (level + 1) now
next_course e e' system level was now c rest not_past knows tells = record {
  same = rest.system ∙ c.same;
  few = c.few;
  within = let last : level ≤ length system.bridges = (let within : ¬ (length system.bridges < level) = λ more. not_past (inl more) in omega (arith, within)) in omega arith;
  knows = knows;
  tells = λ _ h. tells h;
}

pub not_past : {E : Type 0} → (stands : E → EvaluatorState) (now view : Course E) (system : System) (result : Bool) → view ≡ now → (stands view.evaluator).system ≡ system → result ≡ false
    → (result ≡ true) ↔ IsPast (stands now.evaluator).system now.level → ¬ IsPast system view.level
not_past stands now view system result is same off exact past =
    let past' : IsPast (stands view.evaluator).system view.level = subst (λ (m : System). IsPast m view.level) (sym same) past in
    let past'' : IsPast (stands now.evaluator).system now.level = subst (λ (c : Course _). IsPast (stands c.evaluator).system c.level) is past' in
    true≢false (sym (exact.1 past'') ∙ off)

-- what level 0 has, and what the code keeps of it
pub first_course : (e e' : EvaluatorState) (system m : System) (level : ℕ) (was now none : Bool) (ps : List ℕ) (count : ℕ) → IsCourse e system level was → KeepsRest e e' → ¬ IsPast system level
    → level ≡ 0 → m ≡ system → IsListing (IsDiagnosisOfSize m level) PairBefore ps → count ≡ length ps → none ≡ eqb count 0 → now ≡ not none → IsCourse e' system (level + 1) now
first_course e e' system m level was now none ps count c rest past first same found len empty is = next_course e e' system level was now c rest past
    (λ h. found_consistent system level ps first found' (λ e. some_kept h e))
    (λ h. decided ps refl (consistent_found system level ps first found' h))
  where
    found' : IsListing (IsDiagnosisOfSize system level) PairBefore ps
    found' = subst (λ (s : System). IsListing (IsDiagnosisOfSize s level) PairBefore ps) same found

    some_kept : now ≡ true → ps ≡ [] → ⊥
    some_kept h e = let none_there : length ps ≡ 0 = ap length e in let z : count ≡ 0 = omega arith in grind (arith, nat_tests)

    decided : (xs : List ℕ) → ps ≡ xs → ps ≢ [] → now ≡ true
    decided [] e some = absurd (some e)
    decided (x ∷ xs) e some = let more : length ps ≡ suc (length xs) = ap length e in let z : count ≢ 0 = omega arith in grind (arith, nat_tests)

pub later_course : (e e' : EvaluatorState) (system : System) (level : ℕ) (was now : Bool) → IsCourse e system level was → KeepsRest e e' → ¬ IsPast system level
    → level ≢ 0 → now ≡ eqb level 0 → IsCourse e' system (level + 1) now
later_course e e' system level was now c rest past later is = next_course e e' system level was now c rest past
    (λ h. absurd (grind (arith, nat_tests)))
    (λ h. absurd (past (inr (let more : 0 < level = omega arith in more, h))))

-- ---- a call that takes no level
-- what is kept beside the evaluator stays right
pub course_kept : (e e' : EvaluatorState) (system : System) (level : ℕ) (was : Bool) → IsCourse e system level was → KeepsRest e e' → IsCourse e' system level was
course_kept e e' system level was c rest = record { same = rest.system ∙ c.same; few = c.few; within = c.within; knows = c.knows; tells = c.tells }

-- the evaluator's system is the one that is kept
own_system : {E : Type 0} → (stands : E → EvaluatorState) (now view : Course E) (system : System) → view ≡ now → (stands view.evaluator).system ≡ system → (stands now.evaluator).system ≡ system
own_system stands now view system is same = subst (λ (c : Course _). (stands c.evaluator).system ≡ system) is same

pub own_diagnosis : {E : Type 0} → (stands : E → EvaluatorState) (now view : Course E) (system : System) (pair : ℕ) → view ≡ now → (stands view.evaluator).system ≡ system
    → IsDiagnosis (stands now.evaluator).system pair → IsDiagnosis system pair
own_diagnosis stands now view system pair is same d = subst (λ (m : System). IsDiagnosis m pair) (own_system stands now view system is same) d

pub own_shown : {E : Type 0} → (stands : E → EvaluatorState) (now view : Course E) (system : System) (d : code.Diagnosis) → view ≡ now → (stands view.evaluator).system ≡ system
    → ShowsFirstState system d → ShowsFirstState (stands now.evaluator).system d
own_shown stands now view system d is same shown = subst (λ (m : System). ShowsFirstState m d) (sym (own_system stands now view system is same)) shown

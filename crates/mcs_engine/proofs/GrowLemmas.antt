-- Literals that follow on a trail.
use Rattle.std.proofs.Common.{◌≡◌, ℕ, suc, ◌+◌, ◌^◌, ◌<◌, ◌≤◌, List, [], ◌∷◌, ◌++◌, ◌⊎◌, inl, inr, sym, ap, ◌∙◌, subst, arith, ℤ, neg_ℤ, unsigned_abs, length, length-append, Some, slice_get, append-nil, append_assoc}
use Rattle.std.specs.List.{AllByRecursion}
use Rattle.std.proofs.lemmas.Bool.{cases_lt}
use Rattle.std.proofs.lemmas.List.{length_push}
use Rattle.mcs_base.specs.Listings.{IsAmong}
use Rattle.mcs_base.proofs.Each.{all_among, all_append, all_get}
use Rattle.mcs_base.proofs.Numbers.{unsigned_abs-neg_ℤ}
use Rattle.mcs_trace.specs.Clauses.{IsClause, IsLiteral}
use Rattle.mcs_trace.specs.Traces.{numbered_clause}
use Rattle.mcs_engine.specs.declared.trail.Entry.{Entry}
use Rattle.mcs_engine.specs.declared.trail.Trail.{Trail}
use Rattle.mcs_engine.specs.Extending.{IsTrail}
use Rattle.mcs_engine.specs.Trails.{AreCovered, AreExplained, GrowsOnLevel, IsClauseOver, IsLiteralOver, IsOn, IsClauseSatisfied}
use Rattle.mcs_engine.specs.Watching.{AreSettled, IsLong}
use Rattle.mcs_engine.proofs.TrailLemmas.{IsForced, entry_at, entry-new, entry-old, explained-push, on-more}

-- ---- entries that follow
pub grows-none : (level : ℕ) (es : List Entry) → GrowsOnLevel level es es
grows-none level es = ([], sym (append-nil es), tt)

pub grows-more : (level : ℕ) (es es' es'' : List Entry) → GrowsOnLevel level es es' → GrowsOnLevel level es' es'' → GrowsOnLevel level es es''
grows-more level es es' es'' (more, e, all) (more', e', all') =
    (more ++ more', e' ∙ ap (λ (x : List Entry). x ++ more') e ∙ append_assoc es more more', all_append (λ (x : Entry). (0 < x.reason) × (x.level ≡ level)) more more' all all')

pub grows-longer : (level : ℕ) (es es' : List Entry) → GrowsOnLevel level es es' → length es ≤ length es'
grows-longer level es es' (more, e, all) = omega (arith, length-append es more, ap length e)

-- ---- what stays true
pub on-grown : (level : ℕ) (es es' : List Entry) (k : ℤ) → GrowsOnLevel level es es' → IsOn es k → IsOn es' k
on-grown level es es' k (more, e, all) on = subst (λ (xs : List Entry). IsOn xs k) (sym e) (on-more es more k on)

pub satisfied-grown : (level : ℕ) (es es' : List Entry) (c : List ℤ) → GrowsOnLevel level es es' → IsClauseSatisfied es c → IsClauseSatisfied es' c
satisfied-grown level es es' c grows (k, among, on) = (k, among, on-grown level es es' k grows on)

pub entry-grown : (level : ℕ) (es es' : List Entry) (i : ℕ) → GrowsOnLevel level es es' → i < length es → entry_at es' i ≡ entry_at es i
entry-grown level es es' i (more, e, all) less = ap (λ (xs : List Entry). entry_at xs i) e ∙ entry-old es more i less

-- ---- what a clause of the trail has
pub neg_literal : (l : ℤ) → IsLiteral l → IsLiteral (neg_ℤ l)
neg_literal l is = subst (λ (n : ℕ). (0 < n) × (n < 2 ^ 63)) (sym (unsigned_abs-neg_ℤ l)) is

pub over_at : (known : List (List ℤ)) (t : Trail) (i : ℕ) (c : List ℤ) → IsTrail known t → slice_get known i ≡ Some c → IsClauseOver t.positions.items c
over_at known t i c trail is = (all_get IsClause known i c trail.clauses is, all_get (AreCovered t.positions.items) known i c trail.covered is)

pub over_of : (known : List (List ℤ)) (t : Trail) (i : ℕ) (c : List ℤ) (l : ℤ) → IsTrail known t → slice_get known i ≡ Some c → IsAmong l c → IsLiteralOver t.positions.items l
over_of known t i c l trail is among =
    let over = over_at known t i c trail is in
    (all_among IsLiteral c l over.0.0 among, all_among (λ (k : ℤ). unsigned_abs k < length t.positions.items) c l over.1 among)

-- ---- trails
module _ (known : List (List ℤ)) (old new : Trail) (trail : IsTrail known old) (sized : length new.positions.items ≡ length old.positions.items) where
  covered : AllByRecursion (AreCovered new.positions.items) known
  covered = subst (λ (n : ℕ). AllByRecursion (λ (c : List ℤ). AllByRecursion (λ (l : ℤ). unsigned_abs l < n) c) known) (sym sized) trail.covered

  -- no literal was made true
  pub trail-same : new.entries.items ≡ old.entries.items → IsTrail known new
  trail-same same = record { clauses = trail.clauses; covered = covered; explained = subst (AreExplained known) (sym same) trail.explained }

  -- a literal was made true by a clause whose other literals are false
  pub trail-push : (i : ℕ) (c : List ℤ) (l k : ℤ) (level : ℕ) → slice_get known i ≡ Some c → IsAmong l c → ((m : ℤ) → IsAmong m c → (m ≡ l) ⊎ IsOn old.entries.items (neg_ℤ m)) → k ≡ l
      → new.entries.items ≡ old.entries.items ++ record { literal = k; reason = i + 1; level = level } ∷ [] → IsTrail known new
  trail-push i c l k level is among others same e =
      let x : Entry = record { literal = k; reason = i + 1; level = level } in
      let next : i + 1 ≡ suc i = omega arith in
      let forced : IsForced known old.entries.items x = (
        c,
        ap (numbered_clause known) next ∙ is,
        all_get IsClause known i c trail.clauses is,
        subst (λ (m : ℤ). IsAmong m c) (sym same) among,
        λ m among'. elim (others m among') [ inl e' ↦ inl (e' ∙ sym same) | inr off ↦ inr off ],
      ) in
      record { clauses = trail.clauses; covered = covered; explained = subst (AreExplained known) (sym e) (explained-push known old.entries.items x trail.explained (inr forced)) }

-- the literal that was made true last
pub on-pushed : (es es' : List Entry) (e : Entry) → es' ≡ es ++ e ∷ [] → IsOn es' e.literal
on-pushed es es' e is = subst (λ (xs : List Entry). IsOn xs e.literal) (sym is) (length es, omega (arith, length_push es e), ap (λ (x : Entry). x.literal) (entry-new es e))

-- ---- short clauses that are settled
pub settled-none : (known : List (List ℤ)) (indices : List ℕ) (es : List Entry) (from : ℕ) → AreSettled known indices es from from
settled-none known indices es from j i c low less at is short = absurd (omega arith)

pub settled-grown : (known : List (List ℤ)) (indices : List ℕ) (level : ℕ) (es es' : List Entry) (from to : ℕ) → GrowsOnLevel level es es' → AreSettled known indices es from to → AreSettled known indices es' from to
settled-grown known indices level es es' from to grows h j i c low less at is short = satisfied-grown level es es' c grows (h j i c low less at is short)

pub settled-more : (known : List (List ℤ)) (indices : List ℕ) (es : List Entry) (from to i : ℕ) → slice_get indices to ≡ Some i → ((c : List ℤ) → slice_get known i ≡ Some c → ¬ IsLong c → IsClauseSatisfied es c)
    → AreSettled known indices es from to → AreSettled known indices es from (to + 1)
settled-more known indices es from to i here satisfied h j k c low less at is short = elim (cases_lt j to) [
  | inl before ↦ h j k c low before at is short
  | inr past ↦
      let same : j ≡ to = omega arith in
      let both : Some i ≡ Some k = sym here ∙ sym (ap (slice_get indices) same) ∙ at in
      let same' : k ≡ i = cc in
      satisfied c (sym (ap (slice_get known) same') ∙ is) short
]

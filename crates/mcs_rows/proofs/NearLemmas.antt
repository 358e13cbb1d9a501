-- Of the known sets those alone matter that have marks of rules into the context.
use Rattle.std.proofs.Common.{◌≡◌, ◌∙◌, ◌+◌, ◌*◌, ◌/◌, ◌%◌, ◌<◌, ℕ, Bool, true, false, ◌&&◌, cond, eqb, ltb, List, [], ◌∷◌, ◌++◌, length, get_or, take, refl, sym, ap, subst, inl, inr, ◌↔◌}
use Rattle.std.proofs.lemmas.Bool.{and_parts, and_from}
use Rattle.std.specs.Cmp.{both_ways}
use Rattle.std.specs.List.{AllByRecursion, flat_map}
use Rattle.mcs_sets.specs.Sets.{has, Within}
use Rattle.mcs_sets.proofs.Lattice.{minus_within, common_within_right}
use Rattle.mcs_base.specs.Antichains.{HasOneWithin}
use Rattle.mcs_base.specs.Listings.{IsAmong}
use Rattle.mcs_base.proofs.Among.{among_left, among_right, among_push}
use Rattle.mcs_base.proofs.Written.{take_read}
use Rattle.mcs_system.specs.Plain.{System}
use Rattle.mcs_system.specs.Imports.{rules_into, marks_at}
use Rattle.mcs_system.specs.Repairs.{mark_of, marks_of}
use Rattle.mcs_system.proofs.MarkLemmas.{has-marks_of}
use Rattle.mcs_table.specs.declared.row.Row.{Row}
use Rattle.mcs_rows.specs.Making.{holds_some, rows_with, rows_of}
use Rattle.mcs_rows.specs.Reach.{own_marks}
use Rattle.mcs_rows.specs.declared.answer.Answer.{Answer}
use Rattle.mcs_rows.proofs.MakingLemmas.{some_held}

-- ---- the marks of sets of rules into the context
pub marks_own : (m : System) (i a b : ℕ) → Within a (rules_into m i) → Within b (rules_into m i) → Within (marks_of m a b) (own_marks m i)
marks_own m i a b of_a of_b k h = at (eqb (k % 2) 0) refl
  where
    parts : (ltb k (2 * length m.bridges) && mark_of a b k) ≡ true
    parts = sym (has-marks_of m a b k) ∙ h

    from : (c : Bool) → eqb (k % 2) 0 ≡ c → cond c (has a (k / 2)) (has b (k / 2)) ≡ true → has (rules_into m i) (k / 2) ≡ true
    from true e there = of_a (k / 2) there
    from false e there = of_b (k / 2) there

    at : (c : Bool) → eqb (k % 2) 0 ≡ c → has (own_marks m i) k ≡ true
    at c e =
        let (less, marked) = and_parts (ltb k (2 * length m.bridges)) (mark_of a b k) parts in
        let here = from c e (sym (ap (λ d. cond d (has a (k / 2)) (has b (k / 2))) e) ∙ marked) in
        has-marks_of m (rules_into m i) (rules_into m i) k ∙ and_from (ltb k (2 * length m.bridges)) (mark_of (rules_into m i) (rules_into m i) k) less (both (eqb (k % 2) 0) here)
      where
        both : (c' : Bool) → has (rules_into m i) (k / 2) ≡ true → cond c' (has (rules_into m i) (k / 2)) (has (rules_into m i) (k / 2)) ≡ true
        both true there = there
        both false there = there

-- ---- the sets that are left
abbrev pub AreNear : ℕ → List ℕ → List ℕ → Type 0
AreNear own sets near = (s : ℕ) → Within s own → HasOneWithin near s ↔ HasOneWithin sets s

pub near_more : (own : ℕ) (sets : List ℕ) (k x : ℕ) → k < length sets → x ≡ get_or sets k x → (near : List ℕ) → AreNear own (take k sets) near → AreNear own (take (k + 1) sets) (near ++ x ∷ [])
near_more own sets k x less here near so_far s of_own = (
  λ h. elim ((among_push h.inner near x).0 h.among) [
    | inl old ↦ let before = (so_far s of_own).0 (record { inner = h.inner; among = old; within = h.within }) in
        record { inner = before.inner; among = subst (IsAmong before.inner) (sym (take_read sets k x less here)) (among_left before.inner (take k sets) (x ∷ []) before.among); within = before.within }
    | inr e ↦ record { inner = h.inner; among = subst (IsAmong h.inner) (sym (take_read sets k x less here)) (among_right h.inner (take k sets) (x ∷ []) (inl e)); within = h.within }
  ],
  λ h. elim ((among_push h.inner (take k sets) x).0 (subst (IsAmong h.inner) (take_read sets k x less here) h.among)) [
    | inl old ↦ let now = (so_far s of_own).1 (record { inner = h.inner; among = old; within = h.within }) in record { inner = now.inner; among = (among_push now.inner near x).1 (inl now.among); within = now.within }
    | inr e ↦ record { inner = h.inner; among = (among_push h.inner near x).1 (inr e); within = h.within }
  ],
)

pub near_less : (own : ℕ) (sets : List ℕ) (k x : ℕ) → k < length sets → x ≡ get_or sets k x → ¬ Within x own → (near : List ℕ) → AreNear own (take k sets) near → AreNear own (take (k + 1) sets) near
near_less own sets k x less here far near so_far s of_own = (
  λ h. let before = (so_far s of_own).0 h in record { inner = before.inner; among = subst (IsAmong before.inner) (sym (take_read sets k x less here)) (among_left before.inner (take k sets) (x ∷ []) before.among); within = before.within },
  λ h. elim ((among_push h.inner (take k sets) x).0 (subst (IsAmong h.inner) (take_read sets k x less here) h.among)) [
    | inl old ↦ (so_far s of_own).1 (record { inner = h.inner; among = old; within = h.within })
    | inr e ↦ absurd (far (λ j there. of_own j (h.within j (subst (λ (z : ℕ). has z j ≡ true) (sym e) there))))
  ],
)

-- ---- the same rows
module _ (m : System) (i level : ℕ) (sets near : List ℕ) (are : AreNear (own_marks m i) sets near) where
  held_same : (s : ℕ) → Within s (own_marks m i) → holds_some near s ≡ holds_some sets s
  held_same s of_own = both_ways (holds_some near s) (holds_some sets s)
      (λ h. (some_held sets s).1 ((are s of_own).0 ((some_held near s).0 h)))
      (λ h. (some_held near s).1 ((are s of_own).1 ((some_held sets s).0 h)))

  with_same : (state : ℕ) (a : Answer) → Within a.active (rules_into m i) → rows_with m i level near state a ≡ rows_with m i level sets state a
  with_same state a of_rules =
      let own : Within (marks_at m i state a.active) (own_marks m i) = marks_own m i _ _
      (λ k h. common_within_right _ (rules_into m i) k (minus_within _ a.active k h)) (λ k h. of_rules k (minus_within a.active _ k h)) in
      rw (held_same (marks_at m i state a.active) own) refl

  of_same : (state : ℕ) (answers : List Answer) → AllByRecursion (λ (a : Answer). Within a.active (rules_into m i)) answers → rows_of m i level near answers state ≡ rows_of m i level sets answers state
  of_same state [] of_rules = refl
  of_same state (a ∷ later) of_rules = ap (λ (rows : List Row). rows ++ rows_of m i level near later state) (with_same state a of_rules.0) ∙ ap (λ (rows : List Row). rows_with m i level sets state a ++ rows) (of_same state later of_rules.1)

  pub all_same : (answers : List Answer) → AllByRecursion (λ (a : Answer). Within a.active (rules_into m i)) answers → (states : List ℕ) → flat_map (rows_of m i level near answers) states ≡ flat_map (rows_of m i level sets answers) states
  all_same answers of_rules [] = refl
  all_same answers of_rules (s ∷ later) = ap (λ (rows : List Row). rows ++ flat_map (rows_of m i level near answers) later) (of_same s answers of_rules) ∙ ap (λ (rows : List Row). rows_of m i level sets answers s ++ rows) (all_same answers of_rules later)

-- Which rules apply, by the sets of variables that they read.
use Rattle.std.proofs.Common.{◌≡◌, ℕ, ◌<◌, Bool, true, false, not, ◌&&◌, ◌||◌, cond, eqb, ltb, List, [], ◌∷◌, length, Option, Some, None, refl, sym, ap, ◌∙◌, inl, inr, ◌⊎◌, ◌↔◌, arith, true≢false, slice_get}
use Rattle.std.proofs.lemmas.Bool.{and_parts, or_cases, or_left, or_right, and_from}
use Rattle.std.proofs.lemmas.Bool.Decides.{nat_tests}
use Rattle.std.specs.List.{list_any, list_all, AllByRecursion}
use Rattle.mcs_sets.specs.Sets.{has, single, union, common, members, Within, Meets}
use Rattle.mcs_sets.proofs.SetLemmas.{members_below, such_that-lt, has-such_that, has-union, has-single, has-common, has-empty, same_set}
use Rattle.mcs_base.specs.Listings.{IsAmong}
use Rattle.mcs_base.proofs.ListingLemmas.{members_listing, all_from_among}
use Rattle.mcs_system.specs.Plain.{Read, Bridge, System}
use Rattle.mcs_system.specs.Imports.{rules_into}
use Rattle.mcs_system.specs.Systems.{same_read, variables, IsVariable, believed_among, applies_there, is_applicable, applicable}
use Rattle.mcs_system.specs.Parts.{is_read_among, variables_read}
use Rattle.mcs_system.specs.Faults.{reads_of, IsValid}
use Rattle.mcs_system.proofs.ValidLemmas.{read_in_range}
use Rattle.std.proofs.lemmas.Option.{slice_get_within}
use Rattle.mcs_base.proofs.Among.{among_any, among_left, get_among}
use Rattle.mcs_system.proofs.Sameness.{same_read-is, same_read-itself}
use Rattle.mcs_system.proofs.VariableLemmas.{believed_from, from_believed, read_is_variable}
use Rattle.mcs_system.proofs.Distinct.{one_number}
use Rattle.std.specs.Cmp.{both_ways}

-- ---- gathering the rules that apply
-- those already found, and those of the list that apply
unfoldable pub applying : System → ℕ → ℕ → List ℕ → ℕ
applying m σ found [] = found
applying m σ found (r ∷ rs) = applying m σ (cond (is_applicable m σ (slice_get m.bridges r)) (union found (single r)) found) rs

applying-has : (m : System) (σ k : ℕ) (rs : List ℕ) (found : ℕ) → (has (applying m σ found rs) k ≡ true) ↔ ((has found k ≡ true) ⊎ (IsAmong k rs × (is_applicable m σ (slice_get m.bridges k) ≡ true)))
unfolding applying
applying-has m σ k [] found = (λ h. inl h, λ h. elim h [ inl there ↦ there | inr none ↦ absurd none.0 ])
applying-has m σ k (r ∷ rs) found = at (is_applicable m σ (slice_get m.bridges r)) refl (λ f. applying-has m σ k rs f)
  where
    apply : ℕ → Type 0
    apply j = is_applicable m σ (slice_get m.bridges j) ≡ true

    added : (has (union found (single r)) k ≡ true) → (has found k ≡ true) ⊎ (k ≡ r)
    added h = elim (or_cases (has found k) (eqb k r) (sym (has-union found (single r) k ∙ ap (λ u. has found k || u) (has-single r k)) ∙ h)) [
      | inl e ↦ inl e
      | inr e ↦ inr (grind (arith, nat_tests))
    ]

    adds : (has found k ≡ true) ⊎ (k ≡ r) → has (union found (single r)) k ≡ true
    adds (inl e) = has-union found (single r) k ∙ or_left (has found k) (has (single r) k) e
    adds (inr e) = has-union found (single r) k ∙ or_right (has found k) (has (single r) k) (has-single r k ∙ grind (arith, nat_tests))

    at : (b : Bool) → is_applicable m σ (slice_get m.bridges r) ≡ b
        → ((f : ℕ) → (has (applying m σ f rs) k ≡ true) ↔ ((has f k ≡ true) ⊎ (IsAmong k rs × (is_applicable m σ (slice_get m.bridges k) ≡ true))))
        → (has (applying m σ (cond b (union found (single r)) found) rs) k ≡ true) ↔ ((has found k ≡ true) ⊎ (((k ≡ r) ⊎ IsAmong k rs) × (is_applicable m σ (slice_get m.bridges k) ≡ true)))
    at true e rest = (
      λ h. elim ((rest (union found (single r))).0 h) [
        | inl there ↦ elim (added there) [ inl old ↦ inl old | inr same ↦ inr (inl same, ap (λ j. is_applicable m σ (slice_get m.bridges j)) same ∙ e) ]
        | inr (later, applies) ↦ inr (inr later, applies)
      ],
      λ h. (rest (union found (single r))).1 (elim h [
        | inl old ↦ inl (adds (inl old))
        | inr (inl same, applies) ↦ inl (adds (inr same))
        | inr (inr later, applies) ↦ inr (later, applies)
      ]),
    )
    at false e rest = (
      λ h. elim ((rest found).0 h) [ inl old ↦ inl old | inr (later, applies) ↦ inr (inr later, applies) ],
      λ h. (rest found).1 (elim h [
        | inl old ↦ inl old
        | inr (inl same, applies) ↦ absurd (true≢false (sym applies ∙ ap (λ j. is_applicable m σ (slice_get m.bridges j)) same ∙ e))
        | inr (inr later, applies) ↦ inr (later, applies)
      ]),
    )

-- from the rules into a context those that apply are gathered
pub applying-all : (m : System) (i σ : ℕ) → applying m σ 0 (members (rules_into m i)) ≡ common (applicable m σ) (rules_into m i)
unfolding applicable
applying-all m i σ = same_set _ _ (λ k. both_ways _ _ (to k) (from k))
  where
    there : (k : ℕ) (o : Option Bridge) → slice_get m.bridges k ≡ o → applies_there (variables m) σ o ≡ true → k < length m.bridges
    there k None e applies = absurd (true≢false (sym applies))
    there k (Some b) e applies = slice_get_within m.bridges k b e

    to : (k : ℕ) → has (applying m σ 0 (members (rules_into m i))) k ≡ true → has (common (applicable m σ) (rules_into m i)) k ≡ true
    to k h = elim ((applying-has m σ k (members (rules_into m i)) 0).0 h) [
      | inl none ↦ absurd (true≢false (sym none ∙ has-empty k))
      | inr (among, applies) ↦
          let less = there k (slice_get m.bridges k) refl applies in
          has-common (applicable m σ) (rules_into m i) k ∙ and_from _ _
          (has-such_that (length m.bridges) (λ j. is_applicable m σ (slice_get m.bridges j)) k ∙ and_from _ _ (grind (arith, nat_tests)) applies)
          (((members_listing (rules_into m i)).exactly k).0 among)
    ]

    from : (k : ℕ) → has (common (applicable m σ) (rules_into m i)) k ≡ true → has (applying m σ 0 (members (rules_into m i))) k ≡ true
    from k h =
        let parts = and_parts (has (applicable m σ) k) (has (rules_into m i) k) (sym (has-common (applicable m σ) (rules_into m i) k) ∙ h) in
        let applies = and_parts (ltb k (length m.bridges)) (is_applicable m σ (slice_get m.bridges k)) (sym (has-such_that (length m.bridges) (λ j. is_applicable m σ (slice_get m.bridges j)) k) ∙ parts.0) in
        (applying-has m σ k (members (rules_into m i)) 0).1 (inr (((members_listing (rules_into m i)).exactly k).1 parts.1, applies.1))

-- ---- a rule by the sets that it reads
among_read : (r : Read) (reads : List Read) → list_any (same_read r) reads ≡ true → IsAmong r reads
among_read r [] e = absurd (true≢false (sym e))
among_read r (q ∷ qs) e = at (same_read r q) refl e (among_read r qs)
  where
    at : (v : Bool) → same_read r q ≡ v → (v || list_any (same_read r) qs) ≡ true → (list_any (same_read r) qs ≡ true → IsAmong r qs) → (r ≡ q) ⊎ IsAmong r qs
    at true is e rest = inl (same_read-is r q is)
    at false is e rest = inr (rest e)

has-variables_read : (vars reads : List Read) (v : ℕ) → (has (variables_read vars reads) v ≡ true) ↔ ((r : Read) × (slice_get vars v ≡ Some r) × IsAmong r reads)
unfolding variables_read
has-variables_read vars reads v = (
  λ h. let parts = and_parts _ _ (sym (has-such_that (length vars) (λ w. is_read_among reads (slice_get vars w)) v) ∙ h) in to (slice_get vars v) refl parts.1,
  λ (r, is, among). has-such_that (length vars) (λ w. is_read_among reads (slice_get vars w)) v ∙ and_from _ _ (let less = slice_get_within vars v r is in grind (arith, nat_tests)) (ap (is_read_among reads) is ∙ among_any (same_read r) reads r among (same_read-itself r)),
)
  where
    to : (o : Option Read) → slice_get vars v ≡ o → is_read_among reads o ≡ true → (r : Read) × (slice_get vars v ≡ Some r) × IsAmong r reads
    to None e h = absurd (true≢false (sym h))
    to (Some r) e h = (r, e, among_read r reads h)

believed_where : (vars : List Read) (σ : ℕ) (r : Read) → (believed_among vars σ r ≡ true) ↔ ((v : ℕ) × (slice_get vars v ≡ Some r) × (has σ v ≡ true))
believed_where vars σ r = (
  λ h. let (v, is, member) = believed_from σ 0 r vars h in (v, is, ap (has σ) (omega arith) ∙ member),
  λ (v, is, member). from_believed σ 0 r vars v is (ap (has σ) (omega arith) ∙ member),
)

-- all reads are believed where the variables that they are lie within the state
pub all_believed : (m : System) (σ : ℕ) (reads : List Read) → ((r : Read) → IsAmong r reads → (v : ℕ) × IsVariable m v r) → (list_all (believed_among (variables m) σ) reads ≡ true) ↔ Within (variables_read (variables m) reads) σ
all_believed m σ reads known = (
  λ all v member. let (r, is, among) = (has-variables_read (variables m) reads v).0 member in
      let (w, is', holds) = (believed_where (variables m) σ r).0 (at_each reads all r among) in
      let same : w ≡ v = one_number m w v r is' is in ap (has σ) (sym same) ∙ holds,
  λ within. by_each reads (λ r among. let (v, is) = known r among in (believed_where (variables m) σ r).1 (v, is, within v ((has-variables_read (variables m) reads v).1 (r, is, among)))),
)
  where
    at_each : (rs : List Read) → list_all (believed_among (variables m) σ) rs ≡ true → (r : Read) → IsAmong r rs → believed_among (variables m) σ r ≡ true
    at_each [] all r h = absurd h
    at_each (q ∷ qs) all r (inl e) = ap (believed_among (variables m) σ) e ∙ (and_parts _ _ all).0
    at_each (q ∷ qs) all r (inr h) = at_each qs (and_parts _ _ all).1 r h

    by_each : (rs : List Read) → ((r : Read) → IsAmong r rs → believed_among (variables m) σ r ≡ true) → list_all (believed_among (variables m) σ) rs ≡ true
    by_each [] each = refl
    by_each (q ∷ qs) each = and_from _ _ (each q (inl refl)) (by_each qs (λ r h. each r (inr h)))

-- none is believed where these variables do not meet the state
pub none_believed : (m : System) (σ : ℕ) (reads : List Read) → (list_all (λ r. not (believed_among (variables m) σ r)) reads ≡ true) ↔ (¬ Meets (variables_read (variables m) reads) σ)
none_believed m σ reads = (
  λ all meets. let (r, is, among) = (has-variables_read (variables m) reads meets.member).0 meets.in_first in
      clash (believed_among (variables m) σ r) (at_each reads all r among) ((believed_where (variables m) σ r).1 (meets.member, is, meets.in_second)),
  λ never. by_each reads (λ r among. negative (believed_among (variables m) σ r) (λ h. let (v, is, member) = (believed_where (variables m) σ r).0 h in never (record { member = v; in_first = (has-variables_read (variables m) reads v).1 (r, is, among); in_second = member }))),
)
  where
    clash : (u : Bool) → not u ≡ true → u ≡ true → ⊥
    clash true e e' = true≢false (sym e)
    clash false e e' = true≢false (sym e')

    negative : (u : Bool) → ¬ (u ≡ true) → not u ≡ true
    negative true never = absurd (never refl)
    negative false never = refl

    at_each : (rs : List Read) → list_all (λ r. not (believed_among (variables m) σ r)) rs ≡ true → (r : Read) → IsAmong r rs → not (believed_among (variables m) σ r) ≡ true
    at_each [] all r h = absurd h
    at_each (q ∷ qs) all r (inl e) = ap (λ p. not (believed_among (variables m) σ p)) e ∙ (and_parts _ _ all).0
    at_each (q ∷ qs) all r (inr h) = at_each qs (and_parts _ _ all).1 r h

    by_each : (rs : List Read) → ((r : Read) → IsAmong r rs → not (believed_among (variables m) σ r) ≡ true) → list_all (λ r. not (believed_among (variables m) σ r)) rs ≡ true
    by_each [] each = refl
    by_each (q ∷ qs) each = and_from _ _ (each q (inl refl)) (by_each qs (λ r h. each r (inr h)))

positive : (m : System) → IsValid m → (σ k : ℕ) (b : Bridge) → slice_get m.bridges k ≡ Some b → (within : Bool) → (within ≡ true) ↔ Within (variables_read (variables m) b.pos) σ → within ≡ list_all (believed_among (variables m) σ) b.pos
positive m valid σ k b is within w = both_ways _ _ (λ e. (all_believed m σ b.pos known).1 (w.0 e)) (λ e. w.1 ((all_believed m σ b.pos known).0 e))
  where
    known : (r : Read) → IsAmong r b.pos → (v : ℕ) × IsVariable m v r
    known r h =
        let whole = among_left r b.pos b.neg h in
        let (j, at_j) = get_among r (reads_of b) whole in
        read_is_variable m k b r is whole (read_in_range m valid k j b r is at_j)

-- a rule applies where its positive variables lie within the state and its negative ones do not meet it
pub applies_by_sets : (m : System) → IsValid m → (σ k : ℕ) (b : Bridge) → slice_get m.bridges k ≡ Some b → (within meets : Bool)
    → (within ≡ true) ↔ Within (variables_read (variables m) b.pos) σ → (meets ≡ true) ↔ Meets (variables_read (variables m) b.neg) σ
    → (within && not meets) ≡ is_applicable m σ (slice_get m.bridges k)
applies_by_sets m valid σ k b is within meets w n = pairwise within (list_all (believed_among (variables m) σ) b.pos) (not meets) (list_all (λ r. not (believed_among (variables m) σ r)) b.neg) pos neg ∙ ap (is_applicable m σ) (sym is)
  where
    pairwise : (u u' v v' : Bool) → u ≡ u' → v ≡ v' → (u && v) ≡ (u' && v')
    pairwise u u' v v' e e' = rw (e, e') refl

    pos : within ≡ list_all (believed_among (variables m) σ) b.pos
    pos = positive m valid σ k b is within w

    negated : (u : Bool) → (not u ≡ true) ↔ (¬ (u ≡ true))
    negated true = ((λ e h. true≢false (sym e)), λ h. absurd (h refl))
    negated false = ((λ e h. true≢false (sym h)), λ h. refl)

    neg : not meets ≡ list_all (λ r. not (believed_among (variables m) σ r)) b.neg
    neg = both_ways _ _ (λ e. (none_believed m σ b.neg).1 (λ h. (negated meets).0 e (n.1 h))) (λ e. (negated meets).1 (λ h. (none_believed m σ b.neg).0 e (n.0 h)))

-- and it does not where they do not lie within it
pub applies_not : (m : System) → IsValid m → (σ k : ℕ) (b : Bridge) → slice_get m.bridges k ≡ Some b → (within : Bool)
    → (within ≡ true) ↔ Within (variables_read (variables m) b.pos) σ → within ≡ false → within ≡ is_applicable m σ (slice_get m.bridges k)
applies_not m valid σ k b is within w out =
    let none : list_all (believed_among (variables m) σ) b.pos ≡ false = sym (positive m valid σ k b is within w) ∙ out in
    out ∙ sym (ap (is_applicable m σ) is ∙ ap (λ u. u && list_all (λ r. not (believed_among (variables m) σ r)) b.neg) none)

pub rules_known : (m : System) (i : ℕ) → AllByRecursion (λ k. k < length m.bridges) (members (rules_into m i))
unfolding rules_into
rules_known m i = all_from_among (λ k. k < length m.bridges) (members (rules_into m i)) (λ k among. members_below (rules_into m i) (length m.bridges) k (such_that-lt (length m.bridges) _) (((members_listing (rules_into m i)).exactly k).0 among))

pub applying-step : (m : System) (σ found r : ℕ) (rs : List ℕ) → is_applicable m σ (slice_get m.bridges r) ≡ true → applying m σ (union found (single r)) rs ≡ applying m σ found (r ∷ rs)
unfolding applying
applying-step m σ found r rs e = rw e refl

pub applying-skip : (m : System) (σ found r : ℕ) (rs : List ℕ) → is_applicable m σ (slice_get m.bridges r) ≡ false → applying m σ found rs ≡ applying m σ found (r ∷ rs)
unfolding applying
applying-skip m σ found r rs e = rw e refl

pub applying-none : (m : System) (σ found : ℕ) → applying m σ found [] ≡ found
unfolding applying
applying-none m σ found = refl

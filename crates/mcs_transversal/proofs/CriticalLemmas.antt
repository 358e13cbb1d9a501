-- Minimal transversals are those of which each mark has a critical edge.
use Rattle.std.proofs.Common.{◌≡◌, ℕ, ◌+◌, ◌<◌, zero, suc, Bool, true, false, ◌&&◌, eqb, List, [], ◌∷◌, ◌⊎◌, ◌↔◌, inl, inr, IsTrue, length, get_or, drop, refl, sym, ap, ◌∙◌, subst, true≢false, arith}
use Rattle.std.proofs.lemmas.Bool.Decides.{nat_tests}
use Rattle.std.proofs.lemmas.List.{drop_more}
use Rattle.mcs_sets.specs.Sets.{has, single, union, common, minus, Within, Meets, IsLeast}
use Rattle.mcs_sets.proofs.SetLemmas.{same_set, has-single, has-union, has-common, minus-le, below_power, members_below, meets_or_not, not_empty}
use Rattle.mcs_sets.proofs.Lattice.{has-single_itself, minus_within, has-without_itself, has-without_other, without-lt, within_antisymmetric}
use Rattle.mcs_base.specs.Listings.{IsAmong}
use Rattle.mcs_base.specs.Minimal.{IsMinimal}
use Rattle.mcs_base.proofs.Each.{all_among}
use Rattle.mcs_base.specs.Transversals.{IsTransversalOf, MeetAloneAt}
use Rattle.mcs_transversal.specs.Transversals.{HasCriticalEdge, IsCritical, MinimalityIsCritical}

-- ---- the one mark in which two sets meet
pub alone-in_first : (e t k : ℕ) → MeetAloneAt e t k → has e k ≡ true
alone-in_first e t k alone = let h : (has e k && has t k) ≡ true = sym (has-common e t k) ∙ ap (λ s. has s k) alone ∙ has-single_itself k in grind (arith, nat_tests)

pub alone-only : (e t k j : ℕ) → MeetAloneAt e t k → has e j ≡ true → has t j ≡ true → j ≡ k
alone-only e t k j alone in_e in_t =
    let h : (has e j && has t j) ≡ eqb j k = sym (has-common e t j) ∙ ap (λ s. has s j) alone ∙ has-single k j in
    let here : eqb j k ≡ true = grind (arith, nat_tests) in
    grind (arith, nat_tests)

pub alone-not_empty : (a b k : ℕ) → common a b ≡ 0 → ¬ MeetAloneAt a b k
alone-not_empty a b k none alone = not_empty (single k) k (has-single_itself k) (sym alone ∙ none)

pub alone-least : (a b i k : ℕ) → IsLeast (common a b) i → ¬ (common a b ≡ single i) → ¬ MeetAloneAt a b k
alone-least a b i k least differ alone =
    let h : eqb i k ≡ true = sym (has-single k i) ∙ ap (λ s. has s i) (sym alone) ∙ least.in_set in
    let same : k ≡ i = grind (arith, nat_tests) in
    differ (alone ∙ ap single same)

pub alone-same : (a b i k : ℕ) → MeetAloneAt a b i → MeetAloneAt a b k → i ≡ k
alone-same a b i k at_i at_k = let h : eqb i k ≡ true = sym (has-single k i) ∙ ap (λ s. has s i) (sym at_k ∙ at_i) ∙ has-single_itself i in grind (arith, nat_tests)

-- a set with the mark in which an edge meets t alone
pub critical-with : (marks a b i : ℕ) → MeetAloneAt a b i → (k : ℕ) → IsTrue (has (union marks (single i)) k) ↔ (IsTrue (has marks k) ⊎ MeetAloneAt a b k)
critical-with marks a b i alone k = (
  λ is. at (has marks k) refl (eqb k i) refl is,
  λ either. elim either [
    | inl is ↦ let e = has-union marks (single i) k in grind (arith, nat_tests)
    | inr alone' ↦ let same : i ≡ k = alone-same a b i k alone alone' in let e = has-union marks (single i) k in let e' = has-single i k in grind (arith, nat_tests)
  ],
)
  where
    at : (u : Bool) → has marks k ≡ u → (v : Bool) → eqb k i ≡ v → has (union marks (single i)) k ≡ true → IsTrue (has marks k) ⊎ MeetAloneAt a b k
    at true e v e' is = inl e
    at false e true e' is = let same : i ≡ k = grind (arith, nat_tests) in inr (alone ∙ ap single same)
    at false e false e' is = absurd (true≢false (sym is ∙ has-union marks (single i) k ∙ rw (e, has-single, e') refl))

-- ---- a mark has a critical edge, or may go
critical_or_not : (edges : List ℕ) (t k : ℕ) → HasCriticalEdge edges t k ⊎ ((e : ℕ) → IsAmong e edges → ¬ MeetAloneAt e t k)
critical_or_not [] t k = inr (λ e there. absurd there)
critical_or_not (e ∷ es) t k = at (eqb (common e t) (single k)) refl (critical_or_not es t k)
  where
    at : (b : Bool) → eqb (common e t) (single k) ≡ b → HasCriticalEdge es t k ⊎ ((f : ℕ) → IsAmong f es → ¬ MeetAloneAt f t k) → HasCriticalEdge (e ∷ es) t k ⊎ ((f : ℕ) → IsAmong f (e ∷ es) → ¬ MeetAloneAt f t k)
    at true is rest = inl (record { edge = e; among = inl refl; alone = grind (arith, nat_tests) })
    at false is (inl h) = inl (record { edge = h.edge; among = inr h.among; alone = h.alone })
    at false is (inr none) = inr (λ f there alone. elim there [ inl same ↦ differ (subst (λ (x : ℕ). MeetAloneAt x t k) same alone) | inr later ↦ none f later alone ])
      where
        differ : MeetAloneAt e t k → ⊥
        differ alone = true≢false (sym (here alone) ∙ is)
          where
            here : MeetAloneAt e t k → eqb (common e t) (single k) ≡ true
            here alone = grind (arith, nat_tests)

all_critical_or_not : (n : ℕ) (edges : List ℕ) (t : ℕ) → ((k : ℕ) → k < n → has t k ≡ true → HasCriticalEdge edges t k) ⊎ ((k : ℕ) × (has t k ≡ true) × ((e : ℕ) → IsAmong e edges → ¬ MeetAloneAt e t k))
all_critical_or_not zero edges t = inl (λ k less is. absurd (omega arith))
all_critical_or_not (suc n) edges t = at (all_critical_or_not n edges t) (has t n) refl (critical_or_not edges t n)
  where
    at : ((k : ℕ) → k < n → has t k ≡ true → HasCriticalEdge edges t k) ⊎ ((k : ℕ) × (has t k ≡ true) × ((e : ℕ) → IsAmong e edges → ¬ MeetAloneAt e t k))
        → (b : Bool) → has t n ≡ b → HasCriticalEdge edges t n ⊎ ((e : ℕ) → IsAmong e edges → ¬ MeetAloneAt e t n)
        → ((k : ℕ) → k < suc n → has t k ≡ true → HasCriticalEdge edges t k) ⊎ ((k : ℕ) × (has t k ≡ true) × ((e : ℕ) → IsAmong e edges → ¬ MeetAloneAt e t k))
    at (inr found) b is last = inr found
    at (inl all) true is (inr none) = inr (n, is, none)
    at (inl all) true is (inl h) = inl (λ k less in_t. upto k less in_t (eqb k n) refl)
      where
        upto : (k : ℕ) → k < suc n → has t k ≡ true → (v : Bool) → eqb k n ≡ v → HasCriticalEdge edges t k
        upto k less in_t true e = let same : n ≡ k = grind (arith, nat_tests) in subst (HasCriticalEdge edges t) same h
        upto k less in_t false e = all k (grind (arith, nat_tests)) in_t
    at (inl all) false is last = inl (λ k less in_t. upto k less in_t (eqb k n) refl)
      where
        upto : (k : ℕ) → k < suc n → has t k ≡ true → (v : Bool) → eqb k n ≡ v → HasCriticalEdge edges t k
        upto k less in_t true e = let same : k ≡ n = grind (arith, nat_tests) in absurd (true≢false (sym in_t ∙ ap (has t) same ∙ is))
        upto k less in_t false e = all k (grind (arith, nat_tests)) in_t

-- an edge that is not critical for the mark is met without it
meets_without : (t k e : ℕ) → Meets t e → ¬ MeetAloneAt e t k → Meets (minus t (single k)) e
meets_without t k e meets more = elim (meets_or_not (minus t (single k)) e t (let le = minus-le t (single k) in let p = below_power t in omega arith)) [
  | inl meets' ↦ meets'
  | inr none ↦ absurd (more (same_set _ _ (λ j. has-common e t j ∙ at none j (eqb j k) refl ∙ sym (has-single k j))))
]
  where
    member_is : ((j : ℕ) → has (minus t (single k)) j ≡ true → has e j ≡ false) → (v : Bool) → eqb meets.member k ≡ v → meets.member ≡ k
    member_is none true is = grind (arith, nat_tests)
    member_is none false is = absurd (true≢false (sym meets.in_second ∙ none meets.member (has-without_other t k meets.member meets.in_first is)))

    at : ((j : ℕ) → has (minus t (single k)) j ≡ true → has e j ≡ false) → (j : ℕ) (v : Bool) → eqb j k ≡ v → (has e j && has t j) ≡ eqb j k
    at none j true is =
        let same : j ≡ k = grind (arith, nat_tests) in
        let here : meets.member ≡ j = member_is none (eqb meets.member k) refl ∙ sym same in
        let in_t : has t j ≡ true = ap (has t) (sym here) ∙ meets.in_first in
        let in_e : has e j ≡ true = ap (has e) (sym here) ∙ meets.in_second in
        grind (arith, nat_tests)
    at none j false is = other (has t j) refl
      where
        other : (w : Bool) → has t j ≡ w → (has e j && has t j) ≡ eqb j k
        other true in_t = let out = none j (has-without_other t k j in_t is) in grind (arith, nat_tests)
        other false out = grind (arith, nat_tests)

transversal_without : (edges : List ℕ) (t k : ℕ) → IsTransversalOf edges t → ((e : ℕ) → IsAmong e edges → ¬ MeetAloneAt e t k) → IsTransversalOf edges (minus t (single k))
transversal_without [] t k meets none = tt
transversal_without (e ∷ es) t k meets none = (meets_without t k e meets.0 (none e (inl refl)), transversal_without es t k meets.1 (λ f there. none f (inr there)))

-- ---- the law
pub minimal_from_critical : (edges : List ℕ) (t : ℕ) → IsTransversalOf edges t → IsCritical edges t → IsMinimal (IsTransversalOf edges) t
minimal_from_critical edges t meets critical = record { one = meets; least = λ s other within. within_antisymmetric s t within (needed s other within) }
  where
    needed : (s : ℕ) → IsTransversalOf edges s → Within s t → (k : ℕ) → has t k ≡ true → has s k ≡ true
    needed s other within k in_t =
        let h = critical k in_t in
        let m = all_among (λ e. Meets s e) edges h.edge other h.among in
        let here : m.member ≡ k = alone-only h.edge t k m.member h.alone m.in_second (within m.member m.in_first) in
        ap (has s) (sym here) ∙ m.in_first

pub critical_from_minimal : (edges : List ℕ) (t : ℕ) → IsMinimal (IsTransversalOf edges) t → IsCritical edges t
critical_from_minimal edges t minimal k in_t = elim (critical_or_not edges t k) [
  | inl h ↦ h
  | inr none ↦ absurd (true≢false (sym in_t ∙ ap (λ s. has s k) (sym (minimal.least _ (transversal_without edges t k minimal.one none) (minus_within t (single k)))) ∙ has-without_itself t k))
]

pub minimality_is_critical : MinimalityIsCritical
minimality_is_critical edges t = (
  λ minimal. (minimal.one, critical_from_minimal edges t minimal),
  λ both. minimal_from_critical edges t both.0 both.1,
)

-- each mark of a minimal transversal is one of an edge
pub mark_of_edge : (edges : List ℕ) (t : ℕ) → IsMinimal (IsTransversalOf edges) t → (k : ℕ) → IsTrue (has t k) → (e : ℕ) × IsAmong e edges × IsTrue (has e k)
mark_of_edge edges t minimal k in_t = let h = critical_from_minimal edges t minimal k in_t in (h.edge, h.among, alone-in_first h.edge t k h.alone)

-- ---- a minimal one lies within each transversal
pub minimal_within : (f : ℕ) (edges : List ℕ) (t : ℕ) → t < f → IsTransversalOf edges t → (s : ℕ) × IsMinimal (IsTransversalOf edges) s × Within s t
minimal_within zero edges t less meets = absurd (omega arith)
minimal_within (suc f) edges t less meets = elim (all_critical_or_not t edges t) [
  | inl all ↦ (t, minimal_from_critical edges t meets (λ k in_t. all k (members_below t t k (below_power t) in_t) in_t), λ k in_t. in_t)
  | inr (k, in_t, none) ↦
      let smaller = without-lt t k in_t in
      let (s, minimal, within) = minimal_within f edges (minus t (single k)) (omega arith) (transversal_without edges t k meets none) in
      (s, minimal, λ j is. minus_within t (single k) j (within j is))
]

-- ---- the loop that gathers the marks that have a critical edge
pub critical-more : (edges : List ℕ) (t k i e : ℕ) → i < length edges → e ≡ get_or edges i e → HasCriticalEdge (drop i edges) t k ↔ (MeetAloneAt e t k ⊎ HasCriticalEdge (drop (i + 1) edges) t k)
critical-more edges t k i e less is = rw (drop_more edges i e less) (
  λ h. at h.edge h.alone h.among,
  λ h. elim h [
    | inl alone ↦ record { edge = e; among = inl is; alone = alone }
    | inr rest ↦ record { edge = rest.edge; among = inr rest.among; alone = rest.alone }
  ],
)
  where
    at : (f : ℕ) → MeetAloneAt f t k → (f ≡ get_or edges i e) ⊎ IsAmong f (drop (i + 1) edges) → MeetAloneAt e t k ⊎ HasCriticalEdge (drop (i + 1) edges) t k
    at f alone (inl same) = inl (subst (λ (x : ℕ). MeetAloneAt x t k) (same ∙ sym is) alone)
    at f alone (inr later) = inr (record { edge = f; among = later; alone = alone })

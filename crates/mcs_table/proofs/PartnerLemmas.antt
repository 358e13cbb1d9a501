-- Finding, in sorted rows, those with a key.
use Rattle.std.proofs.Common.{◌≡◌, ◌<◌, ◌≤◌, ◌-◌, ℕ, true, false, List, length, get_or, take, drop, refl, sym, ap, ◌∙◌, subst, inl, inr, ◌↔◌, arith, true≢false}
use Rattle.std.proofs.lemmas.Bool.{cases_lt}
use Rattle.std.proofs.lemmas.Cmp.{on_total, then_total, nat_cmp_total, ranked}
use Rattle.std.proofs.lemmas.List.Sorted.{searchable_from_sorted}
use Rattle.std.specs.declared.cmp.Ordering.{Ordering}
use Rattle.std.specs.declared.cmp.Ordering.TheVariants.{Less, Equal, Greater}
use Rattle.std.specs.Cmp.{IsTotalOrder, tied_itself}
use Rattle.std.specs.List.Sorted.{IsPartitionedBy}
use Rattle.std.specs.Ordering.{MatchOrdering, ordering_then, ordering_index, is_lt, is_le, nat_cmp}
use Rattle.mcs_sets.specs.Sets.{common, size}
use Rattle.mcs_base.specs.Listings.{IsAmong}
use Rattle.mcs_base.specs.StateOrder.{state_cmp, state_cmp_total, equal_is}
use Rattle.mcs_base.proofs.Among.{place_among, among_place, part_among, among_part}
use Rattle.mcs_table.specs.declared.row.Row.{Row}
use Rattle.mcs_table.specs.Partners.{shared_key, key_cmp, is_below, is_up_to, PassingEndsAt, IsByShared}

key_total : IsTotalOrder key_cmp
key_total = then_total (on_total (λ (p : ℕ × ℕ). p.0) state_cmp_total) (on_total (λ (p : ℕ × ℕ). p.1) nat_cmp_total)

earlier_lt : (o p : Ordering) → ordering_index o ≤ ordering_index p → is_lt p ≡ true → is_lt o ≡ true
earlier_lt Less p h e = refl
earlier_lt Equal Less h e = absurd (omega arith)
earlier_lt Greater Less h e = absurd (omega arith)
earlier_lt o Equal h e = absurd (true≢false (sym e))
earlier_lt o Greater h e = absurd (true≢false (sym e))

earlier_le : (o p : Ordering) → ordering_index o ≤ ordering_index p → is_le p ≡ true → is_le o ≡ true
earlier_le Less p h e = refl
earlier_le Equal p h e = refl
earlier_le Greater Less h e = absurd (omega arith)
earlier_le Greater Equal h e = absurd (omega arith)
earlier_le Greater Greater h e = e

pub parted_below : (scope : ℕ) (q : ℕ × ℕ) (xs : List Row) → IsByShared scope xs → IsPartitionedBy (is_below scope q) xs
parted_below scope q xs up i j d le less = earlier_lt _ _ (searchable_from_sorted key_total (shared_key scope) xs q up i j d le less)

pub parted_up_to : (scope : ℕ) (q : ℕ × ℕ) (xs : List Row) → IsByShared scope xs → IsPartitionedBy (is_up_to scope q) xs
parted_up_to scope q xs up i j d le less = earlier_le _ _ (searchable_from_sorted key_total (shared_key scope) xs q up i j d le less)

-- between the two: this state, and at most so many
inside : (a b shared room : ℕ) → is_lt (key_cmp (a, b) (shared, 0)) ≡ false → is_le (key_cmp (a, b) (shared, room)) ≡ true → (a ≡ shared) × (b ≤ room)
inside a b shared room = at (state_cmp a shared) refl (nat_cmp b room) (ranked b room _ refl)
  where
    at : (o : Ordering) → state_cmp a shared ≡ o → (p : Ordering) → MatchOrdering p (b < room) (b ≡ room) (room < b) → is_lt (ordering_then o (nat_cmp b 0)) ≡ false → is_le (ordering_then o p) ≡ true → (a ≡ shared) × (b ≤ room)
    at Less e p m h k = absurd (true≢false h)
    at Equal e Less m h k = (equal_is a shared e, omega arith)
    at Equal e Equal m h k = (equal_is a shared e, omega arith)
    at Equal e Greater m h k = absurd (true≢false (sym k))
    at Greater e p m h k = absurd (true≢false (sym k))

not_below_zero : (b : ℕ) (p : Ordering) → MatchOrdering p (b < 0) (b ≡ 0) (0 < b) → is_lt p ≡ false
not_below_zero b Less m = absurd (omega arith)
not_below_zero b Equal m = refl
not_below_zero b Greater m = refl

up_to_room : (b room : ℕ) → b ≤ room → (p : Ordering) → MatchOrdering p (b < room) (b ≡ room) (room < b) → is_le p ≡ true
up_to_room b room le Less m = refl
up_to_room b room le Equal m = refl
up_to_room b room le Greater m = absurd (omega arith)

itself : (a b n : ℕ) → ordering_then (state_cmp a a) (nat_cmp b n) ≡ nat_cmp b n
itself a b n = ap (λ (o : Ordering). ordering_then o (nat_cmp b n)) (tied_itself state_cmp_total a)

from_there : (a b : ℕ) → is_lt (key_cmp (a, b) (a, 0)) ≡ false
from_there a b = ap is_lt (itself a b 0) ∙ not_below_zero b (nat_cmp b 0) (ranked b 0 _ refl)

until_there : (a b room : ℕ) → b ≤ room → is_le (key_cmp (a, b) (a, room)) ≡ true
until_there a b room le = ap is_le (itself a b room) ∙ up_to_room b room le (nat_cmp b room) (ranked b room _ refl)

below_is_up_to : (scope shared room : ℕ) (r : Row) → is_below scope (shared, 0) r ≡ true → is_up_to scope (shared, room) r ≡ true
below_is_up_to scope shared room r = at (state_cmp (common r.state.values scope) shared) (nat_cmp (size r.marks) 0) (ranked (size r.marks) 0 _ refl)
  where
    at : (o p : Ordering) → MatchOrdering p (size r.marks < 0) (size r.marks ≡ 0) (0 < size r.marks) → is_lt (ordering_then o p) ≡ true → is_le (ordering_then o (nat_cmp (size r.marks) room)) ≡ true
    at Less p m h = refl
    at Equal Less m h = absurd (omega arith)
    at Equal Equal m h = absurd (true≢false (sym h))
    at Equal Greater m h = absurd (true≢false (sym h))
    at Greater p m h = absurd (true≢false (sym h))

module _ (scope shared room : ℕ) (xs : List Row) (i j : ℕ) (bound : i ≤ length xs)
    (from : PassingEndsAt (is_below scope (shared, 0)) xs i)
    (to : PassingEndsAt (is_up_to scope (shared, room)) xs j) where
  -- the part ends where it begins, or after
  pub ends_later : (d : Row) → i ≤ j
  ends_later d = elim (cases_lt j i) [
    | inl less ↦ absurd (true≢false (sym (below_is_up_to scope shared room (get_or xs j d) (from.0 j d (omega arith) less)) ∙ to.1 j d (omega arith) (omega arith)))
    | inr past ↦ past
  ]

  pub partners_are : (r : Row) → IsAmong r (take (j - i) (drop i xs)) ↔ (IsAmong r xs × (common r.state.values scope ≡ shared) × (size r.marks ≤ room))
  partners_are r = (
    λ h. let (k, past, below, less, is) = part_among xs i j r h in
        let not_below : is_below scope (shared, 0) r ≡ false = subst (λ (s : Row). is_below scope (shared, 0) s ≡ false) (is r) (from.1 k r past less) in
        let up_to : is_up_to scope (shared, room) r ≡ true = subst (λ (s : Row). is_up_to scope (shared, room) s ≡ true) (is r) (to.0 k r (omega arith) below) in
        let both = inside (common r.state.values scope) (size r.marks) shared room not_below up_to in
        (among_place xs k r less is, both.0, both.1),
    λ (among, same, few). let (k, less, is) = place_among xs r among in
        let not_below : is_below scope (shared, 0) r ≡ false = subst (λ (s : ℕ). is_lt (key_cmp (shared_key scope r) (s, 0)) ≡ false) same (from_there (common r.state.values scope) (size r.marks)) in
        let up_to : is_up_to scope (shared, room) r ≡ true = subst (λ (s : ℕ). is_le (key_cmp (shared_key scope r) (s, room)) ≡ true) same (until_there (common r.state.values scope) (size r.marks) room few) in
        let past : i ≤ k = elim (cases_lt k i) [ inl before ↦ absurd (true≢false (sym (subst (λ (s : Row). is_below scope (shared, 0) s ≡ true) (is r) (from.0 k r (omega arith) before)) ∙ not_below)) | inr past ↦ past ] in
        let below : k < j = elim (cases_lt k j) [ inl below ↦ below | inr after ↦ absurd (true≢false (sym up_to ∙ subst (λ (s : Row). is_up_to scope (shared, room) s ≡ false) (is r) (to.1 k r after less))) ] in
        among_part xs i j k r past below less is,
  )

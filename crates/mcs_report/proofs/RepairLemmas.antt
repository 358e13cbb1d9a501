-- Marks that are written one after the other, and the number of the first edge that a set meets in one mark alone.
use Rattle.std.proofs.Common.{◌≡◌, ℕ, ◌+◌, ◌*◌, ◌<◌, nat_eq, not, List, length, get_or, Option, Some, None, MatchOption, IsSome, inl, inr, sym, ap, ◌∙◌, arith, rules}
use Rattle.std.proofs.lemmas.Bool.{cases_lt}
use Rattle.std.proofs.lemmas.Bool.Decides.{nat_tests}
use Rattle.std.proofs.lemmas.List.Sums.{position_or_len_is, prefix_len_passes, prefix_len_stops}
use Rattle.std.specs.List.{AllByRecursion, position_or_len}
use Rattle.mcs_sets.specs.Sets.{members, single, common}
use Rattle.mcs_base.specs.Transversals.{MeetAloneAt}
use Rattle.mcs_base.proofs.Among.{place_among}
use Rattle.mcs_base.proofs.ListingLemmas.{members_listing, all_from_among}
use Rattle.mcs_system.specs.Plain.{System}
use Rattle.mcs_transversal.specs.Transversals.{HasCriticalEdge, IsCritical, IsFirstCritical}
use Rattle.mcs_report.specs.Repairs.{first_alone, ReasonsAreNumbered}

-- numbers of marks of a system's rules
abbrev pub AreMarks : System → List ℕ → Type 0
AreMarks m ks = AllByRecursion (λ k. k < 2 * length m.bridges) ks

-- each mark of the set has a critical edge
pub each_critical : (edges : List ℕ) (t : ℕ) → IsCritical edges t → AllByRecursion (HasCriticalEdge edges t) (members t)
each_critical edges t critical = all_from_among (HasCriticalEdge edges t) (members t) (λ k among. critical k (((members_listing t).exactly k).0 among))

-- where a mark has a critical edge, the first one is found
module _ (edges : List ℕ) (t k : ℕ) where
  pub critical_some : (o : Option ℕ) → HasCriticalEdge edges t k → MatchOption o ((j : ℕ) → j < length edges → ¬ MeetAloneAt (get_or edges j 0) t k) (IsFirstCritical edges t k) → IsSome o
  critical_some None critical none =
      let (j, less, is) = place_among edges critical.edge critical.among in
      absurd (none j less (ap (λ e. common e t) (is 0) ∙ critical.alone))
  critical_some (Some i) critical first = search rules

  -- its number, from 1
  first_number : (i : ℕ) → IsFirstCritical edges t k i → i + 1 ≡ first_alone edges t k
  first_number i first =
      let place = position_or_len_is (λ e. nat_eq (common e t) (single k)) edges i 0 (omega (arith, first.in_range))
      (λ j less. let differ = first.none_before j less in grind (arith, nat_tests))
      (λ less. let same = first.alone in grind (arith, nat_tests)) in
      omega (arith, place)

  pub critical_number : (o : Option ℕ) (i : ℕ) → o ≡ Some i → MatchOption o ((j : ℕ) → j < length edges → ¬ MeetAloneAt (get_or edges j 0) t k) (IsFirstCritical edges t k) → i + 1 ≡ first_alone edges t k
  critical_number o i is found = first_number i (rw is at found)

  -- and back: at such a number stands the first one
  pub number_first : (i : ℕ) → i < length edges → first_alone edges t k ≡ i + 1 → IsFirstCritical edges t k i
  number_first i less number =
      let place : position_or_len (λ e. nat_eq (common e t) (single k)) edges ≡ i = omega arith in
      record {
        in_range = less;
        alone = let stops = prefix_len_stops (λ e. not (nat_eq (common e t) (single k))) edges 0 (omega arith) in let here = rw place at stops in grind (arith, nat_tests);
        none_before = λ j below same. (let passes = prefix_len_passes (λ e. not (nat_eq (common e t) (single k))) edges j 0 (omega arith) in grind (arith, nat_tests));
      }

  -- where there is one, the number is within
  pub number_within : HasCriticalEdge edges t k → position_or_len (λ e. nat_eq (common e t) (single k)) edges < length edges
  number_within critical = elim (cases_lt (position_or_len (λ e. nat_eq (common e t) (single k)) edges) (length edges)) [
    | inl less ↦ less
    | inr past ↦ (let (j, less, is) = place_among edges critical.edge critical.among in
        let same : common (get_or edges j 0) t ≡ single k = ap (λ e. common e t) (is 0) ∙ critical.alone in
        let passes = prefix_len_passes (λ e. not (nat_eq (common e t) (single k))) edges j 0 (omega arith) in
        absurd (grind (arith, nat_tests)))
  ]

pub reasons_numbered : ReasonsAreNumbered
reasons_numbered edges t k i = (λ first. (first.in_range, sym (first_number edges t k i first)), λ (less, number). number_first edges t k i less number)

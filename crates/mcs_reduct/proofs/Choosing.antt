-- It is decided whether contexts accept belief sets that together have a property, where states that believe the same have it alike.
use Rattle.std.proofs.Common.{◌≡◌, ℕ, ◌+◌, ◌<◌, ◌^◌, zero, suc, true, List, [], ◌∷◌, ◌++◌, length, map, Some, ◌⊎◌, inl, inr, arith, refl, sym, ap, subst, true≢false, slice_get}
use Rattle.std.specs.List.{AllByRecursion, flat_map}
use Rattle.mcs_base.specs.Listings.{IsAmong}
use Rattle.mcs_base.proofs.Among.{get_among, cases_among}
use Rattle.mcs_base.proofs.Deciding.{cases_some_below, places_where, places_where-lt, has-places_where}
use Rattle.mcs_base.proofs.Each.{all_from_among}
use Rattle.mcs_base.proofs.Lists.{slice_get-map_some}
use Rattle.mcs_system.specs.Plain.{Name, Formula, Atom, ProgramRule, Kb, Classical, Program}
use Rattle.mcs_system.specs.Logic.{is_in, BeliefSet, Theory, Atoms, Believes, Accepts, with_heads}
use Rattle.mcs_system.specs.Atoms.{rule_atoms}
use Rattle.mcs_system.specs.Views.{Shows, IsAcceptedView}
use Rattle.mcs_system.proofs.NameLemmas.{is_in-among, is_in_flat_map, is_in_left, is_in_right}
use Rattle.mcs_evidence.specs.Programs.{IsOverRule, AreOverRules}
use Rattle.mcs_evidence.proofs.Models.{answer_set-known}
use Rattle.mcs_evidence.proofs.ProgramListings.{program_views_listed}
use Rattle.mcs_reduct.specs.Plain.{is_plain}
use Rattle.mcs_reduct.proofs.Accepted.{same_consequences}
use Rattle.mcs_reduct.proofs.Alike.{Alike, AreAlike, alike_itself, are_alike_themselves}
use Rattle.mcs_reduct.proofs.Beliefs.{decided}
use Rattle.mcs_reduct.proofs.Programs.{facts}

-- ---- the belief sets of a program are told apart by its atoms
names_of : List ProgramRule → List Name
names_of rules = flat_map rule_atoms rules

beliefs_of : List ProgramRule → List Formula
beliefs_of rules = map Atom (names_of rules)

names_over : (rules : List ProgramRule) → AreOverRules (names_of rules) rules
unfolding names_of
names_over rules = all_from_among (IsOverRule (flat_map rule_atoms rules)) rules (λ r among. (
  each r among r.head (λ n h. is_in_left n r.head (r.pos ++ r.neg) h),
  each r among r.pos (λ n h. is_in_right n r.head (r.pos ++ r.neg) (is_in_left n r.pos r.neg h)),
  each r among r.neg (λ n h. is_in_right n r.head (r.pos ++ r.neg) (is_in_right n r.pos r.neg h)),
))
  where
    each : (r : ProgramRule) → IsAmong r rules → (ns : List Name) → ((n : Name) → is_in n ns ≡ true → is_in n (rule_atoms r) ≡ true) → AllByRecursion (λ n. is_in n (flat_map rule_atoms rules) ≡ true) ns
    each r among ns part = all_from_among (λ n. is_in n (flat_map rule_atoms rules) ≡ true) ns (λ n h. is_in_flat_map rule_atoms n r rules among (part n ((is_in-among n ns).1 h)))

shown_there : (rules : List ProgramRule) (a d : List Name) (x : ℕ) → Accepts (Program rules) (Atoms a) → Shows (Atoms a) (beliefs_of rules) x → Shows (Atoms d) (beliefs_of rules) x → (n : Name) → is_in n a ≡ true → is_in n d ≡ true
unfolding beliefs_of
shown_there rules a d x of_a shows shows' n h =
    let (k, is) = get_among n (names_of rules) ((is_in-among n (names_of rules)).0 (answer_set-known (names_of rules) rules a (names_over rules) of_a n h)) in
    let there : slice_get (map Atom (names_of rules)) k ≡ Some (Atom n) = slice_get-map_some Atom (names_of rules) k n is in
    let (p, is', believed) = (shows' k).0 ((shows k).1 (Atom n, there, h)) in
    let same : p ≡ Atom n = cc in
    subst (Believes (Atoms d)) same believed

names_alike : (a d : List Name) → ((n : Name) → is_in n a ≡ true → is_in n d ≡ true) → ((n : Name) → is_in n d ≡ true → is_in n a ≡ true) → Alike (Atoms a) (Atoms d)
names_alike a d more less (Atom n) = (more n, less n)
names_alike a d more less f = (λ h. h, λ h. h)

shown_alike : (rules : List ProgramRule) (b c : BeliefSet) (x : ℕ) → Accepts (Program rules) b → Accepts (Program rules) c → Shows b (beliefs_of rules) x → Shows c (beliefs_of rules) x → Alike b c
shown_alike rules (Theory e) c x of_b of_c shows shows' = absurd of_b
shown_alike rules (Atoms a) (Theory e) x of_b of_c shows shows' = absurd of_c
shown_alike rules (Atoms a) (Atoms d) x of_b of_c shows shows' = names_alike a d (shown_there rules a d x of_b shows shows') (shown_there rules d a x of_c shows' shows)

-- ---- one context
-- the property is of a belief set that is accepted, and of each one that believes the same
abbrev pub Chosen : Kb → (BeliefSet → Type 0) → Type 0
Chosen kb P = (b : BeliefSet) × (Accepts kb b × P b)

abbrev pub IsKept : Kb → (BeliefSet → Type 0) → Type 0
IsKept kb P = (b c : BeliefSet) → Accepts kb b → Accepts kb c → Alike b c → P b → P c

abbrev pub IsDecided : Kb → (BeliefSet → Type 0) → Type 0
IsDecided kb P = (b : BeliefSet) → Accepts kb b → P b ⊎ (¬ P b)

-- of a program
module _ (rules : List ProgramRule) (P : BeliefSet → Type 0) (kept : IsKept (Program rules) P) (decides : IsDecided (Program rules) P) where
  abbrev HasView : ℕ → Type 0
  HasView x = (b : BeliefSet) × (Accepts (Program rules) b × (Shows b (beliefs_of rules) x × P b))

  view_cases : (x : ℕ) → HasView x ⊎ (¬ HasView x)
  view_cases x = let (xs, listing) = program_views_listed rules (beliefs_of rules) in elim (cases_among x xs) [
    | inr out ↦ inr (λ h. out ((listing.exactly x).1 (record { belief_set = h.0; accepted = h.1.0; shown = h.1.1.0 })))
    | inl among ↦ at ((listing.exactly x).0 among)
  ]
    where
      at : IsAcceptedView (Program rules) (beliefs_of rules) x → HasView x ⊎ (¬ HasView x)
      at v = elim (decides v.belief_set v.accepted) [
        | inl holds ↦ inl (v.belief_set, (v.accepted, (v.shown, holds)))
        | inr fails ↦ inr (λ h. fails (kept h.0 v.belief_set h.1.0 v.accepted (shown_alike rules h.0 v.belief_set x h.1.0 v.accepted h.1.1.0 v.shown) h.1.1.1))
      ]

  program_cases : Chosen (Program rules) P ⊎ (¬ Chosen (Program rules) P)
  program_cases = elim (cases_some_below HasView (2 ^ length (beliefs_of rules)) view_cases) [
    | inl found ↦ inl (found.2.0, (found.2.1.0, found.2.1.1.1))
    | inr none ↦ inr (λ h. none (
      places_where (Believes h.0) (decided h.0) (beliefs_of rules),
      places_where-lt (Believes h.0) (decided h.0) (beliefs_of rules),
      (h.0, (h.1.0, (has-places_where (Believes h.0) (decided h.0) (beliefs_of rules), h.1.1))),
    ))
  ]

-- of formulas all that is accepted believes the same
classical_cases : (fs : List Formula) (P : BeliefSet → Type 0) → IsKept (Classical fs) P → IsDecided (Classical fs) P → Chosen (Classical fs) P ⊎ (¬ Chosen (Classical fs) P)
classical_cases fs P kept decides = elim (decides (Theory fs) (λ a. refl)) [
  | inl holds ↦ inl (Theory fs, ((λ a. refl), holds))
  | inr fails ↦ inr (λ h. fails (kept h.0 (Theory fs) h.1.0 (λ a. refl) (at h.0 h.1.0) h.1.1))
]
  where
    at : (b : BeliefSet) → Accepts (Classical fs) b → Alike b (Theory fs)
    at (Theory e) same p = same_consequences e fs p same
    at (Atoms a) none p = absurd none

pub chosen_cases : (kb : Kb) (hs : List Formula) (P : BeliefSet → Type 0) → is_plain kb ≡ true → IsKept (with_heads kb hs) P → IsDecided (with_heads kb hs) P → Chosen (with_heads kb hs) P ⊎ (¬ Chosen (with_heads kb hs) P)
chosen_cases (Classical fs) hs P plain kept decides = classical_cases (fs ++ hs) P kept decides
chosen_cases (Program rules) hs P plain kept decides = program_cases (rules ++ facts hs) P kept decides
chosen_cases kb hs P plain kept decides = absurd (true≢false (sym plain))

-- ---- all contexts
-- Ok says what may be chosen at a place
module _ (Ok : ℕ → BeliefSet → Type 0) where
  abbrev pub AllOk : ℕ → List BeliefSet → Type 0
  AllOk i [] = Unit {0}
  AllOk i (b ∷ s) = Ok i b × AllOk (suc i) s

  abbrev pub IsKeptFrom : ℕ → ℕ → (List BeliefSet → Type 0) → Type 0
  IsKeptFrom i n P = (s t : List BeliefSet) → length s ≡ n → AllOk i s → AllOk i t → AreAlike s t → P s → P t

  abbrev pub IsDecidedFrom : ℕ → ℕ → (List BeliefSet → Type 0) → Type 0
  IsDecidedFrom i n P = (s : List BeliefSet) → length s ≡ n → AllOk i s → P s ⊎ (¬ P s)

  abbrev pub ChosenFrom : ℕ → ℕ → (List BeliefSet → Type 0) → Type 0
  ChosenFrom i n P = (s : List BeliefSet) × ((length s ≡ n) × (AllOk i s × P s))

  -- at one place it is decided
  abbrev pub IsDecidedAt : ℕ → Type 1
  IsDecidedAt i = (P : BeliefSet → Type 0) → ((b c : BeliefSet) → Ok i b → Ok i c → Alike b c → P b → P c) → ((b : BeliefSet) → Ok i b → P b ⊎ (¬ P b))
      → ((b : BeliefSet) × (Ok i b × P b)) ⊎ (¬ ((b : BeliefSet) × (Ok i b × P b)))

  pub all_cases : (bound : ℕ) → ((i : ℕ) → i < bound → IsDecidedAt i) → (n i : ℕ) → i + n ≡ bound → (P : List BeliefSet → Type 0) → IsKeptFrom i n P → IsDecidedFrom i n P → ChosenFrom i n P ⊎ (¬ ChosenFrom i n P)
  all_cases bound each zero i fits P kept decides = elim (decides [] refl tt) [
    | inl holds ↦ inl ([], (refl, (tt, holds)))
    | inr fails ↦ inr (λ h. fails (at h.0 h.1.0 h.1.1.1))
  ]
    where
      at : (s : List BeliefSet) → length s ≡ 0 → P s → P []
      at [] long holds = holds
      at (b ∷ s) long holds = absurd (omega (arith, long))
  all_cases bound each (suc n) i fits P kept decides = elim (each i (omega (arith, fits)) (λ b. ChosenFrom (suc i) n (λ s. P (b ∷ s)))
      (λ b c of_b of_c alike h. (h.0, (h.1.0, (h.1.1.0, kept (b ∷ h.0) (c ∷ h.0) (ap suc h.1.0) (of_b, h.1.1.0) (of_c, h.1.1.0) (alike, are_alike_themselves h.0) h.1.1.1))))
      (λ b of_b. all_cases bound each n (suc i) (omega (arith, fits)) (λ s. P (b ∷ s))
      (λ s t long of_s of_t alike holds. kept (b ∷ s) (b ∷ t) (ap suc long) (of_b, of_s) (of_b, of_t) (alike_itself b, alike) holds)
      (λ s long of_s. decides (b ∷ s) (ap suc long) (of_b, of_s)))) [
        | inl h ↦ inl (h.0 ∷ h.1.1.0, (ap suc h.1.1.1.0, ((h.1.0, h.1.1.1.1.0), h.1.1.1.1.1)))
        | inr none ↦ inr (λ h. at none h.0 h.1.0 h.1.1.0 h.1.1.1)
      ]
    where
      at : ¬ ((b : BeliefSet) × (Ok i b × ChosenFrom (suc i) n (λ s. P (b ∷ s)))) → (s : List BeliefSet) → length s ≡ suc n → AllOk i s → P s → ⊥
      at none [] long of_s holds = absurd (omega (arith, long))
      at none (b ∷ s) long of_s holds = none (b, (of_s.0, (s, ((let e : length s ≡ n = omega (arith, long) in e), (of_s.1, holds)))))

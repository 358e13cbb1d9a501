-- Sets of places of atoms from which no positive body leads on without end.
use Rattle.std.proofs.Common.{◌≡◌, ℕ, true, false, List, [], ◌∷◌, length, sym, ap, ◌∙◌, true≢false, arith, refl, ltb, ◌+◌}
use Rattle.std.proofs.lemmas.Bool.{and_from}
use Rattle.std.proofs.lemmas.Bool.Decides.{nat_tests}
use Rattle.std.specs.List.{AllByRecursion, AllZip}
use Rattle.mcs_sets.specs.Sets.{has, minus, such_that, Meets}
use Rattle.mcs_sets.proofs.SetLemmas.{has-empty, has-such_that}
use Rattle.mcs_sets.proofs.Lattice.{in_minus}
use Rattle.mcs_base.proofs.Among.{zip_among}
use Rattle.mcs_base.proofs.Each.{all_among, all_weaker}
use Rattle.mcs_system.specs.Plain.{Name, ProgramRule}
use Rattle.mcs_system.specs.Faults.{has_twins}
use Rattle.mcs_system.specs.Logic.{is_in, true_names}
use Rattle.mcs_evidence.specs.Supports.{IsBased, Based}
use Rattle.mcs_evidence.proofs.Models.{all_in_each, any_in_from}
use Rattle.mcs_program.specs.declared.placing.PlacedRule.{PlacedRule}
use Rattle.mcs_program.specs.Placing.{places_within, do_meet, IsPlacedRule}
use Rattle.mcs_program.proofs.PlaceLemmas.{meet_test, place_at}

-- the positive body lies within the first set if a head atom is in the second
abbrev pub RestsOn : ℕ → ℕ → PlacedRule → Type 0
RestsOn set based r = do_meet r.head based ≡ true → places_within r.pos set ≡ true

-- with less of the second set as well
pub rests_less : (set based gone : ℕ) (rs : List PlacedRule) → AllByRecursion (RestsOn set based) rs → AllByRecursion (RestsOn set (minus based gone)) rs
rests_less set based gone rs all = all_weaker (RestsOn set based) (RestsOn set (minus based gone)) (λ r h meets. h (
    let m : Meets r.head (minus based gone) = (meet_test r.head (minus based gone)).0 meets in
    (meet_test r.head based).1 (record { member = m.member; in_first = m.in_first; in_second = (in_minus based gone m.member m.in_second).0 }))) rs all

pub rests_without : (set based : ℕ) (r : PlacedRule) → RestsOn set (minus based r.head) r
rests_without set based r meets = absurd (
    let m : Meets r.head (minus based r.head) = (meet_test r.head (minus based r.head)).0 meets in
    true≢false (sym m.in_first ∙ (in_minus based r.head m.member m.in_second).1))

-- the atoms at the places are based in each program of these rules
abbrev pub AreBasedAt : List PlacedRule → ℕ → Type 0
AreBasedAt ps set = (names : List Name) (rules : List ProgramRule) → AllZip (IsPlacedRule names) rules ps → (n : Name) → is_in n (true_names 0 names set) ≡ true → IsBased rules n

pub more_based : (ps : List PlacedRule) (set more : ℕ) → AllByRecursion (RestsOn set more) ps → AreBasedAt ps set → AreBasedAt ps more
more_based ps set more rest before names rules all n here = Based n (λ r among head p there.
    let (q, among', is) = zip_among (IsPlacedRule names) rules ps all r among in
    let meets : do_meet q.head more ≡ true = is.head.some more ∙ any_in_from (true_names 0 names more) r.head n head here in
    let within = all_among (RestsOn set more) ps q rest among' meets in
    before names rules all p (all_in_each (true_names 0 names set) r.pos (sym (is.positive.all set) ∙ within) p there))

pub none_based : (ps : List PlacedRule) (set : ℕ) → set ≡ 0 → AreBasedAt ps set
none_based ps set e names rules all n here = absurd (true≢false (sym here ∙ ap (λ s. is_in n (true_names 0 names s)) e ∙ none 0 names))
  where
    none : (k : ℕ) (ns : List Name) → is_in n (true_names k ns 0) ≡ false
    none k [] = refl
    none k (m ∷ ns) = rw (has-empty k) (none (k + 1) ns)

-- where they are all, each atom is
pub all_based : (ps : List PlacedRule) (set : ℕ) (names : List Name) (rules : List ProgramRule) → has_twins names ≡ false → set ≡ such_that (length names) (λ _. true) → AreBasedAt ps set → AllZip (IsPlacedRule names) rules ps
    → (n : Name) → is_in n names ≡ true → IsBased rules n
all_based ps set names rules single e based all n known =
    let (k, place) = place_at names single n known in
    let below = place.below in
    let less : ltb k (length names) ≡ true = grind (arith, nat_tests) in
    based names rules all n (place.tells set ∙ ap (λ s. has s k) e ∙ has-such_that (length names) (λ _. true) k ∙ and_from (ltb k (length names)) true less refl)

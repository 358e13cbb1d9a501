-- The cone of a program as it is made: it is in range, has what is read, and what this depends on; and what it tells.
use Rattle.std.proofs.Common.{◌≡◌, ℕ, ◌+◌, ◌<◌, zero, suc, Bool, true, false, cond, ltb, eqb, List, [], ◌∷◌, get_or, length, Some, inl, inr, arith, refl, sym, ap, ◌∙◌, true≢false, slice_get, filter, ◌&&◌, subst}
use Rattle.std.proofs.lemmas.Bool.{and_parts, and_from, or_cases, lt-ltb, ltb-true, eqb-true, eq-eqb, false_from_ne_true}
use Rattle.std.proofs.lemmas.Option.{same_Some}
use Rattle.std.specs.List.{AllByRecursion, AllZip, list_any}
use Rattle.mcs_sets.specs.Sets.{has, single, union, members, such_that, Within}
use Rattle.mcs_sets.proofs.SetLemmas.{has-empty, has-single, has-such_that}
use Rattle.mcs_sets.proofs.Lattice.{has-single_itself, in_union, within_union_left, within_union_right}
use Rattle.mcs_base.specs.Listings.{IsAmong}
use Rattle.mcs_base.proofs.Among.{zip_among, among_zip, filter_among}
use Rattle.mcs_base.proofs.Each.{all_among, all_from_among}
use Rattle.mcs_base.proofs.AntichainLemmas.{lies_within-is}
use Rattle.mcs_base.proofs.ListingLemmas.{members_listing}
use Rattle.mcs_system.specs.Plain.{Name, Formula, ProgramRule, Program, Bridge, System}
use Rattle.mcs_system.specs.Atoms.{atoms_of}
use Rattle.mcs_system.specs.Faults.{has_twins}
use Rattle.mcs_system.specs.Logic.{same_name, is_in, true_names}
use Rattle.mcs_system.specs.Systems.{heads_from, variables_of, heads_into}
use Rattle.mcs_system.proofs.ContextSets.{variable_there}
use Rattle.mcs_system.proofs.VariableLemmas.{has-variables_of}
use Rattle.mcs_system.proofs.NameLemmas.{is_in-among}
use Rattle.mcs_system.proofs.Sameness.{same_name-is}
use Rattle.mcs_evidence.specs.Pushing.{AreNamesOf}
use Rattle.mcs_evidence.proofs.Models.{all_in_each, any_in_some, true_names-known}
use Rattle.mcs_program.specs.Placing.{IsPlaceOf, ArePlaces}
use Rattle.mcs_program.proofs.PlaceLemmas.{meet_test, place_at}
use Rattle.mcs_grounded.specs.Derivations.{rules_for, IsBodyWithin, Derives}
use Rattle.mcs_grounded.specs.Parts.{IsNormalRule, AreDependent, IsDependent, IsConeOf, IsLeastModel, AreReadsPlaced, numbers_at, places_at}
use Rattle.mcs_grounded.specs.declared.placed.NormalRule.{NormalRule}
use Rattle.mcs_grounded.specs.declared.cone.Cone.{Cone}
use Rattle.mcs_reduct.proofs.Programs.{answer_of, head_in}
use Rattle.mcs_grounded.proofs.Loops.{rules_at_all}
use Rattle.mcs_grounded.proofs.AtPlaces.{AreOfHeads, AreAtomsRead, least_at, lies_is, places_from, places_to, read_place, tells_at}

-- ---- a name's place
-- no name is at the places of the empty set
pub none_at : (n : Name) (k : ℕ) (names : List Name) → is_in n (true_names k names 0) ≡ false
none_at n k [] = refl
none_at n k (x ∷ names) = ap (λ (v : Bool). is_in n (cond v (x ∷ true_names (k + 1) names 0) (true_names (k + 1) names 0))) (has-empty k) ∙ none_at n (k + 1) names

-- none but the one at its place is at the places of a set of one
none_above : (n : Name) (k j : ℕ) (names : List Name) → k < j → is_in n (true_names j names (single k)) ≡ false
none_above n k j [] less = refl
none_above n k j (x ∷ names) less =
    ap (λ (v : Bool). is_in n (cond v (x ∷ true_names (j + 1) names (single k)) (true_names (j + 1) names (single k)))) (has-single k j ∙ (let e : eqb j k ≡ false = false_from_ne_true (eqb j k) (λ h. let same = eqb-true j k h in omega (arith, same, less)) in e))
    ∙ none_above n k (j + 1) names (omega (arith, less))

one_at : (n : Name) (j k : ℕ) (names : List Name) → is_in n (true_names j names (single (j + k))) ≡ true → slice_get names k ≡ Some n
one_at n j k [] h = absurd (true≢false (sym h))
one_at n j zero (x ∷ names) h = at (has (single (j + 0)) j) (has-single (j + 0) j ∙ eq-eqb j (j + 0) (omega arith)) h
  where
    at : (v : Bool) → v ≡ true → is_in n (cond v (x ∷ true_names (j + 1) names (single (j + 0))) (true_names (j + 1) names (single (j + 0)))) ≡ true → Some x ≡ Some n
    at false e h = absurd (true≢false (sym e))
    at true e h = elim (or_cases (same_name n x) (is_in n (true_names (j + 1) names (single (j + 0)))) h) [
      | inl same ↦ ap (λ (y : Name). Some y) (sym (same_name-is n x same))
      | inr later ↦ absurd (true≢false (sym later ∙ none_above n (j + 0) (j + 1) names (omega arith)))
    ]
one_at n j (suc k) (x ∷ names) h = one_at n (j + 1) k names (at (has (single (j + suc k)) j) (has-single (j + suc k) j ∙ false_from_ne_true (eqb j (j + suc k)) (λ e. let same = eqb-true j (j + suc k) e in omega (arith, same))) h)
  where
    at : (v : Bool) → v ≡ false → is_in n (cond v (x ∷ true_names (j + 1) names (single (j + suc k))) (true_names (j + 1) names (single (j + suc k)))) ≡ true → is_in n (true_names (j + 1) names (single (j + 1 + k))) ≡ true
    at true e h = absurd (true≢false e)
    at false e h = ap (λ (z : ℕ). is_in n (true_names (j + 1) names (single z))) (omega arith) ∙ h

pub name_there : (names : List Name) (n : Name) (k : ℕ) → IsPlaceOf names n k → slice_get names k ≡ Some n
name_there names n k place = one_at n 0 k names (ap (λ (z : ℕ). is_in n (true_names 0 names (single z))) (omega arith) ∙ place.tells (single k) ∙ has-single_itself k)

-- one place has one name
pub same_at : (names : List Name) (n x : Name) (k : ℕ) → IsPlaceOf names n k → IsPlaceOf names x k → n ≡ x
same_at names n x k place other = let e : Some n ≡ Some x = sym (name_there names n k place) ∙ name_there names x k other in cc

-- ---- places of names are in range
module _ (names : List Name) (apart : has_twins names ≡ false) where
  pub places_in_range : (these : List Name) (p : ℕ) → ArePlaces names these p → (k : ℕ) → has p k ≡ true → k < length names
  places_in_range these p are k member =
      let (n, here, there) = any_in_some (true_names 0 names (single k)) these (sym (are.some (single k)) ∙ (meet_test p (single k)).1 (record { member = k; in_first = member; in_second = has-single_itself k })) in
      let (j, place) = place_at names apart n (true_names-known n 0 names (single k) there) in
      let same : j ≡ k = eqb-true j k (sym (has-single k j) ∙ sym (place.tells (single k)) ∙ there) in
      omega (arith, place.below, same)

  pub within_all : (p : ℕ) → ((k : ℕ) → has p k ≡ true → k < length names) → Within p (such_that (length names) (λ k. true))
  within_all p low k member = has-such_that (length names) (λ k. true) k ∙ and_from (ltb k (length names)) true (lt-ltb k (length names) (low k member)) refl

  pub bodies_within_all : (rules : List ProgramRule) (ns : List NormalRule) → AllZip (IsNormalRule names) rules ns → AreDependent ns (such_that (length names) (λ k. true))
  bodies_within_all rules ns placed = all_from_among (λ (n : NormalRule). has (such_that (length names) (λ k. true)) n.head ≡ true → Within (union n.pos n.neg) (such_that (length names) (λ k. true))) ns (λ n among own. (
      let (r, there, is) = among_zip (IsNormalRule names) rules ns placed n among in
      within_all (union n.pos n.neg) (λ k member. elim (in_union n.pos n.neg k member) [ inl pos ↦ places_in_range r.pos n.pos is.positive k pos | inr neg ↦ places_in_range r.neg n.neg is.negative k neg ])))

  -- the bodies of the rules for places that depend on nothing else are within them
  pub bodies_within : (rules : List ProgramRule) (ns : List NormalRule) (cone : ℕ) → AllZip (IsNormalRule names) rules ns → AreDependent ns cone → AllByRecursion (IsBodyWithin (true_names 0 names cone)) (rules_for (true_names 0 names cone) rules)
  bodies_within rules ns cone placed depend = all_from_among (IsBodyWithin (true_names 0 names cone)) (rules_for (true_names 0 names cone) rules) (λ r among. (
      let (own, on) = filter_among (λ (r : ProgramRule). list_any (λ n. is_in n (true_names 0 names cone)) r.head) r rules among in
      let (n, there, is) = zip_among (IsNormalRule names) rules ns placed r own in
      let here : has cone n.head ≡ true = sym (is.head.tells cone) ∙ head_in (true_names 0 names cone) r is.atom is.one_head on in
      let within = all_among (λ (n : NormalRule). has cone n.head ≡ true → Within (union n.pos n.neg) cone) ns n depend there here in (
        names_within r.pos n.pos is.positive (λ k member. within k (within_union_left n.pos n.neg k member)),
        names_within r.neg n.neg is.negative (λ k member. within k (within_union_right n.pos n.neg k member)),
      )))
    where
      names_within : (these : List Name) (p : ℕ) → ArePlaces names these p → Within p cone → AreNamesOf (true_names 0 names cone) these
      names_within these p are within = all_from_among (λ n. is_in n (true_names 0 names cone) ≡ true) these (λ n among.
          all_in_each (true_names 0 names cone) these (sym (are.all cone) ∙ (lies_within-is p cone).1 within) n ((is_in-among n these).1 among))

-- ---- the cone
module _ (m : System) (i : ℕ) (rules : List ProgramRule) (apart : has_twins (atoms_of m i) ≡ false) (reads : List ℕ) (placed_reads : AreReadsPlaced m reads) (atoms : AreAtomsRead m i) where
  pub cone_made : (c : Cone) (all : List NormalRule) → AllZip (IsNormalRule (atoms_of m i)) rules all
      → IsDependent all (places_at reads 0 (members (variables_of m i))) c.places → c.rules.items ≡ filter (λ (n : NormalRule). has c.places n.head) all → IsConeOf m i rules c
  cone_made c all placed depend chosen = record {
    in_range = λ k member. low k (depend.least (such_that (length (atoms_of m i)) (λ k. true)) (within_all (atoms_of m i) apart (places_at reads 0 (members (variables_of m i))) start_low) (bodies_within_all (atoms_of m i) apart rules all placed) k member);
    cone = record {
      read = λ v r n var own is_atom. (
          let here = read_place m i reads placed_reads atoms v r n var own is_atom in
          let inside : IsAmong v (members (variables_of m i)) = ((members_listing (variables_of m i)).exactly v).1 (has-variables_of m i v r var ∙ eq-eqb r.context i own) in
          sym (lies_is (atoms_of m i) n (get_or reads v 0) here c.places)
          ∙ (lies_within-is (get_or reads v 0) c.places).1 (λ k h. depend.more k (places_from reads (members (variables_of m i)) 0 k (inr (v, inside, h)))));
      bodies = bodies_within (atoms_of m i) apart rules all c.places placed depend.dependent;
    };
    placed = subst (λ (ns : List NormalRule). AllZip (IsNormalRule (atoms_of m i)) (rules_for (true_names 0 (atoms_of m i) c.places) rules) ns) (sym chosen) (rules_at_all (atoms_of m i) c.places rules all placed);
  }
    where
      low : (k : ℕ) → has (such_that (length (atoms_of m i)) (λ k. true)) k ≡ true → k < length (atoms_of m i)
      low k member = ltb-true k (length (atoms_of m i)) (and_parts (ltb k (length (atoms_of m i))) true (sym (has-such_that (length (atoms_of m i)) (λ k. true) k) ∙ member)).0

      start_low : (k : ℕ) → has (places_at reads 0 (members (variables_of m i))) k ≡ true → k < length (atoms_of m i)
      start_low k member = elim (places_to reads (members (variables_of m i)) 0 k member) [
        | inl none ↦ absurd (true≢false (sym none ∙ has-empty k))
        | inr of_read ↦ (
            let (v, among, h) = of_read in
            let (r, var, own) = variable_there m i v (((members_listing (variables_of m i)).exactly v).0 among) in
            let (n, atom) = atoms v r var own in
            places_in_range (atoms_of m i) apart (n ∷ []) (get_or reads v 0) (read_place m i reads placed_reads atoms v r n var own atom) k h)
      ]

  -- what it tells with the heads of x: the places of these are those of the heads into the context
  pub cone_derives : (c : Cone) → IsConeOf m i rules c → (against x start at : ℕ) → AreOfHeads (atoms_of m i) (heads_into m i x) start → IsLeastModel c.rules.items against start at
      → Derives m i (true_names 0 (atoms_of m i) c.places) (true_names 0 (atoms_of m i) against) (Program rules) x (numbers_at reads at 0 (members (variables_of m i)))
  cone_derives c is against x start at heads least = (
    true_names 0 (atoms_of m i) at,
    answer_of (true_names 0 (atoms_of m i) against) (rules_for (true_names 0 (atoms_of m i) c.places) rules) (heads_into m i x) (true_names 0 (atoms_of m i) at)
        (least_at (atoms_of m i) apart (rules_for (true_names 0 (atoms_of m i) c.places) rules) c.rules.items is.placed against (heads_into m i x) start at heads least),
    tells_at m i reads placed_reads atoms at,
  )

-- ---- the places of heads
pub head_among_from : (k : ℕ) (bs : List Bridge) (i x j : ℕ) (b : Bridge) → slice_get bs j ≡ Some b → b.target ≡ i → has x (k + j) ≡ true → IsAmong b.head (heads_from k bs i x)
head_among_from k [] i x j b is own h = cc
head_among_from k (d ∷ bs) i x zero b is own h =
    let same : d ≡ b = same_Some d b is in
    at (has x k && eqb d.target i) (and_from (has x k) (eqb d.target i) (ap (has x) (let z : k ≡ k + 0 = omega arith in z) ∙ h) (eq-eqb d.target i (ap (λ (y : Bridge). y.target) same ∙ own)))
  where
    at : (v : Bool) → v ≡ true → IsAmong b.head (cond v (d.head ∷ heads_from (k + 1) bs i x) (heads_from (k + 1) bs i x))
    at true e = inl (ap (λ (y : Bridge). y.head) (sym (same_Some d b is)))
    at false e = absurd (true≢false (sym e))
head_among_from k (d ∷ bs) i x (suc j) b is own h = at (has x k && eqb d.target i) (head_among_from (k + 1) bs i x j b is own (ap (has x) (let z : k + 1 + j ≡ k + suc j = omega arith in z) ∙ h))
  where
    at : (v : Bool) → IsAmong b.head (heads_from (k + 1) bs i x) → IsAmong b.head (cond v (d.head ∷ heads_from (k + 1) bs i x) (heads_from (k + 1) bs i x))
    at true rest = inr rest
    at false rest = rest

-- a head is that of a rule
pub record IsHeadOf (bs : List Bridge) (k i x : ℕ) (f : Formula) : Type 0 where
  pub place : ℕ
  pub rule : Bridge
  pub is_its : slice_get bs place ≡ Some rule
  pub own : rule.target ≡ i
  pub member : has x (k + place) ≡ true
  pub head_is : f ≡ rule.head

pub head_from : (k : ℕ) (bs : List Bridge) (i x : ℕ) (f : Formula) → IsAmong f (heads_from k bs i x) → IsHeadOf bs k i x f
head_from k [] i x f among = absurd among
head_from k (d ∷ bs) i x f among = at (has x k && eqb d.target i) refl among (λ rest. head_from (k + 1) bs i x f rest)
  where
    moved : IsHeadOf bs (k + 1) i x f → IsHeadOf (d ∷ bs) k i x f
    moved h = record { place = suc h.place; rule = h.rule; is_its = h.is_its; own = h.own; member = ap (has x) (let z : k + suc h.place ≡ k + 1 + h.place = omega arith in z) ∙ h.member; head_is = h.head_is }

    at : (v : Bool) → (has x k && eqb d.target i) ≡ v → IsAmong f (cond v (d.head ∷ heads_from (k + 1) bs i x) (heads_from (k + 1) bs i x)) → (IsAmong f (heads_from (k + 1) bs i x) → IsHeadOf bs (k + 1) i x f) → IsHeadOf (d ∷ bs) k i x f
    at true e (inl same) later = let (inside, own) = and_parts (has x k) (eqb d.target i) e in
        record { place = 0; rule = d; is_its = refl; own = eqb-true d.target i own; member = ap (has x) (let z : k + 0 ≡ k = omega arith in z) ∙ inside; head_is = same }
    at true e (inr rest) later = moved (later rest)
    at false e rest later = moved (later rest)

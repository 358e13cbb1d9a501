-- Rules by the places of their atoms: what fires, least models, and what a context tells by them.
use Rattle.std.proofs.Common.{◌≡◌, ℕ, Bool, true, false, cond, ◌&&◌, List, [], ◌∷◌, get_or, ◌⊎◌, inl, inr, ◌↔◌, refl, sym, ap, ◌∙◌, subst, true≢false}
use Rattle.std.proofs.lemmas.Bool.{and_parts, or_left, eq-eqb, eqb-true, false_from_ne_true}
use Rattle.std.proofs.Math.Bool.{and-true, or-false}
use Rattle.std.specs.List.{AllZip}
use Rattle.mcs_sets.specs.Sets.{has, single, union, members, Meets}
use Rattle.mcs_sets.proofs.SetLemmas.{has-empty, has-single}
use Rattle.mcs_sets.proofs.Lattice.{has-single_itself, in_union, in_with, within_union_left, within_union_right}
use Rattle.mcs_base.specs.Listings.{IsAmong}
use Rattle.mcs_base.proofs.Among.{zip_among, among_zip}
use Rattle.mcs_base.proofs.AntichainLemmas.{lies_within-is}
use Rattle.mcs_base.proofs.Each.{all_among, all_from_among}
use Rattle.mcs_base.proofs.ListingLemmas.{members_listing}
use Rattle.mcs_system.specs.Plain.{Name, Formula, Atom, ProgramRule, Read, System}
use Rattle.mcs_system.specs.Atoms.{atoms_of}
use Rattle.mcs_system.specs.Faults.{has_twins}
use Rattle.mcs_system.specs.Logic.{same_name, is_in, true_names, satisfies, Atoms, Believes}
use Rattle.mcs_system.specs.Systems.{variables_of, IsVariable}
use Rattle.mcs_system.proofs.ContextSets.{variable_there}
use Rattle.mcs_system.proofs.VariableLemmas.{has-variables_of}
use Rattle.mcs_system.proofs.NameLemmas.{is_in-filter}
use Rattle.mcs_system.proofs.Sameness.{same_name-itself}
use Rattle.mcs_system.proofs.Tables.{places, true_names-places}
use Rattle.mcs_evidence.proofs.Models.{all_in, any_in, all_in_each, all_in_from, any_in_from, satisfies_from, satisfies_head, true_names-known}
use Rattle.mcs_program.specs.Placing.{do_meet, places_within, IsPlaceOf, ArePlaces}
use Rattle.mcs_program.proofs.PlaceLemmas.{meet_test, place_at}
use Rattle.mcs_grounded.specs.Derivations.{Tells}
use Rattle.mcs_grounded.specs.Parts.{IsNormalRule, DoesFire, AreClosedUnder, IsLeastModel, AreReadsPlaced, numbers_at, places_at}
use Rattle.mcs_grounded.specs.declared.placed.NormalRule.{NormalRule}
use Rattle.mcs_reduct.proofs.Programs.{Models, IsLeastOf, head_in}

-- the places are those of the atoms among the heads
pub record AreOfHeads (names : List Name) (hs : List Formula) (start : ℕ) : Type 0 where
  pub each : (k : ℕ) → has start k ≡ true → (n : Name) × IsAmong (Atom n) hs × IsPlaceOf names n k
  pub all : (n : Name) → IsAmong (Atom n) hs → (k : ℕ) × (has start k ≡ true) × IsPlaceOf names n k

-- ---- one rule
module _ (names : List Name) (r : ProgramRule) (n : NormalRule) (is : IsNormalRule names r n) where
  pub fires_parts : (against at : ℕ) → DoesFire against at n → (any_in (true_names 0 names against) r.neg ≡ false) × (all_in (true_names 0 names at) r.pos ≡ true)
  fires_parts against at fire = (
    false_from_ne_true (any_in (true_names 0 names against) r.neg) (λ h.
        let meets : Meets n.neg against = (meet_test n.neg against).0 (is.negative.some against ∙ h) in
        fire.in_reduct meets.member meets.in_first meets.in_second),
    sym (is.positive.all at) ∙ (lies_within-is n.pos at).1 fire.supported,
  )

  pub parts_fire : (against at : ℕ) → any_in (true_names 0 names against) r.neg ≡ false → all_in (true_names 0 names at) r.pos ≡ true → DoesFire against at n
  parts_fire against at left body = record {
    in_reduct = λ k inside there. true≢false (sym (sym (is.negative.some against) ∙ (meet_test n.neg against).1 (record { member = k; in_first = inside; in_second = there })) ∙ left);
    supported = (lies_within-is n.pos at).0 (is.positive.all at ∙ body);
  }

-- ---- names at places
module _ (names : List Name) (single_names : has_twins names ≡ false) where
  pub place_known : (n : Name) (k : ℕ) → IsPlaceOf names n k → is_in n names ≡ true
  place_known n k place = true_names-known n 0 names (single k) (place.tells (single k) ∙ has-single_itself k)

  -- the places of the names that are among others
  pub has-places : (b : List Name) (n : Name) (k : ℕ) → IsPlaceOf names n k → has (places (λ x. is_in x b) names) k ≡ is_in n b
  has-places b n k place =
      sym (place.tells (places (λ x. is_in x b) names)) ∙ ap (is_in n) (true_names-places (λ x. is_in x b) names) ∙ is_in-filter (λ x. is_in x b) n names
      ∙ ap (λ (v : Bool). v && is_in n b) (place_known n k place)

  pub in_places : (b : List Name) (n : Name) → is_in n (true_names 0 names (places (λ x. is_in x b) names)) ≡ true → is_in n b ≡ true
  in_places b n h = (and_parts (is_in n names) (is_in n b) (sym (is_in-filter (λ x. is_in x b) n names) ∙ sym (ap (is_in n) (true_names-places (λ x. is_in x b) names)) ∙ h)).1

  -- ---- least models
  module _ (rules : List ProgramRule) (ns : List NormalRule) (placed : AllZip (IsNormalRule names) rules ns) (against : ℕ) where
    -- places that are closed satisfy the rules of the reduct
    closed_satisfies : (at : ℕ) → AreClosedUnder ns against at → (r : ProgramRule) → IsAmong r rules → any_in (true_names 0 names against) r.neg ≡ false → satisfies (true_names 0 names at) r ≡ true
    closed_satisfies at closed r among left = satisfies_from (true_names 0 names at) r (λ body.
        let (n, there, is) = zip_among (IsNormalRule names) rules ns placed r among in
        let member = all_among (λ (n : NormalRule). DoesFire against at n → has at n.head ≡ true) ns n closed there (parts_fire names r n is against at left body) in
        any_in_from (true_names 0 names at) r.head is.atom (ap (is_in is.atom) is.one_head ∙ or_left (same_name is.atom is.atom) false (same_name-itself is.atom)) (is.head.tells at ∙ member))

    -- the places of a model are closed
    model_closed : (hs : List Formula) (b : List Name) → Models (true_names 0 names against) rules hs b → AreClosedUnder ns against (places (λ x. is_in x b) names)
    model_closed hs b m = all_from_among (λ (n : NormalRule). DoesFire against (places (λ x. is_in x b) names) n → has (places (λ x. is_in x b) names) n.head ≡ true) ns (λ n there fire. (
        let (r, among, is) = among_zip (IsNormalRule names) rules ns placed n there in
        let (left, body) = fires_parts names r n is against (places (λ x. is_in x b) names) fire in
        let body' = all_in_from b r.pos (λ p inside. in_places b p (all_in_each (true_names 0 names (places (λ x. is_in x b) names)) r.pos body p inside)) in
        has-places b is.atom n.head is.head ∙ head_in b r is.atom is.one_head (satisfies_head b r (m.each r among left) body')))

    pub least_at : (hs : List Formula) (start at : ℕ) → AreOfHeads names hs start → IsLeastModel ns against start at → IsLeastOf (true_names 0 names against) rules hs (true_names 0 names at)
    least_at hs start at heads l = record {
      model = record { each = closed_satisfies at l.closed; heads = λ n told. (let (k, member, place) = heads.all n told in place.tells at ∙ l.more k member) };
      least = λ b m n here. (
          let (k, place) = place_at names single_names n (true_names-known n 0 names at here) in
          let within = l.least (places (λ x. is_in x b) names) (λ j member. (let (h, told, its) = heads.each j member in has-places b h j its ∙ m.heads h told)) (model_closed hs b m) in
          sym (has-places b n k place) ∙ within k (sym (place.tells at) ∙ here));
    }

-- ---- the place of one name, as a set
module _ (names : List Name) (n : Name) (p : ℕ) (placed : ArePlaces names (n ∷ []) p) where
  -- it meets places exactly where the name is among those at them, and so it lies within them
  pub meets_is : (s : ℕ) → do_meet p s ≡ is_in n (true_names 0 names s)
  meets_is s = placed.some s ∙ or-false (is_in n (true_names 0 names s))

  pub lies_is : (s : ℕ) → places_within p s ≡ is_in n (true_names 0 names s)
  lies_is s = placed.all s ∙ and-true (is_in n (true_names 0 names s))

  -- each member of the set is the place
  pub place_from : has_twins names ≡ false → (k : ℕ) → has p k ≡ true → IsPlaceOf names n k
  place_from apart k member =
      let there : is_in n (true_names 0 names (single k)) ≡ true = sym (meets_is (single k)) ∙ (meet_test p (single k)).1 (record { member = k; in_first = member; in_second = has-single_itself k }) in
      let (j, place) = place_at names apart n (true_names-known n 0 names (single k) there) in
      let same : j ≡ k = eqb-true j k (sym (has-single k j) ∙ sym (place.tells (single k)) ∙ there) in
      subst (IsPlaceOf names n) same place

  -- and there is one
  pub place_in : has_twins names ≡ false → is_in n names ≡ true → (k : ℕ) × (has p k ≡ true) × IsPlaceOf names n k
  place_in apart known =
      let (j, place) = place_at names apart n known in
      let meets : Meets p (single j) = (meet_test p (single j)).0 (meets_is (single j) ∙ place.tells (single j) ∙ has-single_itself j) in
      let same : meets.member ≡ j = eqb-true meets.member j (sym (has-single j meets.member) ∙ meets.in_second) in
      (j, subst (λ (k : ℕ). has p k ≡ true) same meets.in_first, place)

-- ---- sets by their numbers
pub places_to : (sets ks : List ℕ) (s k : ℕ) → has (places_at sets s ks) k ≡ true → (has s k ≡ true) ⊎ ((j : ℕ) × IsAmong j ks × (has (get_or sets j 0) k ≡ true))
places_to sets [] s k h = inl h
places_to sets (j ∷ js) s k h = elim (places_to sets js (union s (get_or sets j 0)) k h) [
  | inl now ↦ elim (in_union s (get_or sets j 0) k now) [ inl old ↦ inl old | inr here ↦ inr (j, inl refl, here) ]
  | inr later ↦ (let (i, among, there) = later in inr (i, inr among, there))
]

pub places_from : (sets ks : List ℕ) (s k : ℕ) → (has s k ≡ true) ⊎ ((j : ℕ) × IsAmong j ks × (has (get_or sets j 0) k ≡ true)) → has (places_at sets s ks) k ≡ true
places_from sets [] s k (inl h) = h
places_from sets [] s k (inr (j, among, h)) = absurd among
places_from sets (j ∷ js) s k (inl h) = places_from sets js (union s (get_or sets j 0)) k (inl (within_union_left s (get_or sets j 0) k h))
places_from sets (j ∷ js) s k (inr (i, inl same, h)) = places_from sets js (union s (get_or sets j 0)) k (inl (within_union_right s (get_or sets j 0) k (ap (λ (x : ℕ). has (get_or sets x 0) k) (sym same) ∙ h)))
places_from sets (j ∷ js) s k (inr (i, inr among, h)) = places_from sets js (union s (get_or sets j 0)) k (inr (i, among, h))

pub numbers_to : (sets ks : List ℕ) (s chosen v : ℕ) → has (numbers_at sets s chosen ks) v ≡ true → (has chosen v ≡ true) ⊎ (IsAmong v ks × (do_meet (get_or sets v 0) s ≡ true))
numbers_to sets [] s chosen v h = inl h
numbers_to sets (k ∷ ks) s chosen v h = at (do_meet (get_or sets k 0) s) refl (λ now there. numbers_to sets ks s now v there) h
  where
    at : (b : Bool) → do_meet (get_or sets k 0) s ≡ b → ((now : ℕ) → has (numbers_at sets s now ks) v ≡ true → (has now v ≡ true) ⊎ (IsAmong v ks × (do_meet (get_or sets v 0) s ≡ true)))
        → has (numbers_at sets s (cond b (union chosen (single k)) chosen) ks) v ≡ true → (has chosen v ≡ true) ⊎ (IsAmong v (k ∷ ks) × (do_meet (get_or sets v 0) s ≡ true))
    at true e rest h = elim (rest (union chosen (single k)) h) [
      | inl now ↦ elim ((in_with chosen k v).0 now) [ inl old ↦ inl old | inr same ↦ inr (inl same, ap (λ (j : ℕ). do_meet (get_or sets j 0) s) same ∙ e) ]
      | inr later ↦ inr (inr later.0, later.1)
    ]
    at false e rest h = elim (rest chosen h) [ inl old ↦ inl old | inr later ↦ inr (inr later.0, later.1) ]

pub numbers_from : (sets ks : List ℕ) (s chosen v : ℕ) → (has chosen v ≡ true) ⊎ (IsAmong v ks × (do_meet (get_or sets v 0) s ≡ true)) → has (numbers_at sets s chosen ks) v ≡ true
numbers_from sets [] s chosen v (inl h) = h
numbers_from sets [] s chosen v (inr both) = absurd both.0
numbers_from sets (k ∷ ks) s chosen v which = at (do_meet (get_or sets k 0) s) refl (λ now there. numbers_from sets ks s now v there) which
  where
    at : (b : Bool) → do_meet (get_or sets k 0) s ≡ b → ((now : ℕ) → (has now v ≡ true) ⊎ (IsAmong v ks × (do_meet (get_or sets v 0) s ≡ true)) → has (numbers_at sets s now ks) v ≡ true)
        → (has chosen v ≡ true) ⊎ (IsAmong v (k ∷ ks) × (do_meet (get_or sets v 0) s ≡ true)) → has (numbers_at sets s (cond b (union chosen (single k)) chosen) ks) v ≡ true
    at true e rest (inl old) = rest (union chosen (single k)) (inl ((in_with chosen k v).1 (inl old)))
    at true e rest (inr (inl same, meet)) = rest (union chosen (single k)) (inl ((in_with chosen k v).1 (inr same)))
    at true e rest (inr (inr later, meet)) = rest (union chosen (single k)) (inr (later, meet))
    at false e rest (inl old) = rest chosen (inl old)
    at false e rest (inr (inl same, meet)) = absurd (true≢false (sym meet ∙ ap (λ (j : ℕ). do_meet (get_or sets j 0) s) same ∙ e))
    at false e rest (inr (inr later, meet)) = rest chosen (inr (later, meet))

-- ---- what is read at places
-- what is read of context i are atoms
abbrev pub AreAtomsRead : System → ℕ → Type 0
AreAtomsRead m i = (v : ℕ) (r : Read) → IsVariable m v r → r.context ≡ i → (n : Name) × (r.belief ≡ Atom n)

module _ (m : System) (i : ℕ) (reads : List ℕ) (placed : AreReadsPlaced m reads) (atoms : AreAtomsRead m i) where
  pub read_place : (v : ℕ) (r : Read) (n : Name) → IsVariable m v r → r.context ≡ i → r.belief ≡ Atom n → ArePlaces (atoms_of m i) (n ∷ []) (get_or reads v 0)
  read_place v r n var own atom = subst (λ (j : ℕ). ArePlaces (atoms_of m j) (n ∷ []) (get_or reads v 0)) own (placed v r var n atom)

  believed : (v : ℕ) (r : Read) → IsVariable m v r → r.context ≡ i → (at : ℕ) → (do_meet (get_or reads v 0) at ≡ true) ↔ Believes (Atoms (true_names 0 (atoms_of m i) at)) r.belief
  believed v r var own at =
      let (n, atom) = atoms v r var own in
      let here = meets_is (atoms_of m i) n (get_or reads v 0) (read_place v r n var own atom) at in (
        λ h. subst (Believes (Atoms (true_names 0 (atoms_of m i) at))) (sym atom) (sym here ∙ h),
        λ h. here ∙ subst (Believes (Atoms (true_names 0 (atoms_of m i) at))) atom h,
      )

  pub tells_at : (at : ℕ) → Tells m i (Atoms (true_names 0 (atoms_of m i) at)) (numbers_at reads at 0 (members (variables_of m i)))
  tells_at at v = (to, from)
    where
      to : has (numbers_at reads at 0 (members (variables_of m i))) v ≡ true → (r : Read) × IsVariable m v r × (r.context ≡ i) × Believes (Atoms (true_names 0 (atoms_of m i) at)) r.belief
      to h = elim (numbers_to reads (members (variables_of m i)) at 0 v h) [
        | inl none ↦ absurd (true≢false (sym none ∙ has-empty v))
        | inr both ↦ (let (r, var, own) = variable_there m i v (((members_listing (variables_of m i)).exactly v).0 both.0) in (r, var, own, (believed v r var own at).0 both.1))
      ]

      from : (r : Read) × IsVariable m v r × (r.context ≡ i) × Believes (Atoms (true_names 0 (atoms_of m i) at)) r.belief → has (numbers_at reads at 0 (members (variables_of m i))) v ≡ true
      from (r, var, own, h) = numbers_from reads (members (variables_of m i)) at 0 v
          (inr (((members_listing (variables_of m i)).exactly v).1 (has-variables_of m i v r var ∙ eq-eqb r.context i own), (believed v r var own at).1 h))

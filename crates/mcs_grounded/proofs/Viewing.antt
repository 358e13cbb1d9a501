-- The views of a program's cone: what its answer sets have of the atoms of the cone.
use Rattle.std.proofs.Common.{Bor, ◌≡◌, ℕ, ◌<◌, true, false, ◌↔◌, List, map, get_or, length, Some, sym, ap, ◌∙◌, subst, slice_get, ◌++◌, [], ◌∷◌, inl, inr, IsTrue}
use Rattle.std.proofs.lemmas.Option.{same_Some, get_or_from_slice_get, slice_get-get_or}
use Rattle.std.specs.Cmp.{both_ways}
use Rattle.std.specs.List.{AllByRecursion}
use Rattle.mcs_sets.proofs.SetLemmas.{same_set}
use Rattle.mcs_sets.specs.Sets.{has, common, members}
use Rattle.mcs_sets.specs.Orders.{StateBefore}
use Rattle.mcs_base.specs.Listings.{IsAmong, IsListing}
use Rattle.mcs_base.proofs.Among.{among_left, among_right, among_either, among_get, get_among, among_map, map_among}
use Rattle.mcs_base.proofs.Deciding.{places_where, has-places_where}
use Rattle.mcs_base.proofs.Each.{all_from_among}
use Rattle.mcs_base.proofs.ListingLemmas.{members_listing}
use Rattle.mcs_base.proofs.Lists.{slice_get-map_some}
use Rattle.mcs_system.specs.Plain.{Name, Atom, Kb, Program, ProgramRule, Context, Read, System}
use Rattle.mcs_system.specs.Atoms.{atoms_of}
use Rattle.mcs_system.specs.Faults.{has_twins}
use Rattle.mcs_system.specs.Logic.{is_in, true_names, BeliefSet, Theory, Atoms, Believes, Accepts, with_heads}
use Rattle.mcs_system.specs.Systems.{variables_of, applicable, heads_into, AcceptsWith, IsVariable}
use Rattle.mcs_system.specs.Views.{Shows, IsAcceptedView, at_places}
use Rattle.mcs_laws.proofs.Views.{has-at_places}
use Rattle.mcs_system.proofs.NameLemmas.{is_in-among}
use Rattle.mcs_evidence.specs.Programs.{IsInRange}
use Rattle.mcs_evidence.proofs.Models.{true_names-known}
use Rattle.mcs_program.proofs.PlaceLemmas.{place_at}
use Rattle.mcs_reduct.proofs.Beliefs.{decided}
use Rattle.mcs_grounded.specs.Derivations.{Tells}
use Rattle.mcs_grounded.specs.Parts.{AreReadsPlaced, IsProgramAt, IsConeOf, numbers_at}
use Rattle.mcs_grounded.specs.Views.{name_at, names_there, IsPartAt, IsAnswerAt, AreConeSets, AreShown, shown_at, HasOfCone, IsConeView, AreViewsOf}
use Rattle.mcs_grounded.specs.declared.cone.Cone.{Cone}
use Rattle.mcs_grounded.specs.declared.basis.Derivation.{Derivation}
use Rattle.mcs_grounded.proofs.Cones.{name_there}
use Rattle.mcs_grounded.proofs.AtPlaces.{AreAtomsRead, tells_at}

-- ---- the view of the names at places, and the places themselves
-- where it shows a set of atoms, the members at its places are those whose names are among these
pub part_of_view : (names : List Name) (cone : ℕ) (a : List Name) (view : ℕ) → Shows (Atoms a) (map Atom (names_there names cone)) view → IsPartAt names cone a (at_places cone view)
part_of_view names cone a view shows k = (to, from)
  where
    to : has (at_places cone view) k ≡ true → (has cone k ≡ true) × (is_in (name_at names k) a ≡ true)
    to member =
        let (j, is, on) = (has-at_places cone view k).0 member in
        let (f, there, believed) = (shows j).0 on in
        let here : slice_get (map Atom (names_there names cone)) j ≡ Some (Atom (name_at names k)) = slice_get-map_some Atom (names_there names cone) j (name_at names k) (slice_get-map_some (name_at names) (members cone) j k is) in (
          ((members_listing cone).exactly k).0 (among_get k (members cone) j is),
          subst (Believes (Atoms a)) (same_Some f (Atom (name_at names k)) (sym there ∙ here)) believed,
        )

    from : (has cone k ≡ true) × (is_in (name_at names k) a ≡ true) → has (at_places cone view) k ≡ true
    from (inside, in_a) =
        let (j, is) = get_among k (members cone) (((members_listing cone).exactly k).1 inside) in
        (has-at_places cone view k).1 (j, is, (shows j).1 (Atom (name_at names k), slice_get-map_some Atom (names_there names cone) j (name_at names k) (slice_get-map_some (name_at names) (members cone) j k is), in_a))

-- the views of all answer sets give the sets
pub sets_of_views : (m : System) (σ i : ℕ) (rules : List ProgramRule) (cone : ℕ) (views : List ℕ)
    → IsListing (IsAcceptedView (with_heads (Program rules) (heads_into m i (applicable m σ))) (map Atom (names_there (atoms_of m i) cone))) StateBefore views → AreConeSets m σ i rules cone (map (at_places cone) views)
sets_of_views m σ i rules cone views listed = record { each = each; all = all }
  where
    of_view : (view : ℕ) → (b : BeliefSet) → Accepts (with_heads (Program rules) (heads_into m i (applicable m σ))) b → Shows b (map Atom (names_there (atoms_of m i) cone)) view
        → (a : List Name) × IsAnswerAt m σ i rules a × IsPartAt (atoms_of m i) cone a (at_places cone view)
    of_view view (Theory e) accepts shows = absurd accepts
    of_view view (Atoms a) accepts shows = (a, accepts, part_of_view (atoms_of m i) cone a view shows)

    each : (set : ℕ) → IsAmong set (map (at_places cone) views) → (a : List Name) × IsAnswerAt m σ i rules a × IsPartAt (atoms_of m i) cone a set
    each set among =
        let (view, there, same) = map_among (at_places cone) set views among in
        let v = (listed.exactly view).0 there in
        let (a, answer, part) = of_view view v.belief_set v.accepted v.shown in
        (a, answer, subst (IsPartAt (atoms_of m i) cone a) (sym same) part)

    all : (a : List Name) → IsAnswerAt m σ i rules a → (set : ℕ) × IsAmong set (map (at_places cone) views) × IsPartAt (atoms_of m i) cone a set
    all a answer =
        let beliefs = map Atom (names_there (atoms_of m i) cone) in
        let view = places_where (Believes (Atoms a)) (decided (Atoms a)) beliefs in
        let shows : Shows (Atoms a) beliefs view = has-places_where (Believes (Atoms a)) (decided (Atoms a)) beliefs in
        (at_places cone view, among_map (at_places cone) view views ((listed.exactly view).1 (record { belief_set = Atoms a; accepted = answer; shown = shows })), part_of_view (atoms_of m i) cone a view shows)

-- ---- names that are lent
-- one more, of those that were still to come the first
pub lent_name : (old : List (Bor Name)) (x : Bor Name) (n : Name) (rest : List Name) → x.now ≡ n → map (λ b. b.now) (old ++ x ∷ []) ++ rest ≡ map (λ b. b.now) old ++ n ∷ rest
lent_name [] x n rest same = ap (λ (y : Name). y ∷ rest) same
lent_name (y ∷ old) x n rest same = ap (λ (ns : List Name). y.now ∷ ns) (lent_name old x n rest same)

pub name_read : (names : List Name) (k : ℕ) (d : Name) → k < length names → get_or names k d ≡ name_at names k
name_read names k d less = sym (get_or_from_slice_get names k (get_or names k d) [] (slice_get-get_or names k d less))

-- the names at places in range are among the names
pub names_known : (names : List Name) (places : ℕ) → IsInRange names places → AllByRecursion (λ n. IsTrue (is_in n names)) (names_there names places)
names_known names places range = all_from_among (λ n. IsTrue (is_in n names)) (names_there names places) (λ n among.
    let (k, inside, same) = map_among (name_at names) n (members places) among in
    let less = range k (((members_listing places).exactly k).0 inside) in
    subst (λ (x : Name). is_in x names ≡ true) (sym same) ((is_in-among (name_at names k) names).1 (among_get (name_at names k) names k (slice_get-get_or names k [] less))))

module _ (m : System) (i : ℕ) (rules : List ProgramRule) (apart : has_twins (atoms_of m i) ≡ false) (cone : Cone) (is : IsConeOf m i rules cone) (reads : List ℕ) (placed : AreReadsPlaced m reads) (atoms : AreAtomsRead m i) where
  -- ---- one set of atoms and its places
  module _ (a : List Name) (set : ℕ) (part : IsPartAt (atoms_of m i) cone.places a set) where
    -- the name at the place of a name is that name
    at_place : (n : Name) (k : ℕ) → slice_get (atoms_of m i) k ≡ Some n → name_at (atoms_of m i) k ≡ n
    at_place n k there = get_or_from_slice_get (atoms_of m i) k n [] there

    -- so it is, by names
    within_cone : (n : Name) → is_in n (true_names 0 (atoms_of m i) set) ≡ true → is_in n (true_names 0 (atoms_of m i) cone.places) ≡ true
    within_cone n inside =
        let (k, place) = place_at (atoms_of m i) apart n (true_names-known n 0 (atoms_of m i) set inside) in
        place.tells cone.places ∙ ((part k).0 (sym (place.tells set) ∙ inside)).0

    of_cone_is : HasOfCone m i cone.places set (Atoms a)
    of_cone_is n on =
        let (k, place) = place_at (atoms_of m i) apart n (true_names-known n 0 (atoms_of m i) cone.places on) in
        let same : name_at (atoms_of m i) k ≡ n = at_place n k (name_there (atoms_of m i) n k place) in (
          λ inside. place.tells set ∙ (part k).1 (sym (place.tells cone.places) ∙ on, ap (λ (y : Name). is_in y a) same ∙ inside),
          λ inside. ap (λ (y : Name). is_in y a) (sym same) ∙ ((part k).0 (sym (place.tells set) ∙ inside)).1,
        )

    -- what is believed of the variables of the context is shown at these places
    module _ (v : ℕ) (r : Read) (var : IsVariable m v r) (own : r.context ≡ i) where
      believed_in : Believes (Atoms (true_names 0 (atoms_of m i) set)) r.belief → Believes (Atoms a) r.belief
      believed_in h =
          let (n, atom) = atoms v r var own in
          subst (Believes (Atoms a)) (sym atom) ((of_cone_is n (is.cone.read v r n var own atom)).1 (subst (Believes (Atoms (true_names 0 (atoms_of m i) set))) atom h))

      shown_of : Believes (Atoms a) r.belief → Believes (Atoms (true_names 0 (atoms_of m i) set)) r.belief
      shown_of h =
          let (n, atom) = atoms v r var own in
          subst (Believes (Atoms (true_names 0 (atoms_of m i) set))) (sym atom) ((of_cone_is n (is.cone.read v r n var own atom)).0 (subst (Believes (Atoms a)) atom h))

    tells_set : Tells m i (Atoms a) (numbers_at reads set 0 (members (variables_of m i)))
    tells_set v = (
      λ member. (let (r, var, own, h) = (tells_at m i reads placed atoms set v).0 member in (r, var, own, believed_in v r var own h)),
      λ (r, var, own, h). (tells_at m i reads placed atoms set v).1 (r, var, own, shown_of v r var own h),
    )

    tells_from : (τ : ℕ) → numbers_at reads set 0 (members (variables_of m i)) ≡ τ → Tells m i (Atoms a) τ
    tells_from τ same = subst (Tells m i (Atoms a)) same tells_set

    numbers_from : (τ : ℕ) → Tells m i (Atoms a) τ → numbers_at reads set 0 (members (variables_of m i)) ≡ τ
    numbers_from τ tells = same_set (numbers_at reads set 0 (members (variables_of m i))) τ (λ v. both_ways _ _ (λ h. (tells v).1 ((tells_set v).0 h)) (λ h. (tells_set v).1 ((tells v).0 h)))

  -- ---- all of them
  module _ (σ : ℕ) (there : IsProgramAt m i rules) (sets found : List ℕ) (all : AreConeSets m σ i rules cone.places sets) (shown : (set : ℕ) → IsAmong set found ↔ (IsAmong set sets × (numbers_at reads set 0 (members (variables_of m i)) ≡ common σ (variables_of m i)))) where
    accepts_with : (b : BeliefSet) → Accepts (with_heads (Program rules) (heads_into m i (applicable m σ))) b → AcceptsWith m i (applicable m σ) b
    accepts_with b accepts = let (c, own, kb) = there in (c, own, subst (λ (k : Kb). Accepts (with_heads k (heads_into m i (applicable m σ))) b) (sym kb) accepts)

    accepted_by : (b : BeliefSet) → AcceptsWith m i (applicable m σ) b → Accepts (with_heads (Program rules) (heads_into m i (applicable m σ))) b
    accepted_by b (d, there', accepts) =
        let (c, own, kb) = there in
        let one : d ≡ c = same_Some d c (sym there' ∙ own) in
        subst (λ (k : Kb). Accepts (with_heads k (heads_into m i (applicable m σ))) b) (ap (λ (x : Context). x.kb) one ∙ kb) accepts

    each_view : (places : ℕ) → IsAmong places found → IsConeView m σ i cone.places places
    each_view places among =
        let (of_sets, tells) = (shown places).0 among in
        let (a, answer, part) = all.each places of_sets in
        record {
          belief = Atoms a;
          accepted = accepts_with (Atoms a) answer;
          tells = tells_from a places part (common σ (variables_of m i)) tells;
          within = within_cone a places part;
          atoms = of_cone_is a places part;
        }

    all_views : (b : BeliefSet) → AcceptsWith m i (applicable m σ) b → Tells m i b (common σ (variables_of m i)) → (places : ℕ) × IsAmong places found × HasOfCone m i cone.places places b
    all_views b accepted tells = by b (accepted_by b accepted) tells
      where
        by : (b : BeliefSet) → Accepts (with_heads (Program rules) (heads_into m i (applicable m σ))) b → Tells m i b (common σ (variables_of m i)) → (places : ℕ) × IsAmong places found × HasOfCone m i cone.places places b
        by (Theory e) accepts tells = absurd accepts
        by (Atoms a) accepts tells =
            let (places, of_sets, part) = all.all a accepts in
            (places, (shown places).1 (of_sets, numbers_from a places part (common σ (variables_of m i)) tells), of_cone_is a places part)

    pub are_views : AreViewsOf m σ i cone.places found
    are_views = record { each = each_view; all = all_views }

-- ---- those of the sets that show the state's part, one after the other
pub shown_none : (d : Derivation) (i : ℕ) → AreShown d i [] []
shown_none d i set = (λ among. absurd among, λ both. absurd both.0)

module _ (d : Derivation) (i : ℕ) (sets found : List ℕ) (set : ℕ) (shown : AreShown d i sets found) where
  pub shown_more : shown_at d i set ≡ common d.state (variables_of d.system.now i) → AreShown d i (sets ++ set ∷ []) (found ++ set ∷ [])
  shown_more same x = (
    λ among. elim (among_either x found (set ∷ []) among) [
      | inl old ↦ (let (of_sets, of_x) = (shown x).0 old in (among_left x sets (set ∷ []) of_sets, of_x))
      | inr last ↦ elim last [ inl is ↦ (among_right x sets (set ∷ []) (inl is), ap (shown_at d i) is ∙ same) | inr none ↦ absurd none ]
    ],
    λ (among, of_x). elim (among_either x sets (set ∷ []) among) [
      | inl old ↦ among_left x found (set ∷ []) ((shown x).1 (old, of_x))
      | inr last ↦ among_right x found (set ∷ []) last
    ],
  )

  pub shown_beside : ¬ (shown_at d i set ≡ common d.state (variables_of d.system.now i)) → AreShown d i (sets ++ set ∷ []) found
  shown_beside other x = (
    λ among. (let (of_sets, of_x) = (shown x).0 among in (among_left x sets (set ∷ []) of_sets, of_x)),
    λ (among, of_x). elim (among_either x sets (set ∷ []) among) [
      | inl old ↦ (shown x).1 (old, of_x)
      | inr last ↦ elim last [ inl is ↦ absurd (other (ap (shown_at d i) (sym is) ∙ of_x)) | inr none ↦ absurd none ]
    ],
  )

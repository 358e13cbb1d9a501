-- The search among the belief states within bounds: there is one where each context has one, and what the bounds settle.
use Rattle.std.proofs.Common.{◌≡◌, ℕ, ◌+◌, ◌<◌, zero, suc, Bool, true, false, not, eqb, ltb, cond, List, [], ◌∷◌, length, get_or, Some, ◌⊎◌, inl, inr, ◌↔◌, arith, refl, sym, ap, ◌∙◌, subst, true≢false, slice_get, slice_set, IsTrue}
use Rattle.std.proofs.lemmas.Bool.{and_parts, and_from, eq-eqb, eqb-true, ltb-true, ne_eqb, cases_eq, cases_lt}
use Rattle.std.proofs.lemmas.List.{get_or-set_same, get_or-set_other}
use Rattle.std.proofs.lemmas.Option.{slice_get_within, get_or_from_slice_get}
use Rattle.mcs_sets.specs.Sets.{has, common, Within}
use Rattle.mcs_sets.proofs.SetLemmas.{has-common, has-such_that}
use Rattle.mcs_sets.proofs.Lattice.{in_common}
use Rattle.mcs_base.specs.Listings.{IsAmong}
use Rattle.mcs_base.proofs.Lists.{slice_get_below, choose_below, slice_get-map_some}
use Rattle.mcs_base.proofs.Written.{length-slice_set}
use Rattle.mcs_system.specs.Plain.{Name, Formula, Read, System}
use Rattle.mcs_system.specs.Atoms.{atoms_of}
use Rattle.mcs_system.specs.Logic.{is_in, true_names, BeliefSet, Believes, Accepts, with_heads}
use Rattle.mcs_system.specs.Systems.{variables, variables_of, all_variables, all_rules, applicable, AcceptsWith, Applies, BelievesIn, IsProjection, IsProjectedEquilibrium, IsVariable}
use Rattle.mcs_system.proofs.MarkLemmas.{applicable_within}
use Rattle.mcs_system.proofs.ValidLemmas.{few_contexts}
use Rattle.mcs_system.proofs.VariableLemmas.{variable_in_range, has-variables_of}
use Rattle.mcs_laws.proofs.Projections.{parts_of, acting_at-is}
use Rattle.mcs_reduct.specs.Plain.{IsPlain}
use Rattle.mcs_reduct.specs.Grounded.{IsGroundedState}
use Rattle.mcs_reduct.specs.Shown.{IsShownBy}
use Rattle.mcs_grounded.specs.Derivations.{IsCone, Tells, atoms_at, AreAbove, AreBelow, IsDerived}
use Rattle.mcs_grounded.specs.Parts.{AreConesOf, cones_of, IsProgramContext, IsSetUp}
use Rattle.mcs_grounded.specs.Views.{HasOfCone, IsConeView, AreViewsOf}
use Rattle.mcs_grounded.specs.Searches.{IsKnown, IsBounded, IsCandidate, HasCandidate, HaveCandidates, AreBoundsOf, AreFirstBounds, NoneIsOpen, IsToldAt, differences, NoneIsGrounded, CanSearch, IsOfState}
use Rattle.mcs_grounded.specs.declared.bounds.Bounds.{Bounds}
use Rattle.mcs_grounded.specs.declared.cone.Cone.{Cone}
use Rattle.mcs_grounded.specs.declared.basis.Derivation.{Derivation}
use Rattle.mcs_reduct.proofs.Reduced.{equilibrium_of_reduct}
use Rattle.mcs_reduct.proofs.Shown.{acting_all, acts_is}
use Rattle.mcs_reduct.proofs.Heads.{heads_same}
use Rattle.mcs_grounded.proofs.Cones.{none_at}
use Rattle.mcs_grounded.proofs.Derived.{HaveCones, grounded_where_all, ungrounded_where_less}

pub equal_from_not : (a b : ℕ) → not (eqb a b) ≡ false → a ≡ b
equal_from_not a b h = at (eqb a b) refl h
  where
    at : (v : Bool) → eqb a b ≡ v → not v ≡ false → a ≡ b
    at true e h = eqb-true a b e
    at false e h = absurd (true≢false h)

-- ---- cones
pub have_cones : (m : System) (all : List Cone) → AreConesOf m all → HaveCones m (cones_of all)
have_cones m all are i c rules is e =
    let (cone, own) = slice_get_below all i (omega (arith, slice_get_within m.contexts i c is, are.one_each)) in
    subst (λ (x : ℕ). IsCone m i rules (true_names 0 (atoms_of m i) x)) (sym (get_or_from_slice_get (cones_of all) i cone.places 0 (slice_get-map_some (λ (c : Cone). c.places) all i cone own))) ((are.own i cone own).of_program rules (c, is, e)).cone

module _ (m : System) (σ : ℕ) (cones : List ℕ) where
  -- ---- a candidate of each context makes a state
  candidate_state : (bounds : Bounds) → Within σ (all_variables m) → HaveCandidates m σ cones bounds → (s : List BeliefSet) × IsCandidate m σ cones bounds s
  candidate_state bounds within have = let (s, long, all) = choose_below Q (length m.contexts) (λ i less. (let h = have i less in (h.belief, ((h.accepted, h.tells), h.bounded)))) in made s long all
    where
      Q : ℕ → BeliefSet → Type 0
      Q i b = (AcceptsWith m i (applicable m σ) b × Tells m i b (common σ (variables_of m i))) × IsBounded m cones bounds i b

      to : (s : List BeliefSet) → length s ≡ length m.contexts → ((i : ℕ) (b : BeliefSet) → slice_get s i ≡ Some b → Q i b) → (v : ℕ) → has σ v ≡ true → (r : Read) × IsVariable m v r × BelievesIn s r
      to s long all v member =
          let known : ltb v (length (variables m)) ≡ true = (and_parts _ _ (sym (has-such_that (length (variables m)) (λ k. true) v) ∙ within v member)).0 in
          let (r, var) = slice_get_below (variables m) v (ltb-true v (length (variables m)) known) in
          let less = variable_in_range m v r var in
          let (b, is_b) = slice_get_below s r.context (omega (arith, less, long)) in
          let own : has (variables_of m r.context) v ≡ true = has-variables_of m r.context v r var ∙ eq-eqb r.context r.context refl in
          let both : has (common σ (variables_of m r.context)) v ≡ true = has-common σ (variables_of m r.context) v ∙ and_from (has σ v) (has (variables_of m r.context) v) member own in
          let (r', var', same, believes) = ((all r.context b is_b).0.1 v).0 both in
          (r', var', (b, ap (slice_get s) same ∙ is_b, believes))

      from : (s : List BeliefSet) → ((i : ℕ) (b : BeliefSet) → slice_get s i ≡ Some b → Q i b) → (v : ℕ) → ((r : Read) × IsVariable m v r × BelievesIn s r) → has σ v ≡ true
      from s all v (r, var, (b, is_b, believes)) = (in_common σ (variables_of m r.context) v (((all r.context b is_b).0.1 v).1 (r, var, refl, believes))).0

      made : (s : List BeliefSet) → length s ≡ length m.contexts → ((i : ℕ) (b : BeliefSet) → slice_get s i ≡ Some b → Q i b) → (s : List BeliefSet) × IsCandidate m σ cones bounds s
      made s long all = let projection : IsProjection m s σ = (λ v. (to s long all v, from s all v)) in (
        s,
        record {
          shown = record {
            balanced = record {
              one_each = long;
              acting = applicable m σ;
              of_rules = applicable_within m σ;
              acting_is = λ k b is. subst (λ (x : ℕ). IsTrue (has x k) ↔ ((IsTrue (has (all_rules m) k) × Applies b s) ⊎ IsTrue (has 0 k))) (acting_all m σ) (acting_at-is m (all_rules m) 0 s σ long projection k b is);
              accepted = λ i b is. (all i b is).0.0;
            };
            projection = projection;
          };
          bounded = λ i b is. (all i b is).1;
        },
      )

  -- ---- what candidates are to the bounds
  above_possible : (bounds : Bounds) (s : List BeliefSet) → IsCandidate m σ cones bounds s → AreAbove m cones bounds.possible s
  above_possible bounds s candidate i b n own on inside = (candidate.bounded i b own).possible n on inside

  below_certain : (bounds : Bounds) (s : List BeliefSet) (x : ℕ) → IsCandidate m σ cones bounds s → AreBelow m σ x bounds.certain s
  below_certain bounds s x candidate i b n own not inside = (candidate.bounded i b own).certain n inside

  below_possible : (bounds : Bounds) (s : List BeliefSet) (x : ℕ) → NoneIsOpen m σ bounds x → IsCandidate m σ cones bounds s → AreBelow m σ x bounds.possible s
  below_possible bounds s x none candidate i b n own not inside = (candidate.bounded i b own).certain n
      (subst (λ (places : ℕ). is_in n (true_names 0 (atoms_of m i) places) ≡ true) (sym (none i (omega (arith, slice_get_within s i b own, candidate.shown.balanced.one_each)) not)) inside)

  module _ (plain : IsPlain m) (have : HaveCones m cones) (bounds : Bounds) where
    -- all is derived by what is possible
    pub settled_yes : IsProjectedEquilibrium m (all_rules m) 0 σ → HaveCandidates m σ cones bounds → (x : ℕ) → IsDerived m σ cones bounds.possible x → x ≡ applicable m σ → IsGroundedState m σ
    settled_yes p candidates x derived all =
        let (s, candidate) = candidate_state bounds (parts_of m (all_rules m) 0 σ p).0 candidates in
        record { state = s; grounded = grounded_where_all m plain σ cones bounds.possible have x derived all s candidate.shown (above_possible bounds s candidate); projection = candidate.shown.projection }

    -- less is, and nothing is open
    pub settled_known : (x : ℕ) → IsDerived m σ cones bounds.possible x → ¬ (x ≡ applicable m σ) → NoneIsOpen m σ bounds x → NoneIsGrounded m σ cones bounds
    settled_known x derived less none s candidate = ungrounded_where_less m plain σ cones bounds.possible x derived less s candidate.shown (below_possible bounds s x none candidate)

    -- less is by what is certain
    pub settled_no : (x : ℕ) → IsDerived m σ cones bounds.certain x → ¬ (x ≡ applicable m σ) → NoneIsGrounded m σ cones bounds
    settled_no x derived less s candidate = ungrounded_where_less m plain σ cones bounds.certain x derived less s candidate.shown (below_certain bounds s x candidate)

  -- ---- one context is told
  module _ (bounds told : Bounds) (i places : ℕ) (is : IsToldAt bounds i places told) (bounds_of : AreBoundsOf m bounds) (less : i < length m.contexts) (program : IsProgramContext m i) where
    pub told_bounds : AreBoundsOf m told
    told_bounds = record {
      certain = omega (arith, ap length is.certain, length-slice_set bounds.certain i places, bounds_of.certain);
      possible = omega (arith, ap length is.possible, length-slice_set bounds.possible i places, bounds_of.possible);
      of_programs = λ j open_yet. elim (cases_eq i j) [
        | inl same ↦ subst (IsProgramContext m) same program
        | inr other ↦ bounds_of.of_programs j (λ known. open_yet (certain_beside j other ∙ known ∙ sym (possible_beside j other)))
      ];
    }
      where
        certain_beside : (j : ℕ) → ¬ (i ≡ j) → get_or told.certain j 0 ≡ get_or bounds.certain j 0
        certain_beside j other = ap (λ (xs : List ℕ). get_or xs j 0) is.certain ∙ get_or-set_other bounds.certain i j places 0 (λ e. other (sym e))

        possible_beside : (j : ℕ) → ¬ (i ≡ j) → get_or told.possible j 0 ≡ get_or bounds.possible j 0
        possible_beside j other = ap (λ (xs : List ℕ). get_or xs j 0) is.possible ∙ get_or-set_other bounds.possible i j places 0 (λ e. other (sym e))

    certain_here : get_or told.certain i 0 ≡ places
    certain_here = ap (λ (xs : List ℕ). get_or xs i 0) is.certain ∙ get_or-set_same bounds.certain i places 0 (omega (arith, less, bounds_of.certain))

    possible_here : get_or told.possible i 0 ≡ places
    possible_here = ap (λ (xs : List ℕ). get_or xs i 0) is.possible ∙ get_or-set_same bounds.possible i places 0 (omega (arith, less, bounds_of.possible))

    -- a belief set of the context with just these atoms of the cone is within the new bounds
    bounded_here : (b : BeliefSet) → ((n : Name) → is_in n (true_names 0 (atoms_of m i) places) ≡ true → is_in n (atoms_at m cones i) ≡ true) → HasOfCone m i (get_or cones i 0) places b → IsBounded m cones told i b
    bounded_here b within atoms = record {
      certain = λ n inside. (let inside' = subst (λ (x : ℕ). is_in n (true_names 0 (atoms_of m i) x) ≡ true) certain_here inside in (atoms n (within n inside')).1 inside');
      possible = λ n on inside. subst (λ (x : ℕ). is_in n (true_names 0 (atoms_of m i) x) ≡ true) (sym possible_here) ((atoms n on).0 inside);
    }

    -- those of other contexts are where they were
    bounded_beside : (j : ℕ) (b : BeliefSet) → ¬ (i ≡ j) → IsBounded m cones bounds j b → IsBounded m cones told j b
    bounded_beside j b other old = record {
      certain = λ n inside. old.certain n (subst (λ (x : ℕ). is_in n (true_names 0 (atoms_of m j) x) ≡ true) (ap (λ (xs : List ℕ). get_or xs j 0) is.certain ∙ get_or-set_other bounds.certain i j places 0 (λ e. other (sym e))) inside);
      possible = λ n on inside. subst (λ (x : ℕ). is_in n (true_names 0 (atoms_of m j) x) ≡ true) (sym (ap (λ (xs : List ℕ). get_or xs j 0) is.possible ∙ get_or-set_other bounds.possible i j places 0 (λ e. other (sym e)))) (old.possible n on inside);
    }

    pub told_candidates : IsConeView m σ i (get_or cones i 0) places → HaveCandidates m σ cones bounds → HaveCandidates m σ cones told
    told_candidates view have j inside = elim (cases_eq i j) [
      | inl same ↦ subst (λ (k : ℕ). HasCandidate m σ cones told k) same (record { belief = view.belief; accepted = view.accepted; tells = view.tells; bounded = bounded_here view.belief view.within view.atoms })
      | inr other ↦ (let h = have j inside in record { belief = h.belief; accepted = h.accepted; tells = h.tells; bounded = bounded_beside j h.belief other h.bounded })
    ]

    -- a candidate with these atoms of the cone is one within the new bounds
    pub still_candidate : (s : List BeliefSet) → IsCandidate m σ cones bounds s → ((n : Name) → is_in n (true_names 0 (atoms_of m i) places) ≡ true → is_in n (atoms_at m cones i) ≡ true)
        → ((b : BeliefSet) → slice_get s i ≡ Some b → HasOfCone m i (get_or cones i 0) places b) → IsCandidate m σ cones told s
    still_candidate s candidate within atoms = record {
      shown = candidate.shown;
      bounded = λ j b own. elim (cases_eq i j) [
        | inl same ↦ subst (λ (k : ℕ). IsBounded m cones told k b) same (bounded_here b within (atoms b (ap (slice_get s) same ∙ own)))
        | inr other ↦ bounded_beside j b other (candidate.bounded j b own)
      ];
    }

    -- and there is one open context less
    pub fewer_open : ¬ IsKnown bounds i → differences told.certain told.possible < differences bounds.certain bounds.possible
    fewer_open open_yet = subst (λ (xs : List ℕ). differences xs told.possible < differences bounds.certain bounds.possible) (sym is.certain)
        (subst (λ (ys : List ℕ). differences (slice_set bounds.certain i places) ys < differences bounds.certain bounds.possible) (sym is.possible)
        (go bounds.certain bounds.possible i (omega (arith, less, bounds_of.certain)) (omega (arith, less, bounds_of.possible)) open_yet))
      where
        first : (x y d : ℕ) → ¬ (x ≡ y) → cond (eqb places places) d (d + 1) < cond (eqb x y) d (d + 1)
        first x y d other = at (eqb places places) (eq-eqb places places refl) (eqb x y) (ne_eqb x y other)
          where
            at : (u : Bool) → u ≡ true → (v : Bool) → v ≡ false → cond u d (d + 1) < cond v d (d + 1)
            at true e false e' = omega arith
            at false e v e' = absurd (true≢false (sym e))
            at true e true e' = absurd (true≢false e')

        later : (u : Bool) (d d' : ℕ) → d < d' → cond u d (d + 1) < cond u d' (d' + 1)
        later true d d' h = h
        later false d d' h = omega (arith, h)

        go : (xs ys : List ℕ) (k : ℕ) → k < length xs → k < length ys → ¬ (get_or xs k 0 ≡ get_or ys k 0) → differences (slice_set xs k places) (slice_set ys k places) < differences xs ys
        go [] ys k in_xs in_ys other = absurd (omega (arith, in_xs))
        go (x ∷ xs) [] k in_xs in_ys other = absurd (omega (arith, in_ys))
        go (x ∷ xs) (y ∷ ys) zero in_xs in_ys other = first x y (differences xs ys) other
        go (x ∷ xs) (y ∷ ys) (suc k) in_xs in_ys other = later (eqb x y) _ _ (go xs ys k (omega (arith, in_xs)) (omega (arith, in_ys)) other)

  -- ---- in the end
  -- what a context believes in a candidate, as it accepts it with the rules that apply
  pub candidate_accepts : (s : List BeliefSet) → IsShownBy m σ s → (i : ℕ) (b : BeliefSet) → slice_get s i ≡ Some b → AcceptsWith m i (applicable m σ) b
  candidate_accepts s shown i b own = let (c, is, accepts) = shown.balanced.accepted i b own in
      (c, is, subst (λ (hs : List Formula). Accepts (with_heads c.kb hs) b) (heads_same m i shown.balanced.acting (applicable m σ) (λ k d there. acts_is m σ s shown k d there)) accepts)

  pub candidate_tells : (s : List BeliefSet) → IsShownBy m σ s → (i : ℕ) (b : BeliefSet) → slice_get s i ≡ Some b → Tells m i b (common σ (variables_of m i))
  candidate_tells s shown i b own v = (to, from)
    where
      to : has (common σ (variables_of m i)) v ≡ true → (r : Read) × IsVariable m v r × (r.context ≡ i) × Believes b r.belief
      to member =
          let (in_σ, in_i) = in_common σ (variables_of m i) v member in
          let (r, var, (d, there, believed)) = (shown.projection v).0 in_σ in
          let same : r.context ≡ i = eqb-true r.context i (sym (has-variables_of m i v r var) ∙ in_i) in
          let one : d ≡ b = (let e : slice_get s i ≡ Some d = ap (slice_get s) (sym same) ∙ there in cc) in
          (r, var, same, subst (λ (c : BeliefSet). Believes c r.belief) one believed)

      from : (r : Read) × IsVariable m v r × (r.context ≡ i) × Believes b r.belief → has (common σ (variables_of m i)) v ≡ true
      from (r, var, same, believed) = has-common σ (variables_of m i) v ∙ and_from (has σ v) (has (variables_of m i) v)
          ((shown.projection v).1 (r, var, (b, ap (slice_get s) same ∙ own, believed))) (has-variables_of m i v r var ∙ eq-eqb r.context i same)

  -- where of all views of an open context none leads to a grounded state, none is
  pub none_of_views : (bounds : Bounds) (i : ℕ) (views : List ℕ) → AreViewsOf m σ i (get_or cones i 0) views → AreBoundsOf m bounds → i < length m.contexts → IsProgramContext m i
      → ((places : ℕ) → IsAmong places views → (told : Bounds) × IsToldAt bounds i places told × NoneIsGrounded m σ cones told) → NoneIsGrounded m σ cones bounds
  none_of_views bounds i views all bounds_of less program none s candidate grounded =
      let (b, own) = slice_get_below s i (omega (arith, less, candidate.shown.balanced.one_each)) in
      let (places, among, atoms) = all.all b (candidate_accepts s candidate.shown i b own) (candidate_tells s candidate.shown i b own) in
      let (told, is, never) = none places among in
      never s (still_candidate bounds told i places is bounds_of less program s candidate (all.each places among).within (λ d own'. (let same : b ≡ d = (let e : Some b ≡ Some d = sym own ∙ own' in cc) in subst (λ (x : BeliefSet). HasOfCone m i (get_or cones i 0) places x) same atoms))) grounded

-- ---- the first bounds
pub none_beyond : (cones : List Cone) (i : ℕ) → ¬ (i < length cones) → get_or (cones_of cones) i 0 ≡ 0
none_beyond [] i beyond = refl
none_beyond (c ∷ cones) zero beyond = absurd (beyond (omega arith))
none_beyond (c ∷ cones) (suc i) beyond = none_beyond cones i (λ less. beyond (omega (arith, less)))

module _ (m : System) (all : List Cone) (bounds : Bounds) (first : AreFirstBounds all bounds) where
  -- each belief set is within them
  first_bounded : (i : ℕ) (b : BeliefSet) → IsBounded m (cones_of all) bounds i b
  first_bounded i b = record {
    certain = λ n inside. absurd (true≢false (sym inside ∙ ap (λ (x : ℕ). is_in n (true_names 0 (atoms_of m i) x)) (first.certain i) ∙ none_at n 0 (atoms_of m i)));
    possible = λ n on inside. subst (λ (x : ℕ). is_in n (true_names 0 (atoms_of m i) x) ≡ true) (sym (first.possible i)) on;
  }

  -- so each equilibrium with this projection is a candidate
  first_candidate : (σ : ℕ) (s : List BeliefSet) → IsShownBy m σ s → IsCandidate m σ (cones_of all) bounds s
  first_candidate σ s shown = record { shown = shown; bounded = λ i b own. first_bounded i b }

  first_candidates : (σ : ℕ) → IsProjectedEquilibrium m (all_rules m) 0 σ → HaveCandidates m σ (cones_of all) bounds
  first_candidates σ p i less =
      let shown : IsShownBy m σ p.state = record { balanced = p.balanced; projection = p.projection } in
      let (b, own) = slice_get_below p.state i (omega (arith, less, p.balanced.one_each)) in
      record { belief = b; accepted = candidate_accepts m σ (cones_of all) p.state shown i b own; tells = candidate_tells m σ (cones_of all) p.state shown i b own; bounded = first_bounded i b }

  -- a grounded state is one of them
  pub not_grounded_state : (σ : ℕ) → NoneIsGrounded m σ (cones_of all) bounds → ¬ IsGroundedState m σ
  not_grounded_state σ none g = none g.state (first_candidate σ g.state (record { balanced = equilibrium_of_reduct m g.state g.grounded.balanced; projection = g.projection })) g.grounded

  -- a context without a program has none
  cone_known : (are : AreConesOf m all) (i : ℕ) (c : Cone) → slice_get all i ≡ Some c → ¬ IsKnown bounds i → IsProgramContext m i
  cone_known are i c own open_yet = elim (are.own i c own).or_none [
    | inl program ↦ program
    | inr none ↦ absurd (open_yet (here ∙ sym (there ∙ none)))
  ]
    where
      here : get_or bounds.certain i 0 ≡ 0
      here = first.certain i

      there : get_or bounds.possible i 0 ≡ c.places
      there = first.possible i ∙ get_or_from_slice_get (cones_of all) i c.places 0 (slice_get-map_some (λ (c : Cone). c.places) all i c own)

  beyond_known : (i : ℕ) → ¬ (i < length all) → IsKnown bounds i
  beyond_known i beyond = first.certain i ∙ sym (first.possible i ∙ none_beyond all i beyond)

  first_bounds_of : AreConesOf m all → AreBoundsOf m bounds
  first_bounds_of are = record {
    certain = omega (arith, few_contexts m are.valid, first.long);
    possible = omega (arith, few_contexts m are.valid, first.as_long);
    of_programs = λ i open_yet. elim (cases_lt i (length all)) [
      | inl less ↦ (let (c, own) = slice_get_below all i less in cone_known are i c own open_yet)
      | inr beyond ↦ absurd (open_yet (beyond_known i (λ less. absurd (omega (arith, less, beyond)))))
    ];
  }

-- so the search can begin
pub can_begin : (d : Derivation) (bounds : Bounds) → IsSetUp d → AreFirstBounds d.cones.now bounds → IsOfState d → CanSearch d bounds
can_begin d bounds set_up first state = record {
  state = state;
  bounds_of = first_bounds_of d.system.now d.cones.now bounds first set_up.cones;
  candidates = first_candidates d.system.now d.cones.now bounds first d.state state;
}

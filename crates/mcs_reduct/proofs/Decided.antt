-- It is decided whether a set of variables is the projection of a grounded state, so the grounded equilibria have a listing.
use Rattle.std.proofs.Common.{◌≡◌, ℕ, ◌+◌, ◌<◌, ◌^◌, zero, suc, List, [], ◌∷◌, length, Some, ◌⊎◌, inl, inr, ◌↔◌, arith, refl, sym, ap, ◌∙◌, subst, slice_get, IsTrue}
use Rattle.std.proofs.lemmas.Bool.{cases_eq}
use Rattle.std.proofs.lemmas.Option.{same_Some}
use Rattle.mcs_sets.specs.Sets.{has}
use Rattle.mcs_sets.specs.Orders.{StateBefore}
use Rattle.mcs_sets.proofs.Lattice.{below_from_within}
use Rattle.mcs_base.proofs.Booleans.{test_of, test_of-tells}
use Rattle.mcs_base.proofs.ListingLemmas.{states_of_test, IsListing-same}
use Rattle.mcs_base.proofs.Lists.{slice_get_below}
use Rattle.mcs_system.specs.Plain.{Formula, Context, System}
use Rattle.mcs_system.specs.Logic.{BeliefSet, Accepts, with_heads}
use Rattle.mcs_system.specs.Systems.{variables, all_rules, applicable, heads_into, AcceptsWith, Applies, IsProjection}
use Rattle.mcs_system.proofs.MarkLemmas.{applicable_within}
use Rattle.mcs_laws.proofs.Projections.{parts_of, acting_at-is}
use Rattle.mcs_laws.proofs.Small.{one_projection}
use Rattle.mcs_reduct.specs.Plain.{IsPlain}
use Rattle.mcs_reduct.specs.Grounded.{IsGrounded, IsGroundedState, AreGrounded}
use Rattle.mcs_reduct.specs.Shown.{IsShownBy}
use Rattle.mcs_reduct.proofs.Alike.{AreAlike, projection_alike, grounded_alike}
use Rattle.mcs_reduct.proofs.Choosing.{chosen_cases, AllOk, IsDecidedAt, all_cases}
use Rattle.mcs_reduct.proofs.Deriving.{cases_grounded}
use Rattle.mcs_reduct.proofs.GroundedLaws.{grounded_states}
use Rattle.mcs_reduct.proofs.Heads.{heads_same}
use Rattle.mcs_reduct.proofs.Reduced.{equilibrium_of_reduct}
use Rattle.mcs_reduct.proofs.Shown.{acting_all, acts_is}

module _ (m : System) (plain : IsPlain m) (σ : ℕ) where
  -- what may be chosen at a context: what it accepts with the rules that apply
  abbrev IsOk : ℕ → BeliefSet → Type 0
  IsOk i b = AcceptsWith m i (applicable m σ) b

  chosen_at : (i : ℕ) → i < length m.contexts → IsDecidedAt IsOk i
  chosen_at i less P kept decides = let (c, is) = slice_get_below m.contexts i less in elim (chosen_cases c.kb (heads_into m i (applicable m σ)) P (plain i c is)
      (λ b d of_b of_d alike holds. kept b d (c, is, of_b) (c, is, of_d) alike holds) (λ b of_b. decides b (c, is, of_b))) [
        | inl h ↦ inl (h.0, ((c, is, h.1.0), h.1.1))
        | inr none ↦ inr (λ h. none (h.0, (subst (λ (x : Context). Accepts (with_heads x.kb (heads_into m i (applicable m σ))) h.0) (same_Some h.1.0.0 c (sym h.1.0.1 ∙ is)) h.1.0.2, h.1.1)))
      ]

  -- ---- a choice of what is accepted, with this projection, is an equilibrium
  ok_at : (i : ℕ) (s : List BeliefSet) → AllOk IsOk i s → (k : ℕ) (b : BeliefSet) → slice_get s k ≡ Some b → IsOk (i + k) b
  ok_at i [] of_s k b is = absurd (cc)
  ok_at i (d ∷ s) of_s zero b is = let e : i ≡ i + 0 = omega arith in subst (λ (j : ℕ). IsOk j b) e (subst (IsOk i) (same_Some d b is) of_s.0)
  ok_at i (d ∷ s) of_s (suc k) b is = let e : suc i + k ≡ i + suc k = omega arith in subst (λ (j : ℕ). IsOk j b) e (ok_at (suc i) s of_s.1 k b is)

  all_ok : (i : ℕ) (s : List BeliefSet) → ((k : ℕ) (b : BeliefSet) → slice_get s k ≡ Some b → IsOk (i + k) b) → AllOk IsOk i s
  all_ok i [] each = tt
  all_ok i (b ∷ s) each = (
    let e : i + 0 ≡ i = omega arith in subst (λ (j : ℕ). IsOk j b) e (each 0 b refl),
    all_ok (suc i) s (λ k d is. (let e : i + suc k ≡ suc i + k = omega arith in subst (λ (j : ℕ). IsOk j d) e (each (suc k) d is))),
  )

  shown_by : (s : List BeliefSet) → length s ≡ length m.contexts → AllOk IsOk 0 s → IsProjection m s σ → IsShownBy m σ s
  shown_by s long of_s projection = record {
    balanced = record {
      one_each = long;
      acting = applicable m σ;
      of_rules = applicable_within m σ;
      acting_is = λ k b is. subst (λ (x : ℕ). IsTrue (has x k) ↔ ((IsTrue (has (all_rules m) k) × Applies b s) ⊎ IsTrue (has 0 k))) (acting_all m σ) (acting_at-is m (all_rules m) 0 s σ long projection k b is);
      accepted = λ i b is. (let e : 0 + i ≡ i = omega arith in subst (λ (j : ℕ). IsOk j b) e (ok_at 0 s of_s i b is));
    };
    projection = projection;
  }

  ok_of : (s : List BeliefSet) → IsShownBy m σ s → AllOk IsOk 0 s
  ok_of s shown = all_ok 0 s (λ k b is. (
      let (c, there, accepts) = shown.balanced.accepted k b is in
      let e : k ≡ 0 + k = omega arith in
      subst (λ (j : ℕ). IsOk j b) e (c, there, subst (λ (hs : List Formula). Accepts (with_heads c.kb hs) b) (heads_same m k shown.balanced.acting (applicable m σ) (λ j d at. acts_is m σ s shown j d at)) accepts)))

  -- ---- which choices are grounded is decided
  abbrev IsHit : List BeliefSet → Type 0
  IsHit s = IsProjection m s σ × IsGrounded m s

  hit_cases : (s : List BeliefSet) → length s ≡ length m.contexts → AllOk IsOk 0 s → IsHit s ⊎ (¬ IsHit s)
  hit_cases s long of_s = let (τ, projection, only) = one_projection m s in elim (cases_eq τ σ) [
    | inr other ↦ inr (λ h. other (sym (only σ h.0)))
    | inl same ↦ (let own = subst (IsProjection m s) same projection in elim (cases_grounded m plain σ s (shown_by s long of_s own)) [
      | inl grounded ↦ inl (own, grounded)
      | inr not ↦ inr (λ h. not h.1)
    ])
  ]

  hit_kept : (s t : List BeliefSet) → length s ≡ length m.contexts → length t ≡ length m.contexts → AllOk IsOk 0 s → AllOk IsOk 0 t → AreAlike s t → IsHit s → IsHit t
  hit_kept s t long long' of_s of_t alike (projection, grounded) =
      let projection' = projection_alike m s t σ alike projection in
      (projection', grounded_alike m plain σ s t alike (shown_by s long of_s projection) (shown_by t long' of_t projection') grounded)

  same_length : (s t : List BeliefSet) → AreAlike s t → length s ≡ length t
  same_length [] [] alike = refl
  same_length [] (c ∷ t) alike = absurd alike
  same_length (b ∷ s) [] alike = absurd alike
  same_length (b ∷ s) (c ∷ t) alike = ap suc (same_length s t alike.1)

  pub cases_grounded_state : IsGroundedState m σ ⊎ (¬ IsGroundedState m σ)
  cases_grounded_state = elim (all_cases IsOk (length m.contexts) chosen_at (length m.contexts) 0 (omega arith) IsHit
      (λ s t long of_s of_t alike h. hit_kept s t long (sym (same_length s t alike) ∙ long) of_s of_t alike h) hit_cases) [
        | inl h ↦ inl (record { state = h.0; grounded = h.1.1.1.1; projection = h.1.1.1.0 })
        | inr none ↦ inr (λ g. (
            let e = equilibrium_of_reduct m g.state g.grounded.balanced in
            none (g.state, (e.one_each, (ok_of g.state (record { balanced = e; projection = g.projection }), (g.projection, g.grounded))))))
      ]

-- ---- so they have a listing
pub grounded_listed : (m : System) → IsPlain m → (xs : List ℕ) × AreGrounded m xs
grounded_listed m plain =
    let (xs, listing) = states_of_test (length (variables m)) (λ σ. test_of (cases_grounded_state m plain σ)) in (
      xs,
      IsListing-same StateBefore (λ σ. (σ < 2 ^ length (variables m)) × IsTrue (test_of (cases_grounded_state m plain σ))) (IsGroundedState m) xs (λ σ. (
        λ h. (test_of-tells (cases_grounded_state m plain σ)).0 h.1,
        λ g. (below_from_within σ (length (variables m)) (parts_of m (all_rules m) 0 σ (grounded_states m σ plain g)).0, (test_of-tells (cases_grounded_state m plain σ)).1 g),
      )) listing,
    )

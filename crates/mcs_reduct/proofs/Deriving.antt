-- Rules are derived from nothing until none is left that acts with the heads of those; so it is decided whether a state is grounded.
use Rattle.std.proofs.Common.{◌≡◌, ℕ, ◌+◌, ◌≤◌, zero, suc, true, false, List, length, Option, Some, None, ◌⊎◌, inl, inr, arith, refl, sym, ap, ◌∙◌, subst, slice_get}
use Rattle.std.proofs.lemmas.Bool.{cases_eq, true_from_ne_false}
use Rattle.std.proofs.lemmas.Option.{slice_get_within, same_Some}
use Rattle.std.specs.List.{AllByRecursion}
use Rattle.mcs_sets.specs.Sets.{has, single, union, size, Within}
use Rattle.mcs_sets.proofs.Changes.{with_without}
use Rattle.mcs_sets.proofs.Lattice.{in_with, size_within, size-without, within_antisymmetric, union_within, single_within}
use Rattle.mcs_base.proofs.Deciding.{cases_all, cases_both, cases_true, cases_false, cases_some_below}
use Rattle.mcs_base.proofs.Each.{all_among, all_from_among}
use Rattle.mcs_system.specs.Plain.{Bridge, System}
use Rattle.mcs_system.specs.Logic.{BeliefSet}
use Rattle.mcs_system.specs.Systems.{applicable, BelievesIn}
use Rattle.mcs_system.proofs.MarkLemmas.{applicable_within}
use Rattle.mcs_reduct.specs.Plain.{IsPlain}
use Rattle.mcs_reduct.specs.Reducts.{IsReductEquilibrium}
use Rattle.mcs_reduct.specs.Shown.{IsShownBy, DoAct, AreAcceptedWith}
use Rattle.mcs_reduct.specs.Grounded.{IsGrounded}
use Rattle.mcs_reduct.proofs.Beliefs.{decided_in, are_unblocked, unblocked_rules}
use Rattle.mcs_reduct.proofs.Reduced.{rule_at, no_rule, reduced_long, reduct_of_equilibrium}
use Rattle.mcs_reduct.proofs.Shown.{applies_there, act_in, state_accepted, within_where_all}
use Rattle.mcs_reduct.proofs.Needed.{IsPrefixed, some_accepted, fewer_believed, all_needed}

-- a set that is larger by one rule
size-more : (x k : ℕ) → has x k ≡ false → size (union x (single k)) ≡ size x + 1
size-more x k out = size-without (union x (single k)) k ((in_with x k k).1 (inr refl)) ∙ ap (λ (y : ℕ). size y + 1) (with_without x k out)

module _ (m : System) (plain : IsPlain m) (σ : ℕ) (s : List BeliefSet) (shown : IsShownBy m σ s) where
  -- the rules of x apply, and act in each equilibrium of the reduct
  record IsFounded (x : ℕ) : Type 0 where
    within : Within x (applicable m σ)
    acts : (t : List BeliefSet) → IsReductEquilibrium m s t → DoAct m t x

  -- ---- a rule that is not among them, and whose positive reads are believed
  abbrev IsFresh : ℕ → List BeliefSet → ℕ → Type 0
  IsFresh x u k = (has (applicable m σ) k ≡ true) × ((has x k ≡ false) × ((b : Bridge) → slice_get m.bridges k ≡ Some b → AllByRecursion (BelievesIn u) b.pos))

  reads_cases : (u : List BeliefSet) (o : Option Bridge) → ((b : Bridge) → o ≡ Some b → AllByRecursion (BelievesIn u) b.pos) ⊎ (¬ ((b : Bridge) → o ≡ Some b → AllByRecursion (BelievesIn u) b.pos))
  reads_cases u None = inl (λ b is. cc)
  reads_cases u (Some c) = elim (cases_all (BelievesIn u) c.pos (λ r. decided_in u r)) [
    | inl all ↦ inl (λ b is. subst (λ (d : Bridge). AllByRecursion (BelievesIn u) d.pos) (same_Some c b is) all)
    | inr lacks ↦ inr (λ all. lacks (all c refl))
  ]

  fresh_cases : (x : ℕ) (u : List BeliefSet) (k : ℕ) → IsFresh x u k ⊎ (¬ IsFresh x u k)
  fresh_cases x u k = cases_both (cases_true (has (applicable m σ) k)) (cases_both (cases_false (has x k)) (reads_cases u (slice_get m.bridges k)))

  -- it acts in each equilibrium too
  founded_with : (x k : ℕ) (u : List BeliefSet) → IsFounded x → AreAcceptedWith m s x u → IsFresh x u k → IsFounded (union x (single k))
  founded_with x k u founded of_u (applies, (out, believed)) = record {
    within = union_within x (single k) (applicable m σ) founded.within (single_within k (applicable m σ) applies);
    acts = λ t e j b member is. elim ((in_with x k j).0 member) [
      | inl old ↦ founded.acts t e j b old is
      | inr same ↦ all_from_among (BelievesIn t) b.pos (λ r among. fewer_believed m plain σ s shown x e.balanced.acting (act_in m plain σ s shown t e x founded.within (founded.acts t e)) u t of_u (
          record { one_each = e.balanced.one_each ∙ reduced_long m.contexts s; accepted = e.balanced.accepted }) r
          (all_among (BelievesIn u) b.pos r (believed b (ap (slice_get m.bridges) (sym same) ∙ is)) among))
    ];
  }

  -- where there is none, the rules are all that act with their own heads
  prefixed_without : (x : ℕ) (u : List BeliefSet) → IsFounded x → AreAcceptedWith m s x u → ((k : ℕ) → ¬ IsFresh x u k) → IsPrefixed m plain σ s shown x
  prefixed_without x u founded of_u none w of_w k b unblocked is pos = true_from_ne_false (has x k) (λ out. none k (applies, (out, λ d there. subst (λ (d : Bridge). AllByRecursion (BelievesIn u) d.pos) (same_Some b d (sym is ∙ there)) in_u)))
    where
      in_u : AllByRecursion (BelievesIn u) b.pos
      in_u = all_from_among (BelievesIn u) b.pos (λ r among. fewer_believed m plain σ s shown x x (λ j h. h) w u of_w of_u r (all_among (BelievesIn w) b.pos r pos among))

      of_s : AreAcceptedWith m s (applicable m σ) s
      of_s = record { one_each = shown.balanced.one_each; accepted = state_accepted m plain σ s shown }

      applies : has (applicable m σ) k ≡ true
      applies = applies_there m plain σ s shown (unblocked_rules m s) k b (are_unblocked m s) is unblocked
          (all_from_among (BelievesIn s) b.pos (λ r among. fewer_believed m plain σ s shown x (applicable m σ) founded.within w s of_w of_s r (all_among (BelievesIn w) b.pos r pos among)))

  -- ---- so far as it goes
  abbrev Derived : Type 0
  Derived = (x : ℕ) × IsFounded x × IsPrefixed m plain σ s shown x

  step : (x : ℕ) → IsFounded x → ((k : ℕ) → has x k ≡ false → IsFounded (union x (single k)) → Derived) → Derived
  step x founded more = let (u, of_u) = some_accepted m plain σ s shown x in elim (cases_some_below (IsFresh x u) (length m.bridges) (fresh_cases x u)) [
    | inl found ↦ more found.0 found.2.1.0 (founded_with x found.0 u founded of_u found.2)
    | inr none ↦ (x, founded, prefixed_without x u founded of_u (λ k fresh. none (k, (let (b, is) = rule_at m (applicable m σ) k (applicable_within m σ) fresh.0 in slice_get_within m.bridges k b is), fresh)))
  ]

  derive : (left x : ℕ) → size (applicable m σ) ≤ size x + left → IsFounded x → Derived
  derive zero x few founded = step x founded (λ k out more. absurd (let fits = size_within (union x (single k)) (applicable m σ) more.within in omega (arith, few, fits, size-more x k out)))
  derive (suc left) x few founded = step x founded (λ k out more. derive left (union x (single k)) (omega (arith, few, size-more x k out)) more)

  derived : Derived
  derived = derive (size (applicable m σ)) 0 (omega arith) (record { within = λ k h. no_rule _ k h; acts = λ t e k b h is. no_rule _ k h })

  -- a state is grounded where all that applies is derived, and not where less is
  pub cases_grounded : IsGrounded m s ⊎ (¬ IsGrounded m s)
  cases_grounded = at derived
    where
      at : Derived → IsGrounded m s ⊎ (¬ IsGrounded m s)
      at (x, founded, prefixed) = elim (cases_eq x (applicable m σ)) [
        | inl all ↦ inl (record {
          balanced = reduct_of_equilibrium m s (unblocked_rules m s) (are_unblocked m s) shown.balanced;
          least = λ t e. within_where_all m plain σ s shown t e (subst (λ (y : ℕ). Within y e.balanced.acting) all (act_in m plain σ s shown t e x founded.within (founded.acts t e)));
        })
        | inr less ↦ inr (λ grounded. less (within_antisymmetric x (applicable m σ) founded.within (all_needed m plain σ s shown grounded (size x) x (omega arith) founded.within prefixed)))
      ]

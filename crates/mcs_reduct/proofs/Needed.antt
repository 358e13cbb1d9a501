-- Where a state is grounded, each set of rules that has all that its own heads let act has all that applies.
use Rattle.std.proofs.Common.{◌≡◌, ℕ, ◌<◌, ◌≤◌, zero, suc, Bool, true, false, not, eqb, List, length, Some, ◌⊎◌, inl, inr, ◌↔◌, arith, refl, sym, ap, ◌∙◌, subst, true≢false, slice_get, IsTrue}
use Rattle.std.proofs.lemmas.Bool.{eqb-true, false_from_ne_true, cases_eq}
use Rattle.std.proofs.lemmas.Option.{slice_get_within}
use Rattle.std.specs.List.{AllByRecursion}
use Rattle.mcs_sets.specs.Sets.{has, single, minus, size, Within}
use Rattle.mcs_sets.proofs.SetLemmas.{has-empty}
use Rattle.mcs_sets.proofs.Lattice.{minus_within, has-without_other, size-without}
use Rattle.mcs_base.proofs.Deciding.{cases_all}
use Rattle.mcs_base.proofs.Each.{all_among, all_from_among}
use Rattle.mcs_base.proofs.Lists.{slice_get_below, choose_below, map_slice_get}
use Rattle.mcs_system.specs.Plain.{Read, Bridge, System}
use Rattle.mcs_system.specs.Logic.{BeliefSet}
use Rattle.mcs_system.specs.Systems.{applicable, heads_into, AcceptsWith, Applies, BelievesIn}
use Rattle.mcs_system.proofs.MarkLemmas.{applicable_within}
use Rattle.mcs_reduct.specs.Plain.{IsPlain}
use Rattle.mcs_reduct.specs.Reducts.{names_believed, positive_part, reduced_system, IsReductEquilibrium}
use Rattle.mcs_reduct.specs.Grounded.{IsGrounded}
use Rattle.mcs_reduct.proofs.Reduced.{rule_at, reduct_accepts, reduced_long, same_rules}
use Rattle.mcs_reduct.proofs.Beliefs.{decided_in, are_unblocked, unblocked_rules}
use Rattle.mcs_reduct.proofs.Heads.{within_more}
use Rattle.mcs_reduct.proofs.Accepted.{within_believes, accepts_some}
use Rattle.mcs_reduct.specs.Shown.{IsShownBy, DoAct, AreAcceptedWith}
use Rattle.mcs_reduct.proofs.Shown.{applies_is, context_at, state_accepted, more_believed, unblocked_there}

-- ---- not all is derived
module _ (m : System) (plain : IsPlain m) (σ : ℕ) (s : List BeliefSet) (shown : IsShownBy m σ s) where
  -- the rules of x have each unblocked rule whose positive reads are believed with their heads
  abbrev pub IsPrefixed : ℕ → Type 0
  IsPrefixed x = (u : List BeliefSet) → AreAcceptedWith m s x u → (k : ℕ) (b : Bridge) → has (unblocked_rules m s) k ≡ true → slice_get m.bridges k ≡ Some b → AllByRecursion (BelievesIn u) b.pos → has x k ≡ true

  -- there is what the contexts of the reduct accept with their heads
  pub some_accepted : (x : ℕ) → (u : List BeliefSet) × AreAcceptedWith m s x u
  some_accepted x =
      let (u, long, all) = choose_below (λ i f. AcceptsWith (reduced_system m s) i x f) (length m.contexts) (λ i less. (
      let (c, is, b, own) = context_at m plain σ s shown i less in
      let (f, accepts) = accepts_some (names_believed b) c.kb (heads_into m i x) (plain i c is) in
      (f, (reduct_accepts m s i x c b f is own).1 accepts))) in
      (u, record { one_each = long; accepted = all })

  -- with fewer heads no more is believed
  pub fewer_believed : (x y : ℕ) → Within x y → (u w : List BeliefSet) → AreAcceptedWith m s x u → AreAcceptedWith m s y w → (r : Read) → BelievesIn u r → BelievesIn w r
  fewer_believed x y within u w of_u of_w r (f, own, h) =
      let less : r.context < length m.contexts = omega (arith, slice_get_within u r.context f own, of_u.one_each) in
      let (c, is, b, own_s) = context_at m plain σ s shown r.context less in
      let (g, own') = slice_get_below w r.context (omega (arith, less, of_w.one_each)) in
      (g, own', more_believed m plain σ s shown r.context x y c b f g is own_s (within_more m r.context x y within) (of_u.accepted r.context f own) (of_w.accepted r.context g own') r.belief h)

  -- where each rule of x has its positive reads believed with the heads of x, this is an equilibrium of the reduct
  fixed_equilibrium : (x : ℕ) → Within x (applicable m σ) → IsPrefixed x → (u : List BeliefSet) → AreAcceptedWith m s x u → DoAct m u x → IsReductEquilibrium m s u
  fixed_equilibrium x within prefixed u of_u acts = record {
    rules = unblocked_rules m s;
    unblocked = are_unblocked m s;
    balanced = record {
      one_each = of_u.one_each ∙ sym (reduced_long m.contexts s);
      acting = x;
      of_rules = λ k member. subst (λ (y : ℕ). has y k ≡ true) (sym (same_rules m s)) (applicable_within m σ k (within k member));
      acting_is = λ k d is. (let (b, there, same) = map_slice_get positive_part m.bridges k d is in
          subst (λ (d : Bridge). IsTrue (has x k) ↔ ((IsTrue (has (unblocked_rules m s) k) × Applies d u) ⊎ IsTrue (has 0 k))) same (
            λ member. inl (unblocked_there m plain σ s shown (unblocked_rules m s) k b (are_unblocked m s) there (within k member), record { all_believed = acts k b member there; none_believed = tt }),
            λ h. elim h [ inl both ↦ prefixed u of_u k b both.0 there both.1.all_believed | inr none ↦ absurd (true≢false (sym none ∙ has-empty k)) ],
          ));
      accepted = of_u.accepted;
    };
  }

  -- whether they are is decided
  abbrev LacksRead : ℕ → List BeliefSet → Type 0
  LacksRead x u = (k : ℕ) × (b : Bridge) × (has x k ≡ true) × (slice_get m.bridges k ≡ Some b) × ¬ AllByRecursion (BelievesIn u) b.pos

  abbrev ActBelow : ℕ → List BeliefSet → ℕ → Type 0
  ActBelow x u n = (k : ℕ) (b : Bridge) → k < n → has x k ≡ true → slice_get m.bridges k ≡ Some b → AllByRecursion (BelievesIn u) b.pos

  act_one : (x : ℕ) (u : List BeliefSet) (n : ℕ) (c : Bridge) → slice_get m.bridges n ≡ Some c → ActBelow x u n → (v : Bool) → has x n ≡ v
      → AllByRecursion (BelievesIn u) c.pos ⊎ (¬ AllByRecursion (BelievesIn u) c.pos) → ActBelow x u (suc n) ⊎ LacksRead x u
  act_one x u n c there before true e (inr not) = inr (n, c, e, there, not)
  act_one x u n c there before true e (inl all) = inl (λ k b less member is. elim (cases_eq k n) [
    | inl same ↦ (let same' : c ≡ b = (let e' : slice_get m.bridges n ≡ Some b = ap (slice_get m.bridges) (sym same) ∙ is in cc) in subst (λ (d : Bridge). AllByRecursion (BelievesIn u) d.pos) same' all)
    | inr other ↦ before k b (omega (arith, less, other)) member is
  ])
  act_one x u n c there before false e d = inl (λ k b less member is. elim (cases_eq k n) [
    | inl same ↦ absurd (true≢false (sym member ∙ ap (has x) same ∙ e))
    | inr other ↦ before k b (omega (arith, less, other)) member is
  ])

  act_below : (x : ℕ) (u : List BeliefSet) (n : ℕ) → n ≤ length m.bridges → ActBelow x u n ⊎ LacksRead x u
  act_below x u zero few = inl (λ k b less. absurd (omega (arith, less)))
  act_below x u (suc n) few = elim (act_below x u n (omega (arith, few))) [
    | inr lacks ↦ inr lacks
    | inl before ↦ (let (c, there) = slice_get_below m.bridges n (omega (arith, few)) in act_one x u n c there before (has x n) refl (cases_all (BelievesIn u) c.pos (λ r. decided_in u r)))
  ]

  acts_or_not : (x : ℕ) (u : List BeliefSet) → DoAct m u x ⊎ LacksRead x u
  acts_or_not x u = elim (act_below x u (length m.bridges) (omega arith)) [ inl each ↦ inl (λ k b member is. each k b (slice_get_within m.bridges k b is) member is) | inr lacks ↦ inr lacks ]

  -- a rule whose positive reads are not believed may go
  prefixed_less : (x k : ℕ) (b : Bridge) → IsPrefixed x → (u : List BeliefSet) → AreAcceptedWith m s x u → slice_get m.bridges k ≡ Some b → ¬ AllByRecursion (BelievesIn u) b.pos → IsPrefixed (minus x (single k))
  prefixed_less x k b prefixed u of_u is not w of_w j c unblocked there pos =
      let more = all_from_among (BelievesIn u) c.pos (λ r among. fewer_believed (minus x (single k)) x (minus_within x (single k)) w u of_w of_u r (all_among (BelievesIn w) c.pos r pos among)) in
      has-without_other x k j (prefixed u of_u j c unblocked there more) (elim (cases_eq j k) as (λ _. eqb j k ≡ false) [
        | inl same ↦ absurd (not (subst (λ (d : Bridge). AllByRecursion (BelievesIn u) d.pos) (let e : slice_get m.bridges j ≡ Some b = ap (slice_get m.bridges) same ∙ is in let same' : c ≡ b = cc in same') more))
        | inr other ↦ false_from_ne_true (eqb j k) (λ e. other (eqb-true j k e))
      ])

  -- where s is grounded, an equilibrium of the reduct lets all act that applies
  all_act : IsGrounded m s → (x : ℕ) → Within x (applicable m σ) → IsPrefixed x → (u : List BeliefSet) → AreAcceptedWith m s x u → DoAct m u x → Within (applicable m σ) x
  all_act grounded x within prefixed u of_u acts k member =
      let lies = grounded.least u (fixed_equilibrium x within prefixed u of_u acts) in
      let (b, is) = rule_at m (applicable m σ) k (applicable_within m σ) member in
      prefixed u of_u k b (unblocked_there m plain σ s shown (unblocked_rules m s) k b (are_unblocked m s) is member) is
      (all_from_among (BelievesIn u) b.pos (λ r among. (
      let (d, own, h) = all_among (BelievesIn s) b.pos r ((applies_is m σ s shown k b is).0 member).all_believed among in
      let less : r.context < length m.contexts = omega (arith, slice_get_within s r.context d own, shown.balanced.one_each) in
      let (c, there, d', own') = context_at m plain σ s shown r.context less in
      let (f, own_u) = slice_get_below u r.context (omega (arith, less, of_u.one_each)) in (
        f,
        own_u,
        within_believes (names_believed d) c.kb (heads_into m r.context (applicable m σ)) (heads_into m r.context x) d f (plain r.context c there)
            ((reduct_accepts m s r.context (applicable m σ) c d d there own).0 (state_accepted m plain σ s shown r.context d own)) ((reduct_accepts m s r.context x c d f there own).0 (of_u.accepted r.context f own_u))
            (lies r.context d f own own_u) r.belief h,
      ))))

  -- each set that has all that its own heads let act: either it has all that applies, or a rule may go
  needed_or_less : IsGrounded m s → (x : ℕ) → Within x (applicable m σ) → IsPrefixed x → ((k : ℕ) → has x k ≡ true → IsPrefixed (minus x (single k)) → Within (applicable m σ) x) → Within (applicable m σ) x
  needed_or_less grounded x within prefixed less = let (u, of_u) = some_accepted x in elim (acts_or_not x u) [
    | inl acts ↦ all_act grounded x within prefixed u of_u acts
    | inr lacks ↦ less lacks.0 lacks.2 (prefixed_less x lacks.0 lacks.1 prefixed u of_u lacks.3 lacks.4)
  ]

  -- so it has all that applies
  pub all_needed : IsGrounded m s → (most x : ℕ) → size x ≤ most → Within x (applicable m σ) → IsPrefixed x → Within (applicable m σ) x
  all_needed grounded zero x few within prefixed = needed_or_less grounded x within prefixed (λ k member less. absurd (omega (arith, few, size-without x k member)))
  all_needed grounded (suc most) x few within prefixed = needed_or_less grounded x within prefixed (λ k member less j h. minus_within x (single k) j
      (all_needed grounded most (minus x (single k)) (omega (arith, few, size-without x k member)) (λ i inside. within i (minus_within x (single k) i inside)) less j h))

-- Derivations: what is derived from nothing acts in each equilibrium of a reduct, and where all that applies is derived the state is grounded; where less is, it is not.
use Rattle.std.proofs.Common.{◌≡◌, ℕ, ◌+◌, ◌<◌, Bool, true, false, not, ◌&&◌, List, ◌++◌, length, Some, inl, inr, ◌↔◌, arith, refl, sym, ap, ◌∙◌, subst, true≢false, slice_get}
use Rattle.std.proofs.lemmas.Bool.{and_parts, and_from, eq-eqb, not-true, not_from_false, false_from_ne_true}
use Rattle.std.proofs.lemmas.Option.{slice_get_within}
use Rattle.std.specs.List.{AllByRecursion, list_all}
use Rattle.mcs_sets.specs.Sets.{has, union, common, size, Within}
use Rattle.mcs_sets.proofs.SetLemmas.{has-common}
use Rattle.mcs_sets.proofs.Lattice.{in_common, in_union, within_antisymmetric, union_within}
use Rattle.mcs_base.specs.Listings.{IsAmong}
use Rattle.mcs_base.proofs.Each.{all_among, all_from_among, all_by_test}
use Rattle.mcs_system.specs.Plain.{Name, Kb, Classical, Program, ProgramRule, Context, Read, Bridge, System}
use Rattle.mcs_system.specs.Logic.{BeliefSet, Theory, Atoms, Believes}
use Rattle.mcs_system.specs.Imports.{rules_into}
use Rattle.mcs_system.specs.Systems.{variables, variables_of, applicable, believed_at, heads_into, BelievesIn, IsVariable}
use Rattle.mcs_system.proofs.VariableLemmas.{variable_in_range, believed_from, from_believed, has-applicable, has-variables_of, has-rules_into}
use Rattle.mcs_reduct.specs.Plain.{IsPlain}
use Rattle.mcs_reduct.specs.Reducts.{names_believed, IsReductEquilibrium}
use Rattle.mcs_reduct.specs.Shown.{IsShownBy, DoAct, AreAcceptedWith}
use Rattle.mcs_reduct.specs.Grounded.{IsGrounded}
use Rattle.mcs_grounded.specs.Derivations.{IsCone, Tells, Derives, atoms_at, AreAbove, AreBelow, IsWhole, AreTold, IsDerived}
use Rattle.mcs_reduct.proofs.Reduced.{reduct_accepts, reduct_of_equilibrium}
use Rattle.mcs_reduct.proofs.Beliefs.{are_unblocked, unblocked_rules}
use Rattle.mcs_reduct.proofs.Heads.{heads_more, within_more}
use Rattle.mcs_reduct.proofs.Shown.{context_at, state_accepted, more_believed, applies_there, belief_in, act_in, within_where_all}
use Rattle.mcs_reduct.proofs.Needed.{all_needed}
use Rattle.mcs_grounded.proofs.Least.{IsDerivedSet, HasBodies, IsOfCone, derived_below, derived_above}

-- the cones of the programs
abbrev pub HaveCones : System → List ℕ → Type 0
HaveCones m cones = (i : ℕ) (c : Context) (rules : List ProgramRule) → slice_get m.contexts i ≡ Some c → c.kb ≡ Program rules → IsCone m i rules (atoms_at m cones i)

-- ---- what the rules read
each_passes : {A : Type 0} (p : A → Bool) (xs : List A) (x : A) → list_all p xs ≡ true → IsAmong x xs → p x ≡ true
each_passes p xs x all among = all_among (λ y. p y ≡ true) xs x ((all_by_test (λ y. p y ≡ true) p xs (λ y _. (λ e. e, λ e. e))).1 all) among

all_pass : {A : Type 0} (p : A → Bool) (xs : List A) → ((x : A) → IsAmong x xs → p x ≡ true) → list_all p xs ≡ true
all_pass p xs each = (all_by_test (λ y. p y ≡ true) p xs (λ y _. (λ e. e, λ e. e))).0 (all_from_among (λ y. p y ≡ true) xs each)

module _ (m : System) where
  -- a read that is believed at a set is a variable of the set
  pub read_at : (τ : ℕ) (r : Read) → believed_at m τ r ≡ true → (v : ℕ) × IsVariable m v r × (has τ v ≡ true)
  read_at τ r h = let (v, var, member) = believed_from τ 0 r (variables m) h in (v, var, ap (has τ) (let z : v ≡ 0 + v = omega arith in z) ∙ member)

  pub at_read : (τ v : ℕ) (r : Read) → IsVariable m v r → has τ v ≡ true → believed_at m τ r ≡ true
  at_read τ v r var member = from_believed τ 0 r (variables m) v var (ap (has τ) (let z : 0 + v ≡ v = omega arith in z) ∙ member)

  positive_at : (τ k : ℕ) (b : Bridge) (r : Read) → slice_get m.bridges k ≡ Some b → has (applicable m τ) k ≡ true → IsAmong r b.pos → believed_at m τ r ≡ true
  positive_at τ k b r is member among = each_passes (believed_at m τ) b.pos r
      (and_parts (list_all (believed_at m τ) b.pos) (list_all (λ r. not (believed_at m τ r)) b.neg) (sym (has-applicable m τ k b is) ∙ member)).0 among

  negative_at : (τ k : ℕ) (b : Bridge) (r : Read) → slice_get m.bridges k ≡ Some b → has (applicable m τ) k ≡ true → IsAmong r b.neg → believed_at m τ r ≡ false
  negative_at τ k b r is member among = not-true (believed_at m τ r) (each_passes (λ r. not (believed_at m τ r)) b.neg r
      (and_parts (list_all (believed_at m τ) b.pos) (list_all (λ r. not (believed_at m τ r)) b.neg) (sym (has-applicable m τ k b is) ∙ member)).1 among)

  -- a rule that applies in σ applies in a part of it that has its positive reads
  applies_in_part : (σ τ k : ℕ) (b : Bridge) → slice_get m.bridges k ≡ Some b → has (applicable m σ) k ≡ true → Within τ σ → ((r : Read) → IsAmong r b.pos → believed_at m τ r ≡ true) → has (applicable m τ) k ≡ true
  applies_in_part σ τ k b is member within pos = has-applicable m τ k b is ∙ and_from (list_all (believed_at m τ) b.pos) (list_all (λ r. not (believed_at m τ r)) b.neg)
      (all_pass (believed_at m τ) b.pos pos)
      (all_pass (λ r. not (believed_at m τ r)) b.neg (λ r among. not_from_false (believed_at m τ r) (false_from_ne_true (believed_at m τ r) (λ h.
      let (v, var, inside) = read_at τ r h in
      true≢false (sym (at_read σ v r var (within v inside)) ∙ negative_at σ k b r is member among)))))

  -- ---- equilibria of the reduct
  module _ (plain : IsPlain m) (σ : ℕ) (s : List BeliefSet) (shown : IsShownBy m σ s) (t : List BeliefSet) (e : IsReductEquilibrium m s t) where
    -- a read of context i that s believes, where all rules into i that apply in σ act in t
    pub told_whole : (x : ℕ) → Within x e.balanced.acting → (r : Read) → r.context < length m.contexts → IsWhole m σ x r.context → BelievesIn s r → BelievesIn t r
    told_whole x acts r less whole (b, own, h) =
        let (c, is, b', own') = context_at m plain σ s shown r.context less in
        let (f, own'', accepted) = belief_in m plain σ s shown t e r.context less in (
          f,
          own'',
          more_believed m plain σ s shown r.context (applicable m σ) e.balanced.acting c b b f is own
              (λ k d there into member. acts k (whole k (has-common (applicable m σ) (rules_into m r.context) k ∙ and_from (has (applicable m σ) k) (has (rules_into m r.context) k) member (has-rules_into m r.context k d there ∙ eq-eqb d.target r.context into))))
              (state_accepted m plain σ s shown r.context b own) accepted r.belief h,
        )

  -- ---- what contexts derive
  derived_set : (i : ℕ) (cone names : List Name) (kb : Kb) (x τ : ℕ) → Derives m i cone names kb x τ → (d : BeliefSet) × Tells m i d τ × IsDerivedSet cone names kb (heads_into m i x) d
  derived_set i cone names (Classical fs) x τ h = (Theory (fs ++ heads_into m i x), h, refl)
  derived_set i cone names (Program rules) x τ (a, is, tells) = (Atoms a, tells, (a, refl, is))
  derived_set i cone names kb x τ h = absurd h

  has_bodies : (cones : List ℕ) → HaveCones m cones → (i : ℕ) (c : Context) → slice_get m.contexts i ≡ Some c → HasBodies (atoms_at m cones i) c.kb
  has_bodies cones have i c is = at c.kb refl
    where
      at : (kb : Kb) → c.kb ≡ kb → HasBodies (atoms_at m cones i) kb
      at (Program rules) e = (have i c rules is e).bodies
      at kb e = tt

  is_of_cone : (cones : List ℕ) → HaveCones m cones → (i v : ℕ) (c : Context) (r : Read) → slice_get m.contexts i ≡ Some c → IsVariable m v r → r.context ≡ i → IsOfCone (atoms_at m cones i) c.kb r.belief
  is_of_cone cones have i v c r is var own = at c.kb refl
    where
      at : (kb : Kb) → c.kb ≡ kb → IsOfCone (atoms_at m cones i) kb r.belief
      at (Program rules) e = λ n is_atom. (have i c rules is e).read v r n var own is_atom
      at kb e = tt

  -- what a context tells contains v exactly where the belief set believes the variable
  told_has : (i v τ : ℕ) (r : Read) (d : BeliefSet) → Tells m i d τ → IsVariable m v r → r.context ≡ i → (has τ v ≡ true) ↔ Believes d r.belief
  told_has i v τ r d tells var own = (
    λ h. (let (q, var', own', believed) = (tells v).0 h in let same : q ≡ r = cc in subst (λ (q : Read). Believes d q.belief) same believed),
    λ h. (tells v).1 (r, var, own, h),
  )

  own_part : (σ i v : ℕ) (r : Read) → IsVariable m v r → r.context ≡ i → has (common σ (variables_of m i)) v ≡ has σ v
  own_part σ i v r var own = has-common σ (variables_of m i) v ∙ at (has σ v) (has (variables_of m i) v) (has-variables_of m i v r var ∙ eq-eqb r.context i own)
    where
      at : (u w : Bool) → w ≡ true → (u && w) ≡ u
      at true w e = e
      at false w e = refl

  module _ (plain : IsPlain m) (σ : ℕ) (cones sets : List ℕ) (have : HaveCones m cones) where
    -- ---- a step from below: what is told with rules that act in t is believed in t
    pub told_believed : (x believed : ℕ) → Within x (applicable m σ) → AreTold m σ cones sets x believed → (s t : List BeliefSet) (shown : IsShownBy m σ s) → AreAbove m cones sets s → (e : IsReductEquilibrium m s t) → DoAct m t x
        → (v : ℕ) (r : Read) → IsVariable m v r → has believed v ≡ true → has σ v ≡ true → BelievesIn t r
    told_believed x believed within told s t shown above e acts v r var in_believed in_σ =
        let less = variable_in_range m v r var in
        let acting = act_in m plain σ s shown t e x within acts in
        let (c, is, b, own) = context_at m plain σ s shown r.context less in
        let member : has (common believed (variables_of m r.context)) v ≡ true = own_part believed r.context v r var refl ∙ in_believed in
        elim (told r.context less) [
          | inl whole ↦ (let (q, var', believes) = (shown.projection v).0 in_σ in let same : q ≡ r = cc in
              told_whole plain σ s shown t e x acting r less whole.0 (subst (BelievesIn s) same believes))
          | inr derived ↦ (
              let (d, tells, of_d) = derived_set r.context (atoms_at m cones r.context) (atoms_at m sets r.context) c.kb x (common believed (variables_of m r.context)) (derived.1 c is) in
              let (f, own', accepted) = belief_in m plain σ s shown t e r.context less in (
                f,
                own',
                derived_below (atoms_at m cones r.context) (names_believed b) (atoms_at m sets r.context) c.kb (heads_into m r.context x) (heads_into m r.context e.balanced.acting)
                    (plain r.context c is) (has_bodies cones have r.context c is) (heads_more m r.context x e.balanced.acting (within_more m r.context x e.balanced.acting acting)) (λ n on inside. above r.context b n own on inside)
                    d f of_d ((reduct_accepts m s r.context e.balanced.acting c b f is own).0 accepted) r.belief ((told_has r.context v _ r d tells var refl).0 member),
              ))
        ]

    -- so the rules that are added act in t too
    pub founded_more : (x believed fresh : ℕ) → Within x (applicable m σ) → AreTold m σ cones sets x believed → Within fresh (common (applicable m (common believed σ)) (applicable m σ))
        → ((s t : List BeliefSet) → IsShownBy m σ s → AreAbove m cones sets s → IsReductEquilibrium m s t → DoAct m t x)
        → (s t : List BeliefSet) → IsShownBy m σ s → AreAbove m cones sets s → IsReductEquilibrium m s t → DoAct m t (union x fresh)
    founded_more x believed fresh within told adds before s t shown above e k b member is = elim (in_union x fresh k member) [
      | inl old ↦ before s t shown above e k b old is
      | inr new ↦ all_from_among (BelievesIn t) b.pos (λ r among. (
          let applies = (in_common (applicable m (common believed σ)) (applicable m σ) k (adds k new)).0 in
          let (v, var, inside) = read_at (common believed σ) r (positive_at (common believed σ) k b r is applies among) in
          let (in_believed, in_σ) = in_common believed σ v inside in
          told_believed x believed within told s t shown above e (before s t shown above e) v r var in_believed in_σ))
    ]

    pub within_grows : (x believed fresh : ℕ) → Within x (applicable m σ) → Within fresh (common (applicable m (common believed σ)) (applicable m σ)) → Within (union x fresh) (applicable m σ)
    within_grows x believed fresh within adds = union_within x fresh (applicable m σ) within (λ k member. (in_common (applicable m (common believed σ)) (applicable m σ) k (adds k member)).1)

    -- ---- where nothing is added
    pub closed_where_stuck : (x believed : ℕ) → AreTold m σ cones sets x believed → Within (common (applicable m (common believed σ)) (applicable m σ)) x
        → (s u : List BeliefSet) → IsShownBy m σ s → AreBelow m σ x sets s → AreAcceptedWith m s x u
        → (k : ℕ) (b : Bridge) → has (applicable m σ) k ≡ true → slice_get m.bridges k ≡ Some b → AllByRecursion (BelievesIn u) b.pos → has x k ≡ true
    closed_where_stuck x believed told stuck s u shown below accepted k b member is pos =
        stuck k (has-common (applicable m (common believed σ)) (applicable m σ) k ∙ and_from (has (applicable m (common believed σ)) k) (has (applicable m σ) k)
        (applies_in_part σ (common believed σ) k b is member (λ v h. (in_common believed σ v h).1) (λ r among. at r among (all_among (BelievesIn u) b.pos r pos among))) member)
      where
        at : (r : Read) → IsAmong r b.pos → BelievesIn u r → believed_at m (common believed σ) r ≡ true
        at r among (f, own_u, h) =
            let (v, var, in_σ) = read_at σ r (positive_at σ k b r is member among) in
            let less = variable_in_range m v r var in
            let (c, there, d, own) = context_at m plain σ s shown r.context less in
            at_read (common believed σ) v r var (has-common believed σ v ∙ and_from (has believed v) (has σ v) (sym (own_part believed r.context v r var refl) ∙ elim (told r.context less) [
              | inl whole ↦ (ap (λ (τ : ℕ). has τ v) whole.1 ∙ own_part σ r.context v r var refl ∙ in_σ)
              | inr derived ↦ (
                  let (g, tells, of_g) = derived_set r.context (atoms_at m cones r.context) (atoms_at m sets r.context) c.kb x (common believed (variables_of m r.context)) (derived.1 c there) in
                  (told_has r.context v _ r g tells var refl).1 (derived_above (atoms_at m cones r.context) (names_believed d) (atoms_at m sets r.context) c.kb (heads_into m r.context x) (heads_into m r.context x)
                  (plain r.context c there) (has_bodies cones have r.context c there) (λ f among. among) (λ n inside. below r.context d n own derived.0 inside)
                  g f of_g ((reduct_accepts m s r.context x c d f there own).0 (accepted.accepted r.context f own_u)) r.belief (is_of_cone cones have r.context v c r there var refl) h))
            ]) in_σ)

    -- ---- all is derived
    pub grounded_where_all : (x : ℕ) → IsDerived m σ cones sets x → x ≡ applicable m σ → (s : List BeliefSet) → IsShownBy m σ s → AreAbove m cones sets s → IsGrounded m s
    grounded_where_all x derived all s shown above = record {
      balanced = reduct_of_equilibrium m s (unblocked_rules m s) (are_unblocked m s) shown.balanced;
      least = λ t e. within_where_all m plain σ s shown t e (subst (λ (y : ℕ). Within y e.balanced.acting) all (act_in m plain σ s shown t e x derived.within (derived.founded s t shown above e)));
    }

  -- ---- not all is derived
  pub ungrounded_where_less : (plain : IsPlain m) (σ : ℕ) (cones sets : List ℕ) (x : ℕ) → IsDerived m σ cones sets x → ¬ (x ≡ applicable m σ) → (s : List BeliefSet) → IsShownBy m σ s → AreBelow m σ x sets s → ¬ IsGrounded m s
  ungrounded_where_less plain σ cones sets x derived less s shown below grounded = less (within_antisymmetric x (applicable m σ) derived.within (all_needed m plain σ s shown grounded (size x) x (omega arith) derived.within prefixed))
    where
      prefixed : (u : List BeliefSet) → AreAcceptedWith m s x u → (k : ℕ) (b : Bridge) → has (unblocked_rules m s) k ≡ true → slice_get m.bridges k ≡ Some b → AllByRecursion (BelievesIn u) b.pos → has x k ≡ true
      prefixed u of_u k b unblocked is pos = derived.closed s u shown below of_u k b
          (applies_there m plain σ s shown (unblocked_rules m s) k b (are_unblocked m s) is unblocked (all_from_among (BelievesIn s) b.pos (λ r among. in_state r (all_among (BelievesIn u) b.pos r pos among)))) is pos
        where
          in_state : (r : Read) → BelievesIn u r → BelievesIn s r
          in_state r (f, own, h) =
              let within : r.context < length m.contexts = omega (arith, slice_get_within u r.context f own, of_u.one_each) in
              let (c, there, d, own') = context_at m plain σ s shown r.context within in
              (d, own', more_believed m plain σ s shown r.context x (applicable m σ) c d f d there own' (within_more m r.context x (applicable m σ) derived.within) (of_u.accepted r.context f own) (state_accepted m plain σ s shown r.context d own') r.belief h)

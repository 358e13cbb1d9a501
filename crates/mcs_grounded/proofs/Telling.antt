-- What contexts tell, one after the other.
use Rattle.std.proofs.Common.{◌≡◌, ℕ, ◌+◌, ◌<◌, true, not, ltb, List, ◌++◌, length, inl, inr, arith, sym, ap, ◌∙◌, subst, true≢false, slice_get}
use Rattle.std.proofs.lemmas.Bool.{and_parts, and_from, ltb-true, eqb-true, eq-eqb, cases_lt}
use Rattle.mcs_sets.specs.Sets.{has, common, union, Within}
use Rattle.mcs_sets.proofs.SetLemmas.{has-empty, has-such_that, has-common}
use Rattle.mcs_sets.proofs.Lattice.{in_common, in_union, within_antisymmetric, within_union_left, within_union_right}
use Rattle.mcs_base.proofs.Lists.{slice_get_below}
use Rattle.mcs_system.specs.Plain.{Name, Kb, Classical, Program, Read, System}
use Rattle.mcs_system.specs.Logic.{BeliefSet, Theory, Atoms}
use Rattle.mcs_system.specs.Imports.{rules_into}
use Rattle.mcs_system.specs.Systems.{variables, variables_of, is_of_context, applicable, heads_into, IsVariable}
use Rattle.mcs_system.proofs.VariableLemmas.{has-variables_of}
use Rattle.mcs_grounded.specs.Derivations.{Tells, Derives, atoms_at, IsTold, AreTold}
use Rattle.mcs_grounded.specs.declared.basis.Derivation.{Derivation}

-- ---- the rules into a context that apply in the state
pub own_is : (d : Derivation) (i own into : ℕ) → own ≡ common d.goal into → into ≡ rules_into d.system.now i → own ≡ common (applicable d.system.now d.state) (rules_into d.system.now i)
own_is d i own into of_goal of_context = of_goal ∙ ap (λ (x : ℕ). common x into) d.right ∙ ap (common (applicable d.system.now d.state)) of_context

module _ (m : System) where
  -- ---- the variables of a context
  pub own_variable : (i v : ℕ) → has (variables_of m i) v ≡ true → (r : Read) × IsVariable m v r × (r.context ≡ i)
  unfolding variables_of
  own_variable i v h =
      let known : ltb v (length (variables m)) ≡ true = (and_parts (ltb v (length (variables m))) (is_of_context i (slice_get (variables m) v)) (sym (has-such_that (length (variables m)) (λ v. is_of_context i (slice_get (variables m) v)) v) ∙ h)).0 in
      let (r, var) = slice_get_below (variables m) v (ltb-true v (length (variables m)) known) in
      (r, var, eqb-true r.context i (sym (has-variables_of m i v r var) ∙ h))

  -- no variable is of two contexts
  own_only : (i j v : ℕ) → has (variables_of m i) v ≡ true → has (variables_of m j) v ≡ true → i ≡ j
  own_only i j v of_i of_j = let (r, var, own) = own_variable i v of_i in sym own ∙ eqb-true r.context j (sym (has-variables_of m j v r var) ∙ of_j)

  -- ---- what a context tells is among its variables
  tells_own : (i τ : ℕ) (b : BeliefSet) → Tells m i b τ → Within τ (variables_of m i)
  tells_own i τ b tells v member = let (r, var, own, believed) = (tells v).0 member in has-variables_of m i v r var ∙ eq-eqb r.context i own

  derives_own : (i : ℕ) (cone names : List Name) (kb : Kb) (x τ : ℕ) → Derives m i cone names kb x τ → Within τ (variables_of m i)
  derives_own i cone names (Classical fs) x τ d = tells_own i τ (Theory (fs ++ heads_into m i x)) d
  derives_own i cone names (Program rules) x τ (a, answer, tells) = tells_own i τ (Atoms a) tells
  derives_own i cone names kb x τ d = absurd d

  module _ (σ : ℕ) (cones sets : List ℕ) where
    told_own : (x i τ : ℕ) → i < length m.contexts → IsTold m σ cones sets x i τ → Within τ (variables_of m i)
    told_own x i τ less (inl (whole, same)) v member = (in_common σ (variables_of m i) v (subst (λ (τ : ℕ). has τ v ≡ true) same member)).1
    told_own x i τ less (inr (not, derived)) v member = let (c, is) = slice_get_below m.contexts i less in derives_own i (atoms_at m cones i) (atoms_at m sets i) c.kb x τ (derived c is) v member

    -- ---- one context after the other
    -- the contexts before n were asked, and nothing else is told
    pub record AreToldBelow (x n believed : ℕ) : Type 0 where
      pub own : (v : ℕ) → has believed v ≡ true → (r : Read) × IsVariable m v r × (r.context < n)
      pub told : (i : ℕ) → i < n → IsTold m σ cones sets x i (common believed (variables_of m i))

    pub told_none : (x : ℕ) → AreToldBelow x 0 0
    told_none x = record { own = λ v member. absurd (true≢false (sym member ∙ has-empty v)); told = λ i less. absurd (omega (arith, less)) }

    pub told_next : (x n believed τ : ℕ) → n < length m.contexts → AreToldBelow x n believed → IsTold m σ cones sets x n τ → AreToldBelow x (n + 1) (union believed τ)
    told_next x n believed τ less before told = record {
      own = λ v member. elim (in_union believed τ v member) [
        | inl old ↦ (let (r, var, below) = before.own v old in (r, var, omega (arith, below)))
        | inr new ↦ (let (r, var, own) = own_variable n v (told_own x n τ less told v new) in (r, var, omega (arith, own)))
      ];
      told = λ i below. elim (cases_lt i n) [
        | inl earlier ↦ subst (λ (z : ℕ). IsTold m σ cones sets x i z) (sym (beside i (λ same. absurd (omega (arith, earlier, same))))) (before.told i earlier)
        | inr last ↦ (let same : i ≡ n = omega (arith, below, last) in
            subst (λ (j : ℕ). IsTold m σ cones sets x j (common (union believed τ) (variables_of m j))) (sym same) (subst (λ (z : ℕ). IsTold m σ cones sets x n z) (sym here) told))
      ];
    }
      where
        here : common (union believed τ) (variables_of m n) ≡ τ
        here = within_antisymmetric (common (union believed τ) (variables_of m n)) τ (λ v h. (
            let (member, of_n) = in_common (union believed τ) (variables_of m n) v h in
            elim (in_union believed τ v member) [
              | inl old ↦ (let (r, var, below) = before.own v old in let same = eqb-true r.context n (sym (has-variables_of m n v r var) ∙ of_n) in absurd (omega (arith, below, same)))
              | inr new ↦ new
            ]))
            (λ v h. has-common (union believed τ) (variables_of m n) v ∙ and_from (has (union believed τ) v) (has (variables_of m n) v) (within_union_right believed τ v h) (told_own x n τ less told v h))

        beside : (i : ℕ) → ¬ (i ≡ n) → common (union believed τ) (variables_of m i) ≡ common believed (variables_of m i)
        beside i other = within_antisymmetric (common (union believed τ) (variables_of m i)) (common believed (variables_of m i)) (λ v h. (
            let (member, of_i) = in_common (union believed τ) (variables_of m i) v h in
            elim (in_union believed τ v member) [
              | inl old ↦ has-common believed (variables_of m i) v ∙ and_from (has believed v) (has (variables_of m i) v) old of_i
              | inr new ↦ absurd (other (own_only i n v of_i (told_own x n τ less told v new)))
            ]))
            (λ v h. (let (member, of_i) = in_common believed (variables_of m i) v h in
            has-common (union believed τ) (variables_of m i) v ∙ and_from (has (union believed τ) v) (has (variables_of m i) v) (within_union_left believed τ v member) of_i))

    pub told_all : (x believed : ℕ) → AreToldBelow x (length m.contexts) believed → AreTold m σ cones sets x believed
    told_all x believed before i less = before.told i less

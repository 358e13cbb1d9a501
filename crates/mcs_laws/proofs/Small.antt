-- Small contexts, evaluated, and the projection of a belief state.
use Rattle.std.proofs.Common.{◌≡◌, ℕ, Bool, true, false, not, ◌&&◌, ◌||◌, ltb, List, [], ◌∷◌, length, Option, Some, None, refl, sym, ap, ◌∙◌, subst, inl, inr, ◌⊎◌, arith, true≢false, slice_get}
use Rattle.std.proofs.lemmas.Bool.{and_parts, or_cases}
use Rattle.std.proofs.lemmas.Bool.Decides.{nat_tests}
use Rattle.std.specs.List.{list_all}
use Rattle.mcs_sets.specs.Sets.{such_that}
use Rattle.mcs_sets.proofs.SetLemmas.{same_set, has-such_that}
use Rattle.mcs_system.specs.Plain.{Name, Formula, Atom, Read, System}
use Rattle.mcs_system.specs.Logic.{same_name, is_in, BeliefSet, Theory, Atoms, Believes, satisfies, IsProperSubset}
use Rattle.mcs_system.specs.Systems.{variables, BelievesIn, IsVariable, IsProjection}
use Rattle.mcs_laws.specs.Laws.{StatesHaveOneProjection, DisjunctionChooses, BirdFlies}
use Rattle.mcs_laws.specs.Examples.{name_a, name_b, name_bird, name_flies}
use Rattle.mcs_system.proofs.Consequence.{cases_entails}
use Rattle.mcs_system.proofs.Sameness.{same_name-is}
use Rattle.std.proofs.lemmas.Option.{slice_get_within}
use Rattle.mcs_base.proofs.Booleans.{test_of, test_of-tells}
use Rattle.std.specs.Cmp.{both_ways}

-- ---- whether a belief is believed is decided
decided : (b : BeliefSet) (p : Formula) → Believes b p ⊎ (¬ Believes b p)
decided (Theory fs) p = cases_entails fs p
decided (Atoms names) (Atom n) = at (is_in n names)
  where
    at : (v : Bool) → (v ≡ true) ⊎ (¬ (v ≡ true))
    at true = inl refl
    at false = inr (λ e. true≢false (sym e))
decided (Atoms names) p = inr (λ h. h)

decided_in : (s : List BeliefSet) (r : Read) → BelievesIn s r ⊎ (¬ BelievesIn s r)
decided_in s r = at (slice_get s r.context) refl
  where
    at : (o : Option BeliefSet) → slice_get s r.context ≡ o → BelievesIn s r ⊎ (¬ BelievesIn s r)
    at None e = inr (λ h. let no : None ≡ Some h.0 = sym e ∙ h.1 in cc)
    at (Some b) e = elim (decided b r.belief) [
      | inl h ↦ inl (b, e, h)
      | inr not ↦ inr (λ h. let same : h.0 ≡ b = cc in not (subst (λ (c : BeliefSet). Believes c r.belief) same h.2))
    ]

believed : (m : System) (s : List BeliefSet) → Option Read → Bool
believed m s None = false
believed m s (Some r) = test_of (decided_in s r)

pub one_projection : StatesHaveOneProjection
unfolding believed
one_projection m s = (σ, is, λ τ h. same_set τ σ (λ v. both_ways _ _ (λ e. (is v).1 ((h v).0 e)) (λ e. (h v).1 ((is v).0 e))))
  where
    σ : ℕ
    σ = such_that (length (variables m)) (λ v. believed m s (slice_get (variables m) v))

    to : (v : ℕ) (o : Option Read) → slice_get (variables m) v ≡ o → believed m s o ≡ true → (r : Read) × IsVariable m v r × BelievesIn s r
    to v None e t = absurd (true≢false (sym t))
    to v (Some r) e t = (r, e, (test_of-tells (decided_in s r)).0 t)

    is : IsProjection m s σ
    is v = (
      λ member. to v (slice_get (variables m) v) refl (and_parts (ltb v (length (variables m))) (believed m s (slice_get (variables m) v)) (sym (has-such_that (length (variables m)) (λ w. believed m s (slice_get (variables m) w)) v) ∙ member)).1,
      λ h. has-such_that (length (variables m)) (λ w. believed m s (slice_get (variables m) w)) v ∙ from v h.0 h.1 h.2,
    )
      where
        from : (v : ℕ) (r : Read) → IsVariable m v r → BelievesIn s r → (ltb v (length (variables m)) && believed m s (slice_get (variables m) v)) ≡ true
        from v r var b = let less = slice_get_within (variables m) v r var in let e : ltb v (length (variables m)) ≡ true = grind (arith, nat_tests) in rw (e, var) ((test_of-tells (decided_in s r)).1 b)

only_one : (n : Name) (other : Name) (names : List Name) → is_in other (n ∷ []) ≡ false → IsProperSubset names (n ∷ []) → (is_in n names ≡ true) ⊎ (is_in other names ≡ true) → ⊥
only_one n other names apart sub (inl e) = elim (or_cases _ _ sub.in_second) [
  | inl same ↦ true≢false (sym e ∙ ap (λ x. is_in x names) (sym (same_name-is sub.more n same)) ∙ sub.not_in_first)
  | inr nothing ↦ true≢false (sym nothing)
]
only_one n other names apart sub (inr e) = true≢false (sym (sub.within other e) ∙ apart)

one_of : (names : List Name) → list_all (satisfies names) (record { head = name_a ∷ name_b ∷ []; pos = []; neg = [] } ∷ []) ≡ true → (is_in name_a names ≡ true) ⊎ (is_in name_b names ≡ true)
one_of names h = elim (or_cases (is_in name_a names) (is_in name_b names || false) (and_parts _ _ h).0) [
  | inl e ↦ inl e
  | inr later ↦ elim (or_cases (is_in name_b names) false later) [ inl e ↦ inr e | inr nothing ↦ absurd (true≢false (sym nothing)) ]
]

pub disjunction_chooses : DisjunctionChooses
disjunction_chooses = (
  record { model = refl; minimal = λ names sub h. only_one name_a name_b names refl sub (one_of names h) },
  record { model = refl; minimal = λ names sub h. only_one name_b name_a names refl sub (elim (one_of names h) [ inl a ↦ inr a | inr b ↦ inl b ]) },
  λ h. h.minimal (name_a ∷ []) (record { within = λ n is. within n (or_cases _ _ is); more = name_b; in_second = refl; not_in_first = refl }) refl,
)
  where
    within : (n : Name) → (same_name n name_a ≡ true) ⊎ (false ≡ true) → is_in n (name_a ∷ name_b ∷ []) ≡ true
    within n (inl e) = rw e refl
    within n (inr e) = absurd (true≢false (sym e))

pub bird_flies : BirdFlies
bird_flies = record {
  closed = ((λ a h. (and_parts (is_in name_bird a) (is_in name_flies a && true) h).0), ((λ pre justs a h. (and_parts (is_in name_flies a) true (and_parts (is_in name_bird a) (is_in name_flies a && true) h).1).0), tt));
  least = λ f h. (h.0, (h.1.0 h.0 ((λ g. true≢false (sym (g (name_bird ∷ name_flies ∷ []) refl))), tt), tt));
}

-- What the sets of a context hold: its rules, its variables, and what stands before it in an order.
use Rattle.std.proofs.Common.{◌≡◌, ℕ, ◌+◌, suc, Bool, true, false, ◌&&◌, eqb, ltb, List, [], ◌∷◌, length, Some, refl, sym, ◌∙◌, inl, inr, arith, slice_get, cond, nat_eq, ◌<◌, ◌^◌, ◌++◌, subst}
use Rattle.std.proofs.lemmas.Bool.{and_parts}
use Rattle.std.proofs.lemmas.Bool.Decides.{nat_tests}
use Rattle.std.specs.List.{list_any, enumerate_from}
use Rattle.mcs_sets.specs.Sets.{has, Within}
use Rattle.mcs_sets.proofs.SetLemmas.{has-such_that, members_below, such_that-lt}
use Rattle.mcs_base.specs.Listings.{IsAmong, AreApart}
use Rattle.mcs_base.proofs.Lists.{slice_get_below}
use Rattle.mcs_base.proofs.Among.{among_left, among_right}
use Rattle.mcs_base.proofs.Distinct.{distinct_filter}
use Rattle.mcs_system.specs.Plain.{Read, Bridge, System}
use Rattle.mcs_system.specs.Systems.{same_read, variables, variables_of, is_of_context, IsVariable, all_rules, all_variables}
use Rattle.mcs_system.specs.Imports.{before_in, rules_into, goes_into, imports, supplied, FollowsOrder, IsImportOrder}
use Rattle.mcs_system.proofs.VariableLemmas.{has-rules_into, has-variables_of}
use Rattle.mcs_system.proofs.MarkLemmas.{has-all_rules}

pub rule_there : (m : System) (i k : ℕ) → has (rules_into m i) k ≡ true → (b : Bridge) × (slice_get m.bridges k ≡ Some b) × (b.target ≡ i)
unfolding rules_into
rule_there m i k inside =
    let known = (and_parts (ltb k (length m.bridges)) _ (sym (has-such_that (length m.bridges) (λ j. goes_into i (slice_get m.bridges j)) k) ∙ inside)).0 in
    let (b, is) = slice_get_below m.bridges k (grind (arith, nat_tests)) in
    let own : eqb b.target i ≡ true = sym (has-rules_into m i k b is) ∙ inside in
    (b, is, grind (arith, nat_tests))

pub variable_there : (m : System) (i v : ℕ) → has (variables_of m i) v ≡ true → (r : Read) × IsVariable m v r × (r.context ≡ i)
unfolding variables_of
variable_there m i v inside =
    let known = (and_parts (ltb v (length (variables m))) _ (sym (has-such_that (length (variables m)) (λ w. is_of_context i (slice_get (variables m) w)) v) ∙ inside)).0 in
    let (r, is) = slice_get_below (variables m) v (grind (arith, nat_tests)) in
    let own : eqb r.context i ≡ true = sym (has-variables_of m i v r is) ∙ inside in
    (r, is, grind (arith, nat_tests))

pub rules_into_known : (m : System) (i : ℕ) → Within (rules_into m i) (all_rules m)
unfolding rules_into
rules_into_known m i k inside = has-all_rules m k ∙ (and_parts _ _ (sym (has-such_that (length m.bridges) _ k) ∙ inside)).0

pub states_known : (m : System) (σ : ℕ) → σ < 2 ^ length (variables m) → Within σ (all_variables m)
states_known m σ small v member = let less = members_below σ (length (variables m)) v small member in has-such_that (length (variables m)) (λ w. true) v ∙ grind (arith, nat_tests)

pub variables_of-lt : (m : System) (i : ℕ) → variables_of m i < 2 ^ length (variables m)
unfolding variables_of
variables_of-lt m i = such_that-lt (length (variables m)) _

-- two states that agree on what is read tell the same of it
pub same_believed : (σ τ : ℕ) (r : Read) (xs : List Read) (k : ℕ) → ((v : ℕ) (q : Read) → slice_get xs v ≡ Some q → same_read q r ≡ true → has σ (k + v) ≡ has τ (k + v))
    → list_any (λ v. has σ v.0 && same_read v.1 r) (enumerate_from k xs) ≡ list_any (λ v. has τ v.0 && same_read v.1 r) (enumerate_from k xs)
same_believed σ τ r [] k same = refl
same_believed σ τ r (x ∷ xs) k same =
    let later = same_believed σ τ r xs (k + 1) (λ v q is alike. let e : k + 1 + v ≡ k + suc v = omega arith in rw e (same (suc v) q is alike)) in
    let here : same_read x r ≡ true → has σ k ≡ has τ k = λ alike. (let e : k + 0 ≡ k = omega arith in rw e at (same 0 x refl alike)) in
    let first : (has σ k && same_read x r) ≡ (has τ k && same_read x r) = grind arith in
    rw (first, later) refl

-- ---- an order
pub before_among : (c i : ℕ) (xs : List ℕ) → IsAmong c (before_in xs i) → IsAmong c xs
before_among c i [] h = absurd h
before_among c i (x ∷ xs) h = at (nat_eq x i) h (before_among c i xs)
  where
    at : (b : Bool) → IsAmong c (cond b [] (x ∷ before_in xs i)) → (IsAmong c (before_in xs i) → IsAmong c xs) → IsAmong c (x ∷ xs)
    at true none rest = absurd none
    at false (inl e) rest = inl e
    at false (inr later) rest = inr (rest later)

-- an order has each context once
follows_untaken : (m : System) (taken xs : List ℕ) → FollowsOrder m taken xs → (k : ℕ) → IsAmong k xs → ¬ IsAmong k taken
follows_untaken m taken [] h k among t = among
follows_untaken m taken (x ∷ xs) h k (inl e) t = h.0.ready.untaken (subst (λ (z : ℕ). IsAmong z taken) e t)
follows_untaken m taken (x ∷ xs) h k (inr later) t = follows_untaken m (taken ++ x ∷ []) xs h.1 k later (among_left k taken (x ∷ []) t)

pub follows_apart : (m : System) (taken xs : List ℕ) → FollowsOrder m taken xs → AreApart xs
follows_apart m taken [] h = tt
follows_apart m taken (x ∷ xs) h = (λ later. follows_untaken m (taken ++ x ∷ []) xs h.1 x later (among_right x taken (x ∷ []) (inl refl)), follows_apart m (taken ++ x ∷ []) xs h.1)

pub before_apart : (xs : List ℕ) (i : ℕ) → AreApart xs → AreApart (before_in xs i)
before_apart [] i h = tt
before_apart (x ∷ xs) i h = at (nat_eq x i) (before_apart xs i h.1)
  where
    at : (v : Bool) → AreApart (before_in xs i) → AreApart (cond v [] (x ∷ before_in xs i))
    at true rest = tt
    at false rest = (λ among. h.0 (before_among x i xs among), rest)

-- no context supplies another twice
pub supplied_apart : (m : System) (order : List ℕ) (i : ℕ) → IsImportOrder m order → AreApart (supplied m order i)
supplied_apart m order i h = distinct_filter (imports m i) (before_in order i) (before_apart order i (follows_apart m [] order h))

-- What the formulas of a program say of an assignment, and which models are answer sets.
use Rattle.std.proofs.Common.{◌≡◌, ℕ, ◌+◌, ◌<◌, zero, suc, Bool, true, false, not, ◌&&◌, ◌||◌, cond, List, [], ◌∷◌, ◌++◌, ◌⊎◌, inl, inr, map, filter, length, Some, slice_get, arith, refl, sym, ap, ◌∙◌, subst, true≢false}
use Rattle.std.proofs.lemmas.Bool.{and_parts, and_from, or_parts, or_cases, or_left, or_right, not-true, not-false, not_from_false, not_from_true, false_from_ne_true, true_from_ne_false}
use Rattle.std.proofs.lemmas.List.Folds.{list_all-append}
use Rattle.std.proofs.lemmas.Option.{slice_get_within, same_Some}
use Rattle.std.proofs.Math.Bool.{and-true}
use Rattle.std.specs.Cmp.{both_ways}
use Rattle.std.specs.List.{AllByRecursion, list_any, list_all, flat_map}
use Rattle.mcs_sets.specs.Sets.{has}
use Rattle.mcs_sets.proofs.SetLemmas.{same_set}
use Rattle.mcs_base.specs.Listings.{IsAmong}
use Rattle.mcs_base.proofs.Among.{among_any, among_filter, among_get, any_get, cases_among, filter_among, flat_map_among, none_any}
use Rattle.mcs_base.proofs.Each.{all_among, all_from_among, all_by_test, all_get, all_append, all_map, all_filter, all_weaker}
use Rattle.mcs_base.proofs.Lists.{slice_get_below}
use Rattle.mcs_system.specs.Plain.{Name, Formula, Atom, Not, And, Or, ProgramRule}
use Rattle.mcs_system.specs.Logic.{same_name, is_in, holds, holds_all, true_names, without_negation, reduct, satisfies, IsProperSubset, IsAnswerSet, Atoms, Believes}
use Rattle.mcs_system.specs.Views.{Shows}
use Rattle.mcs_system.specs.Faults.{has_twins}
use Rattle.mcs_system.proofs.NameLemmas.{is_in-among, is_in-filter, is_in_flat_map}
use Rattle.mcs_system.proofs.Sameness.{same_name-is, same_name-itself}
use Rattle.mcs_cnf.specs.ClauseLists.{IsOver, AreOver}
use Rattle.mcs_evidence.specs.Pushing.{AreNamesOf}
use Rattle.mcs_evidence.specs.Programs.{and_from as and_all, or_from as or_all, conjunction, disjunction, atoms_as, negated_atoms, false_names, rule_formula, positive_formula, smaller_formulas, is_broken_by, beside_formula, literals_of_state, other_formula, rest_formulas, IsOverRule, AreOverRules, AreAtomsOf}

-- ---- whether all names of a list, or one of them, are true
abbrev pub all_in : List Name → List Name → Bool
all_in a ns = list_all (λ n. is_in n a) ns

abbrev pub any_in : List Name → List Name → Bool
any_in a ns = list_any (λ n. is_in n a) ns

pub all_in_each : (a ns : List Name) → all_in a ns ≡ true → (n : Name) → is_in n ns ≡ true → is_in n a ≡ true
all_in_each a ns all n h = all_among (λ n. is_in n a ≡ true) ns n ((all_by_test (λ n. is_in n a ≡ true) (λ n. is_in n a) ns (λ n _. (λ e. e, λ e. e))).1 all) ((is_in-among n ns).0 h)

pub all_in_from : (a ns : List Name) → ((n : Name) → is_in n ns ≡ true → is_in n a ≡ true) → all_in a ns ≡ true
all_in_from a ns each = (all_by_test (λ n. is_in n a ≡ true) (λ n. is_in n a) ns (λ n _. (λ e. e, λ e. e))).0 (all_from_among (λ n. is_in n a ≡ true) ns (λ n h. each n ((is_in-among n ns).1 h)))

pub any_in_some : (a ns : List Name) → any_in a ns ≡ true → (n : Name) × (is_in n ns ≡ true) × (is_in n a ≡ true)
any_in_some a ns h = let (k, n, at, there) = any_get (λ n. is_in n a) ns h in (n, (is_in-among n ns).1 (among_get n ns k at), there)

pub any_in_from : (a ns : List Name) (n : Name) → is_in n ns ≡ true → is_in n a ≡ true → any_in a ns ≡ true
any_in_from a ns n h there = among_any (λ n. is_in n a) ns n ((is_in-among n ns).0 h) there

pub none_in : (a ns : List Name) (n : Name) → any_in a ns ≡ false → is_in n ns ≡ true → is_in n a ≡ false
none_in a ns n none h = none_any (λ n. is_in n a) ns n none ((is_in-among n ns).0 h)

pub none_in_from : (a ns : List Name) → ((n : Name) → is_in n ns ≡ true → is_in n a ≡ false) → any_in a ns ≡ false
none_in_from a ns each = false_from_ne_true (any_in a ns) (λ h. let (n, here, there) = any_in_some a ns h in true≢false (sym there ∙ each n here))

-- ---- formulas of lists
and_all-holds : (a : List Name) (f : Formula) (gs : List Formula) → holds a (and_all f gs) ≡ (holds a f && holds_all a gs)
and_all-holds a f [] = sym (and-true (holds a f))
and_all-holds a f (g ∷ gs) = and_all-holds a (And f g) gs ∙ same (holds a f) (holds a g) (holds_all a gs)
  where
    same : (x y z : Bool) → ((x && y) && z) ≡ (x && (y && z))
    same true y z = refl
    same false y z = refl

or_all-holds : (a : List Name) (f : Formula) (gs : List Formula) → holds a (or_all f gs) ≡ (holds a f || list_any (holds a) gs)
or_all-holds a f [] = last (holds a f)
  where
    last : (x : Bool) → x ≡ (x || false)
    last true = refl
    last false = refl
or_all-holds a f (g ∷ gs) = or_all-holds a (Or f g) gs ∙ same (holds a f) (holds a g) (list_any (holds a) gs)
  where
    same : (x y z : Bool) → ((x || y) || z) ≡ (x || (y || z))
    same true y z = refl
    same false y z = refl

pub conjunction-holds : (a : List Name) (fs : List Formula) → holds a (conjunction fs) ≡ holds_all a fs
conjunction-holds a [] = refl
conjunction-holds a (f ∷ fs) = and_all-holds a f fs

pub disjunction-holds : (a : List Name) (fs : List Formula) → holds a (disjunction fs) ≡ list_any (holds a) fs
disjunction-holds a [] = refl
disjunction-holds a (f ∷ fs) = or_all-holds a f fs

pub atoms-all_hold : (a ns : List Name) → holds_all a (atoms_as ns) ≡ all_in a ns
atoms-all_hold a [] = refl
atoms-all_hold a (n ∷ ns) = ap (λ b. is_in n a && b) (atoms-all_hold a ns)

pub atoms-any_holds : (a ns : List Name) → list_any (holds a) (atoms_as ns) ≡ any_in a ns
atoms-any_holds a [] = refl
atoms-any_holds a (n ∷ ns) = ap (λ b. is_in n a || b) (atoms-any_holds a ns)

pub negated-all_hold : (a ns : List Name) → holds_all a (negated_atoms ns) ≡ not (any_in a ns)
negated-all_hold a [] = refl
negated-all_hold a (n ∷ ns) = ap (λ b. not (is_in n a) && b) (negated-all_hold a ns) ∙ same (is_in n a) (any_in a ns)
  where
    same : (x y : Bool) → (not x && not y) ≡ not (x || y)
    same true y = refl
    same false y = refl

pub all_of-holds : (a ns : List Name) → holds a (conjunction (atoms_as ns)) ≡ all_in a ns
all_of-holds a ns = conjunction-holds a (atoms_as ns) ∙ atoms-all_hold a ns

pub any_of-holds : (a ns : List Name) → holds a (disjunction (atoms_as ns)) ≡ any_in a ns
any_of-holds a ns = disjunction-holds a (atoms_as ns) ∙ atoms-any_holds a ns

-- ---- rules
pub positive_formula-holds : (a : List Name) (r : ProgramRule) → holds a (positive_formula r) ≡ satisfies a r
positive_formula-holds a r = ap (λ b. not b || holds a (disjunction (atoms_as r.head))) (all_of-holds a r.pos) ∙ ap (λ b. not (all_in a r.pos) || b) (any_of-holds a r.head)

pub rule_formula-holds : (a : List Name) (r : ProgramRule) → holds a (rule_formula r) ≡ (not (all_in a r.pos && not (any_in a r.neg)) || any_in a r.head)
rule_formula-holds a r = ap (λ b. not b || holds a (disjunction (atoms_as r.head))) body ∙ ap (λ b. not (all_in a r.pos && not (any_in a r.neg)) || b) (any_of-holds a r.head)
  where
    body : holds a (conjunction (atoms_as r.pos ++ negated_atoms r.neg)) ≡ (all_in a r.pos && not (any_in a r.neg))
    body =
        conjunction-holds a (atoms_as r.pos ++ negated_atoms r.neg) ∙ list_all-append (holds a) (atoms_as r.pos) (negated_atoms r.neg)
        ∙ ap (λ b. b && holds_all a (negated_atoms r.neg)) (atoms-all_hold a r.pos) ∙ ap (λ b. all_in a r.pos && b) (negated-all_hold a r.neg)

-- a rule without negation is satisfied where a head atom is true as soon as the body is
pub satisfies_from : (a : List Name) (r : ProgramRule) → (all_in a r.pos ≡ true → any_in a r.head ≡ true) → satisfies a r ≡ true
satisfies_from a r h = at (all_in a r.pos) h
  where
    at : (b : Bool) → (b ≡ true → any_in a r.head ≡ true) → (not b || any_in a r.head) ≡ true
    at true h = h refl
    at false h = refl

pub satisfies_head : (a : List Name) (r : ProgramRule) → satisfies a r ≡ true → all_in a r.pos ≡ true → any_in a r.head ≡ true
satisfies_head a r h body = at (all_in a r.pos) body h
  where
    at : (b : Bool) → b ≡ true → (not b || any_in a r.head) ≡ true → any_in a r.head ≡ true
    at true e h = h
    at false e h = absurd (true≢false (sym e))

-- the reduct is satisfied where each rule is whose negative literals are true
pub reduct_each : (a b : List Name) (rules : List ProgramRule) → list_all (satisfies b) (reduct a rules) ≡ true → (r : ProgramRule) → IsAmong r rules → any_in a r.neg ≡ false → satisfies b r ≡ true
reduct_each a b [] h r none left = absurd none
reduct_each a b (s ∷ rules) h r among left = at (any_in a s.neg) refl h among (λ h. reduct_each a b rules h r)
  where
    at : (v : Bool) → any_in a s.neg ≡ v → list_all (satisfies b) (map without_negation (cond (not v) (s ∷ filter (λ r. not (any_in a r.neg)) rules) (filter (λ r. not (any_in a r.neg)) rules))) ≡ true
        → (r ≡ s) ⊎ IsAmong r rules → (list_all (satisfies b) (reduct a rules) ≡ true → IsAmong r rules → any_in a r.neg ≡ false → satisfies b r ≡ true) → satisfies b r ≡ true
    at true e h (inl same) later = absurd (true≢false (sym e ∙ ap (λ (s : ProgramRule). any_in a s.neg) (sym same) ∙ left))
    at true e h (inr there) later = later h there left
    at false e h (inl same) later = ap (satisfies b) same ∙ (and_parts (satisfies b s) (list_all (satisfies b) (reduct a rules)) h).0
    at false e h (inr there) later = later (and_parts (satisfies b s) (list_all (satisfies b) (reduct a rules)) h).1 there left

pub reduct_from : (a b : List Name) (rules : List ProgramRule) → ((r : ProgramRule) → IsAmong r rules → any_in a r.neg ≡ false → satisfies b r ≡ true) → list_all (satisfies b) (reduct a rules) ≡ true
reduct_from a b [] each = refl
reduct_from a b (s ∷ rules) each = at (any_in a s.neg) refl (reduct_from a b rules (λ r h. each r (inr h)))
  where
    at : (v : Bool) → any_in a s.neg ≡ v → list_all (satisfies b) (reduct a rules) ≡ true
        → list_all (satisfies b) (map without_negation (cond (not v) (s ∷ filter (λ r. not (any_in a r.neg)) rules) (filter (λ r. not (any_in a r.neg)) rules))) ≡ true
    at true e rest = rest
    at false e rest = and_from (satisfies b s) (list_all (satisfies b) (reduct a rules)) (each s (inl refl) e) rest

-- a set is a model of the rules where it satisfies the reduct by itself
pub rules-hold : (a : List Name) (rules : List ProgramRule) → holds_all a (map rule_formula rules) ≡ list_all (satisfies a) (reduct a rules)
rules-hold a [] = refl
rules-hold a (r ∷ rules) = ap (λ b. b && holds_all a (map rule_formula rules)) (rule_formula-holds a r) ∙ at (any_in a r.neg) (rules-hold a rules)
  where
    dropped : (body : Bool) → ((not (body && false) || any_in a r.head) && holds_all a (map rule_formula rules)) ≡ holds_all a (map rule_formula rules)
    dropped true = refl
    dropped false = refl

    kept : (body : Bool) → ((not (body && true) || any_in a r.head) && holds_all a (map rule_formula rules)) ≡ ((not body || any_in a r.head) && holds_all a (map rule_formula rules))
    kept true = refl
    kept false = refl

    at : (v : Bool) → holds_all a (map rule_formula rules) ≡ list_all (satisfies a) (reduct a rules)
        → ((not (all_in a r.pos && not v) || any_in a r.head) && holds_all a (map rule_formula rules))
        ≡ list_all (satisfies a) (map without_negation (cond (not v) (r ∷ filter (λ r. not (any_in a r.neg)) rules) (filter (λ r. not (any_in a r.neg)) rules)))
    at true rest = dropped (all_in a r.pos) ∙ rest
    at false rest = kept (all_in a r.pos) ∙ ap (λ b. satisfies a r && b) rest

pub positives-hold : (b : List Name) (rules : List ProgramRule) → holds_all b (map positive_formula rules) ≡ list_all (satisfies b) rules
positives-hold b [] = refl
positives-hold b (r ∷ rules) = ap (λ v. v && holds_all b (map positive_formula rules)) (positive_formula-holds b r) ∙ ap (λ v. satisfies b r && v) (positives-hold b rules)

-- ---- the names at places and those at none
pub true_names-known : (n : Name) (k : ℕ) (names : List Name) (s : ℕ) → is_in n (true_names k names s) ≡ true → is_in n names ≡ true
true_names-known n k [] s h = h
true_names-known n k (m ∷ names) s h = at (has s k) h (λ h. true_names-known n (k + 1) names s h)
  where
    at : (v : Bool) → is_in n (cond v (m ∷ true_names (k + 1) names s) (true_names (k + 1) names s)) ≡ true → (is_in n (true_names (k + 1) names s) ≡ true → is_in n names ≡ true) → is_in n (m ∷ names) ≡ true
    at true h later = elim (or_cases (same_name n m) (is_in n (true_names (k + 1) names s)) h) [ inl same ↦ or_left (same_name n m) (is_in n names) same | inr there ↦ or_right (same_name n m) (is_in n names) (later there) ]
    at false h later = or_right (same_name n m) (is_in n names) (later h)

pub false_names-known : (n : Name) (k : ℕ) (names : List Name) (s : ℕ) → is_in n (false_names k names s) ≡ true → is_in n names ≡ true
false_names-known n k [] s h = h
false_names-known n k (m ∷ names) s h = at (has s k) h (λ h. false_names-known n (k + 1) names s h)
  where
    at : (v : Bool) → is_in n (cond v (false_names (k + 1) names s) (m ∷ false_names (k + 1) names s)) ≡ true → (is_in n (false_names (k + 1) names s) ≡ true → is_in n names ≡ true) → is_in n (m ∷ names) ≡ true
    at false h later = elim (or_cases (same_name n m) (is_in n (false_names (k + 1) names s)) h) [ inl same ↦ or_left (same_name n m) (is_in n names) same | inr there ↦ or_right (same_name n m) (is_in n names) (later there) ]
    at true h later = or_right (same_name n m) (is_in n names) (later h)

-- a name is at a place or at none
pub true_or_false : (n : Name) (k : ℕ) (names : List Name) (s : ℕ) → is_in n names ≡ true → (is_in n (true_names k names s) ≡ true) ⊎ (is_in n (false_names k names s) ≡ true)
true_or_false n k [] s h = inl h
true_or_false n k (m ∷ names) s h = at (has s k) (or_cases (same_name n m) (is_in n names) h) (λ h. true_or_false n (k + 1) names s h)
  where
    at : (v : Bool) → (same_name n m ≡ true) ⊎ (is_in n names ≡ true) → (is_in n names ≡ true → (is_in n (true_names (k + 1) names s) ≡ true) ⊎ (is_in n (false_names (k + 1) names s) ≡ true))
        → (is_in n (cond v (m ∷ true_names (k + 1) names s) (true_names (k + 1) names s)) ≡ true) ⊎ (is_in n (cond v (false_names (k + 1) names s) (m ∷ false_names (k + 1) names s)) ≡ true)
    at true (inl same) later = inl (or_left (same_name n m) (is_in n (true_names (k + 1) names s)) same)
    at false (inl same) later = inr (or_left (same_name n m) (is_in n (false_names (k + 1) names s)) same)
    at true (inr there) later = elim (later there) [ inl h ↦ inl (or_right (same_name n m) (is_in n (true_names (k + 1) names s)) h) | inr h ↦ inr h ]
    at false (inr there) later = elim (later there) [ inl h ↦ inl h | inr h ↦ inr (or_right (same_name n m) (is_in n (false_names (k + 1) names s)) h) ]

-- and not both, where no two names are the same
pub true_not_false : (n : Name) (k : ℕ) (names : List Name) (s : ℕ) → has_twins names ≡ false → is_in n (true_names k names s) ≡ true → is_in n (false_names k names s) ≡ true → ⊥
true_not_false n k [] s single h h' = true≢false (sym h)
true_not_false n k (m ∷ names) s single h h' =
    let (new, single') = or_parts (is_in m names) (has_twins names) single in
    at new (has s k) h h' (λ h h'. true_not_false n (k + 1) names s single' h h')
  where
    unlike : is_in m names ≡ false → is_in n names ≡ true → same_name n m ≡ true → ⊥
    unlike new known same = true≢false (sym known ∙ ap (λ x. is_in x names) (same_name-is n m same) ∙ new)

    at : is_in m names ≡ false → (v : Bool) → is_in n (cond v (m ∷ true_names (k + 1) names s) (true_names (k + 1) names s)) ≡ true → is_in n (cond v (false_names (k + 1) names s) (m ∷ false_names (k + 1) names s)) ≡ true
        → (is_in n (true_names (k + 1) names s) ≡ true → is_in n (false_names (k + 1) names s) ≡ true → ⊥) → ⊥
    at new true h h' later = elim (or_cases (same_name n m) (is_in n (true_names (k + 1) names s)) h) [
      | inl same ↦ unlike new (false_names-known n (k + 1) names s h') same
      | inr there ↦ later there h'
    ]
    at new false h h' later = elim (or_cases (same_name n m) (is_in n (false_names (k + 1) names s)) h') [
      | inl same ↦ unlike new (true_names-known n (k + 1) names s h) same
      | inr there ↦ later h there
    ]

-- ---- smaller models of the reduct
-- each rule's head atoms are among the names
heads_known : (names : List Name) (rules : List ProgramRule) → AreOverRules names rules → (r : ProgramRule) → IsAmong r rules → (n : Name) → is_in n r.head ≡ true → is_in n names ≡ true
heads_known names rules over r among n h = all_among (λ n. is_in n names ≡ true) r.head n (all_among (IsOverRule names) rules r over among).0 ((is_in-among n r.head).0 h)

pub smaller-holds : (b names : List Name) (rules : List ProgramRule) (model : ℕ) → holds_all b (smaller_formulas names rules model)
    ≡ (list_all (satisfies b) (reduct (true_names 0 names model) rules) && (not (any_in b (false_names 0 names model)) && not (all_in b (true_names 0 names model))))
smaller-holds b names rules model =
    let a = true_names 0 names model in
    let out = false_names 0 names model in
    list_all-append (holds b) (map positive_formula (reduct a rules)) (negated_atoms out ++ Not (conjunction (atoms_as a)) ∷ [])
    ∙ ap (λ v. v && holds_all b (negated_atoms out ++ Not (conjunction (atoms_as a)) ∷ [])) (positives-hold b (reduct a rules))
    ∙ ap (λ v. list_all (satisfies b) (reduct a rules) && v) (
    list_all-append (holds b) (negated_atoms out) (Not (conjunction (atoms_as a)) ∷ [])
    ∙ ap (λ v. v && holds_all b (Not (conjunction (atoms_as a)) ∷ [])) (negated-all_hold b out)
    ∙ ap (λ v. not (any_in b out) && v) (and-true (not (holds b (conjunction (atoms_as a)))) ∙ ap not (all_of-holds b a))
    )

-- a smaller set that satisfies the reduct is a model of the formulas
pub smaller_from_subset : (names : List Name) (rules : List ProgramRule) (model : ℕ) (b : List Name) → has_twins names ≡ false → IsProperSubset b (true_names 0 names model)
    → list_all (satisfies b) (reduct (true_names 0 names model) rules) ≡ true → holds_all b (smaller_formulas names rules model) ≡ true
smaller_from_subset names rules model b single less sat =
    let a = true_names 0 names model in
    let out = false_names 0 names model in
    smaller-holds b names rules model
    ∙ and_from (list_all (satisfies b) (reduct a rules)) (not (any_in b out) && not (all_in b a)) sat (and_from (not (any_in b out)) (not (all_in b a))
    (not_from_false (any_in b out) (none_in_from b out (λ n h. false_from_ne_true (is_in n b) (λ there. true_not_false n 0 names model single (less.within n there) h))))
    (not_from_false (all_in b a) (false_from_ne_true (all_in b a) (λ all. true≢false (sym (all_in_each b a all less.more less.in_second) ∙ less.not_in_first)))))

-- some name of the second list is not in the first
missing : (b a : List Name) → all_in b a ≡ false → (n : Name) × (is_in n a ≡ true) × (is_in n b ≡ false)
missing b [] e = absurd (true≢false e)
missing b (n ∷ ns) e = at (is_in n b) refl e (λ e. missing b ns e)
  where
    at : (v : Bool) → is_in n b ≡ v → (v && all_in b ns) ≡ false → (all_in b ns ≡ false → (m : Name) × (is_in m ns ≡ true) × (is_in m b ≡ false)) → (m : Name) × (is_in m (n ∷ ns) ≡ true) × (is_in m b ≡ false)
    at true is e later = let (m, there, out) = later e in (m, or_right (same_name m n) (is_in m ns) there, out)
    at false is e later = (n, or_left (same_name n n) (is_in n ns) (same_name-itself n), is)

-- and of a model of the formulas the names that are in the set are a smaller one that satisfies the reduct
pub subset_from_smaller : (names : List Name) (rules : List ProgramRule) (model : ℕ) (b : List Name) → AreOverRules names rules → holds_all b (smaller_formulas names rules model) ≡ true
    → (c : List Name) × IsProperSubset c (true_names 0 names model) × (list_all (satisfies c) (reduct (true_names 0 names model) rules) ≡ true)
subset_from_smaller names rules model b over h = (c, smaller, reduct_from a c rules each)
  where
    a : List Name
    a = true_names 0 names model

    out : List Name
    out = false_names 0 names model

    c : List Name
    c = filter (λ n. is_in n b) a

    parts : (list_all (satisfies b) (reduct a rules) ≡ true) × ((not (any_in b out) && not (all_in b a)) ≡ true)
    parts = and_parts (list_all (satisfies b) (reduct a rules)) (not (any_in b out) && not (all_in b a)) (sym (smaller-holds b names rules model) ∙ h)

    ends : (not (any_in b out) ≡ true) × (not (all_in b a) ≡ true)
    ends = and_parts (not (any_in b out)) (not (all_in b a)) parts.1

    in_c : (n : Name) → is_in n c ≡ true → (is_in n a ≡ true) × (is_in n b ≡ true)
    in_c n h = and_parts (is_in n a) (is_in n b) (sym (is_in-filter (λ n. is_in n b) n a) ∙ h)

    smaller : IsProperSubset c a
    smaller = let (n, there, gone) = missing b a (not-true (all_in b a) ends.1) in record {
      within = λ n h. (in_c n h).0;
      more = n;
      in_second = there;
      not_in_first = false_from_ne_true (is_in n c) (λ h. true≢false (sym (in_c n h).1 ∙ gone));
    }

    each : (r : ProgramRule) → IsAmong r rules → any_in a r.neg ≡ false → satisfies c r ≡ true
    each r among left = satisfies_from c r (λ body.
        let body' = all_in_from b r.pos (λ n h. (in_c n (all_in_each c r.pos body n h)).1) in
        let (n, here, there) = any_in_some b r.head (satisfies_head b r (reduct_each a b rules parts.0 r among left) body') in
        elim (true_or_false n 0 names model (heads_known names rules over r among n here)) [
          | inl known ↦ any_in_from c r.head n here (is_in-filter (λ n. is_in n b) n a ∙ and_from (is_in n a) (is_in n b) known there)
          | inr beyond ↦ absurd (true≢false (sym there ∙ none_in b out n (not-true (any_in b out) ends.0) beyond))
        ])

-- ---- models and answer sets
-- a model of which no smaller one is possible
pub answer_set_from_model : (names : List Name) (rules : List ProgramRule) (model : ℕ) → has_twins names ≡ false → holds_all (true_names 0 names model) (map rule_formula rules) ≡ true
    → ((b : List Name) → ¬ (holds_all b (smaller_formulas names rules model) ≡ true)) → IsAnswerSet rules (true_names 0 names model)
answer_set_from_model names rules model single h none = record {
  model = sym (rules-hold (true_names 0 names model) rules) ∙ h;
  minimal = λ b less sat. none b (smaller_from_subset names rules model b single less sat);
}

-- a model with a smaller one
pub no_answer_set : (names : List Name) (rules : List ProgramRule) (model : ℕ) (b : List Name) → AreOverRules names rules → holds_all b (smaller_formulas names rules model) ≡ true → ¬ IsAnswerSet rules (true_names 0 names model)
no_answer_set names rules model b over h is = let (c, less, sat) = subset_from_smaller names rules model b over h in is.minimal c less sat

pub answer_set-holds : (rules : List ProgramRule) (a : List Name) → IsAnswerSet rules a → holds_all a (map rule_formula rules) ≡ true
answer_set-holds rules a is = rules-hold a rules ∙ is.model

-- the atoms of an answer set stand in heads
pub answer_set-in_heads : (rules : List ProgramRule) (a : List Name) → IsAnswerSet rules a → (n : Name) → is_in n a ≡ true → is_in n (flat_map (λ (r : ProgramRule). r.head) rules) ≡ true
answer_set-in_heads rules a is n here = at (is_in n heads) refl
  where
    heads : List Name
    heads = flat_map (λ (r : ProgramRule). r.head) rules

    b : List Name
    b = filter (λ n. is_in n heads) a

    in_b : (n : Name) → is_in n b ≡ true → (is_in n a ≡ true) × (is_in n heads ≡ true)
    in_b n h = and_parts (is_in n a) (is_in n heads) (sym (is_in-filter (λ n. is_in n heads) n a) ∙ h)

    each : (r : ProgramRule) → IsAmong r rules → any_in a r.neg ≡ false → satisfies b r ≡ true
    each r among left = satisfies_from b r (λ body.
        let body' = all_in_from a r.pos (λ n h. (in_b n (all_in_each b r.pos body n h)).0) in
        let (m, there, in_a) = any_in_some a r.head (satisfies_head a r (reduct_each a a rules is.model r among left) body') in
        any_in_from b r.head m there (is_in-filter (λ n. is_in n heads) m a ∙ and_from (is_in m a) (is_in m heads) in_a (is_in_flat_map (λ (r : ProgramRule). r.head) m r rules among there)))

    at : (v : Bool) → is_in n heads ≡ v → v ≡ true
    at true e = refl
    at false e = absurd (is.minimal b (record {
      within = λ m h. (in_b m h).0;
      more = n;
      in_second = here;
      not_in_first = false_from_ne_true (is_in n b) (λ h. true≢false (sym (in_b n h).1 ∙ e));
    }) (reduct_from a b rules each))

pub answer_set-known : (names : List Name) (rules : List ProgramRule) (a : List Name) → AreOverRules names rules → IsAnswerSet rules a → (n : Name) → is_in n a ≡ true → is_in n names ≡ true
answer_set-known names rules a over is n here =
    let (r, among, there) = flat_map_among (λ (r : ProgramRule). r.head) n rules ((is_in-among n (flat_map (λ (r : ProgramRule). r.head) rules)).0 (answer_set-in_heads rules a is n here)) in
    heads_known names rules over r among n ((is_in-among n r.head).1 there)

-- ---- a set that satisfies reducts is less than no answer set
pub beside-holds : (a names : List Name) (rules : List ProgramRule) (less : ℕ) → holds a (beside_formula names rules less)
    ≡ not (all_in a (true_names 0 names less) && (any_in a (false_names 0 names less) && list_all (λ (r : ProgramRule). any_in a r.neg) (filter (is_broken_by (true_names 0 names less)) rules)))
beside-holds a names rules less = ap not (
    conjunction-holds a (atoms_as x ++ (disjunction (atoms_as out) ∷ map blocked broken))
    ∙ list_all-append (holds a) (atoms_as x) (disjunction (atoms_as out) ∷ map blocked broken)
    ∙ ap (λ v. v && holds_all a (disjunction (atoms_as out) ∷ map blocked broken)) (atoms-all_hold a x)
    ∙ ap (λ v. all_in a x && (v && holds_all a (map blocked broken))) (any_of-holds a out)
    ∙ ap (λ v. all_in a x && (any_in a out && v)) (each broken)
    )
  where
    x : List Name
    x = true_names 0 names less

    out : List Name
    out = false_names 0 names less

    broken : List ProgramRule
    broken = filter (is_broken_by x) rules

    blocked : ProgramRule → Formula
    blocked r = disjunction (atoms_as r.neg)

    each : (rs : List ProgramRule) → holds_all a (map blocked rs) ≡ list_all (λ (r : ProgramRule). any_in a r.neg) rs
    each [] = refl
    each (r ∷ rs) = ap (λ v. v && holds_all a (map blocked rs)) (any_of-holds a r.neg) ∙ ap (λ v. any_in a r.neg && v) (each rs)

pub beside_answer_set : (names : List Name) (rules : List ProgramRule) (less : ℕ) (a : List Name) → has_twins names ≡ false → IsAnswerSet rules a → holds a (beside_formula names rules less) ≡ true
beside_answer_set names rules less a single is = beside-holds a names rules less ∙ not_from_false all (false_from_ne_true all smaller)
  where
    x : List Name
    x = true_names 0 names less

    out : List Name
    out = false_names 0 names less

    broken : List ProgramRule
    broken = filter (is_broken_by x) rules

    all : Bool
    all = all_in a x && (any_in a out && list_all (λ (r : ProgramRule). any_in a r.neg) broken)

    satisfied : list_all (λ (r : ProgramRule). any_in a r.neg) broken ≡ true → (r : ProgramRule) → IsAmong r rules → any_in a r.neg ≡ false → satisfies x r ≡ true
    satisfied blocked r among left = at (is_broken_by x r) refl
      where
        met : (u v : Bool) → (u && not v) ≡ false → (not u || v) ≡ true
        met true v e = not-false v e
        met false v e = refl

        at : (v : Bool) → is_broken_by x r ≡ v → satisfies x r ≡ true
        at true e = absurd (true≢false (sym (all_among (λ (r : ProgramRule). any_in a r.neg ≡ true) broken r
            ((all_by_test (λ (r : ProgramRule). any_in a r.neg ≡ true) (λ (r : ProgramRule). any_in a r.neg) broken (λ r _. (λ e. e, λ e. e))).1 blocked) (among_filter (is_broken_by x) r rules among e)) ∙ left))
        at false e = met (all_in x r.pos) (any_in x r.head) e

    smaller : all ≡ true → ⊥
    smaller h =
        let (within, rest) = and_parts (all_in a x) (any_in a out && list_all (λ (r : ProgramRule). any_in a r.neg) broken) h in
        let (more, blocked) = and_parts (any_in a out) (list_all (λ (r : ProgramRule). any_in a r.neg) broken) rest in
        let (n, beyond, here) = any_in_some a out more in
        is.minimal x (record {
          within = λ m there. all_in_each a x within m there;
          more = n;
          in_second = here;
          not_in_first = false_from_ne_true (is_in n x) (λ there. true_not_false n 0 names less single there beyond);
        }) (reduct_from a x rules (satisfied blocked))

-- ---- the view of a set of atoms
literals-each : (a : List Name) (k : ℕ) (beliefs : List Formula) (state : ℕ) → holds_all a (literals_of_state k beliefs state) ≡ true → (j : ℕ) (p : Formula) → slice_get beliefs j ≡ Some p → holds a p ≡ has state (k + j)
literals-each a k [] state h j p is = absurd (cc)
literals-each a k (q ∷ beliefs) state h zero p is =
    let same : q ≡ p = cc in
    let e : k ≡ k + 0 = omega arith in
    ap (holds a) (sym same) ∙ at (has state k) (and_parts (holds a (cond (has state k) q (Not q))) (holds_all a (literals_of_state (k + 1) beliefs state)) h).0 ∙ ap (has state) e
  where
    at : (v : Bool) → holds a (cond v q (Not q)) ≡ true → holds a q ≡ v
    at true h = h
    at false h = not-true (holds a q) h
literals-each a k (q ∷ beliefs) state h (suc j) p is =
    let e : k + 1 + j ≡ k + suc j = omega arith in
    literals-each a (k + 1) beliefs state (and_parts (holds a (cond (has state k) q (Not q))) (holds_all a (literals_of_state (k + 1) beliefs state)) h).1 j p is ∙ ap (has state) e

literals-hold : (a : List Name) (k : ℕ) (beliefs : List Formula) (state : ℕ) → ((j : ℕ) (p : Formula) → slice_get beliefs j ≡ Some p → holds a p ≡ has state (k + j)) → holds_all a (literals_of_state k beliefs state) ≡ true
literals-hold a k [] state each = refl
literals-hold a k (q ∷ beliefs) state each =
    let e : k + 0 ≡ k = omega arith in
    and_from (holds a (cond (has state k) q (Not q))) (holds_all a (literals_of_state (k + 1) beliefs state)) (at (has state k) (each 0 q refl ∙ ap (has state) e))
    (literals-hold a (k + 1) beliefs state (λ j p is. let e : k + suc j ≡ k + 1 + j = omega arith in each (suc j) p is ∙ ap (has state) e))
  where
    at : (v : Bool) → holds a q ≡ v → holds a (cond v q (Not q)) ≡ true
    at true h = h
    at false h = not_from_false (holds a q) h

-- of beliefs that are atoms a set shows those that hold
pub shows-holds : (names a : List Name) (beliefs : List Formula) (x : ℕ) → AreAtomsOf names beliefs → Shows (Atoms a) beliefs x → (j : ℕ) (p : Formula) → slice_get beliefs j ≡ Some p → holds a p ≡ has x j
shows-holds names a beliefs x atoms shows j p is =
    let (n, atom, known) = all_get (λ (f : Formula). (n : Name) × (f ≡ Atom n) × (is_in n names ≡ true)) beliefs j p atoms is in
    both_ways (holds a p) (has x j)
    (λ h. (shows j).1 (Atom n, is ∙ ap (λ f. Some f) atom, sym (ap (holds a) atom) ∙ h))
    (λ h. let (q, is', believed) = (shows j).0 h in let same : q ≡ Atom n = same_Some q (Atom n) (sym is' ∙ is ∙ ap (λ f. Some f) atom) in
    ap (holds a) atom ∙ subst (Believes (Atoms a)) same believed)

pub shows-below : (a : List Name) (beliefs : List Formula) (x : ℕ) → Shows (Atoms a) beliefs x → (j : ℕ) → has x j ≡ true → j < length beliefs
shows-below a beliefs x shows j h = let (p, is, believed) = (shows j).0 h in slice_get_within beliefs j p is

-- the formula of a state holds where the state is another one, and not where it is the set's own
pub other_state : (names a : List Name) (beliefs : List Formula) (x state : ℕ) → AreAtomsOf names beliefs → Shows (Atoms a) beliefs x → ((j : ℕ) → has state j ≡ true → j < length beliefs) → ¬ (x ≡ state)
    → holds a (other_formula beliefs state) ≡ true
other_state names a beliefs x state atoms shows low differ = not_from_false (holds a (conjunction (literals_of_state 0 beliefs state))) (false_from_ne_true (holds a (conjunction (literals_of_state 0 beliefs state))) (λ h.
    let all : holds_all a (literals_of_state 0 beliefs state) ≡ true = sym (conjunction-holds a (literals_of_state 0 beliefs state)) ∙ h in
    let at : (j : ℕ) → j < length beliefs → has x j ≡ has state j = (λ j less.
    let (p, is) = slice_get_below beliefs j less in
    let e : 0 + j ≡ j = omega arith in
    sym (shows-holds names a beliefs x atoms shows j p is) ∙ literals-each a 0 beliefs state all j p is ∙ ap (has state) e) in
    differ (same_set x state (λ j. both_ways (has x j) (has state j) (λ h. sym (at j (shows-below a beliefs x shows j h)) ∙ h) (λ h. at j (low j h) ∙ h)))))

pub own_state : (names a : List Name) (beliefs : List Formula) (x : ℕ) → AreAtomsOf names beliefs → Shows (Atoms a) beliefs x → holds a (other_formula beliefs x) ≡ false
own_state names a beliefs x atoms shows = not_from_true (holds a (conjunction (literals_of_state 0 beliefs x)))
    (conjunction-holds a (literals_of_state 0 beliefs x) ∙ literals-hold a 0 beliefs x (λ j p is. let e : j ≡ 0 + j = omega arith in shows-holds names a beliefs x atoms shows j p is ∙ ap (has x) e))

-- ---- the formulas are over the names
and_all-over : (names : List Name) (f : Formula) (gs : List Formula) → IsOver names f → AreOver names gs → IsOver names (and_all f gs)
and_all-over names f [] over all = over
and_all-over names f (g ∷ gs) over all = and_all-over names (And f g) gs (over, all.0) all.1

or_all-over : (names : List Name) (f : Formula) (gs : List Formula) → IsOver names f → AreOver names gs → IsOver names (or_all f gs)
or_all-over names f [] over all = over
or_all-over names f (g ∷ gs) over all = or_all-over names (Or f g) gs (over, all.0) all.1

pub conjunction-over : (names : List Name) (fs : List Formula) → AreOver names fs → IsOver names (conjunction fs)
conjunction-over names [] all = tt
conjunction-over names (f ∷ fs) all = and_all-over names f fs all.0 all.1

pub disjunction-over : (names : List Name) (fs : List Formula) → AreOver names fs → IsOver names (disjunction fs)
disjunction-over names [] all = tt
disjunction-over names (f ∷ fs) all = or_all-over names f fs all.0 all.1

pub atoms-over : (names ns : List Name) → AreNamesOf names ns → AreOver names (atoms_as ns)
atoms-over names ns all = all_map Atom (λ n. is_in n names ≡ true) (IsOver names) (λ n h. h) ns all

pub negated-over : (names ns : List Name) → AreNamesOf names ns → AreOver names (negated_atoms ns)
negated-over names ns all = all_map (λ (n : Name). Not (Atom n)) (λ n. is_in n names ≡ true) (IsOver names) (λ n h. h) ns all

true_names-over : (names : List Name) (s : ℕ) → AreNamesOf names (true_names 0 names s)
true_names-over names s = all_from_among (λ n. is_in n names ≡ true) (true_names 0 names s) (λ n h. true_names-known n 0 names s ((is_in-among n (true_names 0 names s)).1 h))

false_names-over : (names : List Name) (s : ℕ) → AreNamesOf names (false_names 0 names s)
false_names-over names s = all_from_among (λ n. is_in n names ≡ true) (false_names 0 names s) (λ n h. false_names-known n 0 names s ((is_in-among n (false_names 0 names s)).1 h))

pub rule_formula-over : (names : List Name) (r : ProgramRule) → IsOverRule names r → IsOver names (rule_formula r)
rule_formula-over names r over = (
  conjunction-over names (atoms_as r.pos ++ negated_atoms r.neg) (all_append (IsOver names) (atoms_as r.pos) (negated_atoms r.neg) (atoms-over names r.pos over.1) (negated-over names r.neg over.2)),
  disjunction-over names (atoms_as r.head) (atoms-over names r.head over.0),
)

pub positive_formula-over : (names : List Name) (r : ProgramRule) → IsOverRule names r → IsOver names (positive_formula r)
positive_formula-over names r over = (conjunction-over names (atoms_as r.pos) (atoms-over names r.pos over.1), disjunction-over names (atoms_as r.head) (atoms-over names r.head over.0))

pub rules-over : (names : List Name) (rules : List ProgramRule) → AreOverRules names rules → AreOver names (map rule_formula rules)
rules-over names rules over = all_map rule_formula (IsOverRule names) (IsOver names) (rule_formula-over names) rules over

pub smaller-over : (names : List Name) (rules : List ProgramRule) (model : ℕ) → AreOverRules names rules → AreOver names (smaller_formulas names rules model)
smaller-over names rules model over = all_append (IsOver names) (map positive_formula (reduct a rules)) (negated_atoms out ++ Not (conjunction (atoms_as a)) ∷ []) positives
    (all_append (IsOver names) (negated_atoms out) (Not (conjunction (atoms_as a)) ∷ []) (negated-over names out (false_names-over names model)) (conjunction-over names (atoms_as a) (atoms-over names a (true_names-over names model)), tt))
  where
    a : List Name
    a = true_names 0 names model

    out : List Name
    out = false_names 0 names model

    positives : AreOver names (map positive_formula (reduct a rules))
    positives = all_map positive_formula (λ (r : ProgramRule). IsOver names (positive_formula r)) (IsOver names) (λ r h. h) (reduct a rules)
        (all_map without_negation (IsOverRule names) (λ (r : ProgramRule). IsOver names (positive_formula r)) (positive_formula-over names) (filter (λ r. not (any_in a r.neg)) rules)
        (all_filter (IsOverRule names) (λ r. not (any_in a r.neg)) rules over))

pub beside-over : (names : List Name) (rules : List ProgramRule) (less : ℕ) → AreOverRules names rules → IsOver names (beside_formula names rules less)
beside-over names rules less over = conjunction-over names (atoms_as x ++ (disjunction (atoms_as out) ∷ map blocked broken))
    (all_append (IsOver names) (atoms_as x) (disjunction (atoms_as out) ∷ map blocked broken) (atoms-over names x (true_names-over names less)) (
      disjunction-over names (atoms_as out) (atoms-over names out (false_names-over names less)),
      all_map blocked (IsOverRule names) (IsOver names) (λ r h. disjunction-over names (atoms_as r.neg) (atoms-over names r.neg h.2)) broken
          (all_filter (IsOverRule names) (is_broken_by x) rules over),
    ))
  where
    x : List Name
    x = true_names 0 names less

    out : List Name
    out = false_names 0 names less

    broken : List ProgramRule
    broken = filter (is_broken_by x) rules

    blocked : ProgramRule → Formula
    blocked r = disjunction (atoms_as r.neg)

pub atoms_are_over : (names : List Name) (beliefs : List Formula) → AreAtomsOf names beliefs → AreOver names beliefs
atoms_are_over names beliefs atoms = all_weaker (λ (f : Formula). (n : Name) × (f ≡ Atom n) × (is_in n names ≡ true)) (IsOver names) (λ f (n, e, there). subst (IsOver names) (sym e) there) beliefs atoms

literals-over : (names : List Name) (k : ℕ) (beliefs : List Formula) (state : ℕ) → AreOver names beliefs → AreOver names (literals_of_state k beliefs state)
literals-over names k [] state over = tt
literals-over names k (p ∷ beliefs) state over = (at (has state k), literals-over names (k + 1) beliefs state over.1)
  where
    at : (v : Bool) → IsOver names (cond v p (Not p))
    at true = over.0
    at false = over.0

pub other-over : (names : List Name) (beliefs : List Formula) (state : ℕ) → AreOver names beliefs → IsOver names (other_formula beliefs state)
other-over names beliefs state over = conjunction-over names (literals_of_state 0 beliefs state) (literals-over names 0 beliefs state over)

pub rest-over : (names : List Name) (rules : List ProgramRule) (beliefs : List Formula) (smaller outputs : List ℕ) → AreOverRules names rules → AreOver names beliefs → AreOver names (rest_formulas names rules beliefs smaller outputs)
rest-over names rules beliefs smaller outputs over over' = all_append (IsOver names) (map rule_formula rules) (map (beside_formula names rules) smaller ++ map (other_formula beliefs) outputs) (rules-over names rules over)
    (all_append (IsOver names) (map (beside_formula names rules) smaller) (map (other_formula beliefs) outputs) (each (beside_formula names rules) smaller (λ less. beside-over names rules less over))
    (each (other_formula beliefs) outputs (λ state. other-over names beliefs state over')))
  where
    each : (f : ℕ → Formula) (xs : List ℕ) → ((x : ℕ) → IsOver names (f x)) → AreOver names (map f xs)
    each f [] h = tt
    each f (x ∷ xs) h = (h x, each f xs h)

-- ---- where all else is refuted
-- of formulas that a set of atoms makes true, a view that is not put out would be of a model
pub sides-hold : (base : List Formula) (side : ℕ → Formula) (names : List Name) (beliefs : List Formula) (sets outputs : List ℕ) (a : List Name) (x : ℕ) → AreAtomsOf names beliefs → Shows (Atoms a) beliefs x
    → holds_all a base ≡ true → ((s : ℕ) → holds a (side s) ≡ true) → AllByRecursion (λ state. (j : ℕ) → has state j ≡ true → j < length beliefs) outputs → ¬ IsAmong x outputs
    → holds_all a (base ++ (map side sets ++ map (other_formula beliefs) outputs)) ≡ true
sides-hold base side names beliefs sets outputs a x atoms shows first met low new =
    list_all-append (holds a) base (map side sets ++ map (other_formula beliefs) outputs)
    ∙ and_from (holds_all a base) (holds_all a (map side sets ++ map (other_formula beliefs) outputs)) first (
    list_all-append (holds a) (map side sets) (map (other_formula beliefs) outputs)
    ∙ and_from (holds_all a (map side sets)) (holds_all a (map (other_formula beliefs) outputs)) (each sets) (others outputs low new)
    )
  where
    each : (xs : List ℕ) → holds_all a (map side xs) ≡ true
    each [] = refl
    each (s ∷ xs) = and_from (holds a (side s)) (holds_all a (map side xs)) (met s) (each xs)

    others : (xs : List ℕ) → AllByRecursion (λ state. (j : ℕ) → has state j ≡ true → j < length beliefs) xs → ¬ IsAmong x xs → holds_all a (map (other_formula beliefs) xs) ≡ true
    others [] low new = refl
    others (state ∷ xs) low new =
        and_from (holds a (other_formula beliefs state)) (holds_all a (map (other_formula beliefs) xs)) (other_state names a beliefs x state atoms shows low.0 (λ e. new (inl e))) (others xs low.1 (λ h. new (inr h)))

-- so it would be one of those of the rules and the smaller sets
pub rest-hold : (names : List Name) (rules : List ProgramRule) (beliefs : List Formula) (smaller outputs : List ℕ) (a : List Name) (x : ℕ) → has_twins names ≡ false → AreAtomsOf names beliefs → IsAnswerSet rules a → Shows (Atoms a) beliefs x
    → AllByRecursion (λ state. (j : ℕ) → has state j ≡ true → j < length beliefs) outputs → ¬ IsAmong x outputs → holds_all a (rest_formulas names rules beliefs smaller outputs) ≡ true
rest-hold names rules beliefs smaller outputs a x single atoms is shows low new =
    sides-hold (map rule_formula rules) (beside_formula names rules) names beliefs smaller outputs a x atoms shows (answer_set-holds rules a is) (λ less. beside_answer_set names rules less a single is) low new

pub view_among : (names : List Name) (rules : List ProgramRule) (beliefs : List Formula) (smaller outputs : List ℕ) (a : List Name) (x : ℕ) → has_twins names ≡ false → AreAtomsOf names beliefs → IsAnswerSet rules a → Shows (Atoms a) beliefs x
    → AllByRecursion (λ state. (j : ℕ) → has state j ≡ true → j < length beliefs) outputs → ¬ (holds_all a (rest_formulas names rules beliefs smaller outputs) ≡ true) → IsAmong x outputs
view_among names rules beliefs smaller outputs a x single atoms is shows low none = elim (cases_among x outputs) [
  | inl there ↦ there
  | inr new ↦ absurd (none (rest-hold names rules beliefs smaller outputs a x single atoms is shows low new))
]

-- ---- how smaller sets lead on
-- a set of places whose names are a model of the formulas is a smaller one that satisfies the reduct
pub smaller_places : (names : List Name) (rules : List ProgramRule) (model less : ℕ) → holds_all (true_names 0 names less) (smaller_formulas names rules model) ≡ true
    → IsProperSubset (true_names 0 names less) (true_names 0 names model) × (list_all (satisfies (true_names 0 names less)) (reduct (true_names 0 names model) rules) ≡ true)
smaller_places names rules model less h =
    let a = true_names 0 names model in
    let b = true_names 0 names less in
    let out = false_names 0 names model in
    let (sat, ends) = and_parts (list_all (satisfies b) (reduct a rules)) (not (any_in b out) && not (all_in b a)) (sym (smaller-holds b names rules model) ∙ h) in
    let (apart, strict) = and_parts (not (any_in b out)) (not (all_in b a)) ends in
    let (n, there, gone) = missing b a (not-true (all_in b a) strict) in (
      record {
        within = λ m h. elim (true_or_false m 0 names model (true_names-known m 0 names less h)) [ inl here ↦ here | inr beyond ↦ absurd (true≢false (sym h ∙ none_in b out m (not-true (any_in b out) apart) beyond)) ];
        more = n;
        in_second = there;
        not_in_first = gone;
      },
      sat,
    )

-- and the formula that it gives is false at the model
pub beside_excludes : (names : List Name) (rules : List ProgramRule) (model less : ℕ) → IsProperSubset (true_names 0 names less) (true_names 0 names model)
    → list_all (satisfies (true_names 0 names less)) (reduct (true_names 0 names model) rules) ≡ true → holds (true_names 0 names model) (beside_formula names rules less) ≡ false
beside_excludes names rules model less smaller sat =
    beside-holds a names rules less
    ∙ not_from_true (all_in a x && (any_in a out && list_all (λ (r : ProgramRule). any_in a r.neg) broken)) (and_from (all_in a x) (any_in a out && list_all (λ (r : ProgramRule). any_in a r.neg) broken) (all_in_from a x smaller.within)
    (and_from (any_in a out) (list_all (λ (r : ProgramRule). any_in a r.neg) broken) beyond
    ((all_by_test (λ (r : ProgramRule). any_in a r.neg ≡ true) (λ (r : ProgramRule). any_in a r.neg) broken (λ r _. (λ e. e, λ e. e))).0 (all_from_among (λ (r : ProgramRule). any_in a r.neg ≡ true) broken blocked))))
  where
    a : List Name
    a = true_names 0 names model

    x : List Name
    x = true_names 0 names less

    out : List Name
    out = false_names 0 names less

    broken : List ProgramRule
    broken = filter (is_broken_by x) rules

    beyond : any_in a out ≡ true
    beyond = elim (true_or_false smaller.more 0 names less (true_names-known smaller.more 0 names model smaller.in_second)) [
      | inl there ↦ absurd (true≢false (sym there ∙ smaller.not_in_first))
      | inr there ↦ any_in_from a out smaller.more there smaller.in_second
    ]

    not_met : (u v : Bool) → (u && not v) ≡ true → (not u || v) ≡ true → ⊥
    not_met true true e h = true≢false (sym e)
    not_met true false e h = true≢false (sym h)
    not_met false v e h = true≢false (sym e)

    blocked : (r : ProgramRule) → IsAmong r broken → any_in a r.neg ≡ true
    blocked r h = let (among, is_broken) = filter_among (is_broken_by x) r rules h in
        true_from_ne_false (any_in a r.neg) (λ left. not_met (all_in x r.pos) (any_in x r.head) is_broken (reduct_each a x rules sat r among left))

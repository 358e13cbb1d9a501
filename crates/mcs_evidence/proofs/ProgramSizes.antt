-- How large the formulas of a program are, where its rules are small and few.
use Rattle.std.proofs.Common.{◌≡◌, ℕ, ◌+◌, ◌*◌, ◌≤◌, Bool, true, false, cond, not, List, [], ◌∷◌, ◌++◌, map, filter, length, subst, arith}
use Rattle.std.proofs.lemmas.List.{length-map}
use Rattle.std.specs.List.{AllByRecursion, filter_map, list_any}
use Rattle.mcs_sets.specs.Sets.{has}
use Rattle.mcs_base.proofs.Each.{all_filter, all_map, all_from_among}
use Rattle.mcs_base.proofs.Sums.{few_kept}
use Rattle.mcs_system.specs.Plain.{Name, Formula, Atom, Not, And, Or, ProgramRule}
use Rattle.mcs_system.specs.Seen.{formula_size}
use Rattle.mcs_system.specs.Logic.{is_in, true_names, without_negation, reduct, fact_of}
use Rattle.mcs_system.proofs.SizeLemmas.{IsSmallRule}
use Rattle.mcs_cnf.proofs.SizeLemmas.{sizes, size_positive, sizes_up_to, sizes_push, sizes_append, sizes_cons}
use Rattle.mcs_evidence.specs.Programs.{and_from, or_from, conjunction, disjunction, atoms_as, negated_atoms, false_names, rule_formula, positive_formula, smaller_formulas, is_broken_by, beside_formula, literals_of_state, other_formula, rest_formulas}

-- ---- formulas of lists
and_from_size : (f : Formula) (gs : List Formula) → formula_size (and_from f gs) ≤ formula_size f + 2 * sizes gs
and_from_size f [] = omega arith
and_from_size f (g ∷ gs) = omega (arith, sizes_cons g gs, size_positive g, and_from_size (And f g) gs)

or_from_size : (f : Formula) (gs : List Formula) → formula_size (or_from f gs) ≤ formula_size f + 2 * sizes gs
or_from_size f [] = omega arith
or_from_size f (g ∷ gs) = omega (arith, sizes_cons g gs, size_positive g, or_from_size (Or f g) gs)

conjunction_size : (fs : List Formula) → formula_size (conjunction fs) ≤ 1 + 2 * sizes fs
conjunction_size [] = omega arith
conjunction_size (f ∷ fs) = omega (arith, sizes_cons f fs, and_from_size f fs)

disjunction_size : (fs : List Formula) → formula_size (disjunction fs) ≤ 1 + 2 * sizes fs
disjunction_size [] = omega arith
disjunction_size (f ∷ fs) = omega (arith, sizes_cons f fs, or_from_size f fs)

atoms_size : (names : List Name) → sizes (atoms_as names) ≡ length names
atoms_size [] = omega arith
atoms_size (n ∷ names) = omega (arith, sizes_cons (Atom n) (atoms_as names), atoms_size names)

negated_size : (names : List Name) → sizes (negated_atoms names) ≡ 2 * length names
negated_size [] = omega arith
negated_size (n ∷ names) = omega (arith, sizes_cons (Not (Atom n)) (negated_atoms names), negated_size names)

-- ---- names at places
few_true : (k : ℕ) (names : List Name) (s : ℕ) → length (true_names k names s) ≤ length names
few_true k [] s = omega arith
few_true k (n ∷ names) s = at (has s k) (few_true (k + 1) names s)
  where
    at : (b : Bool) → length (true_names (k + 1) names s) ≤ length names
        → length (cond b (n ∷ true_names (k + 1) names s) (true_names (k + 1) names s)) ≤ length (n ∷ names)
    at true rest = omega arith
    at false rest = omega arith

few_false : (k : ℕ) (names : List Name) (s : ℕ) → length (false_names k names s) ≤ length names
few_false k [] s = omega arith
few_false k (n ∷ names) s = at (has s k) (few_false (k + 1) names s)
  where
    at : (b : Bool) → length (false_names (k + 1) names s) ≤ length names
        → length (cond b (false_names (k + 1) names s) (n ∷ false_names (k + 1) names s)) ≤ length (n ∷ names)
    at true rest = omega arith
    at false rest = omega arith

-- ---- rules
rule_size : (r : ProgramRule) → IsSmallRule r → formula_size (rule_formula r) ≤ 2051
rule_size r small = omega (
  arith,
  conjunction_size (atoms_as r.pos ++ negated_atoms r.neg),
  sizes_append (atoms_as r.pos) (negated_atoms r.neg),
  atoms_size r.pos,
  negated_size r.neg,
  disjunction_size (atoms_as r.head),
  atoms_size r.head,
)

positive_size : (r : ProgramRule) → IsSmallRule r → formula_size (positive_formula r) ≤ 2051
positive_size r small = omega (arith, conjunction_size (atoms_as r.pos), atoms_size r.pos, disjunction_size (atoms_as r.head), atoms_size r.head)

-- images of small rules
images_size : (f : ProgramRule → Formula) (most : ℕ) → ((r : ProgramRule) → IsSmallRule r → formula_size (f r) ≤ most) → (rules : List ProgramRule)
    → AllByRecursion IsSmallRule rules → sizes (map f rules) ≤ length rules * most
images_size f most each rules small =
    let all = all_map f IsSmallRule (λ (g : Formula). formula_size g ≤ most) each rules small in
    subst (λ (n : ℕ). sizes (map f rules) ≤ n * most) (length-map rules f) (sizes_up_to most (map f rules) all)

-- the rules of added heads
pub added_rules : (fs : List Formula) → AllByRecursion IsSmallRule (filter_map fact_of fs) × (length (filter_map fact_of fs) ≤ length fs)
added_rules [] = (tt, omega arith)
added_rules (Atom n ∷ fs) = let rest = added_rules fs in ((omega arith, rest.0), omega (arith, rest.1))
added_rules (f ∷ fs) = let rest = added_rules fs in (rest.0, omega (arith, rest.1))

-- ---- the formulas that are refuted
module _ (names : List Name) (rules : List ProgramRule) (few_names : length names ≤ 64) (few_rules : length rules ≤ 4160)
    (small : AllByRecursion IsSmallRule rules) where
  pub smaller_size : (model : ℕ) → sizes (smaller_formulas names rules model) ≤ 9000000
  smaller_size model =
      let a : List Name = true_names 0 names model in
      let b : List Name = false_names 0 names model in
      let unblocked : ProgramRule → Bool = λ (r : ProgramRule). not (list_any (λ n. is_in n a) r.neg) in
      let kept : List ProgramRule = filter unblocked rules in
      let small_reduct : AllByRecursion IsSmallRule (reduct a rules) =
      all_map without_negation IsSmallRule IsSmallRule (λ r is. omega arith) kept (all_filter IsSmallRule unblocked rules small) in
      omega (
        arith,
        sizes_append (map positive_formula (reduct a rules)) (negated_atoms b ++ Not (conjunction (atoms_as a)) ∷ []),
        sizes_push (negated_atoms b) (Not (conjunction (atoms_as a))),
        images_size positive_formula 2051 positive_size (reduct a rules) small_reduct,
        length-map kept without_negation,
        few_kept unblocked rules,
        negated_size b,
        few_false 0 names model,
        conjunction_size (atoms_as a),
        atoms_size a,
        few_true 0 names model,
      )

  beside_size : (less : ℕ) → formula_size (beside_formula names rules less) ≤ 9000000
  beside_size less =
      let a : List Name = true_names 0 names less in
      let b : List Name = false_names 0 names less in
      let blocked : ProgramRule → Formula = λ (r : ProgramRule). disjunction (atoms_as r.neg) in
      let broken : List ProgramRule = filter (is_broken_by a) rules in
      let each : (r : ProgramRule) → IsSmallRule r → formula_size (blocked r) ≤ 1025 = λ r is. omega (arith, is, disjunction_size (atoms_as r.neg), atoms_size r.neg) in
      omega (
        arith,
        conjunction_size (atoms_as a ++ disjunction (atoms_as b) ∷ map blocked broken),
        sizes_append (atoms_as a) (disjunction (atoms_as b) ∷ map blocked broken),
        sizes_cons (disjunction (atoms_as b)) (map blocked broken),
        atoms_size a,
        few_true 0 names less,
        disjunction_size (atoms_as b),
        atoms_size b,
        few_false 0 names less,
        images_size blocked 1025 each broken (all_filter IsSmallRule (is_broken_by a) rules small),
        few_kept (is_broken_by a) rules,
      )

  literals_size : (k : ℕ) (beliefs : List Formula) (state : ℕ) → sizes (literals_of_state k beliefs state) ≤ 2 * sizes beliefs
  literals_size k [] state = omega arith
  literals_size k (p ∷ ps) state =
      let rest = literals_of_state (k + 1) ps state in
      omega (arith, sizes_cons p ps, sizes_cons (cond (has state k) p (Not p)) rest, one (has state k), literals_size (k + 1) ps state)
    where
      one : (b : Bool) → formula_size (cond b p (Not p)) ≤ 2 * formula_size p
      one true = omega arith
      one false = omega (arith, size_positive p)

  other_size : (beliefs : List Formula) (state : ℕ) → sizes beliefs ≤ 32768 → formula_size (other_formula beliefs state) ≤ 9000000
  other_size beliefs state few = omega (arith, conjunction_size (literals_of_state 0 beliefs state), literals_size 0 beliefs state)

  pub rest_size : (beliefs : List Formula) (smaller outputs : List ℕ) → sizes beliefs ≤ 32768
      → sizes (rest_formulas names rules beliefs smaller outputs) ≤ (1 + length smaller + length outputs) * 9000000
  rest_size beliefs smaller outputs few = omega (
    arith,
    sizes_append (map rule_formula rules) (map (beside_formula names rules) smaller ++ map (other_formula beliefs) outputs),
    sizes_append (map (beside_formula names rules) smaller) (map (other_formula beliefs) outputs),
    images_size rule_formula 2051 rule_size rules small,
    each_size (beside_formula names rules) smaller beside_size,
    each_size (other_formula beliefs) outputs (λ state. other_size beliefs state few),
  )
    where
      each_size : (f : ℕ → Formula) (ks : List ℕ) → ((k : ℕ) → formula_size (f k) ≤ 9000000) → sizes (map f ks) ≤ length ks * 9000000
      each_size f ks each =
          let all = all_map f (λ k. formula_size (f k) ≤ 9000000) (λ (g : Formula). formula_size g ≤ 9000000) (λ k h. h) ks (all_from_among _ ks (λ k _. each k)) in
          omega (arith, sizes_up_to 9000000 (map f ks) all, length-map ks f)

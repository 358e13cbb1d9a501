-- The questions to a context, by what its supplies and its guesses make of its inputs.
use Rattle.std.proofs.Common.{◌≡◌, ℕ, ◌+◌, ◌<◌, ◌≤◌, Bool, true, false, not, ◌&&◌, ◌||◌, cond, eqb, ltb, List, [], ◌∷◌, ◌++◌, length, map, reverse, Some, slice_get, refl, sym, ap, ◌∙◌, subst, inl, inr, ◌⊎◌, ◌↔◌, arith, true≢false, bit_xor}
use Rattle.std.proofs.lemmas.Bool.{and_parts, and_from, or_cases, or_left, or_right, false_from_ne_true}
use Rattle.std.proofs.lemmas.Bool.Decides.{nat_tests}
use Rattle.std.proofs.Math.Bool.{and-false, and-true, or-false}
use Rattle.mcs_sets.specs.Sets.{has, size, common, union, minus, members, Within}
use Rattle.mcs_sets.proofs.SetLemmas.{same_set, sets, has-empty, has-union, has-common, has-minus, has-such_that, common_where_within}
use Rattle.mcs_sets.proofs.Lattice.{union-minus_both, minus_within, in_minus, in_common, common-union, common-common, common_within_right, size-union_apart}
use Rattle.mcs_base.specs.Pairs.{removed_of, forced_of}
use Rattle.mcs_base.specs.Listings.{IsAmong, AreApart, IsListing}
use Rattle.mcs_base.proofs.ListingLemmas.{IsListing-same}
use Rattle.mcs_system.specs.Plain.{Read, Bridge, System}
use Rattle.mcs_system.specs.Systems.{is_of_context, variables, variables_of, all_variables, all_rules, applicable, applies_among, believed_among, IsAcceptedPart}
use Rattle.mcs_system.specs.Rows.{inputs_of, is_read_into}
use Rattle.mcs_system.specs.Imports.{imports, before_in, supplied, rules_into, marks_at, IsImportOrder, IsQuestionAfter, IsPossibleFrom, IsQuestion, IsPossible}
use Rattle.mcs_system.specs.Levels.{IsQuestionAt, MaySupply}
use Rattle.mcs_system.specs.Repairs.{marks_of, allowed_marks}
use Rattle.mcs_system.proofs.MarkParts.{marks_within}
use Rattle.mcs_system.proofs.MarkLemmas.{size-marks_of}
use Rattle.mcs_base.proofs.Among.{among_left, among_right, filter_among, among_filter, among_reverse, among_map, map_among, all_same}
use Rattle.mcs_base.proofs.Lists.{reverse-append_middle}
use Rattle.mcs_base.proofs.Each.{all_from_among}
use Rattle.std.specs.List.{AllByRecursion}
use Rattle.mcs_system.proofs.ContextSets.{rule_there, rules_into_known, variable_there, same_believed, follows_apart, before_apart, supplied_apart}
use Rattle.mcs_system.proofs.VariableLemmas.{has-applicable, has-inputs_of, has-variables_of}
use Rattle.mcs_import.specs.Plans.{variables_of_all, guessed, AreSupplies}
use Rattle.mcs_import.specs.States.{Joins, SomeJoins, SomeGrows, IsAskedInState}
use Rattle.mcs_import.specs.Near.{IsNear}
use Rattle.mcs_import.proofs.OrderLemmas.{import_order_is_one}
use Rattle.mcs_import.proofs.StateLemmas.{states_found}

-- ---- the order has each context once

split_before : (xs : List ℕ) (i j : ℕ) → IsAmong j (before_in xs i) → (later : List ℕ) × (before_in xs i ≡ before_in xs j ++ j ∷ later)
split_before [] i j among = absurd among
split_before (x ∷ xs) i j among = at (eqb x i) among (eqb x j) refl (split_before xs i j)
  where
    at : (u : Bool) → IsAmong j (cond u [] (x ∷ before_in xs i)) → (v : Bool) → eqb x j ≡ v → (IsAmong j (before_in xs i) → (later : List ℕ) × (before_in xs i ≡ before_in xs j ++ j ∷ later))
        → (later : List ℕ) × (cond u [] (x ∷ before_in xs i) ≡ cond v [] (x ∷ before_in xs j) ++ j ∷ later)
    at true among v e rest = absurd among
    at false among true e rest = (before_in xs i, let same : x ≡ j = grind (arith, nat_tests) in ap (λ z. z ∷ before_in xs i) same)
    at false (inl same) false e rest = absurd (grind (arith, nat_tests))
    at false (inr among) false e rest = let (later, is) = rest among in (later, ap (λ ys. x ∷ ys) is)

middle_apart : (front : List ℕ) (j : ℕ) (back : List ℕ) → AreApart (front ++ j ∷ back) → ¬ IsAmong j back
middle_apart [] j back h = h.0
middle_apart (a ∷ front) j back h = middle_apart front j back h.1

-- ---- what a context may supply does not depend on who asks
possible_at : (m : System) (level : ℕ) (front : List ℕ) (j : ℕ) (back : List ℕ) (τ : ℕ) → ¬ IsAmong j front → IsPossibleFrom m level ((front ++ j ∷ []) ++ back) j τ ↔ ((x : ℕ) × IsQuestionAfter m level back (IsPossibleFrom m level back) j x × IsAcceptedPart m j x τ)
possible_at m level [] j back τ none = (λ h. elim h [ inl p ↦ p.1 | inr p ↦ absurd (p.0 refl) ], λ h. inl (refl, h))
possible_at m level (a ∷ front) j back τ none = let rest = possible_at m level front j back τ (λ later. none (inr later)) in (
  λ h. elim h [ inl p ↦ absurd (none (inl (sym p.0))) | inr p ↦ rest.0 p.1 ],
  λ h. inr ((λ e. none (inl (sym e))), rest.1 h),
)

pub possible_is : (m : System) (order : List ℕ) → IsImportOrder m order → (level i j τ : ℕ) → IsAmong j (before_in order i) → IsPossibleFrom m level (reverse (before_in order i)) j τ ↔ IsPossible m order level j τ
possible_is m order ordered level i j τ among =
    let (later, is) = split_before order i j among in
    let apart : ¬ IsAmong j later = middle_apart (before_in order j) j later (subst AreApart is (before_apart order i (follows_apart m [] order ordered))) in
    let e : reverse (before_in order i) ≡ (reverse later ++ j ∷ []) ++ reverse (before_in order j) = ap (λ (xs : List ℕ). reverse xs) is ∙ reverse-append_middle (before_in order j) j later in
    subst (λ (cs : List ℕ). IsPossibleFrom m level cs j τ ↔ IsPossible m order level j τ) (sym e) (possible_at m level (reverse later) j (reverse (before_in order j)) τ (λ h. apart ((among_reverse j later).0 h)))

-- ---- the marks of a set of rules into i, by what it lacks of those that apply and what it has beside them
abbrev pub applying : System → ℕ → ℕ → ℕ
applying m i σ = common (applicable m σ) (rules_into m i)

module _ (m : System) (i σ x : ℕ) (of_rules : Within x (rules_into m i)) where
  removed_of_rules : Within (minus (applying m i σ) x) (all_rules m)
  removed_of_rules k e = rules_into_known m i k (in_common (applicable m σ) (rules_into m i) k (minus_within (applying m i σ) x k e)).1

  forced_of_rules : Within (minus x (applying m i σ)) (all_rules m)
  forced_of_rules k e = rules_into_known m i k (of_rules k (minus_within x (applying m i σ) k e))

  pub count-marks_at : size (marks_at m i σ x) ≡ size (minus (applying m i σ) x) + size (minus x (applying m i σ))
  count-marks_at = size-marks_of m (minus (applying m i σ) x) (minus x (applying m i σ)) removed_of_rules forced_of_rules

  pub size-marks_at : size (marks_at m i σ x) ≡ size (bit_xor (applying m i σ) x)
  size-marks_at =
      count-marks_at
      ∙ sym (size-union_apart (minus (applying m i σ) x) (minus x (applying m i σ)) (λ meets. grind (arith, has-minus (applying m i σ) x meets.member, has-minus x (applying m i σ) meets.member, meets.in_first, meets.in_second)))
      ∙ ap (λ (s : ℕ). size s) (union-minus_both (applying m i σ) x)

  -- they are allowed where no rule is removed that may not be, and none forced that may not be
  pub marks_at_within : (p : ℕ) → Within (marks_at m i σ x) p ↔ (Within (minus (applying m i σ) x) (removed_of p) × Within (minus x (applying m i σ)) (forced_of p))
  marks_at_within p = marks_within m (minus (applying m i σ) x) (minus x (applying m i σ)) p removed_of_rules forced_of_rules

-- a whole state that the supplies of i allow
pub record IsAllowed (m : System) (order : List ℕ) (level i σ : ℕ) : Type 0 where
  pub of_variables : Within σ (all_variables m)
  pub supplies : (j : ℕ) → IsAmong j (supplied m order i) → IsPossible m order level j (common σ (variables_of m j))

pub question_by_state : (m : System) (order : List ℕ) → IsImportOrder m order → (level i x : ℕ)
    → IsQuestion m order level i x ↔ (Within x (rules_into m i) × ((σ : ℕ) × IsAllowed m order level i σ × Within (marks_at m i σ x) (allowed_marks m) × (size (marks_at m i σ x) ≤ level)))
question_by_state m order ordered level i x = (
  λ h. (
    h.of_rules,
    (
      h.state,
      record {
        of_variables = h.of_variables;
        supplies = λ j among. (let (before, imported) = filter_among (imports m i) j (before_in order i) among in
            (possible_is m order ordered level i j _ before).0 (h.supplies j ((among_reverse j (before_in order i)).1 before) imported));
      },
      h.allowed,
      h.near,
    ),
  ),
  λ (of_rules, (σ, possible, allowed, near)). record {
    of_rules = of_rules;
    state = σ;
    of_variables = possible.of_variables;
    supplies = λ j among imported. (let before = (among_reverse j (before_in order i)).0 among in (possible_is m order ordered level i j _ before).1 (possible.supplies j (among_filter (imports m i) j (before_in order i) before imported)));
    allowed = allowed;
    near = near;
  },
)

-- ---- which rules into i apply is seen at its inputs
same_applies : (m : System) (i k σ τ : ℕ) (b : Bridge) → slice_get m.bridges k ≡ Some b → b.target ≡ i → common σ (inputs_of m i) ≡ common τ (inputs_of m i) → applies_among (variables m) σ b ≡ applies_among (variables m) τ b
same_applies m i k σ τ b is target same =
    rw (
      all_same (believed_among (variables m) σ) (believed_among (variables m) τ) b.pos (λ r here. one r (among_left r b.pos b.neg here)),
      all_same (λ r. not (believed_among (variables m) σ r)) (λ r. not (believed_among (variables m) τ r)) b.neg (λ r here. ap not (one r (among_right r b.pos b.neg here))),
    ) refl
  where
    seen : (v : ℕ) → has (inputs_of m i) v ≡ true → has σ v ≡ has τ v
    seen v inside = let e : has (common σ (inputs_of m i)) v ≡ has (common τ (inputs_of m i)) v = ap (λ s. has s v) same in
        let a = has-common σ (inputs_of m i) v in let c = has-common τ (inputs_of m i) v in grind (arith, nat_tests)

    one : (r : Read) → IsAmong r (b.pos ++ b.neg) → believed_among (variables m) σ r ≡ believed_among (variables m) τ r
    one r here = same_believed σ τ r (variables m) 0 (λ v q var alike. let e : 0 + v ≡ v = omega arith in ap (has σ) e ∙ seen v (has-inputs_of m i k v b r q is target here var alike) ∙ ap (has τ) (sym e))

pub same_applicable : (m : System) (i σ τ : ℕ) → common σ (inputs_of m i) ≡ common τ (inputs_of m i) → common (applicable m σ) (rules_into m i) ≡ common (applicable m τ) (rules_into m i)
same_applicable m i σ τ same = same_set _ _ (λ k. has-common (applicable m σ) (rules_into m i) k ∙ at k (has (rules_into m i) k) refl ∙ sym (has-common (applicable m τ) (rules_into m i) k))
  where
    at : (k : ℕ) (v : Bool) → has (rules_into m i) k ≡ v → (has (applicable m σ) k && has (rules_into m i) k) ≡ (has (applicable m τ) k && has (rules_into m i) k)
    at k true e = let (b, is, target) = rule_there m i k e in rw (has-applicable m σ k b is, has-applicable m τ k b is, same_applies m i k σ τ b is target same) refl
    at k false e = rw (e, and-false (has (applicable m σ) k), and-false (has (applicable m τ) k)) refl

-- so that the marks are the same
pub same_marks : (m : System) (i σ τ x : ℕ) → common σ (inputs_of m i) ≡ common τ (inputs_of m i) → marks_at m i σ x ≡ marks_at m i τ x
same_marks m i σ τ x same = ap (λ (a : ℕ). marks_of m (minus a x) (minus x a)) (same_applicable m i σ τ same)

-- ---- the variables of contexts
pub one_context : (m : System) (j k v : ℕ) → has (variables_of m j) v ≡ true → has (variables_of m k) v ≡ true → j ≡ k
one_context m j k v a b = let (r, is, e) = variable_there m j v a in let (q, is', e') = variable_there m k v b in let same : r ≡ q = cc in sym e ∙ ap (λ (p : Read). p.context) same ∙ e'

pub context_known : (m : System) (j : ℕ) → Within (variables_of m j) (all_variables m)
unfolding variables_of
context_known m j v e = has-such_that (length (variables m)) (λ w. true) v ∙ and_from (ltb v (length (variables m))) true (and_parts (ltb v (length (variables m))) (is_of_context j (slice_get (variables m) v)) (sym (has-such_that (length (variables m)) (λ w. is_of_context j (slice_get (variables m) w)) v) ∙ e)).0 refl

pub inputs_known : (m : System) (i : ℕ) → Within (inputs_of m i) (all_variables m)
unfolding inputs_of
inputs_known m i v e = has-such_that (length (variables m)) (λ w. true) v ∙ and_from (ltb v (length (variables m))) true (and_parts (ltb v (length (variables m))) (is_read_into m i (slice_get (variables m) v)) (sym (has-such_that (length (variables m)) (λ w. is_read_into m i (slice_get (variables m) w)) v) ∙ e)).0 refl

pub accepted_within : (m : System) (i x τ : ℕ) → IsAcceptedPart m i x τ → Within τ (variables_of m i)
accepted_within m i x τ part v member = let (r, is, of_i, believed) = (part.part v).0 member in has-variables_of m i v r is ∙ grind (arith, nat_tests)

pub possible_within : (m : System) (order : List ℕ) (level j τ : ℕ) → IsPossible m order level j τ → Within τ (variables_of m j)
possible_within m order level j τ (x, question, part) = accepted_within m j x τ part

in_all : (m : System) (j v : ℕ) (js : List ℕ) → IsAmong j js → has (variables_of m j) v ≡ true → has (variables_of_all m js) v ≡ true
in_all m j v [] among e = absurd among
in_all m j v (k ∷ js) (inl same) e = has-union (variables_of m k) (variables_of_all m js) v ∙ or_left (has (variables_of m k) v) (has (variables_of_all m js) v) (ap (λ n. has (variables_of m n) v) (sym same) ∙ e)
in_all m j v (k ∷ js) (inr among) e = has-union (variables_of m k) (variables_of_all m js) v ∙ or_right (has (variables_of m k) v) (has (variables_of_all m js) v) (in_all m j v js among e)

-- ---- by the one import order
pub possible_in : (m : System) (order : List ℕ) → IsImportOrder m order → (level j τ : ℕ) → MaySupply m level j τ → IsPossible m order level j τ
possible_in m order ordered level j τ (other, ordered', possible) = subst (λ (o : List ℕ). IsPossible m o level j τ) (import_order_is_one m other order ordered' ordered) possible

pub question_in : (m : System) (order : List ℕ) → IsImportOrder m order → (level i x : ℕ) → IsQuestion m order level i x ↔ IsQuestionAt m level i x
question_in m order ordered level i x = (λ q. (order, ordered, q), λ (other, ordered', q). subst (λ (o : List ℕ). IsQuestion m o level i x) (import_order_is_one m other order ordered' ordered) q)

-- ---- a state for what is joined
record IsGlued (m : System) (order : List ℕ) (level mask : ℕ) (js : List ℕ) (from p σ : ℕ) : Type 0 where
  of_variables : Within σ (all_variables m)
  supplies : (j : ℕ) → IsAmong j js → IsPossible m order level j (common σ (variables_of m j))
  part : common σ mask ≡ p
  keeps : (v : ℕ) → ((j : ℕ) → IsAmong j js → has (variables_of m j) v ≡ false) → has σ v ≡ has from v

glue : (m : System) (order : List ℕ) → IsImportOrder m order → (level mask : ℕ) (js : List ℕ) (xss : List (List ℕ)) → AreSupplies m level js xss → AreApart js → (from : ℕ) → Within from (all_variables m)
    → ((j : ℕ) → IsAmong j js → (v : ℕ) → has (variables_of m j) v ≡ true → has from v ≡ false) → (a p : ℕ) → a ≡ common from mask → Joins mask xss a p → (σ : ℕ) × IsGlued m order level mask js from p σ
glue m order ordered level mask [] [] supplies apart from known clear a p is joins = (from, record { of_variables = known; supplies = λ j none. absurd none; part = sym is ∙ joins; keeps = λ v none. refl })
glue m order ordered level mask [] (xs ∷ xss) supplies apart from known clear a p is joins = absurd supplies
glue m order ordered level mask (j ∷ js) [] supplies apart from known clear a p is joins = absurd supplies
glue m order ordered level mask (j ∷ js) (xs ∷ xss) (listing, rest) (fresh, apart) from known clear a p is (τ, among, joins) =
    let possible : IsPossible m order level j τ = possible_in m order ordered level j τ ((listing.exactly τ).0 among) in
    let inside : Within τ (variables_of m j) = possible_within m order level j τ possible in
    let (σ, glued) = glue m order ordered level mask js xss rest apart (union from τ) (λ v e. joined_known τ inside v (or_cases (has from v) (has τ v) (sym (has-union from τ v) ∙ e))) (λ k here v e. still_clear τ inside k here v e)
    (union a (common τ mask)) p (ap (λ s. union s (common τ mask)) is ∙ sym (common-union from τ mask)) joins in (
      σ,
      record {
        of_variables = glued.of_variables;
        supplies = λ k here. at_each τ possible inside σ glued.keeps glued.supplies k here;
        part = glued.part;
        keeps = λ v none. glued.keeps v (λ k here. none k (inr here)) ∙ has-union from τ v ∙ ap (λ u. has from v || u) (false_from_ne_true (has τ v) (λ e. true≢false (sym (inside v e) ∙ none j (inl refl)))) ∙ or-false (has from v);
      },
    )
  where
    joined_known : (τ : ℕ) → Within τ (variables_of m j) → (v : ℕ) → (has from v ≡ true) ⊎ (has τ v ≡ true) → has (all_variables m) v ≡ true
    joined_known τ inside v (inl e) = known v e
    joined_known τ inside v (inr e) = context_known m j v (inside v e)

    elsewhere : (k : ℕ) → IsAmong k js → (v : ℕ) → has (variables_of m j) v ≡ true → has (variables_of m k) v ≡ false
    elsewhere k here v e = false_from_ne_true (has (variables_of m k) v) (λ e'. fresh (subst (λ (n : ℕ). IsAmong n js) (sym (one_context m j k v e e')) here))

    still_clear : (τ : ℕ) → Within τ (variables_of m j) → (k : ℕ) → IsAmong k js → (v : ℕ) → has (variables_of m k) v ≡ true → has (union from τ) v ≡ false
    still_clear τ inside k here v e = has-union from τ v ∙ rw (clear k (inr here) v e) (false_from_ne_true (has τ v) (λ e'. true≢false (sym e ∙ elsewhere k here v (inside v e'))))

    own : (τ : ℕ) → Within τ (variables_of m j) → (σ : ℕ) → ((v : ℕ) → ((k : ℕ) → IsAmong k js → has (variables_of m k) v ≡ false) → has σ v ≡ has (union from τ) v) → common σ (variables_of m j) ≡ τ
    own τ inside σ keeps = same_set _ _ (λ v. has-common σ (variables_of m j) v ∙ here v (has (variables_of m j) v) refl)
      where
        here : (v : ℕ) (u : Bool) → has (variables_of m j) v ≡ u → (has σ v && has (variables_of m j) v) ≡ has τ v
        here v true e = rw (e, keeps v (λ k among. elsewhere k among v e), has-union from τ v, clear j (inl refl) v e) (and-true (has τ v))
        here v false e = rw e (and-false (has σ v) ∙ sym (false_from_ne_true (has τ v) (λ e'. true≢false (sym (inside v e') ∙ e))))

    at_each : (τ : ℕ) → IsPossible m order level j τ → Within τ (variables_of m j) → (σ : ℕ) → ((v : ℕ) → ((k : ℕ) → IsAmong k js → has (variables_of m k) v ≡ false) → has σ v ≡ has (union from τ) v)
        → ((k : ℕ) → IsAmong k js → IsPossible m order level k (common σ (variables_of m k))) → (k : ℕ) → (k ≡ j) ⊎ IsAmong k js → IsPossible m order level k (common σ (variables_of m k))
    at_each τ possible inside σ keeps others k (inl e) = subst (λ (n : ℕ). IsPossible m order level n (common σ (variables_of m n))) (sym e) (subst (IsPossible m order level j) (sym (own τ inside σ keeps)) possible)
    at_each τ possible inside σ keeps others k (inr here) = others k here

-- and what is joined for a state
unglue : (m : System) (order : List ℕ) → IsImportOrder m order → (level mask σ : ℕ) (js : List ℕ) (xss : List (List ℕ)) → AreSupplies m level js xss → ((j : ℕ) → IsAmong j js → IsPossible m order level j (common σ (variables_of m j)))
    → (a : ℕ) → Joins mask xss a (union a (common (common σ (variables_of_all m js)) mask))
unglue m order ordered level mask σ [] [] supplies possible a = same_set _ _ (λ v. grind (arith, sets))
unglue m order ordered level mask σ [] (xs ∷ xss) supplies possible a = absurd supplies
unglue m order ordered level mask σ (j ∷ js) [] supplies possible a = absurd supplies
unglue m order ordered level mask σ (j ∷ js) (xs ∷ xss) (listing, rest) possible a = (
  common σ (variables_of m j),
  (listing.exactly (common σ (variables_of m j))).1 (order, ordered, possible j (inl refl)),
  subst (λ (s : ℕ). Joins mask xss (union a (common (common σ (variables_of m j)) mask)) s) (same_set _ _ whole) (unglue m order ordered level mask σ js xss rest (λ k here. possible k (inr here)) (union a (common (common σ (variables_of m j)) mask))),
)
  where
    whole : (v : ℕ) → has (union (union a (common (common σ (variables_of m j)) mask)) (common (common σ (variables_of_all m js)) mask)) v ≡ has (union a (common (common σ (union (variables_of m j) (variables_of_all m js))) mask)) v
    whole v = grind (arith, sets)

-- ---- the states at the inputs of i
module _ (m : System) (order : List ℕ) (ordered : IsImportOrder m order) (level i : ℕ) (xss : List (List ℕ)) (supplies : AreSupplies m level (supplied m order i) xss) where
  abbrev I : ℕ
  I = inputs_of m i

  abbrev G : ℕ
  G = guessed m order i

  abbrev S : ℕ
  S = variables_of_all m (supplied m order i)

  -- what is joined and guessed is seen of a state that is allowed
  pub state_for : (p g : ℕ) → Joins I xss 0 p → Within g G → (σ : ℕ) × IsAllowed m order level i σ × (common σ I ≡ union p g)
  state_for p g joins within =
      let (σ, glued) = glue m order ordered level I (supplied m order i) xss supplies (supplied_apart m order i ordered) 0 (λ v e. absurd (true≢false (sym e ∙ has-empty v))) (λ j among v e. has-empty v) 0 p
      (same_set _ _ (λ v. has-empty v ∙ sym (has-common 0 I v ∙ ap (λ u. u && has I v) (has-empty v)))) joins in (
        union σ g,
        record {
          of_variables = λ v e. either σ glued.of_variables v (or_cases (has σ v) (has g v) (sym (has-union σ g v) ∙ e));
          supplies = λ j among. subst (IsPossible m order level j) (same_set _ _ (λ v. sym (has-common (union σ g) (variables_of m j) v ∙ rw (has-union σ g v) (apart j among v (has σ v) (has (variables_of m j) v) refl) ∙ sym (has-common σ (variables_of m j) v)))) (glued.supplies j among);
        },
        common-union σ g I ∙ ap (λ s. union s (common g I)) glued.part ∙ ap (union p) (common_where_within g I (λ v e. (in_minus I S v (within v e)).0)),
      )
    where
      either : (σ : ℕ) → Within σ (all_variables m) → (v : ℕ) → (has σ v ≡ true) ⊎ (has g v ≡ true) → has (all_variables m) v ≡ true
      either σ known v (inl e) = known v e
      either σ known v (inr e) = inputs_known m i v (in_minus I S v (within v e)).0

      apart : (j : ℕ) → IsAmong j (supplied m order i) → (v : ℕ) (s u : Bool) → has (variables_of m j) v ≡ u → ((s || has g v) && u) ≡ (s && u)
      apart j among v s true e = let none : has g v ≡ false = false_from_ne_true (has g v) (λ e'. true≢false (sym (in_all m j v (supplied m order i) among e) ∙ (in_minus I S v (within v e')).1)) in rw none (drop_false s)
        where
          drop_false : (u : Bool) → ((u || false) && true) ≡ (u && true)
          drop_false true = refl
          drop_false false = refl
      apart j among v s false e = and-false (s || has g v) ∙ sym (and-false s)

  -- and what is seen of a state that is allowed is joined and guessed
  pub parts_of : (σ : ℕ) → IsAllowed m order level i σ → (p : ℕ) × (g : ℕ) × Joins I xss 0 p × Within g G × (common σ I ≡ union p g)
  parts_of σ allowed = (
    union 0 (common (common σ S) I),
    common σ G,
    unglue m order ordered level I σ (supplied m order i) xss supplies allowed.supplies 0,
    (λ v e. (and_parts (has σ v) (has G v) (sym (has-common σ G v) ∙ e)).1),
    same_set _ _ whole,
  )
    where
      whole : (v : ℕ) → has (common σ I) v ≡ has (union (union 0 (common (common σ S) I)) (common σ G)) v
      whole v = grind (arith, sets)

  pub asked_is_question : (x : ℕ) → IsAskedInState m i xss G level x ↔ IsQuestion m order level i x
  asked_is_question x = (
    λ h. (question_by_state m order ordered level i x).1 (
        let (σ, possible, e) = state_for h.joined h.guess h.is_joined h.of_guesses in
        let same : marks_at m i (union h.joined h.guess) x ≡ marks_at m i σ x = same_marks m i (union h.joined h.guess) σ x (ap (λ s. common s I) (sym e) ∙ common-common σ I) in
        (h.of_rules, (σ, possible, subst (λ (s : ℕ). Within s (allowed_marks m)) same h.allowed, subst (λ (s : ℕ). size s ≤ level) same h.near))),
    λ q. from ((question_by_state m order ordered level i x).0 q),
  )
    where
      from : Within x (rules_into m i) × ((σ : ℕ) × IsAllowed m order level i σ × Within (marks_at m i σ x) (allowed_marks m) × (size (marks_at m i σ x) ≤ level)) → IsAskedInState m i xss G level x
      from (of_rules, (σ, possible, allowed, near)) =
          let (p, g, joins, within, e) = parts_of σ possible in
          let same : marks_at m i σ x ≡ marks_at m i (union p g) x = same_marks m i σ (union p g) x (sym (common-common σ I) ∙ ap (λ s. common s I) e) in
          record {
            of_rules = of_rules;
            joined = p;
            is_joined = joins;
            guess = g;
            of_guesses = within;
            allowed = subst (λ (s : ℕ). Within s (allowed_marks m)) same allowed;
            near = subst (λ (s : ℕ). size s ≤ level) same near;
          }

-- ---- what the code gathers
pub applying_within : (m : System) (i : ℕ) (states sets : List ℕ) → ((a : ℕ) → IsAmong a sets ↔ IsAmong a (map (applying m i) states)) → AllByRecursion (λ s. Within s (rules_into m i)) sets
applying_within m i states sets of_states = all_from_among (λ s. Within s (rules_into m i)) sets (λ s among.
    let (ρ, state, e) = map_among (applying m i) s states ((of_states s).0 among) in
    subst (λ (z : ℕ). Within z (rules_into m i)) (sym e) (common_within_right (applicable m ρ) (rules_into m i)))

module _ (m : System) (i : ℕ) (xss : List (List ℕ)) (guesses level : ℕ) (joined states sets : List ℕ) (of_joins : (ρ : ℕ) → IsAmong ρ joined ↔ SomeJoins (inputs_of m i) xss (0 ∷ []) ρ)
    (of_grows : (ρ : ℕ) → IsAmong ρ states ↔ SomeGrows (members guesses) joined ρ) (of_states : (a : ℕ) → IsAmong a sets ↔ IsAmong a (map (applying m i) states)) where
  pub near_is_asked : (x : ℕ) → IsNear (rules_into m i) (removed_of (allowed_marks m)) (forced_of (allowed_marks m)) sets level x ↔ IsAskedInState m i xss guesses level x
  near_is_asked x = (
    λ h. (
        let (ρ, state, e) = map_among (applying m i) h.set states ((of_states h.set).0 h.listed) in
        let (p, g, joins, within, e') = (states_found (inputs_of m i) xss guesses joined states of_joins of_grows ρ).0 state in
        let same : h.set ≡ applying m i (union p g) = e ∙ ap (applying m i) e' in
        record {
          of_rules = h.of_rules;
          joined = p;
          is_joined = joins;
          guess = g;
          of_guesses = within;
          allowed = (marks_at_within m i (union p g) x h.of_rules (allowed_marks m)).1 (
            subst (λ (s : ℕ). Within (minus s x) (removed_of (allowed_marks m))) same h.removed,
            subst (λ (s : ℕ). Within (minus x s) (forced_of (allowed_marks m))) same h.forced,
          );
          near = subst (λ (n : ℕ). n ≤ level) (sym (count-marks_at m i (union p g) x h.of_rules)) (subst (λ (s : ℕ). size (minus s x) + size (minus x s) ≤ level) same h.near);
        }),
    λ h. (
        let state : IsAmong (union h.joined h.guess) states = (states_found (inputs_of m i) xss guesses joined states of_joins of_grows (union h.joined h.guess)).1 (h.joined, h.guess, h.is_joined, h.of_guesses, refl) in
        let (removed, forced) = (marks_at_within m i (union h.joined h.guess) x h.of_rules (allowed_marks m)).0 h.allowed in
        record {
          of_rules = h.of_rules;
          set = applying m i (union h.joined h.guess);
          listed = (of_states _).1 (among_map (applying m i) (union h.joined h.guess) states state);
          removed = removed;
          forced = forced;
          near = subst (λ (n : ℕ). n ≤ level) (count-marks_at m i (union h.joined h.guess) x h.of_rules) h.near;
        }),
  )

-- what is near of what was gathered, by what the calls tell
pub asked_listed : (m : System) (i : ℕ) (xss : List (List ℕ)) (mask guesses rules level removable forcible allowed : ℕ) → mask ≡ inputs_of m i → rules ≡ rules_into m i → removable ≡ removed_of allowed → forcible ≡ forced_of allowed → allowed ≡ allowed_marks m
    → (joined states states' sets near : List ℕ) → ((ρ : ℕ) → IsAmong ρ joined ↔ SomeJoins mask xss (0 ∷ []) ρ) → ((ρ : ℕ) → IsAmong ρ states ↔ SomeGrows (members guesses) joined ρ) → states' ≡ states
    → ((a : ℕ) → IsAmong a sets ↔ IsAmong a (map (applying m i) states'))
    → IsListing (IsNear rules removable forcible sets level) (λ a b. a < b) near → IsListing (IsAskedInState m i xss guesses level) (λ a b. a < b) near
asked_listed m i xss mask guesses rules level removable forcible allowed mask_is rules_is removable_is forcible_is allowed_is joined states states' sets near of_joins of_grows states_are of_states listing =
    IsListing-same (λ (a b : ℕ). a < b) (IsNear (rules_into m i) (removed_of (allowed_marks m)) (forced_of (allowed_marks m)) sets level) (IsAskedInState m i xss guesses level) near
    (near_is_asked m i xss guesses level joined states sets
    (λ ρ. subst (λ (s : ℕ). IsAmong ρ joined ↔ SomeJoins s xss (0 ∷ []) ρ) mask_is (of_joins ρ)) of_grows
    (λ a. subst (λ (xs : List ℕ). IsAmong a sets ↔ IsAmong a (map (applying m i) xs)) states_are (of_states a)))
    (subst (λ (s : ℕ). IsListing (IsNear s (removed_of (allowed_marks m)) (forced_of (allowed_marks m)) sets level) (λ (a b : ℕ). a < b) near) rules_is
    (subst (λ (s : ℕ). IsListing (IsNear rules s (forced_of (allowed_marks m)) sets level) (λ (a b : ℕ). a < b) near) (removable_is ∙ ap (λ (p : ℕ). removed_of p) allowed_is)
    (subst (λ (s : ℕ). IsListing (IsNear rules removable s sets level) (λ (a b : ℕ). a < b) near) (forcible_is ∙ ap (λ (p : ℕ). forced_of p) allowed_is) listing)))

pub questions_listed : (m : System) (order : List ℕ) → IsImportOrder m order → (level i : ℕ) (xss : List (List ℕ)) → AreSupplies m level (supplied m order i) xss → (n : System) → n ≡ m → (guesses : ℕ) → guesses ≡ guessed m order i
    → (near : List ℕ) → IsListing (IsAskedInState n i xss guesses level) (λ a b. a < b) near → IsListing (IsQuestionAt m level i) (λ a b. a < b) near
questions_listed m order ordered level i xss supplies n same guesses guesses_is near listing =
    IsListing-same (λ (a b : ℕ). a < b) (IsQuestion m order level i) (IsQuestionAt m level i) near (question_in m order ordered level i)
    (IsListing-same (λ (a b : ℕ). a < b) (IsAskedInState m i xss (guessed m order i) level) (IsQuestion m order level i) near (asked_is_question m order ordered level i xss supplies)
    (subst (λ (g : ℕ). IsListing (IsAskedInState m i xss g level) (λ (a b : ℕ). a < b) near) guesses_is (subst (λ (p : System). IsListing (IsAskedInState p i xss guesses level) (λ (a b : ℕ). a < b) near) same listing)))

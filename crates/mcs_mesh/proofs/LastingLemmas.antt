-- Levels above the most rules into one context that may be changed: they have the same questions and rows.
use Rattle.std.proofs.Common.{◌≡◌, ℕ, ◌+◌, ◌-◌, ◌<◌, ◌≤◌, bit_xor, Bool, true, false, not, cond, ◌&&◌, ◌||◌, ap, List, [], ◌∷◌, length, reverse, refl, sym, ◌∙◌, subst, inl, inr, ◌↔◌, arith}
use Rattle.std.proofs.lemmas.Bool.{cases_lt}
use Rattle.std.proofs.lemmas.Bool.Decides.{nat_tests}
use Rattle.std.proofs.lemmas.Option.{slice_get_within}
use Rattle.std.specs.List.{AllByRecursion}
use Rattle.mcs_sets.specs.Sets.{has, common, minus, size, Within}
use Rattle.mcs_sets.specs.Orders.{StateBefore}
use Rattle.mcs_sets.proofs.SetLemmas.{has-differ, has-common, has-union, has-minus}
use Rattle.mcs_sets.proofs.Lattice.{size_within}
use Rattle.mcs_base.specs.Pairs.{removed_of, forced_of}
use Rattle.mcs_base.proofs.Among.{among_reverse}
use Rattle.mcs_base.proofs.Each.{all_among, all_from_among}
use Rattle.mcs_base.proofs.ListingLemmas.{IsListing-same}
use Rattle.mcs_system.specs.Plain.{System}
use Rattle.mcs_system.specs.Systems.{applicable}
use Rattle.mcs_system.specs.Repairs.{allowed_marks}
use Rattle.mcs_system.specs.Imports.{IsImportOrder, IsQuestionAfter, IsPossible, IsPossibleFrom, IsQuestion, before_in, marks_at, rules_into}
use Rattle.mcs_system.specs.Levels.{IsCount, IsQuestionAt, MaySupply}
use Rattle.mcs_system.specs.Rows.{IsRow}
use Rattle.mcs_import.proofs.OrderLemmas.{before_each, order_in_range}
use Rattle.mcs_import.proofs.QuestionLemmas.{applying, size-marks_at, marks_at_within}
use Rattle.mcs_rows.specs.Local.{IsRowOf, AreLocalTables, AreFittingTables}
use Rattle.mcs_table.specs.declared.row.Row.{Row}
use Rattle.mcs_table.specs.RowOrder.{RowBefore}
use Rattle.mcs_table.specs.Tables.{TableData}
use Rattle.mcs_node.specs.Known.{IsKnown, Knowledge}
use Rattle.mcs_mesh.specs.Rounds.{changeable, HasFewRules}
use Rattle.mcs_laws.proofs.Questions.{question_after}

-- a set of rules into a context with allowed marks has no more marks than there are rules into it that may be changed
marks_small : (m : System) (i σ x : ℕ) → Within x (rules_into m i) → Within (marks_at m i σ x) (allowed_marks m) → size (marks_at m i σ x) ≤ size (common (rules_into m i) (changeable m))
marks_small m i σ x of_rules allowed = subst (λ n. n ≤ size (common (rules_into m i) (changeable m))) (sym (size-marks_at m i σ x of_rules)) (size_within _ (common (rules_into m i) (changeable m)) inside)
  where
    parts : Within (minus (applying m i σ) x) (removed_of (allowed_marks m)) × Within (minus x (applying m i σ)) (forced_of (allowed_marks m))
    parts = (marks_at_within m i σ x of_rules (allowed_marks m)).0 allowed

    each : (a b r p q : Bool) → cond a (not b) b ≡ true → (a ≡ true → r ≡ true) → (b ≡ true → r ≡ true) → (a && not b ≡ true → p ≡ true) → (b && not a ≡ true → q ≡ true) → r && (p || q) ≡ true
    each true false r p q e left right removed forced = let is = left refl in let may = removed refl in grind (arith, nat_tests)
    each true true r p q e left right removed forced = absurd (cc)
    each false true r p q e left right removed forced = let is = right refl in let may = forced refl in grind (arith, nat_tests)
    each false false r p q e left right removed forced = absurd (cc)

    of_applying : (k : ℕ) → has (applying m i σ) k ≡ true → has (rules_into m i) k ≡ true
    of_applying k e = let h = has-common (applicable m σ) (rules_into m i) k in grind (arith, nat_tests)

    inside : Within (bit_xor (applying m i σ) x) (common (rules_into m i) (changeable m))
    inside k is = has-common (rules_into m i) (changeable m) k
        ∙ ap (λ (b : Bool). has (rules_into m i) k && b) (has-union (removed_of (allowed_marks m)) (forced_of (allowed_marks m)) k)
        ∙ each (has (applying m i σ) k) (has x k) (has (rules_into m i) k) (has (removed_of (allowed_marks m)) k) (has (forced_of (allowed_marks m)) k)
        (sym (has-differ (applying m i σ) x k) ∙ is) (of_applying k) (of_rules k)
        (λ e. parts.0 k (has-minus (applying m i σ) x k ∙ e)) (λ e. parts.1 k (has-minus x (applying m i σ) k ∙ e))

module _ (m : System) (low high : ℕ) (few : HasFewRules m low) (less : low ≤ high) where
  -- ---- questions
  question_falls : (earlier : List ℕ) (poss more : ℕ → ℕ → Type 0) → ((j τ : ℕ) → more j τ → poss j τ) → (i x : ℕ) → i < length m.contexts → IsQuestionAfter m high earlier more i x → IsQuestionAfter m low earlier poss i x
  question_falls earlier poss more falls i x in_range h = record {
    of_rules = h.of_rules;
    state = h.state;
    of_variables = h.of_variables;
    supplies = λ j among imported. falls j _ (h.supplies j among imported);
    allowed = h.allowed;
    near = omega (arith, marks_small m i h.state x h.of_rules h.allowed, few i in_range);
  }

  possible_falls : (earlier : List ℕ) → AllByRecursion (λ j. j < length m.contexts) earlier → (j τ : ℕ) → IsPossibleFrom m high earlier j τ → IsPossibleFrom m low earlier j τ
  possible_falls [] all j τ none = absurd none
  possible_falls (c ∷ cs) all j τ (inl (e, (x, question, part))) = inl (e, (x, question_falls cs (IsPossibleFrom m low cs) (IsPossibleFrom m high cs) (possible_falls cs all.1) j x (subst (λ n. n < length m.contexts) e all.0) question, part))
  possible_falls (c ∷ cs) all j τ (inr (differ, possible)) = inr (differ, possible_falls cs all.1 j τ possible)

  earlier_in_range : (order : List ℕ) (i : ℕ) → IsImportOrder m order → AllByRecursion (λ j. j < length m.contexts) (reverse (before_in order i))
  earlier_in_range order i ordered = all_from_among (λ j. j < length m.contexts) (reverse (before_in order i)) (λ j among.
      all_among (λ k. k < length m.contexts) (before_in order i) j (before_each (λ k. k < length m.contexts) order i (order_in_range m order ordered)) ((among_reverse j (before_in order i)).0 among))

  question_lower : (order : List ℕ) (i x : ℕ) → IsImportOrder m order → i < length m.contexts → IsQuestion m order high i x → IsQuestion m order low i x
  question_lower order i x ordered in_range question =
      question_falls (reverse (before_in order i)) (IsPossibleFrom m low (reverse (before_in order i))) (IsPossibleFrom m high (reverse (before_in order i)))
      (possible_falls (reverse (before_in order i)) (earlier_in_range order i ordered)) i x in_range question

  question_raised : (order : List ℕ) (i x : ℕ) → IsQuestion m order low i x → IsQuestion m order high i x
  question_raised order i x question = let e : low + (high - low) ≡ high = omega (arith, less) in subst (λ k. IsQuestion m order k i x) e (question_after m order low (high - low) i x question)

  pub same_questions : (i x : ℕ) → i < length m.contexts → IsQuestionAt m low i x ↔ IsQuestionAt m high i x
  same_questions i x in_range = (λ q. (q.0, q.1, question_raised q.0 i x q.2), λ q. (q.0, q.1, question_lower q.0 i x q.1 in_range q.2))

  -- ---- supplies
  possible_lower : (order : List ℕ) (j τ : ℕ) → IsImportOrder m order → j < length m.contexts → IsPossible m order high j τ → IsPossible m order low j τ
  possible_lower order j τ ordered in_range (x, question, part) = (x, question_lower order j x ordered in_range question, part)

  possible_raised : (order : List ℕ) (j τ : ℕ) → IsPossible m order low j τ → IsPossible m order high j τ
  possible_raised order j τ (x, question, part) = (x, question_raised order j x question, part)

  pub same_supplies : (j τ : ℕ) → j < length m.contexts → MaySupply m low j τ ↔ MaySupply m high j τ
  same_supplies j τ in_range = (λ s. (s.0, s.1, possible_raised s.0 j τ s.2), λ s. (s.0, s.1, possible_lower s.0 j τ s.1 in_range s.2))

  -- ---- rows
  row_raised : (order : List ℕ) (i state marks : ℕ) → IsRow m order low i state marks → IsRow m order high i state marks
  row_raised order i state marks r = record {
    whole = r.whole;
    of_variables = r.of_variables;
    rules = r.rules;
    of_rules = r.of_rules;
    accepted = r.accepted;
    supplies = λ j among imported. possible_raised order j _ (r.supplies j among imported);
    state_is = r.state_is;
    marks_is = r.marks_is;
    allowed = r.allowed;
    few = let h = r.few in omega arith;
  }

  row_lower : (order : List ℕ) (i state marks : ℕ) → IsImportOrder m order → i < length m.contexts → IsRow m order high i state marks → IsRow m order low i state marks
  row_lower order i state marks ordered in_range r = record {
    whole = r.whole;
    of_variables = r.of_variables;
    rules = r.rules;
    of_rules = r.of_rules;
    accepted = r.accepted;
    supplies = λ j among imported. possible_lower order j _ ordered (all_among (λ k. k < length m.contexts) (before_in order i) j (before_each (λ k. k < length m.contexts) order i (order_in_range m order ordered)) among) (r.supplies j among imported);
    state_is = r.state_is;
    marks_is = r.marks_is;
    allowed = r.allowed;
    few = subst (λ n. size n ≤ low) r.marks_is (omega (arith, marks_small m i r.whole r.rules r.of_rules (subst (λ n. Within n (allowed_marks m)) (sym r.marks_is) r.allowed), few i in_range));
  }

  same_rows : (i : ℕ) (r : Row) → i < length m.contexts → IsRowOf m low i r ↔ IsRowOf m high i r
  same_rows i r in_range = (
    λ h. record { mask = h.mask; local = (h.local.0, h.local.1, row_raised h.local.0 i r.state.values r.marks h.local.2) },
    λ h. record { mask = h.mask; local = (h.local.0, h.local.1, row_lower h.local.0 i r.state.values r.marks h.local.1 in_range h.local.2) },
  )

  same_tables : (tables : List TableData) → AreLocalTables m low tables → AreLocalTables m high tables
  same_tables tables local = record {
    one_each = local.one_each;
    local = λ i t is. let one = local.local i t is in let within = slice_get_within tables i t is in record {
      scope = one.scope;
      rows = IsListing-same RowBefore (IsRowOf m low i) (IsRowOf m high i) t.rows (λ r. same_rows i r (omega (arith, within, local.one_each))) one.rows;
    };
  }

  -- ---- what is known
  pub known_higher : (i : ℕ) (k : Knowledge) → i < length m.contexts → IsKnown m low i k → IsKnown m high i k
  known_higher i k in_range one = record {
    answered = record { questions = IsListing-same (λ a b. a < b) (IsQuestionAt m low i) (IsQuestionAt m high i) _ (λ x. same_questions i x in_range) one.answered.questions; parts = one.answered.parts };
    supplies = IsListing-same StateBefore (MaySupply m low i) (MaySupply m high i) k.supplies (λ τ. same_supplies i τ in_range) one.supplies;
  }

  pub count_higher : (n : ℕ) → IsCount m low n → IsCount m high n
  count_higher n (lists, all, is) = (
    lists,
    record {
      one_each = all.one_each;
      listed = λ i xs at. IsListing-same (λ a b. a < b) (IsQuestionAt m low i) (IsQuestionAt m high i) xs
          (λ x. same_questions i x (let b = slice_get_within lists i xs at in let e = all.one_each in omega (arith, b, e))) (all.listed i xs at);
    },
    is,
  )

-- the tables are those of a level that is as high as one up to which the rows stay the same
pub tables_ahead : (m : System) (level ahead k : ℕ) (known : List ℕ) (tables : List TableData) → level ≤ ahead → (level < ahead → HasFewRules m level) → level ≤ k → AreFittingTables m k known tables → (j : ℕ) × (ahead ≤ j) × AreFittingTables m j known tables
tables_ahead m level ahead k known tables no_less above high given = elim (cases_lt k ahead) [
  | inl less ↦ (
    ahead,
    omega arith,
    record {
      all = given.all;
      local = same_tables m k ahead (λ i in_range. let h = above (omega (arith, less, high)) i in_range in omega (arith, h, high)) (omega (arith, less)) given.all given.local;
      left = given.left;
      without = given.without;
      ordered = given.ordered;
      moved = given.moved;
      fitting = given.fitting;
    },
  )
  | inr reached ↦ (k, reached, given)
]

-- What a context supplies tells which questions the next one is asked, by two worked cases.
use Rattle.std.proofs.Common.{◌≡◌, ℕ, ◌<◌, ◌≤◌, zero, suc, true, List, [], ◌∷◌, reverse, Some, refl, sym, ap, ◌∙◌, subst, inl, inr, arith, true≢false, slice_get}
use Rattle.std.proofs.lemmas.Bool.{cases_lt, and_from}
use Rattle.mcs_sets.specs.Sets.{has, common, union, minus, single, such_that, size, Within}
use Rattle.mcs_sets.proofs.SetLemmas.{Within-le, has-common, has-empty, members_below}
use Rattle.mcs_sets.proofs.Lattice.{none_within, in_common, size-none, size-single}
use Rattle.mcs_base.specs.Listings.{IsAmong, IsListing}
use Rattle.mcs_base.proofs.Ranges.{zero_or_one}
use Rattle.mcs_system.specs.Plain.{Formula, Classical, Context, Read, System}
use Rattle.mcs_system.specs.Logic.{BeliefSet, Theory, Atoms, Believes, Entails, Accepts, SameModels, with_heads}
use Rattle.mcs_system.specs.Systems.{variables, variables_of, all_variables, IsVariable, heads_into, AcceptsWith, IsAcceptedPart, applicable}
use Rattle.mcs_system.specs.Repairs.{marks_of}
use Rattle.mcs_system.specs.Imports.{imports, Reaches, directly, through, IsReadyContext, IsImportOrder, before_in, rules_into, marks_at, IsQuestionAfter, IsPossibleFrom}
use Rattle.mcs_system.specs.Levels.{IsQuestionAt, IsCount}
use Rattle.mcs_system.proofs.MarkLemmas.{marks_known}
use Rattle.mcs_laws.specs.Laws.{QuestionsKeepToSupplies, QuestionsTakeSupplies}
use Rattle.mcs_laws.proofs.Free.{all_allowed}
use Rattle.mcs_laws.specs.Examples.{name_a, name_b, p, p_of_0, example_context, one_reads_other, one_reads_fact}
use Rattle.mcs_laws.proofs.Rows.{only_read, no_heads, supplies_no_p}
use Rattle.mcs_laws.proofs.Tiny.{has-1, p_is_open, p_follows}

-- ---- a context that reads p of one with these formulas
abbrev first_context : List Formula → Context
first_context fs = record { name = name_a; kb = Classical fs }

abbrev reading : List Formula → System
reading fs = record { contexts = first_context fs ∷ record { name = name_b; kb = Classical [] } ∷ []; bridges = one_reads_other.bridges }

module _ (fs : List Formula) where
  all_variables-reading : all_variables (reading fs) ≡ 1
  unfolding variables such_that union single
  all_variables-reading = refl

  variables_of-reading : variables_of (reading fs) 0 ≡ 1
  unfolding variables_of variables such_that union single
  variables_of-reading = refl

  rules_into-first : rules_into (reading fs) 0 ≡ 0
  unfolding rules_into such_that union single
  rules_into-first = refl

  rules_into-second : rules_into (reading fs) 1 ≡ 1
  unfolding rules_into such_that union single
  rules_into-second = refl

  marks-first : marks_at (reading fs) 0 0 0 ≡ 0
  unfolding applicable rules_into variables marks_of such_that union single common minus has
  marks-first = refl

  -- the rule rests where p is not believed, and acts where it is
  marks-rests : marks_at (reading fs) 1 0 0 ≡ 0
  unfolding applicable rules_into variables marks_of such_that union single common minus has
  marks-rests = refl

  marks-acts : marks_at (reading fs) 1 1 1 ≡ 0
  unfolding applicable rules_into variables marks_of such_that union single common minus has
  marks-acts = refl

  one_forced : size (marks_at (reading fs) 1 0 1) ≡ 1
  unfolding applicable rules_into variables marks_of such_that union single common minus has
  one_forced = size-single 1

  one_removed : size (marks_at (reading fs) 1 1 0) ≡ 1
  unfolding applicable rules_into variables marks_of such_that union single common minus has
  one_removed = size-single 0

  -- ---- the order: the context that is read comes first
  first_imports_nothing : (i j : ℕ) → i ≡ 0 → ¬ Reaches (reading fs) i j
  first_imports_nothing i j e (directly a b is) = true≢false (sym is ∙ ap (λ k. imports (reading fs) k b) e)
  first_imports_nothing i j e (through a b c is later) = true≢false (sym is ∙ ap (λ k. imports (reading fs) k b) e)

  first_ready : IsReadyContext (reading fs) [] 0
  first_ready = record { in_range = omega arith; untaken = λ h. h; back = λ j less untaken reaches. absurd (first_imports_nothing 0 j refl reaches) }

  second_ready : IsReadyContext (reading fs) (0 ∷ []) 1
  second_ready = record {
    in_range = omega arith;
    untaken = λ h. elim h [ inl e ↦ absurd (omega arith) | inr nothing ↦ nothing ];
    back = λ j less untaken reaches. (let apart : ¬ (j ≡ 0) = (λ e. untaken (inl e)) in let only : j ≡ 1 = omega arith in
        subst (λ k. Reaches (reading fs) k 1) (sym only) (subst (λ k. Reaches (reading fs) 1 k) only reaches));
  }

  is_second : (j : ℕ) → IsReadyContext (reading fs) (0 ∷ []) j → j ≡ 1
  is_second j ready = let less = ready.in_range in let apart : ¬ (j ≡ 0) = (λ e. ready.untaken (inl e)) in omega arith

  in_order : IsImportOrder (reading fs) (0 ∷ 1 ∷ [])
  in_order = (
    record { ready = first_ready; lowest = λ j ready. omega arith },
    (
      record { ready = second_ready; lowest = λ j ready. (let is = is_second j ready in omega arith) },
      λ i less. elim (cases_lt i 1) [ inl low ↦ inl (omega arith) | inr high ↦ inr (inl (omega arith)) ],
    ),
  )

  before_second : (order : List ℕ) → IsImportOrder (reading fs) order → before_in order 1 ≡ 0 ∷ []
  before_second [] all = absurd (all 0 (omega arith))
  before_second (i ∷ []) (next, all) = elim (all 1 (omega arith)) [
    | inl e ↦ absurd (let low = next.lowest 0 first_ready in omega arith)
    | inr nothing ↦ absurd nothing
  ]
  before_second (i ∷ j ∷ rest) (next, (second, more)) =
      let low = next.lowest 0 first_ready in
      let a : i ≡ 0 = omega arith in
      let b : j ≡ 1 = is_second j (subst (λ k. IsReadyContext (reading fs) (k ∷ []) j) a second.ready) in
      ap (λ k. before_in (k ∷ j ∷ rest) 1) a ∙ ap (λ k. before_in (0 ∷ k ∷ rest) 1) b

  -- ---- what is asked at level 0
  first_asked : IsQuestionAfter (reading fs) 0 [] (IsPossibleFrom (reading fs) 0 []) 0 0
  first_asked = record {
    of_rules = none_within _;
    state = 0;
    of_variables = none_within _;
    supplies = λ j nothing. absurd nothing;
    allowed = rw (all_allowed (reading fs) ((refl, refl), tt)) (marks_known (reading fs) _ _);
    near = let e = ap size marks-first ∙ size-none in omega arith;
  }

  -- a question to the second context, where the first one supplies what is assumed of it
  second_asked : (state x : ℕ) → Within state (all_variables (reading fs)) → Within x (rules_into (reading fs) 1) → IsAcceptedPart (reading fs) 0 0 (common state (variables_of (reading fs) 0)) → marks_at (reading fs) 1 state x ≡ 0
      → IsQuestionAt (reading fs) 0 1 x
  second_asked state x of_variables of_rules supplied unmarked = (
    0 ∷ 1 ∷ [],
    in_order,
    record {
      of_rules = of_rules;
      state = state;
      of_variables = of_variables;
      supplies = λ j among imported. elim among [
        | inl e ↦ subst (λ k. IsPossibleFrom (reading fs) 0 (0 ∷ []) k (common state (variables_of (reading fs) k))) (sym e) (inl (refl, (0, first_asked, supplied)))
        | inr nothing ↦ absurd nothing
      ];
      allowed = rw (all_allowed (reading fs) ((refl, refl), tt)) (marks_known (reading fs) _ _);
      near = let e = ap size unmarked ∙ size-none in omega arith;
    },
  )

  -- such a question supposes a state that the first context supplies
  record IsSupposed (x state : ℕ) : Type 0 where
    pub small : IsAmong state (1 ∷ 0 ∷ [])
    pub rules : ℕ
    pub supplied : IsAcceptedPart (reading fs) 0 rules (common state (variables_of (reading fs) 0))
    pub near : size (marks_at (reading fs) 1 state x) ≤ 0

  supposed : (x : ℕ) → IsQuestionAt (reading fs) 0 1 x → (state : ℕ) × IsSupposed x state
  supposed x (order, is, question) = at (subst (λ earlier. IsQuestionAfter (reading fs) 0 (reverse earlier) (IsPossibleFrom (reading fs) 0 (reverse earlier)) 1 x) (before_second order is) question)
    where
      at : IsQuestionAfter (reading fs) 0 (0 ∷ []) (IsPossibleFrom (reading fs) 0 (0 ∷ [])) 1 x → (state : ℕ) × IsSupposed x state
      at q = (
        q.state,
        elim (q.supplies 0 (inl refl) refl) [
          | inl (same, (rules, asked, accepted)) ↦ record {
            small = zero_or_one q.state (rw all_variables-reading at (Within-le q.state _ q.of_variables));
            rules = rules;
            supplied = accepted;
            near = q.near;
          }
          | inr (other, nothing) ↦ absurd nothing
        ],
      )

  first_listed : IsListing (IsQuestionAt (reading fs) 0 0) (λ a b. a < b) (0 ∷ [])
  first_listed = record {
    exactly = λ x. (
      λ among. elim among [ inl e ↦ rw e (0 ∷ 1 ∷ [], in_order, first_asked) | inr nothing ↦ absurd nothing ],
      λ (order, is, question). inl (let small = rw rules_into-first at (Within-le x _ question.of_rules) in omega arith),
    );
    ascending = (tt, tt);
  }

  -- where the second context is asked one of the two sets and not the other, there are two questions
  counted : (x : ℕ) → IsQuestionAt (reading fs) 0 1 x → ((y : ℕ) → IsAmong y (1 ∷ 0 ∷ []) → IsQuestionAt (reading fs) 0 1 y → y ≡ x) → IsCount (reading fs) 0 2
  counted x asked only = ((0 ∷ []) ∷ (x ∷ []) ∷ [], record { one_each = refl; listed = at }, refl)
    where
      second_listed : IsListing (IsQuestionAt (reading fs) 0 1) (λ a b. a < b) (x ∷ [])
      second_listed = record {
        exactly = λ y. (
          λ among. elim among [ inl e ↦ rw e asked | inr nothing ↦ absurd nothing ],
          λ other. inl (only y (zero_or_one y (rw rules_into-second at (Within-le y _ other.2.of_rules))) other),
        );
        ascending = (tt, tt);
      }

      at : (i : ℕ) (ys : List ℕ) → slice_get ((0 ∷ []) ∷ (x ∷ []) ∷ []) i ≡ Some ys → IsListing (IsQuestionAt (reading fs) 0 i) (λ a b. a < b) ys
      at zero ys is = let same : 0 ∷ [] ≡ ys = cc in subst (IsListing (IsQuestionAt (reading fs) 0 0) (λ a b. a < b)) same first_listed
      at (suc zero) ys is = let same : x ∷ [] ≡ ys = cc in subst (IsListing (IsQuestionAt (reading fs) 0 1) (λ a b. a < b)) same second_listed
      at (suc (suc i)) ys is = cc

-- ---- the first context believes nothing that does not follow from nothing
supplied_without_p : IsAcceptedPart one_reads_other 0 0 (common 0 (variables_of one_reads_other 0))
supplied_without_p = record { belief = Theory []; accepted = (example_context, refl, λ a. rw no_heads refl); part = λ v. (to v, λ h. from v h.0 h.1 h.3) }
  where
    to : (v : ℕ) → has (common 0 (variables_of one_reads_other 0)) v ≡ true → (r : Read) × IsVariable one_reads_other v r × (r.context ≡ 0) × Entails [] r.belief
    to v member = absurd (true≢false (sym (in_common 0 (variables_of one_reads_other 0) v member).0 ∙ has-empty v))

    from : (v : ℕ) → (r : Read) → IsVariable one_reads_other v r → Entails [] r.belief → has (common 0 (variables_of one_reads_other 0)) v ≡ true
    from v r is follows = absurd (p_is_open (subst (λ (q : Read). Entails [] q.belief) (only_read v r is) follows))

without_rule : IsQuestionAt one_reads_other 0 1 0
without_rule = second_asked [] 0 0 (none_within _) (none_within _) supplied_without_p (marks-rests [])

with_rule : ¬ IsQuestionAt one_reads_other 0 1 1
with_rule asked = let (state, h) = supposed [] 1 asked in elim h.small [
  | inl holds ↦ supplies_no_p h.rules state (ap (λ s. has s 0) holds ∙ has-1) h.supplied
  | inr rest ↦ elim rest [
    | inl lacks ↦ (let near = subst (λ s. size (marks_at one_reads_other 1 s 1) ≤ 0) lacks h.near in let some = one_forced [] in omega arith)
    | inr nothing ↦ absurd nothing
  ]
]

pub questions_keep_to_supplies : QuestionsKeepToSupplies
questions_keep_to_supplies = (
  without_rule,
  with_rule,
  counted [] 0 without_rule (λ y small asked. elim small [
    | inl e ↦ absurd (with_rule (subst (IsQuestionAt one_reads_other 0 1) e asked))
    | inr rest ↦ elim rest [ inl e ↦ e | inr nothing ↦ absurd nothing ]
  ]),
)

-- ---- the first context has the fact p
fact_read : (v : ℕ) (r : Read) → IsVariable one_reads_fact v r → (v ≡ 0) × (r ≡ p_of_0)
unfolding variables
fact_read zero r is = (refl, cc)
fact_read (suc v) r is = cc

fact_variable : IsVariable one_reads_fact 0 p_of_0
unfolding variables
fact_variable = refl

no_heads-fact : (x : ℕ) → heads_into one_reads_fact 0 x ≡ []
no_heads-fact x = no_heads x

supplied_with_p : IsAcceptedPart one_reads_fact 0 0 (common 1 (variables_of one_reads_fact 0))
supplied_with_p = record { belief = Theory (p ∷ []); accepted = (first_context (p ∷ []), refl, λ a. rw no_heads-fact refl); part = λ v. (to v, λ h. from v h.0 h.1) }
  where
    to : (v : ℕ) → has (common 1 (variables_of one_reads_fact 0)) v ≡ true → (r : Read) × IsVariable one_reads_fact v r × (r.context ≡ 0) × Entails (p ∷ []) r.belief
    to v member =
        let small : v < 1 = members_below 1 1 v (omega arith) (in_common 1 (variables_of one_reads_fact 0) v member).0 in
        let is : v ≡ 0 = omega arith in
        (p_of_0, ap (slice_get (variables one_reads_fact)) is ∙ fact_variable, refl, p_follows)

    from : (v : ℕ) → (r : Read) → IsVariable one_reads_fact v r → has (common 1 (variables_of one_reads_fact 0)) v ≡ true
    from v r is =
        let e = (fact_read v r is).0 in
        ap (has (common 1 (variables_of one_reads_fact 0))) e ∙ has-common 1 (variables_of one_reads_fact 0) 0 ∙ and_from _ _ has-1 (ap (λ s. has s 0) (variables_of-reading (p ∷ [])) ∙ has-1)

believes_fact : (x : ℕ) (b : BeliefSet) → AcceptsWith one_reads_fact 0 x b → Believes b p
believes_fact x (Theory e) (c, is, accepts) =
    let same : c ≡ first_context (p ∷ []) = cc in
    let models : SameModels e (p ∷ []) = rw no_heads-fact at (subst (λ (d : Context). Accepts (with_heads d.kb (heads_into one_reads_fact 0 x)) (Theory e)) same accepts) in
    λ a h. p_follows a (sym (models a) ∙ h)
believes_fact x (Atoms names) (c, is, accepts) =
    let same : c ≡ first_context (p ∷ []) = cc in absurd (subst (λ (d : Context). Accepts (with_heads d.kb (heads_into one_reads_fact 0 x)) (Atoms names)) same accepts)

supplies_p : (x : ℕ) → ¬ IsAcceptedPart one_reads_fact 0 x (common 0 (variables_of one_reads_fact 0))
supplies_p x accepted =
    let member = (accepted.part 0).1 (p_of_0, fact_variable, refl, believes_fact x accepted.belief accepted.accepted) in
    true≢false (sym (in_common 0 (variables_of one_reads_fact 0) 0 member).0 ∙ has-empty 0)

fact_asked : IsQuestionAt one_reads_fact 0 1 1
fact_asked = second_asked (p ∷ []) 1 1 (λ k h. rw all_variables-reading h) (λ k h. rw rules_into-second h) supplied_with_p (marks-acts (p ∷ []))

fact_unasked : ¬ IsQuestionAt one_reads_fact 0 1 0
fact_unasked asked = let (state, h) = supposed (p ∷ []) 0 asked in elim h.small [
  | inl holds ↦ (let near = subst (λ s. size (marks_at one_reads_fact 1 s 0) ≤ 0) holds h.near in let some = one_removed (p ∷ []) in omega arith)
  | inr rest ↦ elim rest [
    | inl lacks ↦ supplies_p h.rules (subst (λ s. IsAcceptedPart one_reads_fact 0 h.rules (common s (variables_of one_reads_fact 0))) lacks h.supplied)
    | inr nothing ↦ absurd nothing
  ]
]

pub questions_take_supplies : QuestionsTakeSupplies
questions_take_supplies = (
  fact_unasked,
  fact_asked,
  counted (p ∷ []) 1 fact_asked (λ y small asked. elim small [
    | inl e ↦ e
    | inr rest ↦ elim rest [ inl e ↦ absurd (fact_unasked (subst (IsQuestionAt one_reads_fact 0 1) e asked)) | inr nothing ↦ absurd nothing ]
  ]),
)

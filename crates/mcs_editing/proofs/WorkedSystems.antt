-- The two systems of the worked session: the first has an equilibrium and the second none, and what each context is asked.
use Rattle.std.proofs.Common.{◌≡◌, ℕ, ◌<◌, ◌≤◌, zero, suc, Bool, true, false, ◌&&◌, ◌||◌, not, cond, List, [], ◌∷◌, ◌++◌, length, Some, codes, refl, sym, ap, ◌∙◌, subst, inl, inr, arith, true≢false, slice_get}
use Rattle.std.proofs.lemmas.Bool.{cases_lt}
use Rattle.mcs_sets.specs.Sets.{has, common, union, minus, single, such_that, members, members_from, size, Within}
use Rattle.mcs_sets.proofs.SetLemmas.{has-empty, members_below}
use Rattle.mcs_sets.proofs.Lattice.{none_within, size-none, size-single}
use Rattle.mcs_base.proofs.Deciding.{only_test}
use Rattle.mcs_base.proofs.Lists.{slice_get_below}
use Rattle.mcs_system.specs.Plain.{Formula, Atom, Program, ProgramRule, Context, Read, System}
use Rattle.mcs_system.specs.Logic.{is_in, BeliefSet, Theory, Atoms, Accepts, IsAnswerSet, with_heads}
use Rattle.mcs_system.specs.Systems.{variables, variables_of, applicable, all_rules, heads_into, AcceptsWith, Applies, IsAcceptedPart, IsEquilibrium, IsVariable, IsConsistent}
use Rattle.mcs_system.specs.Repairs.{marks_of}
use Rattle.mcs_system.specs.Imports.{imports, Reaches, directly, through, IsReadyContext, IsImportOrder, rules_into, marks_at, IsQuestionAfter, IsPossibleFrom}
use Rattle.mcs_system.specs.Levels.{IsQuestionAt}
use Rattle.mcs_system.proofs.MarkLemmas.{marks_known}
use Rattle.mcs_laws.proofs.Free.{all_allowed}
use Rattle.mcs_laws.proofs.Worked.{in_one}
use Rattle.mcs_session.specs.Keys.{key_of}
use Rattle.mcs_session.specs.Worked.{one_rule, the_key, with_rule, without_rule}

-- ---- two contexts of which the first reads nothing are asked in their order
module _ (m : System) (two : length m.contexts ≡ 2) (reads_nothing : (j : ℕ) → imports m 0 j ≡ false) where
  reaches_nothing : (i j : ℕ) → i ≡ 0 → ¬ Reaches m i j
  reaches_nothing i j e (directly a b is) = true≢false (sym is ∙ ap (λ (k : ℕ). imports m k b) e ∙ reads_nothing b)
  reaches_nothing i j e (through a b c is later) = true≢false (sym is ∙ ap (λ (k : ℕ). imports m k b) e ∙ reads_nothing b)

  first_ready : IsReadyContext m [] 0
  first_ready = record { in_range = omega (arith, two); untaken = (λ h. h); back = (λ j less untaken reaches. absurd (reaches_nothing 0 j refl reaches)) }

  second_ready : IsReadyContext m (0 ∷ []) 1
  second_ready = record {
    in_range = omega (arith, two);
    untaken = (λ h. elim h [ inl e ↦ absurd (omega (arith, e)) | inr nothing ↦ nothing ]);
    back = (λ j less untaken reaches. let apart : ¬ (j ≡ 0) = (λ e. untaken (inl e)) in let only : j ≡ 1 = omega (arith, two, less, apart) in
        subst (λ (k : ℕ). Reaches m k 1) (sym only) (subst (λ (k : ℕ). Reaches m 1 k) only reaches));
  }

  is_second : (j : ℕ) → IsReadyContext m (0 ∷ []) j → j ≡ 1
  is_second j ready = let less = ready.in_range in let apart : ¬ (j ≡ 0) = (λ e. ready.untaken (inl e)) in omega (arith, two, less, apart)

  in_order : IsImportOrder m (0 ∷ 1 ∷ [])
  in_order = (
    record { ready = first_ready; lowest = (λ j ready. omega arith) },
    (
      record { ready = second_ready; lowest = (λ j ready. let is = is_second j ready in omega (arith, is)) },
      λ i less. elim (cases_lt i 1) [ inl low ↦ inl (omega (arith, low)) | inr high ↦ inr (inl (omega (arith, two, less, high))) ],
    ),
  )

-- ---- what the contexts accept
abbrev a_alone : List ProgramRule
a_alone = record { head = codes "a" ∷ []; pos = []; neg = [] } ∷ []

abbrev not_p : List ProgramRule
not_p = record { head = []; pos = codes "p" ∷ []; neg = [] } ∷ []

abbrev first_context : Context
first_context = record { name = codes "c1"; kb = Program a_alone }

abbrev second_context : Context
second_context = record { name = codes "c2"; kb = Program not_p }

a_is_accepted : IsAnswerSet a_alone (codes "a" ∷ [])
a_is_accepted = record {
  model = refl;
  minimal = λ b sub sat. (let in_b : is_in (codes "a") b ≡ true = only_test (is_in (codes "a") b) sat in
      true≢false (sym (ap (λ (n : List ℕ). is_in n b) (in_one sub.more (codes "a") sub.in_second) ∙ in_b) ∙ sub.not_in_first));
}

nothing_is_accepted : IsAnswerSet not_p []
nothing_is_accepted = record { model = refl; minimal = λ b sub sat. true≢false (sym sub.in_second) }

-- ---- without the rule
no_marks : (i σ x : ℕ) → marks_at without_rule i σ x ≡ 0
unfolding marks_of such_that
no_marks i σ x = refl

pub asked_without : (i : ℕ) → IsQuestionAt without_rule 0 i 0
asked_without i = (
  0 ∷ 1 ∷ [],
  in_order without_rule refl (λ j. refl),
  record {
    of_rules = none_within _;
    state = 0;
    of_variables = none_within _;
    supplies = (λ j among imported. absurd (true≢false (sym imported)));
    allowed = rw (no_marks i 0 0) (none_within _);
    near = (let e = ap (λ (s : ℕ). size s) (no_marks i 0 0) ∙ size-none in omega (arith, e));
  },
)

pub key_without : (i x : ℕ) → key_of without_rule i x ≡ the_key i [] []
unfolding variables_of variables such_that members members_from
key_without i x = refl

each_accepts : (i : ℕ) (b : BeliefSet) → slice_get (Atoms (codes "a" ∷ []) ∷ Atoms [] ∷ []) i ≡ Some b → AcceptsWith without_rule i 0 b
each_accepts zero b is = let same : Atoms (codes "a" ∷ []) ≡ b = cc in (first_context, refl, subst (λ (c : BeliefSet). Accepts (Program a_alone) c) same a_is_accepted)
each_accepts (suc zero) b is = let same : Atoms [] ≡ b = cc in (second_context, refl, subst (λ (c : BeliefSet). Accepts (Program not_p) c) same nothing_is_accepted)
each_accepts (suc (suc i)) b is = cc

no_variable : (v : ℕ) (r : Read) → ¬ IsVariable without_rule v r
unfolding variables
no_variable v r is = cc

pub without_is_consistent : IsConsistent without_rule
without_is_consistent = record {
  equilibrium = 0;
  balanced = record {
    state = Atoms (codes "a" ∷ []) ∷ Atoms [] ∷ [];
    balanced = record { one_each = refl; acting = 0; of_rules = none_within _; acting_is = λ k b is. cc; accepted = each_accepts };
    projection = λ v. (λ member. absurd (true≢false (sym member ∙ has-empty v)), λ h. absurd (no_variable v h.0 h.1));
  };
}

-- ---- with the rule: what the definitions compute to
rules_into_first : rules_into with_rule 0 ≡ 0
unfolding rules_into such_that union single
rules_into_first = refl

rules_into_second : rules_into with_rule 1 ≡ 1
unfolding rules_into such_that union single
rules_into_second = refl

variables_of_first : variables_of with_rule 0 ≡ 1
unfolding variables_of variables such_that union single
variables_of_first = refl

variables_are : (v : ℕ) (r : Read) → IsVariable with_rule v r → v ≡ 0
unfolding variables
variables_are zero r is = refl
variables_are (suc v) r is = cc

first_variable : IsVariable with_rule 0 (record { context = 0; belief = Atom (codes "a") })
unfolding variables
first_variable = refl

marks_first : marks_at with_rule 0 0 0 ≡ 0
unfolding applicable rules_into variables marks_of such_that union single common minus has
marks_first = refl

removed : size (marks_at with_rule 1 1 0) ≡ 1
unfolding applicable rules_into variables marks_of such_that union single common minus has
removed = size-single 0

unchanged : marks_at with_rule 1 1 1 ≡ 0
unfolding applicable rules_into variables marks_of such_that union single common minus has
unchanged = refl

has_rule : has (all_rules with_rule) 0 ≡ true
unfolding such_that union single has
has_rule = refl

has_1 : has 1 0 ≡ true
unfolding has
has_1 = refl

believed : common 1 1 ≡ 1
unfolding common
believed = refl

heads_first : (x : ℕ) → heads_into with_rule 0 x ≡ []
heads_first x = at (has x 0)
  where
    at : (v : Bool) → cond (v && false) (Atom (codes "p") ∷ []) [] ≡ []
    at true = refl
    at false = refl

heads_second : (x : ℕ) (v : Bool) → has x 0 ≡ v → heads_into with_rule 1 x ≡ cond v (Atom (codes "p") ∷ []) []
heads_second x true e = rw e refl
heads_second x false e = rw e refl

-- ---- keys
beliefs_first : (heads : List Formula) → record (key_of with_rule 0 0) { heads = heads } ≡ the_key 0 heads (Atom (codes "a") ∷ [])
unfolding variables_of variables has single union such_that members members_from
beliefs_first heads = refl

beliefs_second : (heads : List Formula) → record (key_of with_rule 1 0) { heads = heads } ≡ the_key 1 heads []
unfolding variables_of variables has single union such_that members members_from
beliefs_second heads = refl

pub key_first : (x : ℕ) → key_of with_rule 0 x ≡ the_key 0 [] (Atom (codes "a") ∷ [])
key_first x = beliefs_first (heads_into with_rule 0 x) ∙ ap (λ (hs : List Formula). the_key 0 hs (Atom (codes "a") ∷ [])) (heads_first x)

pub key_second : (x : ℕ) (v : Bool) → has x 0 ≡ v → key_of with_rule 1 x ≡ the_key 1 (cond v (Atom (codes "p") ∷ []) []) []
key_second x v e = beliefs_second (heads_into with_rule 1 x) ∙ ap (λ (hs : List Formula). the_key 1 hs []) (heads_second x v e)

-- ---- with the rule nothing is in equilibrium
-- the first context believes a
a_believed : (x : ℕ) (b : BeliefSet) → AcceptsWith with_rule 0 x b → (names : List (List ℕ)) × (b ≡ Atoms names) × (is_in (codes "a") names ≡ true)
a_believed x (Theory e) (c, is, accepts) = let same : c ≡ first_context = cc in
    absurd (subst (λ (d : Context). Accepts (with_heads d.kb (heads_into with_rule 0 x)) (Theory e)) same accepts)
a_believed x (Atoms names) (c, is, accepts) = let same : c ≡ first_context = cc in
    let accepts' = subst (λ (d : Context). Accepts (with_heads d.kb (heads_into with_rule 0 x)) (Atoms names)) same accepts in
    let alone : IsAnswerSet a_alone names = rw heads_first at accepts' in
    (names, refl, only_test (is_in (codes "a") names) alone.model)

-- the second one accepts nothing where the rule acts
abbrev p_and_not : List ProgramRule
p_and_not = not_p ++ record { head = codes "p" ∷ []; pos = []; neg = [] } ∷ []

p_contradicts : (names : List (List ℕ)) → IsAnswerSet p_and_not names → ⊥
p_contradicts names h = at (is_in (codes "p") names) h.model
  where
    at : (v : Bool) → ((not (v && true) || false) && ((v || false) && true)) ≡ true → ⊥
    at true e = true≢false (sym e)
    at false e = true≢false (sym e)

rejects : (x : ℕ) (b : BeliefSet) → has x 0 ≡ true → AcceptsWith with_rule 1 x b → ⊥
rejects x (Theory e) acts (c, is, accepts) = let same : c ≡ second_context = cc in
    subst (λ (d : Context). Accepts (with_heads d.kb (heads_into with_rule 1 x)) (Theory e)) same accepts
rejects x (Atoms names) acts (c, is, accepts) = let same : c ≡ second_context = cc in
    let accepts' = subst (λ (d : Context). Accepts (with_heads d.kb (heads_into with_rule 1 x)) (Atoms names)) same accepts in
    p_contradicts names (rw (heads_second x true acts) at accepts')

no_equilibrium : (s : List BeliefSet) → IsEquilibrium with_rule (all_rules with_rule) 0 s → ⊥
no_equilibrium s e =
    let (first, is_first) = slice_get_below s 0 (let long = e.one_each in omega (arith, long)) in
    let (second, is_second) = slice_get_below s 1 (let long = e.one_each in omega (arith, long)) in
    let (names, is_atoms, in_names) = a_believed e.acting first (e.accepted 0 first is_first) in
    let applies : Applies one_rule s = record { all_believed = ((Atoms names, is_first ∙ ap Some is_atoms, in_names), tt); none_believed = tt } in
    let acts : has e.acting 0 ≡ true = (e.acting_is 0 one_rule refl).1 (inl (has_rule, applies)) in
    rejects e.acting second acts (e.accepted 1 second is_second)

pub with_is_inconsistent : ¬ IsConsistent with_rule
with_is_inconsistent c = no_equilibrium c.balanced.state c.balanced.balanced

-- ---- what they are asked, where one mark is allowed
supplied_first : IsAcceptedPart with_rule 0 0 1
supplied_first = record {
  belief = Atoms (codes "a" ∷ []);
  accepted = (first_context, refl, rw (heads_first 0) a_is_accepted);
  part = λ v. (
    λ member. let low : v < 1 = members_below 1 1 v (omega arith) member in let is : v ≡ 0 = omega (arith, low) in
        (record { context = 0; belief = Atom (codes "a") }, ap (slice_get (variables with_rule)) is ∙ first_variable, refl, refl),
    λ h. ap (has 1) (variables_are v h.0 h.1) ∙ has_1,
  );
}

first_question : IsQuestionAfter with_rule 1 [] (IsPossibleFrom with_rule 1 []) 0 0
first_question = record {
  of_rules = none_within _;
  state = 0;
  of_variables = none_within _;
  supplies = (λ j nothing. absurd nothing);
  allowed = rw marks_first (none_within _);
  near = (let e = ap (λ (s : ℕ). size s) marks_first ∙ size-none in omega (arith, e));
}

pub asked_first : IsQuestionAt with_rule 1 0 0
asked_first = (0 ∷ 1 ∷ [], in_order with_rule refl (λ j. refl), first_question)

supplied : IsPossibleFrom with_rule 1 (0 ∷ []) 0 (common 1 (variables_of with_rule 0))
supplied = subst (λ (τ : ℕ). IsPossibleFrom with_rule 1 (0 ∷ []) 0 τ) (sym (ap (common 1) variables_of_first ∙ believed)) (inl (refl, (0, first_question, supplied_first)))

known_state : Within 1 (such_that (length (variables with_rule)) (λ v. true))
unfolding variables such_that union single
known_state k is = is

second_question : (x : ℕ) → Within x 1 → size (marks_at with_rule 1 1 x) ≤ 1 → IsQuestionAt with_rule 1 1 x
second_question x within few = (
  0 ∷ 1 ∷ [],
  in_order with_rule refl (λ j. refl),
  record {
    of_rules = rw rules_into_second within;
    state = 1;
    of_variables = known_state;
    supplies = (λ j among imported. elim among [
      | inl e ↦ subst (λ (k : ℕ). IsPossibleFrom with_rule 1 (0 ∷ []) k (common 1 (variables_of with_rule k))) (sym e) supplied
      | inr nothing ↦ absurd nothing
    ]);
    allowed = rw (all_allowed with_rule ((refl, refl), tt)) (marks_known with_rule _ _);
    near = few;
  },
)

pub asked_second_without : IsQuestionAt with_rule 1 1 0
asked_second_without = second_question 0 (none_within _) (let e = removed in omega (arith, e))

pub asked_second_with : IsQuestionAt with_rule 1 1 1
asked_second_with = second_question 1 (λ k h. h) (let e = ap (λ (s : ℕ). size s) unchanged ∙ size-none in omega (arith, e))

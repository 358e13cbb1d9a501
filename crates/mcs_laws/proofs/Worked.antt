-- Worked programs and default theories, evaluated by the definitions.
use Rattle.std.proofs.Common.{◌≡◌, Bool, true, false, not, ◌&&◌, ◌||◌, cond, List, [], ◌∷◌, codes, refl, sym, ap, ◌∙◌, subst, true≢false}
use Rattle.std.proofs.lemmas.Bool.{and_parts, not_from_true, not_from_false}
use Rattle.std.specs.List.{list_all}
use Rattle.mcs_system.specs.Plain.{Name, Truth, Falsity, Atom, Not, Joined, ProgramRule}
use Rattle.mcs_system.specs.Logic.{same_name, is_in, holds, Entails, Theory, Atoms, satisfies, reduct, IsAnswerSet}
use Rattle.mcs_base.proofs.Deciding.{only_test, test_with_implied}
use Rattle.mcs_system.proofs.Sameness.{same_name-is}
use Rattle.mcs_laws.specs.Laws.{NegationAllows, NegationUndoes, ProgramsDoNotSupportThemselves, HeadsAreFacts, DefaultsAreGrounded, DefaultsMayChoose, ToldFactsBlock, ProgramsBelieveAtoms, KindsAcceptTheirSort}
use Rattle.mcs_laws.specs.Examples.{SameNames, name_a, name_b, p, q, a_unless_b, a_unless_a, a_if_a}

-- ---- names
pub in_one : (n x : Name) → is_in n (x ∷ []) ≡ true → n ≡ x
in_one n x h = at (same_name n x) refl h
  where
    at : (v : Bool) → same_name n x ≡ v → (v || false) ≡ true → n ≡ x
    at true e h' = sym (sym (same_name-is n x e))
    at false e h' = absurd (true≢false (sym h'))

in_two : (n x y : Name) (names : List Name) → is_in x names ≡ true → is_in y names ≡ true → is_in n (x ∷ y ∷ []) ≡ true → is_in n names ≡ true
in_two n x y names in_x in_y h = at (same_name n x) refl (same_name n y) refl h
  where
    at : (u : Bool) → same_name n x ≡ u → (v : Bool) → same_name n y ≡ v → (u || (v || false)) ≡ true → is_in n names ≡ true
    at true e v e' h' = ap (λ z. is_in z names) (same_name-is n x e) ∙ in_x
    at false e true e' h' = ap (λ z. is_in z names) (same_name-is n y e') ∙ in_y
    at false e false e' h' = absurd (true≢false (sym h'))

-- a name of an answer set is in each smaller set that satisfies the reduct
pub needed : (rules : List ProgramRule) (names smaller : List Name) → IsAnswerSet rules names → ((n : Name) → is_in n smaller ≡ true → is_in n names ≡ true)
    → list_all (satisfies smaller) (reduct names rules) ≡ true → (n : Name) → is_in n names ≡ true → is_in n smaller ≡ true
needed rules names smaller h within sat n inside = at (is_in n smaller) refl
  where
    at : (v : Bool) → is_in n smaller ≡ v → v ≡ true
    at true e = refl
    at false e = absurd (h.minimal smaller (record { within = within; more = n; in_second = inside; not_in_first = e }) sat)

nothing_in : (n : Name) (names : List Name) → is_in n [] ≡ true → is_in n names ≡ true
nothing_in n names h = absurd (true≢false (sym h))

-- ---- a :- not b.
abbrev pub fact_a : ProgramRule
fact_a = record { head = name_a ∷ []; pos = []; neg = [] }

without_b : (names : List Name) (v : Bool) → is_in name_b names ≡ v → reduct names a_unless_b ≡ cond v [] (fact_a ∷ [])
without_b names true e = rw e refl
without_b names false e = rw e refl

pub negation_allows : NegationAllows
negation_allows names = (to, from)
  where
    to : IsAnswerSet a_unless_b names → SameNames names (name_a ∷ [])
    to h = at (is_in name_b names) refl
      where
        at : (v : Bool) → is_in name_b names ≡ v → SameNames names (name_a ∷ [])
        at true e = absurd (true≢false (sym (needed a_unless_b names [] h (λ n. nothing_in n names) (ap (list_all (satisfies [])) (without_b names true e)) name_b e)))
        at false e = λ n. (
          λ inside. needed a_unless_b names (name_a ∷ []) h (λ k in_a. ap (λ z. is_in z names) (in_one k name_a in_a) ∙ has_a) (ap (list_all (satisfies (name_a ∷ []))) (without_b names false e)) n inside,
          λ in_a. ap (λ z. is_in z names) (in_one n name_a in_a) ∙ has_a,
        )
          where
            has_a : is_in name_a names ≡ true
            has_a = only_test (is_in name_a names) (sym (ap (list_all (satisfies names)) (without_b names false e)) ∙ h.model)

    from : SameNames names (name_a ∷ []) → IsAnswerSet a_unless_b names
    from same = at (is_in name_b names) refl
      where
        has_a : is_in name_a names ≡ true
        has_a = (same name_a).1 refl

        at : (v : Bool) → is_in name_b names ≡ v → IsAnswerSet a_unless_b names
        at true e = absurd (true≢false (sym ((same name_b).0 e)))
        at false e = record {
          model = ap (list_all (satisfies names)) (without_b names false e) ∙ ap (λ v. (v || false) && true) has_a;
          minimal = λ b sub sat. (let in_b : is_in name_a b ≡ true = only_test (is_in name_a b) (sym (ap (list_all (satisfies b)) (without_b names false e)) ∙ sat) in
              true≢false (sym (ap (λ z. is_in z b) (in_one sub.more name_a ((same sub.more).0 sub.in_second)) ∙ in_b) ∙ sub.not_in_first));
        }

-- ---- a :- not a.
without_a : (names : List Name) (v : Bool) → is_in name_a names ≡ v → reduct names a_unless_a ≡ cond v [] (fact_a ∷ [])
without_a names true e = rw e refl
without_a names false e = rw e refl

pub negation_undoes : NegationUndoes
negation_undoes names h = at (is_in name_a names) refl
  where
    at : (v : Bool) → is_in name_a names ≡ v → ⊥
    at true e = true≢false (sym (needed a_unless_a names [] h (λ n. nothing_in n names) (ap (list_all (satisfies [])) (without_a names true e)) name_a e))
    at false e = true≢false (sym (only_test (is_in name_a names) (sym (ap (list_all (satisfies names)) (without_a names false e)) ∙ h.model)) ∙ e)

-- ---- a :- a.
pub no_self_support : ProgramsDoNotSupportThemselves
no_self_support names = (
  λ h n. (λ inside. needed a_if_a names [] h (λ k. nothing_in k names) refl n inside, nothing_in n names),
  λ same. record {
    model = always (is_in name_a names);
    minimal = λ b sub sat. true≢false (sym ((same sub.more).0 sub.in_second));
  },
)
  where
    always : (v : Bool) → ((not (v && true) || (v || false)) && true) ≡ true
    always true = refl
    always false = refl

-- ---- b :- a. with the head a
pub heads_are_facts : HeadsAreFacts
heads_are_facts (Theory fs) = (λ h. absurd h, λ (names, e, same). absurd (let no : Theory fs ≡ Atoms names = e in cc))
heads_are_facts (Atoms names) = (
  λ h. (
    names,
    refl,
    λ n. (let (in_a, in_b) = test_with_implied (is_in name_a names) (is_in name_b names) h.model in (
      λ inside. needed _ names (name_a ∷ name_b ∷ []) h (λ k. in_two k name_a name_b names in_a in_b) refl n inside,
      in_two n name_a name_b names in_a in_b,
    )),
  ),
  λ (others, e, same'). (let is : names ≡ others = (let e' : Atoms names ≡ Atoms others = e in cc) in let same : SameNames names (name_a ∷ name_b ∷ []) = subst (λ xs. SameNames xs (name_a ∷ name_b ∷ [])) (sym is) same' in
      let in_a : is_in name_a names ≡ true = (same name_a).1 refl in let in_b : is_in name_b names ≡ true = (same name_b).1 refl in record {
        model = rw (in_a, in_b) refl;
        minimal = λ b sub sat. (let (b_a, b_b) = test_with_implied (is_in name_a b) (is_in name_b b) sat in
            true≢false (sym (in_two sub.more name_a name_b b b_a b_b ((same sub.more).0 sub.in_second)) ∙ sub.not_in_first));
      }),
)

-- ---- default theories
pub defaults_are_grounded : DefaultsAreGrounded
defaults_are_grounded = (
  record { closed = (λ pre justs. pre, tt); least = λ f h. tt },
  λ h. true≢false (sym ((h.least [] (λ pre justs. pre, tt)).0 [] refl)),
)

p_follows : Entails (p ∷ []) p
p_follows a h = (and_parts (holds a p) true h).0

q_follows : Entails (q ∷ []) q
q_follows a h = (and_parts (holds a q) true h).0

pub defaults_may_choose : DefaultsMayChoose
defaults_may_choose = (
  record {
    closed = (λ pre justs. p_follows, (λ pre justs. absurd (justs.0 (λ a h. not_from_false (not (holds a p)) (not_from_true (holds a p) (p_follows a h)))), tt));
    least = λ f h. (h.0 (λ a g. refl) ((λ g. true≢false (sym (g (codes "p" ∷ []) refl))), tt), tt);
  },
  record {
    closed = (λ pre justs. absurd (justs.0 (λ a h. not_from_false (not (holds a q)) (not_from_true (holds a q) (q_follows a h)))), (λ pre justs. q_follows, tt));
    least = λ f h. (h.1.0 (λ a g. refl) ((λ g. true≢false (sym (g (codes "q" ∷ []) refl))), tt), tt);
  },
  λ h. true≢false (sym ((h.least [] (
    (λ pre justs. absurd (justs.0 (λ a g. not_from_false (not (holds a q)) (not_from_true (holds a q) (and_parts (holds a q) true (and_parts (holds a p) (holds a q && true) g).1).0)))),
    ((λ pre justs. absurd (justs.0 (λ a g. not_from_false (not (holds a p)) (not_from_true (holds a p) (and_parts (holds a p) (holds a q && true) g).0)))), tt),
  )).0 [] refl)),
)

told_follows : Entails (Not p ∷ []) (Not p)
told_follows a h = (and_parts (not (holds a p)) true h).0

pub told_facts_block : ToldFactsBlock
told_facts_block = (
  record { closed = (λ pre justs. absurd (justs.0 told_follows), (told_follows, tt)); least = λ f h. (h.1.0, tt) },
  λ h. true≢false (sym (h.closed.1.0 (codes "p" ∷ []) refl)),
)

-- ---- what a set of names believes
pub programs_believe_atoms : ProgramsBelieveAtoms
programs_believe_atoms names Truth = (λ h. absurd h, λ (n, is, inside). cc)
programs_believe_atoms names Falsity = (λ h. absurd h, λ (n, is, inside). cc)
programs_believe_atoms names (Atom k) = (λ h. (k, refl, h), λ (n, is, inside). let same : n ≡ k = cc in subst (λ (x : Name). is_in x names ≡ true) same inside)
programs_believe_atoms names (Not f) = (λ h. absurd h, λ (n, is, inside). cc)
programs_believe_atoms names (Joined c f g) = (λ h. absurd h, λ (n, is, inside). cc)

pub kinds_accept_their_sort : KindsAcceptTheirSort
kinds_accept_their_sort = (λ fs ns h. h, λ is ns h. h, λ rs fs h. h)

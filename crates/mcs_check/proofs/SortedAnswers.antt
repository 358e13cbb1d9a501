-- Answers that were judged, sorted into lists by their contexts.
use Rattle.std.proofs.Common.{◌≡◌, ◌≢◌, ◌<◌, ℕ, ◌+◌, nat_eq, Bool, true, false, cond, List, [], ◌∷◌, ◌++◌, map, filter, length, set, Some, Vec, Global, slice_get, refl, sym, ap, ◌∙◌, subst, inl, inr, arith, append-nil}
use Rattle.std.proofs.lemmas.Bool.{cases_eq}
use Rattle.std.proofs.lemmas.Bool.Decides.{nat_tests}
use Rattle.std.proofs.lemmas.List.{length-set, map-append}
use Rattle.std.proofs.lemmas.List.Elements.{filter-append}
use Rattle.std.proofs.lemmas.Option.{slice_get_within}
use Rattle.std.specs.List.{AllByRecursion}
use Rattle.mcs_base.proofs.Each.{all_get}
use Rattle.mcs_base.proofs.Written.{slice_get_set, slice_get-set_other}
use Rattle.mcs_system.specs.Plain.{System}
use Rattle.mcs_proof_text.specs.Answers.{Answer, answer_lines}
use Rattle.mcs_proof_text.specs.Proofs.{HasAcceptedCertificate}
use Rattle.mcs_check.specs.Answers.{CheckedAnswer, answered, answered_by, is_of, answers_to}
use Rattle.mcs_check.specs.Judging.{IsAnswerJudged, AreJudged, told, judged_to, AreSorted}
use Rattle.mcs_check.specs.declared.judging.Judged as code

abbrev Own : Type 0
Own = Vec (ℕ × Vec ℕ Global) Global

-- ---- the answers to questions of one context
more_to : (i : ℕ) (before : List code.Judged) (j : code.Judged) → judged_to i (before ++ j ∷ []) ≡ judged_to i before ++ map told (cond (nat_eq j.context i) (j ∷ []) [])
more_to i before j = ap (map told) (filter-append (λ (k : code.Judged). nat_eq k.context i) before (j ∷ [])) ∙ map-append told (filter (λ (k : code.Judged). nat_eq k.context i) before) (cond (nat_eq j.context i) (j ∷ []) [])

one_more : (i : ℕ) (before : List code.Judged) (j : code.Judged) → j.context ≡ i → judged_to i (before ++ j ∷ []) ≡ judged_to i before ++ told j ∷ []
one_more i before j here =
    let yes : nat_eq j.context i ≡ true = grind (arith, nat_tests) in
    more_to i before j ∙ ap (λ (b : Bool). judged_to i before ++ map told (cond b (j ∷ []) [])) yes

none_more : (i : ℕ) (before : List code.Judged) (j : code.Judged) → i ≢ j.context → judged_to i (before ++ j ∷ []) ≡ judged_to i before
none_more i before j other =
    let no : nat_eq j.context i ≡ false = grind (arith, nat_tests) in
    more_to i before j ∙ (ap (λ (b : Bool). judged_to i before ++ map told (cond b (j ∷ []) [])) no ∙ append-nil (judged_to i before))

-- ---- sorting
pub none_sorted : (n : ℕ) (lists : List Own) → length lists ≡ n → AllByRecursion (λ (own : Own). own.items ≡ []) lists → AreSorted n [] lists
none_sorted n lists many empty = record {
  many = many;
  own = λ i own is. ap (map answered) (all_get (λ (o : Own). o.items ≡ []) lists i own empty is);
}

pub put_sorted : (n : ℕ) (before : List code.Judged) (lists : List Own) (old new : Own) (one : ℕ × Vec ℕ Global) (j : code.Judged) → slice_get lists j.context ≡ Some old → new.items ≡ old.items ++ one ∷ [] → answered one ≡ told j
    → AreSorted n before lists → AreSorted n (before ++ j ∷ []) (set lists j.context new)
put_sorted n before lists old new one j was more same h = record {
  many = length-set lists j.context new ∙ h.many;
  own = λ i own is. elim (cases_eq i j.context) [
    | inl here ↦ (
        let it : own ≡ new = slice_get_set lists j.context new own (subst (λ (k : ℕ). slice_get (set lists j.context new) k ≡ Some own) here is) in
        ap (λ (o : Own). map answered o.items) it
        ∙ (ap (map answered) more ∙ (map-append answered old.items (one ∷ [])
        ∙ (ap (λ (os : List CheckedAnswer). os ++ answered one ∷ []) (h.own i old (ap (slice_get lists) here ∙ was)) ∙ (ap (λ (o : CheckedAnswer). judged_to i before ++ o ∷ []) same ∙ sym (one_more i before j (sym here)))))))
    | inr other ↦ h.own i own (sym (slice_get-set_other lists j.context i new other) ∙ is) ∙ sym (none_more i before j other)
  ];
}

-- ---- they are the answers
told_same : (m : System) (a : Answer) (line : ℕ) (j : code.Judged) → IsAnswerJudged m a line j → told j ≡ answered_by a
told_same m a line j h = ap (λ (x : ℕ). (let r : CheckedAnswer = record { active = x; outputs = j.outputs.items } in r)) h.active ∙ ap (λ (xs : List ℕ). (let r : CheckedAnswer = record { active = a.active; outputs = xs } in r)) h.outputs

pub same_answers : (m : System) (i n : ℕ) (answers : List Answer) (judged : List code.Judged) → AreJudged m n answers judged → judged_to i judged ≡ answers_to i answers
same_answers m i n [] [] are = refl
same_answers m i n [] (j ∷ judged) are = absurd are
same_answers m i n (a ∷ answers) [] are = absurd are
same_answers m i n (a ∷ answers) (j ∷ judged) are =
    ap (λ (k : ℕ). map told (cond (nat_eq k i) (j ∷ filter (λ (k : code.Judged). nat_eq k.context i) judged) (filter (λ (k : code.Judged). nat_eq k.context i) judged))) are.0.context
    ∙ by (nat_eq a.context i) (same_answers m i (n + length (answer_lines m a)) answers judged are.1)
  where
    by : (b : Bool) → judged_to i judged ≡ answers_to i answers → map told (cond b (j ∷ filter (λ (k : code.Judged). nat_eq k.context i) judged) (filter (λ (k : code.Judged). nat_eq k.context i) judged)) ≡ map answered_by (cond b (a ∷ filter (is_of i) answers) (filter (is_of i) answers))
    by true rest = ap (λ (o : CheckedAnswer). o ∷ judged_to i judged) (told_same m a n j are.0) ∙ ap (λ (os : List CheckedAnswer). answered_by a ∷ os) rest
    by false rest = rest

-- each is to a question of a context of the system
pub all_within : (m : System) (n contexts : ℕ) (answers : List Answer) (judged : List code.Judged) → contexts ≡ length m.contexts → AreJudged m n answers judged → AllByRecursion (HasAcceptedCertificate m) answers → AllByRecursion (λ (j : code.Judged). j.context < contexts) judged
all_within m n contexts [] [] many are right = tt
all_within m n contexts [] (j ∷ judged) many are right = absurd are
all_within m n contexts (a ∷ answers) [] many are right = absurd are
all_within m n contexts (a ∷ answers) (j ∷ judged) many are right =
    let less = slice_get_within m.contexts a.context right.0.context right.0.is_it in
    let same = are.0.context in
    (omega (arith, less, same, many), all_within m (n + length (answer_lines m a)) contexts answers judged many are.1 right.1)

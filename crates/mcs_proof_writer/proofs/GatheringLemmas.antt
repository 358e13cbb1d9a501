-- How the questions that solvers were asked, and the answers that they keep, make up a proof.
use Rattle.std.proofs.Common.{◌≡◌, ℕ, ◌+◌, ◌<◌, ◌↔◌, List, [], ◌∷◌, ◌++◌, map, length, get_or, take, Some, slice_get, refl, sym, ap, ◌∙◌, subst, inl, inr, ◌⊎◌, arith}
use Rattle.std.proofs.lemmas.Option.{same_Some, slice_get_within}
use Rattle.std.proofs.lemmas.Bool.{cases_order}
use Rattle.std.specs.List.{AllByRecursion, AllZip}
use Rattle.mcs_base.specs.Listings.{IsAmong, IsAscending, IsListing}
use Rattle.mcs_base.proofs.Among.{zip_among, among_zip}
use Rattle.mcs_base.proofs.Each.{all_among, all_from_among, all_get}
use Rattle.mcs_base.proofs.ListingLemmas.{IsListing-same, IsListing-append, IsListing-map}
use Rattle.mcs_base.proofs.Lists.{slice_get_below, slice_get_read_as}
use Rattle.mcs_base.proofs.Mapped.{map_push_as}
use Rattle.mcs_base.proofs.Written.{take_read}
use Rattle.mcs_base.proofs.Zipped.{zip_append}
use Rattle.mcs_system.specs.Plain.{System}
use Rattle.mcs_states.specs.Oracles.{OracleState}
use Rattle.mcs_proof_text.specs.Answers.{Answer}
use Rattle.mcs_proof_text.specs.Proofs.{HasAcceptedCertificate, IsAnswered, AreProof}
use Rattle.mcs_proof_text.specs.Reports.{AnswerBefore}
use Rattle.mcs_proof_writer.specs.Gathered.{question_with, QuestionBefore, IsAskedBelow, AreOfFirst, AddsAsked, KeepsCertificate, IsAnswerIn, IsAnswerOf, answer_of_shown, answers_of}
use Rattle.mcs_proof_writer.specs.Proving.{AreAsked}
use Rattle.mcs_proof_writer.specs.declared.asking.Question.{Question}
use Rattle.mcs_proof_writer.specs.declared.gathering.Shown.{Shown}

-- ---- questions of one context after another
-- those to context k
abbrev IsAskedOf : ℕ → OracleState → Question → Type 0
IsAskedOf k o q = (x : ℕ) × IsAmong x o.journal × (q ≡ question_with k x)

asked_more : (os : List OracleState) (k : ℕ) (o : OracleState) → slice_get os k ≡ Some o → (q : Question) → (IsAskedBelow os k q ⊎ IsAskedOf k o q) ↔ IsAskedBelow os (k + 1) q
asked_more os k o at q = (
  λ h. elim h [
    | inl below ↦ (omega (arith, below.0), below.1)
    | inr own ↦ (
        let (x, among, is) = own in
        let same : k ≡ q.context = sym (ap (λ (p : Question). p.context) is) in
        let alike : x ≡ q.active = sym (ap (λ (p : Question). p.active) is) in
        (omega (arith, same), (o, subst (λ (i : ℕ). slice_get os i ≡ Some o) same at, subst (λ (y : ℕ). IsAmong y o.journal) alike among)))
  ],
  λ (less, (p, at', among)). elim (cases_order q.context k) [
    | inl last ↦ inr (
        let same : p ≡ o = same_Some p o (sym at' ∙ ap (slice_get os) last ∙ at) in
        (q.active, subst (λ (r : OracleState). IsAmong q.active r.journal) same among, ap (λ (i : ℕ). question_with i q.active) last))
    | inr other ↦ elim other [ inl below ↦ inl (below, (p, at', among)) | inr above ↦ absurd (omega arith) ]
  ],
)

apart : (os : List OracleState) (k : ℕ) (o : OracleState) (a b : Question) → IsAskedBelow os k a → IsAskedOf k o b → QuestionBefore a b
apart os k o a b below (x, among, is) = let same : b.context ≡ k = ap (λ (p : Question). p.context) is in inl (omega (arith, below.0, same))

pub adds_asked : (i : ℕ) (o : OracleState) (old new : List Question) (sets lent : List ℕ) → lent ≡ sets → IsListing (λ x. IsAmong x o.journal) (λ a b. a < b) sets → new ≡ old ++ map (question_with i) lent → AddsAsked i o old new
adds_asked i o old new sets lent same asked after = record { sets = sets; asked = asked; after = after ∙ ap (λ (xs : List ℕ). old ++ map (question_with i) xs) same }

-- those of one more oracle
first_more : (os : List OracleState) (k : ℕ) (o : OracleState) (old new : List Question) → slice_get os k ≡ Some o → AreOfFirst os k old → AddsAsked k o old new → AreOfFirst os (k + 1) new
first_more os k o old new at first adds =
    subst (AreOfFirst os (k + 1)) (sym adds.after)
    (IsListing-same QuestionBefore (λ q. IsAskedBelow os k q ⊎ IsAskedOf k o q) (IsAskedBelow os (k + 1)) (old ++ map (question_with k) adds.sets) (asked_more os k o at)
    (IsListing-append QuestionBefore (IsAskedBelow os k) (IsAskedOf k o) old (map (question_with k) adds.sets) (apart os k o) first
    (IsListing-map (question_with k) (λ (a b : ℕ). a < b) QuestionBefore (λ x y less. inr (refl, less)) (λ x. IsAmong x o.journal) adds.sets adds.asked)))

pub first_more_at : (os : List OracleState) (k : ℕ) (o : OracleState) (old new : List Question) → k < length os → o ≡ get_or os k o → AreOfFirst os k old → AddsAsked k o old new → AreOfFirst os (k + 1) new
first_more_at os k o old new less here first adds = first_more os k o old new (slice_get_read_as os os k o refl less here) first adds

-- ---- answers
-- the context of a question that is kept is one of the oracles'
pub kept_within : (os : List OracleState) (questions : List Question) (k : ℕ) (q : Question) → AllByRecursion (KeepsCertificate os) questions → k < length questions → q ≡ get_or questions k q → q.context < length os
kept_within os questions k q kept less here = let (o, at, is) = all_get (KeepsCertificate os) questions k q kept (slice_get_read_as questions questions k q refl less here) in slice_get_within os q.context o at

-- one answer more
pub answers_more : (os : List OracleState) (questions : List Question) (k : ℕ) (q : Question) (o : OracleState) (now now' : List Shown) (s : Shown) → k < length questions → q ≡ get_or questions k q → q.context < length os → o ≡ get_or os q.context o
    → now' ≡ now ++ s ∷ [] → AllZip (IsAnswerOf os) (take k questions) (answers_of now) → IsAnswerIn o.system q (answer_of_shown s) → AllZip (IsAnswerOf os) (take (k + 1) questions) (answers_of now')
answers_more os questions k q o now now' s less here less' here' pushed before is =
    subst (λ (qs : List Question). AllZip (IsAnswerOf os) qs (answers_of now')) (sym (take_read questions k q less here))
    (subst (AllZip (IsAnswerOf os) (take k questions ++ q ∷ [])) (sym (map_push_as answer_of_shown now now' s pushed))
    (zip_append (IsAnswerOf os) (take k questions) (q ∷ []) (answers_of now) (answer_of_shown s ∷ []) before ((o, slice_get_read_as os os q.context o refl less' here', is), tt)))

module _ (m : System) (level : ℕ) (os : List OracleState) (asked : AreAsked m level os) where
  pub questions_kept : (questions : List Question) → AreOfFirst os (length m.contexts) questions → AllByRecursion (KeepsCertificate os) questions
  questions_kept questions listed = all_from_among (KeepsCertificate os) questions (λ q among.
      let (less, (o, at, there)) = (listed.exactly q).0 among in
      (o, at, record { context = (asked.own q.context o at).1; keep = asked.keep q.context o at; asked = there }))

  right_in : (q : Question) (a : Answer) → IsAnswerOf os q a → IsAnswerIn m q a
  right_in q a (o, at, is) = subst (λ (n : System). IsAnswerIn n q a) (asked.own q.context o at).0 is

  each_right : (questions : List Question) (answers : List Answer) → AllZip (IsAnswerOf os) questions answers → AllByRecursion (HasAcceptedCertificate m) answers
  each_right questions answers each = all_from_among (HasAcceptedCertificate m) answers (λ a among.
      let (q, there, is) = among_zip (IsAnswerOf os) questions answers each a among in (right_in q a is).right)

  answers_ascend : (questions : List Question) (answers : List Answer) → IsAscending QuestionBefore questions → AllZip (IsAnswerOf os) questions answers → IsAscending AnswerBefore answers
  answers_ascend [] [] up each = tt
  answers_ascend [] (a ∷ answers) up each = absurd each
  answers_ascend (q ∷ questions) [] up each = absurd each
  answers_ascend (q ∷ questions) (a ∷ answers) up each = (
    all_from_among (AnswerBefore a) answers (λ b among.
        let (p, there, is) = among_zip (IsAnswerOf os) questions answers each.1 b among in
        ordered q p a b (right_in q a each.0) (right_in p b is) (all_among (QuestionBefore q) questions p up.0 there)),
    answers_ascend questions answers up.1 each.1,
  )
    where
      ordered : (q p : Question) (a b : Answer) → IsAnswerIn m q a → IsAnswerIn m p b → QuestionBefore q p → AnswerBefore a b
      ordered q p a b here there (inl less) = inl (omega (arith, here.context_is, there.context_is, less))
      ordered q p a b here there (inr both) = inr (here.context_is ∙ both.0 ∙ sym there.context_is, omega (arith, here.active_is, there.active_is, both.1))

  answered : (questions : List Question) (answers : List Answer) → AllZip (IsAnswerOf os) questions answers → (i x : ℕ) → IsAnswered answers i x ↔ IsAmong (question_with i x) questions
  answered questions answers each i x = (
    λ (a, among, c, r). (
        let (q, there, is) = among_zip (IsAnswerOf os) questions answers each a among in
        let here = right_in q a is in
        let same : q ≡ question_with i x = question_is q i x (sym here.context_is ∙ c) (sym here.active_is ∙ r) in
        subst (λ (p : Question). IsAmong p questions) same there),
    λ there. (let (a, among, is) = zip_among (IsAnswerOf os) questions answers each (question_with i x) there in
        let here = right_in (question_with i x) a is in (a, among, here.context_is, here.active_is)),
  )
    where
      question_is : (q : Question) (i x : ℕ) → q.context ≡ i → q.active ≡ x → q ≡ question_with i x
      question_is q i x c r = ap (λ (j : ℕ). question_with j q.active) c ∙ ap (question_with i) r

  -- they are a proof
  answers_prove : (questions : List Question) (answers : List Answer) → AreOfFirst os (length m.contexts) questions → AllZip (IsAnswerOf os) questions answers → AreProof m level answers
  answers_prove questions answers listed each = record {
    ascending = answers_ascend questions answers listed.ascending each;
    right = each_right questions answers each;
    questions = λ i x. (
      λ h. (let (less, (o, at, among)) = (listed.exactly (question_with i x)).0 ((answered questions answers each i x).0 h) in (less, ((asked.asked i o at).exactly x).0 among)),
      λ (less, question). (let (o, at) = slice_get_below os i (omega (arith, less, asked.one_each)) in
          (answered questions answers each i x).1 ((listed.exactly (question_with i x)).1 (less, (o, at, ((asked.asked i o at).exactly x).1 question)))),
    );
  }

  -- of lists that are lent
  pub lent_prove : (questions lent : List Question) (shown lent' : List Shown) → lent ≡ questions → lent' ≡ shown → AreOfFirst os (length m.contexts) questions → AllZip (IsAnswerOf os) lent (answers_of shown) → AreProof m level (answers_of lent')
  lent_prove questions lent shown lent' same same' listed each =
      answers_prove lent (answers_of lent') (subst (AreOfFirst os (length m.contexts)) (sym same) listed) (subst (λ (ss : List Shown). AllZip (IsAnswerOf os) lent (answers_of ss)) (sym same') each)

-- The answers of one context, and the oracle that holds them.
use Rattle.std.proofs.Common.{◌≡◌, ℕ, ◌+◌, ◌<◌, true, List, map, filter, length, Some, Vec, Global, slice_get, refl, sym, ap, ◌∙◌, subst, inl, inr, arith}
use Rattle.std.proofs.lemmas.Bool.Decides.{nat_tests}
use Rattle.std.proofs.lemmas.List.FromFn.{length-map-range_with_len, get_or-map-range_with_len}
use Rattle.std.proofs.lemmas.Option.{slice_get_within, same_Some}
use Rattle.std.proofs.lemmas.Simd.{map-map}
use Rattle.std.specs.List.{AllByRecursion}
use Rattle.mcs_sets.specs.Orders.{StateBefore}
use Rattle.mcs_base.specs.Listings.{IsAmong, IsAscending, IsListing}
use Rattle.mcs_base.proofs.Among.{among_map, map_among, among_filter, filter_among}
use Rattle.mcs_base.proofs.Ascending.{ascending_as, ascending_filter, ascending_map}
use Rattle.mcs_base.proofs.Each.{all_among, all_from_among}
use Rattle.mcs_base.proofs.Mapped.{all_from_map}
use Rattle.mcs_base.proofs.Lists.{slice_get_read_as}
use Rattle.mcs_system.specs.Faults.{IsValid}
use Rattle.mcs_system.specs.Plain.{System}
use Rattle.mcs_system.specs.Systems.{IsAcceptedPart}
use Rattle.mcs_states.specs.Oracles.{OracleState}
use Rattle.mcs_check.specs.Certified.{AreAcceptedAnswers, AreAscendingSets, sets_of}
use Rattle.mcs_asking.proofs.AnswerLemmas.{accepted_right}
use Rattle.mcs_proof_text.specs.Answers.{Answer}
use Rattle.mcs_proof_text.specs.Reports.{AnswerBefore}
use Rattle.mcs_proof_text.specs.Proofs.{HasAcceptedCertificate, IsAnswered}
use Rattle.mcs_check.specs.Answers.{CheckedAnswer, answered, answered_by, is_of, answers_to, sets_to, oracle_for, oracles_for}

-- ---- which are of the context
of_context : (i : ℕ) (a : Answer) → is_of i a ≡ true → a.context ≡ i
of_context i a e = grind (arith, nat_tests)

is_of_it : (i : ℕ) (a : Answer) → a.context ≡ i → is_of i a ≡ true
is_of_it i a e = grind (arith, nat_tests)

-- ---- what holds of them
module _ (m : System) (i : ℕ) (answers : List Answer) where
  IsListed : CheckedAnswer → Type 0
  IsListed a = IsListing (IsAcceptedPart m i a.active) StateBefore a.outputs

  own_listed : IsValid m → AllByRecursion (HasAcceptedCertificate m) answers → AllByRecursion IsListed (answers_to i answers)
  unfolding IsListed
  own_listed valid right = all_from_among IsListed (answers_to i answers) (λ y among.
      let (a, is_there, same) = map_among answered_by y (filter (is_of i) answers) among in
      let (there, test) = filter_among (is_of i) a answers is_there in
      let shown = accepted_right m a.context a.active a.outputs a.cert valid (all_among (HasAcceptedCertificate m) answers a right there) in
      subst IsListed (sym same) (subst (λ (j : ℕ). IsListing (IsAcceptedPart m j a.active) StateBefore a.outputs) (of_context i a test) shown))

  own_ascending : IsAscending AnswerBefore answers → IsAscending (λ a b. a < b) (sets_to i answers)
  own_ascending up =
      ascending_map (λ (a b : CheckedAnswer). a.active < b.active) (λ (a : CheckedAnswer). a.active) (λ (a b : ℕ). a < b) (λ x y less. less) (answers_to i answers)
      (ascending_map (λ (a b : Answer). a.active < b.active) answered_by (λ (a b : CheckedAnswer). a.active < b.active) (λ x y less. less) (filter (is_of i) answers)
      (ascending_as AnswerBefore (λ (a b : Answer). a.active < b.active) (filter (is_of i) answers) later (ascending_filter AnswerBefore (is_of i) answers up)))
    where
      later : (x y : Answer) → IsAmong x (filter (is_of i) answers) → IsAmong y (filter (is_of i) answers) → AnswerBefore x y → x.active < y.active
      later x y here there (inl less) =
          let e = of_context i x (filter_among (is_of i) x answers here).1 in
          let e' = of_context i y (filter_among (is_of i) y answers there).1 in
          absurd (omega arith)
      later x y here there (inr (same, less)) = less

  module _ (own : List (ℕ × Vec ℕ Global)) (are : map answered own ≡ answers_to i answers) where
    pub own_sets : sets_of own ≡ sets_to i answers
    own_sets = sym (map-map (λ (a : CheckedAnswer). a.active) answered own) ∙ ap (map (λ (a : CheckedAnswer). a.active)) are

    pub own_right : IsValid m → AllByRecursion (HasAcceptedCertificate m) answers → AreAcceptedAnswers m i own
    unfolding IsListed
    own_right valid right = all_from_map IsListed answered own (subst (AllByRecursion IsListed) (sym are) (own_listed valid right))

    pub own_in_order : IsAscending AnswerBefore answers → AreAscendingSets own
    own_in_order up = subst (IsAscending (λ a b. a < b)) (sym own_sets) (own_ascending up)

  -- ---- which questions are answered
  pub set_answered : (x : ℕ) → IsAmong x (sets_to i answers) → IsAnswered answers i x
  set_answered x among =
      let (b, there, same) = map_among (λ (a : CheckedAnswer). a.active) x (answers_to i answers) among in
      let (a, is_there, e) = map_among answered_by b (filter (is_of i) answers) there in
      let (here, test) = filter_among (is_of i) a answers is_there in
      (a, here, of_context i a test, sym (same ∙ ap (λ (z : CheckedAnswer). z.active) e))

  pub answered_set : (x : ℕ) → IsAnswered answers i x → IsAmong x (sets_to i answers)
  answered_set x (a, here, e, same) = subst (λ (y : ℕ). IsAmong y (sets_to i answers)) same
      (among_map (λ (b : CheckedAnswer). b.active) (answered_by a) (answers_to i answers) (among_map answered_by a (filter (is_of i) answers) (among_filter (is_of i) a answers here (is_of_it i a e))))

-- ---- the oracles
module _ (m : System) (answers : List Answer) where
  pub oracles_each : length (oracles_for m answers) ≡ length m.contexts
  oracles_each = length-map-range_with_len (oracle_for m answers) 0 (length m.contexts)

  pub oracle_there : (i : ℕ) → i < length m.contexts → slice_get (oracles_for m answers) i ≡ Some (oracle_for m answers i)
  oracle_there i less =
      let zeroth : 0 + i ≡ i = omega arith in
      slice_get_read_as (oracles_for m answers) (oracles_for m answers) i (oracle_for m answers i) refl (omega (arith, less, oracles_each))
      (sym (get_or-map-range_with_len (oracle_for m answers) 0 (length m.contexts) i i (oracle_for m answers i) less zeroth))

  pub oracle_is : (i : ℕ) (o : OracleState) → slice_get (oracles_for m answers) i ≡ Some o → o ≡ oracle_for m answers i
  oracle_is i o is =
      let within : i < length m.contexts = omega (arith, slice_get_within (oracles_for m answers) i o is, oracles_each) in
      same_Some _ _ (sym is ∙ oracle_there i within)

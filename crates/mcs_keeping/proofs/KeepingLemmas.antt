-- Answers that are kept with their certificates, as questions are added and answers are moved.
use Rattle.std.proofs.Common.{◌≡◌, ℕ, ◌<◌, Bool, false, List, [], ◌∷◌, ◌++◌, Some, None, refl, sym, ap, subst, inl, inr, ◌⊎◌}
use Rattle.std.proofs.lemmas.Bool.{cases_eq}
use Rattle.std.proofs.lemmas.Cmp.{ranked}
use Rattle.std.specs.BTreeMap.{BTreeMap, get, is_at, IsEmpty, IsUnchanged}
use Rattle.std.specs.Map.{lookup}
use Rattle.std.specs.Ordering.{MatchOrdering, is_eq, nat_cmp}
use Rattle.std.specs.Prelude.{Option, MatchOption}
use Rattle.std.specs.declared.cmp.Ordering.{Ordering}
use Rattle.std.specs.declared.cmp.Ordering.TheVariants.{Less, Equal, Greater}
use Rattle.mcs_sets.specs.Orders.{StateBefore}
use Rattle.mcs_base.specs.Listings.{IsAmong, IsListing}
use Rattle.mcs_base.proofs.Among.{among_push}
use Rattle.mcs_system.specs.Plain.{System}
use Rattle.mcs_system.specs.Systems.{IsAcceptedPart}
use Rattle.mcs_asking.specs.Certificates.{plain_of, IsAccepted}
use Rattle.mcs_asking.specs.declared.certificate.AnswerCert as code
use Rattle.mcs_keeping.specs.Certified.{IsCertified}
use Rattle.mcs_keeping.specs.Keeping.{IsKeptFor, IsKeptAt, AreAnswersKept, IsKeptNow, HasKept, HasMoved, IsLeftAt, AreAnswersLeft}
use Rattle.mcs_keeping.specs.declared.keeping.Kept.{Kept}

-- ---- what is kept
apart_at : (x y : ℕ) → ¬ (x ≡ y) → is_at (nat_cmp x) y ≡ false
apart_at x y differ = at (nat_cmp x y) (ranked x y _ refl)
  where
    at : (o : Ordering) → MatchOrdering o (x < y) (x ≡ y) (y < x) → is_eq o ≡ false
    at Less h = refl
    at Equal h = absurd (differ h)
    at Greater h = refl

module _ (m : System) (i : ℕ) (keep : Bool) where
  pub none_kept : (kept : BTreeMap ℕ Kept) → IsEmpty kept → AreAnswersKept m i keep [] kept
  none_kept kept empty x = subst (λ (es : List (ℕ × Kept)). IsKeptAt m i keep [] x (lookup (is_at (nat_cmp x)) es)) (sym empty) (inr (λ h. h))

  pub still_kept : (journal : List ℕ) (old new : BTreeMap ℕ Kept) → IsUnchanged old new → AreAnswersKept m i keep journal old → AreAnswersKept m i keep journal new
  still_kept journal old new same are x = subst (λ (es : List (ℕ × Kept)). IsKeptAt m i keep journal x (lookup (is_at (nat_cmp x)) es)) (sym same) (are x)

  -- what is kept for y, where no answers are kept, or x is another one
  later : (journal : List ℕ) (x y : ℕ) (kept : Option Kept) → (keep ≡ false) ⊎ (¬ (x ≡ y)) → IsKeptAt m i keep journal y kept → IsKeptAt m i keep (journal ++ x ∷ []) y kept
  later journal x y None (inl off) h = inl off
  later journal x y None (inr differ) (inl off) = inl off
  later journal x y None (inr differ) (inr none) = inr (λ among. elim ((among_push y journal x).0 among) [ inl before ↦ none before | inr e ↦ differ (sym e) ])
  later journal x y (Some k) why h = (h.0, (among_push y journal x).1 (inl h.1), h.2)

  shown_now : (x : ℕ) (outputs : List ℕ) (cert : code.AnswerCert) (old new : BTreeMap ℕ Kept) (now : IsKeptNow x outputs cert old new) → IsAccepted m i x outputs (plain_of cert) → IsListing (IsAcceptedPart m i x) StateBefore outputs → IsKeptFor m i x now.kept
  shown_now x outputs cert old new now accepted listing = (
    subst (λ (xs : List ℕ). IsAccepted m i x xs (plain_of now.kept.cert)) (sym now.outputs_are) (subst (λ (c : code.AnswerCert). IsAccepted m i x outputs (plain_of c)) (sym now.cert_is) accepted),
    subst (λ (xs : List ℕ). IsListing (IsAcceptedPart m i x) StateBefore xs) (sym now.outputs_are) listing,
  )

  -- after one more question
  pub kept_more : (journal : List ℕ) (x : ℕ) (outputs : List ℕ) (cert : Option code.AnswerCert) (old new : BTreeMap ℕ Kept) → HasKept x outputs cert old new → IsCertified keep (IsAccepted m i x outputs) cert
      → IsListing (IsAcceptedPart m i x) StateBefore outputs → AreAnswersKept m i keep journal old → AreAnswersKept m i keep (journal ++ x ∷ []) new
  kept_more journal x outputs None old new same off listing are y = later journal x y (get nat_cmp new y) (inl off) (still_kept journal old new same are y)
  kept_more journal x outputs (Some cert) old new now shown listing are y = elim (cases_eq x y) [
    | inl same ↦ subst (λ (z : ℕ). IsKeptAt m i keep (journal ++ x ∷ []) z (get nat_cmp new z)) same
        (subst (λ (kept : Option Kept). IsKeptAt m i keep (journal ++ x ∷ []) x kept) (sym now.there) (shown.0, (among_push x journal x).1 (inr refl), shown_now x outputs cert old new now shown.1 listing))
    | inr differ ↦ subst (λ (kept : Option Kept). IsKeptAt m i keep (journal ++ x ∷ []) y kept) (sym (now.others y (apart_at x y differ))) (later journal x y (get nat_cmp old y) (inr differ) (are y))
  ]

  -- ---- answers that are moved
  -- what is kept for y, where x is in the journal already
  again : (journal : List ℕ) (x y : ℕ) (kept : Option Kept) → IsAmong x journal → IsKeptAt m i keep journal y kept → IsKeptAt m i keep (journal ++ x ∷ []) y kept
  again journal x y None there (inl off) = inl off
  again journal x y None there (inr none) = inr (λ among. elim ((among_push y journal x).0 among) [ inl before ↦ none before | inr e ↦ none (subst (λ (z : ℕ). IsAmong z journal) (sym e) there) ])
  again journal x y (Some k) there h = (h.0, (among_push y journal x).1 (inl h.1), h.2)

  -- after the move of the answer to x, or where there is none
  kept_then : (journal asked : List ℕ) (x : ℕ) (answer : Option Kept) (old new : BTreeMap ℕ Kept) → IsAmong x asked → MatchOption answer (IsUnchanged old new) (λ k. IsKeptNow x k.outputs.items k.cert old new)
      → IsLeftAt m i keep journal asked x answer → AreAnswersKept m i keep journal old → AreAnswersKept m i keep (journal ++ x ∷ []) new
  kept_then journal asked x None old new among same (inl off) are y = later journal x y (get nat_cmp new y) (inl off) (still_kept journal old new same are y)
  kept_then journal asked x None old new among same (inr (inl none)) are y = absurd (none among)
  kept_then journal asked x None old new among same (inr (inr there)) are y = again journal x y (get nat_cmp new y) there (still_kept journal old new same are y)
  kept_then journal asked x (Some k) old new among now left are y = kept_more journal x k.outputs.items (Some k.cert) old new now (left.0, left.1.0) left.1.1 are y

  -- what is left for y, after one more question
  left_later : (journal asked : List ℕ) (x y : ℕ) (answer : Option Kept) → IsLeftAt m i keep journal asked y answer → IsLeftAt m i keep (journal ++ x ∷ []) asked y answer
  left_later journal asked x y None (inl off) = inl off
  left_later journal asked x y None (inr (inl none)) = inr (inl none)
  left_later journal asked x y None (inr (inr there)) = inr (inr ((among_push y journal x).1 (inl there)))
  left_later journal asked x y (Some k) h = h

  left_then : (journal asked : List ℕ) (x : ℕ) (old others new rest : BTreeMap ℕ Kept) → HasMoved x old others new rest → AreAnswersLeft m i keep journal asked others → AreAnswersLeft m i keep (journal ++ x ∷ []) asked rest
  left_then journal asked x old others new rest moved left y = elim (cases_eq x y) [
    | inl same ↦ subst (λ (z : ℕ). IsLeftAt m i keep (journal ++ x ∷ []) asked z (get nat_cmp rest z)) same
        (subst (λ (answer : Option Kept). IsLeftAt m i keep (journal ++ x ∷ []) asked x answer) (sym moved.gone) (inr (inr ((among_push x journal x).1 (inr refl)))))
    | inr differ ↦ subst (λ (answer : Option Kept). IsLeftAt m i keep (journal ++ x ∷ []) asked y answer) (sym (moved.left y (apart_at x y differ))) (left_later journal asked x y (get nat_cmp others y) (left y))
  ]

  -- after one more question
  pub moved_more : (journal asked : List ℕ) (x : ℕ) (old others new rest : BTreeMap ℕ Kept) → IsAmong x asked → HasMoved x old others new rest → AreAnswersKept m i keep journal old × AreAnswersLeft m i keep journal asked others
      → AreAnswersKept m i keep (journal ++ x ∷ []) new × AreAnswersLeft m i keep (journal ++ x ∷ []) asked rest
  moved_more journal asked x old others new rest among moved are =
      (kept_then journal asked x (get nat_cmp others x) old new among moved.given (are.1 x) are.0, left_then journal asked x old others new rest moved are.1)

  left_first : (journal asked : List ℕ) (x : ℕ) (answer : Option Kept) → IsKeptAt m i keep asked x answer → IsLeftAt m i keep journal asked x answer
  left_first journal asked x None (inl off) = inl off
  left_first journal asked x None (inr none) = inr (inl none)
  left_first journal asked x (Some k) h = (h.0, h.2)

  -- before any was moved
  pub all_left : (journal asked : List ℕ) (others : BTreeMap ℕ Kept) → AreAnswersKept m i keep asked others → AreAnswersLeft m i keep journal asked others
  all_left journal asked others are x = left_first journal asked x (get nat_cmp others x) (are x)

-- ---- the move of an answer
pub none_moved : (x : ℕ) (kept others rest : BTreeMap ℕ Kept) → get nat_cmp others x ≡ None → IsUnchanged others rest → HasMoved x kept others kept rest
none_moved x kept others rest none same = record {
  given = subst (λ (answer : Option Kept). MatchOption answer (IsUnchanged kept kept) (λ k. IsKeptNow x k.outputs.items k.cert kept kept)) (sym none) refl;
  gone = subst (λ (es : List (ℕ × Kept)). lookup (is_at (nat_cmp x)) es ≡ None) (sym same) none;
  left = λ y apart. ap (lookup (is_at (nat_cmp y))) same;
}

pub one_moved : (x : ℕ) (k : Kept) (old others new rest : BTreeMap ℕ Kept) → get nat_cmp others x ≡ Some k → get nat_cmp rest x ≡ None → ((y : ℕ) → is_at (nat_cmp x) y ≡ false → get nat_cmp rest y ≡ get nat_cmp others y)
    → get nat_cmp new x ≡ Some k → ((y : ℕ) → is_at (nat_cmp x) y ≡ false → get nat_cmp new y ≡ get nat_cmp old y) → HasMoved x old others new rest
one_moved x k old others new rest had gone left there apart = record {
  given = subst (λ (answer : Option Kept). MatchOption answer (IsUnchanged old new) (λ k. IsKeptNow x k.outputs.items k.cert old new)) (sym had)
      (record { kept = k; outputs_are = refl; cert_is = refl; there = there; others = apart });
  gone = gone;
  left = left;
}

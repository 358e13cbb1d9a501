-- A clause with one more literal.
use Rattle.std.proofs.Common.{◌≡◌, ℕ, ◌<◌, ◌≤◌, zero, suc, List, [], ◌∷◌, ◌++◌, ◌⊎◌, inl, inr, sym, ap, ◌∙◌, subst, arith, Bool, true, false, true≢false, ℤ, pos, length, take, drop, get_or}
use Rattle.mcs_base.specs.Listings.{IsAscending, IsAmong, IsListing}
use Rattle.mcs_base.proofs.ListingLemmas.{all_among, all_from_among}
use Rattle.mcs_base.proofs.Among.{among_at, among_insert}
use Rattle.mcs_trace.specs.Clauses.{IsLiteral, IsClause, place, LiteralBefore}
use Rattle.mcs_trace.proofs.OrderLemmas.{place-injective}

ascending-insert : (l : ℤ) (c : List ℤ) (i : ℕ) → IsAscending LiteralBefore c → ((k : ℕ) → k < i → place (get_or c k (pos 0)) < place l) → (i < length c → place l < place (get_or c i (pos 0))) → IsAscending LiteralBefore (take i c ++ l ∷ drop i c)
ascending-insert l [] zero up below above = (tt, tt)
ascending-insert l (x ∷ c) zero up below above =
    let first : place l < place x = above (omega arith) in
    ((first, all_from_among (LiteralBefore l) c (λ k among. let later : place x < place k = all_among (LiteralBefore x) c k up.0 among in omega arith)), up)
ascending-insert l [] (suc i) up below above = (tt, tt)
ascending-insert l (x ∷ c) (suc i) up below above =
    let first : place x < place l = below 0 (omega arith) in (
      all_from_among (LiteralBefore x) (take i c ++ l ∷ drop i c) (λ k among. elim ((among_insert l c i k).0 among) [
        | inl e ↦ let same : place k ≡ place l = ap place e in omega arith
        | inr old ↦ all_among (LiteralBefore x) c k up.0 old
      ]),
      ascending-insert l c i up.1 (λ k less. below (suc k) (omega arith)) (λ less. above (omega arith)),
    )

pub clause-insert : (l : ℤ) (c : List ℤ) (i : ℕ) → IsLiteral l → IsClause c → ((k : ℕ) → k < i → place (get_or c k (pos 0)) < place l) → (i < length c → place l < place (get_or c i (pos 0)))
    → IsClause (take i c ++ l ∷ drop i c) × IsListing (λ k. (k ≡ l) ⊎ IsAmong k c) LiteralBefore (take i c ++ l ∷ drop i c)
clause-insert l c i is h below above =
    let up = ascending-insert l c i h.1 below above in (
      (all_from_among IsLiteral (take i c ++ l ∷ drop i c) (λ k among. literal k ((among_insert l c i k).0 among)), up),
      record { exactly = among_insert l c i; ascending = up },
    )
  where
    literal : (k : ℤ) → (k ≡ l) ⊎ IsAmong k c → IsLiteral k
    literal k (inl e) = subst IsLiteral (sym e) is
    literal k (inr old) = all_among IsLiteral c k h.0 old

pub clause-has : (l : ℤ) (c : List ℤ) → IsClause c → IsAmong l c → IsListing (λ k. (k ≡ l) ⊎ IsAmong k c) LiteralBefore c
clause-has l c h among = record { exactly = λ k. (λ a. inr a, λ o. elim o [ inl e ↦ subst (λ (x : ℤ). IsAmong x c) (sym e) among | inr a ↦ a ]); ascending = h.1 }

-- ---- what the code's calls tell, of the list s and the literal m that it read
pub inserted : (l m : ℤ) (c s s' new : List ℤ) (i : ℕ) (b : Bool) → m ≡ l → s ≡ c → s' ≡ c → IsLiteral l → IsClause c
    → ((k : ℕ) → k < i → place (get_or s k (pos 0)) < place m) → (i < length s → place m ≤ place (get_or s i (pos 0)))
    → ((i < length s') × (get_or s' i (pos 0) ≡ m) → b ≡ true) → b ≡ false → new ≡ take i c ++ m ∷ drop i c
    → IsClause new × IsListing (λ k. (k ≡ l) ⊎ IsAmong k c) LiteralBefore new
inserted l m c s s' new i b read same same' is h below above here not e =
    let below' : (k : ℕ) → k < i → place (get_or c k (pos 0)) < place l = λ k less. subst (λ (x : List ℤ). place (get_or x k (pos 0)) < place l) same (subst (λ (y : ℤ). place (get_or s k (pos 0)) < place y) read (below k less)) in
    let above' : i < length c → place l ≤ place (get_or c i (pos 0)) = subst (λ (x : List ℤ). i < length x → place l ≤ place (get_or x i (pos 0))) same (subst (λ (y : ℤ). i < length s → place y ≤ place (get_or s i (pos 0))) read above) in
    let here' : (i < length c) × (get_or c i (pos 0) ≡ l) → b ≡ true = subst (λ (x : List ℤ). (i < length x) × (get_or x i (pos 0) ≡ l) → b ≡ true) same' (subst (λ (y : ℤ). (i < length s') × (get_or s' i (pos 0) ≡ y) → b ≡ true) read here) in
    let strict : i < length c → place l < place (get_or c i (pos 0)) = λ less. apart (place l) (place (get_or c i (pos 0))) (above' less)
    (λ equal. true≢false (sym (here' (less, place-injective (get_or c i (pos 0)) l (sym equal))) ∙ not)) in
    subst (λ (x : List ℤ). IsClause x × IsListing (λ k. (k ≡ l) ⊎ IsAmong k c) LiteralBefore x) (sym (e ∙ ap (λ y. take i c ++ y ∷ drop i c) read)) (clause-insert l c i is h below' strict)
  where
    apart : (p q : ℕ) → p ≤ q → (p ≡ q → ⊥) → p < q
    apart p q at_most differ = omega arith

pub had : (l m : ℤ) (c s' : List ℤ) (i : ℕ) → m ≡ l → s' ≡ c → IsClause c → (i < length s') × (get_or s' i (pos 0) ≡ m) → IsListing (λ k. (k ≡ l) ⊎ IsAmong k c) LiteralBefore c
had l m c s' i read same' h (less, e) =
    clause-has l c h (subst (λ (x : List ℤ). IsAmong l x) same' (subst (λ (y : ℤ). IsAmong y s') (e ∙ read) (among_at s' i (pos 0) less)))

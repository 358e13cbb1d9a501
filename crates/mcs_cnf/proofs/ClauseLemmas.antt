-- Clauses from literals in any order.
use Rattle.std.proofs.Common.{◌≡◌, ℕ, ◌+◌, ◌<◌, ◌≤◌, Bool, true, false, ltb, eqb, cond, List, [], ◌∷◌, ◌⊎◌, ◌↔◌, inl, inr, length, take, get_or, arith, refl, sym, ◌∙◌, subst, ℤ, pos}
use Rattle.std.proofs.lemmas.Bool.Decides.{nat_tests}
use Rattle.std.proofs.lemmas.List.{take_all, get_or_default}
use Rattle.std.specs.List.{AllByRecursion}
use Rattle.std.specs.Int.RustNames.{unsigned_abs}
use Rattle.mcs_base.specs.Listings.{IsAscending, IsAmong, IsListing}
use Rattle.mcs_base.proofs.ListingLemmas.{same_listing}
use Rattle.mcs_base.proofs.Among.{among_at, among_take_more}
use Rattle.mcs_base.proofs.Each.{all_among, all_from_among}
use Rattle.mcs_trace.specs.Clauses.{IsLiteral, IsWithin, place, LiteralBefore}
use Rattle.mcs_trace.proofs.OrderLemmas.{place-injective, before_asymmetric}
use Rattle.mcs_cnf.specs.ClauseLists.{with_literal, clause_of}

-- ---- one more literal
among_with : (k l : ℤ) (c : List ℤ) → IsAmong k (with_literal l c) → (k ≡ l) ⊎ IsAmong k c
unfolding with_literal
among_with k l [] (inl e) = inl e
among_with k l [] (inr none) = absurd none
among_with k l (m ∷ c) h = at (λ h. among_with k l c h) (ltb (place l) (place m)) h
  where
    later : (IsAmong k (with_literal l c) → (k ≡ l) ⊎ IsAmong k c) → (b : Bool) → IsAmong k (cond b c (with_literal l c)) → (k ≡ l) ⊎ IsAmong k c
    later rest true h = inr h
    later rest false h = rest h

    at : (IsAmong k (with_literal l c) → (k ≡ l) ⊎ IsAmong k c) → (b : Bool) → IsAmong k (cond b (l ∷ m ∷ c) (m ∷ cond (eqb (place l) (place m)) c (with_literal l c))) → (k ≡ l) ⊎ IsAmong k (m ∷ c)
    at rest true h = h
    at rest false (inl e) = inr (inl e)
    at rest false (inr h) = elim (later rest (eqb (place l) (place m)) h) [ inl e ↦ inl e | inr old ↦ inr (inr old) ]

with_among : (k l : ℤ) (c : List ℤ) → (k ≡ l) ⊎ IsAmong k c → IsAmong k (with_literal l c)
unfolding with_literal
with_among k l [] h = h
with_among k l (m ∷ c) h = at (λ h. with_among k l c h) (ltb (place l) (place m))
  where
    later : ((k ≡ l) ⊎ IsAmong k c → IsAmong k (with_literal l c)) → (b : Bool) → eqb (place l) (place m) ≡ b → (k ≡ l) ⊎ IsAmong k (m ∷ c) → IsAmong k (m ∷ cond b c (with_literal l c))
    later rest true same (inl e) = let at_one : place l ≡ place m = grind (arith, nat_tests) in inl (e ∙ place-injective l m at_one)
    later rest true same (inr old) = old
    later rest false differ (inl e) = inr (rest (inl e))
    later rest false differ (inr (inl e)) = inl e
    later rest false differ (inr (inr old)) = inr (rest (inr old))

    at : ((k ≡ l) ⊎ IsAmong k c → IsAmong k (with_literal l c)) → (b : Bool) → IsAmong k (cond b (l ∷ m ∷ c) (m ∷ cond (eqb (place l) (place m)) c (with_literal l c)))
    at rest true = h
    at rest false = later rest (eqb (place l) (place m)) refl h

with_ascending : (l : ℤ) (c : List ℤ) → IsAscending LiteralBefore c → IsAscending LiteralBefore (with_literal l c)
unfolding with_literal
with_ascending l [] up = (tt, tt)
with_ascending l (m ∷ c) up = at (with_ascending l c up.1) (ltb (place l) (place m)) refl
  where
    later : IsAscending LiteralBefore (with_literal l c) → (b : Bool) → eqb (place l) (place m) ≡ b → ltb (place l) (place m) ≡ false → IsAscending LiteralBefore (m ∷ cond b c (with_literal l c))
    later rest true same not_before = up
    later rest false differ not_before =
        let first : place m < place l = grind (arith, nat_tests) in (
          all_from_among (LiteralBefore m) (with_literal l c) (λ k among. elim (among_with k l c among) [
            | inl e ↦ subst (LiteralBefore m) (sym e) first
            | inr old ↦ all_among (LiteralBefore m) c k up.0 old
          ]),
          rest,
        )

    at : IsAscending LiteralBefore (with_literal l c) → (b : Bool) → ltb (place l) (place m) ≡ b → IsAscending LiteralBefore (cond b (l ∷ m ∷ c) (m ∷ cond (eqb (place l) (place m)) c (with_literal l c)))
    at rest true before =
        let first : place l < place m = grind (arith, nat_tests) in
        ((first, all_from_among (LiteralBefore l) c (λ k among. let then : place m < place k = all_among (LiteralBefore m) c k up.0 among in omega arith)), up)
    at rest false not_before = later rest (eqb (place l) (place m)) refl not_before

-- ---- all of them
among_clause : (k : ℤ) (ls : List ℤ) → IsAmong k (clause_of ls) ↔ IsAmong k ls
unfolding clause_of
among_clause k [] = (λ h. h, λ h. h)
among_clause k (l ∷ ls) = (
  λ h. elim (among_with k l (clause_of ls) h) [ inl e ↦ inl e | inr old ↦ inr ((among_clause k ls).0 old) ],
  λ h. with_among k l (clause_of ls) (elim h as (λ _. (k ≡ l) ⊎ IsAmong k (clause_of ls)) [ inl e ↦ inl e | inr old ↦ inr ((among_clause k ls).1 old) ]),
)

clause_ascending : (ls : List ℤ) → IsAscending LiteralBefore (clause_of ls)
unfolding clause_of
clause_ascending [] = tt
clause_ascending (l ∷ ls) = with_ascending l (clause_of ls) (clause_ascending ls)

pub clause_listing : (ls : List ℤ) → IsListing (λ k. IsAmong k ls) LiteralBefore (clause_of ls)
clause_listing ls = record { exactly = λ k. among_clause k ls; ascending = clause_ascending ls }

pub clause_is : (ls c : List ℤ) → IsListing (λ k. IsAmong k ls) LiteralBefore c → c ≡ clause_of ls
clause_is ls c l = same_listing LiteralBefore before_asymmetric (λ k. IsAmong k ls) c (clause_of ls) l (clause_listing ls)

pub all_clause : (P : ℤ → Type 0) (ls : List ℤ) → AllByRecursion P ls → AllByRecursion P (clause_of ls)
all_clause P ls all = all_from_among P (clause_of ls) (λ k among. all_among P ls k all ((among_clause k ls).0 among))

-- ---- the code's loop
pub listing_all : (ls c : List ℤ) (i : ℕ) → length ls ≤ i → IsListing (λ k. IsAmong k (take i ls)) LiteralBefore c → c ≡ clause_of ls
listing_all ls c i past l = clause_is ls c (subst (λ (xs : List ℤ). IsListing (λ k. IsAmong k xs) LiteralBefore c) (take_all i ls past) l)

pub listing_more : (ls c new : List ℤ) (i : ℕ) (d l : ℤ) → i < length ls → l ≡ get_or ls i d → IsListing (λ k. IsAmong k (take i ls)) LiteralBefore c → IsListing (λ k. (k ≡ l) ⊎ IsAmong k c) LiteralBefore new → IsListing (λ k. IsAmong k (take (i + 1) ls)) LiteralBefore new
listing_more ls c new i d l less e old more = let step = among_take_more ls i l less (e ∙ get_or_default ls i d l less) in record {
  exactly = λ k. (
    λ among. (step k).1 (elim ((more.exactly k).0 among) as (λ _. IsAmong k (take i ls) ⊎ (k ≡ l)) [ inl same ↦ inr same | inr there ↦ inl ((old.exactly k).0 there) ]),
    λ among. (more.exactly k).1 (elim ((step k).0 among) as (λ _. (k ≡ l) ⊎ IsAmong k c) [ inl there ↦ inr ((old.exactly k).1 there) | inr same ↦ inl same ]),
  );
  ascending = more.ascending;
}

pub literal_of : (ls : List ℤ) (i : ℕ) → AllByRecursion IsLiteral ls → i < length ls → IsLiteral (get_or ls i (pos 0))
literal_of ls i all less = all_among IsLiteral ls (get_or ls i (pos 0)) all (among_at ls i (pos 0) less)

within : (n : ℕ) (ls : List ℤ) → AllByRecursion (λ l. (0 < unsigned_abs l) × (unsigned_abs l ≤ n)) ls → IsWithin n ls
within n [] all = tt
within n (l ∷ ls) all = (all.0.1, within n ls all.1)

pub clause_within : (n : ℕ) (ls : List ℤ) → AllByRecursion (λ l. (0 < unsigned_abs l) × (unsigned_abs l ≤ n)) ls → IsWithin n (clause_of ls)
clause_within n ls all = all_clause (λ l. unsigned_abs l ≤ n) ls (within n ls all)

-- How a clause is examined.
use Rattle.std.proofs.Common.{◌≡◌, ◌≢◌, [], ◌∷◌, slice_get, ℕ, ◌+◌, ◌<◌, ◌≤◌, List, ◌⊎◌, inl, inr, sym, ap, ◌∙◌, subst, ℤ, pos, neg_ℤ, unsigned_abs, length, drop, get_or, Option, Some, None, IfSome, is_some, true, arith}
use Rattle.std.specs.List.{AllByRecursion}
use Rattle.std.proofs.lemmas.Bool.{cases_lt, cases_eq}
use Rattle.std.proofs.lemmas.List.{drop_more}
use Rattle.mcs_base.proofs.ListingLemmas.{all_among}
use Rattle.mcs_trace.specs.Clauses.{IsClause, LiteralBefore, place}
use Rattle.mcs_base.specs.Listings.{IsAmong}
use Rattle.mcs_base.proofs.Among.{among_drop_more, none_among_drop, among_drop_first, among_at}
use Rattle.mcs_base.proofs.Ascending.{first_before}
use Rattle.mcs_base.proofs.NumberCases.{same_unsigned_abs}
use Rattle.mcs_engine.specs.declared.trail.Entry.{Entry}
use Rattle.mcs_engine.specs.declared.examine.Finding.TheVariants.{Open, Forced, Conflict}
use Rattle.mcs_engine.specs.Trails.{literal_at, ArePlaced, AreTwoFree, StandsNowhere, IsOn, IsClauseFinding, IsClauseSatisfied}
use Rattle.mcs_engine.specs.Watching.{IsLong}

-- the literal of the clause is free, and before all those from i on
abbrev pub IsFreeBefore : List Entry → List ℤ → ℕ → ℤ → Type 0
IsFreeBefore entries c i l = IsAmong l c × StandsNowhere entries (unsigned_abs l) × AllByRecursion (LiteralBefore l) (drop i c)

-- the literals of the clause below i are false, but the one that is free
pub record FoundSoFar (entries : List Entry) (c : List ℤ) (i : ℕ) (o : Option ℤ) : Type 0 where
  pub free : IfSome o (IsFreeBefore entries c i)
  pub seen : (k : ℤ) → IsAmong k c → ((o ≡ Some k) ⊎ IsOn entries (neg_ℤ k)) ⊎ IsAmong k (drop i c)

pub found-false : (entries : List Entry) (c : List ℤ) (i : ℕ) (o : Option ℤ) → i < length c → IsOn entries (neg_ℤ (get_or c i (pos 0))) → FoundSoFar entries c i o → FoundSoFar entries c (i + 1) o
found-false entries c i o less on h = record { free = later o h.free; seen = λ k among. at k (h.seen k among) }
  where
    later : (x : Option ℤ) → IfSome x (IsFreeBefore entries c i) → IfSome x (IsFreeBefore entries c (i + 1))
    later None f = tt
    later (Some l) f = (f.0, f.1, (subst (AllByRecursion (LiteralBefore l)) (drop_more c i (pos 0) less) f.2).1)

    at : (k : ℤ) → ((o ≡ Some k) ⊎ IsOn entries (neg_ℤ k)) ⊎ IsAmong k (drop i c) → ((o ≡ Some k) ⊎ IsOn entries (neg_ℤ k)) ⊎ IsAmong k (drop (i + 1) c)
    at k (inl done) = inl done
    at k (inr rest) = elim ((among_drop_more c i (pos 0) less k).0 rest) [ inl e ↦ inl (inr (subst (λ (l : ℤ). IsOn entries (neg_ℤ l)) (sym e) on)) | inr later ↦ inr later ]

pub found-free : (entries : List Entry) (c : List ℤ) (i : ℕ) (o : Option ℤ) → IsClause c → i < length c → o ≡ None → StandsNowhere entries (unsigned_abs (get_or c i (pos 0))) → FoundSoFar entries c i o → FoundSoFar entries c (i + 1) (Some (get_or c i (pos 0)))
found-free entries c i o clause less none nowhere h = record { free = (among_at c i (pos 0) less, nowhere, first_before LiteralBefore c i (pos 0) less clause.1); seen = λ k among. at k (h.seen k among) }
  where
    at : (k : ℤ) → ((o ≡ Some k) ⊎ IsOn entries (neg_ℤ k)) ⊎ IsAmong k (drop i c) → ((Some (get_or c i (pos 0)) ≡ Some k) ⊎ IsOn entries (neg_ℤ k)) ⊎ IsAmong k (drop (i + 1) c)
    at k (inl (inl e)) = let no : None ≡ Some k = sym none ∙ e in absurd (cc)
    at k (inl (inr on)) = inl (inr on)
    at k (inr rest) = elim ((among_drop_more c i (pos 0) less k).0 rest) [ inl e ↦ inl (inl (ap Some (sym e))) | inr later ↦ inr later ]

pub found-conflict : (entries : List Entry) (c : List ℤ) (i : ℕ) (o : Option ℤ) → length c ≤ i → o ≡ None → FoundSoFar entries c i o → IsClauseFinding entries c Conflict
found-conflict entries c i o past none h k among = at (h.seen k among)
  where
    at : ((o ≡ Some k) ⊎ IsOn entries (neg_ℤ k)) ⊎ IsAmong k (drop i c) → IsOn entries (neg_ℤ k)
    at (inl (inl e)) = let no : None ≡ Some k = sym none ∙ e in absurd (cc)
    at (inl (inr on)) = on
    at (inr rest) = absurd (none_among_drop c i k past rest)

pub found-forced : (entries : List Entry) (c : List ℤ) (i : ℕ) (o : Option ℤ) (l : ℤ) → length c ≤ i → o ≡ Some l → FoundSoFar entries c i o → IsClauseFinding entries c (Forced l)
found-forced entries c i o l past some h =
    let free = subst (λ (x : Option ℤ). IfSome x (IsFreeBefore entries c i)) some h.free in
    ((free.0, λ k among. at k (h.seen k among)), free.1)
  where
    at : (k : ℤ) → ((o ≡ Some k) ⊎ IsOn entries (neg_ℤ k)) ⊎ IsAmong k (drop i c) → (k ≡ l) ⊎ IsOn entries (neg_ℤ k)
    at k (inl (inl e)) = let both : Some l ≡ Some k = sym some ∙ e in inl (cc)
    at k (inl (inr on)) = inr on
    at k (inr rest) = absurd (none_among_drop c i k past rest)

pub found-two : (entries : List Entry) (c : List ℤ) (i : ℕ) (o : Option ℤ) → i < length c → is_some o ≡ true → StandsNowhere entries (unsigned_abs (get_or c i (pos 0))) → FoundSoFar entries c i o → AreTwoFree entries c
found-two entries c i None less some nowhere h = absurd (cc)
found-two entries c i (Some l) less some nowhere h = record {
  first = l;
  second = get_or c i (pos 0);
  has_first = h.free.0;
  has_second = among_at c i (pos 0) less;
  differ = λ e.
      let before : place l < place (get_or c i (pos 0)) = all_among (LiteralBefore l) (drop i c) (get_or c i (pos 0)) h.free.2 (among_drop_first c i (pos 0) less) in
      let same : place l ≡ place (get_or c i (pos 0)) = ap place e in
      omega arith;
  free_first = h.free.1;
  free_second = nowhere;
}

-- ---- a clause of one literal or none
pub long-two : (c : List ℤ) (a b : ℤ) → IsAmong a c → IsAmong b c → a ≢ b → IsLong c
long-two [] a b here there differ = absurd here
long-two (x ∷ []) a b (inl e) (inl e') differ = absurd (differ (e ∙ sym e'))
long-two (x ∷ []) a b (inl e) (inr none) differ = absurd none
long-two (x ∷ []) a b (inr none) there differ = absurd none
long-two (x ∷ y ∷ c) a b here there differ = omega arith

pub open-short : (known : List (List ℤ)) (entries : List Entry) (i : ℕ) (c d : List ℤ) → slice_get known i ≡ Some c → IsClauseFinding entries c Open → slice_get known i ≡ Some d → ¬ IsLong d → IsClauseSatisfied entries d
open-short known entries i c d is found is' short =
    let both : Some c ≡ Some d = sym is ∙ is' in
    let same : c ≡ d = cc in
    at d (subst (λ (x : List ℤ). IsClauseFinding entries x Open) same found) short
  where
    at : (d : List ℤ) → IsClauseFinding entries d Open → ¬ IsLong d → IsClauseSatisfied entries d
    at d (inl satisfied) short = satisfied
    at d (inr two) short = absurd (short (long-two d two.first two.second two.has_first two.has_second two.differ))

-- ---- a literal that is not false
-- the literals of the clause below i are false, but the other one
abbrev pub AreFalseBelow : List Entry → List ℤ → ℤ → ℕ → Type 0
AreFalseBelow entries c other i = (k : ℤ) → IsAmong k c → ((k ≡ other) ⊎ IsOn entries (neg_ℤ k)) ⊎ IsAmong k (drop i c)

pub false_below-more : (entries : List Entry) (c : List ℤ) (other : ℤ) (i : ℕ) → i < length c → (get_or c i (pos 0) ≡ other) ⊎ IsOn entries (neg_ℤ (get_or c i (pos 0))) → AreFalseBelow entries c other i → AreFalseBelow entries c other (i + 1)
false_below-more entries c other i less here h k among = at (h k among)
  where
    first : (x : ℤ) → k ≡ x → (x ≡ other) ⊎ IsOn entries (neg_ℤ x) → (k ≡ other) ⊎ IsOn entries (neg_ℤ k)
    first x e (inl e') = inl (e ∙ e')
    first x e (inr off) = inr (subst (λ (l : ℤ). IsOn entries (neg_ℤ l)) (sym e) off)

    at : ((k ≡ other) ⊎ IsOn entries (neg_ℤ k)) ⊎ IsAmong k (drop i c) → ((k ≡ other) ⊎ IsOn entries (neg_ℤ k)) ⊎ IsAmong k (drop (i + 1) c)
    at (inl done) = inl done
    at (inr rest) = elim ((among_drop_more c i (pos 0) less k).0 rest) [ inl e ↦ inl (first (get_or c i (pos 0)) e here) | inr later ↦ inr later ]

pub false_below-all : (entries : List Entry) (c : List ℤ) (other : ℤ) (i : ℕ) → length c ≤ i → AreFalseBelow entries c other i → (k : ℤ) → IsAmong k c → (k ≡ other) ⊎ IsOn entries (neg_ℤ k)
false_below-all entries c other i past h k among = elim (h k among) [ inl done ↦ done | inr rest ↦ absurd (none_among_drop c i k past rest) ]

-- a literal has a value, or its variable stands nowhere
pub value-or-free : (es : List Entry) (ps : List ℕ) (l : ℤ) → ArePlaced es ps → IsOn es l ⊎ (IsOn es (neg_ℤ l) ⊎ StandsNowhere es (unsigned_abs l))
value-or-free es ps l placed =
    let p : ℕ = get_or ps (unsigned_abs l) 0 in
    elim (cases_lt p (length es)) [
      | inl less ↦ elim (cases_eq (unsigned_abs (literal_at es p)) (unsigned_abs l)) [
        | inl same ↦ elim (same_unsigned_abs (literal_at es p) l same) [ inl is ↦ inl (p, less, is) | inr is ↦ inr (inl (p, less, is)) ]
        | inr other ↦ inr (inr (λ i (less', size). other (ap (λ (n : ℕ). unsigned_abs (literal_at es n)) (sym (at i less' size)) ∙ size)))
      ]
      | inr past ↦ inr (inr (λ i (less', size). let e = at i less' size in omega arith))
    ]
  where
    at : (i : ℕ) → i < length es → unsigned_abs (literal_at es i) ≡ unsigned_abs l → i ≡ get_or ps (unsigned_abs l) 0
    at i less size = sym (placed i less).2 ∙ ap (λ (n : ℕ). get_or ps n 0) size

-- How two clauses are joined.
use Rattle.std.proofs.Common.{◌≡◌, ◌≢◌, ℕ, ◌+◌, ◌<◌, ◌≤◌, List, [], ◌∷◌, ◌++◌, ◌⊎◌, inl, inr, sym, ap, ◌∙◌, subst, arith, ℤ, pos, neg_ℤ, ◌-ℤ◌, w64, to_z, of_z, to_z-of_z, length, drop, get_or}
use Rattle.std.proofs.lemmas.Bool.{cases_lt, cases_order}
use Rattle.mcs_base.specs.Listings.{IsAscending, IsAmong, IsListing}
use Rattle.mcs_base.proofs.ListingLemmas.{all_among}
use Rattle.mcs_base.proofs.Among.{among_drop_more, none_among_drop, among_drop_first, among_at, among_push, among_left}
use Rattle.mcs_base.proofs.Ascending.{first_before, ascending_push}
use Rattle.mcs_trace.specs.Clauses.{IsLiteral, place, LiteralBefore}
use Rattle.mcs_trace.specs.Resolution.{IsLeft}
use Rattle.mcs_trace.proofs.OrderLemmas.{fits_literal, turned, place-injective}

-- ---- after the literals of the first clause below i and of the second below j
pub record JoinSoFar (first second : List ℤ) (p : ℤ) (i j : ℕ) (out : List ℤ) : Type 0 where
  pub first_bound : i ≤ length first
  pub second_bound : j ≤ length second
  pub ascending : IsAscending LiteralBefore out
  pub below : (k m : ℤ) → IsAmong k out → IsAmong m (drop i first) ⊎ IsAmong m (drop j second) → place k < place m
  pub sound : (k : ℤ) → IsAmong k out → IsLeft first second p k
  pub complete : (k : ℤ) → IsLeft first second p k → IsAmong k out ⊎ ((IsAmong k (drop i first) × (k ≢ p)) ⊎ (IsAmong k (drop j second) × (k ≢ neg_ℤ p)))

pub join-start : (first second : List ℤ) (p : ℤ) (out : List ℤ) → out ≡ [] → JoinSoFar first second p 0 0 out
join-start first second p [] e = record {
  first_bound = omega arith;
  second_bound = omega arith;
  ascending = tt;
  below = λ k m h r. absurd h;
  sound = λ k h. absurd h;
  complete = λ k h. inr h;
}
join-start first second p (l ∷ c) e = absurd (cc)

-- a literal of the rests is appended, and what is left of the rests is after it
join-push : (first second : List ℤ) (p : ℤ) (i j i' j' : ℕ) (out : List ℤ) (x : ℤ) → i' ≤ length first → j' ≤ length second
    → ((m : ℤ) → IsAmong m (drop i' first) → IsAmong m (drop i first) × (place x < place m))
    → ((m : ℤ) → IsAmong m (drop j' second) → IsAmong m (drop j second) × (place x < place m))
    → ((k : ℤ) → IsAmong k (drop i first) → (k ≡ x) ⊎ IsAmong k (drop i' first))
    → ((k : ℤ) → IsAmong k (drop j second) → (k ≡ x) ⊎ IsAmong k (drop j' second))
    → IsAmong x (drop i first) ⊎ IsAmong x (drop j second) → IsLeft first second p x
    → JoinSoFar first second p i j out → JoinSoFar first second p i' j' (out ++ x ∷ [])
join-push first second p i j i' j' out x bound bound' sub sub' cover cover' here left h = record {
  first_bound = bound;
  second_bound = bound';
  ascending = ascending_push LiteralBefore out x h.ascending (λ k among. h.below k x among here);
  below = λ k m among rest. elim ((among_push k out x).0 among) [ inl old ↦ h.below k m old (earlier m rest) | inr e ↦ let same : place k ≡ place x = ap place e in after m k same rest ];
  sound = λ k among. elim ((among_push k out x).0 among) [ inl old ↦ h.sound k old | inr e ↦ subst (IsLeft first second p) (sym e) left ];
  complete = λ k left'. further k (h.complete k left');
}
  where
    earlier : (m : ℤ) → IsAmong m (drop i' first) ⊎ IsAmong m (drop j' second) → IsAmong m (drop i first) ⊎ IsAmong m (drop j second)
    earlier m (inl r) = inl (sub m r).0
    earlier m (inr r) = inr (sub' m r).0

    after : (m k : ℤ) → place k ≡ place x → IsAmong m (drop i' first) ⊎ IsAmong m (drop j' second) → place k < place m
    after m k same (inl r) = omega (arith, (sub m r).1)
    after m k same (inr r) = omega (arith, (sub' m r).1)

    further : (k : ℤ) → IsAmong k out ⊎ ((IsAmong k (drop i first) × (k ≢ p)) ⊎ (IsAmong k (drop j second) × (k ≢ neg_ℤ p)))
        → IsAmong k (out ++ x ∷ []) ⊎ ((IsAmong k (drop i' first) × (k ≢ p)) ⊎ (IsAmong k (drop j' second) × (k ≢ neg_ℤ p)))
    further k (inl old) = inl (among_left k out (x ∷ []) old)
    further k (inr (inl (rest, differs))) = elim (cover k rest) [ inl e ↦ inl ((among_push k out x).1 (inr e)) | inr r ↦ inr (inl (r, differs)) ]
    further k (inr (inr (rest, differs))) = elim (cover' k rest) [ inl e ↦ inl ((among_push k out x).1 (inr e)) | inr r ↦ inr (inr (r, differs)) ]

-- all of the rest are after what its first is after
before_rest : (n : ℕ) (c : List ℤ) (j : ℕ) → IsAscending LiteralBefore c → (j < length c → n < place (get_or c j (pos 0))) → (m : ℤ) → IsAmong m (drop j c) → n < place m
before_rest n c j up less m rest = elim (cases_lt j (length c)) [
  | inr past ↦ absurd (none_among_drop c j m past rest)
  | inl here ↦ elim ((among_drop_more c j (pos 0) here m).0 rest) [
    | inl e ↦ let same : place m ≡ place (get_or c j (pos 0)) = ap place e in omega (arith, less here)
    | inr later ↦ let after : place (get_or c j (pos 0)) < place m = all_among (LiteralBefore (get_or c j (pos 0))) (drop (j + 1) c) m (first_before LiteralBefore c j (pos 0) here up) later in omega (arith, less here)
  ]
]

after_first : (c : List ℤ) (i : ℕ) → IsAscending LiteralBefore c → i < length c → (m : ℤ) → IsAmong m (drop (i + 1) c) → IsAmong m (drop i c) × (place (get_or c i (pos 0)) < place m)
after_first c i up here m later = ((among_drop_more c i (pos 0) here m).1 (inr later), all_among (LiteralBefore (get_or c i (pos 0))) (drop (i + 1) c) m (first_before LiteralBefore c i (pos 0) here up) later)

-- ---- the turns
pub join-skip_first : (first second : List ℤ) (p : ℤ) (i j : ℕ) (out : List ℤ) → i < length first → get_or first i (pos 0) ≡ p → JoinSoFar first second p i j out → JoinSoFar first second p (i + 1) j out
join-skip_first first second p i j out here e h = record {
  first_bound = omega arith;
  second_bound = h.second_bound;
  ascending = h.ascending;
  below = λ k m among rest. h.below k m among (elim rest [ inl r ↦ inl ((among_drop_more first i (pos 0) here m).1 (inr r)) | inr r ↦ inr r ]);
  sound = h.sound;
  complete = λ k left. further k (h.complete k left);
}
  where
    further : (k : ℤ) → IsAmong k out ⊎ ((IsAmong k (drop i first) × (k ≢ p)) ⊎ (IsAmong k (drop j second) × (k ≢ neg_ℤ p)))
        → IsAmong k out ⊎ ((IsAmong k (drop (i + 1) first) × (k ≢ p)) ⊎ (IsAmong k (drop j second) × (k ≢ neg_ℤ p)))
    further k (inl old) = inl old
    further k (inr (inr r)) = inr (inr r)
    further k (inr (inl (rest, differs))) = elim ((among_drop_more first i (pos 0) here k).0 rest) [ inl e' ↦ absurd (differs (e' ∙ e)) | inr r ↦ inr (inl (r, differs)) ]

pub join-skip_second : (first second : List ℤ) (p : ℤ) (i j : ℕ) (out : List ℤ) → j < length second → get_or second j (pos 0) ≡ neg_ℤ p → JoinSoFar first second p i j out → JoinSoFar first second p i (j + 1) out
join-skip_second first second p i j out here e h = record {
  first_bound = h.first_bound;
  second_bound = omega arith;
  ascending = h.ascending;
  below = λ k m among rest. h.below k m among (elim rest [ inl r ↦ inl r | inr r ↦ inr ((among_drop_more second j (pos 0) here m).1 (inr r)) ]);
  sound = h.sound;
  complete = λ k left. further k (h.complete k left);
}
  where
    further : (k : ℤ) → IsAmong k out ⊎ ((IsAmong k (drop i first) × (k ≢ p)) ⊎ (IsAmong k (drop j second) × (k ≢ neg_ℤ p)))
        → IsAmong k out ⊎ ((IsAmong k (drop i first) × (k ≢ p)) ⊎ (IsAmong k (drop (j + 1) second) × (k ≢ neg_ℤ p)))
    further k (inl old) = inl old
    further k (inr (inl r)) = inr (inl r)
    further k (inr (inr (rest, differs))) = elim ((among_drop_more second j (pos 0) here k).0 rest) [ inl e' ↦ absurd (differs (e' ∙ e)) | inr r ↦ inr (inr (r, differs)) ]

pub join-take_first : (first second : List ℤ) (p : ℤ) (i j : ℕ) (out : List ℤ) → IsAscending LiteralBefore first → IsAscending LiteralBefore second → i < length first → get_or first i (pos 0) ≢ p
    → (j < length second → place (get_or first i (pos 0)) < place (get_or second j (pos 0))) → JoinSoFar first second p i j out → JoinSoFar first second p (i + 1) j (out ++ get_or first i (pos 0) ∷ [])
join-take_first first second p i j out up up' here differs less h =
    let x : ℤ = get_or first i (pos 0) in
    join-push first second p i j (i + 1) j out x (omega arith) h.second_bound (after_first first i up here) (λ m rest. (rest, before_rest (place x) second j up' less m rest))
    (λ k rest. (among_drop_more first i (pos 0) here k).0 rest) (λ k rest. inr rest)
    (inl (among_drop_first first i (pos 0) here)) (inl (among_at first i (pos 0) here, differs)) h

pub join-take_second : (first second : List ℤ) (p : ℤ) (i j : ℕ) (out : List ℤ) → IsAscending LiteralBefore first → IsAscending LiteralBefore second → j < length second → get_or second j (pos 0) ≢ neg_ℤ p
    → (i < length first → place (get_or second j (pos 0)) < place (get_or first i (pos 0))) → JoinSoFar first second p i j out → JoinSoFar first second p i (j + 1) (out ++ get_or second j (pos 0) ∷ [])
join-take_second first second p i j out up up' here differs less h =
    let x : ℤ = get_or second j (pos 0) in
    join-push first second p i j i (j + 1) out x h.first_bound (omega arith) (λ m rest. (rest, before_rest (place x) first i up less m rest)) (after_first second j up' here)
    (λ k rest. inr rest) (λ k rest. (among_drop_more second j (pos 0) here k).0 rest)
    (inr (among_drop_first second j (pos 0) here)) (inr (among_at second j (pos 0) here, differs)) h

pub join-take_both : (first second : List ℤ) (p : ℤ) (i j : ℕ) (out : List ℤ) → IsAscending LiteralBefore first → IsAscending LiteralBefore second → i < length first → j < length second → get_or second j (pos 0) ≢ neg_ℤ p
    → get_or first i (pos 0) ≡ get_or second j (pos 0) → JoinSoFar first second p i j out → JoinSoFar first second p (i + 1) (j + 1) (out ++ get_or second j (pos 0) ∷ [])
join-take_both first second p i j out up up' here here' differs same h =
    let x : ℤ = get_or second j (pos 0) in
    join-push first second p i j (i + 1) (j + 1) out x (omega arith) (omega arith)
    (subst (λ (y : ℤ). (m : ℤ) → IsAmong m (drop (i + 1) first) → IsAmong m (drop i first) × (place y < place m)) same (after_first first i up here)) (after_first second j up' here')
    (subst (λ (y : ℤ). (k : ℤ) → IsAmong k (drop i first) → (k ≡ y) ⊎ IsAmong k (drop (i + 1) first)) same (λ k rest. (among_drop_more first i (pos 0) here k).0 rest)) (λ k rest. (among_drop_more second j (pos 0) here' k).0 rest)
    (inr (among_drop_first second j (pos 0) here')) (inr (among_at second j (pos 0) here', differs)) h

pub join-end : (first second : List ℤ) (p : ℤ) (i j : ℕ) (out : List ℤ) → length first ≤ i → length second ≤ j → JoinSoFar first second p i j out → IsListing (IsLeft first second p) LiteralBefore out
join-end first second p i j out past past' h = record {
  exactly = λ k. (h.sound k, λ left. done k (h.complete k left));
  ascending = h.ascending;
}
  where
    done : (k : ℤ) → IsAmong k out ⊎ ((IsAmong k (drop i first) × (k ≢ p)) ⊎ (IsAmong k (drop j second) × (k ≢ neg_ℤ p))) → IsAmong k out
    done k (inl old) = old
    done k (inr (inl (rest, differs))) = absurd (none_among_drop first i k past rest)
    done k (inr (inr (rest, differs))) = absurd (none_among_drop second j k past' rest)

-- ---- what the code's tests tell
-- where neither comes first, both are there, and they are one
pub join-tie : (i n j m : ℕ) (x y : ℤ) → (i < n) ⊎ (j < m) → ((i < n) × (j < m → place x < place y) → ⊥) → ((j < m) × (i < n → place y < place x) → ⊥) → (i < n) × (j < m) × (x ≡ y)
join-tie i n j m x y some not not' = elim (cases_lt i n) [
  | inl here ↦ elim (cases_lt j m) [
    | inl here' ↦ (here, here', elim (cases_order (place x) (place y)) [ inl e ↦ place-injective x y e | inr apart ↦ elim apart [ inl less ↦ absurd (not (here, λ _. less)) | inr more ↦ absurd (not' (here', λ _. more)) ] ])
    | inr past ↦ absurd (not (here, λ here'. absurd (omega arith)))
  ]
  | inr past ↦ elim some [ inl here ↦ absurd (omega arith) | inr here' ↦ absurd (not' (here', λ here. absurd (omega arith))) ]
]

pub pushed : (x : ℤ) (out new : List ℤ) → IsLiteral x → new ≡ out ++ to_z w64 (of_z w64 x) ∷ [] → new ≡ out ++ x ∷ []
pushed x out new is e = e ∙ ap (λ k. out ++ k ∷ []) (to_z-of_z (fits_literal x is))

pub negated : (l : ℤ) → IsLiteral l → to_z w64 (of_z w64 (pos 0 -ℤ to_z w64 (of_z w64 l))) ≡ neg_ℤ (to_z w64 (of_z w64 l))
negated l is = turned l is ∙ ap neg_ℤ (sym (to_z-of_z (fits_literal l is)))

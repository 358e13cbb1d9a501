-- What the marks of a clause that is false tell of it, and what a resolution makes of them.
use Rattle.std.proofs.Common.{◌≡◌, ◌≢◌, ℕ, zero, suc, ◌+◌, ◌-◌, ◌<◌, ◌≤◌, ◌↔◌, List, [], ◌∷◌, ◌++◌, ◌⊎◌, inl, inr, refl, sym, ap, ◌∙◌, subst, arith, ℤ, pos, neg_ℤ, unsigned_abs, length, get_or, replicate, set, take, Bool, true, false, true≢false, Some}
use Rattle.std.specs.List.{AllByRecursion}
use Rattle.std.proofs.Math.IntN.{neg_ℤ-neg_ℤ}
use Rattle.std.proofs.lemmas.Bool.{cases_lt, cases_eq}
use Rattle.std.proofs.lemmas.Grind.{get_or-set_at}
use Rattle.std.proofs.lemmas.List.{get_or-set_other, length-set, take_all, take_more}
use Rattle.mcs_base.specs.Listings.{IsAmong, IsListing}
use Rattle.mcs_base.proofs.Among.{among_push, nil_from_none}
use Rattle.mcs_base.proofs.ListingLemmas.{all_among, all_from_among, same_listing}
use Rattle.mcs_base.proofs.Numbers.{cases_eq_ℤ, unsigned_abs-neg_ℤ}
use Rattle.mcs_trace.specs.Clauses.{IsClause, IsLiteral, LiteralBefore, place}
use Rattle.mcs_trace.specs.Resolution.{IsLeft, IsOnlyClash, IsResolvent}
use Rattle.mcs_trace.specs.Traces.{numbered_clause}
use Rattle.mcs_trace.proofs.OrderLemmas.{before_asymmetric, place-injective}
use Rattle.mcs_trace.proofs.ResolventLemmas.{IsResolvent-clause}
use Rattle.mcs_engine.specs.declared.latest.Latest.{Latest}
use Rattle.mcs_engine.specs.declared.trail.Entry.{Entry}
use Rattle.mcs_engine.specs.Learning.{IsLate, IsLatest, IsSingle}
use Rattle.mcs_engine.specs.Marking.{AreUnmarked, IsVariableMarked, IsMarkedChain, IsMarkedWithin, IsMarking, IsMetAt, IsOfMarks, IsSingleMark, IsTakenOff, MarksAlso}
use Rattle.mcs_engine.specs.Trails.{ArePlaced, IsFalse, IsOnBelow, IsReason, literal_at}
use Rattle.mcs_engine.proofs.LatestLemmas.{some-latest}
use Rattle.mcs_engine.proofs.KnownLemmas.{chain-push}
use Rattle.mcs_engine.proofs.TrailLemmas.{not_both_on, on_below, same_place}

-- ---- resolvents are there
clause-with : (l : ℤ) (c : List ℤ) → IsLiteral l → IsClause c → (d : List ℤ) × IsClause d × ((k : ℤ) → IsAmong k d ↔ ((k ≡ l) ⊎ IsAmong k c))
clause-with l [] is clause = (l ∷ [], ((is, tt), (tt, tt)), λ k. (λ a. a, λ a. a))
clause-with l (x ∷ c) is clause = elim (cases_lt (place l) (place x)) [
  | inl before ↦ (
    l ∷ x ∷ c,
    ((is, clause.0), ((before, all_from_among (LiteralBefore l) c (λ k among. let later : place x < place k = all_among (LiteralBefore x) c k clause.1.0 among in omega arith)), clause.1)),
    λ k. (λ a. a, λ a. a),
  )
  | inr past ↦ elim (cases_eq (place x) (place l)) [
    | inl e ↦
        let same : l ≡ x = place-injective l x (sym e) in
        (x ∷ c, clause, λ k. (λ a. inr a, λ o. elim o [ inl here ↦ inl (here ∙ same) | inr a ↦ a ]))
    | inr differs ↦
        let (d, right, exactly) = clause-with l c is (clause.0.1, clause.1.1) in
        let after : (k : ℤ) → IsAmong k d → LiteralBefore x k = λ k among. elim ((exactly k).0 among) [
          | inl here ↦ let same : place k ≡ place l = ap place here in omega arith
          | inr there ↦ all_among (LiteralBefore x) c k clause.1.0 there
        ] in (
          x ∷ d,
          ((clause.0.0, right.0), (all_from_among (LiteralBefore x) d after, right.1)),
          λ k. (
            λ a. elim a [ inl e ↦ inr (inl e) | inr among ↦ elim ((exactly k).0 among) [ inl here ↦ inl here | inr there ↦ inr (inr there) ] ],
            λ o. elim o [ inl here ↦ inr ((exactly k).1 (inl here)) | inr a ↦ elim a [ inl e ↦ inl e | inr there ↦ inr ((exactly k).1 (inr there)) ] ],
          ),
        )
  ]
]

clause-joined : (xs c : List ℤ) → AllByRecursion IsLiteral xs → IsClause c → (d : List ℤ) × IsClause d × ((k : ℤ) → IsAmong k d ↔ (IsAmong k xs ⊎ IsAmong k c))
clause-joined [] c all clause = (c, clause, λ k. (λ a. inr a, λ o. elim o [ inl none ↦ absurd none | inr a ↦ a ]))
clause-joined (x ∷ xs) c all clause =
    let (d, right, exactly) = clause-joined xs c all.1 clause in
    let (e, right', exactly') = clause-with x d all.0 right in (
      e,
      right',
      λ k. (
        λ a. elim ((exactly' k).0 a) [ inl here ↦ inl (inl here) | inr among ↦ elim ((exactly k).0 among) [ inl there ↦ inl (inr there) | inr there ↦ inr there ] ],
        λ o. elim o [
          | inl a ↦ elim a [ inl here ↦ (exactly' k).1 (inl here) | inr there ↦ (exactly' k).1 (inr ((exactly k).1 (inl there))) ]
          | inr there ↦ (exactly' k).1 (inr ((exactly k).1 (inr there)))
        ],
      ),
    )

-- the literals of a list but one
others-of : (l : ℤ) (c : List ℤ) → (xs : List ℤ) × ((k : ℤ) → IsAmong k xs ↔ (IsAmong k c × (k ≢ l)))
others-of l [] = ([], λ k. (λ none. absurd none, λ h. h.0))
others-of l (x ∷ c) =
    let (xs, exactly) = others-of l c in
    elim (cases_eq_ℤ x l) [
      | inl same ↦ (
        xs,
        λ k. (
          λ a. let h = (exactly k).0 a in (inr h.0, h.1),
          λ h. elim h.0 [ inl here ↦ absurd (h.1 (here ∙ same)) | inr there ↦ (exactly k).1 (there, h.1) ],
        ),
      )
      | inr differs ↦ (
        x ∷ xs,
        λ k. (
          λ a. elim a [ inl here ↦ (inl here, λ e. differs (sym here ∙ e)) | inr among ↦ let h = (exactly k).0 among in (inr h.0, h.1) ],
          λ h. elim h.0 [ inl here ↦ inl here | inr there ↦ inr ((exactly k).1 (there, h.1)) ],
        ),
      )
    ]

pub resolvent-there : (c reason : List ℤ) (l : ℤ) → IsClause c → IsClause reason → IsOnlyClash c reason l → (d : List ℤ) × IsResolvent c reason d
resolvent-there c reason l clause clause' clash =
    let (xs, exactly) = others-of l c in
    let (ys, exactly') = others-of (neg_ℤ l) reason in
    let first : AllByRecursion IsLiteral xs = all_from_among IsLiteral xs (λ k among. all_among IsLiteral c k clause.0 ((exactly k).0 among).0) in
    let second : AllByRecursion IsLiteral ys = all_from_among IsLiteral ys (λ k among. all_among IsLiteral reason k clause'.0 ((exactly' k).0 among).0) in
    let (rest, right, of) = clause-joined ys [] second (tt, tt) in
    let (d, right', of') = clause-joined xs rest first right in
    let listing : IsListing (IsLeft c reason l) LiteralBefore d = record {
      exactly = λ k. (
        λ among. elim ((of' k).0 among) [
          | inl a ↦ inl ((exactly k).0 a)
          | inr a ↦ elim ((of k).0 a) [ inl b ↦ inr ((exactly' k).0 b) | inr none ↦ absurd none ]
        ],
        λ left. elim left [ inl h ↦ (of' k).1 (inl ((exactly k).1 h)) | inr h ↦ (of' k).1 (inr ((of k).1 (inl ((exactly' k).1 h)))) ],
      );
      ascending = right'.1;
    } in
    (d, record { literal = l; clash = clash; left = listing })

-- ---- marks
pub marked-cases : (marks : List Bool) (p : ℕ) → IsVariableMarked marks p ⊎ (¬ IsVariableMarked marks p)
marked-cases marks p = at (get_or marks p false)
  where
    at : (b : Bool) → (b ≡ true) ⊎ (b ≡ true → ⊥)
    at true = inl refl
    at false = inr (λ e. true≢false (sym e))

pub unmarked-is : (marks : List Bool) (p : ℕ) → get_or marks p false ≡ false → ¬ IsVariableMarked marks p
unmarked-is marks p e marked = true≢false (sym marked ∙ e)

pub marked-within : (marks : List Bool) (p : ℕ) → IsVariableMarked marks p → p < length marks
marked-within [] p marked = absurd (true≢false (sym marked))
marked-within (b ∷ marks) zero marked = omega arith
marked-within (b ∷ marks) (suc p) marked = let less = marked-within marks p marked in omega arith

-- the variable of the place is marked
pub marked-one : (es : List Entry) (ps : List ℕ) (marks : List Bool) (q n : ℕ) → ArePlaced es ps → length marks ≡ length es → q < length es → unsigned_abs (literal_at es q) ≡ n
    → (p : ℕ) → p < length es → IsVariableMarked (set marks q true) p ↔ (IsVariableMarked marks p ⊎ (unsigned_abs (literal_at es p) ≡ n))
marked-one es ps marks q n placed sized here size p less = elim (cases_eq p q) [
  | inl e ↦ (
    λ marked. inr (ap (λ (j : ℕ). unsigned_abs (literal_at es j)) e ∙ size),
    λ either. get_or-set_at marks q p true false e (omega arith),
  )
  | inr other ↦ (
    λ marked. inl (sym (get_or-set_other marks q p true false other) ∙ marked),
    λ either. elim either [
      | inl was ↦ get_or-set_other marks q p true false other ∙ was
      | inr e ↦ absurd (other (same_place es ps p q placed less here (e ∙ sym size)))
    ],
  )
]

pub unmarked-at : (marks : List Bool) (q p : ℕ) → q < length marks → IsVariableMarked (set marks q false) p ↔ ((p ≢ q) × IsVariableMarked marks p)
unmarked-at marks q p less = elim (cases_eq p q) [
  | inl e ↦ (
    λ marked. absurd (true≢false (sym marked ∙ get_or-set_at marks q p false false e less)),
    λ h. absurd (h.0 e),
  )
  | inr other ↦ (
    λ marked. (other, sym (get_or-set_other marks q p false false other) ∙ marked),
    λ h. get_or-set_other marks q p false false other ∙ h.1,
  )
]

-- ---- a resolution
-- the literal that is on at a place, and its negation
on-literal : (es : List Entry) (j q : ℕ) (k : ℤ) → literal_at es j ≡ neg_ℤ k → j ≡ q → k ≡ neg_ℤ (literal_at es q)
on-literal es j q k on same = sym (neg_ℤ-neg_ℤ k) ∙ ap neg_ℤ (sym on ∙ ap (literal_at es) same)

module _ (es : List Entry) (ps : List ℕ) (p : ℕ) (reason : List ℤ) (placed : ArePlaced es ps) (here : p < length es) (is : IsReason es p reason) where
  -- the other variables of the reason stand before
  pub met-before : (q : ℕ) → q < length es → IsMetAt es reason q → (q ≡ p) ⊎ ((q < p) × IsAmong (neg_ℤ (literal_at es q)) reason)
  met-before q less (k, among, size) = elim (is.others k among) [
    | inl e ↦ inl (same_place es ps q p placed less here (size ∙ ap unsigned_abs e))
    | inr (j, before, on) ↦
        let sizes : unsigned_abs (literal_at es j) ≡ unsigned_abs (literal_at es q) = ap unsigned_abs on ∙ unsigned_abs-neg_ℤ k ∙ sym size in
        let same : j ≡ q = same_place es ps j q placed (omega arith) less sizes in
        inr (omega arith, subst (λ (x : ℤ). IsAmong x reason) (on-literal es j q k on same) among)
  ]

  module _ (c : List ℤ) (off : IsFalse es c) (has : IsAmong (neg_ℤ (literal_at es p)) c) where
    pub clash-at : IsOnlyClash c reason (neg_ℤ (literal_at es p))
    clash-at = record {
      in_first = has;
      in_second = subst (λ (k : ℤ). IsAmong k reason) (sym (neg_ℤ-neg_ℤ (literal_at es p))) is.has;
      only = λ k in_first in_second. at k in_first (is.others (neg_ℤ k) in_second);
    }
      where
        at : (k : ℤ) → IsAmong k c → (neg_ℤ k ≡ literal_at es p) ⊎ IsOnBelow es p (neg_ℤ (neg_ℤ k)) → k ≡ neg_ℤ (literal_at es p)
        at k in_first (inl e) = sym (neg_ℤ-neg_ℤ k) ∙ ap neg_ℤ e
        at k in_first (inr below) = absurd (not_both_on es ps k placed (on_below es p k (omega arith) (subst (IsOnBelow es p) (neg_ℤ-neg_ℤ k) below)) (off k in_first))

    module _ (d : List ℤ) (r : IsResolvent c reason d) where
      abbrev pivot : r.literal ≡ neg_ℤ (literal_at es p)
      pivot = clash-at.only r.literal r.clash.in_first r.clash.in_second

      abbrev negated : neg_ℤ r.literal ≡ literal_at es p
      negated = ap neg_ℤ pivot ∙ neg_ℤ-neg_ℤ (literal_at es p)

      pub resolvent-off : IsFalse es d
      resolvent-off k among = elim ((r.left.exactly k).0 among) [
        | inl h ↦ off k h.0
        | inr h ↦ elim (is.others k h.0) [
          | inl e ↦ absurd (h.1 (e ∙ sym negated))
          | inr below ↦ on_below es p (neg_ℤ k) (omega arith) below
        ]
      ]

      -- places with the same variable are one
      other-size : (q : ℕ) → q < length es → q ≢ p → unsigned_abs (literal_at es q) ≡ unsigned_abs (literal_at es p) → ⊥
      other-size q less other e = other (same_place es ps q p placed less here e)

      pub resolvent-has : (q : ℕ) → q < length es → IsAmong (neg_ℤ (literal_at es q)) d ↔ ((q ≢ p) × (IsAmong (neg_ℤ (literal_at es q)) c ⊎ IsMetAt es reason q))
      resolvent-has q less = (
        λ among. elim ((r.left.exactly (neg_ℤ (literal_at es q))).0 among) [
          | inl h ↦ ((λ e. h.1 (ap (λ (j : ℕ). neg_ℤ (literal_at es j)) e ∙ sym pivot)), inl h.0)
          | inr h ↦ (
            λ e. elim (is.others (neg_ℤ (literal_at es q)) h.0) [
              | inl on ↦ h.1 (on ∙ sym negated)
              | inr (j, before, on) ↦
                  let same : j ≡ q = same_place es ps j q placed (omega arith) less (ap unsigned_abs (on ∙ neg_ℤ-neg_ℤ (literal_at es q))) in
                  omega arith
            ],
            inr (neg_ℤ (literal_at es q), h.0, sym (unsigned_abs-neg_ℤ (literal_at es q))),
          )
        ],
        λ h. elim h.1 [
          | inl among ↦ (r.left.exactly (neg_ℤ (literal_at es q))).1 (inl (among, λ e. other-size q less h.0 (sym (unsigned_abs-neg_ℤ (literal_at es q)) ∙ ap unsigned_abs (e ∙ pivot) ∙ unsigned_abs-neg_ℤ (literal_at es p))))
          | inr met ↦ elim (met-before q less met) [
            | inl e ↦ absurd (h.0 e)
            | inr before ↦ (r.left.exactly (neg_ℤ (literal_at es q))).1 (inr (before.1, λ e. other-size q less h.0 (sym (unsigned_abs-neg_ℤ (literal_at es q)) ∙ ap unsigned_abs (e ∙ negated))))
          ]
        ],
      )

-- what the reason's marks, and the place that is taken off, come to
pub marked-resolved : (known : List (List ℤ)) (es : List Entry) (ps : List ℕ) (chain : List ℕ) (old all : List Bool) (p n : ℕ) (reason : List ℤ)
    → AllByRecursion IsClause known → ArePlaced es ps → p < length es → numbered_clause known n ≡ Some reason → IsReason es p reason → IsVariableMarked old p → IsMarkedChain known es chain old
    → MarksAlso es (IsMetAt es reason) old all
    → IsMarkedChain known es (chain ++ n ∷ []) (set all p false)
marked-resolved known es ps chain old all p n reason clauses placed here at is on m also =
    let c : List ℤ = m.clause in
    let has : IsAmong (neg_ℤ (literal_at es p)) c = (m.marking.exactly p here).0 on in
    let (d, r) = resolvent-there c reason (neg_ℤ (literal_at es p)) m.marking.clause is.clause (clash-at es ps p reason placed here is c m.marking.all_false has) in
    let size : length all ≡ length es = also.sized ∙ m.marking.sized in
    record {
      clause = d;
      right = chain-push known chain c reason d n m.right at r;
      marking = record {
        sized = length-set all p false ∙ size;
        clause = IsResolvent-clause c reason d m.marking.clause is.clause r;
        all_false = resolvent-off es ps p reason placed here is c m.marking.all_false has d r;
        exactly = λ q less.
            let off = unmarked-at all p q (omega arith) in
            let there = resolvent-has es ps p reason placed here is c m.marking.all_false has d r q less in (
              λ marked. let h = off.0 marked in there.1 (h.0, elim ((also.exactly q less).0 h.1) [ inl was ↦ inl ((m.marking.exactly q less).0 was) | inr met ↦ inr met ]),
              λ among. let h = there.0 among in off.1 (h.0, elim h.1 [ inl was ↦ (also.exactly q less).1 (inl ((m.marking.exactly q less).1 was)) | inr met ↦ (also.exactly q less).1 (inr met) ]),
            );
      };
    }

pub marks-taken_off : (es : List Entry) (ps : List ℕ) (old all : List Bool) (p : ℕ) (reason : List ℤ)
    → ArePlaced es ps → p < length es → IsReason es p reason → length old ≡ length es → MarksAlso es (IsMetAt es reason) old all
    → IsTakenOff old (set all p false) p
marks-taken_off es ps old all p reason placed here is size also = let sized = also.sized in record {
  sized = length-set all p false ∙ sized;
  kept = λ q other marked. elim (cases_lt q (length es)) [
    | inl less ↦ (unmarked-at all p q (omega arith)).1 (other, (also.exactly q less).1 (inl marked))
    | inr past ↦ absurd (let less = marked-within old q marked in omega arith)
  ];
  above = λ q after less marked.
      let h = (unmarked-at all p q (omega arith)).0 marked in
      elim ((also.exactly q (omega arith)).0 h.1) [
        | inl was ↦ was
        | inr met ↦ elim (met-before es ps p reason placed here is q (omega arith) met) [ inl e ↦ absurd (h.0 e) | inr before ↦ absurd (let b = before.0 in omega arith) ]
      ];
  gone = λ marked. ((unmarked-at all p p (omega arith)).0 marked).0 refl;
}

-- ---- the first marks
pub marked-start : (es : List Entry) (ps : List ℕ) (c : List ℤ) (none marks : List Bool) → ArePlaced es ps → IsClause c → IsFalse es c
    → length none ≡ length es → ((q : ℕ) → ¬ IsVariableMarked none q) → MarksAlso es (IsMetAt es c) none marks → IsMarking es marks c
marked-start es ps c none marks placed clause off sized free also = record {
  sized = also.sized ∙ sized;
  clause = clause;
  all_false = off;
  exactly = λ q less. (
    λ marked. elim ((also.exactly q less).0 marked) [
      | inl was ↦ absurd (free q was)
      | inr (k, among, size) ↦
          let (j, less', on) = off k among in
          let same : j ≡ q = same_place es ps j q placed less' less (ap unsigned_abs on ∙ unsigned_abs-neg_ℤ k ∙ sym size) in
          subst (λ (x : ℤ). IsAmong x c) (on-literal es j q k on same) among
    ],
    λ among. (also.exactly q less).1 (inr (neg_ℤ (literal_at es q), among, sym (unsigned_abs-neg_ℤ (literal_at es q)))),
  );
}

-- what is late has a mark there
pub late-marked : (es : List Entry) (marks : List Bool) (c : List ℤ) (start : ℕ) → IsMarking es marks c → IsLate es start c → (length es ≤ start) ⊎ IsMarkedWithin marks start (length es)
late-marked es marks c start m (inr past) = inl past
late-marked es marks c start m (inl late) = elim (search-marks (length es)) [
  | inl found ↦ inr found
  | inr none ↦ absurd (late (λ k among.
      let (j, less, on) = m.all_false k among in
      elim (cases_lt j start) [
        | inl before ↦ (j, before, on)
        | inr after ↦ absurd (none j after less ((m.exactly j less).1 (subst (λ (x : ℤ). IsAmong x c) (on-literal es j j k on refl) among)))
      ]))
]
  where
    search-marks : (n : ℕ) → IsMarkedWithin marks start n ⊎ AreUnmarked marks start n
    search-marks zero = inr (λ p from to. absurd (omega arith))
    search-marks (suc n) = elim (search-marks n) [
      | inl (p, from, to, marked) ↦ inl (p, from, omega arith, marked)
      | inr none ↦ elim (marked-cases marks n) [
        | inl marked ↦ elim (cases_lt n start) [
          | inl before ↦ inr (λ p from to. absurd (omega arith))
          | inr after ↦ inl (n, after, omega arith, marked)
        ]
        | inr unmarked ↦ inr (λ p from to. elim (cases_eq p n) [
          | inl e ↦ subst (λ (q : ℕ). ¬ IsVariableMarked marks q) (sym e) unmarked
          | inr other ↦ none p from (omega arith)
        ])
      ]
    ]

-- ---- the clause in the end
pub marked-listing : (es : List Entry) (marks : List Bool) (c : List ℤ) → IsMarking es marks c → IsListing (IsOfMarks es marks (length marks)) LiteralBefore c
marked-listing es marks c m = record {
  exactly = λ k. (
    λ among.
        let (j, less, on) = m.all_false k among in
        let e : k ≡ neg_ℤ (literal_at es j) = on-literal es j j k on refl in
        let size = m.sized in
        (j, omega arith, (m.exactly j less).1 (subst (λ (x : ℤ). IsAmong x c) e among), e),
    λ (j, less, marked, e). let size = m.sized in subst (λ (x : ℤ). IsAmong x c) (sym e) ((m.exactly j (omega arith)).0 marked),
  );
  ascending = m.clause.1;
}

pub same-clause : (es : List Entry) (marks : List Bool) (c d : List ℤ) → IsMarking es marks c → IsListing (IsOfMarks es marks (length marks)) LiteralBefore d → c ≡ d
same-clause es marks c d m l = same_listing LiteralBefore before_asymmetric (IsOfMarks es marks (length marks)) c d (marked-listing es marks c m) l

pub single-marked : (es : List Entry) (ps : List ℕ) (marks : List Bool) (c : List ℤ) (start : ℕ) → ArePlaced es ps → IsMarking es marks c → IsSingleMark start marks → IsSingle es start c
single-marked es ps marks c start placed m s =
    let size = m.sized in
    let within : s.place < length es = (let w = s.within in omega arith) in
    let has : IsAmong (neg_ℤ (literal_at es s.place)) c = (m.exactly s.place within).0 s.marked in
    let (latest, is) = some-latest es ps c (neg_ℤ (literal_at es s.place)) placed m.all_false has in
    let here = is.here in
    let before = is.before in
    let marked : IsVariableMarked marks latest.place = (m.exactly latest.place here).1 is.has in
    let least : s.place ≤ latest.place = elim (is.others (neg_ℤ (literal_at es s.place)) has) [
      | inl e ↦
          let same : s.place ≡ latest.place = same_place es ps s.place latest.place placed within here (sym (unsigned_abs-neg_ℤ (literal_at es s.place)) ∙ ap unsigned_abs e ∙ unsigned_abs-neg_ℤ (literal_at es latest.place)) in
          omega arith
      | inr (j, less, on) ↦
          let same : j ≡ s.place = same_place es ps j s.place placed (omega arith) within (ap unsigned_abs (on ∙ neg_ℤ-neg_ℤ (literal_at es s.place))) in
          omega arith
    ] in
    let late = s.late in
    let same : latest.place ≡ s.place = s.only latest.place (omega arith) (omega arith) marked in
    (latest, is, others latest is same (cases_lt 0 latest.others), omega arith)
  where
    others : (latest : Latest) → IsLatest es c latest → latest.place ≡ s.place → ((0 < latest.others) ⊎ (latest.others ≤ 0)) → latest.others ≤ start
    others latest is same (inr none) = omega arith
    others latest is same (inl some) =
        let here = is.here in
        let before = is.before in
        let size = m.sized in
        let last : IsVariableMarked marks (latest.others - 1) = (m.exactly (latest.others - 1) (omega arith)).1 (is.last some) in
        elim (cases_lt (latest.others - 1) start) [
          | inl early ↦ omega arith
          | inr late ↦ absurd (let equal : latest.others - 1 ≡ s.place = s.only (latest.others - 1) late (omega arith) last in omega arith)
        ]

pub free-empty : (es : List Entry) (marks : List Bool) (c : List ℤ) → IsMarking es marks c → AreUnmarked marks 0 (length es) → c ≡ []
free-empty es marks c m free = nil_from_none c (λ k among.
    let (j, less, on) = m.all_false k among in
    free j (omega arith) less ((m.exactly j less).1 (subst (λ (x : ℤ). IsAmong x c) (on-literal es j j k on refl) among)))

-- ---- single marks
pub single-taken_off : (start : ℕ) (old new : List Bool) (p : ℕ) → p < start → IsTakenOff old new p → IsSingleMark start old → IsSingleMark start new
single-taken_off start old new p early off s =
    let size = off.sized in
    let late = s.late in
    let within = s.within in
    record {
      place = s.place;
      late = s.late;
      within = omega arith;
      marked = off.kept s.place (λ e. omega arith) s.marked;
      only = λ q from less marked. s.only q from (omega arith) (off.above q (omega arith) (omega arith) marked);
    }

pub free-taken_off : (n : ℕ) (old new : List Bool) (p : ℕ) → n ≡ length old → IsTakenOff old new p → AreUnmarked old (p + 1) n → AreUnmarked new p n
free-taken_off n old new p size off free q from less marked = elim (cases_eq q p) [
  | inl e ↦ off.gone (subst (IsVariableMarked new) e marked)
  | inr other ↦ free q (omega arith) less (off.above q (omega arith) (omega arith) marked)
]

pub free-more : (n : ℕ) (marks : List Bool) (p : ℕ) → ¬ IsVariableMarked marks p → AreUnmarked marks (p + 1) n → AreUnmarked marks p n
free-more n marks p unmarked free q from less marked = elim (cases_eq q p) [
  | inl e ↦ unmarked (subst (IsVariableMarked marks) e marked)
  | inr other ↦ free q (omega arith) less marked
]

-- ---- the variables of a clause, one after the other
pub met-more : (es : List Entry) (c : List ℤ) (i p : ℕ) → i < length c → IsMetAt es (take (i + 1) c) p ↔ (IsMetAt es (take i c) p ⊎ (unsigned_abs (literal_at es p) ≡ unsigned_abs (get_or c i (pos 0))))
met-more es c i p less = (
  λ (k, among, size). elim ((among_push k (take i c) (get_or c i (pos 0))).0 (subst (λ (xs : List ℤ). IsAmong k xs) (take_more c i (pos 0) less) among)) [
    | inl before ↦ inl (k, before, size)
    | inr e ↦ inr (size ∙ ap unsigned_abs e)
  ],
  λ either. elim either [
    | inl met ↦ let (k, among, size) = met in (k, back k (inl among), size)
    | inr size ↦ (get_or c i (pos 0), back (get_or c i (pos 0)) (inr refl), size)
  ],
)
  where
    back : (k : ℤ) → IsAmong k (take i c) ⊎ (k ≡ get_or c i (pos 0)) → IsAmong k (take (i + 1) c)
    back k h = subst (λ (xs : List ℤ). IsAmong k xs) (sym (take_more c i (pos 0) less)) ((among_push k (take i c) (get_or c i (pos 0))).1 h)

pub met-marked : (es : List Entry) (c : List ℤ) (i : ℕ) (x : ℤ) (old between new : List Bool) → i < length c → x ≡ get_or c i (pos 0) → MarksAlso es (IsMetAt es (take i c)) old between
    → MarksAlso es (λ p. unsigned_abs (literal_at es p) ≡ unsigned_abs x) between new → MarksAlso es (IsMetAt es (take (i + 1) c)) old new
met-marked es c i x old between new less read before one = record {
  sized = one.sized ∙ before.sized;
  exactly = λ p within. (
    λ marked. elim ((one.exactly p within).0 marked) [
      | inl b ↦ elim ((before.exactly p within).0 b) [ inl was ↦ inl was | inr met ↦ inr ((met-more es c i p less).1 (inl met)) ]
      | inr size ↦ inr ((met-more es c i p less).1 (inr (size ∙ ap unsigned_abs read)))
    ],
    λ either. elim either [
      | inl was ↦ (one.exactly p within).1 (inl ((before.exactly p within).1 (inl was)))
      | inr met ↦ elim ((met-more es c i p less).0 met) [
        | inl earlier ↦ (one.exactly p within).1 (inl ((before.exactly p within).1 (inr earlier)))
        | inr size ↦ (one.exactly p within).1 (inr (size ∙ ap unsigned_abs (sym read)))
      ]
    ],
  );
}

pub met-all : (es : List Entry) (c : List ℤ) (i : ℕ) (old new : List Bool) → length c ≤ i → MarksAlso es (IsMetAt es (take i c)) old new → MarksAlso es (IsMetAt es c) old new
met-all es c i old new past = subst (λ (xs : List ℤ). MarksAlso es (IsMetAt es xs) old new) (take_all i c past)

-- ---- the literals of the marks, one after the other
pub of_marks-free : (es : List Entry) (marks : List Bool) (n : ℕ) (c : List ℤ) → ¬ IsVariableMarked marks n → IsListing (IsOfMarks es marks n) LiteralBefore c → IsListing (IsOfMarks es marks (n + 1)) LiteralBefore c
of_marks-free es marks n c unmarked l = record {
  exactly = λ k. (
    λ among. let (p, less, marked, e) = (l.exactly k).0 among in (p, omega arith, marked, e),
    λ (p, less, marked, e). elim (cases_eq p n) [
      | inl same ↦ absurd (unmarked (subst (IsVariableMarked marks) same marked))
      | inr other ↦ (l.exactly k).1 (p, omega arith, marked, e)
    ],
  );
  ascending = l.ascending;
}

pub of_marks-more : (es : List Entry) (marks : List Bool) (n : ℕ) (c d : List ℤ) → IsVariableMarked marks n → IsListing (IsOfMarks es marks n) LiteralBefore c
    → IsListing (λ k. (k ≡ neg_ℤ (literal_at es n)) ⊎ IsAmong k c) LiteralBefore d → IsListing (IsOfMarks es marks (n + 1)) LiteralBefore d
of_marks-more es marks n c d here l l' = record {
  exactly = λ k. (
    λ among. elim ((l'.exactly k).0 among) [
      | inl e ↦ (n, omega arith, here, e)
      | inr there ↦ let (p, less, marked, e) = (l.exactly k).0 there in (p, omega arith, marked, e)
    ],
    λ (p, less, marked, e). elim (cases_eq p n) [
      | inl same ↦ (l'.exactly k).1 (inl (e ∙ ap (λ (j : ℕ). neg_ℤ (literal_at es j)) same))
      | inr other ↦ (l'.exactly k).1 (inr ((l.exactly k).1 (p, omega arith, marked, e)))
    ],
  );
  ascending = l'.ascending;
}

pub of_marks-none : (es : List Entry) (marks : List Bool) → IsListing (IsOfMarks es marks 0) LiteralBefore []
of_marks-none es marks = record { exactly = λ k. (λ none. absurd none, λ (p, less, marked, e). absurd (omega arith)); ascending = tt }

-- ---- no marks yet
pub none-marked : (n q : ℕ) → ¬ IsVariableMarked (replicate n false) q
none-marked zero q marked = true≢false (sym marked)
none-marked (suc n) zero marked = true≢false (sym marked)
none-marked (suc n) (suc q) marked = none-marked n q marked

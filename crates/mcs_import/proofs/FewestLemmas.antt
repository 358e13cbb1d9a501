-- The fewest changes that make each set, where one rule more may be changed.
use Rattle.std.proofs.Common.{◌≡◌, ℕ, ◌+◌, ◌<◌, ◌≤◌, zero, suc, Bool, true, false, cond, nat_lt, nat_le, ◌&&◌, List, [], ◌∷◌, ◌++◌, min, take, length, length-append, append_assoc, append-nil, get_or, refl, sym, ap, ◌∙◌, subst, inl, inr, ◌⊎◌, ◌↔◌, arith, true≢false}
use Rattle.std.proofs.lemmas.Bool.{cases_Bool, cases_lt}
use Rattle.std.proofs.lemmas.Bool.Decides.{nat_tests}
use Rattle.std.proofs.lemmas.List.{get_or_append_left, get_or_push, get_or_default, take_all}
use Rattle.std.proofs.Math.Seq.{get_or-append_seam}
use Rattle.std.specs.List.{AllByRecursion}
use Rattle.mcs_sets.specs.Sets.{has, single, union, minus, size, members, Within}
use Rattle.mcs_sets.proofs.Lattice.{minus_itself, minus-union_back, in_with, has-without_itself, single_within, in_minus, size-without, size_within, within_antisymmetric, none_from_no_member, no_member_of_none}
use Rattle.mcs_sets.proofs.Changes.{within_where_none, with_without, fewer_left, fewer_missing, beside_more}
use Rattle.mcs_base.specs.Listings.{IsAmong, IsAscending, IsListing}
use Rattle.mcs_base.proofs.Among.{among_right, among_push}
use Rattle.mcs_base.proofs.Each.{all_among}
use Rattle.mcs_base.proofs.ListingLemmas.{members_listing, IsListing-same, kept_more, left_out}
use Rattle.mcs_base.proofs.SetParts.{minus_less}
use Rattle.mcs_import.specs.Near.{IsNear}
use Rattle.mcs_import.specs.Fewest.{AreSetsOf, toggled, fewest_with, fewest_at, IsTable, AreTaken, picked}
use Rattle.mcs_import.proofs.SetTable.{toggled_within, toggled_set}
use Rattle.mcs_import.proofs.NearLemmas.{near_listed, near_without, near_with, put_back, taken_out}

-- near by changes of these rules alone
pub record IsNearBy (rules removable forcible : ℕ) (sets ds : List ℕ) (m x : ℕ) : Type 0 where
  pub near : IsNear rules removable forcible sets m x
  pub removed : (k : ℕ) → has (minus near.set x) k ≡ true → IsAmong k ds
  pub forced : (k : ℕ) → has (minus x near.set) k ≡ true → IsAmong k ds

module _ (rules removable forcible : ℕ) (sets : List ℕ) (inside : AllByRecursion (λ s. Within s rules) sets) where
  abbrev Near : ℕ → ℕ → Type 0
  Near m x = IsNear rules removable forcible sets m x

  abbrev NearBy : List ℕ → ℕ → ℕ → Type 0
  NearBy ds m x = IsNearBy rules removable forcible sets ds m x

  -- where none may be changed, those that are listed
  none_beside : (a b : ℕ) → ((k : ℕ) → has (minus a b) k ≡ true → ⊥) → minus a b ≡ 0
  none_beside a b none = none_from_no_member (minus a b) (λ k. elim (cases_Bool (has (minus a b) k)) [ inl is ↦ absurd (none k is) | inr out ↦ out ])

  pub near_by_none : (m x : ℕ) → IsAmong x sets ↔ IsNearBy rules removable forcible sets [] m x
  near_by_none m x = (to, from)
    where
      to : IsAmong x sets → NearBy [] m x
      to among = let h = near_listed rules removable forcible sets inside x among in record {
        near = record { of_rules = h.of_rules; set = h.set; listed = h.listed; removed = h.removed; forced = h.forced; near = omega (arith, h.near) };
        removed = λ k is. absurd (no_member_of_none (minus x x) (minus_itself x) k is);
        forced = λ k is. absurd (no_member_of_none (minus x x) (minus_itself x) k is);
      }

      from : NearBy [] m x → IsAmong x sets
      from h = subst (λ (s : ℕ). IsAmong s sets) (within_antisymmetric h.near.set x
          (within_where_none h.near.set x (none_beside h.near.set x h.removed))
          (within_where_none x h.near.set (none_beside x h.near.set h.forced))) h.near.listed

  -- where all may be
  pub near_by_all : (m x : ℕ) → IsNearBy rules removable forcible sets (members rules) m x ↔ IsNear rules removable forcible sets m x
  near_by_all m x = (
    λ h. h.near,
    λ h. record {
      near = h;
      removed = λ k is. ((members_listing rules).exactly k).1 (all_among (λ s. Within s rules) sets h.set inside h.listed k (in_minus h.set x k is).0);
      forced = λ k is. ((members_listing rules).exactly k).1 (h.of_rules k (in_minus x h.set k is).0);
    },
  )

  -- ---- one rule more
  module _ (ds ds' : List ℕ) (r : ℕ) (known : has rules r ≡ true) (more : (k : ℕ) → IsAmong k ds' ↔ (IsAmong k ds ⊎ (k ≡ r))) where
    -- the change of r to what x has is allowed
    abbrev may : ℕ → Bool
    may x = cond (has x r) (has forcible r) (has removable r)

    abbrev IsMore : ℕ → ℕ → Type 0
    IsMore m x = NearBy ds m x ⊎ ((may x ≡ true) × (n : ℕ) × (n < m) × NearBy ds n (toggled x r))

    fewer : (k : ℕ) → ¬ (k ≡ r) → IsAmong k ds' → IsAmong k ds
    fewer k differ among = elim ((more k).0 among) [ inl old ↦ old | inr same ↦ absurd (differ same) ]

    -- r was removed
    was_removed : (m x : ℕ) (h : NearBy ds' m x) → has (minus h.near.set x) r ≡ true → IsMore m x
    was_removed zero x h is = absurd (omega (arith, h.near.near, size-without (minus h.near.set x) r is))
    was_removed (suc n) x h is =
        let (member, out) = in_minus h.near.set x r is in
        let back : NearBy ds n (union x (single r)) = record {
          near = (put_back rules removable forcible sets inside n x h.near r is).0;
          removed = λ k is'. fewer k (λ e. true≢false (sym (has_itself x k e) ∙ (in_minus h.near.set (union x (single r)) k is').1)) (h.removed k (fewer_missing h.near.set x (single r) k is'));
          forced = λ k is'. elim (beside_more x h.near.set r k is') [
            | inl old ↦ fewer k (λ e. true≢false (sym member ∙ ap (has h.near.set) (sym e) ∙ (in_minus x h.near.set k old).1)) (h.forced k old)
            | inr same ↦ absurd (true≢false (sym member ∙ ap (has h.near.set) (sym same) ∙ (in_minus (union x (single r)) h.near.set k is').1))
          ];
        } in
        inr (rw out (h.near.removed r is), n, omega arith, rw out back)
      where
        has_itself : (x k : ℕ) → k ≡ r → has (union x (single r)) k ≡ true
        has_itself x k e = (in_with x r k).1 (inr e)

    -- r was forced
    was_forced : (m x : ℕ) (h : NearBy ds' m x) → has (minus x h.near.set) r ≡ true → IsMore m x
    was_forced zero x h is = absurd (omega (arith, h.near.near, size-without (minus x h.near.set) r is))
    was_forced (suc n) x h is =
        let (member, out) = in_minus x h.near.set r is in
        let back : NearBy ds n (minus x (single r)) = record {
          near = (taken_out rules removable forcible sets inside n x h.near r is).0;
          removed = λ k is'. elim (minus_less h.near.set x r k is') [
            | inl old ↦ fewer k (λ e. true≢false (sym member ∙ ap (has x) (sym e) ∙ (in_minus h.near.set x k old).1)) (h.removed k old)
            | inr same ↦ absurd (true≢false (sym ((in_minus h.near.set (minus x (single r)) k is').0) ∙ ap (has h.near.set) same ∙ out))
          ];
          forced = λ k is'. fewer k (λ e. true≢false (sym ((in_minus (minus x (single r)) h.near.set k is').0) ∙ ap (has (minus x (single r))) e ∙ has-without_itself x r)) (h.forced k (fewer_left x h.near.set (single r) k is'));
        } in
        inr (rw member (h.near.forced r is), n, omega arith, rw member back)

    -- r was not changed
    unchanged : (m x : ℕ) (h : NearBy ds' m x) → has (minus h.near.set x) r ≡ false → has (minus x h.near.set) r ≡ false → NearBy ds m x
    unchanged m x h out out' = record {
      near = h.near;
      removed = λ k is. fewer k (λ e. true≢false (sym is ∙ ap (has (minus h.near.set x)) e ∙ out)) (h.removed k is);
      forced = λ k is. fewer k (λ e. true≢false (sym is ∙ ap (has (minus x h.near.set)) e ∙ out')) (h.forced k is);
    }

    less_so : (m x : ℕ) → NearBy ds' m x → IsMore m x
    less_so m x h = elim (cases_Bool (has (minus h.near.set x) r)) [
      | inl is ↦ was_removed m x h is
      | inr out ↦ elim (cases_Bool (has (minus x h.near.set) r)) [ inl is ↦ was_forced m x h is | inr out' ↦ inl (unchanged m x h out out') ]
    ]

    removed_too : (m n y : ℕ) → n < m → NearBy ds n y → has removable r ≡ true → NearBy ds' m (minus y (single r))
    removed_too m n y less h is = record {
      near = near_without rules removable forcible sets inside n m y r less h.near is;
      removed = λ k is'. (more k).1 (elim (minus_less h.near.set y r k is') [ inl old ↦ inl (h.removed k old) | inr same ↦ inr same ]);
      forced = λ k is'. (more k).1 (inl (h.forced k (fewer_left y h.near.set (single r) k is')));
    }

    forced_too : (m n y : ℕ) → n < m → NearBy ds n y → has forcible r ≡ true → NearBy ds' m (union y (single r))
    forced_too m n y less h is = record {
      near = near_with rules removable forcible sets inside n m y r less h.near is known;
      removed = λ k is'. (more k).1 (inl (h.removed k (fewer_missing h.near.set y (single r) k is')));
      forced = λ k is'. (more k).1 (elim (beside_more y h.near.set r k is') [ inl old ↦ inl (h.forced k old) | inr same ↦ inr same ]);
    }

    more_so : (m x : ℕ) → IsMore m x → NearBy ds' m x
    more_so m x (inl h) = record { near = h.near; removed = λ k is. (more k).1 (inl (h.removed k is)); forced = λ k is. (more k).1 (inl (h.forced k is)) }
    more_so m x (inr (allowed, n, less, h)) = elim (cases_Bool (has x r)) [
      | inl is ↦ subst (λ (z : ℕ). NearBy ds' m z) (minus-union_back x (single r) (single_within r x is)) (forced_too m n (minus x (single r)) less (rw is at h) (rw is at allowed))
      | inr out ↦ subst (λ (z : ℕ). NearBy ds' m z) (with_without x r out) (removed_too m n (union x (single r)) less (rw out at h) (rw out at allowed))
    ]

    pub near_by_more : (m x : ℕ) → IsNearBy rules removable forcible sets ds' m x ↔ (IsNearBy rules removable forcible sets ds m x ⊎ ((cond (has x r) (has forcible r) (has removable r) ≡ true) × (n : ℕ) × (n < m) × IsNearBy rules removable forcible sets ds n (toggled x r)))
    near_by_more m x = (less_so m x, more_so m x)

-- ---- the table, with one rule more
pub table_same : (Near Near' : ℕ → ℕ → Type 0) (all fewest : List ℕ) → ((m x : ℕ) → Near m x ↔ Near' m x) → IsTable Near all fewest → IsTable Near' all fewest
table_same Near Near' all fewest same table = record {
  long = table.long;
  tells = λ p m less few. (λ h. (same m (get_or all p 0)).0 ((table.tells p m less few).0 h), λ h. (table.tells p m less few).1 ((same m (get_or all p 0)).1 h));
}

pub fewest_with_tells : (b : Bool) (here there m : ℕ) → (fewest_with b here there ≤ m) ↔ ((here ≤ m) ⊎ ((b ≡ true) × (there < m)))
fewest_with_tells b here there m = elim (cases_lt there here) [
  | inl less ↦ at_less (nat_lt there here) b (let e : nat_lt there here ≡ true = grind (arith, nat_tests) in e) less
  | inr past ↦ at_past (nat_lt there here) b (let e : nat_lt there here ≡ false = grind (arith, nat_tests) in e) past
]
  where
    at_less : (t b : Bool) → t ≡ true → there < here → (cond (t && b) (there + 1) here ≤ m) ↔ ((here ≤ m) ⊎ ((b ≡ true) × (there < m)))
    at_less true true is less = (λ h. inr (refl, omega (arith, h)), λ h. elim h [ inl old ↦ omega (arith, old) | inr both ↦ omega (arith, both.1) ])
    at_less true false is less = (λ h. inl h, λ h. elim h [ inl old ↦ old | inr both ↦ absurd (true≢false (sym both.0)) ])
    at_less false b is less = absurd (true≢false (sym is))

    at_past : (t b : Bool) → t ≡ false → here ≤ there → (cond (t && b) (there + 1) here ≤ m) ↔ ((here ≤ m) ⊎ ((b ≡ true) × (there < m)))
    at_past false b is past = (λ h. inl h, λ h. elim h [ inl old ↦ old | inr both ↦ omega (arith, both.1) ])
    at_past true b is past = absurd (true≢false is)

-- ---- tables that are made place by place
pub taken_begins : (f : ℕ → ℕ) (n : ℕ) (xs : List ℕ) → n ≡ 0 → xs ≡ [] → AreTaken f n xs
taken_begins f n xs zero_count none = record { long = ap (λ (ys : List ℕ). length ys) none ∙ sym zero_count; each = λ p less. absurd (omega arith) }

pub taken_more : (f : ℕ → ℕ) (n v n' : ℕ) (xs ys : List ℕ) → AreTaken f n xs → ys ≡ xs ++ v ∷ [] → v ≡ f n → n' ≡ n + 1 → AreTaken f n' ys
taken_more f n v n' xs ys h is is' next = record {
  long = omega (arith, ap (λ (zs : List ℕ). length zs) is, length-append xs (v ∷ []), h.long, next);
  each = λ p less. ap (λ (zs : List ℕ). get_or zs p 0) is ∙ elim (cases_lt p n) [
    | inl old ↦ get_or_append_left xs (v ∷ []) 0 p (omega (arith, old, h.long)) ∙ h.each p old
    | inr past ↦ let e : n ≡ p = omega arith in get_or_push xs v 0 p (h.long ∙ e) ∙ is' ∙ ap f e
  ];
}

-- the first so many places of a table
pub record IsFront (Near : ℕ → ℕ → Type 0) (all : List ℕ) (count : ℕ) (fewest : List ℕ) : Type 0 where
  pub long : length fewest ≡ count
  pub within : count ≤ length all
  pub tells : (p m : ℕ) → p < count → m < 255 → (get_or fewest p 0 ≤ m) ↔ Near m (get_or all p 0)

pub front_begins : (Near : ℕ → ℕ → Type 0) (all : List ℕ) (count : ℕ) (fewest : List ℕ) → count ≡ 0 → fewest ≡ [] → IsFront Near all count fewest
front_begins Near all count fewest zero_count none = record { long = ap (λ (ys : List ℕ). length ys) none ∙ sym zero_count; within = omega arith; tells = λ p m less few. absurd (omega arith) }

pub front_more : (Near : ℕ → ℕ → Type 0) (all : List ℕ) (count v count' : ℕ) (fewest next : List ℕ) → IsFront Near all count fewest → count < length all → next ≡ fewest ++ v ∷ []
    → ((m : ℕ) → m < 255 → (v ≤ m) ↔ Near m (get_or all count 0)) → count' ≡ count + 1 → IsFront Near all count' next
front_more Near all count v count' fewest next h less is told one_more = record {
  long = omega (arith, ap (λ (zs : List ℕ). length zs) is, length-append fewest (v ∷ []), h.long, one_more);
  within = omega (arith, less, one_more);
  tells = λ p m less' few. elim (cases_lt p count) [
    | inl old ↦
        let e : get_or next p 0 ≡ get_or fewest p 0 = ap (λ (zs : List ℕ). get_or zs p 0) is ∙ get_or_append_left fewest (v ∷ []) 0 p (omega (arith, old, h.long)) in
        let law = h.tells p m old few in
        (λ le. law.0 (omega (arith, le, e)), λ near. let le = law.1 near in omega (arith, le, e))
    | inr past ↦
        let same : count ≡ p = omega (arith, past, less', one_more) in
        let e : get_or next p 0 ≡ v = ap (λ (zs : List ℕ). get_or zs p 0) is ∙ get_or_push fewest v 0 p (h.long ∙ same) in
        let law = told m few in
        (λ le. subst (λ (k : ℕ). Near m (get_or all k 0)) same (law.0 (omega (arith, le, e))), λ near. let le = law.1 (subst (λ (k : ℕ). Near m (get_or all k 0)) (sym same) near) in omega (arith, le, e))
  ];
}

pub front_ends : (Near : ℕ → ℕ → Type 0) (all : List ℕ) (count : ℕ) (fewest : List ℕ) → length all ≤ count → IsFront Near all count fewest → IsTable Near all fewest
front_ends Near all count fewest past h = record { long = omega (arith, past, h.long, h.within); tells = λ p m less few. h.tells p m (omega (arith, past, less)) few }

module _ (Near Near' : ℕ → ℕ → Type 0) (all fewest next : List ℕ) (bit : ℕ) (removable forcible : Bool) (table : IsTable Near all fewest)
    (taken : AreTaken (fewest_at fewest bit removable forcible) (length fewest) next)
    (closed : (p : ℕ) → p < length all → toggled p bit < length all)
    (means : (p m : ℕ) → p < length all → Near' m (get_or all p 0) ↔ (Near m (get_or all p 0) ⊎ ((cond (has p bit) forcible removable ≡ true) × (n : ℕ) × (n < m) × Near n (get_or all (toggled p bit) 0)))) where
  pub table_more : IsTable Near' all next
  table_more = record {
    long = taken.long ∙ table.long;
    tells = λ p m less few.
        let may : Bool = cond (has p bit) forcible removable in
        let here : ℕ = get_or fewest p 0 in
        let there : ℕ = get_or fewest (toggled p bit) 0 in
        let is : get_or next p 0 ≡ fewest_with may here there = taken.each p (omega (arith, less, table.long)) in
        let law = fewest_with_tells may here there m in
        let other = closed p less in (
          λ h. (means p m less).1 (elim (law.0 (omega (arith, h, is))) [
            | inl old ↦ inl ((table.tells p m less few).0 old)
            | inr (allowed, fewer) ↦ inr (allowed, there, fewer, (table.tells (toggled p bit) there other (omega (arith, fewer, few))).0 (omega arith))
          ]),
          λ h. let less' : fewest_with may here there ≤ m = law.1 (elim ((means p m less).0 h) [
            | inl old ↦ inl ((table.tells p m less few).1 old)
            | inr (allowed, n, fewer, near) ↦ inr (allowed, (let le = (table.tells (toggled p bit) n other (omega (arith, fewer, few))).1 near in omega (arith, le, fewer)))
          ]) in omega (arith, less', is),
        );
  }

-- ---- no more changes than rules are removed or forced
pub near_enough : (rules removable forcible : ℕ) (sets : List ℕ) → AllByRecursion (λ s. Within s rules) sets → (level most x : ℕ) → size rules + size rules ≤ most → IsNear rules removable forcible sets level x → IsNear rules removable forcible sets (min level most) x
near_enough rules removable forcible sets inside level most x few h = record {
  of_rules = h.of_rules;
  set = h.set;
  listed = h.listed;
  removed = h.removed;
  forced = h.forced;
  near = omega (
    arith,
    few,
    h.near,
    size_within (minus h.set x) rules (λ k is. all_among (λ s. Within s rules) sets h.set inside h.listed k (in_minus h.set x k is).0),
    size_within (minus x h.set) rules (λ k is. h.of_rules k (in_minus x h.set k is).0),
  );
}

pub near_further : (rules removable forcible : ℕ) (sets : List ℕ) (n m x : ℕ) → n ≤ m → IsNear rules removable forcible sets n x → IsNear rules removable forcible sets m x
near_further rules removable forcible sets n m x less h = record { of_rules = h.of_rules; set = h.set; listed = h.listed; removed = h.removed; forced = h.forced; near = omega (arith, less, h.near) }

-- ---- going along the rules
module _ (rules removable forcible : ℕ) (sets all : List ℕ) where
  -- the table of the rules that are done, so many of them
  pub record IsTableSoFar (count : ℕ) (rest fewest : List ℕ) : Type 0 where
    pub done : List ℕ
    pub whole : done ++ rest ≡ members rules
    pub counted : length done ≡ count
    pub table : IsTable (IsNearBy rules removable forcible sets done) all fewest

  module _ (inside : AllByRecursion (λ s. Within s rules) sets) (are_sets : AreSetsOf (members rules) all) where
    pub table_begins : (count : ℕ) (rest fewest : List ℕ) → count ≡ 0 → rest ≡ members rules → IsTable (λ m x. IsAmong x sets) all fewest → IsTableSoFar count rest fewest
    table_begins count rest fewest zero_count is table = record {
      done = [];
      whole = is;
      counted = sym zero_count;
      table = table_same (λ m x. IsAmong x sets) (IsNearBy rules removable forcible sets []) all fewest (λ m x. near_by_none rules removable forcible sets inside m x) table;
    }

    pub table_ends : (count : ℕ) (rest fewest : List ℕ) → rest ≡ [] → IsTableSoFar count rest fewest → IsTable (IsNear rules removable forcible sets) all fewest
    table_ends count rest fewest none h =
        let is : h.done ≡ members rules = sym (append-nil h.done) ∙ ap (λ (xs : List ℕ). h.done ++ xs) (sym none) ∙ h.whole in
        table_same (IsNearBy rules removable forcible sets (members rules)) (IsNear rules removable forcible sets) all fewest (λ m x. near_by_all rules removable forcible sets inside m x)
        (subst (λ (ds : List ℕ). IsTable (IsNearBy rules removable forcible sets ds) all fewest) is h.table)

    module _ (count r : ℕ) (rest fewest : List ℕ) (h : IsTableSoFar count (r ∷ rest) fewest) where
      few : count < length (members rules)
      few = omega (arith, h.counted, ap (λ (xs : List ℕ). length xs) h.whole, length-append h.done (r ∷ rest))

      is_rule : get_or (members rules) count 0 ≡ r
      is_rule = subst (λ (xs : List ℕ). get_or xs count 0 ≡ r) h.whole (subst (λ (n : ℕ). get_or (h.done ++ r ∷ rest) n 0 ≡ r) h.counted (get_or-append_seam h.done r rest 0))

      rising : IsAscending (λ (a b : ℕ). a < b) (members rules)
      rising = (members_listing rules).ascending

      known : has rules r ≡ true
      known = ((members_listing rules).exactly r).0 (subst (IsAmong r) h.whole (among_right r h.done (r ∷ rest) (inl refl)))

      pub closed_so_far : (p : ℕ) → p < length all → toggled p count < length all
      closed_so_far p less = toggled_within (members rules) all are_sets rising p count less few

      pub closed_places : (p : ℕ) → p < length fewest → toggled p count < length fewest
      closed_places p less = let within = closed_so_far p (omega (arith, less, h.table.long)) in omega (arith, within, h.table.long)

      pub table_goes_on : (bit : ℕ) (may_go may_come : Bool) (next rest' : List ℕ) (count' : ℕ) → bit ≡ count → may_go ≡ has removable r → may_come ≡ has forcible r
          → AreTaken (fewest_at fewest bit may_go may_come) (length fewest) next → rest' ≡ rest → count' ≡ count + 1 → IsTableSoFar count' rest' next
      table_goes_on bit may_go may_come next rest' count' at_bit goes comes taken is_rest is_count = record {
        done = h.done ++ r ∷ [];
        whole = ap (λ (xs : List ℕ). (h.done ++ r ∷ []) ++ xs) is_rest ∙ append_assoc h.done (r ∷ []) rest ∙ h.whole;
        counted = omega (arith, h.counted, is_count, length-append h.done (r ∷ []));
        table = table_more (IsNearBy rules removable forcible sets h.done) (IsNearBy rules removable forcible sets (h.done ++ r ∷ [])) all fewest next count (has removable r) (has forcible r) h.table
            (subst (λ (b : Bool). AreTaken (fewest_at fewest count b (has forcible r)) (length fewest) next) goes
            (subst (λ (b : Bool). AreTaken (fewest_at fewest count may_go b) (length fewest) next) comes
            (subst (λ (n : ℕ). AreTaken (fewest_at fewest n may_go may_come) (length fewest) next) at_bit taken)))
            closed_so_far means;
      }
        where
          means : (p m : ℕ) → p < length all → IsNearBy rules removable forcible sets (h.done ++ r ∷ []) m (get_or all p 0)
              ↔ (IsNearBy rules removable forcible sets h.done m (get_or all p 0)
              ⊎ ((cond (has p count) (has forcible r) (has removable r) ≡ true) × (n : ℕ) × (n < m) × IsNearBy rules removable forcible sets h.done n (get_or all (toggled p count) 0)))
          means p m less =
              let bit_is : has (get_or all p 0) r ≡ has p count = ap (has (get_or all p 0)) (sym is_rule) ∙ are_sets.bits p count less few in
              let other_is : get_or all (toggled p count) 0 ≡ toggled (get_or all p 0) r = toggled_set (members rules) all are_sets rising p count less few ∙ ap (toggled (get_or all p 0)) is_rule in
              subst (λ (y : ℕ). IsNearBy rules removable forcible sets (h.done ++ r ∷ []) m (get_or all p 0)
              ↔ (IsNearBy rules removable forcible sets h.done m (get_or all p 0)
              ⊎ ((cond (has p count) (has forcible r) (has removable r) ≡ true) × (n : ℕ) × (n < m) × IsNearBy rules removable forcible sets h.done n y))) (sym other_is)
              (subst (λ (b : Bool). IsNearBy rules removable forcible sets (h.done ++ r ∷ []) m (get_or all p 0)
              ↔ (IsNearBy rules removable forcible sets h.done m (get_or all p 0)
              ⊎ ((cond b (has forcible r) (has removable r) ≡ true) × (n : ℕ) × (n < m) × IsNearBy rules removable forcible sets h.done n (toggled (get_or all p 0) r)))) bit_is
              (near_by_more rules removable forcible sets inside h.done (h.done ++ r ∷ []) r known (λ k. among_push k h.done r) m (get_or all p 0)))

-- ---- those that are near enough, place by place
module _ (rules removable forcible : ℕ) (sets all fewest : List ℕ) (inside : AllByRecursion (λ s. Within s rules) sets) (are_sets : AreSetsOf (members rules) all)
    (table : IsTable (IsNear rules removable forcible sets) all fewest) (level most : ℕ) (few : size rules + size rules ≤ most) (small : most < 255) where
  abbrev IsHere : ℕ → ℕ → Type 0
  IsHere i y = IsAmong y (take i all) × IsNear rules removable forcible sets level y

  picked_more : (i : ℕ) → suc i ≤ length all → IsListing (IsHere i) (λ (a b : ℕ). a < b) (picked all fewest (min level most) i)
      → IsListing (IsHere (suc i)) (λ (a b : ℕ). a < b) (picked all fewest (min level most) (suc i))
  picked_more i within old = at (nat_le (get_or fewest i 0) (min level most)) refl
    where
      x : ℕ
      x = get_or all i 0

      before : List ℕ
      before = picked all fewest (min level most) i

      here : x ≡ get_or all i x
      here = get_or_default all i 0 x (omega arith)

      up : IsAscending (λ (a b : ℕ). a < b) all
      up = are_sets.listing.ascending

      one_more : i + 1 ≡ suc i
      one_more = omega arith

      at : (b : Bool) → nat_le (get_or fewest i 0) (min level most) ≡ b → IsListing (IsHere (suc i)) (λ (a b : ℕ). a < b) (cond b (before ++ x ∷ []) before)
      at true e =
          let le : get_or fewest i 0 ≤ min level most = grind (arith, nat_tests) in
          let near = near_further rules removable forcible sets (min level most) level x (omega arith) ((table.tells i (min level most) (omega arith) (omega (arith, small))).0 le) in
          subst (λ (k : ℕ). IsListing (IsHere k) (λ (a b : ℕ). a < b) (before ++ x ∷ [])) one_more
          (kept_more (λ (a b : ℕ). a < b) (λ y. IsNear rules removable forcible sets level y) all i x (omega arith) here up before near old)
      at false e =
          let past : min level most < get_or fewest i 0 = grind (arith, nat_tests) in
          let apart : ¬ IsNear rules removable forcible sets level x = λ h.
          let le = (table.tells i (min level most) (omega arith) (omega (arith, small))).1 (near_enough rules removable forcible sets inside level most x few h) in omega (arith, le, past) in
          subst (λ (k : ℕ). IsListing (IsHere k) (λ (a b : ℕ). a < b) before) one_more
          (left_out (λ (a b : ℕ). a < b) (λ y. IsNear rules removable forcible sets level y) all i x (omega arith) here before apart old)

  picked_up_to : (i : ℕ) → i ≤ length all → IsListing (IsHere i) (λ (a b : ℕ). a < b) (picked all fewest (min level most) i)
  picked_up_to zero within = record { exactly = λ y. (λ none. absurd none, λ both. absurd both.0); ascending = tt }
  picked_up_to (suc i) within = picked_more i within (picked_up_to i (omega arith))

  pub picked_listing : (near : List ℕ) → near ≡ picked all fewest (min level most) (length all) → IsListing (IsNear rules removable forcible sets level) (λ (a b : ℕ). a < b) near
  picked_listing near is = subst (IsListing (IsNear rules removable forcible sets level) (λ (a b : ℕ). a < b)) (sym is)
      (IsListing-same (λ (a b : ℕ). a < b) (IsHere (length all)) (IsNear rules removable forcible sets level) (picked all fewest (min level most) (length all))
      (λ y. (λ both. both.1, λ h. (subst (IsAmong y) (sym (take_all (length all) all (omega arith))) ((are_sets.listing.exactly y).1 (λ k is. ((members_listing rules).exactly k).1 (h.of_rules k is))), h)))
      (picked_up_to (length all) (omega arith)))

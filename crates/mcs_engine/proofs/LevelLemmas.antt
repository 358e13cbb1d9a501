-- The levels of a trail: where they begin, and what is on each.
use Rattle.std.proofs.Common.{◌≡◌, ℕ, ◌+◌, ◌-◌, ◌<◌, ◌≤◌, zero, suc, List, [], ◌∷◌, ◌++◌, ◌⊎◌, inl, inr, refl, sym, ap, ◌∙◌, subst, arith, ℤ, pos, map, length, take, drop, get_or, Some, slice_get}
use Rattle.std.specs.List.{AllByRecursion}
use Rattle.std.proofs.lemmas.Bool.{cases_lt}
use Rattle.std.proofs.lemmas.List.{drop_more, get_or_append_left, get_or-append_right, get_or_push, get_or-take, length-append, length_push, length-take, length-take-le, take-append-drop, take-append-le, take-take, take_all, take_at, take_more}
use Rattle.std.proofs.lemmas.Option.{slice_get_within, slice_get-get_or, get_or_from_slice_get}
use Rattle.std.proofs.Math.Seq.{take-append-add}
use Rattle.mcs_base.specs.Listings.{IsAmong}
use Rattle.mcs_base.proofs.Among.{among_at}
use Rattle.mcs_base.proofs.Each.{all_among}
use Rattle.mcs_base.proofs.Lists.{slice_get-append_left, slice_get_seam}
use Rattle.mcs_base.proofs.Lasts.{AddsLast, onto_first, adds-after, adds-onto, adds-as}
use Rattle.mcs_base.proofs.NumberCases.{cases_zero, cond_at_zero, cond_above_zero}
use Rattle.mcs_engine.specs.declared.state.Reach.{Reach}
use Rattle.mcs_engine.specs.declared.trail.Entry.{Entry}
use Rattle.mcs_engine.specs.Learning.{AreImplied}
use Rattle.mcs_engine.specs.States.{AreStarts}
use Rattle.mcs_engine.specs.Trails.{AreLevelled, GrowsOnLevel, decisions, first_level, later_levels, level_at, levels_of, literal_at, reason_at}

abbrev no_entry : Entry
no_entry = record { literal = pos 0; reason = 0; level = 0 }

abbrev IsImplied : ℕ → Entry → Type 0
IsImplied level e = (0 < e.reason) × (e.level ≡ level)

-- ---- how many are decided
pub decisions-append : (xs ys : List Entry) → decisions (xs ++ ys) ≡ decisions xs + decisions ys
decisions-append [] ys = omega arith
decisions-append (x ∷ xs) ys = omega (arith, decisions-append xs ys)

decisions-decided : (e : Entry) (es : List Entry) → e.reason ≡ 0 → decisions (e ∷ es) ≡ decisions es + 1
decisions-decided e es none = omega (arith, cond_at_zero {A = ℕ} e.reason 1 0 none)

decisions-implied : (e : Entry) (es : List Entry) → 0 < e.reason → decisions (e ∷ es) ≡ decisions es
decisions-implied e es some = omega (arith, cond_above_zero {A = ℕ} e.reason 1 0 some)

decisions-none : (level : ℕ) (more : List Entry) → AllByRecursion (IsImplied level) more → decisions more ≡ 0
decisions-none level [] all = refl
decisions-none level (e ∷ more) all = decisions-implied e more all.0.0 ∙ decisions-none level more all.1

decisions-part : (n : ℕ) (es : List Entry) → decisions (take n es) ≤ decisions es
decisions-part n es = omega (arith, ap decisions (take-append-drop n es), decisions-append (take n es) (drop n es))

-- the more literals, the more of them are decided
pub decisions-longer : (m n : ℕ) (es : List Entry) → m ≤ n → decisions (take m es) ≤ decisions (take n es)
decisions-longer m n es at_most = omega (arith, ap decisions (take-take m n es at_most), decisions-part m (take n es))

-- a decision is one more
pub decisions-next : (es : List Entry) (i : ℕ) → i < length es → reason_at es i ≡ 0 → decisions (take (i + 1) es) ≡ decisions (take i es) + 1
decisions-next es i less none =
    let next : take (i + 1) es ≡ take i es ++ get_or es i no_entry ∷ [] = take_more es i no_entry less in
    let one : decisions (get_or es i no_entry ∷ []) ≡ 0 + 1 = decisions-decided (get_or es i no_entry) [] none in
    omega (arith, ap decisions next, decisions-append (take i es) (get_or es i no_entry ∷ []), one)

-- ---- each literal has its level
levelled-kept : (es more : List Entry) (i : ℕ) → AreLevelled es → i < length es → level_at (es ++ more) i ≡ decisions (take (i + 1) (es ++ more))
levelled-kept es more i levelled less =
    ap (λ (e : Entry). e.level) (get_or_append_left es more no_entry i less) ∙ levelled i less ∙ sym (ap decisions (take-append-le (i + 1) es more (omega arith)))

decisions-same : (es more : List Entry) (level n : ℕ) → AllByRecursion (IsImplied level) more → decisions (es ++ take n more) ≡ decisions es
decisions-same es more level n all = omega (arith, decisions-append es (take n more), decisions-part n more, decisions-none level more all)

pub levelled-more : (level : ℕ) (es new : List Entry) → AreLevelled es → GrowsOnLevel level es new → level ≡ decisions es → AreLevelled new × (decisions new ≡ decisions es)
levelled-more level es new levelled (more, is, all) e = subst (λ (x : List Entry). AreLevelled x × (decisions x ≡ decisions es)) (sym is) (
  λ i less. elim (cases_lt i (length es)) [
    | inl old ↦ levelled-kept es more i levelled old
    | inr past ↦ later i less past
  ],
  omega (arith, decisions-append es more, decisions-none level more all),
)
  where
    later : (i : ℕ) → i < length (es ++ more) → length es ≤ i → level_at (es ++ more) i ≡ decisions (take (i + 1) (es ++ more))
    later i less past =
        let within : i - length es < length more = omega (arith, length-append es more) in
        let here : IsImplied level (get_or more (i - length es) no_entry) = all_among (IsImplied level) more (get_or more (i - length es) no_entry) all (among_at more (i - length es) no_entry within) in
        let at : i + 1 ≡ length es + (i + 1 - length es) = omega arith in
        let taken : take (i + 1) (es ++ more) ≡ es ++ take (i + 1 - length es) more = ap (λ (n : ℕ). take n (es ++ more)) at ∙ take-append-add es more (i + 1 - length es) in
        ap (λ (x : Entry). x.level) (get_or-append_right es more (length es) i no_entry refl past) ∙ here.1 ∙ e ∙ sym (ap decisions taken ∙ decisions-same es more level (i + 1 - length es) all)

pub decisions-decide : (es : List Entry) (e : Entry) → e.reason ≡ 0 → decisions (es ++ e ∷ []) ≡ decisions es + 1
decisions-decide es e none = omega (arith, decisions-append es (e ∷ []), decisions-decided e [] none)

pub levelled-decide : (es : List Entry) (e : Entry) → AreLevelled es → e.reason ≡ 0 → e.level ≡ decisions es + 1 → AreLevelled (es ++ e ∷ [])
levelled-decide es e levelled none level i less = elim (cases_lt i (length es)) [
  | inl old ↦ levelled-kept es (e ∷ []) i levelled old
  | inr past ↦
      let at : length es ≡ i = omega (arith, length_push es e) in
      let all : take (i + 1) (es ++ e ∷ []) ≡ es ++ e ∷ [] = take_all (i + 1) (es ++ e ∷ []) (omega (arith, length_push es e)) in
      ap (λ (x : Entry). x.level) (get_or_push es e no_entry i at) ∙ level ∙ sym (ap decisions all ∙ decisions-decide es e none)
]

pub levelled-back : (n : ℕ) (es : List Entry) → AreLevelled es → AreLevelled (take n es)
levelled-back n es levelled i less =
    let within : i < length es = omega (arith, length-take n es) in
    let below : i < n = omega (arith, length-take n es) in
    ap (λ (x : Entry). x.level) (get_or-take n es i no_entry below) ∙ levelled i within ∙ sym (ap decisions (take-take (i + 1) n es (omega arith)))

-- ---- where the levels begin
start-kept : (es more : List Entry) (k : ℕ) (r : Reach) → (r.entries < length es) × (reason_at es r.entries ≡ 0) × (decisions (take r.entries es) ≡ k)
    → (r.entries < length (es ++ more)) × (reason_at (es ++ more) r.entries ≡ 0) × (decisions (take r.entries (es ++ more)) ≡ k)
start-kept es more k r (less, none, count) = (
  omega (arith, length-append es more),
  ap (λ (e : Entry). e.reason) (get_or_append_left es more no_entry r.entries less) ∙ none,
  ap decisions (take-append-le r.entries es more (omega arith)) ∙ count,
)

pub starts-more : (level : ℕ) (es new : List Entry) (levels : List Reach) → AreStarts es levels → GrowsOnLevel level es new → AreStarts new levels
starts-more level es new levels s (more, is, all) = subst (λ (x : List Entry). AreStarts x levels) (sym is) (record {
  count = omega (arith, s.count, decisions-append es more, decisions-none level more all);
  start = λ k r at. start-kept es more k r (s.start k r at);
})

pub starts-decide : (es : List Entry) (levels : List Reach) (e : Entry) (r : Reach) → AreStarts es levels → e.reason ≡ 0 → r.entries ≡ length es → AreStarts (es ++ e ∷ []) (levels ++ r ∷ [])
starts-decide es levels e r s none here = record {
  count = omega (arith, s.count, length_push levels r, decisions-decide es e none);
  start = λ k r' at. elim (cases_lt k (length levels)) [
    | inl old ↦ start-kept es (e ∷ []) k r' (s.start k r' (sym (slice_get-append_left levels (r ∷ []) k old) ∙ at))
    | inr past ↦
        let within : k < length (levels ++ r ∷ []) = slice_get_within (levels ++ r ∷ []) k r' at in
        let last : k ≡ length levels = omega (arith, length_push levels r) in
        let both : Some r ≡ Some r' = sym (slice_get_seam levels r [] k last) ∙ at in
        let same : r ≡ r' = cc in
        let place : r'.entries ≡ length es = sym (ap (λ (x : Reach). x.entries) same) ∙ here in (
          omega (arith, length_push es e),
          ap (reason_at (es ++ e ∷ [])) place ∙ ap (λ (x : Entry). x.reason) (get_or_push es e no_entry (length es) refl) ∙ none,
          ap (λ (n : ℕ). decisions (take n (es ++ e ∷ []))) place ∙ ap decisions (take_at es (e ∷ []) (length es) refl) ∙ sym s.count ∙ sym last,
        )
  ];
}

pub starts-back : (es : List Entry) (levels : List Reach) (k : ℕ) (r : Reach) → AreStarts es levels → slice_get levels k ≡ Some r → AreStarts (take r.entries es) (take k levels)
starts-back es levels k r s at =
    let within : k < length levels = slice_get_within levels k r at in
    let (here, none, count) = s.start k r at in
    record {
      count = length-take-le k levels (omega arith) ∙ sym count;
      start = λ k' r' at'. earlier k' r' at';
    }
  where
    earlier : (k' : ℕ) (r' : Reach) → slice_get (take k levels) k' ≡ Some r' → (r'.entries < length (take r.entries es)) × (reason_at (take r.entries es) r'.entries ≡ 0) × (decisions (take r'.entries (take r.entries es)) ≡ k')
    earlier k' r' at' =
        let within : k < length levels = slice_get_within levels k r at in
        let (here, none, count) = s.start k r at in
        let less : k' < k = omega (arith, slice_get_within (take k levels) k' r' at', length-take k levels) in
        let read : get_or (take k levels) k' r ≡ r' = get_or_from_slice_get (take k levels) k' r' r at' in
        let old : get_or levels k' r ≡ r' = sym (get_or-take k levels k' r less) ∙ read in
        let is : slice_get levels k' ≡ Some r' = slice_get-get_or levels k' r (omega arith) ∙ ap Some old in
        let (here', none', count') = s.start k' r' is in
        let before : r'.entries < r.entries = elim (cases_lt r'.entries r.entries) [
          | inl less ↦ less
          | inr past ↦ absurd (let more = decisions-longer r.entries r'.entries es past in omega arith)
        ] in (
          omega (arith, length-take r.entries es),
          ap (λ (e : Entry). e.reason) (get_or-take r.entries es r'.entries no_entry before) ∙ none',
          ap decisions (take-take r'.entries r.entries es (omega arith)) ∙ count',
        )

-- the literals up to a level
start-counts : (es : List Entry) (levels : List Reach) (k : ℕ) (r : Reach) → AreStarts es levels → slice_get levels k ≡ Some r → decisions (take (r.entries + 1) es) ≡ k + 1
start-counts es levels k r s at = let (here, none, count) = s.start k r at in omega (arith, decisions-next es r.entries here none)

pub before-start : (es : List Entry) (levels : List Reach) (k i : ℕ) (r : Reach) → AreLevelled es → AreStarts es levels → slice_get levels k ≡ Some r → i < length es → level_at es i ≤ k → i < r.entries
before-start es levels k i r levelled s at less low = elim (cases_lt i r.entries) [
  | inl before ↦ before
  | inr past ↦ absurd (omega (arith, levelled i less, start-counts es levels k r s at, decisions-longer (r.entries + 1) (i + 1) es (omega arith)))
]

pub below-start : (es : List Entry) (levels : List Reach) (k i : ℕ) (r : Reach) → AreLevelled es → AreStarts es levels → slice_get levels k ≡ Some r → i < r.entries → level_at es i ≤ k
below-start es levels k i r levelled s at before =
    let (here, none, count) = s.start k r at in
    omega (arith, levelled i (omega arith), decisions-longer (i + 1) r.entries es (omega arith))

-- a decision stands at most where the last level begins
pub implied-last : (es : List Entry) (levels : List Reach) (k : ℕ) (r : Reach) → AreStarts es levels → slice_get levels k ≡ Some r → k + 1 ≡ length levels → AreImplied es r.entries
implied-last es levels k r s at last i less none =
    let (here, none', count) = s.start k r at in
    elim (cases_lt r.entries i) [
      | inl after ↦ absurd (omega (
        arith,
        s.count,
        start-counts es levels k r s at,
        decisions-longer (r.entries + 1) i es (omega arith),
        decisions-next es i less none,
        decisions-part (i + 1) es,
      ))
      | inr within ↦ (within, here)
    ]

pub implied-none : (es : List Entry) → decisions es ≡ 0 → AreImplied es (length es)
implied-none es zeros i less none = absurd (omega (arith, decisions-next es i less none, decisions-part (i + 1) es))

-- ---- what is on each level
levels-decided : (e : Entry) (es : List Entry) → e.reason ≡ 0 → levels_of (e ∷ es) ≡ [] ∷ onto_first e.literal (levels_of es)
levels-decided e es none =
    let first : first_level (e ∷ es) ≡ [] = cond_at_zero {A = List ℤ} e.reason [] (e.literal ∷ first_level es) none in
    let later : later_levels (e ∷ es) ≡ (e.literal ∷ first_level es) ∷ later_levels es = cond_at_zero {A = List (List ℤ)} e.reason ((e.literal ∷ first_level es) ∷ later_levels es) (later_levels es) none in
    ap (λ (x : List ℤ). x ∷ later_levels (e ∷ es)) first ∙ ap (λ (xs : List (List ℤ)). [] ∷ xs) later

levels-implied : (e : Entry) (es : List Entry) → 0 < e.reason → levels_of (e ∷ es) ≡ onto_first e.literal (levels_of es)
levels-implied e es some =
    let first : first_level (e ∷ es) ≡ e.literal ∷ first_level es = cond_above_zero {A = List ℤ} e.reason [] (e.literal ∷ first_level es) some in
    let later : later_levels (e ∷ es) ≡ later_levels es = cond_above_zero {A = List (List ℤ)} e.reason ((e.literal ∷ first_level es) ∷ later_levels es) (later_levels es) some in
    ap (λ (x : List ℤ). x ∷ later_levels (e ∷ es)) first ∙ ap (λ (xs : List (List ℤ)). (e.literal ∷ first_level es) ∷ xs) later

pub levels-count : (es : List Entry) → length (levels_of es) ≡ decisions es + 1
levels-count [] = refl
levels-count (e ∷ es) = elim (cases_zero e.reason) [
  | inl none ↦ omega (arith, ap length (levels-decided e es none), levels-count es, decisions-decided e es none)
  | inr some ↦ omega (arith, ap length (levels-implied e es some), levels-count es, decisions-implied e es some)
]

implied-levels : (level : ℕ) (more : List Entry) → AllByRecursion (IsImplied level) more → levels_of more ≡ map (λ (e : Entry). e.literal) more ∷ []
implied-levels level [] all = refl
implied-levels level (e ∷ more) all = levels-implied e more all.0.0 ∙ ap (onto_first e.literal) (implied-levels level more all.1)

adds-levels : (level : ℕ) (es more : List Entry) → AllByRecursion (IsImplied level) more → AddsLast (levels_of es) (map (λ (e : Entry). e.literal) more) (levels_of (es ++ more))
adds-levels level [] more all = ([], [], refl, implied-levels level more all)
adds-levels level (e ∷ es) more all =
    let rest = adds-onto e.literal (levels_of es) (levels_of (es ++ more)) (map (λ (e : Entry). e.literal) more) (adds-levels level es more all) in
    elim (cases_zero e.reason) [
      | inl none ↦ adds-as ([] ∷ onto_first e.literal (levels_of es)) (levels_of (e ∷ es)) ([] ∷ onto_first e.literal (levels_of (es ++ more))) (levels_of (e ∷ (es ++ more))) (map (λ (e : Entry). e.literal) more) (levels-decided e es none) (levels-decided e (es ++ more) none) (adds-after [] (onto_first e.literal (levels_of es)) (onto_first e.literal (levels_of (es ++ more))) (map (λ (e : Entry). e.literal) more) rest)
      | inr some ↦ adds-as (onto_first e.literal (levels_of es)) (levels_of (e ∷ es)) (onto_first e.literal (levels_of (es ++ more))) (levels_of (e ∷ (es ++ more))) (map (λ (e : Entry). e.literal) more) (levels-implied e es some) (levels-implied e (es ++ more) some) rest
    ]

-- what is implied is on the last level
pub levels-more : (level : ℕ) (es new : List Entry) → GrowsOnLevel level es new → (more : List Entry) × (new ≡ es ++ more) × AddsLast (levels_of es) (map (λ (e : Entry). e.literal) more) (levels_of new)
levels-more level es new (more, is, all) = (more, is, subst (λ (x : List Entry). AddsLast (levels_of es) (map (λ (e : Entry). e.literal) more) (levels_of x)) (sym is) (adds-levels level es more all))

-- levels from a decision on follow those before
levels-split : (es rest : List Entry) (e : Entry) → e.reason ≡ 0 → levels_of (es ++ e ∷ rest) ≡ levels_of es ++ onto_first e.literal (levels_of rest)
levels-split [] rest e none = levels-decided e rest none
levels-split (d ∷ es) rest e none =
    let split = ap (onto_first d.literal) (levels-split es rest e none) in
    elim (cases_zero d.reason) [
      | inl decided ↦ levels-decided d (es ++ e ∷ rest) decided ∙ ap (λ (xs : List (List ℤ)). [] ∷ xs) split ∙ sym (ap (λ (xs : List (List ℤ)). xs ++ onto_first e.literal (levels_of rest)) (levels-decided d es decided))
      | inr some ↦ levels-implied d (es ++ e ∷ rest) some ∙ split ∙ sym (ap (λ (xs : List (List ℤ)). xs ++ onto_first e.literal (levels_of rest)) (levels-implied d es some))
    ]

-- a decision is a level of its own
pub levels-decide : (es : List Entry) (e : Entry) → e.reason ≡ 0 → levels_of (es ++ e ∷ []) ≡ levels_of es ++ (e.literal ∷ []) ∷ []
levels-decide es e none = levels-split es [] e none

pub levels-back : (es : List Entry) (levels : List Reach) (k : ℕ) (r : Reach) → AreStarts es levels → slice_get levels k ≡ Some r → levels_of (take r.entries es) ≡ take (k + 1) (levels_of es)
levels-back es levels k r s at =
    let (here, none, count) = s.start k r at in
    let e : Entry = get_or es r.entries no_entry in
    let rest : List Entry = drop (r.entries + 1) es in
    let split : take r.entries es ++ e ∷ rest ≡ es = sym (ap (λ (x : List Entry). take r.entries es ++ x) (drop_more es r.entries no_entry here)) ∙ take-append-drop r.entries es in
    let sized : length (levels_of (take r.entries es)) ≡ k + 1 = omega (arith, levels-count (take r.entries es), count) in
    sym (ap (λ (x : List Entry). take (k + 1) (levels_of x)) (sym split) ∙ ap (take (k + 1)) (levels-split (take r.entries es) rest e none) ∙ take_at (levels_of (take r.entries es)) (onto_first e.literal (levels_of rest)) (k + 1) sized)

-- ---- the literals of a level
onto-has : (l : ℤ) (x : List ℤ) (xs : List (List ℤ)) (m : ℕ) (k : ℤ) → IsAmong k (get_or (x ∷ xs) m []) → IsAmong k (get_or (onto_first l (x ∷ xs)) m [])
onto-has l x xs zero k among = inr among
onto-has l x xs (suc m) k among = among

onto-from : (l : ℤ) (x : List ℤ) (xs : List (List ℤ)) (m : ℕ) (k : ℤ) → IsAmong k (get_or (onto_first l (x ∷ xs)) m []) → ((m ≡ 0) × (k ≡ l)) ⊎ IsAmong k (get_or (x ∷ xs) m [])
onto-from l x xs zero k (inl e) = inl (refl, e)
onto-from l x xs zero k (inr among) = inr among
onto-from l x xs (suc m) k among = inr among

-- the literal at the place is on the level of the decisions up to it
abbrev HasLevel : List Entry → ℕ → Type 0
HasLevel es i = i < length es → IsAmong (literal_at es i) (get_or (levels_of es) (decisions (take (suc i) es)) [])

has-decided : (e : Entry) (es : List Entry) (i : ℕ) → e.reason ≡ 0 → ((j : ℕ) → HasLevel es j) → HasLevel (e ∷ es) i
has-decided e es zero none rest less =
    let one : decisions (take 1 (e ∷ es)) ≡ 1 = omega (arith, decisions-decided e [] none) in
    subst (λ (n : ℕ). IsAmong e.literal (get_or (levels_of (e ∷ es)) n [])) (sym one) (subst (λ (xs : List (List ℤ)). IsAmong e.literal (get_or xs 1 [])) (sym (levels-decided e es none)) (inl refl))
has-decided e es (suc j) none rest less =
    let m : ℕ = decisions (take (suc j) es) in
    let more : decisions (take (suc (suc j)) (e ∷ es)) ≡ suc m = omega (arith, decisions-decided e (take (suc j) es) none) in
    subst (λ (n : ℕ). IsAmong (literal_at es j) (get_or (levels_of (e ∷ es)) n [])) (sym more) (subst (λ (xs : List (List ℤ)). IsAmong (literal_at es j) (get_or xs (suc m) [])) (sym (levels-decided e es none)) (onto-has e.literal (first_level es) (later_levels es) m (literal_at es j) (rest j (omega arith))))

has-implied : (e : Entry) (es : List Entry) (i : ℕ) → 0 < e.reason → ((j : ℕ) → HasLevel es j) → HasLevel (e ∷ es) i
has-implied e es zero some rest less =
    let none : decisions (take 1 (e ∷ es)) ≡ 0 = omega (arith, decisions-implied e [] some) in
    subst (λ (n : ℕ). IsAmong e.literal (get_or (levels_of (e ∷ es)) n [])) (sym none) (subst (λ (xs : List (List ℤ)). IsAmong e.literal (get_or xs 0 [])) (sym (levels-implied e es some)) (inl refl))
has-implied e es (suc j) some rest less =
    let m : ℕ = decisions (take (suc j) es) in
    let same : decisions (take (suc (suc j)) (e ∷ es)) ≡ m = decisions-implied e (take (suc j) es) some in
    subst (λ (n : ℕ). IsAmong (literal_at es j) (get_or (levels_of (e ∷ es)) n [])) (sym same) (subst (λ (xs : List (List ℤ)). IsAmong (literal_at es j) (get_or xs m [])) (sym (levels-implied e es some)) (onto-has e.literal (first_level es) (later_levels es) m (literal_at es j) (rest j (omega arith))))

has-levels : (es : List Entry) (i : ℕ) → HasLevel es i
has-levels [] i less = absurd (omega arith)
has-levels (e ∷ es) i less = elim (cases_zero e.reason) [
  | inl none ↦ has-decided e es i none (λ j. has-levels es j) less
  | inr some ↦ has-implied e es i some (λ j. has-levels es j) less
]

-- the place of a literal that has so many decisions up to it
abbrev StandsOn : List Entry → ℕ → ℤ → Type 0
StandsOn es m k = (i : ℕ) × (i < length es) × (decisions (take (suc i) es) ≡ m) × (literal_at es i ≡ k)

from-decided : (e : Entry) (es : List Entry) (m : ℕ) (k : ℤ) → e.reason ≡ 0 → ((n : ℕ) → IsAmong k (get_or (levels_of es) n []) → StandsOn es n k) → IsAmong k (get_or ([] ∷ onto_first e.literal (levels_of es)) m []) → StandsOn (e ∷ es) m k
from-decided e es zero k none rest among = absurd among
from-decided e es (suc m) k none rest among = elim (onto-from e.literal (first_level es) (later_levels es) m k among) [
  | inl first ↦ (0, omega arith, omega (arith, decisions-decided e [] none, first.0), sym first.1)
  | inr later ↦ let (j, less, count, is) = rest m later in (suc j, omega arith, omega (arith, decisions-decided e (take (suc j) es) none), is)
]

from-implied : (e : Entry) (es : List Entry) (m : ℕ) (k : ℤ) → 0 < e.reason → ((n : ℕ) → IsAmong k (get_or (levels_of es) n []) → StandsOn es n k) → IsAmong k (get_or (onto_first e.literal (levels_of es)) m []) → StandsOn (e ∷ es) m k
from-implied e es m k some rest among = elim (onto-from e.literal (first_level es) (later_levels es) m k among) [
  | inl first ↦ (0, omega arith, omega (arith, decisions-implied e [] some, first.0), sym first.1)
  | inr later ↦ let (j, less, count, is) = rest m later in (suc j, omega arith, omega (arith, decisions-implied e (take (suc j) es) some), is)
]

from-levels : (es : List Entry) (m : ℕ) (k : ℤ) → IsAmong k (get_or (levels_of es) m []) → StandsOn es m k
from-levels [] zero k among = absurd among
from-levels [] (suc m) k among = absurd among
from-levels (e ∷ es) m k among = elim (cases_zero e.reason) [
  | inl none ↦ from-decided e es m k none (λ n. from-levels es n k) (subst (λ (xs : List (List ℤ)). IsAmong k (get_or xs m [])) (levels-decided e es none) among)
  | inr some ↦ from-implied e es m k some (λ n. from-levels es n k) (subst (λ (xs : List (List ℤ)). IsAmong k (get_or xs m [])) (levels-implied e es some) among)
]

-- the literal at a place is on its level
pub levels-at : (es : List Entry) (i : ℕ) → AreLevelled es → i < length es → IsAmong (literal_at es i) (get_or (levels_of es) (level_at es i) [])
levels-at es i levelled less =
    let up : suc i ≡ i + 1 = omega arith in
    let same : decisions (take (suc i) es) ≡ level_at es i = ap (λ (n : ℕ). decisions (take n es)) up ∙ sym (levelled i less) in
    subst (λ (n : ℕ). IsAmong (literal_at es i) (get_or (levels_of es) n [])) same (has-levels es i less)

-- what is on a level stands at a place of the level
pub levels-from : (es : List Entry) (m : ℕ) (k : ℤ) → AreLevelled es → IsAmong k (get_or (levels_of es) m []) → (i : ℕ) × (i < length es) × (level_at es i ≡ m) × (literal_at es i ≡ k)
levels-from es m k levelled among =
    let (i, less, count, is) = from-levels es m k among in
    let up : i + 1 ≡ suc i = omega arith in
    (i, less, levelled i less ∙ ap (λ (n : ℕ). decisions (take n es)) up ∙ count, is)

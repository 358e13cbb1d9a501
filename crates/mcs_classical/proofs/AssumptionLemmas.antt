-- Assumptions that hold in a model, by their numbers.
use Rattle.std.proofs.Common.{◌≡◌, ℕ, ◌+◌, ◌<◌, Bool, true, false, ◌&&◌, cond, nat_eq, map, filter, List, [], ◌∷◌, ◌++◌, ◌⊎◌, inl, inr, length, take, get_or, refl, sym, ap, ◌∙◌, subst, true≢false, Bor}
use Rattle.std.proofs.lemmas.Bool.{false_from_ne_true}
use Rattle.std.proofs.lemmas.List.{append-nil, append_assoc, map_push, take_more}
use Rattle.std.specs.List.{AllByRecursion}
use Rattle.mcs_sets.specs.Sets.{has, minus, single, such_that, union}
use Rattle.mcs_sets.proofs.Lattice.{has-all, in_minus, in_with}
use Rattle.mcs_sets.proofs.SetLemmas.{has-minus}
use Rattle.mcs_base.proofs.Each.{all_left, all_right, all_take_more, all_weaker}
use Rattle.mcs_system.specs.Plain.{Name, Formula, Bridge}
use Rattle.mcs_system.specs.Seen.{formula_of}
use Rattle.mcs_system.specs.Systems.{heads_from}
use Rattle.mcs_system.specs.declared.formula.Formula as code
use Rattle.mcs_classical.specs.Assumptions.{assumed, DoHold, HoldsAt}
use Rattle.mcs_classical.specs.declared.assumptions.Assumption.{Assumption}

-- an assumption whose number is not among those that failed holds, and each number is among those that held or failed
pub record IsSorted (names : List Name) (places held failed : ℕ) (a : Assumption) : Type 0 where
  pub holds : has failed a.number ≡ false → HoldsAt names places a
  pub told : (has held a.number ≡ true) ⊎ (has failed a.number ≡ true)

-- what is known of the first assumptions: they are sorted, and a number fails only where one of them does not hold
pub record AreSorted (names : List Name) (places held failed : ℕ) (xs : List Assumption) : Type 0 where
  pub sorted : AllByRecursion (IsSorted names places held failed) xs
  pub fails : (n : ℕ) → DoHold names places n xs → has failed n ≡ false

before : {A : Type 0} (P : A → Type 0) (xs : List A) (k : ℕ) (x : A) → k < length xs → x ≡ get_or xs k x → AllByRecursion P (take (k + 1) xs) → AllByRecursion P (take k xs) × P x
before P xs k x less is all =
    let e : take (k + 1) xs ≡ take k xs ++ x ∷ [] = take_more xs k x less ∙ ap (λ y. take k xs ++ y ∷ []) (sym is) in
    let all' = subst (AllByRecursion P) e all in
    (all_left P (take k xs) (x ∷ []) all', (all_right P (take k xs) (x ∷ []) all').0)

pub sorted_held : (names : List Name) (places held failed k : ℕ) (xs : List Assumption) (a : Assumption) → k < length xs → a ≡ get_or xs k a → HoldsAt names places a → AreSorted names places held failed (take k xs)
    → AreSorted names places (union held (single a.number)) failed (take (k + 1) xs)
sorted_held names places held failed k xs a less is does all = record {
  sorted = all_take_more (IsSorted names places (union held (single a.number)) failed) xs k a less is
      (all_weaker (IsSorted names places held failed) (IsSorted names places (union held (single a.number)) failed) (λ b h. record { holds = h.holds; told = more b h.told }) (take k xs) all.sorted)
      (record { holds = λ _. does; told = inl ((in_with held a.number a.number).1 (inr refl)) });
  fails = λ n each. all.fails n (before (λ (b : Assumption). b.number ≡ n → HoldsAt names places b) xs k a less is each).0;
}
  where
    more : (b : Assumption) → (has held b.number ≡ true) ⊎ (has failed b.number ≡ true) → (has (union held (single a.number)) b.number ≡ true) ⊎ (has failed b.number ≡ true)
    more b (inl h) = inl ((in_with held a.number b.number).1 (inl h))
    more b (inr h) = inr h

pub sorted_failed : (names : List Name) (places held failed k : ℕ) (xs : List Assumption) (a : Assumption) → k < length xs → a ≡ get_or xs k a → ¬ HoldsAt names places a → AreSorted names places held failed (take k xs)
    → AreSorted names places held (union failed (single a.number)) (take (k + 1) xs)
sorted_failed names places held failed k xs a less is does_not all = record {
  sorted = all_take_more (IsSorted names places held (union failed (single a.number))) xs k a less is
      (all_weaker (IsSorted names places held failed) (IsSorted names places held (union failed (single a.number))) (λ b h. record { holds = λ out. h.holds (fewer b out); told = more b h.told }) (take k xs) all.sorted)
      (record { holds = λ out. absurd (true≢false (sym ((in_with failed a.number a.number).1 (inr refl)) ∙ out)); told = inr ((in_with failed a.number a.number).1 (inr refl)) });
  fails = λ n each. false_from_ne_true _ (λ h. here n (before (λ (b : Assumption). b.number ≡ n → HoldsAt names places b) xs k a less is each) ((in_with failed a.number n).0 h));
}
  where
    fewer : (b : Assumption) → has (union failed (single a.number)) b.number ≡ false → has failed b.number ≡ false
    fewer b out = false_from_ne_true _ (λ h. true≢false (sym ((in_with failed a.number b.number).1 (inl h)) ∙ out))

    more : (b : Assumption) → (has held b.number ≡ true) ⊎ (has failed b.number ≡ true) → (has held b.number ≡ true) ⊎ (has (union failed (single a.number)) b.number ≡ true)
    more b (inl h) = inl h
    more b (inr h) = inr ((in_with failed a.number b.number).1 (inl h))

    here : (n : ℕ) → DoHold names places n (take k xs) × (a.number ≡ n → HoldsAt names places a) → (has failed n ≡ true) ⊎ (n ≡ a.number) → ⊥
    here n each (inl h) = true≢false (sym h ∙ all.fails n each.0)
    here n each (inr e) = does_not (each.1 (sym e))

pub holding_each : (names : List Name) (places held failed : ℕ) (xs : List Assumption) → AreSorted names places held failed xs → AllByRecursion (λ (a : Assumption). has (minus held failed) a.number ≡ true → HoldsAt names places a) xs
holding_each names places held failed xs all =
    all_weaker (IsSorted names places held failed) (λ (a : Assumption). has (minus held failed) a.number ≡ true → HoldsAt names places a) (λ a h member. h.holds (in_minus held failed a.number member).1) xs all.sorted

pub holding_all : (names : List Name) (places held failed : ℕ) (xs : List Assumption) → AreSorted names places held failed xs
    → AllByRecursion (λ (a : Assumption). DoHold names places a.number xs → has (minus held failed) a.number ≡ true) xs
holding_all names places held failed xs all =
    all_weaker (IsSorted names places held failed) (λ (a : Assumption). DoHold names places a.number xs → has (minus held failed) a.number ≡ true) (λ a h each. at a.number (all.fails a.number each) h.told) xs all.sorted
  where
    at : (n : ℕ) → has failed n ≡ false → (has held n ≡ true) ⊎ (has failed n ≡ true) → has (minus held failed) n ≡ true
    at n out (inl h) = has-minus held failed n ∙ rw (h, out) refl
    at n out (inr h) = absurd (true≢false (sym h ∙ out))

-- ---- the formulas of the set
assumed-append : (set : ℕ) (xs ys : List Assumption) → assumed set (xs ++ ys) ≡ assumed set xs ++ assumed set ys
assumed-append set [] ys = refl
assumed-append set (x ∷ xs) ys = at (has set x.number) (assumed-append set xs ys)
  where
    at : (b : Bool) → assumed set (xs ++ ys) ≡ assumed set xs ++ assumed set ys
        → map (λ (a : Assumption). formula_of a.formula.now) (cond b (x ∷ filter (λ (a : Assumption). has set a.number) (xs ++ ys)) (filter (λ (a : Assumption). has set a.number) (xs ++ ys)))
        ≡ map (λ (a : Assumption). formula_of a.formula.now) (cond b (x ∷ filter (λ (a : Assumption). has set a.number) xs) (filter (λ (a : Assumption). has set a.number) xs)) ++ assumed set ys
    at true rest = ap (λ (fs : List Formula). formula_of x.formula.now ∷ fs) rest
    at false rest = rest

module _ (set i : ℕ) (xs : List Assumption) (x : Assumption) (less : i < length xs) (is : x ≡ get_or xs i x) where
  one_more : assumed set (take (i + 1) xs) ≡ assumed set (take i xs) ++ assumed set (x ∷ [])
  one_more = ap (assumed set) (take_more xs i x less ∙ ap (λ (a : Assumption). take i xs ++ a ∷ []) (sym is)) ∙ assumed-append set (take i xs) (x ∷ [])

  pub assumed_taken : (fs fs' : List (Bor code.Formula)) → has set x.number ≡ true → fs' ≡ fs ++ x.formula ∷ [] → map (λ f. formula_of f.now) fs ≡ assumed set (take i xs) → map (λ f. formula_of f.now) fs' ≡ assumed set (take (i + 1) xs)
  assumed_taken fs fs' member pushed so_far =
      ap (map (λ f. formula_of f.now)) pushed ∙ map_push (λ (f : Bor code.Formula). formula_of f.now) fs x.formula ∙ ap (λ (gs : List Formula). gs ++ formula_of x.formula.now ∷ []) so_far
      ∙ sym (one_more ∙ ap (λ (b : Bool). assumed set (take i xs) ++ map (λ (a : Assumption). formula_of a.formula.now) (cond b (x ∷ []) [])) member)

  pub assumed_passed : has set x.number ≡ false → assumed set (take (i + 1) xs) ≡ assumed set (take i xs)
  assumed_passed out = one_more ∙ ap (λ (b : Bool). assumed set (take i xs) ++ map (λ (a : Assumption). formula_of a.formula.now) (cond b (x ∷ []) [])) out ∙ append-nil (assumed set (take i xs))

-- what holds of the formulas of all numbers holds of each
pub each_of_all : (P : Formula → Type 0) (xs : List Assumption) → AllByRecursion (λ (a : Assumption). a.number < 64) xs → AllByRecursion P (assumed (such_that 64 (λ k. true)) xs)
    → AllByRecursion P (map (λ (a : Assumption). formula_of a.formula.now) xs)
each_of_all P [] numbers all = tt
each_of_all P (x ∷ xs) numbers all =
    let taken = subst (λ (u : Bool). AllByRecursion P (map (λ (a : Assumption). formula_of a.formula.now) (cond u (x ∷ filter (λ (a : Assumption). has (such_that 64 (λ k. true)) a.number) xs) (filter (λ (a : Assumption). has (such_that 64 (λ k. true)) a.number) xs))))
    (has-all 64 x.number numbers.0) all in
    (taken.0, each_of_all P xs numbers.1 taken.1)

-- ---- the heads of rules, one by one
module _ (k : ℕ) (b : Bridge) (bs : List Bridge) (i : ℕ) where
  -- of a rule into the context
  pub assumed_more : (old now : List Assumption) (a : Assumption) (set : ℕ) (all : List Formula) → nat_eq b.target i ≡ true → now ≡ old ++ a ∷ [] → a.number ≡ k → formula_of a.formula.now ≡ b.head
      → assumed set old ++ heads_from k (b ∷ bs) i set ≡ all → assumed set now ++ heads_from (k + 1) bs i set ≡ all
  assumed_more old now a set all own pushed number same is =
      ap (λ xs. assumed set xs ++ rest) pushed ∙ ap (λ fs. fs ++ rest) (assumed-append set old (a ∷ [])) ∙ append_assoc (assumed set old) (assumed set (a ∷ [])) rest
      ∙ ap (λ fs. assumed set old ++ fs) (ap (λ n. map (λ (x : Assumption). formula_of x.formula.now) (cond (has set n) (a ∷ []) []) ++ rest) number ∙ one (has set k)) ∙ rw own at is
    where
      rest : List Formula
      rest = heads_from (k + 1) bs i set

      one : (u : Bool) → map (λ (x : Assumption). formula_of x.formula.now) (cond u (a ∷ []) []) ++ rest ≡ cond (u && true) (b.head ∷ rest) rest
      one true = ap (λ f. f ∷ rest) same
      one false = refl

  -- of a rule into another one
  pub assumed_so : (old : List Formula) (set : ℕ) (all : List Formula) → nat_eq b.target i ≡ false → old ++ heads_from k (b ∷ bs) i set ≡ all → old ++ heads_from (k + 1) bs i set ≡ all
  assumed_so old set all other is = sym (ap (λ fs. old ++ fs) (at (has set k))) ∙ rw other at is
    where
      at : (u : Bool) → cond (u && false) (b.head ∷ heads_from (k + 1) bs i set) (heads_from (k + 1) bs i set) ≡ heads_from (k + 1) bs i set
      at true = refl
      at false = refl

-- What a walk gathers: it never loses what it found, and what it finds from nothing are the first occurrences.
use Rattle.std.proofs.Common.{◌≡◌, ℕ, ◌+◌, ◌<◌, ◌≤◌, nat_eq, map, get_or, drop, Bool, true, false, not, ◌&&◌, ◌||◌, cond, List, [], ◌∷◌, ◌++◌, filter, length, Result, Ok, Err, refl, sym, ap, ◌∙◌, arith, append_assoc}
use Rattle.std.proofs.lemmas.List.{append-nil, length-append, at_drop_more}
use Rattle.std.proofs.lemmas.List.Elements.{filter-append}
use Rattle.std.proofs.lemmas.List.Folds.{list_any-append}
use Rattle.std.specs.List.{list_any}
use Rattle.std.specs.Result.{IfErr, IsErrAnd}
use Rattle.mcs_system.specs.declared.fault.BuildFault.{BuildFault}
use Rattle.mcs_system.specs.declared.fault.BuildFault.TheVariants.{Fault, Memory}
use Rattle.mcs_system.specs.declared.limit.Limit.{Limit}
use Rattle.mcs_system.specs.Limits.{most}
use Rattle.mcs_system.specs.Plain.{Name, Read}
use Rattle.mcs_system.specs.declared.bridge.Bridge as code
use Rattle.mcs_system.specs.declared.bridge.Read as code_read
use Rattle.mcs_system.specs.Logic.{same_name}
use Rattle.mcs_system.specs.Seen.{read_of, bridge_of, system_of}
use Rattle.mcs_system.specs.Faults.{reads_of}
use Rattle.mcs_base.specs.Listings.{firsts}
use Rattle.mcs_system.specs.Systems.{same_read, occurrences, context_variables}
use Rattle.mcs_system.specs.Atoms.{first_names}
use Rattle.mcs_system.specs.Gathered.{gathered, IsLimitDue, Gathers, reads_in}
use Rattle.mcs_system.proofs.Sameness.{same_name-is, same_read-is}
use Rattle.mcs_base.proofs.Ranges.{filter_same}
use Rattle.mcs_base.proofs.Lists.{filter-filter}

module _ {A : Type 0} (same : A → A → Bool) where
  pub gathered-append : (found xs ys : List A) → gathered same found (xs ++ ys) ≡ gathered same (gathered same found xs) ys
  gathered-append found [] ys = refl
  gathered-append found (x ∷ xs) ys = gathered-append (cond (list_any (same x) found) found (found ++ x ∷ [])) xs ys

  pub gathered-grows : (found xs : List A) → length found ≤ length (gathered same found xs)
  gathered-grows found [] = omega arith
  gathered-grows found (x ∷ xs) = at (list_any (same x) found) (gathered-grows found xs) (gathered-grows (found ++ x ∷ []) xs)
    where
      at : (v : Bool) → length found ≤ length (gathered same found xs) → length (found ++ x ∷ []) ≤ length (gathered same (found ++ x ∷ []) xs) → length found ≤ length (gathered same (cond v found (found ++ x ∷ [])) xs)
      at true old new = old
      at false old new = omega (arith, new, length-append found (x ∷ []))

-- ---- gathering up to a limit
due_map : (limit : Limit) (P Q : Type 0) → (P → Q) → (e : BuildFault) → IsLimitDue limit P e → IsLimitDue limit Q e
due_map limit P Q to Memory h = tt
due_map limit P Q to (Fault n l) h = (h.0, h.1, to h.2)

-- a reason that is handed on
pub due_handed : {T : Type 0} (limit : Limit) (P Q : Type 0) (e : BuildFault) (r : Result T BuildFault) → IsErrAnd r (λ d. d ≡ e) → (P → Q) → IsLimitDue limit P e → IfErr r (IsLimitDue limit Q)
due_handed limit P Q e (Ok x) stops to h = tt
due_handed limit P Q e (Err d) stops to h = rw stops (due_map limit P Q to e h)

module _ {A : Type 0} (limit : Limit) (same : A → A → Bool) where
  pub gathers_nothing : {T : Type 0} (found : List A) (x : T) → Gathers limit same found found [] (Ok x)
  gathers_nothing found x = record { all = refl; within = λ few. few; due = tt }

  -- some, and then others
  pub gathers_then : {T U : Type 0} (found mid now all xs ys : List A) (x : T) (r : Result U BuildFault) → all ≡ xs ++ ys → Gathers limit same found mid xs (Ok x) → Gathers limit same mid now ys r → Gathers limit same found now all r
  gathers_then found mid now all xs ys x (Ok y) is first then = record {
    all = then.all ∙ ap (λ m. gathered same m ys) first.all ∙ sym (ap (gathered same found) is ∙ gathered-append same found xs ys);
    within = λ few. then.within (first.within few);
    due = tt;
  }
  gathers_then found mid now all xs ys x (Err e) is first then = record {
    all = tt;
    within = λ few. tt;
    due = rw (is, gathered-append same found xs ys, ← first.all) then.due;
  }

  -- what stopped before the others
  pub gathers_cut : {T U : Type 0} (found now all xs ys : List A) (e : BuildFault) (r : Result U BuildFault) → all ≡ xs ++ ys → IsErrAnd r (λ d. d ≡ e) → Gathers {T = T} limit same found now xs (Err e) → Gathers limit same found now all r
  gathers_cut found now all xs ys e (Ok y) is stops first = absurd stops
  gathers_cut found now all xs ys e (Err d) is stops first = record {
    all = tt;
    within = λ few. tt;
    due = rw (stops, is) (due_map limit _ _ (λ (many : most limit < length (gathered same found xs)). let grows = gathered-grows same (gathered same found xs) ys in rw (gathered-append same found xs ys) (omega arith)) e first.due);
  }

  -- the reason is handed on
  pub stops_with : {T U : Type 0} (found now xs : List A) (e : BuildFault) (r : Result U BuildFault) → IsErrAnd r (λ d. d ≡ e) → Gathers {T = T} limit same found now xs (Err e) → Gathers limit same found now xs r
  stops_with found now xs e (Ok y) stops g = absurd stops
  stops_with found now xs e (Err d) stops g = record { all = tt; within = λ few. tt; due = rw stops g.due }

  -- from nothing
  pub due_from_nothing : {T : Type 0} (found now xs all : List A) (r : Result T BuildFault) → found ≡ [] → all ≡ gathered same [] xs → Gathers limit same found now xs r → IfErr r (IsLimitDue limit (most limit < length all))
  due_from_nothing found now xs all r none is g = rw (is, ← none) g.due

  pub all_from_nothing : {T : Type 0} (found now xs all : List A) (x : T) → found ≡ [] → all ≡ gathered same [] xs → Gathers limit same found now xs (Ok x) → (now ≡ all) × (length now ≤ most limit)
  all_from_nothing found now xs all x none is g = (g.all ∙ ap (λ f. gathered same f xs) none ∙ sym is, g.within (rw none (omega arith)))

  -- from what was found before
  pub due_from_found : {T : Type 0} (found now xs all : List A) (r : Result T BuildFault) → all ≡ gathered same found xs → Gathers limit same found now xs r → IfErr r (IsLimitDue limit (most limit < length all))
  due_from_found found now xs all r is g = rw is g.due

  pub all_from_found : {T : Type 0} (found now xs all : List A) (x : T) → all ≡ gathered same found xs → Gathers limit same found now xs (Ok x) → now ≡ all
  all_from_found found now xs all x is g = g.all ∙ sym is

  -- in a loop: once the rest is gathered, all are
  abbrev pub Goes : List A → List A → List A → List A → Type 0
  Goes found all mid rest = (last : List A) (r : Result (Unit {0}) BuildFault) → Gathers limit same mid last rest r → Gathers limit same found last all r

  pub goes_on : {T : Type 0} (found all mid rest now xs ys : List A) (x : T) → Goes found all mid rest → rest ≡ xs ++ ys → Gathers limit same mid now xs (Ok x) → Goes found all now ys
  goes_on found all mid rest now xs ys x goes is first last r w = goes last r (gathers_then mid now last rest xs ys x r is first w)

  pub goes_cut : {T : Type 0} (found all mid rest now xs ys : List A) (e : BuildFault) (r : Result (Unit {0}) BuildFault) → Goes found all mid rest → rest ≡ xs ++ ys → IsErrAnd r (λ d. d ≡ e) → Gathers {T = T} limit same mid now xs (Err e) → Gathers limit same found now all r
  goes_cut found all mid rest now xs ys e r goes is stops first = goes now r (gathers_cut mid now rest xs ys e r is stops first)

-- ---- first occurrences
module _ {A : Type 0} (same : A → A → Bool) (is : (x y : A) → same x y ≡ true → x ≡ y) where
  either_way : (x y : A) → same x y ≡ same y x
  either_way x y = at (same x y) refl (same y x) refl
    where
      at : (v : Bool) → same x y ≡ v → (w : Bool) → same y x ≡ w → same x y ≡ same y x
      at true e w e' = let equal = is x y e in cc
      at false e true e' = let equal = is y x e' in cc
      at false e false e' = cc

  old_skips : (found : List A) (x : A) → list_any (same x) found ≡ true → (y : A) → (not (same x y) && not (list_any (same y) found)) ≡ not (list_any (same y) found)
  old_skips found x old y = at (same x y) refl
    where
      at : (v : Bool) → same x y ≡ v → (not v && not (list_any (same y) found)) ≡ not (list_any (same y) found)
      at true e = let equal : x ≡ y = is x y e in let there : list_any (same y) found ≡ true = ap (λ z. list_any (same z) found) (sym equal) ∙ old in rw there refl
      at false e = refl

  new_skips : (found : List A) (x y : A) → (not (same x y) && not (list_any (same y) found)) ≡ not (list_any (same y) (found ++ x ∷ []))
  new_skips found x y = let parts = list_any-append (same y) found (x ∷ []) in let way = either_way x y in rw (parts, way) (at (list_any (same y) found) (same y x))
    where
      at : (u v : Bool) → (not v && not u) ≡ not (u || (v || false))
      at true true = refl
      at true false = refl
      at false true = refl
      at false false = refl

  gathered-is : (found xs : List A) → gathered same found xs ≡ found ++ filter (λ z. not (list_any (same z) found)) (firsts same xs)
  gathered-is found [] = sym (append-nil found)
  gathered-is found (x ∷ xs) = at (list_any (same x) found) refl (gathered-is found xs) (gathered-is (found ++ x ∷ []) xs)
    where
      twice : filter (λ z. not (list_any (same z) found)) (filter (λ y. not (same x y)) (firsts same xs)) ≡ filter (λ y. not (same x y) && not (list_any (same y) found)) (firsts same xs)
      twice = filter-filter (λ z. not (list_any (same z) found)) (λ y. not (same x y)) (firsts same xs)

      at : (v : Bool) → list_any (same x) found ≡ v → gathered same found xs ≡ found ++ filter (λ z. not (list_any (same z) found)) (firsts same xs) → gathered same (found ++ x ∷ []) xs ≡ (found ++ x ∷ []) ++ filter (λ z. not (list_any (same z) (found ++ x ∷ []))) (firsts same xs)
          → gathered same (cond v found (found ++ x ∷ [])) xs ≡ found ++ cond (not v) (x ∷ filter (λ z. not (list_any (same z) found)) (filter (λ y. not (same x y)) (firsts same xs))) (filter (λ z. not (list_any (same z) found)) (filter (λ y. not (same x y)) (firsts same xs)))
      at true old rest more = rest ∙ ap (λ ys. found ++ ys) (sym (twice ∙ filter_same _ _ (firsts same xs) (old_skips found x old)))
      at false old rest more = more ∙ append_assoc found (x ∷ []) _ ∙ ap (λ ys. found ++ x ∷ ys) (sym (twice ∙ filter_same _ _ (firsts same xs) (new_skips found x)))

  gathered_firsts : (xs : List A) → gathered same [] xs ≡ firsts same xs
  gathered_firsts xs = gathered-is [] xs ∙ filter-all (firsts same xs)
    where
      filter-all : (ys : List A) → filter (λ z. not (list_any (same z) [])) ys ≡ ys
      filter-all [] = refl
      filter-all (y ∷ ys) = ap (λ zs. y ∷ zs) (filter-all ys)

pub firsts-gathered : (xs : List Read) → firsts same_read xs ≡ gathered same_read [] xs
firsts-gathered xs = sym (gathered_firsts same_read same_read-is xs)

pub first_names-gathered : (xs : List Name) → first_names xs ≡ gathered same_name [] xs
first_names-gathered xs = sym (gathered_firsts same_name same_name-is xs)

-- ---- the walk over the rules
pub occurrences-drop : (i : ℕ) (bs : List code.Bridge) (k : ℕ) (b : code.Bridge) → k < length bs → b ≡ get_or bs k b
    → reads_in i (occurrences (system_of [] (drop k bs))) ≡ reads_in i (map read_of b.pos.items) ++ (reads_in i (map read_of b.neg.items) ++ reads_in i (occurrences (system_of [] (drop (k + 1) bs))))
occurrences-drop i bs k b less is =
    at_drop_more (λ (cs : List code.Bridge). reads_in i (occurrences (system_of [] cs))) bs k b less
    ∙ ap (λ (c : code.Bridge). reads_in i (reads_of (bridge_of c) ++ occurrences (system_of [] (drop (k + 1) bs)))) (sym is)
    ∙ simp (filter-append, append_assoc)

pub next_read : (i : ℕ) (rs : List code_read.Read) (k : ℕ) (r : code_read.Read) → k < length rs → r ≡ get_or rs k r
    → reads_in i (map read_of (drop k rs)) ≡ reads_in i (read_of r ∷ []) ++ reads_in i (map read_of (drop (k + 1) rs))
next_read i rs k r less is =
    at_drop_more (λ (qs : List code_read.Read). reads_in i (map read_of qs)) rs k r less
    ∙ ap (λ (q : code_read.Read). reads_in i (read_of q ∷ map read_of (drop (k + 1) rs))) (sym is)
    ∙ filter-append (λ (q : Read). nat_eq q.context i) (read_of r ∷ []) (map read_of (drop (k + 1) rs))

pub context_variables-gathered : (bs : List code.Bridge) (i : ℕ) → context_variables (system_of [] bs) i ≡ gathered same_read [] (reads_in i (occurrences (system_of [] bs)))
context_variables-gathered bs i = firsts-gathered _

-- The numbers of heads, rule by rule.
use Rattle.std.proofs.Common.{◌≡◌, ℕ, ◌+◌, Bool, true, false, ◌&&◌, eqb, cond, List, [], ◌∷◌, ◌++◌, map, filter, slice_get, Some, refl, sym, ap, ◌∙◌, subst, append_assoc, append-nil}
use Rattle.mcs_sets.specs.Sets.{has}
use Rattle.mcs_system.specs.Plain.{Bridge}
use Rattle.mcs_system.specs.Systems.{heads_from}
use Rattle.mcs_session.specs.KeyTexts.{formula_text}
use Rattle.mcs_session.specs.Tables.{HasGrown, AreNumbersOf, head_numbers}
use Rattle.mcs_session.specs.declared.words.Head.{Head}
use Rattle.mcs_session.proofs.TableLemmas.{still_there, grown_twice}

-- the numbers found so far, before those of the rules still to come, are the numbers of all, in each later table
abbrev pub AreHeadsSoFar : List (List ℕ) → List Bridge → ℕ → List Head → ℕ → List Bridge → Type 0
AreHeadsSoFar table all i heads k rest = (later : List (List ℕ)) → HasGrown table later → (x : ℕ) (ns : List ℕ)
    → AreNumbersOf later (map formula_text (heads_from k rest i x)) ns
    → AreNumbersOf later (map formula_text (heads_from 0 all i x)) (head_numbers x heads ++ ns)

numbers_push : (x : ℕ) (heads : List Head) (h : Head) → head_numbers x (heads ++ h ∷ []) ≡ head_numbers x heads ++ cond (has x h.rule) (h.number ∷ []) []
numbers_push x [] h = by (has x h.rule)
  where
    by : (b : Bool) → map (λ (g : Head). g.number) (cond b (h ∷ []) []) ≡ cond b (h.number ∷ []) []
    by true = refl
    by false = refl
numbers_push x (g ∷ gs) h = by (has x g.rule) (numbers_push x gs h)
  where
    by : (b : Bool) → head_numbers x (gs ++ h ∷ []) ≡ head_numbers x gs ++ cond (has x h.rule) (h.number ∷ []) []
        → map (λ (e : Head). e.number) (cond b (g ∷ filter (λ (e : Head). has x e.rule) (gs ++ h ∷ [])) (filter (λ (e : Head). has x e.rule) (gs ++ h ∷ [])))
        ≡ map (λ (e : Head). e.number) (cond b (g ∷ filter (λ (e : Head). has x e.rule) gs) (filter (λ (e : Head). has x e.rule) gs)) ++ cond (has x h.rule) (h.number ∷ []) []
    by true more = ap (λ ns. g.number ∷ ns) more
    by false more = more

module _ (table : List (List ℕ)) (all : List Bridge) (i : ℕ) (heads : List Head) (k : ℕ) (b : Bridge) (rest : List Bridge) (so_far : AreHeadsSoFar table all i heads k (b ∷ rest)) where
  pub head_passed : eqb b.target i ≡ false → AreHeadsSoFar table all i heads (k + 1) rest
  head_passed other later grown x ns h = so_far later grown x ns (subst (λ fs. AreNumbersOf later (map formula_text fs) ns) (sym (passes (has x k))) h)
    where
      passes : (on : Bool) → cond (on && eqb b.target i) (b.head ∷ heads_from (k + 1) rest i x) (heads_from (k + 1) rest i x) ≡ heads_from (k + 1) rest i x
      passes true = rw other refl
      passes false = refl

  pub head_taken : (new : List (List ℕ)) (n : ℕ) → HasGrown table new → slice_get new n ≡ Some (formula_text b.head) → eqb b.target i ≡ true
      → AreHeadsSoFar new all i (heads ++ (record { rule = k; number = n }) ∷ []) (k + 1) rest
  head_taken new n grown there own later more x ns h =
      subst (AreNumbersOf later (map formula_text (heads_from 0 all i x))) (sym (ap (λ ms. ms ++ ns) (numbers_push x heads (record { rule = k; number = n })) ∙ append_assoc (head_numbers x heads) _ ns))
      (so_far later (grown_twice table new later grown more) x (cond (has x k) (n ∷ []) [] ++ ns) (by (has x k)))
    where
      by : (on : Bool) → AreNumbersOf later (map formula_text (cond (on && eqb b.target i) (b.head ∷ heads_from (k + 1) rest i x) (heads_from (k + 1) rest i x))) (cond on (n ∷ []) [] ++ ns)
      by true = rw own (still_there new later n (formula_text b.head) more there, h)
      by false = h

pub no_heads : (table : List (List ℕ)) (all : List Bridge) (i : ℕ) → AreHeadsSoFar table all i [] 0 all
no_heads table all i later grown x ns h = h

pub all_heads : (table : List (List ℕ)) (all : List Bridge) (i : ℕ) (heads : List Head) (k : ℕ) → AreHeadsSoFar table all i heads k []
    → (x : ℕ) → AreNumbersOf table (map formula_text (heads_from 0 all i x)) (head_numbers x heads)
all_heads table all i heads k so_far x = subst (AreNumbersOf table (map formula_text (heads_from 0 all i x))) (append-nil (head_numbers x heads)) (so_far table (record { more = []; is = sym (append-nil table) }) x [] tt)

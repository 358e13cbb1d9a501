-- Each kind of step keeps the rule of a word.
use Rattle.std.proofs.Common.{◌≡◌, ◌≢◌, ◌⊎◌, inl, inr, ℕ, zero, suc, ◌+◌, ◌<◌, ◌≤◌, List, [], ◌∷◌, set, Bool, true, false, true≢false, refl, sym, ap, ◌∙◌, subst, ⊎_elim, arith}
use Rattle.std.proofs.Math.Nat.{max-le, max-eq_left, max-eq_right, le-max_left}
use Rattle.std.proofs.lemmas.List.Sums.{sum_by_push}
use mathlib.Core.Logic.{dite}
use mathlib.Core.Option.{some, some-ne-none, some-injective}
use native.Mathlib.Decide.{ℕ_discrete}
use lib.ListN.{get_elem?}
use Rattle.atomic_table.proofs.Lists.{at_set, at_snoc, at_longer, set_else}
use Rattle.mcs_draw.proofs.Totals.{sum_set, sum_at, sum_two}
use Rattle.mcs_draw.specs.declared.account.Account.{Account}
use Rattle.mcs_draw.specs.declared.account.View.{View}
use Rattle.mcs_draw.specs.Budget.{BudgetRule, IsFair, first_account, after_draw, after_split, split_off, after_join, seated, joined_away}
use Rattle.mcs_draw.specs.Laws.{WordsBeginWithTheRule, DrawsKeepTheRule, SplitsKeepTheRule, JoinsKeepTheRule, WholeSeatsAreAlone}

abbrev left : View → ℕ
left v = v.account.left

abbrev drawn : View → ℕ
drawn v = v.account.drawn

abbrev Each : (View → Type 0) → List View → Type 0
Each F views = (i : ℕ) (v : View) → get_elem? views i ≡ some v → F v

-- what holds of each view goes on to hold, and of the new one it does
each_set : (F G : View → Type 0) (views : List View) (i : ℕ) (w : View) → G w → ((v : View) → F v → G v) → Each F views → Each G (set views i w)
each_set F G views i w mine others each j u e = ⊎_elim (λ (x : (j ≡ i) × (w ≡ u)). subst G x.1 mine) (λ (x : (j ≢ i) × (get_elem? views j ≡ some u)). others u (each j u x.1)) (at_set views i j w u e)

-- a seat that was not joined away is fair by three facts
fair : (base room word : ℕ) (a : Account) → a.top ≤ word → base ≤ a.top → (0 < room → 0 < a.left + a.drawn) → IsFair base room word (seated a)
fair base room word a below risen share = record { below = below; risen = (λ _. risen); share = (λ _ h. share h); none = (λ e. absurd (true≢false (sym e))) }

-- one that was is fair at any word
away_is_fair : (base room word : ℕ) → IsFair base room word joined_away
away_is_fair base room word = record { below = omega arith; risen = (λ e. absurd (true≢false e)); share = (λ e h. absurd (true≢false e)); none = (λ _. refl) }

-- what is fair stays fair where the word rises
fair_later : (base room word later : ℕ) (v : View) → word ≤ later → IsFair base room word v → IsFair base room later v
fair_later base room word later v le f = record { below = omega (arith, f.below); risen = f.risen; share = f.share; none = f.none }

-- one top is the word
abbrev Topped : ℕ → List View → Type 0
Topped word views = (i : ℕ) × (v : View) × (get_elem? views i ≡ some v) × (v.account.top ≡ word)

set_at : (views : List View) (i : ℕ) (v w : View) → get_elem? views i ≡ some v → get_elem? (set views i w) i ≡ some w
set_at [] i v w e = absurd (some-ne-none v (sym e))
set_at (x ∷ xs) zero v w e = refl
set_at (x ∷ xs) (suc i) v w e = set_at xs i v w e

-- at one place there is one view
same_at : (views : List View) (i j : ℕ) (v w : View) → get_elem? views i ≡ some v → j ≡ i → get_elem? views j ≡ some w → v ≡ w
same_at views i j v w e is d = some-injective v w (sym e ∙ ap (λ k. get_elem? views k) (sym is) ∙ d)

top_set : (word : ℕ) (views : List View) (i : ℕ) (v w : View) → get_elem? views i ≡ some v → (v.account.top ≡ word → w.account.top ≡ word) → Topped word views → Topped word (set views i w)
top_set word views i v w at tops (j, x, e, top) = dite (ℕ_discrete j i)
    (λ (same : j ≡ i). (i, w, set_at views i v w at, tops (ap (λ (y : View). y.account.top) (same_at views i j v x at same e) ∙ top)))
    (λ (other : j ≢ i). (j, x, set_else views i j w other ∙ e, top))

pub begins : WordsBeginWithTheRule
begins base room small = record { small = small; drawn = omega arith; left = omega arith; each = each; top = (0, first, refl, refl) }
  where
    first : View
    first = seated (first_account base room)

    each : (i : ℕ) (v : View) → get_elem? (first ∷ []) i ≡ some v → IsFair base room base v
    each zero v e = subst (IsFair base room base) (some-injective first v e) (fair base room base (first_account base room) (omega arith) (omega arith) (λ h. omega arith))
    each (suc i) v e = absurd (some-ne-none v (sym e))

pub draws : DrawsKeepTheRule
draws base room word i amount views v b p le =
    let w = seated (after_draw amount (word + amount) v.account) in
    let f = b.each i v p.at in
    record {
      small = b.small;
      drawn = omega (arith, b.drawn, sum_set drawn views i v w p.at);
      left = omega (arith, b.left, sum_set left views i v w p.at);
      each = each_set (IsFair base room word) (IsFair base room (word + amount)) views i w
          (fair base room (word + amount) w.account (omega arith) (omega (arith, f.risen p.present, f.below)) (λ h. omega (arith, f.share p.present h)))
          (λ u. fair_later base room word (word + amount) u (omega arith)) b.each;
      top = (i, w, set_at views i v w p.at, refl);
    }

pub splits : SplitsKeepTheRule
splits base room word i part views v b p some_part le =
    let w = seated (after_split part v.account) in
    let u = seated (split_off part v.account) in
    let f = b.each i v p.at in
    let kept : Each (IsFair base room word) (set views i w) = each_set (IsFair base room word) (IsFair base room word) views i w
    (fair base room word w.account f.below (f.risen p.present) (λ h. omega arith)) (λ _ h. h) b.each in
    let moved : IsFair base room word u = fair base room word u.account f.below (f.risen p.present) (λ h. omega arith) in
    let (j, x, e, top) = top_set word views i v w p.at (λ h. h) b.top in
    record {
      small = b.small;
      drawn = omega (arith, b.drawn, sum_set drawn views i v w p.at, sum_by_push drawn (set views i w) u);
      left = omega (arith, b.left, sum_set left views i v w p.at, sum_by_push left (set views i w) u);
      each = (λ k y d. ⊎_elim (λ h. kept k y h) (λ (h : u ≡ y). subst (IsFair base room word) h moved) (at_snoc (set views i w) u y k d));
      top = (j, x, at_longer (set views i w) (u ∷ []) j x e, top);
    }

-- after a join the top that was the word is that of the seat that is left, or of a third one
top_join : (word : ℕ) (views : List View) (i j : ℕ) (v w u : View) → get_elem? views i ≡ some v → j ≢ i → get_elem? views j ≡ some w
    → ((v.account.top ≡ word) ⊎ (w.account.top ≡ word) → u.account.top ≡ word) → Topped word views → Topped word (set (set views i u) j joined_away)
top_join word views i j v w u at apart at' tops (k, x, e, top) =
    let here : get_elem? (set (set views i u) j joined_away) i ≡ some u = set_else (set views i u) j i joined_away (λ p. apart (sym p)) ∙ set_at views i v u at in
    dite (ℕ_discrete k i)
    (λ (same : k ≡ i). (i, u, here, tops (inl (ap (λ (y : View). y.account.top) (same_at views i k v x at same e) ∙ top))))
    (λ (not_i : k ≢ i). dite (ℕ_discrete k j)
    (λ (same : k ≡ j). (i, u, here, tops (inr (ap (λ (y : View). y.account.top) (same_at views j k w x at' same e) ∙ top))))
    (λ (not_j : k ≢ j). (k, x, set_else (set views i u) j k joined_away not_j ∙ (set_else views i k u not_i ∙ e), top)))

pub joins : JoinsKeepTheRule
joins base room word i j views v w b p apart at =
    let u = seated (after_join v.account w.account) in
    let once = set views i u in
    let there : get_elem? once j ≡ some w = set_else views i j u apart ∙ at in
    let f = b.each i v p.at in
    let g = b.each j w at in
    let joined : IsFair base room word u = fair base room word u.account (max-le f.below g.below)
    (let h = le-max_left v.account.top w.account.top in omega (arith, h, f.risen p.present)) (λ h. omega (arith, f.share p.present h)) in
    record {
      small = b.small;
      drawn = omega (arith, b.drawn, sum_set drawn views i v u p.at, sum_set drawn once j w joined_away there);
      left = omega (arith, b.left, sum_set left views i v u p.at, sum_set left once j w joined_away there);
      each = each_set (IsFair base room word) (IsFair base room word) once j joined_away (away_is_fair base room word) (λ _ h. h)
          (each_set (IsFair base room word) (IsFair base room word) views i u joined (λ _ h. h) b.each);
      top = top_join word views i j v w u p.at apart at (⊎_elim (λ e. max-eq_left (omega (arith, e, g.below)) ∙ e) (λ e. max-eq_right (omega (arith, e, f.below)) ∙ e)) b.top;
    }

-- a seat beside one that has the whole room has nothing left and has drawn nothing
nothing_beside : (base room word i j : ℕ) (views : List View) (v w : View) → BudgetRule base room word views → get_elem? views i ≡ some v → j ≢ i → get_elem? views j ≡ some w
    → v.account.left + v.account.drawn ≡ room → w.account.left + w.account.drawn ≡ 0
nothing_beside base room word i j views v w b at apart at' whole =
    omega (arith, b.drawn, b.left, sum_two drawn views i j v w refl apart at at', sum_two left views i j v w refl apart at at')

-- so where there is room it was joined away
away_beside : (base room word : ℕ) (w : View) (away : Bool) → w.away ≡ away → IsFair base room word w → w.account.left + w.account.drawn ≡ 0 → 0 < room → w.away ≡ true
away_beside base room word w true is f none h = is
away_beside base room word w false is f none h = absurd (let s = f.share is h in omega arith)

-- where another seat's top is the word, so is the top of the one that has the whole room: the other was joined away and the word is 0, or there is no room and the word is the base
top_beside : (base room word top : ℕ) (w : View) (away : Bool) → w.away ≡ away → IsFair base room word w → w.account.left + w.account.drawn ≡ 0 → w.account.top ≡ word
    → base ≤ top → top ≤ word → word ≤ base + room → word ≡ top
top_beside base room word top w true is f none tops ge le small = let t : w.account.top ≡ 0 = ap (λ (a : Account). a.top) (f.none is) in omega arith
top_beside base room word top w false is f none tops ge le small =
    let no_room : ¬ (0 < room) = λ h. (let s = f.share is h in omega arith) in omega (arith, no_room)

pub wholes : WholeSeatsAreAlone
wholes base room word i views v b p whole = record { total = omega (arith, b.drawn, b.left, sum_at drawn views i v p.at, sum_at left views i v p.at); top = tops b.top; alone = alone }
  where
    tops : Topped word views → word ≡ v.account.top
    tops (j, x, e, top) = let f = b.each i v p.at in dite (ℕ_discrete j i)
        (λ (same : j ≡ i). sym top ∙ ap (λ (y : View). y.account.top) (sym (same_at views i j v x p.at same e)))
        (λ (other : j ≢ i). top_beside base room word v.account.top x x.away refl (b.each j x e) (nothing_beside base room word i j views v x b p.at other e whole) top (f.risen p.present) f.below (omega (arith, b.left)))

    alone : 0 < room → (j : ℕ) (w : View) → get_elem? views j ≡ some w → j ≢ i → w.away ≡ true
    alone h j w e other = away_beside base room word w w.away refl (b.each j w e) (nothing_beside base room word i j views v w b p.at other e whole) h

-- Clauses that make a new variable true exactly where two literals make it so.
use Rattle.std.proofs.Common.{◌≡◌, ℕ, ◌+◌, Bool, true, false, not, ◌&&◌, ◌||◌, List, [], ◌∷◌, arith, refl, sym, ap, ◌∙◌, subst, ℤ, pos, w64, to_z, of_z}
use Rattle.std.specs.Prelude.{neg_ℤ}
use Rattle.std.specs.Int.RustNames.{unsigned_abs}
use Rattle.mcs_system.specs.Logic.{both_or_neither}
use Rattle.mcs_trace.specs.Clauses.{ClauseList, IsLiteral, IsClauseList, literal_holds, all_hold}
use Rattle.mcs_trace.proofs.OrderLemmas.{read_literal}
use Rattle.mcs_cnf.specs.ClauseLists.{with_clause, IsThere}
use Rattle.mcs_meant.specs.Literals.{IsGate}
use Rattle.mcs_meant.proofs.LiteralLemmas.{opposite_there, opposite_holds, there_fits, handed_there, handed_opposite, clause_more}

-- ---- what the clauses say of the values
true_table : (a p : Bool) → (a && (p || false)) ≡ (a && both_or_neither p true)
true_table false p = refl
true_table true false = refl
true_table true true = refl

both_table : (a p x y : Bool) → (((a && (not p || (x || false))) && (not p || (y || false))) && (p || (not x || (not y || false)))) ≡ (a && both_or_neither p (x && y))
both_table false p x y = refl
both_table true false false y = refl
both_table true false true false = refl
both_table true false true true = refl
both_table true true false y = refl
both_table true true true false = refl
both_table true true true true = refl

either_table : (a p x y : Bool) → (((a && (p || (not x || false))) && (p || (not y || false))) && (not p || (x || (y || false)))) ≡ (a && both_or_neither p (x || y))
either_table false p x y = refl
either_table true false false false = refl
either_table true false false true = refl
either_table true false true y = refl
either_table true true false false = refl
either_table true true false true = refl
either_table true true true y = refl

same_table : (a p x y : Bool) → ((((a && (not p || (not x || (y || false)))) && (not p || (x || (not y || false)))) && (p || (x || (y || false)))) && (p || (not x || (not y || false)))) ≡ (a && both_or_neither p (both_or_neither x y))
same_table false p x y = refl
same_table true false false false = refl
same_table true false false true = refl
same_table true false true false = refl
same_table true false true true = refl
same_table true true false false = refl
same_table true true false true = refl
same_table true true true false = refl
same_table true true true true = refl

-- ---- a list with one variable more, whose literal is n
pub record IsNew (old made : ClauseList) (n : ℤ) : Type 0 where
  pub kept : IsClauseList old
  pub fits : IsLiteral n
  pub number : n ≡ pos (old.vars + 1)
  pub added : made ≡ record { vars = old.vars + 1; clauses = old.clauses }

made_vars : {old made : ClauseList} {n : ℤ} → IsNew old made n → made.vars ≡ old.vars + 1
made_vars new = ap (λ (c : ClauseList). c.vars) new.added

-- the literals of clauses that are added to it, as they are handed on
n_is_there : {old made : ClauseList} {n : ℤ} (c : ClauseList) → IsNew old made n → c.vars ≡ made.vars → IsThere c n
n_is_there c new same = (new.fits.0, omega (arith, ap unsigned_abs new.number, made_vars new, same))

x_is_there : {old made : ClauseList} {n : ℤ} (c : ClauseList) (x : ℤ) → IsNew old made n → c.vars ≡ made.vars → IsThere old x → IsThere c x
x_is_there c x new same there = (there.0, omega (arith, there.1, made_vars new, same))

opposite_is_there : (c : ClauseList) (l m : ℤ) → IsLiteral l → IsThere c l → m ≡ neg_ℤ (to_z w64 (of_z w64 l)) → IsThere c (to_z w64 (of_z w64 m))
opposite_is_there c l m fits there e = subst (IsThere c) (sym (handed_opposite l m fits e)) (opposite_there c l there)

pub n_there : {old made : ClauseList} {n : ℤ} (c : ClauseList) → IsNew old made n → c.vars ≡ made.vars → IsThere c (to_z w64 (of_z w64 n))
n_there {n = n} c new same = handed_there c n new.fits (n_is_there c new same)

pub not_n_there : {old made : ClauseList} {n : ℤ} (c : ClauseList) (m : ℤ) → IsNew old made n → c.vars ≡ made.vars → m ≡ neg_ℤ (to_z w64 (of_z w64 n)) → IsThere c (to_z w64 (of_z w64 m))
not_n_there {n = n} c m new same e = opposite_is_there c n m new.fits (n_is_there c new same) e

pub x_there : {old made : ClauseList} {n : ℤ} (c : ClauseList) (x : ℤ) → IsNew old made n → c.vars ≡ made.vars → IsThere old x → IsThere c (to_z w64 (of_z w64 x))
x_there {old = old} c x new same there = handed_there c x (there_fits old x new.kept there) (x_is_there c x new same there)

pub not_x_there : {old made : ClauseList} {n : ℤ} (c : ClauseList) (x m : ℤ) → IsNew old made n → c.vars ≡ made.vars → IsThere old x → m ≡ neg_ℤ (to_z w64 (of_z w64 x)) → IsThere c (to_z w64 (of_z w64 m))
not_x_there {old = old} c x m new same there e = opposite_is_there c x m (there_fits old x new.kept there) (x_is_there c x new same there) e

-- ---- clauses that are added one after the other
module _ (old made : ClauseList) (n : ℤ) (new_one : IsNew old made n) where
  kept : IsClauseList old
  kept = new_one.kept

  fits : IsLiteral n
  fits = new_one.fits

  newest : unsigned_abs n ≡ old.vars + 1
  newest = ap unsigned_abs new_one.number

  before : (v : ℕ → Bool) → all_hold v made.clauses ≡ all_hold v old.clauses
  before v = ap (λ (c : ClauseList). all_hold v c.clauses) new_one.added

  pub true_gate : (new : ClauseList) → new ≡ with_clause made (to_z w64 (of_z w64 n) ∷ []) → IsGate (λ _. true) old new n
  true_gate new handed =
      let e : new ≡ with_clause made (n ∷ []) = handed ∙ ap (λ l. with_clause made (l ∷ [])) (read_literal n fits) in
      record {
        kept = kept;
        fits = fits;
        vars = ap (λ (c : ClauseList). c.vars) e ∙ made_vars new_one;
        newest = newest;
        says = λ v. clause_more v made new (n ∷ []) e ∙ ap (λ b. b && (literal_holds v n || false)) (before v) ∙ true_table (all_hold v old.clauses) (literal_holds v n);
      }

  module _ (x y not_n not_x not_y : ℤ) (left : IsThere old x) (right : IsThere old y) (is_not_n : not_n ≡ neg_ℤ (to_z w64 (of_z w64 n))) (is_not_x : not_x ≡ neg_ℤ (to_z w64 (of_z w64 x)))
      (is_not_y : not_y ≡ neg_ℤ (to_z w64 (of_z w64 y))) where
    -- as they are handed on
    is_n : to_z w64 (of_z w64 n) ≡ n
    is_n = read_literal n fits

    is_x : to_z w64 (of_z w64 x) ≡ x
    is_x = read_literal x (there_fits old x kept left)

    is_y : to_z w64 (of_z w64 y) ≡ y
    is_y = read_literal y (there_fits old y kept right)

    no_n : to_z w64 (of_z w64 not_n) ≡ neg_ℤ n
    no_n = handed_opposite n not_n fits is_not_n

    no_x : to_z w64 (of_z w64 not_x) ≡ neg_ℤ x
    no_x = handed_opposite x not_x (there_fits old x kept left) is_not_x

    no_y : to_z w64 (of_z w64 not_y) ≡ neg_ℤ y
    no_y = handed_opposite y not_y (there_fits old y kept right) is_not_y

    two : (a b a' b' : ℤ) → a ≡ a' → b ≡ b' → a ∷ b ∷ [] ≡ a' ∷ b' ∷ []
    two a b a' b' e e' = ap (λ k. k ∷ b ∷ []) e ∙ ap (λ k. a' ∷ k ∷ []) e'

    three : (a b c a' b' c' : ℤ) → a ≡ a' → b ≡ b' → c ≡ c' → a ∷ b ∷ c ∷ [] ≡ a' ∷ b' ∷ c' ∷ []
    three a b c a' b' c' e e' e'' = ap (λ k. k ∷ b ∷ c ∷ []) e ∙ ap (λ (ls : List ℤ). a' ∷ ls) (two b c b' c' e' e'')

    -- what the literals say, where the opposites are taken apart
    not_n_holds : (v : ℕ → Bool) → literal_holds v (neg_ℤ n) ≡ not (literal_holds v n)
    not_n_holds v = opposite_holds v n fits.0

    not_x_holds : (v : ℕ → Bool) → literal_holds v (neg_ℤ x) ≡ not (literal_holds v x)
    not_x_holds v = opposite_holds v x left.0

    not_y_holds : (v : ℕ → Bool) → literal_holds v (neg_ℤ y) ≡ not (literal_holds v y)
    not_y_holds v = opposite_holds v y right.0

    pub both_gate : (one again new : ClauseList) → one ≡ with_clause made (to_z w64 (of_z w64 not_n) ∷ to_z w64 (of_z w64 x) ∷ [])
        → again ≡ with_clause one (to_z w64 (of_z w64 not_n) ∷ to_z w64 (of_z w64 y) ∷ [])
        → new ≡ with_clause again (to_z w64 (of_z w64 n) ∷ to_z w64 (of_z w64 not_x) ∷ to_z w64 (of_z w64 not_y) ∷ []) → IsGate (λ v. literal_holds v x && literal_holds v y) old new n
    both_gate one again new e e' e'' = record {
      kept = kept;
      fits = fits;
      vars = ap (λ (c : ClauseList). c.vars) e'' ∙ ap (λ (c : ClauseList). c.vars) e' ∙ ap (λ (c : ClauseList). c.vars) e ∙ made_vars new_one;
      newest = newest;
      says = λ v.
          let a = all_hold v old.clauses in
          let p = literal_holds v n in
          let q = literal_holds v x in
          let r = literal_holds v y in
          let first : all_hold v one.clauses ≡ (a && (not p || (q || false))) =
          clause_more v made one (neg_ℤ n ∷ x ∷ []) (e ∙ ap (with_clause made) (two _ _ _ _ no_n is_x)) ∙ ap (λ b. b && (literal_holds v (neg_ℤ n) || (q || false))) (before v) ∙ ap (λ b. a && (b || (q || false))) (not_n_holds v) in
          let second : all_hold v again.clauses ≡ ((a && (not p || (q || false))) && (not p || (r || false))) =
          clause_more v one again (neg_ℤ n ∷ y ∷ []) (e' ∙ ap (with_clause one) (two _ _ _ _ no_n is_y)) ∙ ap (λ b. b && (literal_holds v (neg_ℤ n) || (r || false))) first ∙ ap (λ b. (a && (not p || (q || false))) && (b || (r || false))) (not_n_holds v) in
          clause_more v again new (n ∷ neg_ℤ x ∷ neg_ℤ y ∷ []) (e'' ∙ ap (with_clause again) (three _ _ _ _ _ _ is_n no_x no_y))
          ∙ ap (λ b. b && (p || (literal_holds v (neg_ℤ x) || (literal_holds v (neg_ℤ y) || false)))) second
          ∙ ap (λ b. ((a && (not p || (q || false))) && (not p || (r || false))) && (p || (b || (literal_holds v (neg_ℤ y) || false)))) (not_x_holds v)
          ∙ ap (λ b. ((a && (not p || (q || false))) && (not p || (r || false))) && (p || (not q || (b || false)))) (not_y_holds v)
          ∙ both_table a p q r;
    }

    pub either_gate : (one again new : ClauseList) → one ≡ with_clause made (to_z w64 (of_z w64 n) ∷ to_z w64 (of_z w64 not_x) ∷ [])
        → again ≡ with_clause one (to_z w64 (of_z w64 n) ∷ to_z w64 (of_z w64 not_y) ∷ [])
        → new ≡ with_clause again (to_z w64 (of_z w64 not_n) ∷ to_z w64 (of_z w64 x) ∷ to_z w64 (of_z w64 y) ∷ []) → IsGate (λ v. literal_holds v x || literal_holds v y) old new n
    either_gate one again new e e' e'' = record {
      kept = kept;
      fits = fits;
      vars = ap (λ (c : ClauseList). c.vars) e'' ∙ ap (λ (c : ClauseList). c.vars) e' ∙ ap (λ (c : ClauseList). c.vars) e ∙ made_vars new_one;
      newest = newest;
      says = λ v.
          let a = all_hold v old.clauses in
          let p = literal_holds v n in
          let q = literal_holds v x in
          let r = literal_holds v y in
          let first : all_hold v one.clauses ≡ (a && (p || (not q || false))) =
          clause_more v made one (n ∷ neg_ℤ x ∷ []) (e ∙ ap (with_clause made) (two _ _ _ _ is_n no_x)) ∙ ap (λ b. b && (p || (literal_holds v (neg_ℤ x) || false))) (before v) ∙ ap (λ b. a && (p || (b || false))) (not_x_holds v) in
          let second : all_hold v again.clauses ≡ ((a && (p || (not q || false))) && (p || (not r || false))) =
          clause_more v one again (n ∷ neg_ℤ y ∷ []) (e' ∙ ap (with_clause one) (two _ _ _ _ is_n no_y)) ∙ ap (λ b. b && (p || (literal_holds v (neg_ℤ y) || false))) first ∙ ap (λ b. (a && (p || (not q || false))) && (p || (b || false))) (not_y_holds v) in
          clause_more v again new (neg_ℤ n ∷ x ∷ y ∷ []) (e'' ∙ ap (with_clause again) (three _ _ _ _ _ _ no_n is_x is_y))
          ∙ ap (λ b. b && (literal_holds v (neg_ℤ n) || (q || (r || false)))) second
          ∙ ap (λ b. ((a && (p || (not q || false))) && (p || (not r || false))) && (b || (q || (r || false)))) (not_n_holds v)
          ∙ either_table a p q r;
    }

    pub same_gate : (one again more new : ClauseList) → one ≡ with_clause made (to_z w64 (of_z w64 not_n) ∷ to_z w64 (of_z w64 not_x) ∷ to_z w64 (of_z w64 y) ∷ [])
        → again ≡ with_clause one (to_z w64 (of_z w64 not_n) ∷ to_z w64 (of_z w64 x) ∷ to_z w64 (of_z w64 not_y) ∷ [])
        → more ≡ with_clause again (to_z w64 (of_z w64 n) ∷ to_z w64 (of_z w64 x) ∷ to_z w64 (of_z w64 y) ∷ [])
        → new ≡ with_clause more (to_z w64 (of_z w64 n) ∷ to_z w64 (of_z w64 not_x) ∷ to_z w64 (of_z w64 not_y) ∷ [])
        → IsGate (λ v. both_or_neither (literal_holds v x) (literal_holds v y)) old new n
    same_gate one again more new e e' e'' e''' = record {
      kept = kept;
      fits = fits;
      vars = ap (λ (c : ClauseList). c.vars) e''' ∙ ap (λ (c : ClauseList). c.vars) e'' ∙ ap (λ (c : ClauseList). c.vars) e' ∙ ap (λ (c : ClauseList). c.vars) e ∙ made_vars new_one;
      newest = newest;
      says = λ v.
          let a = all_hold v old.clauses in
          let p = literal_holds v n in
          let q = literal_holds v x in
          let r = literal_holds v y in
          let no_n' = literal_holds v (neg_ℤ n) in
          let no_x' = literal_holds v (neg_ℤ x) in
          let no_y' = literal_holds v (neg_ℤ y) in
          let rest : all_hold v new.clauses ≡ ((((a && (no_n' || (no_x' || (r || false)))) && (no_n' || (q || (no_y' || false)))) && (p || (q || (r || false)))) && (p || (no_x' || (no_y' || false)))) =
          clause_more v more new (n ∷ neg_ℤ x ∷ neg_ℤ y ∷ []) (e''' ∙ ap (with_clause more) (three _ _ _ _ _ _ is_n no_x no_y))
          ∙ ap (λ b. b && (p || (no_x' || (no_y' || false)))) (clause_more v again more (n ∷ x ∷ y ∷ []) (e'' ∙ ap (with_clause again) (three _ _ _ _ _ _ is_n is_x is_y))
          ∙ ap (λ b. b && (p || (q || (r || false)))) (clause_more v one again (neg_ℤ n ∷ x ∷ neg_ℤ y ∷ []) (e' ∙ ap (with_clause one) (three _ _ _ _ _ _ no_n is_x no_y))
          ∙ ap (λ b. b && (no_n' || (q || (no_y' || false)))) (clause_more v made one (neg_ℤ n ∷ neg_ℤ x ∷ y ∷ []) (e ∙ ap (with_clause made) (three _ _ _ _ _ _ no_n no_x is_y)) ∙ ap (λ b. b && (no_n' || (no_x' || (r || false)))) (before v)))) in
          rest
          ∙ ap (λ b. (((a && (b || (no_x' || (r || false)))) && (b || (q || (no_y' || false)))) && (p || (q || (r || false)))) && (p || (no_x' || (no_y' || false)))) (not_n_holds v)
          ∙ ap (λ b. (((a && (not p || (b || (r || false)))) && (not p || (q || (no_y' || false)))) && (p || (q || (r || false)))) && (p || (b || (no_y' || false)))) (not_x_holds v)
          ∙ ap (λ b. (((a && (not p || (not q || (r || false)))) && (not p || (q || (b || false)))) && (p || (q || (r || false)))) && (p || (not q || (b || false)))) (not_y_holds v)
          ∙ same_table a p q r;
    }

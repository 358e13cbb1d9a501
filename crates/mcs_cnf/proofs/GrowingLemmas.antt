-- Clauses of formulas that are added, one after the other, and that are taken off again.
use Rattle.std.proofs.Common.{◌≡◌, ℕ, ◌+◌, ◌<◌, ◌≤◌, List, [], ◌∷◌, ◌++◌, map, length, get_or, take, drop, arith, sym, ap, ◌∙◌, subst, ℤ}
use Rattle.std.proofs.lemmas.List.{drop_all, append-nil}
use Rattle.std.proofs.Math.Seq.{take-append_seam}
use Rattle.std.specs.List.{AllByRecursion}
use Rattle.mcs_base.proofs.Each.{all_weaker}
use Rattle.mcs_base.proofs.Mapped.{map-drop_more}
use Rattle.mcs_system.specs.Plain.{Name, Formula}
use Rattle.mcs_trace.specs.Clauses.{IsWithin, ClauseList, IsClauseList}
use Rattle.mcs_cnf.specs.ClauseLists.{taken_by_all, list_clauses, with_formulas, clause_list, IsOver, AreOver}
use Rattle.mcs_cnf.specs.Growing.{HasMoreFormulas}
use Rattle.mcs_cnf.proofs.ListLemmas.{all_take_grow, with_append}

abbrev pub list_of : ℕ → List (List ℤ) → ClauseList
list_of n cs = record { vars = n; clauses = cs }

pub none-with : (names : List Name) (c : ClauseList) → with_formulas names c [] ≡ c
none-with names c = ap (list_of c.vars) (append-nil c.clauses)

pub room_known : (names : List Name) (known : ClauseList) (fs : List Formula) → known ≡ clause_list names fs → length names ≤ known.vars
room_known names known fs is = let e : known.vars ≡ taken_by_all (length names) fs = ap (λ (x : ClauseList). x.vars) is in omega (arith, all_take_grow (length names) fs)

-- ---- formulas, one after the other
module _ {A : Type 0} (view : A → Formula) where
  pub lent_over : (names : List Name) (xs : List A) (i : ℕ) (x : A) → i < length xs → x ≡ get_or xs i x → AreOver names (map view (drop i xs)) → IsOver names (view x) × AreOver names (map view (drop (i + 1) xs))
  lent_over names xs i x less is over = subst (AreOver names) (map-drop_more view xs i x less is) over

  pub lent_pushed : (names : List Name) (c c' : ClauseList) (xs : List A) (i : ℕ) (x : A) → i < length xs → x ≡ get_or xs i x → c' ≡ with_formulas names c (view x ∷ [])
      → with_formulas names c' (map view (drop (i + 1) xs)) ≡ with_formulas names c (map view (drop i xs))
  lent_pushed names c c' xs i x less is pushed =
      ap (λ (y : ClauseList). with_formulas names y (map view (drop (i + 1) xs))) pushed
      ∙ with_append names c (view x ∷ []) (map view (drop (i + 1) xs))
      ∙ ap (with_formulas names c) (sym (map-drop_more view xs i x less is))

  pub lent_end : (names : List Name) (c c0 : ClauseList) (xs : List A) (i : ℕ) → length xs ≤ i → with_formulas names c (map view (drop i xs)) ≡ with_formulas names c0 (map view xs) → c ≡ with_formulas names c0 (map view xs)
  lent_end names c c0 xs i past all = sym (none-with names c) ∙ ap (λ (ys : List A). with_formulas names c (map view ys)) (sym (drop_all i xs past)) ∙ all

-- ---- clauses that are added and taken off again
pub grown_none : (names : List Name) (c : ClauseList) → HasMoreFormulas names c c
grown_none names c = ([], sym (none-with names c))

pub grown_more : (names : List Name) (c0 c c' : ClauseList) (f : Formula) → HasMoreFormulas names c0 c → c' ≡ with_formulas names c (f ∷ []) → HasMoreFormulas names c0 c'
grown_more names c0 c c' f (fs, is) pushed = (fs ++ f ∷ [], pushed ∙ ap (λ (x : ClauseList). with_formulas names x (f ∷ [])) is ∙ with_append names c0 fs (f ∷ []))

module _ (names : List Name) (known new : ClauseList) (more : HasMoreFormulas names known new) where
  first_kept : take (length known.clauses) new.clauses ≡ known.clauses
  first_kept = ap (λ (x : ClauseList). take (length known.clauses) x.clauses) more.1 ∙ take-append_seam known.clauses (list_clauses names known.vars more.0)

  pub grown_fewer : known.vars ≤ new.vars
  grown_fewer = let e : new.vars ≡ taken_by_all known.vars more.0 = ap (λ (x : ClauseList). x.vars) more.1 in omega (arith, all_take_grow known.vars more.0)

  pub grown_room : length names ≤ known.vars → length names ≤ new.vars
  grown_room room = let fewer = grown_fewer in omega arith

  -- the clauses of formulas with those of more
  pub grown_clauses : (fs : List Formula) → known ≡ clause_list names fs → new ≡ clause_list names (fs ++ more.0)
  grown_clauses fs is = more.1 ∙ ap (λ (x : ClauseList). with_formulas names x more.0) is ∙ with_append names (list_of (length names) []) fs more.0

  pub grown_within : IsClauseList known → AllByRecursion (IsWithin known.vars) (take (length known.clauses) new.clauses)
  grown_within is = subst (AllByRecursion (IsWithin known.vars)) (sym first_kept) (all_weaker _ (IsWithin known.vars) (λ c both. both.1) known.clauses is.1)

  pub cut_fewer : (asked : ClauseList) (vars : ℕ) → vars ≡ known.vars → asked ≡ new → vars ≤ asked.vars
  cut_fewer asked vars is kept = subst (λ (x : ClauseList). vars ≤ x.vars) (sym kept) (let fewer = grown_fewer in omega arith)

  pub cut_within : (asked : ClauseList) (vars : ℕ) (cs : List (List ℤ)) → vars ≡ known.vars → cs ≡ known.clauses → IsClauseList known → asked ≡ new → AllByRecursion (IsWithin vars) (take (length cs) asked.clauses)
  cut_within asked vars cs is same kept_is kept =
      subst (λ (x : ClauseList). AllByRecursion (IsWithin vars) (take (length cs) x.clauses)) (sym kept)
      (subst (λ (xs : List (List ℤ)). AllByRecursion (IsWithin vars) (take (length xs) new.clauses)) (sym same)
      (subst (λ (n : ℕ). AllByRecursion (IsWithin n) (take (length known.clauses) new.clauses)) (sym is) (grown_within kept_is)))

  pub cut_back : (asked cut : ClauseList) (vars : ℕ) (cs : List (List ℤ)) → vars ≡ known.vars → cs ≡ known.clauses → asked ≡ new → cut ≡ list_of vars (take (length cs) asked.clauses) → cut ≡ known
  cut_back asked cut vars cs is same kept done =
      done ∙ ap (λ (x : ClauseList). list_of vars (take (length cs) x.clauses)) kept ∙ ap (λ (n : ℕ). list_of n (take (length cs) new.clauses)) is
      ∙ ap (λ (xs : List (List ℤ)). list_of known.vars (take (length xs) new.clauses)) same ∙ ap (list_of known.vars) first_kept

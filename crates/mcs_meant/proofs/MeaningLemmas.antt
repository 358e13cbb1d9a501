-- Clauses that mean formulas, and clauses that mean one formula more.
use Rattle.std.proofs.Common.{◌≡◌, ℕ, ◌+◌, ◌-◌, ◌<◌, ◌≤◌, suc, Bool, true, false, not, ◌&&◌, ◌||◌, ltb, cond, List, [], ◌∷◌, ◌++◌, length, get_or, arith, refl, sym, ap, ◌∙◌, subst, ℤ, pos, negsuc}
use Rattle.std.proofs.lemmas.Bool.{and_parts, and_from}
use Rattle.std.proofs.lemmas.Bool.Decides.{nat_tests}
use Rattle.std.proofs.lemmas.List.Folds.{list_all-append}
use Rattle.std.proofs.Math.Bool.{and-true}
use Rattle.std.specs.Int.RustNames.{unsigned_abs}
use Rattle.std.specs.List.{AllByRecursion}
use Rattle.mcs_base.proofs.Clausal.{Reads}
use Rattle.mcs_base.proofs.Each.{all_weaker}
use Rattle.mcs_system.specs.Plain.{Name, Formula}
use Rattle.mcs_system.specs.Logic.{holds, holds_all}
use Rattle.mcs_trace.specs.Clauses.{ClauseList, IsWithin, IsClauseList, literal_holds, clause_holds, all_hold}
use Rattle.mcs_cnf.specs.ClauseLists.{atom_number, clause_of, with_clause, with_formulas, list_clauses, clause_list, IsOver, AreOver}
use Rattle.mcs_cnf.specs.Meaning.{Extends}
use Rattle.mcs_cnf.proofs.ListLemmas.{all_take_grow}
use Rattle.mcs_cnf.proofs.MeaningLemmas.{all_hold-parts, all_hold-both, list_says, extended, satisfied}
use Rattle.mcs_cnf.proofs.NumberLemmas.{atom_within}
use Rattle.mcs_cnf.proofs.Tables.{clause_of-holds}
use Rattle.mcs_cnf.proofs.Values.{all_values}
use Rattle.mcs_meant.specs.Meanings.{AreMeantBy, AddsFormula, AgreeUpTo, AreClausesFor}

-- ---- one formula more
pub last_too : (a : List Name) (fs : List Formula) (f : Formula) → holds_all a (fs ++ f ∷ []) ≡ (holds_all a fs && holds a f)
last_too a fs f = list_all-append (holds a) fs (f ∷ []) ∙ ap (λ b. holds_all a fs && b) (and-true (holds a f))

pub meant_same : (names : List Name) (fs gs : List Formula) (c : ClauseList) → ((a : List Name) → holds_all a fs ≡ holds_all a gs) → AreMeantBy names fs c → AreMeantBy names gs c
meant_same names fs gs c same m = record {
  room = m.room;
  extends = λ a h. m.extends a (same a ∙ h);
  satisfied = λ a v e h. sym (same a) ∙ m.satisfied a v e h;
}

pub adds_clause : (names : List Name) (f : Formula) (ls : List ℤ) (old new : ClauseList) → new ≡ with_clause old ls → ((a : List Name) (v : ℕ → Bool) → Extends names a v → clause_holds v ls ≡ holds a f) → AddsFormula names f old new
adds_clause names f ls old new is says fs m = subst (AreMeantBy names (fs ++ f ∷ [])) (sym is) (record {
  room = m.room;
  extends = λ a h.
      let (h1, h2) = and_parts (holds_all a fs) (holds a f) (sym (last_too a fs f) ∙ h) in
      let (v, e, all) = m.extends a h1 in
      (v, e, all_hold-both v old.clauses (clause_of ls ∷ []) all (and-true (clause_holds v (clause_of ls)) ∙ clause_of-holds v ls ∙ says a v e ∙ h2));
  satisfied = λ a v e h.
      let (h1, h2) = all_hold-parts v old.clauses (clause_of ls ∷ []) h in
      last_too a fs f ∙ and_from (holds_all a fs) (holds a f) (m.satisfied a v e h1) (sym (says a v e) ∙ sym (clause_of-holds v ls) ∙ sym (and-true (clause_holds v (clause_of ls))) ∙ h2);
})

-- assignments that are the same for the variables of clauses
pub literal_same : (v w : ℕ → Bool) (n : ℕ) → ((k : ℕ) → k ≤ n → v k ≡ w k) → (l : ℤ) → unsigned_abs l ≤ n → literal_holds v l ≡ literal_holds w l
literal_same v w n same (pos k) within = same k within
literal_same v w n same (negsuc k) within = ap not (same (k + 1) (omega arith))

clause_same : (v w : ℕ → Bool) (n : ℕ) → ((k : ℕ) → k ≤ n → v k ≡ w k) → (c : List ℤ) → IsWithin n c → clause_holds v c ≡ clause_holds w c
clause_same v w n same [] within = refl
clause_same v w n same (l ∷ c) within = ap (λ b. b || clause_holds v c) (literal_same v w n same l within.0) ∙ ap (λ b. literal_holds w l || b) (clause_same v w n same c within.1)

pub clauses_same : (v w : ℕ → Bool) (n : ℕ) → ((k : ℕ) → k ≤ n → v k ≡ w k) → (cs : List (List ℤ)) → AllByRecursion (IsWithin n) cs → all_hold v cs ≡ all_hold w cs
clauses_same v w n same [] within = refl
clauses_same v w n same (c ∷ cs) within = ap (λ b. b && all_hold v cs) (clause_same v w n same c within.0) ∙ ap (λ b. clause_holds w c && b) (clauses_same v w n same cs within.1)

reads_by : (w : ℕ → Bool) (k : ℕ) (bs : List Bool) → ((i : ℕ) → i < length bs → w (k + 1 + i) ≡ get_or bs i false) → Reads w k bs
reads_by w k [] each = tt
reads_by w k (b ∷ bs) each =
    let e : k + 1 ≡ k + 1 + 0 = omega arith in (
      ap w e ∙ each 0 (omega arith),
      reads_by w (k + 1) bs (λ i less. let e : k + 1 + 1 + i ≡ k + 1 + suc i = omega arith in ap w e ∙ each (suc i) (omega arith)),
    )

-- what is known up to the variables of a list is known of its clauses
pub kept_same : (v w : ℕ → Bool) (c : ClauseList) → IsClauseList c → AgreeUpTo c.vars v w → all_hold v c.clauses ≡ all_hold w c.clauses
kept_same v w c kept agree = clauses_same v w c.vars agree c.clauses (all_weaker _ (IsWithin c.vars) (λ d both. both.1) c.clauses kept.1)

-- the variables of the names are among those up to n
pub extends_same : (names a : List Name) (n : ℕ) (v w : ℕ → Bool) → length names ≤ n → AgreeUpTo n v w → Extends names a v → Extends names a w
extends_same names a n v w room agree e m known = sym (agree (atom_number names m) (omega (arith, atom_within names m known, room))) ∙ e m known

-- beyond n these values
beyond : (ℕ → Bool) → ℕ → List Bool → ℕ → Bool
beyond v n bs k = cond (ltb n k) (get_or bs (k - 1 - n) false) (v k)

beyond-below : (v : ℕ → Bool) (n : ℕ) (bs : List Bool) (k : ℕ) → k ≤ n → v k ≡ beyond v n bs k
unfolding beyond
beyond-below v n bs k le = let past : ltb n k ≡ false = grind (arith, nat_tests) in ap (λ b. cond b (get_or bs (k - 1 - n) false) (v k)) (sym past)

beyond-reads : (v : ℕ → Bool) (n : ℕ) (bs : List Bool) → Reads (beyond v n bs) n bs
unfolding beyond
beyond-reads v n bs = reads_by (beyond v n bs) n bs (λ i less.
    let past : ltb n (n + 1 + i) ≡ true = grind (arith, nat_tests) in
    let e : n + 1 + i - 1 - n ≡ i = omega arith in
    ap (λ b. cond b (get_or bs (n + 1 + i - 1 - n) false) (v (n + 1 + i))) past ∙ ap (λ j. get_or bs j false) e)

-- the clauses of formulas add them
pub adds_formulas : (names : List Name) (gs : List Formula) (old new : ClauseList) → IsClauseList old → AreOver names gs → new ≡ with_formulas names old gs → (fs : List Formula) → AreMeantBy names fs old → AreMeantBy names (fs ++ gs) new
adds_formulas names gs old new kept over is fs m = subst (AreMeantBy names (fs ++ gs)) (sym is) (record {
  room = omega (arith, m.room, all_take_grow old.vars gs);
  extends = λ a h.
      let (h1, h2) = and_parts (holds_all a fs) (holds_all a gs) (sym (list_all-append (holds a) fs gs) ∙ h) in
      let (v, e, all) = m.extends a h1 in
      let bs : List Bool = all_values a gs in
      let w : ℕ → Bool = beyond v old.vars bs in
      let agree : AgreeUpTo old.vars v w = λ k le. beyond-below v old.vars bs k le in
      let e' : Extends names a w = extends_same names a old.vars v w m.room agree e in (
        w,
        e',
        all_hold-both w old.clauses (list_clauses names old.vars gs) (sym (kept_same v w old kept agree) ∙ all) ((list_says w names a e' old.vars gs over).1 (beyond-reads v old.vars bs, h2)),
      );
  satisfied = λ a v e h.
      let (h1, h2) = all_hold-parts v old.clauses (list_clauses names old.vars gs) h in
      list_all-append (holds a) fs gs ∙ and_from (holds_all a fs) (holds_all a gs) (m.satisfied a v e h1) ((list_says v names a e old.vars gs over).0 h2).1;
})

pub adds_formula : (names : List Name) (f : Formula) (old new : ClauseList) → IsClauseList old → IsOver names f → new ≡ with_formulas names old (f ∷ []) → AddsFormula names f old new
adds_formula names f old new kept over is = adds_formulas names (f ∷ []) old new kept (over, tt) is

-- no clauses
pub no_clauses : (names : List Name) (c : ClauseList) → c ≡ record { vars = length names; clauses = [] } → AreMeantBy names [] c
no_clauses names c is = subst (AreMeantBy names []) (sym is) (record {
  room = omega arith;
  extends = λ a h. let (v, e, all) = extended [] names a tt refl in (v, e, refl);
  satisfied = λ a v e h. refl;
})

-- the clauses of formulas mean them
pub list_meant : (names : List Name) (fs : List Formula) (c : ClauseList) → AreOver names fs → c ≡ clause_list names fs → AreMeantBy names fs c
list_meant names fs c over is = subst (AreMeantBy names fs) (sym is) (record {
  room = all_take_grow (length names) fs;
  extends = λ a h. extended fs names a over h;
  satisfied = λ a v e h. satisfied fs names a v over e h;
})

-- clauses for a formula that are made apart
pub adds_for : (names : List Name) (f : Formula) (old more new : ClauseList) → IsClauseList old → AreClausesFor names f old.vars more → new ≡ record { vars = more.vars; clauses = old.clauses ++ more.clauses } → AddsFormula names f old new
adds_for names f old more new kept said is fs m = subst (AreMeantBy names (fs ++ f ∷ [])) (sym is) (record {
  room = omega (arith, m.room, said.grows);
  extends = λ a h.
      let (h1, h2) = and_parts (holds_all a fs) (holds a f) (sym (last_too a fs f) ∙ h) in
      let (v, e, all) = m.extends a h1 in
      let (w, agree, more_hold) = said.extends a v e h2 in (
        w,
        extends_same names a old.vars v w m.room agree e,
        all_hold-both w old.clauses more.clauses (sym (kept_same v w old kept agree) ∙ all) more_hold,
      );
  satisfied = λ a v e h.
      let (h1, h2) = all_hold-parts v old.clauses more.clauses h in
      last_too a fs f ∙ and_from (holds_all a fs) (holds a f) (m.satisfied a v e h1) (said.satisfied a v e h2);
})

-- ---- clauses that are made apart
pub clause_apart : (known more new : ClauseList) (ls : List ℤ) → more ≡ with_clause (record { vars = known.vars; clauses = [] }) ls → new ≡ record { vars = more.vars; clauses = known.clauses ++ more.clauses } → new ≡ with_clause known ls
clause_apart known more new ls made added = added ∙ ap (λ (m : ClauseList). (let f : ClauseList = record { vars = m.vars; clauses = known.clauses ++ m.clauses } in f)) made

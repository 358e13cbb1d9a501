-- Literals that stand for formulas.
use Rattle.std.proofs.Common.{◌≡◌, ℕ, ◌+◌, ◌<◌, ◌≤◌, zero, suc, Bool, true, false, not, ◌&&◌, eqb, cond, List, [], ◌∷◌, length, arith, refl, sym, ap, ◌∙◌, subst, ℤ, pos, negsuc, w64, to_z, of_z}
use Rattle.std.specs.Prelude.{neg_ℤ}
use Rattle.std.proofs.lemmas.Bool.{and_parts, and_from}
use Rattle.std.proofs.lemmas.Bool.Decides.{nat_tests}
use Rattle.std.proofs.lemmas.List.Folds.{list_all-append}
use Rattle.std.proofs.Math.Bool.{and-true, or-false}
use Rattle.std.proofs.Math.IntN.{neg_ℤ-neg_ℤ}
use Rattle.std.specs.Int.RustNames.{unsigned_abs}
use Rattle.mcs_base.proofs.Numbers.{unsigned_abs-neg_ℤ}
use Rattle.mcs_system.specs.Denials.{denied}
use Rattle.mcs_system.specs.Plain.{Name, Formula, Truth, Falsity, Atom, Not, Joined}
use Rattle.mcs_system.specs.Logic.{is_in, holds, both_or_neither}
use Rattle.mcs_trace.specs.Clauses.{ClauseList, IsLiteral, IsClauseList, literal_holds, clause_holds, all_hold}
use Rattle.mcs_trace.proofs.OrderLemmas.{read_literal}
use Rattle.mcs_cnf.specs.ClauseLists.{atom_number, clause_of, with_clause, IsThere}
use Rattle.mcs_cnf.specs.Meaning.{Extends}
use Rattle.mcs_cnf.proofs.MeaningLemmas.{all_hold-parts, all_hold-both}
use Rattle.mcs_cnf.proofs.NumberLemmas.{atom_positive, atom_within}
use Rattle.mcs_cnf.proofs.Tables.{clause_of-holds, same_values, values_same}
use Rattle.mcs_meant.specs.Literals.{is_turned, turned_by, sign_of, IsGate, IsLiteralOf}
use Rattle.mcs_meant.specs.Meanings.{AgreeUpTo, AreClausesFor}
use Rattle.mcs_meant.proofs.MeaningLemmas.{literal_same, kept_same, extends_same}

-- ---- opposite literals
twice : (b : Bool) → b ≡ not (not b)
twice true = refl
twice false = refl

pub opposite_holds : (v : ℕ → Bool) (l : ℤ) → 0 < unsigned_abs l → literal_holds v (neg_ℤ l) ≡ not (literal_holds v l)
opposite_holds v (pos zero) some = absurd (omega arith)
opposite_holds v (pos (suc n)) some = let e : n + 1 ≡ suc n = omega arith in ap (λ k. not (v k)) e
opposite_holds v (negsuc n) some = let e : n + 1 ≡ suc n = omega arith in ap v (sym e) ∙ twice (v (n + 1))

pub opposite_there : (c : ClauseList) (l : ℤ) → IsThere c l → IsThere c (neg_ℤ l)
opposite_there c l there = let e = unsigned_abs-neg_ℤ l in (omega (arith, e, there.0), omega (arith, e, there.1))

pub opposite_fits : (l : ℤ) → IsLiteral l → IsLiteral (neg_ℤ l)
opposite_fits l is = let e = unsigned_abs-neg_ℤ l in (omega (arith, e, is.0), omega (arith, e, is.1))

pub there_fits : (c : ClauseList) (l : ℤ) → IsClauseList c → IsThere c l → IsLiteral l
there_fits c l kept there = (there.0, omega (arith, kept.0, there.1))

-- as the code hands them on
pub handed_fits : (l : ℤ) → IsLiteral l → IsLiteral (to_z w64 (of_z w64 l))
handed_fits l is = subst IsLiteral (sym (read_literal l is)) is

pub handed_there : (c : ClauseList) (l : ℤ) → IsLiteral l → IsThere c l → IsThere c (to_z w64 (of_z w64 l))
handed_there c l is there = subst (IsThere c) (sym (read_literal l is)) there

pub handed_opposite : (l m : ℤ) → IsLiteral l → m ≡ neg_ℤ (to_z w64 (of_z w64 l)) → to_z w64 (of_z w64 m) ≡ neg_ℤ l
handed_opposite l m is e =
    let turned : m ≡ neg_ℤ l = e ∙ ap neg_ℤ (read_literal l is) in
    read_literal m (subst IsLiteral (sym turned) (opposite_fits l is)) ∙ turned

-- an assignment that gives the literal a value, and is the same for the variables below
with_value : (ℕ → Bool) → ℕ → Bool → ℕ → Bool
with_value v n b k = cond (eqb k n) b (v k)

valued_at : (v : ℕ → Bool) (n : ℕ) (b : Bool) → with_value v n b n ≡ b
unfolding with_value
valued_at v n b = let same : eqb n n ≡ true = grind (arith, nat_tests) in ap (λ t. cond t b (v n)) same

valued_below : (v : ℕ → Bool) (n : ℕ) (b : Bool) → AgreeUpTo n v (with_value v (n + 1) b)
unfolding with_value
valued_below v n b k le = let apart : eqb k (n + 1) ≡ false = grind (arith, nat_tests) in ap (λ t. cond t b (v k)) (sym apart)

set_literal : (v : ℕ → Bool) (n : ℕ) (l : ℤ) (b : Bool) → unsigned_abs l ≡ n + 1 → (w : ℕ → Bool) × AgreeUpTo n v w × (literal_holds w l ≡ b)
set_literal v n (pos k) b is = (with_value v (n + 1) b, valued_below v n b, ap (with_value v (n + 1) b) is ∙ valued_at v (n + 1) b)
set_literal v n (negsuc k) b is = (
  with_value v (n + 1) (not b),
  valued_below v n (not b),
  (let e : k + 1 ≡ n + 1 = omega (arith, is) in ap (λ m. not (with_value v (n + 1) (not b) m)) e ∙ ap not (valued_at v (n + 1) (not b)) ∙ sym (twice b)),
)

-- ---- gates
both_turned : (p q : Bool) → both_or_neither (not p) (not q) ≡ both_or_neither p q
both_turned true true = refl
both_turned true false = refl
both_turned false true = refl
both_turned false false = refl

pub gate_turned : (test : (ℕ → Bool) → Bool) (old new : ClauseList) (l m : ℤ) → m ≡ neg_ℤ l → IsGate test old new l → IsGate (λ v. not (test v)) old new m
gate_turned test old new l m e is = subst (IsGate (λ v. not (test v)) old new) (sym e) (record {
  kept = is.kept;
  fits = opposite_fits l is.fits;
  vars = is.vars;
  newest = unsigned_abs-neg_ℤ l ∙ is.newest;
  says = λ v. is.says v ∙ ap (λ b. all_hold v old.clauses && b) (sym (both_turned (literal_holds v l) (test v)))
      ∙ ap (λ b. all_hold v old.clauses && both_or_neither b (not (test v))) (sym (opposite_holds v l is.fits.0));
})

pub gate_same : (test test' : (ℕ → Bool) → Bool) (old new : ClauseList) (l : ℤ) → ((v : ℕ → Bool) → test v ≡ test' v) → IsGate test old new l → IsGate test' old new l
gate_same test test' old new l same is = record {
  kept = is.kept;
  fits = is.fits;
  vars = is.vars;
  newest = is.newest;
  says = λ v. is.says v ∙ ap (λ b. all_hold v old.clauses && both_or_neither (literal_holds v l) b) (same v);
}

pub handed_gate : {test : (ℕ → Bool) → Bool} {old new : ClauseList} {l : ℤ} → IsGate test old new l → IsGate test old new (to_z w64 (of_z w64 l))
handed_gate {test = test} {old = old} {new = new} {l = l} is = subst (IsGate test old new) (sym (read_literal l is.fits)) is

-- one more clause
pub clause_more : (v : ℕ → Bool) (old new : ClauseList) (ls : List ℤ) → new ≡ with_clause old ls → all_hold v new.clauses ≡ (all_hold v old.clauses && clause_holds v ls)
clause_more v old new ls is =
    ap (λ (c : ClauseList). all_hold v c.clauses) is ∙ list_all-append (clause_holds v) old.clauses (clause_of ls ∷ [])
    ∙ ap (λ b. all_hold v old.clauses && b) (and-true (clause_holds v (clause_of ls)) ∙ clause_of-holds v ls)

-- ---- literals of formulas
pub handed_literal : {names : List Name} {f : Formula} {old new : ClauseList} {l : ℤ} → IsLiteralOf names f old new l → IsLiteralOf names f old new (to_z w64 (of_z w64 l))
handed_literal {names = names} {f = f} {old = old} {new = new} {l = l} is = subst (IsLiteralOf names f old new) (sym (read_literal l is.fits)) is

module _ (names : List Name) where
  -- one that is there already
  pub atom_literal : (f : Formula) (c : ClauseList) (n : Name) (l : ℤ) → f ≡ Atom n → IsClauseList c → length names ≤ c.vars → is_in n names ≡ true → l ≡ pos (atom_number names n) → IsLiteralOf names f c c l
  atom_literal f c n l is kept room known e = subst (λ (h : Formula). IsLiteralOf names h c c l) (sym is) (subst (IsLiteralOf names (Atom n) c c) (sym e) (record {
    grows = omega arith;
    there = (atom_positive names n, omega (arith, atom_within names n known, room));
    fits = (atom_positive names n, omega (arith, atom_within names n known, room, kept.0));
    extends = λ a v e h. (v, λ k le. refl, h);
    says = λ a v e h. (h, e n known);
  }))

  -- of a denial
  not_literal : (f : Formula) (old new : ClauseList) (l : ℤ) → IsLiteralOf names f old new l → IsLiteralOf names (Not f) old new (neg_ℤ l)
  not_literal f old new l is = record {
    grows = is.grows;
    there = opposite_there new l is.there;
    fits = opposite_fits l is.fits;
    extends = is.extends;
    says = λ a v e h. let (before, same) = is.says a v e h in (before, opposite_holds v l is.there.0 ∙ ap not same);
  }

  turned_more : (f : Formula) (l : ℤ) → neg_ℤ (turned_by f l) ≡ turned_by (Not f) l
  turned_more f l = at (is_turned f)
    where
      at : (b : Bool) → neg_ℤ (cond b (neg_ℤ l) l) ≡ cond (not b) (neg_ℤ l) l
      at true = neg_ℤ-neg_ℤ l
      at false = refl

  turned_literal : (f : Formula) (old new : ClauseList) (l : ℤ) → IsLiteralOf names (denied f) old new l → IsLiteralOf names f old new (turned_by f l)
  turned_literal Truth old new l is = is
  turned_literal Falsity old new l is = is
  turned_literal (Atom n) old new l is = is
  turned_literal (Not f) old new l is = subst (IsLiteralOf names (Not f) old new) (turned_more f l) (not_literal f old new (turned_by f l) (turned_literal f old new l is))
  turned_literal (Joined c f g) old new l is = is

  -- of a formula whose first denials deny another one
  pub denial_literal : (f g core : Formula) (old new : ClauseList) (l m : ℤ) → f ≡ Not g → core ≡ denied g → IsLiteralOf names core old new l → m ≡ turned_by f (to_z w64 (of_z w64 l)) → IsLiteralOf names f old new m
  denial_literal f g core old new l m is below at e =
      subst (IsLiteralOf names f old new) (sym (e ∙ ap (turned_by f) (read_literal l at.fits)))
      (turned_literal f old new l (subst (λ (h : Formula). IsLiteralOf names h old new l) (below ∙ sym (ap denied is)) at))

  -- of a gate over what stays as it was
  module _ (test : (ℕ → Bool) → Bool) (f : Formula) (old last new : ClauseList) (l : ℤ) (grown : old.vars ≤ last.vars) (room : length names ≤ old.vars)
      (extends : (a : List Name) (v : ℕ → Bool) → Extends names a v → all_hold v old.clauses ≡ true → (w : ℕ → Bool) × AgreeUpTo old.vars v w × (all_hold w last.clauses ≡ true))
      (says : (a : List Name) (v : ℕ → Bool) → Extends names a v → all_hold v last.clauses ≡ true → (all_hold v old.clauses ≡ true) × (test v ≡ holds a f))
      (stays : (v w : ℕ → Bool) → AgreeUpTo last.vars v w → test v ≡ test w) where
    pub gate_literal : IsGate test last new l → IsLiteralOf names f old new l
    gate_literal gate = record {
      grows = omega (arith, grown, gate.vars);
      there = (omega (arith, gate.newest), omega (arith, gate.newest, gate.vars));
      fits = gate.fits;
      extends = λ a v e h.
          let (w, agree, hold) = extends a v e h in
          let (u, agree', set) = set_literal w last.vars l (test w) gate.newest in (
            u,
            λ k le. agree k le ∙ agree' k (omega (arith, le, grown)),
            gate.says u ∙ and_from (all_hold u last.clauses) (both_or_neither (literal_holds u l) (test u)) (sym (kept_same w u last gate.kept agree') ∙ hold) (values_same (literal_holds u l) (test u) (set ∙ stays w u agree')),
          );
      says = λ a v e h.
          let (hold, both) = and_parts (all_hold v last.clauses) (both_or_neither (literal_holds v l) (test v)) (sym (gate.says v) ∙ h) in
          let (before, same) = says a v e hold in
          (before, same_values (literal_holds v l) (test v) both ∙ same);
    }

  -- of a constant
  pub true_literal : (f : Formula) (old new : ClauseList) (l : ℤ) → f ≡ Truth → length names ≤ old.vars → IsGate (λ _. true) old new l → IsLiteralOf names f old new l
  true_literal f old new l is room gate = subst (λ (h : Formula). IsLiteralOf names h old new l) (sym is)
      (gate_literal (λ _. true) Truth old old new l (omega arith) room (λ a v e h. (v, λ k le. refl, h)) (λ a v e h. (h, refl)) (λ v w agree. refl) gate)

  pub false_literal : (f : Formula) (old new : ClauseList) (l m : ℤ) → f ≡ Falsity → length names ≤ old.vars → m ≡ neg_ℤ (to_z w64 (of_z w64 l)) → IsGate (λ _. true) old new l → IsLiteralOf names f old new m
  false_literal f old new l m is room e gate = subst (λ (h : Formula). IsLiteralOf names h old new m) (sym is)
      (gate_literal (λ _. false) Falsity old old new m (omega arith) room (λ a v e h. (v, λ k le. refl, h)) (λ a v e h. (h, refl)) (λ v w agree. refl) (gate_turned (λ _. true) old new l m (e ∙ ap neg_ℤ (read_literal l gate.fits)) gate))

  -- of two parts
  pub sign_literal : (f g h : Formula) (old mid last new : ClauseList) (x y l : ℤ) → ((a : List Name) → holds a f ≡ sign_of f (holds a g) (holds a h)) → length names ≤ old.vars
      → IsLiteralOf names g old mid x → IsLiteralOf names h mid last y → IsGate (λ v. sign_of f (literal_holds v (to_z w64 (of_z w64 x))) (literal_holds v (to_z w64 (of_z w64 y)))) last new l → IsLiteralOf names f old new l
  sign_literal f g h old mid last new x y l sign room first second handed =
      let same : (v : ℕ → Bool) → sign_of f (literal_holds v (to_z w64 (of_z w64 x))) (literal_holds v (to_z w64 (of_z w64 y))) ≡ sign_of f (literal_holds v x) (literal_holds v y) =
      λ v. ap (λ k. sign_of f (literal_holds v k) (literal_holds v (to_z w64 (of_z w64 y)))) (read_literal x first.fits) ∙ ap (λ k. sign_of f (literal_holds v x) (literal_holds v k)) (read_literal y second.fits) in
      let gate : IsGate (λ v. sign_of f (literal_holds v x) (literal_holds v y)) last new l =
      gate_same (λ v. sign_of f (literal_holds v (to_z w64 (of_z w64 x))) (literal_holds v (to_z w64 (of_z w64 y)))) (λ v. sign_of f (literal_holds v x) (literal_holds v y)) last new l same handed in
      gate_literal (λ v. sign_of f (literal_holds v x) (literal_holds v y)) f old last new l (omega (arith, first.grows, second.grows)) room
      (λ a v e hold.
      let (w, agree, hold') = first.extends a v e hold in
      let (u, agree', hold'') = second.extends a w (extends_same names a old.vars v w room agree e) hold' in
      (u, λ k le. agree k le ∙ agree' k (omega (arith, le, first.grows)), hold''))
      (λ a v e hold.
      let (hold', right) = second.says a v e hold in
      let (hold'', left) = first.says a v e hold' in
      (hold'', ap (λ p. sign_of f p (literal_holds v y)) left ∙ ap (sign_of f (holds a g)) right ∙ sym (sign a)))
      (λ v w agree. ap (λ p. sign_of f p (literal_holds v y)) (literal_same v w last.vars agree x (omega (arith, first.there.1, second.grows))) ∙ ap (sign_of f (literal_holds w x)) (literal_same v w last.vars agree y second.there.1))
      gate

  -- ---- the clause that it is true
  pub clauses_for_literal : (f : Formula) (vars : ℕ) (first mid new : ClauseList) (l : ℤ) → first ≡ record { vars = vars; clauses = [] } → IsLiteralOf names f first mid l → length names ≤ vars → new ≡ with_clause mid (to_z w64 (of_z w64 l) ∷ []) → AreClausesFor names f vars new
  clauses_for_literal f vars first mid new l empty is room made =
      go (subst (λ (d : ClauseList). IsLiteralOf names f d mid l) empty is)
    where
      go : IsLiteralOf names f (record { vars = vars; clauses = [] }) mid l → AreClausesFor names f vars new
      go at = subst (AreClausesFor names f vars) (sym (made ∙ ap (λ k. with_clause mid (k ∷ [])) (read_literal l at.fits))) (record {
        grows = at.grows;
        extends = λ a v e h.
            let (w, agree, hold) = at.extends a v e refl in
            let e' : Extends names a w = extends_same names a vars v w room agree e in
            let (_, same) = at.says a w e' hold in
            (w, agree, all_hold-both w mid.clauses (clause_of (l ∷ []) ∷ []) hold (and-true (clause_holds w (clause_of (l ∷ []))) ∙ clause_of-holds w (l ∷ []) ∙ or-false (literal_holds w l) ∙ same ∙ h));
        satisfied = λ a v e h.
            let (hold, one) = all_hold-parts v mid.clauses (clause_of (l ∷ []) ∷ []) h in
            let (_, same) = at.says a v e hold in
            sym same ∙ sym (or-false (literal_holds v l)) ∙ sym (clause_of-holds v (l ∷ [])) ∙ sym (and-true (clause_holds v (clause_of (l ∷ [])))) ∙ one;
      })

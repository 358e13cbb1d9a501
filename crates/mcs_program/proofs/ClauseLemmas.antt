-- What clauses over the variables of atoms alone say.
use Rattle.std.proofs.Common.{◌≡◌, ℕ, ◌+◌, ◌^◌, ◌<◌, ◌≤◌, zero, suc, Bool, true, false, not, ◌&&◌, ◌||◌, cond, List, [], ◌∷◌, ◌++◌, map, length, arith, refl, sym, ap, ◌∙◌, ℤ}
use Rattle.std.proofs.lemmas.List.Folds.{list_any-append}
use Rattle.std.proofs.Math.Bool.{or-false}
use Rattle.std.specs.List.{AllByRecursion, list_any}
use Rattle.mcs_sets.specs.Sets.{has}
use Rattle.mcs_base.proofs.Each.{all_append}
use Rattle.mcs_system.specs.Plain.{Name, Atom, Not, ProgramRule}
use Rattle.mcs_system.specs.Logic.{is_in, holds, holds_all}
use Rattle.mcs_trace.specs.Clauses.{ClauseList, IsLiteral, literal_holds, clause_holds}
use Rattle.mcs_cnf.specs.ClauseLists.{atom_number, with_literal, clause_of, IsThere}
use Rattle.mcs_cnf.specs.Meaning.{Extends}
use Rattle.mcs_cnf.proofs.NumberLemmas.{atom_positive, atom_within}
use Rattle.mcs_cnf.proofs.Tables.{non-holds}
use Rattle.mcs_meant.specs.Meanings.{AddsFormula}
use Rattle.mcs_meant.proofs.MeaningLemmas.{adds_clause}
use Rattle.mcs_evidence.specs.Programs.{literals_of_state, rule_formula, other_formula, IsOverRule}
use Rattle.mcs_evidence.specs.Pushing.{AreNamesOf}
use Rattle.mcs_evidence.proofs.Models.{all_in, any_in, conjunction-holds, rule_formula-holds}
use Rattle.mcs_program.specs.Clauses.{literal_of, literals_of_names, rule_literals, other_literals}
use Rattle.mcs_program.specs.Splitting.{value_formula}

-- ---- literals
literal_there : (c : ClauseList) (sign : Bool) (n : ℕ) → 0 < n → n ≤ c.vars → IsThere c (literal_of sign n)
literal_there c true n some within = (some, within)
literal_there c false zero some within = absurd (omega arith)
literal_there c false (suc n) some within = (omega arith, omega arith)

pub literal_fits : (sign : Bool) (n : ℕ) → 0 < n → n < 2 ^ 63 → IsLiteral (literal_of sign n)
literal_fits true n some few = (some, few)
literal_fits false zero some few = absurd (omega arith)
literal_fits false (suc n) some few = (omega arith, omega arith)

pub atom_there : (names : List Name) (c : ClauseList) (sign : Bool) (n : Name) → length names ≤ c.vars → is_in n names ≡ true → IsThere c (literal_of sign (atom_number names n))
atom_there names c sign n room known = literal_there c sign (atom_number names n) (atom_positive names n) (omega (arith, atom_within names n known))

pub literals_there : (names : List Name) (c : ClauseList) (sign : Bool) (ns : List Name) → length names ≤ c.vars → AreNamesOf names ns → AllByRecursion (IsThere c) (literals_of_names names sign ns)
literals_there names c sign [] room all = tt
literals_there names c sign (n ∷ ns) room all = (atom_there names c sign n room all.0, literals_there names c sign ns room all.1)

pub others_there : (names : List Name) (c : ClauseList) (k : ℕ) (ns : List Name) (state : ℕ) → length names ≤ c.vars → AreNamesOf names ns → AllByRecursion (IsThere c) (other_literals names k ns state)
others_there names c k [] state room all = tt
others_there names c k (n ∷ ns) state room all = (atom_there names c (not (has state k)) n room all.0, others_there names c (k + 1) ns state room all.1)

pub rule_there : (names : List Name) (c : ClauseList) (r : ProgramRule) → length names ≤ c.vars → IsOverRule names r → AllByRecursion (IsThere c) (rule_literals names r)
rule_there names c r room over =
    all_append (IsThere c) (literals_of_names names false r.pos) (literals_of_names names true r.neg ++ literals_of_names names true r.head) (literals_there names c false r.pos room over.1)
    (all_append (IsThere c) (literals_of_names names true r.neg) (literals_of_names names true r.head) (literals_there names c true r.neg room over.2) (literals_there names c true r.head room over.0))

-- ---- what they say
module _ (v : ℕ → Bool) (names a : List Name) (extends : Extends names a v) where
  true_literal : (n : Name) → is_in n names ≡ true → literal_holds v (literal_of true (atom_number names n)) ≡ is_in n a
  true_literal n known = extends n known

  false_literal : (n : Name) → is_in n names ≡ true → literal_holds v (literal_of false (atom_number names n)) ≡ not (is_in n a)
  false_literal n known = non-holds v (atom_number names n) (atom_positive names n) ∙ ap not (extends n known)

  true_literals : (ns : List Name) → AreNamesOf names ns → list_any (literal_holds v) (literals_of_names names true ns) ≡ any_in a ns
  true_literals [] all = refl
  true_literals (n ∷ ns) all = ap (λ b. b || list_any (literal_holds v) (literals_of_names names true ns)) (true_literal n all.0) ∙ ap (λ b. is_in n a || b) (true_literals ns all.1)

  false_literals : (ns : List Name) → AreNamesOf names ns → list_any (literal_holds v) (literals_of_names names false ns) ≡ not (all_in a ns)
  false_literals [] all = refl
  false_literals (n ∷ ns) all = ap (λ b. b || list_any (literal_holds v) (literals_of_names names false ns)) (false_literal n all.0) ∙ ap (λ b. not (is_in n a) || b) (false_literals ns all.1) ∙ turn (is_in n a) (all_in a ns)
    where
      turn : (x y : Bool) → (not x || not y) ≡ not (x && y)
      turn true y = refl
      turn false y = refl

  pub rule_says : (r : ProgramRule) → IsOverRule names r → clause_holds v (rule_literals names r) ≡ holds a (rule_formula r)
  rule_says r over =
      list_any-append (literal_holds v) (literals_of_names names false r.pos) (literals_of_names names true r.neg ++ literals_of_names names true r.head)
      ∙ ap (λ b. list_any (literal_holds v) (literals_of_names names false r.pos) || b) (list_any-append (literal_holds v) (literals_of_names names true r.neg) (literals_of_names names true r.head))
      ∙ ap (λ b. b || (list_any (literal_holds v) (literals_of_names names true r.neg) || list_any (literal_holds v) (literals_of_names names true r.head))) (false_literals r.pos over.1)
      ∙ ap (λ b. not (all_in a r.pos) || (b || list_any (literal_holds v) (literals_of_names names true r.head))) (true_literals r.neg over.2)
      ∙ ap (λ b. not (all_in a r.pos) || (any_in a r.neg || b)) (true_literals r.head over.0)
      ∙ turn (all_in a r.pos) (any_in a r.neg) (any_in a r.head)
      ∙ sym (rule_formula-holds a r)
    where
      turn : (x y z : Bool) → (not x || (y || z)) ≡ (not (x && not y) || z)
      turn true true z = refl
      turn true false z = refl
      turn false y z = refl

  pub value_says : (value : Bool) (n : Name) → is_in n names ≡ true → clause_holds v (literal_of value (atom_number names n) ∷ []) ≡ holds a (value_formula (Atom n) value)
  value_says true n known = or-false (literal_holds v (literal_of true (atom_number names n))) ∙ true_literal n known
  value_says false n known = or-false (literal_holds v (literal_of false (atom_number names n))) ∙ false_literal n known

  others_say : (k : ℕ) (ns : List Name) (state : ℕ) → AreNamesOf names ns → list_any (literal_holds v) (other_literals names k ns state) ≡ not (holds_all a (literals_of_state k (map Atom ns) state))
  others_say k [] state all = refl
  others_say k (n ∷ ns) state all =
      ap (λ b. b || list_any (literal_holds v) (other_literals names (k + 1) ns state)) (one (has state k))
      ∙ ap (λ b. not (holds a (cond (has state k) (Atom n) (Not (Atom n)))) || b) (others_say (k + 1) ns state all.1)
      ∙ turn (holds a (cond (has state k) (Atom n) (Not (Atom n)))) (holds_all a (literals_of_state (k + 1) (map Atom ns) state))
    where
      one : (b : Bool) → literal_holds v (literal_of (not b) (atom_number names n)) ≡ not (holds a (cond b (Atom n) (Not (Atom n))))
      one true = false_literal n all.0
      one false = true_literal n all.0 ∙ twice (is_in n a)
        where
          twice : (x : Bool) → x ≡ not (not x)
          twice true = refl
          twice false = refl

      turn : (x y : Bool) → (not x || not y) ≡ not (x && y)
      turn true y = refl
      turn false y = refl

  pub other_says : (ns : List Name) (state : ℕ) → AreNamesOf names ns → clause_holds v (other_literals names 0 ns state) ≡ holds a (other_formula (map Atom ns) state)
  other_says ns state all = others_say 0 ns state all ∙ ap not (sym (conjunction-holds a (literals_of_state 0 (map Atom ns) state)))

one_literal : (l : ℤ) → l ∷ [] ≡ clause_of (l ∷ [])
unfolding clause_of with_literal
one_literal l = refl

-- the clause of one literal adds what it says
pub adds_value : (names : List Name) (n : Name) (value : Bool) (old new : ClauseList) → is_in n names ≡ true → new ≡ record old { clauses = old.clauses ++ (literal_of value (atom_number names n) ∷ []) ∷ [] }
    → AddsFormula names (value_formula (Atom n) value) old new
adds_value names n value old new known is = adds_clause names (value_formula (Atom n) value) (literal_of value (atom_number names n) ∷ []) old new
    (is ∙ ap (λ (c : List ℤ). (let f : ClauseList = record { vars = old.vars; clauses = old.clauses ++ c ∷ [] } in f)) (one_literal (literal_of value (atom_number names n))))
    (λ a v extends. value_says v names a extends value n known)

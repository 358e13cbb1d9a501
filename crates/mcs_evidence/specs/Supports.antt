-- Support of sets of atoms from outside: each set that an answer set meets has it (the loop formulas of Lee and Lifschitz 2003; unfounded sets are those without it: Leone, Rullo and Scarcello 1997).
use Rattle.std.specs.Prelude.{◌≡◌, false, Bool, not, ◌&&◌, IsTrue, List, ◌++◌, map, filter}
use Rattle.std.specs.List.{list_any, list_all}
use Rattle.mcs_base.specs.Listings.{IsAmong}
use Rattle.mcs_system.specs.Plain.{Name, Formula, Implies, ProgramRule}
use Rattle.mcs_system.specs.Logic.{is_in}
use Rattle.mcs_evidence.specs.Programs.{atoms_as, negated_atoms, conjunction, disjunction}

-- in a set of true atoms the rule supports the set u from outside: it has a head atom in u and no positive body atom there, its body holds, and no head atom beside those in u is true
pub record IsOutsideSupport (u a : List Name) (r : ProgramRule) : Type 0 where
  pub in_head : IsTrue (list_any (λ n. is_in n u) r.head)
  pub from_outside : list_any (λ n. is_in n u) r.pos ≡ false
  pub positive : IsTrue (list_all (λ n. is_in n a) r.pos)
  pub negative : list_any (λ n. is_in n a) r.neg ≡ false
  pub alone : (n : Name) → IsTrue (is_in n r.head) → IsTrue (is_in n a) → IsTrue (is_in n u)

-- some rule does
abbrev pub HasOutsideSupport : List ProgramRule → List Name → List Name → Type 0
HasOutsideSupport rules u a = (r : ProgramRule) × IsAmong r rules × IsOutsideSupport u a r

-- no positive body leads from the atom on without end: the positive bodies of all rules with it in the head have such atoms alone
pub data IsBased (rules : List ProgramRule) : Name → Type 0 where
  Based : (n : Name) → ((r : ProgramRule) → IsAmong r rules → IsTrue (is_in n r.head) → (p : Name) → IsTrue (is_in p r.pos) → IsBased rules p) → IsBased rules n

-- ---- formulas
-- a head atom of the rule is in the set, and no positive body atom
abbrev pub may_support : List Name → ProgramRule → Bool
may_support u r = list_any (λ n. is_in n u) r.head && not (list_any (λ n. is_in n u) r.pos)

-- the body of the rule holds, and no head atom beside those in the set
abbrev pub outside_formula : List Name → ProgramRule → Formula
outside_formula u r = conjunction ((atoms_as r.pos ++ negated_atoms r.neg) ++ negated_atoms (filter (λ n. not (is_in n u)) r.head))

-- the set has support from outside if one of its atoms is true
abbrev pub support_formula : List ProgramRule → List Name → Formula
support_formula rules u = Implies (disjunction (atoms_as u)) (disjunction (map (outside_formula u) (filter (may_support u) rules)))

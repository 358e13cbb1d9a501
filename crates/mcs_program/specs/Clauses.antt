-- Clauses over the variables of atoms alone.
use Rattle.std.specs.Prelude.{ℕ, ◌+◌, cond, Bool, true, false, not, List, [], ◌∷◌, ◌++◌, map, ℤ, pos}
use Rattle.mcs_sets.specs.Sets.{has}
use Rattle.mcs_system.specs.Plain.{Name, ProgramRule}
use Rattle.mcs_cnf.specs.ClauseLists.{non, atom_number}

-- the literal that says that the variable is true, or that it is false
abbrev pub literal_of : Bool → ℕ → ℤ
literal_of sign variable = cond sign (pos variable) (non variable)

-- the literals that say this of each of the names
abbrev pub literals_of_names : List Name → Bool → List Name → List ℤ
literals_of_names names sign these = map (λ (n : Name). literal_of sign (atom_number names n)) these

-- a positive atom is false, or a negative one or one of the head is true
abbrev pub rule_literals : List Name → ProgramRule → List ℤ
rule_literals names r = literals_of_names names false r.pos ++ (literals_of_names names true r.neg ++ literals_of_names names true r.head)

-- of the beliefs, the first one having place k, one is not as the state has it
abbrev pub other_literals : List Name → ℕ → List Name → ℕ → List ℤ
other_literals names k [] state = []
other_literals names k (n ∷ ns) state = literal_of (not (has state k)) (atom_number names n) ∷ other_literals names (k + 1) ns state

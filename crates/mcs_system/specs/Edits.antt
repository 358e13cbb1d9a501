-- Systems with the same contexts and other rules.
use Rattle.std.specs.Prelude.{not, List, [], ◌∷◌, ◌++◌, filter}
use Rattle.mcs_system.specs.Plain.{Name, Bridge, System}
use Rattle.mcs_system.specs.Logic.{same_name}

abbrev pub with_rules : System → List Bridge → System
with_rules m rules = record m { bridges = rules }

-- with this rule as the last one
abbrev pub with_rule : System → Bridge → System
with_rule m b = with_rules m (m.bridges ++ b ∷ [])

-- without the rules of this name; those after them move up
abbrev pub without_rule : System → Name → System
without_rule m n = with_rules m (filter (λ (b : Bridge). not (same_name n b.name)) m.bridges)

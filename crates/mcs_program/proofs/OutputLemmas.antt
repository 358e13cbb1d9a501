-- Rules with facts, and names that are lent.
use Rattle.std.proofs.Common.{List, [], ◌∷◌, ◌++◌, map}
use Rattle.std.specs.List.{filter_map}
use Rattle.mcs_base.proofs.Each.{all_append}
use Rattle.mcs_system.specs.Plain.{Name, Atom, ProgramRule}
use Rattle.mcs_system.specs.Logic.{fact_of}
use Rattle.mcs_evidence.specs.Programs.{IsOverRule, AreOverRules}
use Rattle.mcs_evidence.specs.Pushing.{AreNamesOf}

facts_over : (names added : List Name) → AreNamesOf names added → AreOverRules names (filter_map fact_of (map Atom added))
facts_over names [] all = tt
facts_over names (n ∷ ns) all = (((all.0, tt), tt, tt), facts_over names ns all.1)

pub with_facts_over : (names added : List Name) (rules : List ProgramRule) → AreOverRules names rules → AreNamesOf names added → AreOverRules names (rules ++ filter_map fact_of (map Atom added))
with_facts_over names added rules over all = all_append (IsOverRule names) rules (filter_map fact_of (map Atom added)) over (facts_over names added all)

-- The printed forms of sets: of variables and of bridge rules.
use Rattle.std.specs.Prelude.{ℕ, List, [], map, length, Option, Some, None, slice_get}
use Rattle.mcs_sets.specs.Sets.{members}
use Rattle.mcs_system.specs.Plain.{Name, Read, Bridge, System}
use Rattle.mcs_system.specs.Systems.{variables}
use Rattle.mcs_system.specs.Texts.{belief_text}
use Rattle.mcs_text.specs.Separated.{braced}
use Rattle.mcs_report.specs.declared.members.Member.{Member}
use Rattle.mcs_report.specs.declared.members.Member.TheVariants.{Variable, Rule}

abbrev pub text_of_variable : System → Option Read → List ℕ
text_of_variable m None = []
text_of_variable m (Some r) = belief_text m r

abbrev pub name_of_rule : Option Bridge → Name
name_of_rule None = []
name_of_rule (Some b) = b.name

-- the variable, or the rule, of this number
abbrev pub member_text : Member → System → ℕ → List ℕ
member_text Variable m k = text_of_variable m (slice_get (variables m) k)
member_text Rule m k = name_of_rule (slice_get m.bridges k)

-- how many the system has
abbrev pub member_count : Member → System → ℕ
member_count Variable m = length (variables m)
member_count Rule m = length m.bridges

-- a set of them
abbrev pub member_set_text : Member → System → ℕ → List ℕ
member_set_text kind m set = braced (map (member_text kind m) (members set))

-- a set of variables
abbrev pub state_text : System → ℕ → List ℕ
state_text m σ = member_set_text Variable m σ

-- a set of rules
abbrev pub rules_text : System → ℕ → List ℕ
rules_text m x = member_set_text Rule m x

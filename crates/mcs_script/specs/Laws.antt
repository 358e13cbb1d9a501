-- Laws of what is read by itself and of scripts.
use Rattle.std.specs.Prelude.{◌≡◌, ℕ, ◌≤◌, List, Option, length}
use Rattle.mcs_system.specs.Plain as plain
use Rattle.mcs_system.specs.Plain.{Name, System}
use Rattle.mcs_system.specs.Faults.{IsValid}
use Rattle.mcs_system.specs.declared.limit.Limit.{Limit}
use Rattle.mcs_grammar.specs.Alone.{SpellsBridge, RuleHasFault}
use Rattle.mcs_script.specs.Edits.{Edit}
use Rattle.mcs_script.specs.Scripts.{SpellsScript, ScriptHasFault}

-- a rule by itself has one fault at most
abbrev pub RulesHaveOneFault : Type 0
RulesHaveOneFault = (names : List Name) (bytes : List ℕ) (at number number' : ℕ) (limit limit' : Option Limit) (offset offset' : ℕ) → RuleHasFault names bytes at number limit offset → RuleHasFault names bytes at number' limit' offset'
    → (number ≡ number') × (limit ≡ limit') × (offset ≡ offset')

-- a rule that is spelled has none
abbrev pub SpelledRulesHaveNoFault : Type 0
SpelledRulesHaveNoFault = (names : List Name) (bytes : List ℕ) (at end number : ℕ) (limit : Option Limit) (offset : ℕ) (b : plain.Bridge) → SpellsBridge names bytes at b end → ¬ RuleHasFault names bytes at number limit offset

-- the tokens from a place on spell one rule at most, which ends in one place; a system has no more contexts
abbrev pub RulesAreUnambiguous : Type 0
RulesAreUnambiguous = (names : List Name) (bytes : List ℕ) (at end end' : ℕ) (b c : plain.Bridge) → length names ≤ 64 → SpellsBridge names bytes at b end → SpellsBridge names bytes at c end' → (end ≡ end') × (b ≡ c)

-- a script has one fault at most
abbrev pub ScriptsHaveOneFault : Type 0
ScriptsHaveOneFault = (m : System) (bytes : List ℕ) (number number' : ℕ) (limit limit' : Option Limit) (offset offset' : ℕ) → IsValid m → ScriptHasFault m bytes number limit offset → ScriptHasFault m bytes number' limit' offset'
    → (number ≡ number') × (limit ≡ limit') × (offset ≡ offset')

-- a script that is spelled has none
abbrev pub SpelledScriptsHaveNoFault : Type 0
SpelledScriptsHaveNoFault = (m : System) (bytes : List ℕ) (number : ℕ) (limit : Option Limit) (offset : ℕ) (es : List Edit) → SpellsScript m bytes es → ¬ ScriptHasFault m bytes number limit offset

-- it spells one list of edits at most
abbrev pub ScriptsAreUnambiguous : Type 0
ScriptsAreUnambiguous = (m : System) (bytes : List ℕ) (es ds : List Edit) → SpellsScript m bytes es → SpellsScript m bytes ds → es ≡ ds

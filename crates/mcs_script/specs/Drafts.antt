-- What a draft keeps: a valid system by its rules, and what is found of them.
use Rattle.std.specs.Prelude.{◌≡◌, ℕ, ◌≤◌, List, map, length, slice_get, Some}
use Rattle.mcs_system.specs.declared.bridge.Bridge as code
use Rattle.mcs_system.specs.declared.bridge.Read as code_read
use Rattle.mcs_system.specs.Edits.{with_rules}
use Rattle.mcs_system.specs.Plain.{Context, Bridge, System}
use Rattle.mcs_system.specs.Seen.{bridge_of, read_of}
use Rattle.mcs_system.specs.Systems.{occurrences}
use Rattle.mcs_system.specs.Faults.{IsValid}
use Rattle.mcs_script.specs.declared.share.Share.{Share}
use Rattle.mcs_script.specs.Found.{AreFound, IsShare}

-- the contexts of one system, with these rules
abbrev pub drafted : System → List code.Bridge → System
drafted bare rules = with_rules bare (map bridge_of rules)

-- one for each context
pub record AreShares (contexts : List Context) (rules : List Bridge) (shares : List Share) : Type 0 where
  pub one_each : length shares ≡ length contexts
  pub each : (i : ℕ) (s : Share) → slice_get shares i ≡ Some s → IsShare i contexts rules s

pub record IsDraft (bare : System) (rules : List code.Bridge) (reads : List code_read.Read) (shares : List Share) : Type 0 where
  pub valid : IsValid (drafted bare rules)
  pub found : AreFound (occurrences (drafted bare rules)) (map read_of reads)
  pub shares_are : AreShares bare.contexts (map bridge_of rules) shares

-- no limit is exceeded by what was found
pub record AreWithin (reads : List code_read.Read) (shares : List Share) : Type 0 where
  pub reads_few : length reads ≤ 64
  pub few : (i : ℕ) (s : Share) → slice_get shares i ≡ Some s → (length s.inputs.items ≤ 16) × (length s.atoms.items ≤ 64)

-- A system and the edits of it that a script spells, as they are read from two files, and why there are none.
use Rattle.std.specs.Prelude.{ℕ, List, Option, IfSome, ◌⊎◌}
use Rattle.mcs_system.specs.Plain.{System}
use Rattle.mcs_script.specs.Edits.{Edit}
use Rattle.mcs_listing.specs.Jobs.{File, OfTwoFiles, LacksOneOfTwo}
use Rattle.mcs_listing.specs.Texts.{IsTextOf, IsScriptOf}
use Rattle.mcs_listing.specs.declared.ending.Stop.{Stop}
use Rattle.mcs_listing.specs.declared.ending.Stop.TheVariants as stops
use Rattle.mcs_top.specs.Meaning.{IsSessionRefusal}

-- the first bytes spell the system, the others the edits
abbrev pub AreSpelled : System → List Edit → List ℕ → List ℕ → Type 0
AreSpelled m edits bytes script = IsTextOf m bytes × IsScriptOf m edits script

-- so it is with the files, by what a shelf tells of them
abbrev pub AreRead : System → List Edit → Option (List File) → Type 0
AreRead m edits files = IfSome files (OfTwoFiles (AreSpelled m edits))

-- why they are not read: one of the files is refused, or is not there, or a call on it failed
abbrev pub StopsScript : Stop → Type 0 → Type 0 → Option (List File) → Type 0
StopsScript (stops.Refused why) rose failed files = IfSome files (IsSessionRefusal why)
StopsScript stops.ReadFault rose failed files = rose × IfSome files (λ fs. LacksOneOfTwo (λ bytes. (m : System) × IsTextOf m bytes) fs ⊎ failed)
StopsScript stops.Memory rose failed files = Unit {0}
StopsScript stops.Usage rose failed files = ⊥
StopsScript (stops.Unfinished level budget) rose failed files = ⊥
StopsScript stops.WriteFault rose failed files = ⊥

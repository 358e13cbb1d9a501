-- What writing a text did to an output.
use Rattle.std.specs.Prelude.{◌≡◌, ℕ, ◌≤◌, ◌++◌, List, Option, Result, OnOk, OnErr, IfErr}
use Rattle.mcs_ports.specs.Causes.{Rose}
use Rattle.mcs_ports.specs.Pieces.{Device, appended}
use Rattle.mcs_text.specs.declared.unwritten.Unwritten.{Unwritten}
use Rattle.mcs_text.specs.declared.unwritten.Unwritten.TheVariants as why

-- a front of the text was written
pub record WritesFront (text : List ℕ) (before now : Option (List ℕ)) : Type 0 where
  pub front : List ℕ
  pub rest : List ℕ
  pub parts : front ++ rest ≡ text
  pub written : now ≡ appended before front

-- a write failed exactly where the count of faults rose: want of memory leaves it as before
abbrev pub IsWriteFaultDue : Unwritten → ℕ → ℕ → Type 0
IsWriteFaultDue why.Fault before now = Rose before now
IsWriteFaultDue why.Memory before now = now ≡ before

-- the text was written whole and no write failed, or a front of it and a reason is told; nothing else was changed
pub record Writes {T : Type 0} (text : List ℕ) (before now : Device) (result : Result T Unwritten) : Type 0 where
  pub later : before.faults ≤ now.faults
  pub notes : now.notes ≡ before.notes
  pub quiet : OnOk result (now.faults ≡ before.faults)
  pub whole : OnOk result (now.written ≡ appended before.written text)
  pub front : OnErr result (WritesFront text before.written now.written)
  pub due : IfErr result (λ e. IsWriteFaultDue e before.faults now.faults)

-- What one write does to a sink.
use Rattle.std.specs.Prelude.{◌≡◌, ℕ, ◌<◌, ◌≤◌, List, Result, length, take, IfOk, OnOk, OnErr}
use Rattle.mcs_ports.specs.Causes.{HasCause}
use Rattle.mcs_ports.specs.Pieces.{Device, appended}

-- some bytes from the front of the piece are taken; it fails only where the count of faults rose, and then nothing is
pub record TakesFront {E : Type 0} (piece : List ℕ) (old new : Device) (result : Result ℕ E) : Type 0 where
  pub cause : HasCause old.faults new.faults result
  pub quiet : OnOk result (new.faults ≡ old.faults)
  pub bound : IfOk result (λ n. n ≤ length piece)
  pub progress : IfOk result (λ n. 0 < length piece → 0 < n)
  pub written : IfOk result (λ n. new.written ≡ appended old.written (take n piece))
  pub unwritten : OnErr result (new.written ≡ old.written)
  pub notes : new.notes ≡ old.notes

-- What holds of all generated systems.
use Rattle.std.specs.Prelude.{ℕ}
use Rattle.mcs_system.specs.Faults.{IsValid}
use Rattle.mcs_generator.specs.Generated.{generated_system}

-- none has a fault
abbrev pub GeneratedSystemsAreValid : Type 0
GeneratedSystemsAreValid = (n : ℕ) → IsValid (generated_system n)

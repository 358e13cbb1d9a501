-- The bytes of names that are kept in a table.
use Rattle.std.specs.Prelude.{ℕ, List, map}
use Rattle.std.specs.Global.{Vec}

abbrev pub bytes_in : List (Vec ℕ) → List (List ℕ)
bytes_in keys = map (λ (v : Vec ℕ). v.items) keys

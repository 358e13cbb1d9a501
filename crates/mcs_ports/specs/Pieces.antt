-- What one read and one write do to the bytes of a device.
use Rattle.std.specs.Prelude.{◌≡◌, ◌↔◌, ℕ, ◌≤◌, ◌++◌, List, [], take, drop, Option, Some, Vec, vec_len, vec_capacity}
use Rattle.std.specs.Option.{option_map}
use Rattle.std.specs.declared.alloc.Global.{Global}

-- A read put n bytes at the front of the buffer: they are the next of what was left.
-- None came exactly where nothing was left.
pub record TakesNext (n : ℕ) (buffer left : List ℕ) (left_after : Option (List ℕ)) : Type 0 where
  pub given : take n left ≡ take n buffer
  pub rest : left_after ≡ Some (drop n left)
  pub none : (n ≡ 0) ↔ (left ≡ [])

-- at most so many bytes were taken from the front of these, and the others are left
abbrev pub TakesAtMost : ℕ → List ℕ → Option (List ℕ) → Type 0
TakesAtMost most bytes left = (n : ℕ) × (n ≤ most) × (left ≡ Some (drop n bytes))

-- what stands on an output: the bytes written and the first 256 bytes noted, where they are told, and
-- a count of faults
pub record Device : Type 0 where
  pub written : Option (List ℕ)
  pub notes : Option (List ℕ)
  pub faults : ℕ

-- the bytes that are told, and then these
abbrev pub appended : Option (List ℕ) → List ℕ → Option (List ℕ)
appended told bytes = option_map (λ w. w ++ bytes) told

-- the most bytes that notes hold
abbrev pub most_noted : ℕ
most_noted = 256

-- the first bytes of the notes that are told, with these after them
abbrev pub noted : Option (List ℕ) → List ℕ → Option (List ℕ)
noted told bytes = option_map (λ n. take most_noted (n ++ bytes)) told

-- the vector has at most n bytes, and n fit without more memory
pub record HasRoomFor (n : ℕ) (v : Vec ℕ Global) : Type 0 where
  pub within : vec_len v ≤ n
  pub room : n ≤ vec_capacity v

-- What one call does to a shelf: what it holds, what is left of its open file, where these are told, and its two counts.
use Rattle.std.specs.Prelude.{◌≡◌, ℕ, ◌≤◌, List, [], Option, Result, length, is_some, IsNone, IsSome, IfSome, IfOk, OnOk, OnErr}
use Rattle.mcs_ports.specs.Causes.{Rose, HasCause}
use Rattle.mcs_ports.specs.Pieces.{TakesNext}

module _ {S : Type 0} (held : S → Option (List ℕ → Option (List ℕ))) (left : S → Option (List ℕ)) (faults failures : S → ℕ) (old new : S) where
  -- no count fell, and what is held and what is told are as before
  pub record KeepsShelf : Type 0 where
    pub later : faults old ≤ faults new
    pub failures_later : failures old ≤ failures new
    pub same_held : held new ≡ held old
    pub tells : is_some (left new) ≡ is_some (left old)

  -- an open: it fails only where the count of faults rose, and then no file is open
  pub record OpensFile {E : Type 0} (name : List ℕ) (result : Result (Unit {0}) E) : Type 0 where
    pub cause : HasCause (faults old) (faults new) result
    pub same_held : held new ≡ held old
    pub tells : is_some (left new) ≡ is_some (left old)
    pub failures_later : failures old ≤ failures new
    -- on a file that is there, the count of failures rose too
    pub there : IfSome (held old) (λ files. IsSome (files name) → OnErr result (Rose (failures old) (failures new)))
    pub absent : IfSome (held old) (λ files. IsNone (files name) → failures new ≡ failures old)
    pub opened : OnOk result (IfSome (held old) (λ files. (left new ≡ files name) × IsSome (files name)))
    pub closed : OnErr result (IfSome (left new) (λ l. l ≡ []))

  -- a read into a buffer: it fails only where both counts rose, and then what is left is as before
  pub record ReadsNext {E : Type 0} (buffer : List ℕ) (result : Result ℕ E) : Type 0 where
    pub cause : HasCause (faults old) (faults new) result
    pub failure : HasCause (failures old) (failures new) result
    pub same_held : held new ≡ held old
    pub tells : is_some (left new) ≡ is_some (left old)
    pub bound : IfOk result (λ n. n ≤ length buffer)
    -- the bytes are the next ones of what is left
    pub bytes : IfOk result (λ n. IfSome (left old) (λ l. TakesNext n buffer l (left new)))
    pub failed : OnErr result (left new ≡ left old)

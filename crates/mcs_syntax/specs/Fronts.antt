-- What is known of each part of a grammar.
use Rattle.std.specs.Prelude.{◌≡◌, ℕ, List, length, slice_get, Some}
use Rattle.mcs_syntax.specs.declared.part.Part.{Part}
use Rattle.mcs_syntax.specs.declared.front.Front.{Front}
use Rattle.mcs_syntax.specs.Grammar.{Grammar, front}
use Rattle.mcs_syntax.specs.Parts.{expr_at}

-- what is known of the part at each place
abbrev pub AreFronts : {C A N : Type 0} → Grammar C A N → List (Part C A N) → List Front → Type 0
AreFronts g parts fronts = (length fronts ≡ length parts) × ((k : ℕ) (f : Front) → slice_get fronts k ≡ Some f → f ≡ front g (expr_at parts k))

use Rattle.std.proofs.Common.{◌≡◌, ◌++◌, map, codes}
use Rattle.mcs_text.specs.Separated.{separated}
use Rattle.mcs_text.proofs.Members.{left}
use Rattle.mcs_spelling.specs.Parts.{default_places_text}
use Rattle.mcs_spelling.proofs.places.push_defaults_at.Given as goal

abbrev pub invariant-loop-place : goal.invariant-loop-place
invariant-loop-place l = l.text ++ left l.is_first (map default_places_text l.place-iterator) ≡ l.fn.text ++ (codes "{" ++ separated (map default_places_text l.fn.places))

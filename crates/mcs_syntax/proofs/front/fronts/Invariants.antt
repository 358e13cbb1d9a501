use Rattle.std.proofs.Common.{◌≡◌, ℕ, Some, length, slice_get}
use Rattle.mcs_syntax.specs.declared.front.Front.{Front}
use Rattle.mcs_syntax.specs.Grammar.{front}
use Rattle.mcs_syntax.specs.Parts.{expr_at}
use Rattle.mcs_syntax.proofs.front.fronts.Given as goal

abbrev pub invariant-loop-place : goal.invariant-loop-place
invariant-loop-place g l = (length l.fronts.items ≡ l.place) × ((k : ℕ) (f : Front) → slice_get l.fronts.items k ≡ Some f → f ≡ front (g.N.Rules).grammar (expr_at l.parts k))

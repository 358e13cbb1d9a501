use Rattle.std.proofs.Common.{◌≡◌, List}
use Rattle.std.specs.List.{AllByRecursion}
use Rattle.mcs_system.specs.Plain.{Item}
use Rattle.mcs_default.specs.Searches.{IsLower}
use Rattle.mcs_default.specs.Known.{IsKnown}
use Rattle.mcs_default.proofs.known.Known.with_all_lower.Given as goal

abbrev pub invariant-loop-found : goal.invariant-loop-found
invariant-loop-found l = record {
  set : l.known.set ≡ l.fn.self.set;
  right : (items : List Item) → IsKnown items l.fn.self → AllByRecursion (IsLower items) l.lower → IsKnown items l.known;
}

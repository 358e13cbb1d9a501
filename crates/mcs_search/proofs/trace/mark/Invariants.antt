use Rattle.std.proofs.Common.{◌≡◌, ◌+◌, ◌⊎◌, ℕ, length, false, IsTrue, get_or, take}
use Rattle.mcs_base.specs.Listings.{IsAmong}
use Rattle.mcs_search.specs.Numbering.{AreMarked}
use Rattle.mcs_search.proofs.trace.mark.Given as goal

abbrev pub invariant-loop-number : goal.invariant-loop-number
invariant-loop-number l = record {
  sized : length l.needed.items ≡ length l.fn.needed.items;
  kept : (i : ℕ) → IsTrue (get_or l.fn.needed.items i false) → IsTrue (get_or l.needed.items i false);
  marked : AreMarked l.needed.items (take l.number-index l.numbers);
  only : (i : ℕ) → IsTrue (get_or l.needed.items i false) → IsTrue (get_or l.fn.needed.items i false) ⊎ IsAmong (i + 1) l.numbers;
}

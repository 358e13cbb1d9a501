-- What the visits of clauses keep of a trail and of the watches, one after the other.
use Rattle.std.proofs.Common.{◌≡◌, ℕ, ◌+◌, List, [], ◌∷◌, ◌++◌, ◌⊎◌, refl, sym, ◌∙◌, subst, arith, ℤ, neg_ℤ, length, Some, slice_get}
use Rattle.mcs_base.specs.Listings.{IsAmong}
use Rattle.mcs_engine.specs.declared.trail.Entry.{Entry}
use Rattle.mcs_engine.specs.declared.trail.Trail.{Trail}
use Rattle.mcs_engine.specs.declared.watches.Watches.{Watches}
use Rattle.mcs_engine.specs.Extending.{Extends, IsTrail}
use Rattle.mcs_engine.specs.Trails.{GrowsOnLevel, IsOn}
use Rattle.mcs_engine.specs.Watching.{AreWatched, KeepsWatches}
use Rattle.mcs_engine.proofs.GrowLemmas.{grows-more, grows-none, trail-push, trail-same}
use Rattle.mcs_engine.proofs.KeptLemmas.{moved-list, moved-then, spared-list, spared-then}
use Rattle.mcs_engine.proofs.WatchLemmas.{reached-across, reached-list}

-- ---- trails
pub extends-none : (known : List (List ℤ)) (level : ℕ) (t : Trail) → IsTrail known t → Extends known level t t
extends-none known level t is = record { trail = is; positions = refl; grows = grows-none level t.entries.items }

pub extends-then : (known : List (List ℤ)) (level : ℕ) (a b c : Trail) → Extends known level a b → Extends known level b c → Extends known level a c
extends-then known level a b c first second = record {
  trail = second.trail;
  positions = second.positions ∙ first.positions;
  grows = grows-more level a.entries.items b.entries.items c.entries.items first.grows second.grows;
}

module _ (known : List (List ℤ)) (level : ℕ) (old new : Trail) (trail : IsTrail known old) (sized : length new.positions.items ≡ length old.positions.items) where
  -- no literal was made true
  pub extends-same : new.entries.items ≡ old.entries.items → Extends known level old new
  extends-same same = record {
    trail = trail-same known old new trail sized same;
    positions = sized;
    grows = subst (GrowsOnLevel level old.entries.items) (sym same) (grows-none level old.entries.items);
  }

  -- a literal was made true by a clause whose other literals are false
  pub extends-push : (i : ℕ) (c : List ℤ) (l k : ℤ) → slice_get known i ≡ Some c → IsAmong l c → ((m : ℤ) → IsAmong m c → (m ≡ l) ⊎ IsOn old.entries.items (neg_ℤ m)) → k ≡ l
      → new.entries.items ≡ old.entries.items ++ record { literal = k; reason = i + 1; level = level } ∷ [] → Extends known level old new
  extends-push i c l k is among others same e = record {
    trail = trail-push known old new trail sized i c l k level is among others same e;
    positions = sized;
    grows = (_ ∷ [], e, ((omega arith, refl), tt));
  }

-- ---- watches
-- the lists alone may have changed
pub keeps-lists : (known : List (List ℤ)) (old new : Watches) (es : List Entry) → AreWatched known new → new.pairs ≡ old.pairs → new.short.items ≡ old.short.items → KeepsWatches known old new es
keeps-lists known old new es watched pairs short = record {
  sized = subst (λ ps. length ps ≡ length old.pairs) (sym pairs) refl;
  spared = spared-list old.pairs new.pairs pairs;
  watched = watched;
  short = short;
  moved = moved-list old.pairs new.pairs es pairs;
  reached = λ r bound h. reached-list known old new es r pairs short h;
}

pub keeps-then : (known : List (List ℤ)) (level : ℕ) (t t' : Trail) (a b c : Watches) → IsTrail known t → GrowsOnLevel level t.entries.items t'.entries.items → KeepsWatches known a b t.entries.items → KeepsWatches known b c t'.entries.items → KeepsWatches known a c t.entries.items
keeps-then known level t t' a b c trail grows first second = record {
  sized = second.sized ∙ first.sized;
  spared = spared-then a.pairs b.pairs c.pairs first.spared second.spared;
  watched = second.watched;
  short = second.short ∙ first.short;
  moved = moved-then level a.pairs b.pairs c.pairs t.entries.items t'.entries.items grows first.moved second.moved;
  reached = λ r bound h. reached-across known level t.entries.items t'.entries.items trail.clauses grows r bound b c second.reached (first.reached r bound h);
}

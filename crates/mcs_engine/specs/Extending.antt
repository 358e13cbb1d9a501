-- A trail whose literals are explained by clauses, and how it goes on.
use Rattle.std.specs.Prelude.{◌≡◌, ℕ, List, ℤ, length}
use Rattle.std.specs.List.{AllByRecursion}
use Rattle.mcs_trace.specs.Clauses.{IsClause}
use Rattle.mcs_engine.specs.declared.trail.Trail.{Trail}
use Rattle.mcs_engine.specs.Trails.{AreCovered, AreExplained, GrowsOnLevel}

-- the clauses are clauses over the variables of a trail, whose literals are explained by them
pub record IsTrail (known : List (List ℤ)) (t : Trail) : Type 0 where
  pub clauses : AllByRecursion IsClause known
  pub covered : AllByRecursion (AreCovered t.positions.items) known
  pub explained : AreExplained known t.entries.items

-- it has as many variables, and more literals, which are implied on the level; they are explained too
pub record Extends (known : List (List ℤ)) (level : ℕ) (before after : Trail) : Type 0 where
  pub trail : IsTrail known after
  pub positions : length after.positions.items ≡ length before.positions.items
  pub grows : GrowsOnLevel level before.entries.items after.entries.items

-- Which rows of a state are to be made.
use Rattle.std.specs.Prelude.{◌≡◌, ◌*◌, ◌+◌, ℕ, true, ◌⊎◌}
use Rattle.mcs_sets.specs.Sets.{common, has, minus, Meets, Within}
use Rattle.mcs_base.specs.Antichains.{HasOneWithin}
use Rattle.mcs_system.specs.Plain.{System}
use Rattle.mcs_system.specs.Imports.{rules_into}
use Rattle.mcs_system.specs.Repairs.{allowed_marks, marks_of}
use Rattle.mcs_system.specs.Systems.{applicable}
use Rattle.mcs_rows.specs.declared.local.Reach as reach

-- a row with these marks is not to be made: one of them is not allowed, or they hold a known set
abbrev pub IsOut : reach.Reach → ℕ → Type 0
IsOut r s = (¬ Within s r.allowed) ⊎ HasOneWithin r.known.now s

-- the marks say of each of these rules that it is removed, and of those that it is forced
pub record HasMarksFor (removed forced s : ℕ) : Type 0 where
  pub removed_there : (k : ℕ) → has removed k ≡ true → has s (2 * k) ≡ true
  pub forced_there : (k : ℕ) → has forced k ≡ true → has s (2 * k + 1) ≡ true

-- each mark that is alone is a known set
abbrev pub AreAloneKnown : reach.Reach → Type 0
AreAloneKnown r = (s : ℕ) → Meets s r.alone → HasOneWithin r.known.now s

-- these rules into context i are removed, and those forced, so that in the state those of x act
pub record ComesTo (m : System) (i state x removed forced : ℕ) : Type 0 where
  pub of_rules : Within x (rules_into m i)
  pub removes : removed ≡ minus (common (applicable m state) (rules_into m i)) x
  pub forces : forced ≡ minus x (common (applicable m state) (rules_into m i))

-- the allowed marks are those of the system; each mark that is alone is a known set; and the rules that are never removed, or never forced, are told by their marks
pub record IsReach (m : System) (r : reach.Reach) : Type 0 where
  pub allowed : r.allowed ≡ allowed_marks m
  pub alone : AreAloneKnown r
  pub removed : (s k : ℕ) → has r.never_removed k ≡ true → has s (2 * k) ≡ true → IsOut r s
  pub forced : (s k : ℕ) → has r.never_forced k ≡ true → has s (2 * k + 1) ≡ true → IsOut r s

-- the marks of all rules into a context
abbrev pub own_marks : System → ℕ → ℕ
own_marks m i = marks_of m (rules_into m i) (rules_into m i)

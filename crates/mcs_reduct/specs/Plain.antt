-- Systems of classical contexts and normal programs.
use Rattle.std.specs.Prelude.{◌≡◌, ℕ, ◌<◌, nat_eq, Bool, true, false, IsTrue, length, Some, slice_get}
use Rattle.std.specs.List.{list_all}
use Rattle.mcs_system.specs.Plain.{ProgramRule, Kb, Classical, Program, Context, System}

-- the rule has exactly one head name: a constraint has none, and a disjunction has more, also where it names one twice
abbrev pub has_one_head : ProgramRule → Bool
has_one_head r = nat_eq (length r.head) 1

-- classical, or a program each of whose rules has exactly one head name
abbrev pub is_plain : Kb → Bool
is_plain (Classical formulas) = true
is_plain (Program rules) = list_all has_one_head rules
is_plain kb = false

-- each context of the system is plain
abbrev pub IsPlain : System → Type 0
IsPlain m = (i : ℕ) (c : Context) → slice_get m.contexts i ≡ Some c → IsTrue (is_plain c.kb)

-- context i is not plain, and each one before it is
pub record IsLowestNotPlain (m : System) (i : ℕ) : Type 0 where
  pub context : Context
  pub is_its : slice_get m.contexts i ≡ Some context
  pub not_plain : is_plain context.kb ≡ false
  pub plain_before : (j : ℕ) (c : Context) → j < i → slice_get m.contexts j ≡ Some c → IsTrue (is_plain c.kb)

-- Systems of whose defaults none has more justifications than a number.
use Rattle.std.specs.Prelude.{ℕ, ◌≤◌, length}
use Rattle.std.specs.List.{AllByRecursion}
use Rattle.mcs_system.specs.Plain.{Item, Fact, Rule, Kb, DefaultTheory, Context, System}

abbrev pub IsJustifiedUpTo : ℕ → Item → Type 0
IsJustifiedUpTo n (Fact f) = Unit {0}
IsJustifiedUpTo n (Rule d) = length d.justs ≤ n

abbrev pub KbIsJustifiedUpTo : ℕ → Kb → Type 0
KbIsJustifiedUpTo n (DefaultTheory items) = AllByRecursion (IsJustifiedUpTo n) items
KbIsJustifiedUpTo n kb = Unit {0}

abbrev pub SystemIsJustifiedUpTo : ℕ → System → Type 0
SystemIsJustifiedUpTo n m = AllByRecursion (λ (c : Context). KbIsJustifiedUpTo n c.kb) m.contexts

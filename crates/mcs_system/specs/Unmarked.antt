-- Systems whose rules have no marks.
use Rattle.std.specs.Prelude.{◌≡◌}
use Rattle.std.specs.List.{AllByRecursion}
use Rattle.mcs_system.specs.Plain.{Bridge, System, plain_rule}

-- it may be removed, may be forced, and weighs 1
abbrev pub IsPlainRule : Bridge → Type 0
IsPlainRule b = b ≡ plain_rule b.name b.target b.head b.pos b.neg

abbrev pub IsUnmarked : System → Type 0
IsUnmarked m = AllByRecursion IsPlainRule m.bridges

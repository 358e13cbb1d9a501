-- The denials that a formula begins with.
use Rattle.mcs_system.specs.Trees.{Tree, Not}

-- what they deny: the formula itself, where it begins with none
abbrev pub denied : {A : Type 0} → Tree A → Tree A
denied (Not t) = denied t
denied t = t

-- a formula with as many denials before it as the first one begins with
abbrev pub with_denials : {A : Type 0} → Tree A → Tree A → Tree A
with_denials (Not t) u = with_denials t (Not u)
with_denials t u = u

use Rattle.std.proofs.Common.{◌≡◌, true, Some, refl}
use Rattle.mcs_sets.specs.Sets.{single, union, common, minus}
use Rattle.mcs_syntax.specs.Grammar.{Rule, is_readable, front}
use Rattle.mcs_syntax.specs.Operands.{held_by}
use Rattle.mcs_syntax.specs.Worked.{Level, Sum, Product, Factor, sum_rules, sums, sum_operands}
use Rattle.mcs_syntax.proofs.laws.worked_grammars.Goals as goal

tested : (n : Level) → is_readable sums n ≡ true
unfolding single union common minus
tested Sum = refl
tested Product = refl
tested Factor = refl

steady : (n : Level) → front sums (sum_rules n) ≡ front sums (Rule n)
steady Sum = refl
steady Product = refl
steady Factor = refl

balanced : (n : Level) → held_by sum_operands (sum_rules n) 0 ≡ Some 1
balanced Sum = refl
balanced Product = refl
balanced Factor = refl

pub returns-clause-read : goal.returns-clause-read
returns-clause-read c = record { tested = tested; steady = steady }

pub returns-clause-operands : goal.returns-clause-operands
returns-clause-operands c = balanced

pub returns-clause-refused : goal.returns-clause-refused
unfolding single union common minus
returns-clause-refused c = refl

-- Worked grammars: sums of products, which is read, and a choice that hangs, which is refused.
use Rattle.std.specs.Prelude.{ℕ}
use Rattle.mcs_syntax.specs.Grammar.{Expr, Take, Say, Rule, Then, Or, Many, Grammar}
use Rattle.mcs_syntax.specs.Operands.{Operands}

pub data Word : Type 0 where
  Number : Word
  Plus : Word
  Times : Word
  Opens : Word
  Closes : Word

pub data Sign : Type 0 where
  Adds : Sign
  Multiplies : Sign

pub data Level : Type 0 where
  Sum : Level
  Product : Level
  Factor : Level

abbrev pub sum_rules : Level → Expr Word Sign Level
sum_rules Sum = Then (Rule Product) (Many (Then (Take Plus) (Then (Rule Product) (Say Adds))))
sum_rules Product = Then (Rule Factor) (Many (Then (Take Times) (Then (Rule Factor) (Say Multiplies))))
sum_rules Factor = Or (Take Number) (Then (Take Opens) (Then (Rule Sum) (Take Closes)))

abbrev pub word_kind : Word → ℕ
word_kind Number = 0
word_kind Plus = 1
word_kind Times = 2
word_kind Opens = 3
word_kind Closes = 4

-- after a sum a parenthesis may come, after a product a sign of sums too, and after a factor each sign but an opening one
abbrev pub after_level : Level → ℕ
after_level Sum = 16
after_level Product = 18
after_level Factor = 22

abbrev pub sums : Grammar Word Sign Level
sums = record { rules = sum_rules; wants = word_kind; after = after_level; depth = 3 }

abbrev pub brought : Word → ℕ
brought Number = 1
brought Plus = 0
brought Times = 0
brought Opens = 0
brought Closes = 0

-- a number leaves an operand, a sign takes two and leaves one, and each level leaves one
abbrev pub sum_operands : Operands Word Sign Level
sum_operands = record { brings = brought; takes = λ a. 2; leaves = λ a. 1; finds = λ n. 0; makes = λ n. 1 }

-- with one sign for both, a sign after a factor is not told apart
abbrev pub one_sign : Level → Expr Word Sign Level
one_sign Sum = Then (Rule Product) (Many (Then (Take Times) (Then (Rule Product) (Say Adds))))
one_sign Product = Then (Rule Factor) (Many (Then (Take Times) (Then (Rule Factor) (Say Multiplies))))
one_sign Factor = Or (Take Number) (Then (Take Opens) (Then (Rule Sum) (Take Closes)))

abbrev pub after_unclear : Level → ℕ
after_unclear Sum = 16
after_unclear Product = 20
after_unclear Factor = 20

abbrev pub unclear_sums : Grammar Word Sign Level
unclear_sums = record { rules = one_sign; wants = word_kind; after = after_unclear; depth = 3 }

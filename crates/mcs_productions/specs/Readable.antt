-- The productions are read: each test on them computes.
use Rattle.std.proofs.Common.{◌≡◌, true, refl}
use Rattle.mcs_sets.specs.Sets.{single, union, common, minus, has}
use Rattle.mcs_syntax.specs.Grammar.{Rule, IsReadable, front, is_readable}
use Rattle.mcs_syntax.specs.Prompt.{is_deep}
use Rattle.mcs_productions.specs.declared.production.Production.{Production}
use Rattle.mcs_productions.specs.declared.production.Production.TheVariants as name
use Rattle.mcs_productions.specs.Productions.{rules, grammar}

tested : (n : Production) → is_readable grammar n ≡ true
unfolding single union common minus has
tested name.Text = refl
tested name.Context = refl
tested name.Item = refl
tested name.ProgramRule = refl
tested name.Body = refl
tested name.Literal = refl
tested name.Bridge = refl
tested name.MarkedBridge = refl
tested name.BridgeTail = refl
tested name.Read = refl
tested name.Place = refl
tested name.Formula = refl
tested name.Implication = refl
tested name.Disjunction = refl
tested name.Conjunction = refl
tested name.Primary = refl

steady : (n : Production) → front grammar (rules n) ≡ front grammar (Rule n)
steady name.Text = refl
steady name.Context = refl
steady name.Item = refl
steady name.ProgramRule = refl
steady name.Body = refl
steady name.Literal = refl
steady name.Bridge = refl
steady name.MarkedBridge = refl
steady name.BridgeTail = refl
steady name.Read = refl
steady name.Place = refl
steady name.Formula = refl
steady name.Implication = refl
steady name.Disjunction = refl
steady name.Conjunction = refl
steady name.Primary = refl

pub reads : IsReadable grammar
reads = record { tested = tested; steady = steady }

-- a reader tells each action as soon as it can
pub prompt : (n : Production) → is_deep grammar (rules n) ≡ true
prompt name.Text = refl
prompt n = refl

use Rattle.std.proofs.lemmas.Bool.{iff_false}
use Rattle.mcs_base.proofs.Booleans.{false_tells}
use Rattle.mcs_judging.proofs.programs.may_be_shown.Goals as goal

pub returns-then-not-are_ascending : goal.returns-then-not-are_ascending
returns-then-not-are_ascending c = false_tells (λ h. iff_false c.are_ascending.ensures c.if-not-are_ascending.true h.ascending)

pub returns : goal.returns
returns c = (λ yes. record { ascending = c.are_ascending.ensures.0 c.if-not-are_ascending.false; in_range = c.are_in_range.ensures.0 yes }, λ h. c.are_in_range.ensures.1 h.in_range)

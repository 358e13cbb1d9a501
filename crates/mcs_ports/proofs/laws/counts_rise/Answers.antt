use Rattle.std.proofs.Common.{inl, inr, arith}
use Rattle.std.proofs.lemmas.Bool.{cases_lt}
use Rattle.mcs_ports.proofs.laws.counts_rise.Goals as goal

pub returns-clause-greater : goal.returns-clause-greater
returns-clause-greater c = λ before now rose. elim (cases_lt before now) [
  | inl less ↦ inl less
  | inr past ↦ inr (omega (arith, rose))
]

pub returns-clause-standing : goal.returns-clause-standing
returns-clause-standing c = λ count low rose. omega (arith, low, rose)

pub returns-clause-add_up : goal.returns-clause-add_up
returns-clause-add_up c = λ first before now later early rose late. omega (arith, early, rose, late)

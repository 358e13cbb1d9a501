use Rattle.std.proofs.Common.{◌≡◌, subst, arith}
use Rattle.std.proofs.lemmas.Bool.Decides.{nat_tests}
use Rattle.mcs_base.specs.Transversals.{MeetAloneAt}
use Rattle.mcs_transversal.proofs.CriticalLemmas.{alone-same}
use Rattle.mcs_transversal.proofs.critical_edges.meet_alone_at.Goals as goal

pub returns-in-Some : goal.returns-in-Some
returns-in-Some c = (
  λ is. let same : c.in-Some.only ≡ c.args.mark = grind (arith, nat_tests) in subst (MeetAloneAt c.args.edge c.args.t) same c.in-Some.ensures.value,
  λ alone. let same : c.in-Some.only ≡ c.args.mark = alone-same _ _ _ _ c.in-Some.ensures.value alone in grind (arith, nat_tests),
)

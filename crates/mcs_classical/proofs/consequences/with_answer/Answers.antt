use Rattle.std.proofs.Common.{refl, subst}
use Rattle.mcs_classical.specs.Consequences.{IsGoalAnswer}
use Rattle.mcs_classical.proofs.ConsequenceLemmas.{told_follows, told_model}
use Rattle.mcs_classical.proofs.consequences.with_answer.Goals as goal

pub returns-in-None : goal.returns-in-None
returns-in-None c fs goals answer told = told_follows fs goals c.args.place c.args.told (record { entailed = c.with.result; left = c.without.result }) c.with.ensures c.without.ensures (subst (IsGoalAnswer fs goals c.args.place) c.in-None.is answer) told

pub returns-in-Some : goal.returns-in-Some
returns-in-Some c fs goals answer told = told_model fs goals c.args.place c.in-Some.possible c.args.told (record { entailed = c.args.told.entailed; left = c.common.result }) refl c.common.ensures (subst (IsGoalAnswer fs goals c.args.place) c.in-Some.is answer) told

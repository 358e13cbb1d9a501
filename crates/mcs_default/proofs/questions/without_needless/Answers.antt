use Rattle.std.proofs.Common.{rules}
use Rattle.mcs_default.proofs.questions.without_needless.Goals as goal

pub returns-then-branch : goal.returns-then-branch
returns-then-branch c = record {
  kept = search rules;
  exact = λ items parts. ((c.in_ok-entails_all.ensures.exact items parts).0 c.if-branch.true);
}

use Rattle.std.proofs.Common.{◌≡◌, map, take}
use Rattle.mcs_evidence.specs.Defaults.{verdict_of}
use Rattle.mcs_asked.specs.Questions.{theory_names, theory_beliefs, theory_items}
use Rattle.mcs_extensions.proofs.JudgingLemmas.{AreJudged}
use Rattle.mcs_extensions.proofs.default.judge_all.Given as goal

abbrev pub invariant-loop-number : goal.invariant-loop-number
invariant-loop-number l = record {
  kept : l.known ≡ l.fn.known;
  judged : AreJudged (theory_names l.theory) (theory_items l.theory) (theory_beliefs l.theory) l.views.items (map verdict_of (take l.number l.verdicts));
}

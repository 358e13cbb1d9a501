use Rattle.std.proofs.Common.{◌≡◌, ◌+◌, ◌^◌, length}
use Rattle.mcs_proof_lines.specs.Verdicts.{terms_of}
use Rattle.mcs_asked.specs.Questions.{theory_names, theory_beliefs, theory_items}
use Rattle.mcs_judging.proofs.VerdictLemmas.{AreSetsJudged}
use Rattle.mcs_judging.proofs.verdicts.judge_sets.Given as goal

abbrev pub invariant-loop-left : goal.invariant-loop-left
invariant-loop-left l = record {
  kept : l.known ≡ l.fn.known;
  all : l.set + l.left ≡ 2 ^ length l.reading.terms.now.justs.now;
  judged : AreSetsJudged (theory_names l.reading.theory.now) (theory_items l.reading.theory.now) (theory_beliefs l.reading.theory.now) (terms_of l.reading.terms.now) l.fn.lines l.lines l.set l.left l.are_right l.views.items;
}

abbrev pub decreases-loop-left : goal.decreases-loop-left
decreases-loop-left l = l.left

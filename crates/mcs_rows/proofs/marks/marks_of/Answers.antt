use Rattle.mcs_rows.proofs.MarkLemmas.{marks_are}
use Rattle.mcs_rows.proofs.marks.marks_of.Goals as goal

pub returns : goal.returns
returns c = λ m within_removed within_forced. marks_are m c.args.removed c.args.forced c.empty.result c.with_marks.result c.with_marks-2.result within_removed within_forced c.empty.ensures c.with_marks.ensures c.with_marks-2.ensures

use Rattle.std.proofs.Common.{◌++◌}
use Rattle.std.proofs.lemmas.Result.{IfOk-weaker}
use Rattle.mcs_faults.specs.Watching.{IsWatch}
use Rattle.mcs_faults.proofs.RecordLemmas.{after_belief, after_item, role, kept-belief, number-belief, free-item, number-item, name-read, free-role, all-kept}
use Rattle.mcs_faults.proofs.watch.Watch.record.Goals as goal

pub returns : goal.returns
returns c = λ before m a asked none.
    let ends = c.in_ok-record_end.ensures before m a asked none in
    let believed = kept-belief c.args.self.now before m a c.args.said.now asked none c.record_end.new.self ends in
    let begun = c.record_begin.ensures (after_belief c.args.self.now before m a c.args.said.now asked none) a.subject.context believed (number-belief c.args.self.now before m a c.args.said.now asked none c.record_end.new.self believed) (free-item c.args.self.now before m a c.args.said.now asked none) in
    IfOk-weaker c.record_role.result (λ _. IsWatch c.record_role.new.self (after_item c.args.self.now before m a c.args.said.now asked none ++ role c.args.self.now before m a c.args.said.now asked none)) (λ _. IsWatch c.record_role.new.self (before ++ m.uses))
    (λ _ w. all-kept c.args.self.now before m a c.args.said.now asked none c.record_role.new.self w)
    (c.record_role.ensures (after_item c.args.self.now before m a c.args.said.now asked none) a begun (number-item c.args.self.now before m a c.args.said.now asked none c.record_begin.new.self begun) (name-read c.args.self.now before m a c.args.said.now asked none) (free-role c.args.self.now before m a c.args.said.now asked none))

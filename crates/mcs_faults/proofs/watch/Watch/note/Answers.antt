use Rattle.mcs_faults.specs.Watching.{IsEntryAsked}
use Rattle.mcs_faults.proofs.watch.Watch.note.Goals as goal

pub returns-in-Some : goal.returns-in-Some
returns-in-Some c = λ before m a watch is subject said spoken. c.in-Some.ensures before m a (record { watch = watch; token_is = is; subject_is = subject; said = said; spoken = spoken })

pub returns : goal.returns
returns c = λ before m a watch is subject said spoken.
    let asked : IsEntryAsked c.args.self.now before m a (record { subject = c.args.subject; uses = c.args.uses; token = c.args.token; read = c.args.read }) = (record { watch = watch; token_is = is; subject_is = subject; said = said; spoken = spoken }) in
    let none = c.in_default.ensures before m a asked in
    (none, c.in_ok-record.ensures before m a asked none)

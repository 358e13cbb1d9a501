use Rattle.std.proofs.Common.{arith}
use Rattle.mcs_top.specs.Programs.{words_given}
use Rattle.mcs_top.proofs.PromiseLemmas.{memory_kept}
use Rattle.mcs_top.proofs.program.done_so.Goals as goal

pub returns-in-Ok-clause-kept : goal.returns-in-Ok-clause-kept
returns-in-Ok-clause-kept g c = rw (c.after_name.ensures, c.deref.ensures.value, c.in-Ok.ensures.kept) at c.run.ensures.kept

pub returns-in-Ok-clause-unread : goal.returns-in-Ok-clause-unread
returns-in-Ok-clause-unread g c none = c.run.ensures.unread (rw (c.after_name.ensures, c.deref.ensures.value, c.in-Ok.ensures.kept) none)

pub returns-in-Err-clause-kept : goal.returns-in-Err-clause-kept
returns-in-Err-clause-kept g c =
    memory_kept (words_given c.args.words) (g.H.Shelf.held c.args.shelf.now) (g.H.Shelf.faults c.args.shelf.now) (g.H.Shelf.faults c.args.shelf.now) (g.H.Shelf.failures c.args.shelf.now) (g.H.Shelf.failures c.args.shelf.now)
    (g.K.Sink.device c.args.sink.now) (g.K.Sink.device c.note_want_of_memory.new.sink) (omega arith) c.note_want_of_memory.ensures.written c.note_want_of_memory.ensures.faults c.note_want_of_memory.result c.note_want_of_memory.ensures.told

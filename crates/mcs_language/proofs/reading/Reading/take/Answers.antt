use Rattle.std.proofs.Common.{Option, subst}
use Rattle.mcs_account.specs.declared.reader.Taken as code_taken
use Rattle.mcs_account.specs.Taken.{IsTokenTaken}
use Rattle.mcs_language.proofs.ProgressLemmas.{next-untaken}
use Rattle.mcs_language.proofs.TakenLemmas.{told-next, passed-next}
use Rattle.mcs_language.proofs.reading.Reading.take.Goals as goal

pub returns-in_default : goal.returns-in_default
returns-in_default c ts k h at =
    let untaken = subst (λ (o : Option code_taken.Taken). IsTokenTaken o c.args.self.now.reader c.take.new.self c.args.token.now) c.in_default.is c.in_ok-taken.ensures in
    next-untaken c.args.self.now ts k c.args.token.now h at untaken.0 untaken.1 untaken.2

pub returns-in-Some-2 : goal.returns-in-Some-2
returns-in-Some-2 c ts k h at =
    let w = subst (λ (o : Option code_taken.Taken). IsTokenTaken o c.args.self.now.reader c.take.new.self c.args.token.now) c.in-Some.is c.in_ok-taken.ensures in
    told-next c.args.self.now ts k c.args.token.now h at c.take.new.self c.in-Some.taken w.0 w.1.0 w.1.1 c.at-subject.result c.at-subject.ensures.context c.at-subject.ensures.target c.last_read.result c.last_read.ensures c.note.new.self
    _ c.in-Some-2.fault c.in-Some-2.is c.in_ok-fault.ensures

pub returns : goal.returns
returns c ts k h at =
    let w = subst (λ (o : Option code_taken.Taken). IsTokenTaken o c.args.self.now.reader c.take.new.self c.args.token.now) c.in-Some.is c.in_ok-taken.ensures in
    passed-next c.args.self.now ts k c.args.token.now h at c.take.new.self c.in-Some.taken w.0 w.1.0 w.1.1 c.at-subject.result c.at-subject.ensures.context c.at-subject.ensures.target c.last_read.result c.last_read.ensures c.note.new.self
    _ c.pass.new.self c.number_of-number.result c.in_default-2.is c.in_ok-fault.ensures c.number_of-number.ensures c.in_ok-pass.ensures.reader c.in_ok-pass.ensures.account c.in_ok-pass.ensures.place c.in_ok-pass.ensures.context c.in_ok-pass.ensures.target

use Rattle.std.proofs.Common.{List, subst, arith}
use Rattle.mcs_system.specs.Plain.{Name}
use Rattle.mcs_script.specs.Reading.{IsEditOf}
use Rattle.mcs_script.proofs.ScriptLemmas.{told_alone}
use Rattle.mcs_script.proofs.script.Script.next.Goals as goal

pub returns-in-Err : goal.returns-in-Err
returns-in-Err c m read first = (tt, told_alone m c.args.bytes.now _ c.args.self.end read.spelled c.args.first.from c.args.first.to first (omega (arith, c.requires)) c.args.self.rules read.rules c.in-Err.fault (c.in-Err.ensures c.args.self.end first).1)

pub returns-in-Ok : goal.returns-in-Ok
returns-in-Ok c m read first =
    let of_edit = c.in-Ok.ensures c.args.self.end first in
    c.grown.ensures m c.args.bytes.now c.args.self.end (record {
      draft_is = read.draft;
      spelled = read.spelled;
      inside = read.inside;
      to = c.args.first.to;
      first = first;
      some = omega (arith, c.requires);
      read = subst (λ (ns : List Name). IsEditOf ns c.args.bytes.now c.args.self.end c.in-Ok.read) read.rules of_edit.0;
    })

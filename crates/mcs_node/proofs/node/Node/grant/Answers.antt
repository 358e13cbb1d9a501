use Rattle.std.proofs.Common.{arith}
use Rattle.std.specs.Arc.{arc_value}
use Rattle.mcs_node.proofs.GrantedLemmas.{among_them, failed_kept, failed_seen, finished_kept, finished_seen, granted_above, of_rules}
use Rattle.mcs_node.proofs.node.Node.grant.Goals as goal
use Rattle.mcs_node.proofs.node.Node.grant.Goals.{in-Ok, in-Err}

pub returns-then-total-self : goal.returns-then-total-self
returns-then-total-self g c =
    let n = c.self.inside in
    granted_above g.O.Oracle.stands (arc_value n.plan) n.context n.budget n.receivers.items n.known n.before n.oracle n.round c.self.invariant c.args.self.now c.self.view_is c.requires.waits c.in-Some.round c.in-Some.ensures.value
    c.args.total c.stop.new.self c.stop.ensures c.if-total-self.true

pub find_out-oracle-requires-clause-rules : goal.find_out-oracle-requires-clause-rules
find_out-oracle-requires-clause-rules g c =
    let n = c.self.inside in
    of_rules g.O.Oracle.stands (arc_value n.plan) n.context n.budget n.receivers.items n.known n.before n.oracle n.round c.self.invariant c.args.self.now c.self.view_is c.requires.waits c.in-Some.round c.in-Some.ensures.value
    c.in-Some-replace.oracle c.in-Some-replace.ensures.value c.deref.result.now c.deref.ensures.value

pub find_out-oracle-requires-clause-among : goal.find_out-oracle-requires-clause-among
find_out-oracle-requires-clause-among g c =
    let n = c.self.inside in
    among_them g.O.Oracle.stands (arc_value n.plan) n.context n.budget n.receivers.items n.known n.before n.oracle n.round c.self.invariant c.args.self.now c.self.view_is c.requires.waits c.in-Some.round c.in-Some.ensures.value
    c.in-Some-replace.oracle c.in-Some-replace.ensures.value c.deref.result.now c.deref.ensures.value c.replace-known.result c.replace-known.ensures.value

pub invariant_of-self-2 : goal.invariant_of-self-2
invariant_of-self-2 g c =
    let n = c.self.inside in
    elim c.match-with_copies.branch [
      | in-Ok w ↦ rw (w.round-is, w.self-inside-is)
          (finished_kept g.O.Oracle.stands (arc_value n.plan) n.context n.budget n.receivers.items n.known n.before n.oracle n.round c.self.invariant c.args.self.now c.self.view_is c.requires.waits c.in-Some.round c.in-Some.ensures.value
          c.in-Some-replace.oracle c.in-Some-replace.ensures.value c.deref.result.now c.deref.ensures.value c.replace-known.result c.replace-known.ensures.value
          c.find_out-oracle.result.oracle c.find_out-oracle.result.known c.find_out-oracle.ensures.rest c.args.total c.if-total-self.false w.finish.new.self
          w.in-Ok.finish.known w.in-Ok.ensures.known w.in-Ok.finish.copies w.finish.ensures c.find_out-oracle.ensures.known c.find_out-oracle.ensures.now
          (let few = w.in-Ok.ensures.copies in omega (arith, few.0, c.len.ensures, c.in-Some.round.envelopes.ok.0)) w.in-Ok.ensures.copies.1)
      | in-Err w ↦ rw (w.round-is, w.self-inside-is)
          (failed_kept g.O.Oracle.stands (arc_value n.plan) n.context n.budget n.receivers.items n.known n.before n.oracle n.round c.self.invariant c.args.self.now c.self.view_is c.requires.waits c.in-Some.round c.in-Some.ensures.value
          c.in-Some-replace.oracle c.in-Some-replace.ensures.value c.deref.result.now c.deref.ensures.value c.replace-known.result c.replace-known.ensures.value
          c.find_out-oracle.result.oracle c.find_out-oracle.result.known c.find_out-oracle.ensures.rest c.args.total c.if-total-self.false w.stop-in-Err.new.self
          c.replace-known.new.dest w.in-Err.halt w.stop-in-Err.ensures c.find_out-oracle.ensures.cause w.in-Err.ensures.cause)
    ]

pub returns : goal.returns
returns g c =
    let n = c.self.inside in
    elim c.match-with_copies.branch [
      | in-Ok w ↦ rw (w.round-is, w.self-inside-is)
          (finished_seen g.O.Oracle.stands (arc_value n.plan) n.context n.budget n.receivers.items n.known n.before n.oracle n.round c.self.invariant c.args.self.now c.self.view_is c.requires.waits c.in-Some.round c.in-Some.ensures.value
          c.in-Some-replace.oracle c.in-Some-replace.ensures.value c.deref.result.now c.deref.ensures.value c.replace-known.result c.replace-known.ensures.value
          c.find_out-oracle.result.oracle c.find_out-oracle.result.known c.find_out-oracle.ensures.rest c.args.total c.if-total-self.false w.finish.new.self
          w.in-Ok.finish.known w.in-Ok.ensures.known w.in-Ok.finish.copies w.finish.ensures c.find_out-oracle.ensures.known c.find_out-oracle.ensures.now c.find_out-oracle.ensures.journal)
      | in-Err w ↦ rw (w.round-is, w.self-inside-is)
          (failed_seen g.O.Oracle.stands (arc_value n.plan) n.context n.budget n.receivers.items n.known n.before n.oracle n.round c.self.invariant c.args.self.now c.self.view_is c.requires.waits c.in-Some.round c.in-Some.ensures.value
          c.in-Some-replace.oracle c.in-Some-replace.ensures.value c.deref.result.now c.deref.ensures.value c.replace-known.result c.replace-known.ensures.value
          c.find_out-oracle.result.oracle c.find_out-oracle.result.known c.find_out-oracle.ensures.rest c.args.total c.if-total-self.false w.stop-in-Err.new.self
          c.replace-known.new.dest w.in-Err.halt w.stop-in-Err.ensures c.find_out-oracle.ensures.cause w.in-Err.ensures.cause)
    ]

use Rattle.std.proofs.Common.{rules, ◌∙◌, arith}
use Rattle.std.proofs.lemmas.Grind.{common_steps}
use Rattle.mcs_ports.proofs.PieceLemmas.{appended-more}
use Rattle.mcs_ports.proofs.whole.write_whole.Goals as goal

pub loop-taken-preserved : goal.loop-taken-preserved
loop-taken-preserved g c =
    record {
      within = search rules;
      quiet = c.in_ok-taken.ensures.quiet ∙ c.loop-taken.invariant.quiet;
      written = c.in_ok-taken.ensures.written
          ∙ appended-more (g.K.Sink.device c.args.sink.now).written (g.K.Sink.device c.loop-taken.sink).written c.args.bytes.now c.loop-taken.taken c.in_ok-taken.field-0 c.loop-taken.invariant.written;
      notes = search rules;
    }

pub returns-clause-cause : goal.returns-clause-cause
returns-clause-cause g c = grind (arith, common_steps)

pub returns-clause-written : goal.returns-clause-written
returns-clause-written g c = grind (arith, common_steps)

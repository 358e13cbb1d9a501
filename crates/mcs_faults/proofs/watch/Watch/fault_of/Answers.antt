use Rattle.std.proofs.lemmas.Bool.Decides.{not_from_Decides}
use Rattle.mcs_grammar.proofs.RankLemmas.{from-context, from-twin, from-atom, from-limit, none-at-all, none-more}
use Rattle.mcs_faults.proofs.watch.Watch.fault_of.Goals as goal

pub returns-then-is_quiet : goal.returns-then-is_quiet
returns-then-is_quiet c = λ before m a asked. c.is_quiet.ensures c.args.self.now before m a asked c.if-is_quiet.true

pub returns-then-names_no_context : goal.returns-then-names_no_context
returns-then-names_no_context c = λ before m a asked. ((c.names_no_context.ensures before m a asked).0 c.if-names_no_context.true, from-context before m)

pub returns-then-names_a_twin : goal.returns-then-names_a_twin
returns-then-names_a_twin c = λ before m a asked. ((c.names_a_twin.ensures before m a asked).0 c.if-names_a_twin.true, from-twin before m (not_from_Decides c.names_no_context.result (c.names_no_context.ensures before m a asked) c.if-names_no_context.false))

pub returns-then-begins_no_atom : goal.returns-then-begins_no_atom
returns-then-begins_no_atom c = λ before m a asked. ((c.begins_no_atom.ensures before m a asked).0 c.if-begins_no_atom.true, from-atom before m (not_from_Decides c.names_no_context.result (c.names_no_context.ensures before m a asked) c.if-names_no_context.false) (not_from_Decides c.names_a_twin.result (c.names_a_twin.ensures before m a asked) c.if-names_a_twin.false))

pub returns-then-exceeds : goal.returns-then-exceeds
returns-then-exceeds c = λ before m a asked. (
  (c.exceeds.ensures before m a asked).0 c.if-exceeds.true,
  from-limit before m c.loop-limit.limit-index (not_from_Decides c.names_no_context.result (c.names_no_context.ensures before m a asked) c.if-names_no_context.false) (not_from_Decides c.names_a_twin.result (c.names_a_twin.ensures before m a asked) c.if-names_a_twin.false) (not_from_Decides c.begins_no_atom.result (c.begins_no_atom.ensures before m a asked) c.if-begins_no_atom.false) (c.loop-limit.invariant before m a asked) c.loop-limit-test.true,
)

pub loop-limit-preserved : goal.loop-limit-preserved
loop-limit-preserved c = λ before m a asked. none-more before m c.loop-limit.limit-index c.exceeds.result (c.exceeds.ensures before m a asked) c.if-exceeds.false (c.loop-limit.invariant before m a asked)

pub returns : goal.returns
returns c = λ before m a asked.
    none-at-all before m c.loop-limit.limit-index (not_from_Decides c.names_no_context.result (c.names_no_context.ensures before m a asked) c.if-names_no_context.false) (not_from_Decides c.names_a_twin.result (c.names_a_twin.ensures before m a asked) c.if-names_a_twin.false) (not_from_Decides c.begins_no_atom.result (c.begins_no_atom.ensures before m a asked) c.if-begins_no_atom.false) (c.loop-limit.invariant before m a asked) c.loop-limit-test.false

use Rattle.std.proofs.Common.{refl}
use Rattle.mcs_cnf.proofs.GrowingLemmas.{cut_fewer, cut_within}
use Rattle.mcs_grounding.proofs.grounding.tell_order.Goals as goal

pub cut-requires-clause-fewer : goal.cut-requires-clause-fewer
cut-requires-clause-fewer c =
    let grown = c.in_ok-told.ensures.grown in
    cut_fewer c.args.theory.now.asked.now.atoms.now c.args.known.now c.ask_order.new.known grown c.ask_order.new.known c.vars-vars.result c.vars-vars.ensures.value refl

pub cut-requires-clause-within : goal.cut-requires-clause-within
cut-requires-clause-within c =
    let grown = c.in_ok-told.ensures.grown in
    cut_within c.args.theory.now.asked.now.atoms.now c.args.known.now c.ask_order.new.known grown c.ask_order.new.known c.vars-vars.result c.clauses-count.result.now c.vars-vars.ensures.value c.clauses-count.ensures.value c.vars-vars.ensures.kept refl

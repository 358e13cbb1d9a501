use Rattle.std.proofs.Common.{◌++◌, map}
use Rattle.mcs_system.specs.Seen.{default_of}
use Rattle.mcs_grounding.specs.Theories.{consequents}
use Rattle.mcs_default.proofs.General.{generated_clauses}
use Rattle.mcs_cnf.proofs.GrowingLemmas.{grown_room, cut_fewer, cut_within}
use Rattle.mcs_default.proofs.inside.tell_inside.Goals as goal

pub ask_inside-requires : goal.ask_inside-requires
ask_inside-requires c = record { room = (grown_room c.args.theory.now.asked.now.atoms.now c.args.known.now c.push_consequents.new.known ((consequents (map (λ d. default_of d.now) c.args.theory.now.defaults.now) c.args.set), c.in_ok-push_consequents.ensures) c.requires.room) }

pub cut-requires-clause-fewer : goal.cut-requires-clause-fewer
cut-requires-clause-fewer c =
    cut_fewer c.args.theory.now.asked.now.atoms.now c.args.known.now c.push_consequents.new.known ((consequents (map (λ d. default_of d.now) c.args.theory.now.defaults.now) c.args.set), c.in_ok-push_consequents.ensures) c.ask_inside.new.known c.vars-vars.result c.vars-vars.ensures.value c.in_ok-told.ensures.kept

pub cut-requires-clause-within : goal.cut-requires-clause-within
cut-requires-clause-within c =
    cut_within c.args.theory.now.asked.now.atoms.now c.args.known.now c.push_consequents.new.known ((consequents (map (λ d. default_of d.now) c.args.theory.now.defaults.now) c.args.set), c.in_ok-push_consequents.ensures) c.ask_inside.new.known c.vars-vars.result c.clauses-count.result.now c.vars-vars.ensures.value c.clauses-count.ensures.value c.vars-vars.ensures.kept c.in_ok-told.ensures.kept

pub returns-clause-told : goal.returns-clause-told
returns-clause-told c fs is =
    c.in_ok-told.ensures.told (fs ++ consequents (map (λ d. default_of d.now) c.args.theory.now.defaults.now) c.args.set)
    (generated_clauses c.args.theory.now.asked.now.atoms.now fs (map (λ d. default_of d.now) c.args.theory.now.defaults.now) c.args.set c.args.known.now c.push_consequents.new.known c.args.theory.now.over c.in_ok-push_consequents.ensures is)

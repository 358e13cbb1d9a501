use Rattle.std.proofs.Common.{ℕ, ◌++◌, map, refl, sym, subst, take}
use Rattle.std.proofs.lemmas.Result.{IfOk-weaker}
use Rattle.std.specs.List.{AllByRecursion}
use Rattle.mcs_trace.specs.Clauses.{ClauseList, IsWithin}
use Rattle.mcs_system.specs.Seen.{default_of}
use Rattle.mcs_grounding.specs.Theories.{consequents}
use Rattle.mcs_default.proofs.General.{generated_clauses}
use Rattle.mcs_meant.proofs.MeaningLemmas.{list_meant}
use Rattle.mcs_cnf.proofs.GrowingLemmas.{grown_room, cut_fewer, cut_within}
use Rattle.mcs_default.proofs.questions.counterexample.Goals as goal

pub counterexample_in-found-requires-clause-room : goal.counterexample_in-found-requires-clause-room
counterexample_in-found-requires-clause-room c = grown_room c.args.theory.now.asked.now.atoms.now c.args.known.now c.append_consequents.new.known ((consequents (map (λ d. default_of d.now) c.args.theory.now.defaults.now) c.args.set), c.in_ok-append_consequents.ensures.ok) c.requires.room

pub cut-requires-clause-fewer : goal.cut-requires-clause-fewer
cut-requires-clause-fewer c =
    cut_fewer c.args.theory.now.asked.now.atoms.now c.args.known.now c.append_consequents.new.known ((consequents (map (λ d. default_of d.now) c.args.theory.now.defaults.now) c.args.set), c.in_ok-append_consequents.ensures.ok) c.counterexample_in-found.new.known c.vars-vars.result c.vars-vars.ensures.value c.counterexample_in-found.ensures.kept

pub cut-requires-clause-within : goal.cut-requires-clause-within
cut-requires-clause-within c =
    let known : ClauseList = c.args.known.now in
    let more = consequents (map (λ d. default_of d.now) c.args.theory.now.defaults.now) c.args.set in
    subst (λ (k : ℕ). AllByRecursion (IsWithin c.vars-vars.result) (take k c.counterexample_in-found.new.known.clauses)) (sym c.count-count.ensures)
    (cut_within c.args.theory.now.asked.now.atoms.now known c.append_consequents.new.known (more, c.in_ok-append_consequents.ensures.ok) c.counterexample_in-found.new.known c.vars-vars.result known.clauses c.vars-vars.ensures.value refl c.vars-vars.ensures.kept c.counterexample_in-found.ensures.kept)

pub returns-clause-exact : goal.returns-clause-exact
returns-clause-exact c =
    let ds = map (λ d. default_of d.now) c.args.theory.now.defaults.now in
    IfOk-weaker c.counterexample_in-found.result _ _ (λ found told fs is.
    (let clauses = generated_clauses c.args.theory.now.asked.now.atoms.now fs ds c.args.set c.args.known.now c.append_consequents.new.known c.args.theory.now.over c.in_ok-append_consequents.ensures.ok is in
    told (fs ++ consequents ds c.args.set) (list_meant c.args.theory.now.asked.now.atoms.now (fs ++ consequents ds c.args.set) c.append_consequents.new.known clauses.1 clauses.0))) c.counterexample_in-found.ensures.exact

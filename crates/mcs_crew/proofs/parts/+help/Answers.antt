use Rattle.std.proofs.Common.{◌∙◌, ℕ, List, [], Err, ap, rules, subst, sym}
use Rattle.mcs_states.specs.Oracles.{OracleState, with_journal}
use Rattle.mcs_crew.specs.Parts.{IsAsked, IsErrand}
use Rattle.mcs_crew.proofs.PartLemmas.{errand_back, errand_front, errand_left, stopped}
use Rattle.mcs_crew.proofs.parts.+help.Goals as goal
use Rattle.mcs_crew.proofs.parts.+help.Goals.{ask_with_help-then-left-lt-WORTH_HELP, ask_with_help-else-left-lt-WORTH_HELP}

pub ask_in_halves-join-there-requires-after_bounds : goal.ask_in_halves-join-there-requires-after_bounds
ask_in_halves-join-there-requires-after_bounds g t c κs within =
    let before = g.O.Oracle.stands c.args.oracle in
    let now = g.O.Oracle.stands c.fork.new.self in
    let fork = g.O.Oracle.stands c.in-Ok.other in
    let front = c.halves.result.0.now in
    let back = c.halves.result.1.now in
    let errand = errand_front c.args.context before c.args.questions.now front back c.halves.ensures.whole c.requires.errand in
    let first : IsErrand c.args.context now front = subst (λ (o : OracleState). IsErrand c.args.context o front) (sym c.fork.ensures.same) errand in
    let second : IsErrand c.args.context fork back = errand_back c.args.context before fork c.args.questions.now front back c.in-Ok.ensures.forked c.halves.ensures.whole c.requires.errand in
    search (rules, first, second) depth 60 fits 20000

pub ask_in_halves-returns : goal.ask_in_halves-returns
ask_in_halves-returns g t c =
    let now = g.O.Oracle.stands c.fork.new.self in
    let fork = g.O.Oracle.stands c.in-Ok.other in
    let is = c.in-Ok.ensures.forked ∙ ap (with_journal []) (sym c.fork.ensures.same) in
    subst (λ (o : OracleState). IsAsked c.args.context o (g.O.Oracle.stands c.join_asked.result.oracle) c.args.questions.now c.join_asked.result.answers) c.fork.ensures.same
    (subst (λ (qs : List ℕ). IsAsked c.args.context now (g.O.Oracle.stands c.join_asked.result.oracle) qs c.join_asked.result.answers) c.halves.ensures.whole
    (c.join_asked.ensures c.args.context now fork c.halves.result.0.now c.halves.result.1.now is c.join-there.ensures.second c.join-there.ensures.first))

pub ask_with_help-ask_in_turn-more-requires : goal.ask_with_help-ask_in_turn-more-requires
ask_with_help-ask_in_turn-more-requires g t c =
    let (front, whole, asked) = c.ask_alone-asked.ensures in
    errand_left c.args.context (g.O.Oracle.stands c.args.oracle) (g.O.Oracle.stands c.ask_alone-asked.result.0.oracle) c.args.questions.now front c.ask_alone-asked.result.1.now asked.rest whole c.requires

pub ask_with_help-ask_in_halves-more-requires-clause-errand : goal.ask_with_help-ask_in_halves-more-requires-clause-errand
ask_with_help-ask_in_halves-more-requires-clause-errand g t c κs within =
    let (front, whole, asked) = c.ask_alone-asked.ensures in
    errand_left c.args.context (g.O.Oracle.stands c.args.oracle) (g.O.Oracle.stands c.ask_alone-asked.result.0.oracle) c.args.questions.now front c.ask_alone-asked.result.1.now asked.rest whole c.requires

pub ask_with_help-returns-after-left-lt-WORTH_HELP : goal.ask_with_help-returns-after-left-lt-WORTH_HELP
ask_with_help-returns-after-left-lt-WORTH_HELP g t c =
    let (front, whole, asked) = c.ask_alone-asked.ensures in
    let before = g.O.Oracle.stands c.args.oracle in
    let then = g.O.Oracle.stands c.ask_alone-asked.result.0.oracle in
    let left = c.ask_alone-asked.result.1.now in
    let more : IsAsked c.args.context then (g.O.Oracle.stands c.if-left-lt-WORTH_HELP.more.oracle) left c.if-left-lt-WORTH_HELP.more.answers = elim c.if-left-lt-WORTH_HELP.branch [
      | ask_with_help-then-left-lt-WORTH_HELP w ↦ rw w.more-is w.ask_in_turn-more.ensures
      | ask_with_help-else-left-lt-WORTH_HELP w ↦ rw w.more-is w.ask_in_halves-more.ensures
    ] in
    subst (λ (qs : List ℕ). IsAsked c.args.context before (g.O.Oracle.stands c.with_more.result.oracle) qs c.with_more.result.answers) whole
    (c.with_more.ensures c.args.context before then front left (rw c.in-Ok.is at asked) more)

pub ask_with_help-returns-in-Err : goal.ask_with_help-returns-in-Err
ask_with_help-returns-in-Err g t c =
    let (front, whole, asked) = c.ask_alone-asked.ensures in
    let then = g.O.Oracle.stands c.ask_alone-asked.result.0.oracle in
    subst (λ (qs : List ℕ). IsAsked c.args.context (g.O.Oracle.stands c.args.oracle) then qs (Err c.in-Err.halt)) whole
    (stopped c.args.context (g.O.Oracle.stands c.args.oracle) then then front c.ask_alone-asked.result.1.now c.in-Err.halt (rw c.in-Err.is at asked))

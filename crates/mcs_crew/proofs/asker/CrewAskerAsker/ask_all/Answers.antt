use Rattle.mcs_crew.proofs.asker.CrewAskerAsker.ask_all.Goals as goal

pub ask-requires : goal.ask-requires
ask-requires g c = (c.requires.asks c.args.context c.args.oracle c.args.questions (record { context_is = c.requires.context; rules = c.requires.rules })).0

pub returns-clause-answers : goal.returns-clause-answers
returns-clause-answers g c =
    let asked = (c.requires.asks c.args.context c.args.oracle c.args.questions (record { context_is = c.requires.context; rules = c.requires.rules })).1 c.ask.result c.ask.ensures in
    asked.answers_are

pub returns-clause-cause : goal.returns-clause-cause
returns-clause-cause g c =
    let asked = (c.requires.asks c.args.context c.args.oracle c.args.questions (record { context_is = c.requires.context; rules = c.requires.rules })).1 c.ask.result c.ask.ensures in
    asked.cause

pub returns-clause-rest : goal.returns-clause-rest
returns-clause-rest g c =
    let asked = (c.requires.asks c.args.context c.args.oracle c.args.questions (record { context_is = c.requires.context; rules = c.requires.rules })).1 c.ask.result c.ask.ensures in
    asked.rest

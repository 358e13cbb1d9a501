use Rattle.mcs_crew.proofs.parts.ask_in_turn.Goals as goal

pub returns : goal.returns
returns g c = record { answers_are = c.ask_all.ensures.answers; cause = c.ask_all.ensures.cause; rest = c.ask_all.ensures.rest }

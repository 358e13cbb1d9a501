-- What an answer of the code stands for.
use Rattle.mcs_rows.specs.Local.{Answered}
use Rattle.mcs_rows.specs.declared.answer.Answer as code

-- the question and the parts
abbrev pub answered_of : code.Answer → Answered
answered_of a = record { question = a.active; parts = a.parts.items }

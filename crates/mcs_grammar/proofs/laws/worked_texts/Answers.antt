use Rattle.mcs_grammar.proofs.WorkedTexts.{marked-read, refused-fronts}
use Rattle.mcs_grammar.proofs.laws.worked_texts.Goals as goal

pub returns : goal.returns
returns c = record { marked = marked-read; refused = refused-fronts }

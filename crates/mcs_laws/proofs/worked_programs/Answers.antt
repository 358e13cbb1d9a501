use Rattle.mcs_laws.proofs.Worked.{heads_are_facts, negation_allows, negation_undoes, no_self_support}
use Rattle.mcs_laws.proofs.worked_programs.Goals as goal

pub returns : goal.returns
returns c = record { allows = negation_allows; undoes = negation_undoes; unsupported = no_self_support; heads = heads_are_facts }

use Rattle.mcs_asking.proofs.AskingLemmas.{context_there}
use Rattle.mcs_asking.proofs.CoverLemmas.{own_over}
use Rattle.mcs_system.proofs.ValidLemmas.{few_defaults}
use Rattle.mcs_evaluation_tests.proofs.systems.first_knowledge.Goals as goal

pub returns-clause-over : goal.returns-clause-over
returns-clause-over c = rw c.atoms_of.ensures.value (own_over c.args.system.now 0 _ (context_there c.args.system.now c.contexts-contexts.result.now 0 c.index-contexts-0.result c.contexts-contexts.ensures.value c.requires))

pub returns-clause-few_defaults : goal.returns-clause-few_defaults
returns-clause-few_defaults c = few_defaults c.args.system.now c.contexts-contexts.ensures.valid 0 _ (context_there c.args.system.now c.contexts-contexts.result.now 0 c.index-contexts-0.result c.contexts-contexts.ensures.value c.requires)

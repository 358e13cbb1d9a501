use Rattle.mcs_language.proofs.CanonicalReads.{canonical-spells}
use Rattle.mcs_language.proofs.writing.canonical_text_spells.Goals as goal

pub returns : goal.returns
returns c = canonical-spells c.args.system.now c.contexts-contexts.ensures.named c.contexts-contexts.ensures.valid

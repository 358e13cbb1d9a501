use Rattle.mcs_proof_reader.proofs.TextLemmas.{texts_are}
use Rattle.mcs_proof_reader.proofs.texts.Texts.of.Goals as goal

pub returns-in-Ok : goal.returns-in-Ok
returns-in-Ok c = texts_are c.args.system.now _ c.bridges.result.now c.in_ok-variables.ensures c.in_ok-rules.ensures c.in-Ok.ensures c.bridges.ensures.value c.bridges.ensures.valid c.bridges.ensures.named

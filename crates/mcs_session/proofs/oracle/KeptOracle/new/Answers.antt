use Rattle.std.proofs.Common.{subst}
use Rattle.std.specs.Arc.{arc_value}
use Rattle.mcs_system.specs.Plain.{System}
use Rattle.mcs_session.specs.Tables.{AreWordsOf, texts_in}
use Rattle.mcs_session.proofs.OracleLemmas.{made}
use Rattle.mcs_session.proofs.oracle.KeptOracle.new.Goals as goal

pub invariant_of-result : goal.invariant_of-result
invariant_of-result g c =
    rw (c.requires.empty, c.new-2.ensures.items, c.new.ensures.items, c.new-3.ensures.items)
    (made (arc_value c.args.system) c.args.context c.new-kept.result c.words.new.self c.in_ok-words.words c.requires.there c.new-kept.ensures c.in_ok-words.ensures.grown
    (subst (λ (m : System). AreWordsOf (texts_in c.words.new.self.formulas.keys) m c.args.context c.in_ok-words.words) c.deref.ensures c.in_ok-words.ensures.words))

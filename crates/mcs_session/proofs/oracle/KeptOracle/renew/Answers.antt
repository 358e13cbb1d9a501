use Rattle.std.proofs.Common.{◌≡◌, ◌∙◌, [], ℕ, List, sym, ap, subst}
use Rattle.std.specs.Arc.{arc_value}
use Rattle.mcs_system.specs.Plain.{System}
use Rattle.mcs_states.specs.Oracles.{OracleState}
use Rattle.mcs_session.specs.Journalled.{IsOracleOf}
use Rattle.mcs_session.specs.Tables.{AreWordsOf, texts_in}
use Rattle.mcs_session.proofs.OracleLemmas.{of_other, of_same}
use Rattle.mcs_session.proofs.oracle.KeptOracle.renew.Goals as goal

pub invariant_of-self : goal.invariant_of-self
invariant_of-self g c = of_same (arc_value c.self.inside.system) c.self.inside.context (g.A.Asker.journal c.self.inside.asker) c.self.inside.kept c.words.new.self c.self.inside.words c.self.inside.origin c.self.inside.seen.items c.self.inside.journal.items c.self.inside.solved.items c.self.invariant c.words.ensures.grown

pub invariant_of-self-2 : goal.invariant_of-self-2
invariant_of-self-2 g c =
    let m : System = arc_value c.self.inside.system in
    let i : ℕ = c.self.inside.context in
    let unasked : c.self.inside.journal.items ≡ [] = ap (λ (o : OracleState). o.journal) c.self.view_is ∙ c.requires.unasked in
    let same = c.requires.same ∙ ap (λ (o : OracleState). o.system.contexts) (sym c.self.view_is) in
    let before : IsOracleOf m i (g.A.Asker.journal c.self.inside.asker) c.self.inside.kept c.self.inside.words c.self.inside.origin c.self.inside.seen.items [] c.self.inside.solved.items = subst (λ (js : List ℕ). IsOracleOf m i (g.A.Asker.journal c.self.inside.asker) c.self.inside.kept c.self.inside.words c.self.inside.origin c.self.inside.seen.items js c.self.inside.solved.items) unasked c.self.invariant in
    rw unasked (of_other m (arc_value c.args.system) i (g.A.Asker.journal c.self.inside.asker) c.self.inside.kept c.words.new.self c.self.inside.words c.in_ok-words.words c.self.inside.origin c.self.inside.seen.items c.self.inside.solved.items before same c.in_ok-words.ensures.grown
    (subst (λ (n : System). AreWordsOf (texts_in c.words.new.self.formulas.keys) n i c.in_ok-words.words) c.deref.ensures c.in_ok-words.ensures.words))

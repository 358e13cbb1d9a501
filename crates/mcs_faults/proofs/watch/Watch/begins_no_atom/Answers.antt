use Rattle.std.proofs.Common.{sym, ◌∙◌, true≢false}
use Rattle.std.proofs.lemmas.Bool.Decides.{Decides-like}
use Rattle.mcs_base.proofs.Booleans.{false_tells}
use Rattle.mcs_faults.proofs.LimitLemmas.{no-atom-is}
use Rattle.mcs_faults.proofs.watch.Watch.begins_no_atom.Goals as goal

pub returns-then-not-said : goal.returns-then-not-said
returns-then-not-said c = λ before m a asked. false_tells (λ h. true≢false (sym ((no-atom-is c.args.self.now before m a c.args.said.now asked).0 h).0 ∙ c.if-not-said.true))

pub returns-then-is_name_word : goal.returns-then-is_name_word
returns-then-is_name_word c = λ before m a asked. false_tells (λ h. ((no-atom-is c.args.self.now before m a c.args.said.now asked).0 h).2 (c.is_name_word.ensures.0 c.if-is_name_word.true))

pub returns : goal.returns
returns c = λ before m a asked.
    let program = c.is_program.ensures before a.subject.context asked.watch asked.subject_is.context in
    Decides-like _ (no-atom-is c.args.self.now before m a c.args.said.now asked).1 (no-atom-is c.args.self.now before m a c.args.said.now asked).0 (
      λ h. (c.if-not-said.false, program.0 h, λ word. true≢false (sym (c.is_name_word.ensures.1 word) ∙ c.if-is_name_word.false)),
      λ h. program.1 h.1,
    )

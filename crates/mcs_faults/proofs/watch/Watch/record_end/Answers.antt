use Rattle.std.proofs.Common.{◌++◌, List, [], ◌∷◌, refl, sym, ap, subst, IfOk}
use Rattle.std.proofs.lemmas.List.{append-nil}
use Rattle.std.specs.Option.{option_copied}
use Rattle.mcs_grammar.specs.Entries.{Use, EndsRead}
use Rattle.mcs_grammar.specs.Faults.{NamedRead}
use Rattle.mcs_faults.specs.Watching.{IsUseAllowed, IsWatch}
use Rattle.mcs_account.specs.Images.{IsSpokenOf}
use Rattle.mcs_faults.proofs.LimitLemmas.{spoken-of, in-use}
use Rattle.mcs_faults.proofs.FreeLemmas.{allowed-use, no-read}
use Rattle.mcs_faults.proofs.RecordLemmas.{when-yes, when-no}
use Rattle.mcs_faults.proofs.watch.Watch.record_end.Goals as goal

pub returns-in-Some : goal.returns-in-Some
returns-in-Some c = λ before m a asked none.
    let use' = (EndsRead a.subject.target a.subject.context a.belief) in
    let r = c.in-Some.read.now in
    let same = asked.said.read_is c.if-not-said.false r (ap option_copied c.in-Some.is) in
    let spoken = spoken-of c.args.self.now before m a c.args.said.now asked use' refl (c.if-not-said.false, refl, refl, refl) in
    let allowed = allowed-use c.args.self.now before m a c.args.said.now asked none use' (in-use c.args.self.now before m a c.args.said.now asked use' refl (c.if-not-said.false, refl, refl, refl)) in
    subst (λ (us : List Use). IfOk c.record_read.result (λ _. IsWatch c.record_read.new.self (before ++ us))) (sym (when-yes c.args.said.now.uses.ends_read use' c.if-not-said.false))
    (subst (λ (q : NamedRead). IfOk c.record_read.result (λ _. IsWatch c.record_read.new.self (before ++ EndsRead a.subject.target q.context q.belief ∷ []))) same
    (c.record_read.ensures before a.subject.target asked.watch asked.subject_is.target
    (subst (λ (q : NamedRead). IsSpokenOf before (EndsRead a.subject.target q.context q.belief)) (sym same) spoken)
    (subst (λ (q : NamedRead). IsUseAllowed before (EndsRead a.subject.target q.context q.belief)) (sym same) allowed)))

pub returns-in-None : goal.returns-in-None
returns-in-None c = λ before m a asked none.
    subst (λ (us : List Use). IsWatch c.args.self.now (before ++ us)) (sym (when-no c.args.said.now.uses.ends_read (EndsRead a.subject.target a.subject.context a.belief) (no-read c.args.self.now before m a c.args.said.now asked none c.in-None.is)))
    (subst (IsWatch c.args.self.now) (sym (append-nil before)) asked.watch)

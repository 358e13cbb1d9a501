use Rattle.std.proofs.Common.{◌++◌, List, refl, sym, subst, inl}
use Rattle.std.proofs.lemmas.List.{append-nil}
use Rattle.mcs_base.specs.Listings.{IsAmong}
use Rattle.mcs_grammar.specs.Entries.{Use, BeginsItem}
use Rattle.mcs_faults.specs.Watching.{IsWatch}
use Rattle.mcs_faults.proofs.RecordLemmas.{when-yes, when-no}
use Rattle.mcs_faults.proofs.watch.Watch.record_begin.Goals as goal

pub returns-then-said : goal.returns-then-said
returns-then-said c = λ before n watch number free.
    let is = when-yes c.args.said.now.uses.begins_item (BeginsItem n) c.if-said.true in
    let free' = free (BeginsItem n) (subst (λ (us : List Use). IsAmong (BeginsItem n) us) (sym is) (inl refl)) in
    subst (λ (us : List Use). IsWatch c.count_item.new.self (before ++ us)) (sym is) (c.count_item.ensures before n watch number free'.0 free'.1)

pub returns-else-said : goal.returns-else-said
returns-else-said c = λ before n watch number free.
    subst (λ (us : List Use). IsWatch c.args.self.now (before ++ us)) (sym (when-no c.args.said.now.uses.begins_item (BeginsItem n) c.if-said.false)) (subst (IsWatch c.args.self.now) (sym (append-nil before)) watch)

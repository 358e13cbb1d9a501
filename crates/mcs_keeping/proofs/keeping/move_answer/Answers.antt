use Rattle.std.proofs.Common.{◌≡◌, ◌∙◌, None, sym, subst}
use Rattle.std.specs.BTreeMap.{IsUnchanged}
use Rattle.std.specs.Prelude.{IfNone, Option}
use Rattle.mcs_base.proofs.Results.{none_where_never}
use Rattle.mcs_keeping.specs.declared.keeping.Kept.{Kept}
use Rattle.mcs_keeping.proofs.KeepingLemmas.{none_moved, one_moved}
use Rattle.mcs_keeping.proofs.keeping.move_answer.Goals as goal

pub returns-in_default-clause-ok : goal.returns-in_default-clause-ok
returns-in_default-clause-ok c =
    let none : c.remove.result ≡ None = none_where_never c.remove.result c.in_default.not-Some in
    none_moved c.args.question c.args.kept.now c.args.others.now c.remove.new.self (sym c.remove.ensures.value ∙ none)
    (subst (λ (o : Option Kept). IfNone o (IsUnchanged c.args.others.now c.remove.new.self)) none c.remove.ensures.unchanged)

pub returns-clause-ok : goal.returns-clause-ok
returns-clause-ok c =
    one_moved c.args.question c.in-Some.answer c.args.kept.now c.args.others.now c.insert.new.self c.remove.new.self (sym c.in-Some.ensures.value) c.in-Some.ensures.updates.1 c.in-Some.ensures.updates.2
    c.in_ok-insert.ensures.updates.1 c.in_ok-insert.ensures.updates.2

use Rattle.std.proofs.Common.{◌∙◌, ap}
use Rattle.mcs_grounding.specs.Asked.{theory_names}
use Rattle.mcs_default.specs.Known.{without_justs}
use Rattle.mcs_default.proofs.known.known_of.Goals as goal

pub returns-then-has_conflict-clause-right : goal.returns-then-has_conflict-clause-right
returns-then-has_conflict-clause-right c items parts =
    c.of_conflict.ensures.right items (c.without_justs.ensures ∙ ap without_justs parts.0) (c.has_conflict.ensures items (rw c.deref.ensures.value ((c.args.search.now.ready.right items parts).2)) c.if-has_conflict.true)

pub returns-clause-right : goal.returns-clause-right
returns-clause-right c items parts =
    let right = c.args.search.now.ready.right items parts in
    c.with_all_upper.ensures.right (theory_names c.args.search.now.theory.now) items (c.with_all_lower.ensures.right items (c.nothing.ensures.right items) (rw c.deref-2.ensures.value right.0)) (rw c.deref-3.ensures.value right.1)

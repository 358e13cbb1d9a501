use Rattle.std.proofs.Common.{◌≡◌, ◌∙◌, ap}
use Rattle.mcs_sets.specs.Sets.{union}
use Rattle.mcs_table.proofs.JoinLemmas.{AreUnions, union_masks, join_of_unions}
use Rattle.mcs_table.proofs.joining.join.Goals as goal

pub unions-requires-clause-on_scope : goal.unions-requires-clause-on_scope
unions-requires-clause-on_scope c = rw (c.rows.ensures.value, c.scope-left.ensures.value) c.scope-left.ensures.kept.on_scope

pub unions-requires-clause-apart : goal.unions-requires-clause-apart
unions-requires-clause-apart c = rw c.rows.ensures.value c.requires

pub minimal_table-requires : goal.minimal_table-requires
minimal_table-requires c =
    let a = c.args.a.now in
    let b = c.args.b.now in
    let all : AreUnions a.rows b.rows c.args.level c.in_ok-unions.unions.items = record { exactly = rw c.rows.ensures.value at c.in_ok-unions.ensures } in
    rw (c.union.ensures, c.scope-left.ensures.value, c.scope-right.ensures.value) (union_masks a b c.scope-left.ensures.kept c.scope-right.ensures.kept c.args.level c.in_ok-unions.unions.items all)

pub returns : goal.returns
returns c =
    let a = c.args.a.now in
    let b = c.args.b.now in
    let all : AreUnions a.rows b.rows c.args.level c.in_ok-unions.unions.items = record { exactly = rw c.rows.ensures.value at c.in_ok-unions.ensures } in
    let scopes : c.union.result ≡ union a.scope b.scope = c.union.ensures ∙ (ap (λ v. union v c.scope-right.result) c.scope-left.ensures.value ∙ ap (union a.scope) c.scope-right.ensures.value) in
    join_of_unions a b c.scope-left.ensures.kept c.scope-right.ensures.kept c.args.level c.in_ok-unions.unions.items all c.minimal_table.result (c.minimal_table.ensures.scope ∙ scopes) c.minimal_table.ensures.rows

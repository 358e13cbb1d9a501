use Rattle.std.proofs.Common.{◌∙◌, List, true, false, true≢false, ap, sym, subst}
use Rattle.std.specs.List.{AllByRecursion, AllZip}
use Rattle.mcs_sets.specs.Sets.{has}
use Rattle.mcs_table.specs.Joins.{union_of}
use Rattle.mcs_table.specs.Tables.{TableData, IsTable}
use Rattle.mcs_joint.specs.Apart.{EachApart}
use Rattle.mcs_joint.specs.First.{HaveJointRow, valued, IsNarrowed}
use Rattle.mcs_joint.proofs.Narrowing.{narrowed_tables, narrowed_apart, absent_settled, true_settled, false_settled}
use Rattle.mcs_joint.proofs.first.settle.Goals as goal

pub returns-then-not-has : goal.returns-then-not-has
returns-then-not-has c =
    let ts = c.args.tables.now.items in
    let v = c.args.variable in
    let scope = c.scopes.ensures.value ∙ ap (union_of (λ (t : TableData). t.scope)) c.deref.ensures.value in
    absent_settled c.args.level v ts c.requires.tables c.requires.apart (ap (λ s. has s v) (sym scope) ∙ (sym c.has.ensures.value ∙ c.if-not-has.true))

pub have_joint_row-requires-clause-tables : goal.have_joint_row-requires-clause-tables
have_joint_row-requires-clause-tables c =
    let ts = c.args.tables.now.items in
    let holding = subst (λ (xs : List TableData). AllZip (IsNarrowed (valued c.args.variable true)) xs c.in_ok-holding.holding.items) c.deref-2.ensures.value c.in_ok-holding.ensures in
    subst (AllByRecursion IsTable) (sym c.deref-3.ensures.value) (narrowed_tables (valued c.args.variable true) ts c.in_ok-holding.holding.items holding)

pub have_joint_row-requires-clause-apart : goal.have_joint_row-requires-clause-apart
have_joint_row-requires-clause-apart c =
    let ts = c.args.tables.now.items in
    let holding = subst (λ (xs : List TableData). AllZip (IsNarrowed (valued c.args.variable true)) xs c.in_ok-holding.holding.items) c.deref-2.ensures.value c.in_ok-holding.ensures in
    subst EachApart (sym c.deref-3.ensures.value) (narrowed_apart (valued c.args.variable true) ts c.in_ok-holding.holding.items holding c.requires.apart)

pub returns-then-branch : goal.returns-then-branch
returns-then-branch c =
    let ts = c.args.tables.now.items in
    let v = c.args.variable in
    let holding = c.in_ok-holding.holding.items in
    let all = subst (λ (xs : List TableData). AllZip (IsNarrowed (valued v true)) xs holding) c.deref-2.ensures.value c.in_ok-holding.ensures in
    let scope = c.scopes.ensures.value ∙ ap (union_of (λ (t : TableData). t.scope)) c.deref.ensures.value in
    let some : HaveJointRow c.args.level holding = subst (HaveJointRow c.args.level) c.deref-3.ensures.value (c.in_ok-have_joint_row.ensures.0 c.if-branch.true) in
    true_settled c.args.level v ts c.requires.tables c.requires.apart (ap (λ s. has s v) (sym scope) ∙ (sym c.has.ensures.value ∙ c.if-not-has.false)) holding all some

pub returns : goal.returns
returns c =
    let ts = c.args.tables.now.items in
    let v = c.args.variable in
    let holding = c.in_ok-holding.holding.items in
    let all = subst (λ (xs : List TableData). AllZip (IsNarrowed (valued v true)) xs holding) c.deref-2.ensures.value c.in_ok-holding.ensures in
    let lacking = subst (λ (xs : List TableData). AllZip (IsNarrowed (valued v false)) xs c.in_ok-tables.field-0.items) c.deref-4.ensures.value c.in_ok-tables.ensures in
    let scope = c.scopes.ensures.value ∙ ap (union_of (λ (t : TableData). t.scope)) c.deref.ensures.value in
    let none : ¬ HaveJointRow c.args.level holding = λ have. true≢false (sym (c.in_ok-have_joint_row.ensures.1 (subst (HaveJointRow c.args.level) (sym c.deref-3.ensures.value) have)) ∙ c.if-branch.false) in
    false_settled c.args.level v ts c.requires.tables c.requires.apart (ap (λ s. has s v) (sym scope) ∙ (sym c.has.ensures.value ∙ c.if-not-has.false)) holding all none c.in_ok-tables.field-0.items lacking

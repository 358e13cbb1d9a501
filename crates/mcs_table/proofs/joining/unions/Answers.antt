use Rattle.std.proofs.Common.{◌≡◌, ◌<◌, ◌∙◌, ◌+◌, ap, subst, arith, List}
use Rattle.std.proofs.lemmas.List.{take_all}
use Rattle.mcs_sets.specs.Sets.{common, size}
use Rattle.mcs_table.specs.Tables.{TableData}
use Rattle.mcs_table.specs.declared.row.Row.{Row}
use Rattle.mcs_table.proofs.JoinLemmas.{AreUnions, found_fit, unions_more, unions_skip}
use Rattle.mcs_table.proofs.joining.unions.Goals.{in-Some+in_ok-push_unions, in_default}
use Rattle.mcs_table.proofs.joining.unions.Goals as goal

pub push_unions-requires : goal.push_unions-requires
push_unions-requires c =
    let a : TableData = record { scope = c.args.scope; rows = c.args.rows.now } in
    let b = c.args.t.now in
    let x = c.row-item.result in
    let i = c.loop-row.row-index in
    let shared : c.common-shared.result ≡ common x.state.values b.scope = c.common-shared.ensures ∙ (ap (λ v. common v c.scope-right.result) c.values.ensures.value ∙ ap (common x.state.values) c.scope-right.ensures.value) in
    let finds = rw (c.deref.ensures.value, shared) at c.partners.ensures in
    let moved = rw c.rows.ensures.value at c.in_ok-sorted.ensures.moved in
    let rest : c.in-Some.room + size x.marks ≡ c.args.level = omega (arith, c.in-Some.ensures, c.count.ensures.number) in
    found_fit a b c.requires.on_scope c.scope-right.ensures.kept c.requires.apart c.args.level i x c.loop-row-test.true c.row-item.is c.loop-row.unions.items c.loop-row.invariant c.in-Some.room rest c.in_ok-sorted.sorted.items c.partners.result.now moved finds

pub loop-row-preserved : goal.loop-row-preserved
loop-row-preserved c =
    let a : TableData = record { scope = c.args.scope; rows = c.args.rows.now } in
    let b = c.args.t.now in
    let x = c.row-item.result in
    let i = c.loop-row.row-index in
    let unions = c.loop-row.unions.items in
    elim c.match-checked_sub.branch [
      | in-Some+in_ok-push_unions w ↦
          let shared : w.common-shared.result ≡ common x.state.values b.scope = w.common-shared.ensures ∙ (ap (λ v. common v c.scope-right.result) w.values.ensures.value ∙ ap (common x.state.values) c.scope-right.ensures.value) in
          let finds = rw (w.deref.ensures.value, shared) at w.partners.ensures in
          let moved = rw c.rows.ensures.value at c.in_ok-sorted.ensures.moved in
          let rest : w.in-Some.room + size x.marks ≡ c.args.level = omega (arith, w.in-Some.ensures, c.count.ensures.number) in
          rw w.unions-is (rw w.in_ok-push_unions.ensures (unions_more a b c.requires.on_scope c.scope-right.ensures.kept c.requires.apart c.args.level i x c.loop-row-test.true c.row-item.is unions c.loop-row.invariant w.in-Some.room rest c.in_ok-sorted.sorted.items w.partners.result.now moved finds))
      | in_default w ↦
          let many : c.args.level < size x.marks = omega (arith, w.in_default.ensures, c.count.ensures.number) in
          rw w.unions-is (unions_skip a b c.requires.on_scope c.scope-right.ensures.kept c.requires.apart c.args.level i x c.loop-row-test.true c.row-item.is unions c.loop-row.invariant many)
    ]

pub returns : goal.returns
returns c = (subst (λ (xs : List Row). AreUnions xs c.args.t.now.rows c.args.level c.loop-row.unions.items) (take_all c.loop-row.row-index c.args.rows.now c.loop-row-test.false) c.loop-row.invariant).exactly

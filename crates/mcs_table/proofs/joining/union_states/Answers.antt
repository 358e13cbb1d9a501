use Rattle.std.proofs.Common.{◌≡◌, ◌<◌, ◌∙◌, ◌+◌, ◌++◌, map, ap, subst, arith, List}
use Rattle.std.proofs.lemmas.List.{take_all}
use Rattle.mcs_sets.specs.Sets.{common, size, union}
use Rattle.mcs_table.specs.Tables.{TableData, united_row}
use Rattle.mcs_table.specs.declared.row.Row.{Row}
use Rattle.mcs_table.proofs.JoinLemmas.{AreUnionStates, states_of_more, unions_more, unions_skip}
use Rattle.mcs_table.proofs.joining.union_states.Goals.{in-Some+in_ok-push_states, in_default}
use Rattle.mcs_table.proofs.joining.union_states.Goals as goal

pub loop-row-preserved : goal.loop-row-preserved
loop-row-preserved c =
    let a : TableData = record { scope = c.args.scope; rows = c.args.rows.now } in
    let b = c.args.t.now in
    let x = c.row-item.result in
    let i = c.loop-row.row-index in
    let so_far = c.loop-row.invariant in
    elim c.match-checked_sub.branch [
      | in-Some+in_ok-push_states w ↦
          let found = w.partners.result.now in
          let values : w.values-values.result ≡ x.state.values = w.values-values.ensures.value in
          let shared : w.common-shared.result ≡ common x.state.values b.scope = w.common-shared.ensures ∙ (ap (λ v. common v c.scope-right.result) values ∙ ap (common x.state.values) c.scope-right.ensures.value) in
          let finds = rw (w.deref.ensures.value, shared) at w.partners.ensures in
          let moved = rw c.rows.ensures.value at c.in_ok-sorted.ensures.moved in
          let rest : w.in-Some.room + size x.marks ≡ c.args.level = omega (arith, w.in-Some.ensures, c.count-count.ensures.number) in
          rw w.states-is (record {
            all = so_far.all ++ map (united_row x) found;
            unions = unions_more a b c.requires.on_scope c.scope-right.ensures.kept c.requires.apart c.args.level i x c.loop-row-test.true c.row-item.is so_far.all so_far.unions w.in-Some.room rest c.in_ok-sorted.sorted.items found moved finds;
            is = w.in_ok-push_states.ensures ∙ (ap (λ states. states ++ map (λ (r : Row). union w.values-values.result r.state.values) found) so_far.is
                ∙ (ap (λ v. map (λ (r : Row). r.state.values) so_far.all ++ map (λ (r : Row). union v r.state.values) found) values ∙ states_of_more x so_far.all found));
          })
      | in_default w ↦
          let many : c.args.level < size x.marks = omega (arith, w.in_default.ensures, c.count-count.ensures.number) in
          rw w.states-is (record {
            all = so_far.all;
            unions = unions_skip a b c.requires.on_scope c.scope-right.ensures.kept c.requires.apart c.args.level i x c.loop-row-test.true c.row-item.is so_far.all so_far.unions many;
            is = so_far.is;
          })
    ]

pub returns : goal.returns
returns c =
    let end = subst (λ (xs : List Row). AreUnionStates xs c.args.t.now.rows c.args.level c.loop-row.states.items) (take_all c.loop-row.row-index c.args.rows.now c.loop-row-test.false) c.loop-row.invariant in
    (end.all, end.unions.exactly, end.is)

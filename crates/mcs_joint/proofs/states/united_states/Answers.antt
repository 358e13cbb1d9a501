use Rattle.std.proofs.Common.{◌≡◌, ◌≤◌, ◌+◌, ◌∙◌, ap, sym, subst, List, [], ◌∷◌, length, map, arith}
use Rattle.mcs_sets.specs.Sets.{union}
use Rattle.mcs_base.specs.Listings.{IsAmong}
use Rattle.mcs_base.proofs.Among.{among_at}
use Rattle.mcs_base.proofs.Each.{all_among}
use Rattle.mcs_table.specs.declared.row.Row.{Row}
use Rattle.mcs_table.specs.Tables.{TableData, IsTable, ShareNoMark, unit_row}
use Rattle.mcs_joint.proofs.Uniting.{united_begin, united_apart, united_more, united_end}
use Rattle.mcs_joint.proofs.states.united_states.Goals as goal

pub loop-k-init : goal.loop-k-init
loop-k-init c =
    let rows : c.in_ok-all.all.items ≡ unit_row ∷ [] = c.in_ok-all.ensures.items ∙ (c.rows.ensures.value ∙ ap (λ (t : TableData). t.rows) c.in_ok-unit.ensures) in
    rw (c.empty-seen.ensures, rows) (united_begin c.args.level c.args.tables.now)

pub union_states-requires-clause-apart : goal.union_states-requires-clause-apart
union_states-requires-clause-apart c = subst (λ (xs : List Row). ShareNoMark xs c.index-tables-k.result.rows) (sym c.deref.ensures.value) (united_apart c.args.level c.args.tables.now c.loop-k.k c.loop-k.seen c.loop-k.all.items c.index-tables-k.result c.loop-k-test.true c.index-tables-k.is c.loop-k.invariant)

pub unions-requires-clause-apart : goal.unions-requires-clause-apart
unions-requires-clause-apart c = subst (λ (xs : List Row). ShareNoMark xs c.index-tables-k.result.rows) (sym c.deref-in-loop-k.ensures.value) (united_apart c.args.level c.args.tables.now c.loop-k.k c.loop-k.seen c.loop-k.all.items c.index-tables-k.result c.loop-k-test.true c.index-tables-k.is c.loop-k.invariant)

pub loop-k-preserved : goal.loop-k-preserved
loop-k-preserved c =
    let unions = rw c.deref-in-loop-k.ensures.value at c.in_ok-all-2.ensures in
    let seen : c.union-seen.result ≡ union c.loop-k.seen c.index-tables-k.result.scope = c.union-seen.ensures ∙ ap (union c.loop-k.seen) c.scope.ensures.value in
    rw seen (united_more c.args.level c.args.tables.now c.loop-k.k c.loop-k.seen c.loop-k.all.items c.index-tables-k.result c.loop-k-test.true c.index-tables-k.is c.loop-k.invariant c.scope.ensures.kept c.requires.apart c.in_ok-all-2.all.items unions)

pub returns-then-k-tables : goal.returns-then-k-tables
returns-then-k-tables c =
    let ts = c.args.tables.now in
    let k = c.loop-k.k in
    let table = c.index-tables-k.result in
    let is_table : IsTable table = all_among IsTable ts table c.requires.tables (subst (λ (t : TableData). IsAmong t ts) (sym c.index-tables-k.is) (among_at ts k table c.loop-k-test.true)) in
    let (all, exactly, is) = c.in_ok-states.ensures in
    let unions = rw c.deref.ensures.value at exactly in
    let more = united_more c.args.level ts k c.loop-k.seen c.loop-k.all.items table c.loop-k-test.true c.index-tables-k.is c.loop-k.invariant is_table c.requires.apart all unions in
    let last : length ts ≤ k + 1 = let e = c.if-k-tables.true in omega (arith, e) in
    (all, united_end c.args.level ts (k + 1) (union c.loop-k.seen table.scope) all last more c.requires.tables, is)

pub returns : goal.returns
returns c = (
  c.loop-k.all.items,
  united_end c.args.level c.args.tables.now c.loop-k.k c.loop-k.seen c.loop-k.all.items c.loop-k-test.false c.loop-k.invariant c.requires.tables,
  c.in_ok-states-2.ensures ∙ ap (map (λ (r : Row). r.state.values)) c.deref-2.ensures.value,
)

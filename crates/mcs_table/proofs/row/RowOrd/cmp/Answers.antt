use Rattle.std.proofs.Common.{◌≡◌, ◌∙◌, ℕ, ap, rules}
use Rattle.std.specs.declared.cmp.Ordering.{Ordering}
use Rattle.std.specs.declared.cmp.Ordering.TheVariants.{Less, Equal, Greater}
use Rattle.std.specs.Ordering.{MatchOrdering, ordering_then}
use Rattle.mcs_base.specs.StateOrder.{state_cmp}
use Rattle.mcs_base.specs.PairOrder.{pair_cmp}
use Rattle.mcs_table.specs.RowOrder.{row_cmp}
use Rattle.mcs_table.proofs.row.RowOrd.cmp.Goals as goal

then_is : (o r p : Ordering) (P : Type 0) → (P → r ≡ p) → MatchOrdering o (r ≡ Less) P (r ≡ Greater) → r ≡ ordering_then o p
then_is Less r p P f h = h
then_is Equal r p P f h = f h
then_is Greater r p P f h = h

pub returns : goal.returns
unfolding row_cmp
returns c =
    let a = c.args.self.now in
    let b = c.args.other.now in
    let h : c.then_with-rows.result ≡ ordering_then c.cmp-states.result (pair_cmp a.marks b.marks) = then_is _ _ (pair_cmp a.marks b.marks) _ (λ q. search rules fits 100) c.then_with-rows.ensures in
    let k : c.then_with.result ≡ ordering_then c.then_with-rows.result (state_cmp a.state.mask b.state.mask) = then_is _ _ (state_cmp a.state.mask b.state.mask) _ (λ q. search rules) c.then_with.ensures in
    let m : c.cmp-states.result ≡ state_cmp a.state.values b.state.values = c.cmp-states.ensures ∙ ap (λ (s : ℕ). state_cmp s c.values-2.result) c.values.ensures.value ∙ ap (state_cmp a.state.values) c.values-2.ensures.value in
    cc

use Rattle.std.proofs.Common.{refl, sym, subst, arith, slice_get, ◌∙◌, true≢false, List}
use Rattle.mcs_table.specs.declared.row.Row.{Row}
use Rattle.mcs_elimination.specs.Runs.{BeginsWith}
use Rattle.mcs_elimination.proofs.Running.{as_dear, begins_anew, cheaper_one, too_dear}
use Rattle.mcs_elimination.proofs.run.add.Goals.{then-price-run-2, else-price-run-2}
use Rattle.mcs_elimination.proofs.run.add.Goals as goal

pub returns-then-not-continues : goal.returns-then-not-continues
returns-then-not-continues c = λ cost is run.
    let other = λ (h : BeginsWith (slice_get c.args.rows.now.items c.args.run.from) c.args.row.state). true≢false (sym (c.continues.ensures.1 (subst (λ (xs : List Row). BeginsWith (slice_get xs c.args.run.from) c.args.row.state) (sym c.deref.ensures.value) h)) ∙ c.if-not-continues.true) in
    rw c.in_ok-push.ensures.items (begins_anew cost c.args.row c.args.rows.now.items c.args.run (record { from = c.len-from.result; price = c.args.price }) (omega (arith, c.len-from.ensures, c.args.rows.now.ok.0)) (sym is) other)

pub returns-then-price-run : goal.returns-then-price-run
returns-then-price-run c = λ cost is run.
    let begins = rw c.deref.ensures.value at c.continues.ensures.0 c.if-not-continues.false in
    too_dear cost c.args.row c.args.rows.now.items c.args.run run begins (rw is c.if-price-run.true)

pub returns : goal.returns
returns c = λ cost is run.
    let begins = rw c.deref.ensures.value at c.continues.ensures.0 c.if-not-continues.false in
    rw c.in_ok-push-2.ensures.items (elim c.if-price-run-2.branch [
      | then-price-run-2 w ↦ rw (w.rows-is, w.truncate.ensures.items) (cheaper_one cost c.args.row c.args.rows.now.items c.args.run run begins _ refl (sym is) (let less = w.if-price-run-2.true in omega (arith, is)))
      | else-price-run-2 w ↦ rw w.rows-is (as_dear cost c.args.row c.args.rows.now.items c.args.run run begins _ refl (sym is) (let not_more = c.if-price-run.false in let not_less = w.if-price-run-2.false in omega (arith, is)))
    ])

use Rattle.std.proofs.Common.{◌≡◌, ◌+◌, ◌++◌, ◌∷◌, [], ◌≤◌, ℕ, sym, ap, ◌∙◌, subst, arith, length}
use Rattle.std.proofs.lemmas.List.{length-append}
use Rattle.mcs_base.specs.Rows.{AreEnds, rows_from}
use Rattle.mcs_base.proofs.RowLemmas.{ends-push, rows-push}
use Rattle.mcs_base.proofs.rows.Rows.push.Goals as goal

pub invariant_of-self-in-Ok : goal.invariant_of-self-in-Ok
invariant_of-self-in-Ok g c =
    let before = c.self.inside.items.items in
    let ends = c.self.inside.ends.items in
    let e : ℕ = c.len.result in
    let total : length c.extend_from_slice.new.self.items ≡ e = (let ok = c.extend_from_slice.new.self.ok.0 in omega (arith, c.len.ensures)) in
    let grown : length before ≤ e = omega (arith, total, ap length c.in_ok-extend_from_slice.ensures.items, length-append before c.args.row.now) in
    subst (AreEnds 0 (length c.extend_from_slice.new.self.items)) (sym (c.in-Ok.ensures.items))
    (subst (λ (t : ℕ). AreEnds 0 t (ends ++ e ∷ [])) (sym total) (ends-push 0 (length before) e ends c.self.invariant grown))

pub returns-in-Ok-clause-ok : goal.returns-in-Ok-clause-ok
returns-in-Ok-clause-ok g c =
    let before = c.self.inside.items.items in
    let ends = c.self.inside.ends.items in
    let row = c.args.row.now in
    let e : ℕ = c.len.result in
    let size : e ≡ length before + length row = (let ok = c.extend_from_slice.new.self.ok.0 in omega (arith, c.len.ensures, ap length c.in_ok-extend_from_slice.ensures.items, length-append before row)) in
    ap (λ xs. rows_from 0 xs c.push.new.self.items) c.in_ok-extend_from_slice.ensures.items
    ∙ ap (rows_from 0 (before ++ row)) c.in-Ok.ensures.items
    ∙ rows-push 0 (length before) e before row ends c.self.invariant (omega arith) size
    ∙ ap (λ rs. rs ++ row ∷ []) c.self.view_is

use Rattle.std.proofs.Common.{◌≡◌, ◌∙◌, ap, sym, length, arith, true, false, refl, Bool, not, eqb}
use Rattle.std.proofs.lemmas.Bool.Decides.{nat_tests}
use Rattle.mcs_table.specs.Elimination.{EliminatesTo}
use Rattle.mcs_table.proofs.PartLemmas.{none_left, some_left}
use Rattle.mcs_joint.proofs.Keeping.{left_whole}
use Rattle.mcs_joint.proofs.first.have_joint_row.Goals as goal

pub returns : goal.returns
returns c =
    let left = c.in_ok-left.left in
    let ts = c.args.tables.now in
    let eliminates : EliminatesTo c.args.level 0 ts left = left_whole c.args.level ts left c.requires.tables c.in_ok-left.ensures in
    let empty : c.is_empty.result ≡ eqb (length left.rows) 0 = c.is_empty.ensures ∙ ap (λ xs. eqb (length xs) 0) c.rows.ensures.value in (
      λ some. some_left c.args.level ts left c.requires.tables eliminates (grind (arith, nat_tests)),
      λ have. there c.is_empty.result (λ e. none_left c.args.level ts left c.requires.tables eliminates (let zero : eqb (length left.rows) 0 ≡ true = sym empty ∙ e in grind (arith, nat_tests)) have),
    )
  where
    there : (b : Bool) → ¬ (b ≡ true) → not b ≡ true
    there true never = absurd (never refl)
    there false never = refl

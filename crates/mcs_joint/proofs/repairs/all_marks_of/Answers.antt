use Rattle.std.proofs.Common.{◌≡◌, ◌∙◌, ◌++◌, ap, map, ℕ, List}
use Rattle.mcs_table.specs.declared.row.Row.{Row}
use Rattle.mcs_joint.proofs.repairs.all_marks_of.Goals as goal

pub returns : goal.returns
returns c =
    let items : c.extend_from_slice.new.self.items ≡ map (λ (r : Row). r.marks) c.args.table.now.rows ++ c.args.others.now = c.in_ok-extend_from_slice.ensures.items ∙ ap (λ (xs : List ℕ). xs ++ c.args.others.now) (c.in_ok-all.ensures ∙ ap (map (λ (r : Row). r.marks)) c.rows.ensures.value) in
    rw items at c.list_pairs.ensures

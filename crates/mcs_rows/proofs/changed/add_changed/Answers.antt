use Rattle.std.proofs.Common.{◌≡◌, ◌++◌, ◌↔◌, ◌⊎◌, ◌∙◌, List, ℕ, map, filter, ap}
use Rattle.std.proofs.lemmas.Result.{IfOk-weaker}
use Rattle.mcs_base.specs.Listings.{IsAmong}
use Rattle.mcs_sets.specs.Sets.{common}
use Rattle.mcs_base.specs.Pairs.{removed_of, forced_of}
use Rattle.mcs_system.specs.Imports.{marks_at, rules_into}
use Rattle.mcs_table.specs.declared.row.Row.{Row}
use Rattle.mcs_rows.specs.Changed.{acting_into}
use Rattle.mcs_rows.specs.Making.{agrees, row_with, IsChangedRow}
use Rattle.mcs_rows.proofs.ChangedLemmas.{acting_inside, changed_added, changed_none}
use Rattle.mcs_rows.proofs.MakingLemmas.{marks_are_at}
use Rattle.mcs_rows.proofs.changed.add_changed.Goals as goal

pub returns-in-Some : goal.returns-in-Some
returns-in-Some c =
    let m = c.args.system.now in let s = c.args.state in let x = c.union-acting.result in
    IfOk-weaker c.add_parts.result
    (λ _. c.add_parts.new.rows.items ≡ c.args.all.now.items ++ map (row_with m c.args.i s c.marks_of-marks.result) (filter (agrees m c.args.i s) c.deref.result.now))
    (λ _. (p : ℕ) → c.args.removed ≡ removed_of p → c.args.forced ≡ common (forced_of p) (rules_into m c.args.i)
    → (r : Row) → IsAmong r c.add_parts.new.rows.items ↔ (IsAmong r c.args.all.now.items ⊎ IsChangedRow m c.args.i p c.args.answers.now s r))
    (λ _ e p removes forces.
    let acts : x ≡ acting_into m c.args.i p s = cc (removes, forces) in
    let marks : c.marks_of-marks.result ≡ marks_at m c.args.i s x =
    marks_are_at m c.args.i s x c.applicable-applying.result c.minus-in-Some.result c.minus-in-Some-2.result c.marks_of-marks.result c.applicable-applying.ensures (acting_inside m c.args.i p s x acts) c.minus-in-Some.ensures c.minus-in-Some-2.ensures (c.marks_of-marks.ensures m) in
    changed_added m c.args.i p s x c.args.answers.now c.in-Some.answer.now acts c.in-Some.ensures c.args.all.now.items c.add_parts.new.rows.items
    (e ∙ ap (λ (parts : List ℕ). c.args.all.now.items ++ map (row_with m c.args.i s c.marks_of-marks.result) (filter (agrees m c.args.i s) parts)) c.deref.ensures.value
    ∙ ap (λ (z : ℕ). c.args.all.now.items ++ map (row_with m c.args.i s z) (filter (agrees m c.args.i s) c.in-Some.answer.now.parts.items)) marks))
    c.add_parts.ensures

pub returns-in-None : goal.returns-in-None
returns-in-None c p removes forces =
    let m = c.args.system.now in let s = c.args.state in let x = c.union-acting.result in
    let acts : x ≡ acting_into m c.args.i p s = cc (removes, forces) in
    changed_none m c.args.i p s x c.args.answers.now acts c.in-None.ensures c.args.all.now.items

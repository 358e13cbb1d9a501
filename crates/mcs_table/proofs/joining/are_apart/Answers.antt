use Rattle.std.proofs.Common.{◌≡◌, ◌∙◌, ap, List, ◌↔◌, IsTrue}
use Rattle.std.proofs.lemmas.Bool.Decides.{Decides-not}
use Rattle.mcs_sets.specs.Sets.{Meets}
use Rattle.mcs_table.specs.declared.row.Row.{Row}
use Rattle.mcs_table.specs.Joins.{union_of}
use Rattle.mcs_table.proofs.ApartLemmas.{apart_is}
use Rattle.mcs_table.proofs.joining.are_apart.Goals as goal

pub returns : goal.returns
returns c =
    let f = λ (rs : List Row). union_of (λ (r : Row). r.marks) rs in
    let first : c.all_marks.result ≡ f c.args.a.now.rows = c.all_marks.ensures ∙ ap f c.rows.ensures.value in
    let second : c.all_marks-2.result ≡ f c.args.b.now.rows = c.all_marks-2.ensures ∙ ap f c.rows-2.ensures.value in
    let meets : IsTrue c.meets.result ↔ Meets (f c.args.a.now.rows) (f c.args.b.now.rows) = rw (first, second) at c.meets.ensures in
    let test = Decides-not c.meets.result meets in
    let is = apart_is c.args.a.now.rows c.args.b.now.rows in
    (λ h. is.0 (test.0 h), λ h. test.1 (is.1 h))

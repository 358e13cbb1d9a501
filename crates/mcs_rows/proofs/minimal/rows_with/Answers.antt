use Rattle.std.proofs.Common.{◌≡◌, ◌∙◌, ℕ, List, true, sym, ap, subst, map}
use Rattle.std.proofs.lemmas.Result.{IfOk-weaker}
use Rattle.std.specs.List.{AllByRecursion}
use Rattle.mcs_sets.specs.Sets.{Within}
use Rattle.mcs_system.specs.Imports.{rules_into}
use Rattle.mcs_rows.specs.Making.{agrees, row_with}
use Rattle.mcs_rows.specs.Nearest.{AreNearest}
use Rattle.mcs_rows.specs.declared.nearest.Near.{Near}
use Rattle.mcs_rows.proofs.NearestLemmas.{nearest_cover}
use Rattle.mcs_rows.proofs.minimal.rows_with.Goals as goal

pub returns : goal.returns
returns c =
    let m = c.args.system.now in let i = c.args.i in let at = c.args.at.now in let one = c.args.one.now in let r = c.args.reach.now in
    let agree : agrees m i at.state one.part ≡ true = sym c.agrees.ensures ∙ c.if-not-agrees.false in
    let near : AreNearest m i at.state r at.rules one.questions.items c.in_ok-changes.changes.items =
    subst (λ (qs : List ℕ). AreNearest m i at.state r at.rules qs c.in_ok-changes.changes.items) c.deref.ensures.value
    (c.in_ok-changes.ensures m i at.state c.requires.applied (subst (AllByRecursion (λ x. Within x (rules_into m i))) (sym c.deref.ensures.value) c.requires.of_rules)) in
    IfOk-weaker c.rows_of_each.result _ _ (λ rows e. nearest_cover m i at.state r at.rules one c.requires.applied agree c.in_ok-changes.changes.items near rows.items (e ∙ ap (map (λ (n : Near). row_with m i at.state n.marks one.part)) c.deref-2.ensures.value)) c.rows_of_each.ensures

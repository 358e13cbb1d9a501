use Rattle.std.proofs.Common.{◌<◌, List, ℕ, subst, sym}
use Rattle.mcs_system.specs.Plain.{System}
use Rattle.mcs_elimination.specs.Eliminating.{AreDear, AreDearMarks}
use Rattle.mcs_elimination.proofs.DearMarks.{dear_marks_are_dear}
use Rattle.mcs_mesh.specs.Rounds.{HasFewRules}
use Rattle.mcs_mesh.proofs.LastingLemmas.{tables_ahead}
use Rattle.mcs_mesh.proofs.cheapest.cheapest_of.Goals as goal

pub cheapest_at-requires : goal.cheapest_at-requires
cheapest_at-requires g c =
    let ahead = c.level_ahead-ahead.result in
    let dear = c.deref.result.now in
    let above = subst (λ (m : System). c.args.level < ahead → HasFewRules m c.args.level) c.system.ensures c.level_ahead-ahead.ensures.above in
    let (k, high, given) = tables_ahead c.args.plan.now c.args.level ahead c.args.done dear c.in_ok-tables.tables.items c.level_ahead-ahead.ensures.no_less above c.requires.within c.in_ok-tables.ensures in
    (k, dear, high, subst (λ (m : System). AreDear m ahead dear) c.system-2.ensures (dear_marks_are_dear c.system-2.result.now ahead dear (subst (λ (sets : List ℕ). AreDearMarks c.system-2.result.now ahead sets) (sym c.deref.ensures.value) c.in_ok-dear.ensures)), given)

pub returns : goal.returns
returns g c = c.settling.ensures c.args.plan.now c.args.level c.level_ahead-ahead.ensures.no_less (rw c.new.ensures.items tt) c.in_ok-cheapest.ensures

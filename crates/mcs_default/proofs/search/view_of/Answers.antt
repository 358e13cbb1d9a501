use Rattle.std.proofs.Common.{◌+◌, [], List, map, take, refl, sym, subst}
use Rattle.std.proofs.lemmas.List.{take_all}
use Rattle.std.proofs.lemmas.Bool.{iff_false}
use Rattle.std.specs.Borrow.{Bor}
use Rattle.mcs_system.specs.declared.formula.Formula as code
use Rattle.mcs_base.proofs.Mapped.{image_each_read}
use Rattle.mcs_system.specs.Logic.{Theory}
use Rattle.mcs_system.specs.Views.{Shows}
use Rattle.mcs_system.specs.Seen.{default_of, formula_of}
use Rattle.mcs_cnf.specs.ClauseLists.{IsOver}
use Rattle.mcs_evidence.specs.Defaults.{generated}
use Rattle.mcs_default.proofs.SearchLemmas.{shows_none, seen_more, seen_same}
use Rattle.mcs_default.proofs.SameLemmas.{same_items, same_on, over_kept}
use Rattle.mcs_default.proofs.search.view_of.Goals.{then-branch, else-branch}
use Rattle.mcs_default.proofs.search.view_of.Goals as goal

pub is_believed-requires : goal.is_believed-requires
is_believed-requires c = record {
  belief = (over_kept c.loop-index.invariant.kept (formula_of c.index-beliefs-index.result.now)
      (image_each_read (IsOver c.args.search.now.theory.now.asked.now.atoms.now) (λ b. formula_of b.now) c.args.search.now.theory.now.asked.now.beliefs.now c.loop-index.index c.index-beliefs-index.result c.loop-index-test.true c.index-beliefs-index.is c.args.search.now.theory.now.asked.now.over));
}

pub loop-index-init : goal.loop-index-init
loop-index-init c = record {
  kept = (refl, refl);
  shown = λ items parts. subst (Shows (Theory (generated items c.args.set)) []) (sym c.empty-view.ensures) (shows_none (Theory (generated items c.args.set)));
}

pub loop-index-preserved : goal.loop-index-preserved
loop-index-preserved c =
    let names = c.args.search.now.theory.now.asked.now.atoms.now in
    let ds = map (λ d. default_of d.now) c.args.search.now.theory.now.defaults.now in
    let xs = c.args.search.now.theory.now.asked.now.beliefs.now in
    let i = c.loop-index.index in
    let f = c.index-beliefs-index.result in
    let before = c.loop-index.invariant in
    elim c.if-branch.branch [
      | then-branch w ↦
          rw w.view-is (record {
            kept = same_on c.in_ok-is_believed.ensures.kept before.kept;
            shown = λ items parts.
                (let now = same_items items before.kept parts in
                subst (Shows (Theory (generated items c.args.set)) (map (λ b. formula_of b.now) (take (i + 1) xs))) (sym w.with-view.ensures)
                (seen_more (λ b. formula_of b.now) (Theory (generated items c.args.set)) xs i c.loop-index.view f c.loop-index-test.true c.index-beliefs-index.is (before.shown items parts)
                ((c.in_ok-is_believed.ensures.exact items now).0 w.if-branch.true)));
          })
      | else-branch w ↦
          rw w.view-is (record {
            kept = same_on c.in_ok-is_believed.ensures.kept before.kept;
            shown = λ items parts.
                (let now = same_items items before.kept parts in
                seen_same (λ b. formula_of b.now) (Theory (generated items c.args.set)) xs i c.loop-index.view f c.loop-index-test.true c.index-beliefs-index.is (before.shown items parts)
                (iff_false (c.in_ok-is_believed.ensures.exact items now) w.if-branch.false));
          })
    ]

pub returns-clause-shown : goal.returns-clause-shown
returns-clause-shown c items parts =
    subst (λ (bs : List (Bor code.Formula)). Shows (Theory (generated items c.args.set)) (map (λ b. formula_of b.now) bs) c.loop-index.view) (take_all c.loop-index.index c.args.search.now.theory.now.asked.now.beliefs.now c.loop-index-test.false) (c.loop-index.invariant.shown items parts)

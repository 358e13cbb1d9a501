use Rattle.std.proofs.Common.{rules, ◌∙◌, ◌++◌, ◌∷◌, [], List, map, sym, ap, subst, take}
use Rattle.std.specs.List.{AllByRecursion}
use Rattle.std.proofs.lemmas.List.{take_all, map_more}
use Rattle.mcs_base.proofs.Each.{all_push}
use Rattle.mcs_base.proofs.Mapped.{image_each_read, slice_get-map_read}
use Rattle.mcs_system.specs.Plain.{Not}
use Rattle.mcs_system.specs.declared.formula.Formula as code
use Rattle.mcs_system.specs.Logic.{Entails}
use Rattle.mcs_system.specs.Seen.{formula_of}
use Rattle.mcs_cnf.specs.ClauseLists.{IsOver}
use Rattle.mcs_evidence.specs.Defaults.{generated}
use Rattle.mcs_default.proofs.SearchLemmas.{not_allowed}
use Rattle.std.proofs.lemmas.Bool.{iff_false}
use Rattle.mcs_base.proofs.Booleans.{false_tells, true_tells}
use Rattle.mcs_default.proofs.SameLemmas.{same_items, same_on, over_kept}
use Rattle.mcs_default.proofs.questions.allows_all.Goals as goal

pub refutes-requires : goal.refutes-requires
refutes-requires c = record {
  over = (over_kept c.loop-just.invariant.kept (formula_of c.just-item.result)
      (image_each_read (IsOver c.args.search.now.theory.now.asked.now.atoms.now) formula_of c.args.justs.now c.loop-just.just-index c.just-item.result c.loop-just-test.true c.just-item.is c.requires.over));
}

pub returns-then-branch : goal.returns-then-branch
returns-then-branch c = record {
  kept = search rules;
  exact = λ items parts. (let now = same_items items c.loop-just.invariant.kept parts in
      false_tells (not_allowed (generated items c.args.set) (map formula_of c.args.justs.now) c.loop-just.just-index (formula_of c.just-item.result)
      (slice_get-map_read formula_of c.args.justs.now c.loop-just.just-index c.just-item.result c.loop-just-test.true c.just-item.is) ((c.in_ok-refutes.ensures.exact items now).0 c.if-branch.true)));
}

pub loop-just-preserved : goal.loop-just-preserved
loop-just-preserved c =
    let i = c.loop-just.just-index in
    let f = c.just-item.result in
    record {
      kept = same_on c.in_ok-refutes.ensures.kept c.loop-just.invariant.kept;
      allowed = λ items parts.
          (let now = same_items items c.loop-just.invariant.kept parts in
          subst (AllByRecursion (λ j. ¬ Entails (generated items c.args.set) (Not j)))
          (sym (map_more formula_of c.args.justs.now i f c.loop-just-test.true ∙ ap (λ (g : code.Formula). map formula_of (take i c.args.justs.now) ++ formula_of g ∷ []) (sym c.just-item.is)))
          (all_push (λ j. ¬ Entails (generated items c.args.set) (Not j)) (map formula_of (take i c.args.justs.now)) (formula_of f) (c.loop-just.invariant.allowed items parts) (iff_false (c.in_ok-refutes.ensures.exact items now) c.if-branch.false)));
    }

pub returns : goal.returns
returns c = record {
  kept = search rules;
  exact = λ items parts. (true_tells (subst (λ (fs : List code.Formula). AllByRecursion (λ j. ¬ Entails (generated items c.args.set) (Not j)) (map formula_of fs)) (take_all c.loop-just.just-index c.args.justs.now c.loop-just-test.false) (c.loop-just.invariant.allowed items parts)));
}

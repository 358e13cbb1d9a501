use Rattle.std.proofs.Common.{rules, ◌∙◌, ap, IsTrue, ◌↔◌, List, length, slice_index_or}
use Rattle.std.proofs.lemmas.Result.{IfOk-weaker}
use Rattle.std.specs.Bool.{◌==◌}
use Rattle.mcs_base.proofs.Booleans.{true_tells}
use Rattle.mcs_base.proofs.Mapped.{no_images}
use Rattle.mcs_system.specs.declared.formula.Formula as code
use Rattle.mcs_system.specs.Seen.{default_of, formula_of}
use Rattle.mcs_evidence.specs.Defaults.{generated}
use Rattle.mcs_default.specs.Searches.{IsAllowedBy}
use Rattle.mcs_default.proofs.SearchLemmas.{allowed_by_none, default_there}
use Rattle.mcs_default.proofs.SameLemmas.{same_items}
use Rattle.mcs_default.proofs.questions.allows.Goals as goal

pub returns-then-branch : goal.returns-then-branch
returns-then-branch c = record {
  kept = search rules;
  exact = λ items parts d at. (let x = slice_index_or c.args.search.now.theory.now.defaults.now c.args.index c.index-defaults-index.result in
      default_there (λ x. default_of x.now) c.args.search.now.theory.now.defaults.now items c.args.index c.index-defaults-index.result c.requires.index parts.0 d at (λ d. IsTrue c.is_empty.result ↔ IsAllowedBy (generated items c.args.set) d)
      (allowed_by_none items c.args.set (default_of x.now).justs c.is_empty.result ((c.in_ok-contradicts.ensures.exact items parts).0 c.if-branch.true) (no_images formula_of x.now.justs.items c.is_empty.result (c.is_empty.ensures ∙ ap (λ (js : List code.Formula). length js == 0) c.as_slice.ensures.value))));
}

pub returns : goal.returns
returns c = record {
  kept = search rules;
  exact = (IfOk-weaker c.allows_by_asking.result _ _ (λ b h items parts. h items (same_items items c.in_ok-contradicts.ensures.kept parts)) c.allows_by_asking.ensures.exact);
}

pub returns-then-is_allowed : goal.returns-then-is_allowed
returns-then-is_allowed c = record {
  kept = search rules;
  exact = λ items parts d at. (true_tells (c.is_allowed.ensures c.args.search.now.theory.now.asked.now.atoms.now items (rw c.deref.ensures.value ((c.args.search.now.ready.right items parts).1)) c.if-is_allowed.true d at));
}

use Rattle.std.proofs.Common.{rules, sym, ◌∙◌}
use Rattle.std.proofs.lemmas.Result.{IfOk-weaker}
use Rattle.mcs_system.specs.Seen.{default_of}
use Rattle.mcs_default.proofs.SearchLemmas.{open_inside, open_outside, there_is}
use Rattle.mcs_default.proofs.nodes.is_open.Goals as goal

pub returns-then-has : goal.returns-then-has
returns-then-has c = record {
  kept = search rules;
  exact = (IfOk-weaker c.applies.result _ _ (λ b h items parts.
      (open_inside items c.args.taken c.args.all c.args.index c.requires.within b (sym c.has.ensures.value ∙ c.if-has.true) (there_is items (λ x. default_of x.now) c.args.search.now.theory.now.defaults.now c.args.index c.requires.index parts.0) (h items parts))) c.applies.ensures.exact);
}

pub returns : goal.returns
returns c = record {
  kept = search rules;
  exact = λ items parts. (open_outside items c.args.taken c.args.all c.args.index c.requires.within c.in_ok-applies.field-0 (sym c.has.ensures.value ∙ c.if-has.false) (sym c.has-2.ensures.value ∙ c.if-has-2.false)
      (there_is items (λ x. default_of x.now) c.args.search.now.theory.now.defaults.now c.args.index c.requires.index parts.0) (c.in_ok-applies.ensures.exact items parts));
}

use Rattle.std.proofs.Common.{◌≡◌, ◌<◌, length, sym, ap, subst, ◌∙◌}
use Rattle.std.specs.List.{AllByRecursion}
use Rattle.mcs_sets.specs.Sets.{members}
use Rattle.mcs_system.specs.Imports.{rules_into}
use Rattle.mcs_system.proofs.AppliesLemmas.{applying, applying-all, applying-step, applying-skip, applying-none, rules_known}
use Rattle.mcs_system.proofs.system.System.applicable.Goals as goal

pub loop-r-init : goal.loop-r-init
loop-r-init c =
    let all : c.into_iter-r-iterator.result ≡ members (rules_into c.args.self.now c.args.context) =
    c.into_iter-r-iterator.ensures.into_iter_gives ∙ c.members-r-items.ensures.list ∙ ap members c.rules_of.ensures in record {
      gathered = rw (all, c.empty-rules.ensures) (applying-all c.args.self.now c.args.context c.args.state);
      known = rw all (rules_known c.args.self.now c.args.context);
    }

pub loop-r-preserved-then-is_applicable : goal.loop-r-preserved-then-is_applicable
loop-r-preserved-then-is_applicable c = record {
  gathered = rw c.with-rules.ensures (applying-step c.args.self.now c.args.state c.loop-r.rules c.in-Some.r c.next.new.self (sym c.is_applicable.ensures ∙ c.if-is_applicable.true)
      ∙ ap (applying c.args.self.now c.args.state c.loop-r.rules) (sym c.in-Some.ensures.steps) ∙ c.loop-r.invariant.gathered);
  known = (subst (AllByRecursion (λ k. k < length c.args.self.now.bridges)) c.in-Some.ensures.steps c.loop-r.invariant.known).1;
}

pub loop-r-preserved : goal.loop-r-preserved
loop-r-preserved c = record {
  gathered = applying-skip c.args.self.now c.args.state c.loop-r.rules c.in-Some.r c.next.new.self (sym c.is_applicable.ensures ∙ c.if-is_applicable.false)
      ∙ ap (applying c.args.self.now c.args.state c.loop-r.rules) (sym c.in-Some.ensures.steps) ∙ c.loop-r.invariant.gathered;
  known = (subst (AllByRecursion (λ k. k < length c.args.self.now.bridges)) c.in-Some.ensures.steps c.loop-r.invariant.known).1;
}

pub returns : goal.returns
returns c = sym (applying-none c.args.self.now c.args.state c.loop-r.rules) ∙ ap (applying c.args.self.now c.args.state c.loop-r.rules) (sym c.in-None.ensures.steps.0) ∙ c.loop-r.invariant.gathered

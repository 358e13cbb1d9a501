use Rattle.std.proofs.Common.{◌++◌, List, map, sym, ap, subst}
use Rattle.std.specs.List.{filter_map}
use Rattle.std.proofs.lemmas.Result.{IfOk-weaker}
use Rattle.mcs_sets.specs.Orders.{StateBefore}
use Rattle.mcs_base.specs.Listings.{IsListing}
use Rattle.mcs_system.specs.Logic.{fact_of}
use Rattle.mcs_system.specs.Plain.{ProgramRule, Program, Atom}
use Rattle.mcs_system.specs.Seen.{rule_of}
use Rattle.mcs_system.specs.Views.{IsAcceptedView}
use Rattle.mcs_evidence.specs.Programs.{AreOverRules}
use Rattle.mcs_program.proofs.OnceLemmas.{once_listing}
use Rattle.mcs_program.proofs.outputs.list_answer_sets.Goals as goal

pub invariant_of-given : goal.invariant_of-given
invariant_of-given c = record {
  few = c.requires.few;
  different = c.requires.different;
  few_beliefs = c.requires.few_beliefs;
  rules_over = c.requires.rules;
  beliefs_over = c.requires.beliefs;
}

pub invariant_of-program : goal.invariant_of-program
invariant_of-program c = record {
  few = c.requires.few;
  different = c.requires.different;
  few_beliefs = c.requires.few_beliefs;
  rules_over = subst (AreOverRules c.args.atoms.now) (sym (ap (map rule_of) c.deref.ensures.value)) c.in_ok-all.ensures.over;
  beliefs_over = c.requires.beliefs;
}

pub returns : goal.returns
returns c =
    let facts = filter_map fact_of (map Atom (map (λ b. b.now) c.args.added.now)) in
    let beliefs = map Atom (map (λ b. b.now) c.args.beliefs.now) in
    record {
      exact = IfOk-weaker c.list_all-result.result _ _ (λ r listing. once_listing (map rule_of c.args.rules.now ++ facts) (map rule_of c.in_ok-all.all.items) beliefs r.items c.in_ok-all.ensures.once
          (subst (λ (rules : List ProgramRule). IsListing (IsAcceptedView (Program rules) beliefs) StateBefore r.items) (ap (map rule_of) c.deref.ensures.value) listing))
          c.list_all-result.ensures;
    }

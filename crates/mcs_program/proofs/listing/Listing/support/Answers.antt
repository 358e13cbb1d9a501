use Rattle.std.proofs.Common.{◌∙◌, List, refl, subst, map}
use Rattle.mcs_system.specs.Seen.{rule_of}
use Rattle.mcs_system.specs.Plain.{Name}
use Rattle.mcs_evidence.specs.Supports.{support_formula}
use Rattle.mcs_evidence.proofs.ProgramClauses.{within_names}
use Rattle.mcs_meant.specs.Meanings.{AddsFormula}
use Rattle.mcs_program.proofs.listing.Listing.support.Goals as goal

pub add_support-requires-clause-over : goal.add_support-requires-clause-over
add_support-requires-clause-over c = within_names c.args.program.now.atoms.now c.deref.result.now c.args.set (c.deref.ensures.value ∙ c.in_ok-names.ensures)

pub returns : goal.returns
returns c = record {
  known = subst (λ (u : List Name). AddsFormula c.args.program.now.atoms.now (support_formula (map rule_of c.args.program.now.rules.now) u) c.args.self.now.known c.add_support.new.known) (c.deref.ensures.value ∙ c.in_ok-names.ensures) c.in_ok-add_support.ensures;
  supported = c.in_ok-push.ensures.items;
  views = refl;
}

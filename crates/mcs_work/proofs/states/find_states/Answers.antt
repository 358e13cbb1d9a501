use Rattle.std.proofs.Common.{[], ◌∙◌, subst}
use Rattle.mcs_base.proofs.SetParts.{none_is_within}
use Rattle.mcs_system.specs.Plain.{System}
use Rattle.mcs_states.specs.Evaluators.{AreStates}
use Rattle.mcs_work.proofs.StateLemmas.{unchanged}
use Rattle.mcs_work.proofs.StopLemmas.{proceeds_cut, opening_stops, first_halts, done_first}
use Rattle.mcs_work.proofs.states.find_states.Goals as goal

pub returns-in_err-print_opening-clause-part : goal.returns-in_err-print_opening-clause-part
returns-in_err-print_opening-clause-part g c = proceeds_cut c.args.task [] _ _ _ _ _ _ c.from_residual.ensures.1 (opening_stops c.args.task c.args.system.now _ c.requires.same _ _ _ c.in_err-print_opening.ensures)

pub list_states-requires : goal.list_states-requires
list_states-requires g c = record { going = c.requires.going; allowed = none_is_within c.new.result _ (c.new.ensures ∙ c.empty.ensures) }

pub returns-in_err-states-clause-part : goal.returns-in_err-states-clause-part
returns-in_err-states-clause-part g c = proceeds_cut c.args.task [] _ _ _ _ _ _ c.from_residual-in_err-states.ensures.1
    (first_halts c.args.task c.args.system.now _ c.requires.same _ _ _ _ c.new.result _ (c.new.ensures ∙ c.empty.ensures) c.in_ok-print_opening.ensures c.in_err-states.ensures.call)

pub returns-clause-found : goal.returns-clause-found
returns-clause-found g c = record {
  found = unchanged c.args.system.now c.new.result _ (c.new.ensures ∙ c.empty.ensures) (subst (λ (m : System). AreStates m c.new.result c.in_ok-states.states.items) c.requires.same c.in_ok-states.ensures.listing);
  done = done_first _ _ c.new.result (c.new.ensures ∙ c.empty.ensures) c.in_ok-states.ensures.call.done;
  written = c.in_ok-print_opening.ensures.whole;
}

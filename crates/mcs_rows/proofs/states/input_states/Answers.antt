use Rattle.std.proofs.Common.{◌∙◌, ◌↔◌, [], ◌∷◌, ℕ, ap, subst}
use Rattle.mcs_base.specs.Listings.{IsAmong}
use Rattle.mcs_sets.specs.Sets.{members}
use Rattle.mcs_system.specs.Plain.{System}
use Rattle.mcs_system.specs.Rows.{inputs_of}
use Rattle.mcs_import.specs.States.{SomeJoins, SomeGrows}
use Rattle.mcs_import.proofs.StateLemmas.{lists}
use Rattle.mcs_rows.proofs.states.input_states.Goals as goal

pub returns : goal.returns
returns c order ordered = (
  c.in_ok-joined.joined.items,
  λ ρ. subst (λ (s : ℕ). IsAmong ρ c.in_ok-joined.joined.items ↔ SomeJoins s (lists c.args.supplies.now) (0 ∷ []) ρ) (c.inputs_of.ensures ∙ ap (λ (m : System). inputs_of m c.args.i) c.system.ensures) (c.in_ok-joined.ensures ρ),
  λ ρ. subst (λ (g : ℕ). IsAmong ρ c.in_ok-states.states.items ↔ SomeGrows (members g) c.in_ok-joined.joined.items ρ) (c.guessed.ensures order ordered) (c.in_ok-states.ensures ρ),
)

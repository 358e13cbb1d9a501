-- When a certificate is accepted as showing exactly what a context of a system accepts with the heads of some rules.
use Rattle.std.specs.Prelude.{◌≡◌, ℕ, List, map, Some, slice_get}
use Rattle.mcs_system.specs.Plain.{Context, System}
use Rattle.mcs_system.specs.Logic.{with_heads}
use Rattle.mcs_system.specs.Atoms.{atoms_of}
use Rattle.mcs_system.specs.Systems.{variables_of, heads_into}
use Rattle.mcs_system.specs.Views.{beliefs_at, at_places}
pub use Rattle.mcs_asking.specs.Kinds.{Certificate, OfFormulas, OfDefaults, OfProgram, plain_of, IsAcceptedFor}

-- of context i of a system with the heads of the rules of x: the sets of its variables are those at the places of the views that are shown
pub record IsAccepted (m : System) (i x : ℕ) (outputs : List ℕ) (cert : Certificate) : Type 0 where
  pub context : Context
  pub is_it : slice_get m.contexts i ≡ Some context
  pub views : List ℕ
  pub shown : IsAcceptedFor (atoms_of m i) (with_heads context.kb (heads_into m i x)) (beliefs_at m (variables_of m i)) views cert
  pub outputs_are : outputs ≡ map (at_places (variables_of m i)) views

-- What is tested of the models in a certificate of a program.
use Rattle.std.specs.Prelude.{ℕ, List}
use Rattle.std.specs.List.{AllZip}
use Rattle.mcs_system.specs.Plain.{Name, Formula, ProgramRule}
use Rattle.mcs_evidence.specs.Programs.{ModelShown, IsAcceptedModel}

-- each of the views is shown by the model that stands at its place
abbrev pub AreModelsShown : List Name → List ProgramRule → List Formula → List ℕ → List ModelShown → Type 0
AreModelsShown names rules beliefs views models = AllZip (IsAcceptedModel names rules beliefs) views models

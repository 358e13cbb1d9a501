-- What is asked, and what may be assumed.
use Rattle.std.specs.Prelude.{ℕ, List}
use Rattle.mcs_system.specs.Plain.{Name, Formula}
use Rattle.mcs_asked.specs.Questions.{asked_beliefs}
use Rattle.mcs_classical.specs.Assumptions.{assumed}
use Rattle.mcs_classical.specs.Consequences.{with_assumed, AreConsequences}
use Rattle.mcs_classical.specs.declared.consequences.Consequences as consequences
use Rattle.mcs_classical.specs.declared.given.Given as given

abbrev pub given_names : given.Given → List Name
given_names g = g.asked.now.atoms.now

abbrev pub given_beliefs : given.Given → List Formula
given_beliefs g = asked_beliefs g.asked.now

-- the assumptions of a set, and the formulas with these
abbrev pub given_with : given.Given → ℕ → List Formula
given_with g set = assumed set g.assumptions.now

abbrev pub with_given : List Formula → given.Given → ℕ → List Formula
with_given fs g set = with_assumed fs g.assumptions.now set

-- what was found is right of the formulas, of all that may be assumed, and of the beliefs
abbrev pub AreConsequencesOf : given.Given → List Formula → consequences.Consequences → Type 0
AreConsequencesOf g fs found = AreConsequences fs g.assumptions.now (given_beliefs g) found

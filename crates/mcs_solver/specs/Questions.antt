-- What a knowledge base is asked, and what answers it.
use Rattle.std.specs.Prelude.{ℕ, List, Option}
use Rattle.mcs_sets.specs.Orders.{StateBefore}
use Rattle.mcs_base.specs.Listings.{IsListing}
use Rattle.mcs_system.specs.Plain.{Name, Formula, Kb}
use Rattle.mcs_system.specs.Logic.{with_heads}
use Rattle.mcs_system.specs.Views.{IsAcceptedView}
use Rattle.mcs_classical.specs.Given.{given_names, given_beliefs, given_with}
use Rattle.mcs_asking.specs.Certificates.{IsAcceptedFor}
use Rattle.mcs_asking.specs.declared.certificate.AnswerCert as code
use Rattle.mcs_keeping.specs.Certified.{IsCertified}
use Rattle.mcs_solver.specs.Kinds.{IsMadeOf}
use Rattle.mcs_solver.specs.declared.known.Known as known
use Rattle.mcs_solver.specs.declared.question.Question as question

abbrev pub asked_names : question.Question → List Name
asked_names q = given_names q.given.now

abbrev pub asked_beliefs : question.Question → List Formula
asked_beliefs q = given_beliefs q.given.now

-- the heads of each set of rules, and of the one that it is asked with
abbrev pub heads_with : question.Question → ℕ → List Formula
heads_with q rules = given_with q.given.now rules

abbrev pub asked_heads : question.Question → List Formula
asked_heads q = heads_with q q.rules

-- what is kept, if anything, was found of the knowledge base with heads, for these beliefs
abbrev pub IsMadeFor : question.Question → Kb → Option known.Known → Type 0
IsMadeFor q kb found = IsMadeOf (asked_names q) kb (heads_with q) (asked_beliefs q) found

-- these are the views that it accepts with the heads
abbrev pub AreAnswer : question.Question → Kb → List ℕ → Type 0
AreAnswer q kb views = IsListing (IsAcceptedView (with_heads kb (asked_heads q)) (asked_beliefs q)) StateBefore views

-- and a certificate shows it, if one is wanted
abbrev pub IsAnswerShown : question.Question → Kb → List ℕ → Option code.AnswerCert → Type 0
IsAnswerShown q kb views cert = IsCertified q.certify (IsAcceptedFor (asked_names q) (with_heads kb (asked_heads q)) (asked_beliefs q) views) cert

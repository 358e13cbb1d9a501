-- What is asked of a program, and how the searches for its answer sets stand.
use Rattle.std.specs.Prelude.{ℕ, IsTrue, List, map}
use Rattle.mcs_sets.specs.Orders.{StateBefore}
use Rattle.mcs_base.specs.Listings.{IsListing}
use Rattle.mcs_system.specs.Plain.{Name, Formula, Atom, Program, ProgramRule}
use Rattle.mcs_system.specs.Logic.{is_in}
use Rattle.mcs_system.specs.Seen.{rule_of}
use Rattle.mcs_system.specs.Views.{IsAcceptedView}
use Rattle.mcs_cnf.specs.Entailments.{IsModelAt}
use Rattle.mcs_evidence.specs.Programs.{rest_formulas}
use Rattle.mcs_evidence.specs.Supports.{IsBased}
use Rattle.mcs_program.specs.Listings.{left_of, models_left, IsPartListing}
use Rattle.mcs_program.specs.Searches.{sets_left, IsExhausted, IsProgramSearch}
use Rattle.mcs_minimal.specs.declared.asked.LogicProgram as asked
use Rattle.mcs_program.specs.declared.listing.Listing.{Listing}
use Rattle.mcs_program.specs.declared.search.Search.{Search}

abbrev pub program_names : asked.LogicProgram → List Name
program_names p = p.atoms.now

abbrev pub program_rules : asked.LogicProgram → List ProgramRule
program_rules p = map rule_of p.rules.now

abbrev pub belief_names : asked.LogicProgram → List Name
belief_names p = map (λ b. b.now) p.beliefs.now

abbrev pub program_beliefs : asked.LogicProgram → List Formula
program_beliefs p = map Atom (belief_names p)

-- each atom rests on no atom without end
abbrev pub IsTight : asked.LogicProgram → Type 0
IsTight p = (n : Name) → IsTrue (is_in n (program_names p)) → IsBased (program_rules p) n

-- the views of the answer sets
abbrev pub AreAllViews : asked.LogicProgram → List ℕ → Type 0
AreAllViews p views = IsListing (IsAcceptedView (Program (program_rules p)) (program_beliefs p)) StateBefore views

-- ---- a search with a certificate
abbrev pub IsSearchFor : asked.LogicProgram → Search → Type 0
IsSearchFor p s = IsProgramSearch (program_names p) (program_rules p) (program_beliefs p) s

abbrev pub search_rest : asked.LogicProgram → Search → List Formula
search_rest p s = rest_formulas (program_names p) (program_rules p) (program_beliefs p) s.smaller.items s.views.items

abbrev pub search_left : asked.LogicProgram → Search → ℕ
search_left p s = sets_left (program_names p) (program_rules p) (program_beliefs p) s

abbrev pub HasFoundAll : asked.LogicProgram → Search → Type 0
HasFoundAll p s = IsExhausted (program_names p) (program_rules p) (program_beliefs p) s

-- where the one set of places is a model of what is known, so is the other
abbrev pub StaysModel : asked.LogicProgram → Search → ℕ → ℕ → Type 0
StaysModel p s model less = IsSearchFor p s → IsModelAt (program_names p) (search_rest p s) model → IsModelAt (program_names p) (search_rest p s) less

-- ---- a search without one
abbrev pub IsListingFor : asked.LogicProgram → Listing → Type 0
IsListingFor p s = IsPartListing (program_names p) (program_rules p) (program_beliefs p) s

abbrev pub listing_rest : asked.LogicProgram → Listing → List Formula
listing_rest p s = left_of (program_names p) (program_rules p) (program_beliefs p) s

abbrev pub listing_left : asked.LogicProgram → Listing → ℕ
listing_left p s = models_left (program_names p) (listing_rest p s)

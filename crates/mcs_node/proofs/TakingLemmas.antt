-- Whether a node takes a letter.
use Rattle.std.proofs.Common.{◌≡◌, ℕ, ◌<◌, Bool, List, length, slice_get, Option, Some, subst}
use Rattle.mcs_system.specs.Plain.{System}
use Rattle.mcs_system.specs.Imports.{IsImportOrder, supplied}
use Rattle.mcs_states.specs.Oracles.{OracleState}
use Rattle.mcs_node.specs.Rounds.{Supplies}
use Rattle.mcs_node.specs.Letters.{LetterData, IsTrueContent, IsTrueLetter}
use Rattle.mcs_node.specs.Known.{Knowledge}
use Rattle.mcs_node.specs.Keeping.{IsAtStage, IsForRound, IsInRound, IsNode, MayTake}
use Rattle.mcs_node.specs.declared.round.InRound as code

module _ (m : System) (i budget : ℕ) (o : OracleState) (receivers : List ℕ) (k : Knowledge) (before : Option ℕ) where
  pub may_take : (place : ℕ) (r : code.InRound) (l : LetterData) → i < length m.contexts → IsInRound m i budget o receivers k before r → IsForRound m i r l → IsTrueLetter l
      → ((order : List ℕ) → IsImportOrder m order → slice_get (supplied m order i) place ≡ Some l.from) → MayTake m i place l.from l.content r
  may_take place r l low was mine right at_place = record {
    low = low;
    had = was.had;
    told = λ waits. let w = subst (λ z. IsAtStage m i budget o receivers k before r z) waits was.stage in w.told;
    fits = subst (λ (n : System). Supplies n l.from i) mine.plan (subst (λ (j : ℕ). Supplies l.plan l.from j) mine.addressed right.fits);
    new = mine.first;
    says = subst (λ (n : System). IsTrueContent n r.level l.from l.content) mine.plan (subst (λ (n : ℕ). IsTrueContent l.plan n l.from l.content) mine.level_is right.says);
    at_place = at_place;
  }

  -- the node, with its round as it is now
  pub node_now : (there : Bool) (r s : code.InRound) → IsNode m i budget o there receivers k before (Some r) → IsInRound m i budget o receivers k before s → IsNode m i budget o there receivers k before (Some s)
  node_now there r s n now = record { in_range = n.in_range; supplies = n.supplies; present = n.present; own = n.own; playing = now }

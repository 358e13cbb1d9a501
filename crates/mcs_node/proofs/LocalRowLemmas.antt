-- What a node that is done keeps for its local rows.
use Rattle.std.proofs.Common.{◌≡◌, ℕ, ◌<◌, true, true≢false, List, length, Option, sym}
use Rattle.mcs_system.specs.Plain.{System}
use Rattle.mcs_states.specs.Oracles.{OracleState}
use Rattle.mcs_rows.specs.Local.{AreAnswered}
use Rattle.mcs_node.specs.Known.{Knowledge}
use Rattle.mcs_node.specs.Keeping.{AreToldAll, IsAtStage, IsDoneAt, IsInRound, done_in}
use Rattle.mcs_node.specs.declared.round.Stage as stage_code
use Rattle.mcs_node.specs.declared.round.Stage.TheVariants.{Waits, Done, Stopped}
use Rattle.mcs_node.specs.declared.round.InRound as code
use Rattle.mcs_node.proofs.HandlingLemmas.{told_all}

module _ (m : System) (i budget : ℕ) (o : OracleState) (receivers : List ℕ) (k : Knowledge) (before : Option ℕ) (r : code.InRound) (low : i < length m.contexts) (was : IsInRound m i budget o receivers k before r) (done : done_in r.stage ≡ true) where
  done_at : (total : ℕ) × IsDoneAt m i budget o k total r
  done_at = at r.stage was.stage done
    where
      at : (st : stage_code.Stage) → IsAtStage m i budget o receivers k before r st → done_in st ≡ true → (total : ℕ) × IsDoneAt m i budget o k total r
      at Waits w e = absurd (true≢false (sym e))
      at (Done total) w e = (total, w)
      at (Stopped granted halt by_itself) w e = absurd (true≢false (sym e))

  pub told_done : AreToldAll m i r
  told_done = let (total, d) = done_at in told_all m i r low was.had d.told d.each

  pub answered_done : AreAnswered m r.level i k.answers
  answered_done = let (total, d) = done_at in d.known.answered

use Rattle.std.proofs.Common.{◌≡◌, vec_len}
use Rattle.mcs_crew.specs.Calls.{team_of}
use Rattle.mcs_crew.specs.Teams.{GoesOn, HasHadNone}
use Rattle.mcs_crew.proofs.load.Team.begin.Given as goal

abbrev pub invariant-loop-place : goal.invariant-loop-place
invariant-loop-place g l = record {
  goes_on : GoesOn (team_of l.initial.self) (team_of l.self);
  had : HasHadNone (team_of l.initial.self) (team_of l.self);
  many : vec_len l.self.nodes ≡ vec_len l.initial.self.nodes;
}

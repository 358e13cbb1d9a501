use Rattle.std.proofs.Common.{◌≡◌, ℕ, List, IfErr, IfOk, ◌⊎◌, Some, subst}
use Rattle.std.specs.List.{AllByRecursion}
use Rattle.mcs_node.specs.Nodes.{NodeData}
use Rattle.mcs_node.specs.Replay.{IsLowestHalt}
use Rattle.mcs_crew.specs.Trails.{IsDoneNode, IsHaltOf, IsMemory, states_of, trail_of}
use Rattle.mcs_crew.proofs.RoundLemmas.{told_by}
use Rattle.mcs_crew.proofs.playing.told.Goals as goal

pub returns-clause-told : goal.returns-clause-told
returns-clause-told g c m level budget asked groups first ready same played =
    let seen = c.deref.result.now in
    let total = c.ending.result in
    let done = subst (λ (k : ℕ). IfOk total (λ n. (n ≡ k) × AllByRecursion IsDoneNode c.args.nodes.items)) c.total.ensures
    (subst (λ (ns : List NodeData). IfOk total (λ n. (n ≡ c.total.result) × AllByRecursion IsDoneNode ns)) c.deref.ensures.value c.ending.ensures.done) in
    let halt = subst (λ (ns : List NodeData). IfErr total (λ h. IsMemory h ⊎ (IsHaltOf ns h × IsLowestHalt (states_of ns) (Some h)))) c.deref.ensures.value c.ending.ensures.halt in
    told_by m level budget asked groups first c.args.nodes.items ready same c.args.ended.wires.items c.args.ended.word played total (trail_of c.trail_after-trail.result) done halt c.trail_after-trail.ensures

use Rattle.std.proofs.Common.{◌≡◌, ℕ, ap, ◌∙◌, arith, length, take}
use Rattle.mcs_search.proofs.RunLemmas.{state-restored}
use Rattle.mcs_search.proofs.running.run_or_restore.Goals as goal
use Rattle.mcs_search.proofs.running.run_or_restore.Goals.{In-Err}

size : (c : In-Err) → c.len-entries.result ≡ length c.args.state.now.trail.entries.items
size c = let ok = c.args.state.now.trail.entries.ok.0 in omega (arith, c.len-entries.ensures)

pub returns-in-Err-clause-same : goal.returns-in-Err-clause-same
returns-in-Err-clause-same c =
    let s = c.args.state.now in
    let e = c.run.ensures in
    let n = size (goal.at.returns-in-Err-clause-same c).In-Err in
    record {
      state = state-restored s c.run.new.state c.back.new.self c.requires.state e.same e.grows e.back (c.back.ensures.entries ∙ ap (λ (n : ℕ). take n c.run.new.state.trail.entries.items) n) c.back.ensures.positions;
      clauses = e.same.same.clauses;
      chains = e.same.same.chains;
      positions = ap length c.back.ensures.positions ∙ e.same.same.positions;
      full = e.same.same.full;
    }

use Rattle.std.proofs.Common.{◌∷◌, [], ap, arith, length, length-append, refl}
use Rattle.mcs_search.proofs.CutLemmas.{state-widened}
use Rattle.mcs_search.proofs.adding.widen.Goals as goal

pub returns-clause-wider : goal.returns-clause-wider
returns-clause-wider c =
    let s = c.args.state.now in
    let e = c.in_ok-widen.ensures.ok in
    record {
      state = state-widened s c.widen.new.self c.requires.state c.widen.ensures.entries e;
      clauses = refl;
      chains = refl;
      levels = refl;
      longer = omega (arith, ap length e, length-append s.trail.positions.items (0 ∷ []));
    }

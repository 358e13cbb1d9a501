use Rattle.std.proofs.Common.{refl}
use Rattle.mcs_meant.proofs.LiteralLemmas.{handed_gate}
use Rattle.mcs_meant.proofs.GateLemmas.{IsNew, n_there, true_gate}
use Rattle.mcs_meant.proofs.meant.push_true.Goals as goal

pub push_clause-requires : goal.push_clause-requires
push_clause-requires c =
    let new : IsNew c.args.cnf.now c.push_variable.new.cnf c.in_ok-n.n = record { kept = c.push_variable.ensures.kept; fits = c.in_ok-n.ensures.fits; number = c.in_ok-n.ensures.literal; added = c.in_ok-n.ensures.added } in
    (n_there c.push_variable.new.cnf new refl, tt)

pub returns : goal.returns
returns c =
    let new : IsNew c.args.cnf.now c.push_variable.new.cnf c.in_ok-n.n = record { kept = c.push_variable.ensures.kept; fits = c.in_ok-n.ensures.fits; number = c.in_ok-n.ensures.literal; added = c.in_ok-n.ensures.added } in
    handed_gate
    (true_gate c.args.cnf.now c.push_variable.new.cnf c.in_ok-n.n new c.push_clause.new.cnf c.in_ok-push_clause.ensures.ok)

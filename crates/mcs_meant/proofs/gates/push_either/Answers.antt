use Rattle.std.proofs.Common.{◌≡◌, ◌∙◌, refl, ap}
use Rattle.mcs_trace.specs.Clauses.{ClauseList}
use Rattle.mcs_meant.proofs.LiteralLemmas.{there_fits, handed_fits, handed_gate}
use Rattle.mcs_meant.proofs.GateLemmas.{IsNew, n_there, not_n_there, x_there, not_x_there, either_gate}
use Rattle.mcs_meant.proofs.gates.push_either.Goals as goal

pub opposite-not_n-requires : goal.opposite-not_n-requires
opposite-not_n-requires c = handed_fits c.in_ok-n.n c.in_ok-n.ensures.fits

pub opposite-not_x-requires : goal.opposite-not_x-requires
opposite-not_x-requires c = handed_fits c.args.x (there_fits c.args.cnf.now c.args.x c.push_variable.ensures.kept c.requires.left)

pub opposite-not_y-requires : goal.opposite-not_y-requires
opposite-not_y-requires c = handed_fits c.args.y (there_fits c.args.cnf.now c.args.y c.push_variable.ensures.kept c.requires.right)

pub push_clause-requires : goal.push_clause-requires
push_clause-requires c =
    let new : IsNew c.args.cnf.now c.push_variable.new.cnf c.in_ok-n.n = record { kept = c.push_variable.ensures.kept; fits = c.in_ok-n.ensures.fits; number = c.in_ok-n.ensures.literal; added = c.in_ok-n.ensures.added } in
    (n_there c.push_variable.new.cnf new refl, (not_x_there c.push_variable.new.cnf c.args.x c.opposite-not_x.result new refl c.requires.left c.opposite-not_x.ensures, tt))

pub push_clause-requires-2 : goal.push_clause-requires-2
push_clause-requires-2 c =
    let new : IsNew c.args.cnf.now c.push_variable.new.cnf c.in_ok-n.n = record { kept = c.push_variable.ensures.kept; fits = c.in_ok-n.ensures.fits; number = c.in_ok-n.ensures.literal; added = c.in_ok-n.ensures.added } in
    let same : c.push_clause.new.cnf.vars ≡ c.push_variable.new.cnf.vars = ap (λ (l : ClauseList). l.vars) c.in_ok-push_clause.ensures.ok in
    (n_there c.push_clause.new.cnf new same, (not_x_there c.push_clause.new.cnf c.args.y c.opposite-not_y.result new same c.requires.right c.opposite-not_y.ensures, tt))

pub push_clause-requires-3 : goal.push_clause-requires-3
push_clause-requires-3 c =
    let new : IsNew c.args.cnf.now c.push_variable.new.cnf c.in_ok-n.n = record { kept = c.push_variable.ensures.kept; fits = c.in_ok-n.ensures.fits; number = c.in_ok-n.ensures.literal; added = c.in_ok-n.ensures.added } in
    let same : c.push_clause-2.new.cnf.vars ≡ c.push_variable.new.cnf.vars = ap (λ (l : ClauseList). l.vars) c.in_ok-push_clause-2.ensures.ok ∙ ap (λ (l : ClauseList). l.vars) c.in_ok-push_clause.ensures.ok in
    (not_n_there c.push_clause-2.new.cnf c.opposite-not_n.result new same c.opposite-not_n.ensures, (x_there c.push_clause-2.new.cnf c.args.x new same c.requires.left, (x_there c.push_clause-2.new.cnf c.args.y new same c.requires.right, tt)))

pub returns : goal.returns
returns c =
    let new : IsNew c.args.cnf.now c.push_variable.new.cnf c.in_ok-n.n = record { kept = c.push_variable.ensures.kept; fits = c.in_ok-n.ensures.fits; number = c.in_ok-n.ensures.literal; added = c.in_ok-n.ensures.added } in
    handed_gate
    (either_gate c.args.cnf.now c.push_variable.new.cnf c.in_ok-n.n new c.args.x c.args.y c.opposite-not_n.result c.opposite-not_x.result c.opposite-not_y.result c.requires.left c.requires.right c.opposite-not_n.ensures c.opposite-not_x.ensures c.opposite-not_y.ensures
    c.push_clause.new.cnf c.push_clause-2.new.cnf c.push_clause-3.new.cnf c.in_ok-push_clause.ensures.ok c.in_ok-push_clause-2.ensures.ok c.in_ok-push_clause-3.ensures.ok)

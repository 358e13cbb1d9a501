use Rattle.std.proofs.Common.{◌≡◌, ◌∙◌, ◌↔◌, Bool, IsTrue, [], map, subst, sym, arith}
use Rattle.mcs_system.specs.Seen.{default_of, item_of}
use Rattle.mcs_evidence.specs.Defaults.{defaults_of}
use Rattle.mcs_solver.proofs.FactLemmas.{none_there}
use Rattle.mcs_solver.proofs.views.has_no_defaults.Goals as goal

pub returns : goal.returns
returns c = subst (λ (b : Bool). IsTrue b ↔ (defaults_of (map item_of c.args.items.now) ≡ [])) (sym c.is_empty.ensures)
    (none_there (λ d. default_of d.now) c.in_ok-defaults.defaults.items (defaults_of (map item_of c.args.items.now)) c.in_ok-defaults.defaults.len (omega (arith, c.in_ok-defaults.defaults.ok)) c.in_ok-defaults.ensures)

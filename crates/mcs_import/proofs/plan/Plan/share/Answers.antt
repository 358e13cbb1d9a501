use Rattle.std.proofs.Common.{◌≡◌, ◌<◌, ◌+◌, List, ℕ, length, ap, sym, subst, ◌∙◌, arith}
use Rattle.std.specs.Arc.{arc_value}
use Rattle.mcs_system.specs.Plain.{System}
use Rattle.mcs_system.proofs.KeptLemmas.{as_many, length-range, at_place}
use Rattle.mcs_import.specs.Plans.{part, part_of}
use Rattle.mcs_import.proofs.OrderLemmas.{import_order_is_one}
use Rattle.mcs_import.proofs.plan.Plan.share.Goals as goal

pub index-requires : goal.index-requires
index-requires c =
    let many = as_many part_of (part (arc_value c.self.inside.system) c.self.inside.order.items) c.self.inside.shares.items _ c.self.invariant.shares_are in
    let less : c.args.i < length (arc_value c.self.inside.system).contexts = subst (λ (m : System). c.args.i < length m.contexts) (sym c.self.view_is) c.requires in
    omega (arith, many, less, length-range 0 (length (arc_value c.self.inside.system).contexts), c.self.inside.shares.ok)

pub returns : goal.returns
returns c =
    let less : c.args.i < length (arc_value c.self.inside.system).contexts = subst (λ (m : System). c.args.i < length m.contexts) (sym c.self.view_is) c.requires in
    let e : 0 + c.args.i ≡ c.args.i = omega arith in
    rw (← c.self.view_is) (λ order is. ap part_of c.index.ensures
    ∙ at_place part_of (part (arc_value c.self.inside.system) c.self.inside.order.items) c.self.inside.shares.items 0 _ c.args.i _ c.self.invariant.shares_are less
    ∙ ap (part (arc_value c.self.inside.system) c.self.inside.order.items) e
    ∙ ap (λ (xs : List ℕ). part (arc_value c.self.inside.system) xs c.args.i) (import_order_is_one (arc_value c.self.inside.system) c.self.inside.order.items order c.self.invariant.in_order is))

use Rattle.std.proofs.Common.{◌<◌, length, ap, sym, subst, ◌∙◌, arith}
use Rattle.std.proofs.lemmas.List.{length-map}
use Rattle.mcs_system.specs.Plain.{System}
use Rattle.mcs_system.specs.Seen.{context_of}
use Rattle.mcs_system.specs.Parts.{context_part, context_part_of}
use Rattle.std.specs.Arc.{arc_value}
use Rattle.mcs_system.specs.Built.{made_of}
use Rattle.mcs_system.proofs.system.System.parts_of.Goals as goal
use Rattle.mcs_base.proofs.Lists.{length_same_images, image_at_range}
use Rattle.std.proofs.lemmas.List.FromFn.{length-range_with_len}

pub index-requires : goal.index-requires
index-requires c =
    let many = length_same_images context_part_of (context_part (made_of (arc_value c.self.inside.contexts) c.self.inside.bridges.items)) c.self.inside.kept.parts.items _ c.self.invariant.parts_are in
    let less : c.args.context < length (made_of (arc_value c.self.inside.contexts) c.self.inside.bridges.items).contexts = subst (λ (m : System). c.args.context < length m.contexts) (sym c.self.view_is) c.requires in
    omega (arith, many, length-range_with_len 0 (length (arc_value c.self.inside.contexts).items.items), length-map (arc_value c.self.inside.contexts).items.items context_of, c.self.inside.kept.parts.ok)

pub returns-clause-part : goal.returns-clause-part
returns-clause-part c =
    let less : c.args.context < length (made_of (arc_value c.self.inside.contexts) c.self.inside.bridges.items).contexts = subst (λ (m : System). c.args.context < length m.contexts) (sym c.self.view_is) c.requires in
    rw (← c.self.view_is) (ap context_part_of c.index.ensures
    ∙ image_at_range context_part_of (context_part (made_of (arc_value c.self.inside.contexts) c.self.inside.bridges.items)) c.self.inside.kept.parts.items 0 _ c.args.context _ c.self.invariant.parts_are (omega (arith, less, length-map (arc_value c.self.inside.contexts).items.items context_of))
    ∙ ap (context_part (made_of (arc_value c.self.inside.contexts) c.self.inside.bridges.items)) (omega arith))

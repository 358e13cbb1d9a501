use Rattle.std.proofs.Common.{Bool, map, not, ap, ◌∙◌, rules}
use Rattle.std.proofs.lemmas.Fn.{filter_same}
use Rattle.std.specs.Arc.{arc_value}
use Rattle.mcs_system.specs.Built.{made_of}
use Rattle.mcs_system.specs.Edits.{with_rules, without_rule}
use Rattle.mcs_system.specs.Logic.{same_name}
use Rattle.mcs_system.specs.Plain.{Bridge, System}
use Rattle.mcs_system.specs.Seen.{bridge_of}
use Rattle.mcs_system.proofs.FewerRules.{filtered_seen}
use Rattle.mcs_system.proofs.KnownLemmas.{known_of_kept, known_as, valid_without}
use Rattle.mcs_system.proofs.system.System.without_rule.Goals as goal

pub keep_valid_again-requires-clause-known : goal.keep_valid_again-requires-clause-known
keep_valid_again-requires-clause-known c = known_as _ _ c.deref.ensures (known_of_kept _ _ _ c.self.invariant)

pub keep_valid_again-requires-clause-valid : goal.keep_valid_again-requires-clause-valid
keep_valid_again-requires-clause-valid c =
    let p : Bridge → Bool = λ b. not (same_name c.args.name.now b.name) in
    let kept = ap (map bridge_of) (filter_same _ _ _ (λ x b f' k. search rules) _ _ c.retain.ensures.filtered) ∙ filtered_seen p c.self.inside.bridges.items in
    valid_without (arc_value c.self.inside.contexts) c.deref.result.now c.self.inside.bridges.items c.retain.new.self.items c.deref-2.result.now c.args.name.now c.deref.ensures c.deref-2.ensures.value kept c.self.invariant.valid

pub returns : goal.returns
returns c =
    let p : Bridge → Bool = λ b. not (same_name c.args.name.now b.name) in
    let kept = ap (map bridge_of) (filter_same _ _ _ (λ x b f' k. search rules) _ _ c.retain.ensures.filtered) ∙ filtered_seen p c.self.inside.bridges.items in
    ap (with_rules (made_of (arc_value c.self.inside.contexts) c.self.inside.bridges.items)) kept ∙ ap (λ (m : System). without_rule m c.args.name.now) c.self.view_is

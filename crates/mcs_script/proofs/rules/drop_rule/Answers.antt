use Rattle.std.proofs.Common.{map, not, ap, ◌∙◌, rules}
use Rattle.std.proofs.lemmas.Fn.{filter_same}
use Rattle.mcs_system.specs.Logic.{same_name}
use Rattle.mcs_system.specs.Plain.{Bridge}
use Rattle.mcs_system.specs.Seen.{bridge_of}
use Rattle.mcs_system.proofs.FewerRules.{filtered_seen}
use Rattle.mcs_script.proofs.rules.drop_rule.Goals as goal

pub returns : goal.returns
returns c = ap (map bridge_of) (filter_same _ _ _ (λ x b f' k. search rules) _ _ c.retain.ensures.filtered) ∙ filtered_seen (λ (b : Bridge). not (same_name c.args.name.now b.name)) c.args.rules.now.items

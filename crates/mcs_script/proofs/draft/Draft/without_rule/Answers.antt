use Rattle.std.proofs.Common.{Bool, not, ap, ◌∙◌}
use Rattle.mcs_system.specs.Logic.{same_name}
use Rattle.mcs_system.specs.Plain.{Bridge, System}
use Rattle.mcs_system.specs.Edits.{with_rules}
use Rattle.mcs_script.specs.Edits.{Dropped, edited}
use Rattle.mcs_script.proofs.DraftLemmas.{draft_fewer}
use Rattle.mcs_script.proofs.draft.Draft.without_rule.Goals as goal

pub invariant_of-result : goal.invariant_of-result
invariant_of-result c = draft_fewer _ _ _ (λ (b : Bridge). not (same_name c.args.name.now b.name)) _ _ c.drop_rule.ensures c.self.invariant

pub returns : goal.returns
returns c =
    let p : Bridge → Bool = λ b. not (same_name c.args.name.now b.name) in (
      ap (with_rules c.self.inside.bare) c.drop_rule.ensures ∙ ap (λ (m : System). edited m (Dropped c.args.name.now)) c.self.view_is,
      (draft_fewer c.self.inside.bare c.self.inside.rules.items c.drop_rule.new.rules.items p c.self.inside.reads.items c.self.inside.shares.items c.drop_rule.ensures c.self.invariant).valid,
    )

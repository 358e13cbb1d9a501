use Rattle.std.proofs.Common.{sym, ◌∙◌}
use Rattle.mcs_system.proofs.NameLemmas.{is_in-among}
use Rattle.mcs_script.specs.Edits.{rule_names}
use Rattle.mcs_session_tests.proofs.sessions.is_there.Goals as goal

pub returns-in-Drop : goal.returns-in-Drop
returns-in-Drop c = rw (c.in-Drop.is) (λ e. (is_in-among c.in-Drop.name (rule_names c.args.system.now)).0 (sym c.has_rule.ensures ∙ e))

use Rattle.std.proofs.Common.{◌∙◌, ◌++◌, map, sym, ap, subst}
use Rattle.std.specs.List.{filter_map}
use Rattle.std.proofs.lemmas.Result.{IfOk-weaker}
use Rattle.mcs_system.specs.Logic.{fact_of}
use Rattle.mcs_system.specs.Plain.{Atom}
use Rattle.mcs_system.specs.Seen.{rule_of}
use Rattle.mcs_evidence.specs.Programs.{AreOverRules}
use Rattle.mcs_program.specs.Asked.{program_names, program_rules}
use Rattle.mcs_program.specs.Once.{IsOnce}
use Rattle.mcs_program.proofs.OnceLemmas.{once_more, once_over}
use Rattle.mcs_program.proofs.OutputLemmas.{with_facts_over}
use Rattle.mcs_program.proofs.once.once_with_facts.Goals as goal

pub returns-clause-over : goal.returns-clause-over
returns-clause-over c =
    let p = c.args.program.now in
    let ns = map (λ b. b.now) c.args.added.now in
    let rules = map rule_of c.in_ok-once.once.items in
    IfOk-weaker c.with_facts-all.result _ _
    (λ all e. subst (AreOverRules (program_names p)) (sym (e ∙ ap (λ rs. map rule_of rs ++ filter_map fact_of (map Atom ns)) c.deref.ensures.value))
    (with_facts_over (program_names p) ns rules (once_over (program_names p) (program_rules p) rules c.in_ok-once.ensures p.rules_over) c.requires))
    c.with_facts-all.ensures

pub returns-clause-once : goal.returns-clause-once
returns-clause-once c =
    let p = c.args.program.now in
    let facts = filter_map fact_of (map Atom (map (λ b. b.now) c.args.added.now)) in
    let rules = map rule_of c.in_ok-once.once.items in
    IfOk-weaker c.with_facts-all.result _ _
    (λ all e. subst (IsOnce (program_rules p ++ facts)) (sym (e ∙ ap (λ rs. map rule_of rs ++ facts) c.deref.ensures.value)) (once_more (program_rules p) rules facts c.in_ok-once.ensures))
    c.with_facts-all.ensures

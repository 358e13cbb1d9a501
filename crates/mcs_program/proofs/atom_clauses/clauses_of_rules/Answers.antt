use Rattle.std.proofs.Common.{◌≡◌, ◌∙◌, ◌++◌, ◌∷◌, [], map, take, ap, sym, subst, refl, List}
use Rattle.mcs_system.specs.Plain.{Formula, ProgramRule}
use Rattle.mcs_system.specs.Seen.{rule_of}
use Rattle.mcs_evidence.specs.Programs.{rule_formula, IsOverRule}
use Rattle.mcs_meant.specs.Meanings.{AreMeantBy}
use Rattle.mcs_meant.proofs.MeaningLemmas.{no_clauses}
use Rattle.mcs_base.proofs.Mapped.{image_each_read, map-take_read}
use Rattle.mcs_program.proofs.atom_clauses.clauses_of_rules.Goals as goal

pub loop-rule-init : goal.loop-rule-init
loop-rule-init c = no_clauses c.args.program.now.atoms.now c.new-cnf.result c.new-cnf.ensures

pub push_rule-requires-clause-over : goal.push_rule-requires-clause-over
push_rule-requires-clause-over c = image_each_read (IsOverRule c.args.program.now.atoms.now) rule_of c.args.program.now.rules.now c.loop-rule.rule-index c.rule-item.result c.loop-rule-test.true c.rule-item.is c.args.program.now.rules_over

pub loop-rule-preserved : goal.loop-rule-preserved
loop-rule-preserved c =
    let k = c.loop-rule.rule-index in
    let rules = c.args.program.now.rules.now in
    subst (λ (fs : List Formula). AreMeantBy c.args.program.now.atoms.now fs c.push_rule.new.cnf)
    (sym (ap (map rule_formula) (map-take_read rule_of rules k c.rule-item.result c.loop-rule-test.true c.rule-item.is) ∙ pushed (map rule_of (take k rules)) (rule_of c.rule-item.result)))
    (c.in_ok-push_rule.ensures (map rule_formula (map rule_of (take k rules))) c.loop-rule.invariant)
  where
    pushed : (rs : List ProgramRule) (r : ProgramRule) → map rule_formula (rs ++ r ∷ []) ≡ map rule_formula rs ++ rule_formula r ∷ []
    pushed [] r = refl
    pushed (s ∷ rs) r = ap (λ (fs : List Formula). rule_formula s ∷ fs) (pushed rs r)

use Rattle.std.proofs.Common.{◌≡◌, ◌+◌, List, map, drop, subst}
use Rattle.mcs_system.specs.Plain.{Formula}
use Rattle.mcs_cnf.specs.ClauseLists.{with_formulas}
use Rattle.mcs_system.specs.Seen.{formula_of, item_of}
use Rattle.mcs_cnf.proofs.ListLemmas.{room_kept}
use Rattle.mcs_evidence.specs.Defaults.{facts_of}
use Rattle.mcs_default.proofs.PushLemmas.{items_over, fact_next, rule_next, fact_pushed}
use Rattle.mcs_default.proofs.theory.push_facts.Goals.{in-Fact+in_ok-push_formula-in-Fact, in-Rule}
use Rattle.mcs_default.proofs.theory.push_facts.Goals as goal

pub loop-item-preserved : goal.loop-item-preserved
loop-item-preserved c =
    let names = c.args.atoms.now in
    let xs = c.args.items.now in
    let i = c.loop-item.item-index in
    let before = c.loop-item.invariant in
    let over = items_over names xs i c.item-item.result c.loop-item-test.true c.item-item.is before.over in
    elim c.match-item.branch [
      | in-Fact+in_ok-push_formula-in-Fact w ↦
          rw w.known-is (record {
            all = fact_pushed names c.loop-item.known w.push_formula.new.cnf (formula_of w.in-Fact.formula) (facts_of (map item_of (drop (i + 1) xs))) (facts_of (map item_of (drop i xs))) _ w.in_ok-push_formula-in-Fact.ensures.ok
                (fact_next xs i c.item-item.result w.in-Fact.formula c.loop-item-test.true c.item-item.is w.in-Fact.is) before.all;
            over = over.1;
            room = room_kept names c.loop-item.known w.push_formula.new.cnf (formula_of w.in-Fact.formula) before.room w.in_ok-push_formula-in-Fact.ensures.ok;
          })
      | in-Rule w ↦
          rw w.known-is (record {
            all = subst (λ (fs : List Formula). with_formulas names c.loop-item.known fs ≡ with_formulas names c.args.known.now (facts_of (map item_of xs))) (rule_next xs i c.item-item.result _ c.loop-item-test.true c.item-item.is w.in-Rule.is) before.all;
            over = over.1;
            room = before.room;
          })
    ]

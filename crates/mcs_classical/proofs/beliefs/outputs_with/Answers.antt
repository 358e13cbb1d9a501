use Rattle.std.proofs.Common.{◌≤◌, ◌∙◌, ℕ, length, map, take, sym, subst, arith}
use Rattle.std.proofs.lemmas.Grind.{common_steps}
use Rattle.std.proofs.lemmas.Result.{IfOk-weaker}
use Rattle.std.specs.List.{AllByRecursion}
use Rattle.mcs_system.specs.Seen.{formula_of}
use Rattle.mcs_trace.specs.Clauses.{IsWithin}
use Rattle.mcs_base.proofs.Each.{all_append}
use Rattle.mcs_cnf.specs.ClauseLists.{IsOver}
use Rattle.mcs_cnf.proofs.GrowingLemmas.{grown_clauses, grown_fewer, grown_within}
use Rattle.mcs_classical.proofs.beliefs.outputs_with.Goals as goal

pub outputs_in-shown-requires : goal.outputs_in-shown-requires
outputs_in-shown-requires c =
    let heads = map (λ f. formula_of f.now) c.args.added.now in
    omega (arith, c.requires.room, grown_fewer c.args.given.now.asked.now.atoms.now c.args.known.now c.add_formulas.new.known (heads, c.in_ok-add_formulas.ensures.ok))

pub cut-requires-clause-fewer : goal.cut-requires-clause-fewer
cut-requires-clause-fewer c =
    let heads = map (λ f. formula_of f.now) c.args.added.now in
    let pushed = c.outputs_in-shown.ensures.kept ∙ c.in_ok-add_formulas.ensures.ok in
    let known : c.args.known.now.vars ≤ c.outputs_in-shown.new.known.vars = grown_fewer c.args.given.now.asked.now.atoms.now c.args.known.now c.outputs_in-shown.new.known (heads, pushed) in
    omega arith

pub cut-requires-clause-within : goal.cut-requires-clause-within
cut-requires-clause-within c =
    let heads = map (λ f. formula_of f.now) c.args.added.now in
    let pushed = c.outputs_in-shown.ensures.kept ∙ c.in_ok-add_formulas.ensures.ok in
    subst (λ (k : ℕ). AllByRecursion (IsWithin c.vars-vars.result) (take k c.outputs_in-shown.new.known.clauses)) (sym c.count-count.ensures)
    (subst (λ (n : ℕ). AllByRecursion (IsWithin n) (take (length c.args.known.now.clauses) c.outputs_in-shown.new.known.clauses)) (sym c.vars-vars.ensures.value)
    (grown_within c.args.given.now.asked.now.atoms.now c.args.known.now c.outputs_in-shown.new.known (heads, pushed) c.vars-vars.ensures.kept))

pub returns : goal.returns
returns c =
    let heads = map (λ f. formula_of f.now) c.args.added.now in
    let names = c.args.given.now.asked.now.atoms.now in
    let grown = grown_clauses names c.args.known.now c.add_formulas.new.known (heads, c.in_ok-add_formulas.ensures.ok) in
    record {
      kept = grind (arith, common_steps);
      exact = IfOk-weaker c.outputs_in-shown.result _ _ (λ r h. λ fs is over. h _ (grown fs is) (all_append (IsOver names) fs heads over c.requires.added)) c.outputs_in-shown.ensures.exact;
      accepted = IfOk-weaker c.outputs_in-shown.result _ _ (λ r h. λ fs is over. h _ (grown fs is) (all_append (IsOver names) fs heads over c.requires.added)) c.outputs_in-shown.ensures.accepted;
    }

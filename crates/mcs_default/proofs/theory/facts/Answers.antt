use Rattle.std.proofs.Common.{◌≡◌, ◌∙◌, [], length, map, ap}
use Rattle.mcs_system.specs.Seen.{formula_of, item_of}
use Rattle.mcs_trace.specs.Clauses.{ClauseList}
use Rattle.mcs_cnf.specs.ClauseLists.{with_formulas, clause_list}
use Rattle.mcs_cnf.proofs.ListLemmas.{with_append}
use Rattle.mcs_cnf.proofs.GrowingLemmas.{room_known}
use Rattle.mcs_evidence.specs.Defaults.{facts_of}
use Rattle.mcs_default.proofs.theory.facts.Goals as goal

pub push_all-requires-clause-room : goal.push_all-requires-clause-room
push_all-requires-clause-room c =
    let fs = facts_of (map item_of c.args.items.now) in
    room_known c.args.atoms.now c.push_facts.new.known fs (c.in_ok-push_facts.ensures ∙ ap (λ (x : ClauseList). with_formulas c.args.atoms.now x fs) c.new-known.ensures)

pub returns : goal.returns
returns c =
    let names = c.args.atoms.now in
    let fs = facts_of (map item_of c.args.items.now) in
    let gs = map (λ f. formula_of f.now) c.args.added.now in
    let known : c.push_facts.new.known ≡ clause_list names fs = c.in_ok-push_facts.ensures ∙ ap (λ (x : ClauseList). with_formulas names x fs) c.new-known.ensures in
    c.in_ok-push_all.ensures.ok ∙ ap (λ (x : ClauseList). with_formulas names x gs) known ∙ with_append names (record { vars = length names; clauses = [] }) fs gs

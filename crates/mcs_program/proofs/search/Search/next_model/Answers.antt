use Rattle.std.proofs.Common.{◌∙◌, sym, map}
use Rattle.std.proofs.lemmas.Result.{IfOk-weaker}
use Rattle.mcs_system.specs.Plain.{Atom}
use Rattle.mcs_system.specs.Seen.{rule_of}
use Rattle.mcs_program.specs.Asked.{search_rest}
use Rattle.mcs_program.proofs.SearchLemmas.{views_low}
use Rattle.mcs_program.proofs.PlaceLemmas.{all_model}
use Rattle.mcs_program.proofs.search.Search.next_model.Goals as goal

pub is_possible-requires : goal.is_possible-requires
is_possible-requires c = c.requires.ascending

pub find_model-requires : goal.find_model-requires
find_model-requires c = c.requires.known.room

pub returns-then-is_possible-clause-found : goal.returns-then-is_possible-clause-found
returns-then-is_possible-clause-found c =
    let p = c.args.placed.now.program.now in
    let s = c.args.self.now in
    let rules = map rule_of p.rules.now in
    let ns = map (λ b. b.now) p.beliefs.now in
    all_model p.atoms.now rules ns c.args.placed.now.placing s.smaller.items s.views.items c.all_places-all.result p.different c.args.placed.now.right c.all_places-all.ensures
    c.requires.in_range (views_low p.atoms.now rules (map Atom ns) s c.requires) (sym c.is_possible.ensures ∙ c.if-is_possible.true)

pub returns-clause-found : goal.returns-clause-found
returns-clause-found c = IfOk-weaker c.find_model.result _ _ (λ found e. e (search_rest c.args.placed.now.program.now c.args.self.now) c.requires.known) c.find_model.ensures.found

use Rattle.std.proofs.Common.{map, refl}
use Rattle.mcs_system.specs.Seen.{item_of}
use Rattle.mcs_solver.specs.Questions.{asked_names, asked_beliefs, heads_with}
use Rattle.mcs_solver.proofs.KindLemmas.{base_of}
use Rattle.mcs_solver.proofs.views.listed_views.Goals as goal

pub list_extensions-listed-requires-clause-base : goal.list_extensions-listed-requires-clause-base
list_extensions-listed-requires-clause-base c =
    let q = c.args.question.now in
    c.in_ok-base.ensures.made (heads_with q) (asked_beliefs q) c.requires.made q.given.now.assumptions.now (λ rules. refl)

pub returns-clause-made : goal.returns-clause-made
returns-clause-made c =
    base_of (asked_names c.args.question.now) (map item_of c.args.items.now) c.args.question.now.given.now.assumptions.now c.list_extensions-listed.new.self c.list_extensions-listed.ensures.base

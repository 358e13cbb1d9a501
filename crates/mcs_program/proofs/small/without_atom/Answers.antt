use Rattle.std.proofs.Common.{◌∙◌, sym, ap}
use Rattle.mcs_sets.specs.Sets.{has, single}
use Rattle.mcs_sets.proofs.Lattice.{in_minus}
use Rattle.mcs_program.specs.Asked.{program_names, program_rules, program_beliefs, belief_names, search_rest}
use Rattle.mcs_program.proofs.SearchLemmas.{views_low}
use Rattle.mcs_program.proofs.SmallLemmas.{without_place}
use Rattle.mcs_program.proofs.PlaceLemmas.{possible_value}
use Rattle.mcs_program.proofs.small.without_atom.Goals as goal

pub returns-then-is_possible-clause-stays : goal.returns-then-is_possible-clause-stays
returns-then-is_possible-clause-stays c search is =
    let p = c.args.placed.now.program.now in
    let s = c.args.search.now in
    let less = c.without-less.result in
    without_place (program_names p) (search_rest p s) c.args.model c.args.place less c.without-less.ensures is
    (sym (possible_value (program_names p) (program_rules p) (belief_names p) c.args.placed.now.placing s.smaller.items s.views.items less p.different c.args.placed.now.right
    (λ j member. is.in_range j (in_minus c.args.model (single c.args.place) j (ap (λ x. has x j) (sym c.without-less.ensures) ∙ member)).0)
    search.in_range (views_low (program_names p) (program_rules p) (program_beliefs p) s search)) ∙ sym c.is_possible.ensures ∙ c.if-is_possible.true)

pub returns-then-is_possible-clause-within : goal.returns-then-is_possible-clause-within
returns-then-is_possible-clause-within c = λ k member. (in_minus c.args.model (single c.args.place) k (ap (λ s. has s k) (sym c.without-less.ensures) ∙ member)).0

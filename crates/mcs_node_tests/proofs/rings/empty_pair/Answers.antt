use Rattle.std.proofs.Common.{ℕ, subst, sym, ◌∙◌}
use Rattle.mcs_sets.specs.Sets.{Within}
use Rattle.mcs_sets.proofs.Lattice.{none_within}
use Rattle.mcs_node_tests.proofs.rings.empty_pair.Goals as goal

pub returns : goal.returns
returns c = λ marks. subst (λ (p : ℕ). Within p marks) (sym (c.new.ensures ∙ c.empty.ensures)) (none_within marks)

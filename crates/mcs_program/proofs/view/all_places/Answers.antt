use Rattle.std.proofs.Common.{◌≡◌, ◌∙◌, true, sym, ap, arith}
use Rattle.mcs_sets.specs.Sets.{single, union, such_that}
use Rattle.mcs_sets.proofs.SetLemmas.{such_that-more, such_that-none}
use Rattle.mcs_program.proofs.view.all_places.Goals as goal

pub loop-place-init : goal.loop-place-init
loop-place-init c = c.empty-places.ensures ∙ sym (such_that-none (λ _. true))

pub loop-place-preserved : goal.loop-place-preserved
loop-place-preserved c = c.with-places.ensures ∙ ap (λ s. union s (single c.loop-place.place)) c.loop-place.invariant ∙ sym (such_that-more c.loop-place.place (λ _. true))

pub returns : goal.returns
returns c = let all : c.loop-place.place ≡ c.args.count = omega arith in c.loop-place.invariant ∙ ap (λ n. such_that n (λ _. true)) all

use Rattle.std.proofs.Common.{◌≡◌, ◌∙◌, ℕ, Bool, cond, sym, ap, get_or, length, arith}
use Rattle.mcs_sets.specs.Sets.{has, single, union, such_that}
use Rattle.mcs_sets.proofs.SetLemmas.{such_that-more, such_that-none}
use Rattle.mcs_program.specs.Placing.{view_at}
use Rattle.mcs_program.proofs.view.numbers_in.Goals.{then-has, else-has}
use Rattle.mcs_program.proofs.view.numbers_in.Goals as goal

pub loop-k-init : goal.loop-k-init
loop-k-init c = c.empty-view.ensures ∙ sym (such_that-none (λ k. has c.args.model (get_or c.args.places.now k 0)))

pub loop-k-preserved : goal.loop-k-preserved
loop-k-preserved c =
    let k = c.loop-k.k in
    let p : ℕ → Bool = λ j. has c.args.model (get_or c.args.places.now j 0) in
    elim c.if-has.branch [
      | then-has w ↦ w.view-is ∙ w.with-view.ensures ∙ ap (λ v. union v (single k)) c.loop-k.invariant
          ∙ sym (such_that-more k p ∙ ap (λ b. cond b (union (such_that k p) (single k)) (such_that k p)) (sym c.has.ensures.value ∙ w.if-has.true))
      | else-has w ↦ w.view-is ∙ c.loop-k.invariant
          ∙ sym (such_that-more k p ∙ ap (λ b. cond b (union (such_that k p) (single k)) (such_that k p)) (sym c.has.ensures.value ∙ w.if-has.false))
    ]

pub returns : goal.returns
unfolding view_at
returns c =
    let long : c.loop-k.k ≡ length c.args.places.now = omega arith in
    c.loop-k.invariant ∙ ap (λ n. such_that n (λ j. has c.args.model (get_or c.args.places.now j 0))) long

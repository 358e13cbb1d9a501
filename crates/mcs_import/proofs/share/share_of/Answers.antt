use Rattle.std.proofs.Common.{Vec, Global, ◌+◌, ◌∷◌, ◌++◌, ℕ, List, [], refl, sym, ap, subst, ◌∙◌, drop, get_or}
use Rattle.mcs_sets.specs.Sets.{minus}
use Rattle.mcs_import.proofs.ShareLemmas.{IsPartly, partly_begin, partly_more, partly_skip, partly_here, partly_end}
use Rattle.mcs_import.proofs.share.share_of.Goals as goal
use Rattle.mcs_import.proofs.share.share_of.Goals.{then-is_imported+in_ok-push, else-is_imported, else-loop-j-test, then-loop-j-test+then-j-i}

pub loop-j-init : goal.loop-j-init
loop-j-init c = subst (λ (xs : List ℕ). IsPartly c.args.system.now c.args.order.now c.args.i xs c.inputs_of-guessed.result c.args.order.now) (sym c.new-supplied.ensures.items)
    (subst (λ (g : ℕ). IsPartly c.args.system.now c.args.order.now c.args.i [] g c.args.order.now) (sym c.inputs_of-guessed.ensures) (partly_begin c.args.system.now c.args.order.now c.args.i))

pub loop-j-preserved : goal.loop-j-preserved
loop-j-preserved c = elim c.if-is_imported.branch [
  | then-is_imported+in_ok-push w ↦
      subst (λ (xs : List ℕ). IsPartly c.args.system.now c.args.order.now c.args.i xs c.if-is_imported.guessed (drop (c.loop-j.j-index + 1) c.args.order.now)) (sym (ap (λ (v : Vec ℕ Global). v.items) w.supplied-is ∙ w.in_ok-push.ensures.items))
      (subst (λ (g : ℕ). IsPartly c.args.system.now c.args.order.now c.args.i (c.loop-j.supplied.items ++ get_or c.args.order.now c.loop-j.j-index 0 ∷ []) g (drop (c.loop-j.j-index + 1) c.args.order.now)) (sym (w.guessed-is ∙ w.minus-guessed.ensures ∙ ap (minus c.loop-j.guessed) w.vars_of.ensures))
      (partly_more c.args.system.now c.args.order.now c.args.i c.loop-j.supplied.items c.loop-j.guessed c.loop-j.j-index (get_or c.args.order.now c.loop-j.j-index 0) 0 c.loop-j-test.true refl c.if-j-i.false (sym c.is_imported.ensures ∙ w.if-is_imported.true) c.loop-j.invariant))
  | else-is_imported w ↦
      subst (λ (xs : List ℕ). IsPartly c.args.system.now c.args.order.now c.args.i xs c.if-is_imported.guessed (drop (c.loop-j.j-index + 1) c.args.order.now)) (sym (ap (λ (v : Vec ℕ Global). v.items) w.supplied-is))
      (subst (λ (g : ℕ). IsPartly c.args.system.now c.args.order.now c.args.i c.loop-j.supplied.items g (drop (c.loop-j.j-index + 1) c.args.order.now)) (sym w.guessed-is)
      (partly_skip c.args.system.now c.args.order.now c.args.i c.loop-j.supplied.items c.loop-j.guessed c.loop-j.j-index (get_or c.args.order.now c.loop-j.j-index 0) 0 c.loop-j-test.true refl c.if-j-i.false (sym c.is_imported.ensures ∙ w.if-is_imported.false) c.loop-j.invariant))
]

pub returns : goal.returns
returns c = elim c.loop-j-test.branch [
  | else-loop-j-test w ↦ partly_end c.args.system.now c.args.order.now c.args.i c.loop-j.supplied.items c.loop-j.guessed c.loop-j.j-index w.loop-j-test.false c.loop-j.invariant
  | then-loop-j-test+then-j-i w ↦ partly_here c.args.system.now c.args.order.now c.args.i c.loop-j.supplied.items c.loop-j.guessed c.loop-j.j-index (get_or c.args.order.now c.loop-j.j-index 0) 0 w.loop-j-test.true refl w.if-j-i.true c.loop-j.invariant
]

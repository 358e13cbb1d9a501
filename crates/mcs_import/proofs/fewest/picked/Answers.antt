use Rattle.std.proofs.Common.{◌≡◌, ◌+◌, ◌∷◌, ◌++◌, [], ◌∙◌, ℕ, List, suc, cond, nat_le, length, get_or, sym, ap, arith}
use Rattle.mcs_import.specs.Fewest.{picked}
use Rattle.mcs_import.proofs.fewest.picked.Goals as goal

pub loop-place-init : goal.loop-place-init
loop-place-init c = c.new-near.ensures.items

pub loop-place-preserved : goal.loop-place-preserved
loop-place-preserved c =
    let one_more : c.loop-place.place + 1 ≡ suc c.loop-place.place = omega arith in
    c.in_ok-add_near.ensures
    ∙ ap (λ (xs : List ℕ). cond (nat_le (get_or c.args.fewest.now c.loop-place.place 0) c.args.most) (xs ++ get_or c.args.all.now c.loop-place.place 0 ∷ []) xs) c.loop-place.invariant
    ∙ ap (picked c.args.all.now c.args.fewest.now c.args.most) (sym one_more)

pub returns : goal.returns
returns c =
    let all : c.loop-place.place ≡ length c.args.all.now = omega arith in
    c.loop-place.invariant ∙ ap (picked c.args.all.now c.args.fewest.now c.args.most) all

use Rattle.std.proofs.Common.{◌≡◌, ◌∙◌, ℕ, ◌+◌, List, [], ◌∷◌, ◌++◌, false, take, get_or, ap, subst, sym, refl, inl, inr}
use Rattle.std.proofs.lemmas.List.{map_push, take_more}
use Rattle.mcs_base.specs.Listings.{IsAmong}
use Rattle.mcs_base.proofs.Among.{among_at, among_map, among_push}
use Rattle.mcs_node.specs.Keeping.{froms}
use Rattle.mcs_node.specs.declared.round.Had as had_code
use Rattle.mcs_node.proofs.round.was_had.Goals as goal

pub returns-then-letter-from : goal.returns-then-letter-from
returns-then-letter-from c =
    let first : had_code.Had = get_or c.args.had.now c.loop-letter.letter-index (record { from = 0; stop = false }) in
    (λ _. subst (λ (x : ℕ). IsAmong x (froms c.args.had.now)) c.if-letter-from.true (among_map (λ (h : had_code.Had). h.from) first c.args.had.now (among_at c.args.had.now c.loop-letter.letter-index (record { from = 0; stop = false }) c.loop-letter-test.true)), λ _. refl)

pub loop-letter-preserved : goal.loop-letter-preserved
loop-letter-preserved c h =
    let xs = c.args.had.now in
    let k = c.loop-letter.letter-index in
    let first : had_code.Had = get_or xs k (record { from = 0; stop = false }) in
    let e : froms (take (k + 1) xs) ≡ froms (take k xs) ++ first.from ∷ [] = ap froms (take_more xs k (record { from = 0; stop = false }) c.loop-letter-test.true) ∙ map_push (λ (h : had_code.Had). h.from) (take k xs) first in
    elim ((among_push c.args.from (froms (take k xs)) first.from).0 (subst (λ (zs : List ℕ). IsAmong c.args.from zs) e h)) [
      | inl early ↦ c.loop-letter.invariant early
      | inr is ↦ c.if-letter-from.false (sym is)
    ]

use Rattle.std.proofs.Common.{◌++◌, ◌∙◌, ℕ, List, [], ap, refl}
use Rattle.std.proofs.lemmas.List.{append_assoc}
use Rattle.mcs_crew.proofs.PartLemmas.{errand_front, errand_left, none_asked, split_whole}
use Rattle.mcs_crew.proofs.parts.ask_alone.Goals as goal

pub loop-left-init : goal.loop-left-init
loop-left-init g c = ([], refl, none_asked c.args.context (g.O.Oracle.stands c.args.oracle) _ c.new.ensures.items)

pub ask_more-asked-requires : goal.ask_more-asked-requires
ask_more-asked-requires g c =
    let (front, whole, asked) = c.loop-left.invariant in
    let before = g.O.Oracle.stands c.args.oracle in
    let now = g.O.Oracle.stands c.loop-left.asked.oracle in
    let left = c.loop-left.left.now in
    errand_front c.args.context now left c.split_at.result.0.now c.split_at.result.1.now (split_whole 16 left _ _ c.split_at.ensures.front c.split_at.ensures.back)
    (errand_left c.args.context before now c.args.questions.now front left asked.rest whole c.requires)

pub loop-left-preserved : goal.loop-left-preserved
loop-left-preserved g c =
    let (front, whole, asked) = c.loop-left.invariant in
    let first = c.split_at.result.0.now in
    let rest = c.split_at.result.1.now in
    let parts = split_whole 16 c.loop-left.left.now first rest c.split_at.ensures.front c.split_at.ensures.back in
    (front ++ first, append_assoc front first rest ∙ ap (λ (xs : List ℕ). front ++ xs) parts ∙ whole, c.ask_more-asked.ensures (g.O.Oracle.stands c.args.oracle) front asked)

use Rattle.std.proofs.Common.{sym, ◌∙◌}
use Rattle.mcs_words.proofs.KindLemmas.{budget_seen, workers_seen}
use Rattle.mcs_words.proofs.kind.kind_of.Goals as goal

pub returns-then-has_front : goal.returns-then-has_front
returns-then-has_front c =
    budget_seen c.args.word.now (sym c.eq.ensures ∙ c.if-eq.false) (sym c.eq-else-eq.ensures ∙ c.if-eq-2.false) (sym c.eq-else-eq-2.ensures ∙ c.if-eq-3.false) (sym c.eq-else-eq-3.ensures ∙ c.if-eq-4.false) (sym c.has_front.ensures ∙ c.if-has_front.true)

pub returns-then-has_front-2 : goal.returns-then-has_front-2
returns-then-has_front-2 c =
    workers_seen c.args.word.now (sym c.eq.ensures ∙ c.if-eq.false) (sym c.eq-else-eq.ensures ∙ c.if-eq-2.false) (sym c.eq-else-eq-2.ensures ∙ c.if-eq-3.false) (sym c.eq-else-eq-3.ensures ∙ c.if-eq-4.false) (sym c.has_front.ensures ∙ c.if-has_front.false)
    (sym c.has_front-else-has_front.ensures ∙ c.if-has_front-2.true)

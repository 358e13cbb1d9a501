use Rattle.std.proofs.Common.{rules, ◌-◌, false, sym, ap, ◌∙◌}
use Rattle.mcs_sets.specs.Sets.{single, union}
use Rattle.mcs_syntax.specs.declared.front.Front.{Front}
use Rattle.mcs_syntax.specs.Grammar.{front_by, front_at, either, or_nothing}
use Rattle.mcs_syntax.specs.Parts.{expr_at}
use Rattle.mcs_syntax.proofs.Levels.{front_step, front_zero, known, turn-one, turn-two}
use Rattle.mcs_syntax.proofs.Options.{not-true, not-false}
use Rattle.mcs_syntax.proofs.Places.{looked}
use Rattle.mcs_syntax.proofs.front.+front_of.Goals as goal

pub returns-in-Take : goal.returns-in-Take
returns-in-Take g t c =
    ap (known false) (c.one.ensures ∙ ap single c.wanted.ensures.kind) ∙ sym (ap (front_by (g.N.Rules).grammar (front_at (g.N.Rules).grammar c.args.depth)) (looked (g.N.Rules).grammar (g.N.Rules).root c.args.parts.now c.requires.table c.args.place _ c.requires.inside c.index-parts-place.is _ c.in-Take.is).0)

pub returns-in-Say : goal.returns-in-Say
returns-in-Say g t c =
    c.silent.ensures ∙ sym (ap (front_by (g.N.Rules).grammar (front_at (g.N.Rules).grammar c.args.depth)) (looked (g.N.Rules).grammar (g.N.Rules).root c.args.parts.now c.requires.table c.args.place _ c.requires.inside c.index-parts-place.is _ c.in-Say.is).0)

pub returns-in-Nothing : goal.returns-in-Nothing
returns-in-Nothing g t c =
    c.silent-in-Nothing.ensures ∙ sym (ap (front_by (g.N.Rules).grammar (front_at (g.N.Rules).grammar c.args.depth)) (looked (g.N.Rules).grammar (g.N.Rules).root c.args.parts.now c.requires.table c.args.place _ c.requires.inside c.index-parts-place.is _ c.in-Nothing.is).0)

pub returns-then-depth-gt0 : goal.returns-then-depth-gt0
returns-then-depth-gt0 g t c =
    c.front_of.ensures ∙ ap (λ k. front_by (g.N.Rules).grammar (front_at (g.N.Rules).grammar (c.args.depth - 1)) (expr_at c.args.parts.now k)) c.place.ensures ∙ ap (front_by (g.N.Rules).grammar (front_at (g.N.Rules).grammar (c.args.depth - 1))) (c.requires.table.rules c.in-Rule.rule)
    ∙ sym (front_step (g.N.Rules).grammar c.args.depth c.in-Rule.rule c.if-depth-gt0.true) ∙ sym (ap (front_by (g.N.Rules).grammar (front_at (g.N.Rules).grammar c.args.depth)) (looked (g.N.Rules).grammar (g.N.Rules).root c.args.parts.now c.requires.table c.args.place _ c.requires.inside c.index-parts-place.is _ c.in-Rule.is).0)

pub returns-else-depth-gt0 : goal.returns-else-depth-gt0
returns-else-depth-gt0 g t c =
    ap (known false) c.empty.ensures ∙ sym (front_zero (g.N.Rules).grammar c.args.depth c.in-Rule.rule c.if-depth-gt0.false) ∙ sym (ap (front_by (g.N.Rules).grammar (front_at (g.N.Rules).grammar c.args.depth)) (looked (g.N.Rules).grammar (g.N.Rules).root c.args.parts.now c.requires.table c.args.place _ c.requires.inside c.index-parts-place.is _ c.in-Rule.is).0)

pub front_of-one-requires : goal.front_of-one-requires
front_of-one-requires g t c κs within =
    let w = (looked (g.N.Rules).grammar (g.N.Rules).root c.args.parts.now c.requires.table c.args.place _ c.requires.inside c.index-parts-place.is _ c.in-Then.is) in let k = (w.1).0 in let i = (w.1).1 in search rules

pub front_of-next-requires : goal.front_of-next-requires
front_of-next-requires g t c κs within =
    let w = (looked (g.N.Rules).grammar (g.N.Rules).root c.args.parts.now c.requires.table c.args.place _ c.requires.inside c.index-parts-place.is _ c.in-Then.is) in let k = (w.1).2 in let i = (w.1).3 in search rules

pub front_of-left-requires : goal.front_of-left-requires
front_of-left-requires g t c κs within =
    let w = (looked (g.N.Rules).grammar (g.N.Rules).root c.args.parts.now c.requires.table c.args.place _ c.requires.inside c.index-parts-place.is _ c.in-Or.is) in let k = (w.1).0 in let i = (w.1).1 in search rules

pub front_of-right-requires : goal.front_of-right-requires
front_of-right-requires g t c κs within =
    let w = (looked (g.N.Rules).grammar (g.N.Rules).root c.args.parts.now c.requires.table c.args.place _ c.requires.inside c.index-parts-place.is _ c.in-Or.is) in let k = (w.1).2 in let i = (w.1).3 in search rules

pub front_of-requires-in-Maybe : goal.front_of-requires-in-Maybe
front_of-requires-in-Maybe g t c κs within =
    let w = (looked (g.N.Rules).grammar (g.N.Rules).root c.args.parts.now c.requires.table c.args.place _ c.requires.inside c.index-parts-place.is _ c.in-Maybe.is) in let k = (w.1).0 in let i = (w.1).1 in search rules

pub front_of-requires-in-Many : goal.front_of-requires-in-Many
front_of-requires-in-Many g t c κs within =
    let w = (looked (g.N.Rules).grammar (g.N.Rules).root c.args.parts.now c.requires.table c.args.place _ c.requires.inside c.index-parts-place.is _ c.in-Many.is) in let k = (w.1).0 in let i = (w.1).1 in search rules

pub returns-then-not-one : goal.returns-then-not-one
returns-then-not-one g t c =
    c.front_of-one.ensures ∙ sym (turn-one (front_by (g.N.Rules).grammar (front_at (g.N.Rules).grammar c.args.depth) (expr_at c.args.parts.now c.in-Then.a)) (front_by (g.N.Rules).grammar (front_at (g.N.Rules).grammar c.args.depth) (expr_at c.args.parts.now c.in-Then.b)) (ap (λ (p : Front). p.is_null) (sym c.front_of-one.ensures) ∙ not-true c.front_of-one.result.is_null c.if-not-one.true)) ∙ sym (ap (front_by (g.N.Rules).grammar (front_at (g.N.Rules).grammar c.args.depth)) (looked (g.N.Rules).grammar (g.N.Rules).root c.args.parts.now c.requires.table c.args.place _ c.requires.inside c.index-parts-place.is _ c.in-Then.is).0)

pub returns-else-not-one : goal.returns-else-not-one
returns-else-not-one g t c =
    let one = ap (λ (p : Front). p.first) c.front_of-one.ensures in
    ap (known c.front_of-next.result.is_null) (c.union.ensures ∙ ap (λ x. union x c.front_of-next.result.first) one) ∙ ap (λ (q : Front). known q.is_null (union ((front_by (g.N.Rules).grammar (front_at (g.N.Rules).grammar c.args.depth) (expr_at c.args.parts.now c.in-Then.a))).first q.first)) c.front_of-next.ensures
    ∙ sym (turn-two (front_by (g.N.Rules).grammar (front_at (g.N.Rules).grammar c.args.depth) (expr_at c.args.parts.now c.in-Then.a)) (front_by (g.N.Rules).grammar (front_at (g.N.Rules).grammar c.args.depth) (expr_at c.args.parts.now c.in-Then.b)) (ap (λ (p : Front). p.is_null) (sym c.front_of-one.ensures) ∙ not-false c.front_of-one.result.is_null c.if-not-one.false)) ∙ sym (ap (front_by (g.N.Rules).grammar (front_at (g.N.Rules).grammar c.args.depth)) (looked (g.N.Rules).grammar (g.N.Rules).root c.args.parts.now c.requires.table c.args.place _ c.requires.inside c.index-parts-place.is _ c.in-Then.is).0)

pub returns-in-Or : goal.returns-in-Or
returns-in-Or g t c =
    c.either.ensures ∙ ap (λ p. either p c.front_of-right.result) c.front_of-left.ensures ∙ ap (either (front_by (g.N.Rules).grammar (front_at (g.N.Rules).grammar c.args.depth) (expr_at c.args.parts.now c.in-Or.a))) c.front_of-right.ensures ∙ sym (ap (front_by (g.N.Rules).grammar (front_at (g.N.Rules).grammar c.args.depth)) (looked (g.N.Rules).grammar (g.N.Rules).root c.args.parts.now c.requires.table c.args.place _ c.requires.inside c.index-parts-place.is _ c.in-Or.is).0)

pub returns-in-Maybe : goal.returns-in-Maybe
returns-in-Maybe g t c =
    c.or_nothing.ensures ∙ ap or_nothing c.front_of-in-Maybe.ensures ∙ sym (ap (front_by (g.N.Rules).grammar (front_at (g.N.Rules).grammar c.args.depth)) (looked (g.N.Rules).grammar (g.N.Rules).root c.args.parts.now c.requires.table c.args.place _ c.requires.inside c.index-parts-place.is _ c.in-Maybe.is).0)

pub returns-in-Many : goal.returns-in-Many
returns-in-Many g t c =
    c.or_nothing-in-Many.ensures ∙ ap or_nothing c.front_of-in-Many.ensures ∙ sym (ap (front_by (g.N.Rules).grammar (front_at (g.N.Rules).grammar c.args.depth)) (looked (g.N.Rules).grammar (g.N.Rules).root c.args.parts.now c.requires.table c.args.place _ c.requires.inside c.index-parts-place.is _ c.in-Many.is).0)

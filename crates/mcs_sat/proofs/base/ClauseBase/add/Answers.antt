use Rattle.std.proofs.Common.{◌++◌, ◌∷◌, [], ◌∙◌, ℤ, List, ap, subst, sym}
use Rattle.mcs_trace.specs.Clauses.{ClauseList, IsWithin}
use Rattle.mcs_engine.proofs.StoreLemmas.{added-list, base-added, covered-within}
use Rattle.mcs_sat.proofs.base.ClauseBase.add.Goals as goal

pub add-requires-clause-clause : goal.add-requires-clause-clause
add-requires-clause-clause c =
    let b = c.self.inside in
    (c.requires.clause, covered-within b.vars b.state.trail.positions.items c.args.literals.now c.self.invariant.room (subst (λ (f : ClauseList). IsWithin f.vars c.args.literals.now) (sym c.self.view_is) c.requires.within))

pub invariant_of-self-2 : goal.invariant_of-self-2
invariant_of-self-2 c =
    let b = c.self.inside in
    base-added b.state c.add.new.state b.vars c.args.literals.now c.self.invariant c.add.ensures.kept c.in_ok-add.ensures.ok
    (subst (λ (f : ClauseList). IsWithin f.vars c.args.literals.now) (sym c.self.view_is) c.requires.within)

pub returns-clause-ok : goal.returns-clause-ok
returns-clause-ok c =
    let b = c.self.inside in
    ap (λ (cs : List (List ℤ)). (let f : ClauseList = record { vars = b.vars; clauses = cs } in f)) (added-list b.state c.add.new.state c.args.literals.now c.self.invariant.state c.in_ok-add.ensures.ok)
    ∙ ap (λ (g : ClauseList). (let f : ClauseList = record { vars = g.vars; clauses = g.clauses ++ c.args.literals.now ∷ [] } in f)) c.self.view_is

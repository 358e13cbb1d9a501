use Rattle.std.proofs.Common.{◌≡◌, ◌∙◌, ◌∷◌, ◌++◌, [], ℕ, List, Bool, true, map, Some, sym, ap, subst, arith}
use Rattle.std.specs.Arc.{arc_value}
use Rattle.std.specs.Global.{Vec}
use Rattle.std.proofs.lemmas.Option.{slice_get_within}
use Rattle.mcs_sets.specs.Orders.{StateBefore}
use Rattle.mcs_sets.specs.Sets.{Within}
use Rattle.mcs_system.specs.Imports.{rules_into}
use Rattle.mcs_states.specs.Oracles.{OracleState}
use Rattle.mcs_base.specs.Listings.{IsListing}
use Rattle.mcs_system.specs.Plain.{System}
use Rattle.mcs_system.specs.Systems.{variables_of, IsAcceptedPart}
use Rattle.mcs_system.specs.Views.{at_places}
use Rattle.mcs_session.specs.Keys.{Key, key_of}
use Rattle.mcs_session.specs.Journalled.{IsOracleOf}
use Rattle.mcs_session.proofs.SameAnswers.{views_give_answers}
use Rattle.mcs_session.proofs.OracleLemmas.{found, again, solved, view_at, place_within}
use Rattle.mcs_session.proofs.oracle.KeptOracleOracle.ask.Goals as goal

pub index-requires : goal.index-requires
index-requires g c =
    let at = found (arc_value c.self.inside.system) c.self.inside.context (g.A.Asker.journal c.self.inside.asker) c.self.inside.kept c.self.inside.words c.self.inside.origin c.self.inside.seen.items c.self.inside.journal.items c.self.inside.solved.items c.self.invariant c.args.active c.in_ok-numbers.numbers.items c.in_ok-numbers.ensures c.in-Some.place (c.in-Some.ensures ∙ ap (λ (t : List ℕ). Some t) c.deref.ensures.value) in
    omega (arith, place_within c.self.inside.kept.views.items c.in-Some.place at.views at.are_there, c.self.inside.kept.views.ok)

pub invariant_of-self-in-Some : goal.invariant_of-self-in-Some
invariant_of-self-in-Some g c =
    let seen : List Bool = c.self.inside.seen.items in
    let next = again (arc_value c.self.inside.system) c.self.inside.context (g.A.Asker.journal c.self.inside.asker) c.self.inside.kept c.self.inside.words c.self.inside.origin seen c.self.inside.journal.items c.self.inside.solved.items c.self.invariant c.args.active c.in_ok-numbers.numbers.items c.in_ok-numbers.ensures (subst (λ (o : OracleState). Within c.args.active (rules_into o.system o.context)) (sym c.self.view_is) c.requires) c.in-Some.place (c.in-Some.ensures ∙ ap (λ (t : List ℕ). Some t) c.deref.ensures.value) in
    rw (c.in_ok-push.ensures.items) next

pub returns-in-Some-clause-answer : goal.returns-in-Some-clause-answer
returns-in-Some-clause-answer g c =
    let m : System = arc_value c.self.inside.system in
    let i : ℕ = c.self.inside.context in
    let at = found m i (g.A.Asker.journal c.self.inside.asker) c.self.inside.kept c.self.inside.words c.self.inside.origin c.self.inside.seen.items c.self.inside.journal.items c.self.inside.solved.items c.self.invariant c.args.active c.in_ok-numbers.numbers.items c.in_ok-numbers.ensures c.in-Some.place (c.in-Some.ensures ∙ ap (λ (t : List ℕ). Some t) c.deref.ensures.value) in
    let listed = views_give_answers m i c.args.active at.views at.kept.answered in
    let views_are : c.deref-in-Some-2.result.now ≡ at.views = c.deref-in-Some-2.ensures.value ∙ ap (λ (v : Vec ℕ). v.items) c.index.ensures ∙ view_at c.self.inside.kept.views.items c.in-Some.place at.views c.index.result.now at.are_there in
    let states_are : c.in_ok-states.states.items ≡ map (at_places (variables_of m i)) at.views =
    c.in_ok-states.ensures ∙ ap (λ (vs : List ℕ). map (at_places c.vars_of-own.result) vs) views_are ∙ ap (λ (s : ℕ). map (at_places s) at.views) (c.vars_of-own.ensures ∙ ap (λ (n : System). variables_of n i) c.deref-in-Some.ensures) in
    rw (← c.self.view_is) (subst (IsListing (IsAcceptedPart m i c.args.active) StateBefore) (sym states_are) listed)

pub invariant_of-self-2 : goal.invariant_of-self-2
invariant_of-self-2 g c =
    let m : System = arc_value c.self.inside.system in
    let i : ℕ = c.self.inside.context in
    let keys : List Key = g.A.Asker.journal c.solve_new.new.asker in
    let journal : List ℕ = c.self.inside.journal.items in
    let new : List ℕ = c.self.inside.solved.items in
    let journal_is : c.push_within.new.values.items ≡ journal ++ c.args.active ∷ [] = c.push_within.ensures ∙ ap (λ (js : List ℕ). js ++ c.args.active ∷ []) c.in_ok-reserve.ensures.items in
    let new_is : c.push_within-2.new.values.items ≡ new ++ c.args.active ∷ [] = c.push_within-2.ensures ∙ ap (λ (js : List ℕ). js ++ c.args.active ∷ []) c.in_ok-reserve-2.ensures.items in
    let next = solved m i (g.A.Asker.journal c.self.inside.asker) c.self.inside.kept c.self.inside.words c.self.inside.origin c.self.inside.seen.items journal new c.self.invariant c.args.active c.in_ok-numbers.numbers.items c.in_ok-numbers.ensures (subst (λ (o : OracleState). Within c.args.active (rules_into o.system o.context)) (sym c.self.view_is) c.requires) keys c.solve_new.new.kept c.in_ok-states-2.ensures.solved in
    let seen_is : c.push_within-3.new.values.items ≡ c.self.inside.seen.items ++ true ∷ [] = c.push_within-3.ensures ∙ ap (λ (js : List Bool). js ++ true ∷ []) c.in_ok-reserve-3.ensures.items in
    subst (λ (js : List ℕ). IsOracleOf m i keys c.solve_new.new.kept c.self.inside.words c.self.inside.origin c.push_within-3.new.values.items js c.push_within-2.new.values.items) (sym journal_is)
    (subst (λ (ns : List ℕ). IsOracleOf m i keys c.solve_new.new.kept c.self.inside.words c.self.inside.origin c.push_within-3.new.values.items (journal ++ c.args.active ∷ []) ns) (sym new_is)
    (subst (λ (bs : List Bool). IsOracleOf m i keys c.solve_new.new.kept c.self.inside.words c.self.inside.origin bs (journal ++ c.args.active ∷ []) (new ++ c.args.active ∷ [])) (sym seen_is) next))

pub index_mut-requires : goal.index_mut-requires
index_mut-requires g c =
    let keys : List Key = g.A.Asker.journal c.self.inside.asker in
    let at = found (arc_value c.self.inside.system) c.self.inside.context keys c.self.inside.kept c.self.inside.words c.self.inside.origin c.self.inside.seen.items c.self.inside.journal.items c.self.inside.solved.items c.self.invariant c.args.active c.in_ok-numbers.numbers.items c.in_ok-numbers.ensures c.in-Some.place (c.in-Some.ensures ∙ ap (λ (t : List ℕ). Some t) c.deref.ensures.value) in
    omega (arith, slice_get_within keys c.in-Some.place (key_of (arc_value c.self.inside.system) c.self.inside.context c.args.active) at.key_there, c.self.invariant.journalled.many, c.self.inside.seen.ok)

use Rattle.std.proofs.Common.{◌≡◌, ◌∙◌, ℕ, List, map, sym, ap, subst}
use Rattle.std.specs.Arc.{arc_value}
use Rattle.mcs_base.proofs.Lists.{slice_get_below}
use Rattle.mcs_system.specs.Plain.{System}
use Rattle.mcs_system.specs.Systems.{variables_of}
use Rattle.mcs_session.specs.Keys.{Key, key_of, places_in, AreViewsFor}
use Rattle.mcs_session.specs.Journalled.{IsKeptOn}
use Rattle.mcs_session.specs.Tables.{texts_in}
use Rattle.mcs_session.proofs.SameAnswers.{answers_give_views}
use Rattle.mcs_session.proofs.KeptLemmas.{one_more, not_kept}
use Rattle.mcs_session.proofs.oracle.solve_new.Goals as goal

pub returns-clause-solved : goal.returns-clause-solved
returns-clause-solved g c =
    let m : System = arc_value c.args.system.now in
    let i : ℕ = c.args.context in
    let x : ℕ = c.args.active in
    let keys : List Key = g.A.Asker.journal c.args.asker.now in
    let (context, is_it) = slice_get_below m.contexts i c.requires.there in
    let views_are : c.views_of.result.items ≡ map (places_in (variables_of m i)) c.in_ok-states.states.items =
    c.views_of.ensures ∙ ap (λ (ps : List ℕ). map (places_in c.vars_of.result) ps) c.in_ok-states.ensures.twice ∙ ap (λ (s : ℕ). map (places_in s) c.in_ok-states.states.items) (c.vars_of.ensures ∙ ap (λ (n : System). variables_of n i) c.deref.ensures) in
    let views : AreViewsFor m.contexts (key_of m i x) c.views_of.result.items = subst (AreViewsFor m.contexts (key_of m i x)) (sym views_are) (answers_give_views m i x context c.in_ok-states.states.items is_it c.in_ok-states.ensures.answer) in record {
      journal = c.in_ok-states.ensures.journal;
      kept = subst (λ ks. IsKeptOn m i ks c.args.kept.now c.push.new.self) (sym c.in_ok-states.ensures.journal) (one_more m i x keys c.args.kept.now c.reserve.new.self c.push.new.self c.args.numbers.items c.views_of.result.items c.requires c.in_ok-reserve.ensures.same c.push.ensures views);
      unknown = not_kept (texts_in c.args.kept.now.formulas.keys) m.contexts i c.requires.answers.formulas_apart keys _ _ c.requires.answers.each (key_of m i x) c.args.numbers.items c.requires.numbered c.requires.new;
    }

use Rattle.std.proofs.Common.{◌≡◌, ◌<◌, ◌+◌, ◌∷◌, [], ◌∙◌, ap, sym, subst, length, Some, slice_get, refl, arith, length-append}
use Rattle.std.proofs.lemmas.Iterator.Adapters.{YieldsList-from_vec}
use Rattle.std.proofs.lemmas.Iterator.Consumers.{YieldsList-turn, YieldsList-end}
use Rattle.std.proofs.lemmas.List.{length-map}
use Rattle.std.proofs.lemmas.Option.{slice_get_read}
use Rattle.std.specs.Arc.{arc_value}
use Rattle.mcs_base.proofs.Each.{all_get}
use Rattle.mcs_system.specs.Plain.{System}
use Rattle.mcs_system.specs.Seen.{context_of}
use Rattle.mcs_states.specs.Oracles.{OracleState}
use Rattle.mcs_session.specs.Sessions.{kept_oracle}
use Rattle.mcs_session.proofs.LendingLemmas.{all_made, none_made, one_made, AreFirst}
use Rattle.mcs_session.proofs.session.new_oracles.Given.{Over}
use Rattle.mcs_session.proofs.session.new_oracles.Goals as goal

pub overflow_cast-context : goal.overflow_cast-context
overflow_cast-context g c =
    let gives = c.into_iter-asker-iterator.ensures.into_iter_gives in
    let road = YieldsList-from_vec {s = c.into_iter-asker-iterator.result} c.args.askers.items gives.0 (gives.1 ∙ c.args.askers.ok.0) in
    let less = (YieldsList-turn road c.loop-asker.yielded c.loop-asker.asker-iterator c.loop-asker.yielded_by c.next.result c.next.new.self c.in-Some.asker c.in-Some.is c.next.ensures.steps).0 in
    let many : length c.contexts.result.now ≡ length (arc_value c.args.system.now).contexts = sym (length-map c.contexts.result.now context_of) ∙ ap length c.contexts.ensures.value ∙ ap (λ (m : System). length m.contexts) c.deref.ensures in
    let count : c.len-context.result ≡ length c.loop-asker.oracles.items = c.len-context.ensures ∙ c.loop-asker.oracles.ok.0 in
    let few = c.contexts.ensures.few in
    let each = c.requires.one_each in
    let bound : c.len-context.result < 64 = omega (arith, less, each, many, few, c.loop-asker.invariant.many, count) in
    omega (arith, bound)

-- the asker of the next context
there : (g : Over) (c : goal.After-oracles-in-loop-asker-2-1 g) → (length c.loop-asker.yielded < length c.args.askers.items) × (slice_get c.args.askers.items (length c.loop-asker.yielded) ≡ Some c.in-Some.asker)
there g c =
    let all = c.args.askers.items in
    let gives = c.into_iter-asker-iterator.ensures.into_iter_gives in
    let road = YieldsList-from_vec {s = c.into_iter-asker-iterator.result} all gives.0 (gives.1 ∙ c.args.askers.ok.0) in
    let turn = YieldsList-turn road c.loop-asker.yielded c.loop-asker.asker-iterator c.loop-asker.yielded_by c.next.result c.next.new.self c.in-Some.asker c.in-Some.is c.next.ensures.steps in
    (turn.0, slice_get_read all (length all) (length c.loop-asker.yielded) c.in-Some.asker refl turn.0 turn.1)

number : (g : Over) (c : goal.After-oracles-in-loop-asker-2-1 g) → c.len-context.result ≡ length c.loop-asker.yielded
number g c = c.len-context.ensures ∙ c.loop-asker.oracles.ok.0 ∙ c.loop-asker.invariant.many

pub new-requires-clause-there : goal.new-requires-clause-there
new-requires-clause-there g c = subst (λ (m : System). c.len-context.result < length m.contexts) (sym c.in_ok-shared.ensures.cases) (let less = (there g c).0 in let many = c.requires.one_each in omega (arith, less, many, number g c))

pub new-requires-clause-empty : goal.new-requires-clause-empty
new-requires-clause-empty g c = all_get (λ a. g.A.Asker.journal a ≡ []) c.args.askers.items (length c.loop-asker.yielded) c.in-Some.asker c.requires.unasked (there g c).1

pub loop-asker-init : goal.loop-asker-init
loop-asker-init g c = record { many = ap length c.in_ok-oracles.ensures.items; first = subst (AreFirst (arc_value c.args.system.now)) (sym c.in_ok-oracles.ensures.items) (none_made (arc_value c.args.system.now)) }

pub loop-asker-preserved : goal.loop-asker-preserved
loop-asker-preserved g c =
    let m : System = arc_value c.args.system.now in
    let o : OracleState = c.in_ok-new.field-0 in
    let old = c.loop-asker.oracles.items in
    let is : o ≡ kept_oracle m (length old) [] [] =
    c.in_ok-new.ensures ∙ ap (λ (n : System). kept_oracle n c.len-context.result [] []) c.in_ok-shared.ensures.cases ∙ ap (λ k. kept_oracle m k [] []) (c.len-context.ensures ∙ c.loop-asker.oracles.ok.0) in
    record {
      many = ap length c.in_ok-push.ensures.items ∙ length-append old (o ∷ []) ∙ ap (λ n. n + 1) c.loop-asker.invariant.many ∙ sym (length-append c.loop-asker.yielded (c.in-Some.asker ∷ []));
      first = subst (AreFirst m) (sym c.in_ok-push.ensures.items) (one_made m old o c.loop-asker.invariant.first is);
    }

pub returns : goal.returns
returns g c =
    let all = c.args.askers.items in
    let gives = c.into_iter-asker-iterator.ensures.into_iter_gives in
    let road = YieldsList-from_vec {s = c.into_iter-asker-iterator.result} all gives.0 (gives.1 ∙ c.args.askers.ok.0) in
    let end = YieldsList-end road c.loop-asker.yielded c.loop-asker.asker-iterator c.loop-asker.yielded_by c.next.result c.next.new.self c.in-None.is c.next.ensures.steps in
    all_made (arc_value c.args.system.now) c.loop-asker.oracles.items c.loop-asker.invariant.first (c.loop-asker.invariant.many ∙ end.1 ∙ c.requires.one_each)

use Rattle.std.proofs.Common.{◌≡◌, ◌<◌, ℕ, ◌+◌, List, [], ◌∷◌, ◌++◌, map, length, Some, slice_get, refl, sym, ap, ◌∙◌, subst, arith, length-append}
use Rattle.std.proofs.lemmas.Iterator.Adapters.{YieldsList-from_vec}
use Rattle.std.proofs.lemmas.Iterator.Consumers.{YieldsList-turn, YieldsList-end}
use Rattle.std.proofs.lemmas.List.{length-map}
use Rattle.std.proofs.lemmas.List.FromFn.{map-range_with_len_more}
use Rattle.std.proofs.lemmas.Option.{slice_get_read}
use Rattle.std.specs.Arc.{arc_value}
use Rattle.std.specs.List.{range_with_len}
use Rattle.mcs_system.specs.Faults.{IsValid}
use Rattle.mcs_system.specs.Plain.{System}
use Rattle.mcs_states.specs.Oracles.{OracleState}
use Rattle.mcs_check.specs.Certified.{AreAcceptedAnswers, certified_of, sets_of}
use Rattle.mcs_check.specs.Answers.{oracle_for}
use Rattle.mcs_check.proofs.OwnAnswers.{own_sets, own_right, own_in_order}
use Rattle.mcs_check.proofs.SortedAnswers.{same_answers, all_within}
use Rattle.mcs_check.proofs.oracles.oracles_of.Goals as goal

-- the list of the next context
own_there : (c : goal.After-oracles-in-loop-own-1) → (length c.loop-own.yielded < length c.in_ok-lists.lists.items) × (slice_get c.in_ok-lists.lists.items (length c.loop-own.yielded) ≡ Some c.in-Some.own)
own_there c =
    let lists = c.in_ok-lists.lists.items in
    let gives = c.into_iter-own-iterator.ensures.into_iter_gives in
    let road = YieldsList-from_vec {s = c.into_iter-own-iterator.result} lists gives.0 (gives.1 ∙ c.in_ok-lists.lists.ok.0) in
    let turn = YieldsList-turn road c.loop-own.yielded c.loop-own.own-iterator c.loop-own.yielded_by c.next.result c.next.new.self c.in-Some.own c.in-Some.is c.next.ensures.steps in
    (turn.0, slice_get_read lists (length lists) (length c.loop-own.yielded) c.in-Some.own refl turn.0 turn.1)

number : (c : goal.After-oracles-in-loop-own-1) → c.len-context.result ≡ length c.loop-own.yielded
number c = c.len-context.ensures ∙ (c.loop-own.oracles.ok.0 ∙ c.loop-own.invariant.many)

pub by_context-requires : goal.by_context-requires
by_context-requires c =
    let h = c.requires in
    let many : length c.contexts.result.now ≡ length (arc_value c.args.system.now).contexts = sym (length-map c.contexts.result.now _) ∙ (ap length c.contexts.ensures.value ∙ ap (λ (m : System). length m.contexts) c.deref.ensures) in
    all_within (arc_value c.args.system.now) h.first_line (length c.contexts.result.now) h.answers c.args.answers.items many h.stand_for h.right

pub new-requires-clause-context : goal.new-requires-clause-context
new-requires-clause-context c =
    let less = (own_there c).0 in
    let lists = c.in_ok-lists.ensures.many in
    let many : length c.contexts.result.now ≡ length (arc_value c.in_ok-shared.shared).contexts =
    sym (length-map c.contexts.result.now _) ∙ (ap length c.contexts.ensures.value ∙ ap (λ (m : System). length m.contexts) (c.deref.ensures ∙ sym c.in_ok-shared.ensures.cases)) in
    omega (arith, less, lists, many, number c)

pub new-requires-clause-right : goal.new-requires-clause-right
new-requires-clause-right c =
    let m : System = arc_value c.args.system.now in
    let h = c.requires in
    let i = length c.loop-own.yielded in
    let own = c.in-Some.own.items in
    let valid = subst (λ (m : System). IsValid m) c.deref.ensures c.contexts.ensures.valid in
    subst (λ (n : System). AreAcceptedAnswers n c.len-context.result own) (sym c.in_ok-shared.ensures.cases)
    (subst (λ (k : ℕ). AreAcceptedAnswers m k own) (sym (number c))
    (own_right m i h.answers own (c.in_ok-lists.ensures.own i c.in-Some.own (own_there c).1 ∙ same_answers m i h.first_line h.answers c.args.answers.items h.stand_for) valid h.right))

pub new-requires-clause-ascending : goal.new-requires-clause-ascending
new-requires-clause-ascending c =
    let m : System = arc_value c.args.system.now in
    let h = c.requires in
    let i = length c.loop-own.yielded in
    own_in_order m i h.answers c.in-Some.own.items (c.in_ok-lists.ensures.own i c.in-Some.own (own_there c).1 ∙ same_answers m i h.first_line h.answers c.args.answers.items h.stand_for) h.ascending

pub loop-own-preserved : goal.loop-own-preserved
loop-own-preserved c =
    let m : System = arc_value c.args.system.now in
    let i = length c.loop-own.yielded in
    let old = c.loop-own.oracles.items in
    let own = c.in-Some.own in
    let lists = c.in_ok-lists.lists.items in
    let gives = c.into_iter-own-iterator.ensures.into_iter_gives in
    let road = YieldsList-from_vec {s = c.into_iter-own-iterator.result} lists gives.0 (gives.1 ∙ c.in_ok-lists.lists.ok.0) in
    let turn = YieldsList-turn road c.loop-own.yielded c.loop-own.own-iterator c.loop-own.yielded_by c.next.result c.next.new.self own c.in-Some.is c.next.ensures.steps in
    let there : slice_get lists i ≡ Some own = slice_get_read lists (length lists) i own refl turn.0 turn.1 in
    let at : c.len-context.result ≡ i = c.len-context.ensures ∙ (c.loop-own.oracles.ok.0 ∙ c.loop-own.invariant.many) in
    let longer : length (c.loop-own.yielded ++ own ∷ []) ≡ i + 1 = length-append c.loop-own.yielded (own ∷ []) in
    let pushed : length c.push.new.self.items ≡ length old + 1 = ap length c.in_ok-push.ensures.items ∙ length-append old (c.new.result ∷ []) in
    record {
      many = pushed ∙ (ap (λ (k : ℕ). k + 1) c.loop-own.invariant.many ∙ sym longer);
      oracles = λ n as' are. (
          let oracle : ℕ → OracleState = oracle_for m as' in
          let sets = own_sets m i as' own.items (c.in_ok-lists.ensures.own i own there ∙ same_answers m i n as' c.args.answers.items are) in
          c.in_ok-push.ensures.items ∙ (ap (λ (os : List OracleState). os ++ c.new.result ∷ []) (c.loop-own.invariant.oracles n as' are)
          ∙ (ap (λ (o : OracleState). map oracle (range_with_len 0 i) ++ o ∷ [])
          (c.new.ensures ∙ (ap (λ (n : System). certified_of n c.len-context.result (sets_of own.items) []) c.in_ok-shared.ensures.cases
          ∙ (ap (λ (k : ℕ). certified_of m k (sets_of own.items) []) at ∙ ap (λ (sets : List ℕ). certified_of m i sets []) sets)))
          ∙ (sym (map-range_with_len_more oracle 0 i i (omega arith)) ∙ ap (λ (k : ℕ). map oracle (range_with_len 0 k)) (sym longer)))));
    }

pub returns-clause-oracles : goal.returns-clause-oracles
returns-clause-oracles c n as' are =
    let lists = c.in_ok-lists.lists.items in
    let gives = c.into_iter-own-iterator.ensures.into_iter_gives in
    let road = YieldsList-from_vec {s = c.into_iter-own-iterator.result} lists gives.0 (gives.1 ∙ c.in_ok-lists.lists.ok.0) in
    let end = YieldsList-end road c.loop-own.yielded c.loop-own.own-iterator c.loop-own.yielded_by c.next.result c.next.new.self c.in-None.is c.next.ensures.steps in
    let many : length c.contexts.result.now ≡ length (arc_value c.args.system.now).contexts = sym (length-map c.contexts.result.now _) ∙ (ap length c.contexts.ensures.value ∙ ap (λ (m : System). length m.contexts) c.deref.ensures) in
    c.loop-own.invariant.oracles n as' are ∙ ap (λ (k : ℕ). map (oracle_for (arc_value c.args.system.now) as') (range_with_len 0 k)) (end.1 ∙ (c.in_ok-lists.ensures.many ∙ many))

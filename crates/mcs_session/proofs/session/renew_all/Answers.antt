use Rattle.std.proofs.Common.{◌≡◌, ◌≤◌, ◌∙◌, ◌++◌, get_or, slice_get, Some, length, map, drop, refl, ap, arith}
use Rattle.std.proofs.lemmas.List.{append-nil, drop_all, take_all}
use Rattle.std.proofs.lemmas.Option.{slice_get-get_or}
use Rattle.std.proofs.lemmas.Result.{err_from_is_err_and}
use Rattle.std.specs.Arc.{arc_value}
use Rattle.mcs_base.proofs.Each.{all_get}
use Rattle.mcs_base.proofs.Mapped.{mapped_in_place}
use Rattle.mcs_base.proofs.Written.{set_back}
use Rattle.mcs_system.specs.Plain.{System}
use Rattle.mcs_states.specs.Oracles.{OracleState}
use Rattle.mcs_session.specs.Inside.{IsUnasked}
use Rattle.mcs_session.specs.Sessions.{of_system}
use Rattle.mcs_session.proofs.session.renew_all.Goals as goal

pub renew-requires-clause-same : goal.renew-requires-clause-same
renew-requires-clause-same g c =
    let m : System = arc_value c.args.system.now in
    let os = c.loop-oracle.oracles in
    let k = c.loop-oracle.oracle-index in
    let o : OracleState = get_or os k c.oracle-item.result in
    let at : slice_get os k ≡ Some o = slice_get-get_or os k c.oracle-item.result (let t = c.loop-oracle-test.true in let l = c.loop-oracle.auto.oracles in omega (arith, t, l)) in
    let first = (mapped_in_place (of_system m) c.args.oracles.now os k o (of_system m o) c.loop-oracle.invariant at refl).1 in
    ap (λ (n : System). n.contexts) c.in_ok-shared.ensures.cases ∙ (all_get (IsUnasked m) c.args.oracles.now k o c.requires first).same

pub renew-requires-clause-unasked : goal.renew-requires-clause-unasked
renew-requires-clause-unasked g c =
    let m : System = arc_value c.args.system.now in
    let os = c.loop-oracle.oracles in
    let k = c.loop-oracle.oracle-index in
    let o : OracleState = get_or os k c.oracle-item.result in
    let at : slice_get os k ≡ Some o = slice_get-get_or os k c.oracle-item.result (let t = c.loop-oracle-test.true in let l = c.loop-oracle.auto.oracles in omega (arith, t, l)) in
    let first = (mapped_in_place (of_system m) c.args.oracles.now os k o (of_system m o) c.loop-oracle.invariant at refl).1 in
    (all_get (IsUnasked m) c.args.oracles.now k o c.requires first).unasked

pub loop-oracle-preserved : goal.loop-oracle-preserved
loop-oracle-preserved g c =
    let m : System = arc_value c.args.system.now in
    let os = c.loop-oracle.oracles in
    let k = c.loop-oracle.oracle-index in
    let o : OracleState = get_or os k c.oracle-item.result in
    let at : slice_get os k ≡ Some o = slice_get-get_or os k c.oracle-item.result (let t = c.loop-oracle-test.true in let l = c.loop-oracle.auto.oracles in omega (arith, t, l)) in
    (mapped_in_place (of_system m) c.args.oracles.now os k o c.renew.new.self c.loop-oracle.invariant at (c.in_ok-renew.ensures.ok ∙ ap (λ (n : System). of_system n o) c.in_ok-shared.ensures.cases)).0

pub returns-in_err-shared-clause-err : goal.returns-in_err-shared-clause-err
returns-in_err-shared-clause-err g c =
    let os = c.loop-oracle.oracles in
    let k = c.loop-oracle.oracle-index in
    let o : OracleState = get_or os k c.oracle-item.result in
    let at : slice_get os k ≡ Some o = slice_get-get_or os k c.oracle-item.result (let t = c.loop-oracle-test.true in let l = c.loop-oracle.auto.oracles in omega (arith, t, l)) in
    let p = err_from_is_err_and c.from_residual.result c.from_residual.ensures.1 in
    rw (p.1) (record { some = k; is = set_back os k o o at refl ∙ c.loop-oracle.invariant })

pub returns-in_err-renew-clause-err : goal.returns-in_err-renew-clause-err
returns-in_err-renew-clause-err g c =
    let os = c.loop-oracle.oracles in
    let k = c.loop-oracle.oracle-index in
    let o : OracleState = get_or os k c.oracle-item.result in
    let at : slice_get os k ≡ Some o = slice_get-get_or os k c.oracle-item.result (let t = c.loop-oracle-test.true in let l = c.loop-oracle.auto.oracles in omega (arith, t, l)) in
    let p = err_from_is_err_and c.from_residual-in_err-renew.result c.from_residual-in_err-renew.ensures.1 in
    rw (p.1) (record { some = k; is = set_back os k o c.renew.new.self at c.in_err-renew.ensures.err ∙ c.loop-oracle.invariant })

pub returns-clause-ok : goal.returns-clause-ok
returns-clause-ok g c =
    let m : System = arc_value c.args.system.now in
    let first = c.args.oracles.now in
    let k = c.loop-oracle.oracle-index in
    let all : length first ≤ k = (let t = c.loop-oracle-test.false in let l = c.loop-oracle.auto.oracles in omega (arith, t, l)) in
    c.loop-oracle.invariant ∙ ap (λ xs. map (of_system m) xs ++ drop k first) (take_all k first all) ∙ ap (λ xs. map (of_system m) first ++ xs) (drop_all k first all) ∙ append-nil (map (of_system m) first)

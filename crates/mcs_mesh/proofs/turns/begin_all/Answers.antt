use Rattle.std.specs.List.{AllByRecursion}
use Rattle.mcs_base.proofs.Each.{all_read}
use Rattle.mcs_base.proofs.Mapped.{mapped_in_place}
use Rattle.std.proofs.lemmas.List.{append-nil, drop_all, take_all, get_or-append_right, get_or-drop, get_or_default, length-map, length-take-le}
use Rattle.std.proofs.Common.{◌≡◌, ◌∙◌, ap, get_or, slice_get, Some, arith, ◌++◌, map, drop, refl, ℕ, ◌+◌, ◌-◌, ◌<◌, ◌≤◌, List, length, take, sym, subst}
use Rattle.std.proofs.lemmas.Result.{err_from_is_err_and}
use Rattle.std.proofs.lemmas.Option.{slice_get-get_or}
use Rattle.mcs_node.specs.Nodes.{NodeData, begun_at}
use Rattle.mcs_mesh.specs.Players.{as_new, CanBegin}
use Rattle.mcs_mesh.proofs.turns.begin_all.Goals as goal
use Rattle.mcs_base.proofs.Written.{image_kept, set_back}

pub loop-node-preserved : goal.loop-node-preserved
loop-node-preserved g c =
    let nodes = c.loop-node.nodes in
    let k = c.loop-node.node-index in
    let d : NodeData = get_or nodes k c.node-item.result in
    let at : slice_get nodes k ≡ Some d = slice_get-get_or nodes k c.node-item.result (let t = c.loop-node-test.true in let l = c.loop-node.auto.nodes in omega (arith, t, l)) in record {
      begun = (mapped_in_place (begun_at c.args.level) c.args.nodes.now nodes k d c.begin.new.self c.loop-node.invariant.begun at c.in_ok-begin.ensures.begun).0;
      same = image_kept as_new nodes k d c.begin.new.self at (ap as_new c.in_ok-begin.ensures.begun) ∙ c.loop-node.invariant.same;
    }

pub returns-in_err-begin-clause-some : goal.returns-in_err-begin-clause-some
returns-in_err-begin-clause-some g c =
    let nodes = c.loop-node.nodes in
    let k = c.loop-node.node-index in
    let d : NodeData = get_or nodes k c.node-item.result in
    let at : slice_get nodes k ≡ Some d = slice_get-get_or nodes k c.node-item.result (let t = c.loop-node-test.true in let l = c.loop-node.auto.nodes in omega (arith, t, l)) in
    let p = err_from_is_err_and c.from_residual.result c.from_residual.ensures.1 in
    rw (p.1) (k, set_back nodes k d c.begin.new.self at c.in_err-begin.ensures.as_before ∙ c.loop-node.invariant.begun)

pub loop-node-init : goal.loop-node-init
loop-node-init g c = record { begun = refl; same = refl }

rest_at : (f : NodeData → NodeData) (k : ℕ) (xs : List NodeData) (e : NodeData) → k < length xs → get_or (map f (take k xs) ++ drop k xs) k e ≡ get_or xs k e
rest_at f k xs e less =
    let long : length (map f (take k xs)) ≡ k = length-map (take k xs) f ∙ length-take-le k xs (omega arith) in
    let back : k + (k - k) ≡ k = omega arith in
    get_or-append_right (map f (take k xs)) (drop k xs) k k e long (omega arith) ∙ get_or-drop k xs (k - k) e ∙ ap (λ (n : ℕ). get_or xs n e) back

begins : (level k : ℕ) (xs nodes : List NodeData) (e : NodeData) → k < length xs → nodes ≡ map (begun_at level) (take k xs) ++ drop k xs → AllByRecursion (CanBegin level) xs → CanBegin level (get_or nodes k e)
begins level k xs nodes e less so_far all =
    subst (CanBegin level) (sym (ap (λ (ns : List NodeData). get_or ns k e) so_far ∙ rest_at (begun_at level) k xs e less))
    (all_read (CanBegin level) xs k (get_or xs k e) less (get_or_default xs k e (get_or xs k e) less) all)

pub begin-requires-clause-going : goal.begin-requires-clause-going
begin-requires-clause-going g c =
    (begins c.args.level c.loop-node.node-index c.args.nodes.now c.loop-node.nodes c.node-item.result (let t = c.loop-node-test.true in let l = c.loop-node.auto.nodes in omega (arith, t, l)) c.loop-node.invariant.begun c.requires).going

pub begin-requires-clause-above : goal.begin-requires-clause-above
begin-requires-clause-above g c =
    (begins c.args.level c.loop-node.node-index c.args.nodes.now c.loop-node.nodes c.node-item.result (let t = c.loop-node-test.true in let l = c.loop-node.auto.nodes in omega (arith, t, l)) c.loop-node.invariant.begun c.requires).above

pub returns-in_err-begin-clause-same : goal.returns-in_err-begin-clause-same
returns-in_err-begin-clause-same g c =
    let nodes = c.loop-node.nodes in
    let k = c.loop-node.node-index in
    let d : NodeData = get_or nodes k c.node-item.result in
    let at : slice_get nodes k ≡ Some d = slice_get-get_or nodes k c.node-item.result (let t = c.loop-node-test.true in let l = c.loop-node.auto.nodes in omega (arith, t, l)) in
    image_kept as_new nodes k d c.begin.new.self at (ap as_new c.in_err-begin.ensures.as_before) ∙ c.loop-node.invariant.same

pub returns-clause-begun : goal.returns-clause-begun
returns-clause-begun g c =
    let nodes = c.args.nodes.now in
    let k = c.loop-node.node-index in
    let all : length nodes ≤ k = (let t = c.loop-node-test.false in let l = c.loop-node.auto.nodes in omega (arith, t, l)) in
    c.loop-node.invariant.begun
    ∙ ap (λ xs. map (begun_at c.args.level) xs ++ drop k nodes) (take_all k nodes all)
    ∙ ap (λ xs. map (begun_at c.args.level) nodes ++ xs) (drop_all k nodes all)
    ∙ append-nil (map (begun_at c.args.level) nodes)

pub returns-clause-same : goal.returns-clause-same
returns-clause-same g c = c.loop-node.invariant.same

use Rattle.std.proofs.Common.{◌≡◌, ℕ, List, Option, Some, is_some, slice_get, refl, subst, sym}
use Rattle.std.specs.Arc.{arc_value}
use Rattle.mcs_system.specs.Plain.{System}
use Rattle.mcs_system.specs.Imports.{IsImportOrder, supplied}
use Rattle.mcs_node.specs.Letters.{ContentData}
use Rattle.mcs_node.specs.Known.{knowledge_of}
use Rattle.mcs_node.specs.Nodes.{HasTaken, IsAwaited, NodeData}
use Rattle.mcs_node.specs.Keeping.{IsForRound, IsNode, TookIn, oracle_in}
use Rattle.mcs_node.specs.declared.round.InRound as code
use Rattle.mcs_node.proofs.BeginLemmas.{node_in}
use Rattle.mcs_node.proofs.HandlingLemmas.{awaited_back, awaited_from, round_now, taken_now}
use Rattle.mcs_node.proofs.TakingLemmas.{may_take, node_now}
use Rattle.mcs_node.proofs.node.Node.receive.Given as given
use Rattle.mcs_node.proofs.node.Node.receive.Goals as goal

pub returns-in_default-awaited-clause-took : goal.returns-in_default-awaited-clause-took
returns-in_default-awaited-clause-took g c = (
  λ e. absurd (cc),
  λ a.
      let n = c.self.inside in
      let o = oracle_in g.O.Oracle.stands n.oracle in
      let k = knowledge_of n.known in
      let here = subst (λ (z : Option code.InRound). IsAwaited c.args.letter (node_in (arc_value n.plan) n.context n.budget o n.receivers.items k n.before z)) c.in-Some.is (subst (λ (d : NodeData). IsAwaited c.args.letter d) (sym c.self.view_is) a) in
      let mine = awaited_back (arc_value n.plan) n.context n.budget o n.receivers.items k n.before c.in-Some.round c.args.letter here in
      absurd (c.in_default-awaited.ensures.none (subst (λ (m : System). IsForRound m n.context c.in-Some.round c.args.letter) (sym c.deref.ensures) mine)),
)

-- what is known once the letter was taken
mine : (g : given.Over) (c : goal.After-take_in g) → IsForRound (arc_value c.self.inside.plan) c.self.inside.context c.in-Some.round c.args.letter
mine g c = subst (λ (m : System). IsForRound m c.self.inside.context c.in-Some.round c.args.letter) c.deref.ensures c.in-Some-awaited.ensures.place.0

at_place : (g : given.Over) (c : goal.After-take_in g) (order : List ℕ) → IsImportOrder (arc_value c.self.inside.plan) order → slice_get (supplied (arc_value c.self.inside.plan) order c.self.inside.context) c.in-Some-awaited.place ≡ Some c.args.letter.from
at_place g c = subst (λ (m : System). (order : List ℕ) → IsImportOrder m order → slice_get (supplied m order c.self.inside.context) c.in-Some-awaited.place ≡ Some c.args.letter.from) c.deref.ensures c.in-Some-awaited.ensures.place.1

took : (g : given.Over) (c : goal.After-take_in g) → TookIn (arc_value c.self.inside.plan) c.self.inside.context c.in-Some-awaited.place c.args.letter.from c.args.letter.content c.in-Some.round c.take_in.new.round
took g c =
    let i = c.self.inside.context in
    let p = c.in-Some-awaited.place in
    subst (λ (m : System). TookIn m i p c.args.letter.from c.args.letter.content c.in-Some.round c.take_in.new.round) c.deref-2.ensures
    (subst (λ (j : ℕ). TookIn c.deref-2.result.now i p j c.args.letter.content c.in-Some.round c.take_in.new.round) c.from-from.ensures.from
    (subst (λ (x : ContentData). TookIn c.deref-2.result.now i p c.from-from.result x c.in-Some.round c.take_in.new.round) c.into_content-content.ensures.says c.take_in.ensures))

abbrev IsNodeWith : (g : given.Over) → goal.After-take_in g → Option code.InRound → Type 0
IsNodeWith g c round = let n = c.self.inside in IsNode (arc_value n.plan) n.context n.budget (oracle_in g.O.Oracle.stands n.oracle) (is_some n.oracle) n.receivers.items (knowledge_of n.known) n.before round

was : (g : given.Over) (c : goal.After-take_in g) → IsNodeWith g c (Some c.in-Some.round)
was g c = subst (λ (z : Option code.InRound). IsNodeWith g c z) c.in-Some.is c.self.invariant

pub invariant_of-self-2 : goal.invariant_of-self-2
invariant_of-self-2 g c =
    let n = c.self.inside in
    let m = arc_value n.plan in
    let o = oracle_in g.O.Oracle.stands n.oracle in
    let k = knowledge_of n.known in
    let l = c.args.letter in
    let p = c.in-Some-awaited.place in
    let playing = (was g c).playing in
    let may = may_take m n.context n.budget o n.receivers.items k n.before p c.in-Some.round l c.self.invariant.in_range playing (mine g c) c.into_content-content.ensures.truth (at_place g c) in
    node_now m n.context n.budget o n.receivers.items k n.before (is_some n.oracle) c.in-Some.round c.take_in.new.round (was g c)
    (round_now m n.context n.budget o n.receivers.items k n.before p l.from l.content c.in-Some.round c.take_in.new.round playing may (took g c))

pub returns-clause-took : goal.returns-clause-took
returns-clause-took g c = (
  λ _.
      let n = c.self.inside in
      let o = oracle_in g.O.Oracle.stands n.oracle in
      let k = knowledge_of n.known in
      subst (λ (d : NodeData). IsAwaited c.args.letter d) c.self.view_is
      (subst (λ (z : Option code.InRound). IsAwaited c.args.letter (node_in (arc_value n.plan) n.context n.budget o n.receivers.items k n.before z)) (sym c.in-Some.is)
      (awaited_from (arc_value n.plan) n.context n.budget o n.receivers.items k n.before c.in-Some.round c.args.letter c.from-from.ensures.fits (mine g c))),
  λ _. refl,
)

pub returns-clause-taken : goal.returns-clause-taken
returns-clause-taken g c _ =
    let n = c.self.inside in
    let m = arc_value n.plan in
    let o = oracle_in g.O.Oracle.stands n.oracle in
    let k = knowledge_of n.known in
    let l = c.args.letter in
    let now = node_in m n.context n.budget o n.receivers.items k n.before (Some c.take_in.new.round) in
    let playing = (was g c).playing in
    let may = may_take m n.context n.budget o n.receivers.items k n.before c.in-Some-awaited.place c.in-Some.round l c.self.invariant.in_range playing (mine g c) c.into_content-content.ensures.truth (at_place g c) in
    subst (λ (d : NodeData). HasTaken l d now) c.self.view_is
    (subst (λ (z : Option code.InRound). HasTaken l (node_in m n.context n.budget o n.receivers.items k n.before z) now) (sym c.in-Some.is)
    (taken_now m n.context n.budget o n.receivers.items k n.before c.in-Some-awaited.place c.in-Some.round c.take_in.new.round l playing (mine g c) (took g c) may.fits))

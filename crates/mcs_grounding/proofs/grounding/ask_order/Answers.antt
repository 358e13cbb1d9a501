use Rattle.std.proofs.Common.{◌≡◌, ◌<◌, ◌≤◌, ◌^◌, ◌∙◌, ◌∷◌, ◌++◌, ℕ, List, [], length, map, sym, ap, subst, arith, Some, slice_get, slice_index_or}
use Rattle.mcs_sets.specs.Sets.{minus, single, size, Within}
use Rattle.mcs_sets.proofs.Lattice.{size-none, none_from_size, size-without, minus_within, minus-none}
use Rattle.mcs_base.proofs.Lists.{slice_get-map_at}
use Rattle.mcs_system.specs.Plain.{Default}
use Rattle.mcs_system.specs.Seen.{default_of}
use Rattle.mcs_trace.specs.Clauses.{ClauseList}
use Rattle.mcs_cnf.specs.ClauseLists.{with_formulas}
use Rattle.mcs_cnf.specs.Entailments.{entailment_of}
use Rattle.std.proofs.lemmas.List.{map_push, length-map}
use Rattle.mcs_base.proofs.Mapped.{image_each_at}
use Rattle.mcs_base.proofs.SetParts.{minus_is_less, minus_below}
use Rattle.mcs_evidence.specs.Defaults.{IsEntailmentShown, AreDenied}
use Rattle.mcs_grounding.specs.Theories.{consequents}
use Rattle.mcs_evidence.specs.Theories.{IsOverDefault}
use Rattle.mcs_grounding.specs.Told.{IsToldNext, IsNextInRange, AreDefaultNumbers, prerequisites}
use Rattle.mcs_cnf.proofs.GrowingLemmas.{grown_room, none-with, grown_more}
use Rattle.mcs_grounding.proofs.OrderLemmas.{numbers-none, numbers-more, derived-start, derived-more, derived-all, same_default, stuck}
use Rattle.mcs_grounding.proofs.grounding.ask_order.Goals as goal

pub loop-defaults-init : goal.loop-defaults-init
loop-defaults-init c = record {
  part = λ k member. member;
  grown = ([], sym (none-with c.args.theory.now.asked.now.atoms.now c.args.known.now));
  numbers = numbers-none c.args.set c.none-order.result.numbers.items c.none-order.ensures.numbers;
  derived = λ fs is. derived-start c.args.theory.now.asked.now.atoms.now fs (map (λ d. default_of d.now) c.args.theory.now.defaults.now) c.args.set c.none-order.result.numbers.items c.none-order.result.pres.items c.args.known.now c.none-order.ensures.numbers c.none-order.ensures.pres is;
}

pub ask_next-requires : goal.ask_next-requires
ask_next-requires c = record { room = grown_room c.args.theory.now.asked.now.atoms.now c.args.known.now c.loop-defaults.known c.loop-defaults.invariant.grown c.requires.room }

pub push_formula-requires-clause-over : goal.push_formula-requires-clause-over
push_formula-requires-clause-over c =
    let found = subst (IsNextInRange (length c.args.theory.now.defaults.now) c.loop-defaults.left) c.in-Supported.is c.in_ok-index.ensures.in_range in
    (image_each_at (IsOverDefault c.args.theory.now.asked.now.atoms.now) (λ d. default_of d.now) c.args.theory.now.defaults.now c.in-Supported.index c.index-defaults-index.result found.0 c.args.theory.now.over).2

pub push_formula-requires-clause-room : goal.push_formula-requires-clause-room
push_formula-requires-clause-room c = subst (λ (x : ClauseList). length c.args.theory.now.asked.now.atoms.now ≤ x.vars) (sym c.in_ok-index.ensures.kept)
    (grown_room c.args.theory.now.asked.now.atoms.now c.args.known.now c.loop-defaults.known c.loop-defaults.invariant.grown c.requires.room)

pub loop-defaults-smaller : goal.loop-defaults-smaller
loop-defaults-smaller c =
    let found = subst (IsNextInRange (length c.args.theory.now.defaults.now) c.loop-defaults.left) c.in-Supported.is c.in_ok-index.ensures.in_range in
    omega (arith, size-without c.loop-defaults.left c.in-Supported.index found.1, ap size c.without-left.ensures)

pub loop-defaults-preserved : goal.loop-defaults-preserved
loop-defaults-preserved c =
    let names = c.args.theory.now.asked.now.atoms.now in
    let set = c.args.set in
    let left = c.loop-defaults.left in
    let k = c.in-Supported.index in
    let x = slice_index_or c.args.theory.now.defaults.now k c.index-defaults-index.result in
    let d : Default = default_of x.now in
    let before = c.loop-defaults.invariant in
    let found = subst (IsNextInRange (length c.args.theory.now.defaults.now) left) c.in-Supported.is c.in_ok-index.ensures.in_range in
    let pushed : c.push_formula.new.cnf ≡ with_formulas names c.loop-defaults.known (d.conclusion ∷ []) =
    c.in_ok-push_formula-in-Supported.ensures.ok ∙ ap (λ (y : ClauseList). with_formulas names y (d.conclusion ∷ [])) c.in_ok-index.ensures.kept in
    rw c.without-left.ensures (record {
      part = λ j member. before.part j (minus_within left (single k) j member);
      grown = grown_more names c.args.known.now c.loop-defaults.known c.push_formula.new.cnf d.conclusion before.grown pushed;
      numbers = numbers-more set left k c.loop-defaults.order.numbers.items c.push.new.self.numbers.items (before.part k found.1) found.1 c.in_ok-push-in-Supported.ensures.numbers before.numbers;
      derived = λ fs is. (let derived = before.derived fs is in
          let at : slice_get (map (λ d. default_of d.now) c.args.theory.now.defaults.now) k ≡ Some d = slice_get-map_at (λ d. default_of d.now) c.args.theory.now.defaults.now k c.index-defaults-index.result found.0 in
          let told = subst (IsToldNext names derived.formulas (map (λ d. default_of d.now) c.args.theory.now.defaults.now) left) c.in-Supported.is (c.in_ok-index.ensures.told derived.formulas derived.clauses) in
          let shown = subst (λ (d' : Default). IsEntailmentShown names derived.formulas d'.pre (entailment_of c.in-Supported.pre)) (same_default (map (λ d. default_of d.now) c.args.theory.now.defaults.now) k told.0 d told.1 at) told.2 in
          derived-more names fs (map (λ d. default_of d.now) c.args.theory.now.defaults.now) set left k d c.loop-defaults.order.numbers.items c.push.new.self.numbers.items (map entailment_of c.loop-defaults.order.pres.items) (map entailment_of c.push.new.self.pres.items) (entailment_of c.in-Supported.pre) c.loop-defaults.known c.push_formula.new.cnf
          at (image_each_at (IsOverDefault names) (λ d. default_of d.now) c.args.theory.now.defaults.now k c.index-defaults-index.result found.0 c.args.theory.now.over).2 c.in_ok-push-in-Supported.ensures.numbers
          (ap (map entailment_of) c.in_ok-push-in-Supported.ensures.pres ∙ map_push entailment_of c.loop-defaults.order.pres.items c.in-Supported.pre) pushed derived shown);
    })

pub overflow_cast-closed : goal.overflow_cast-closed
overflow_cast-closed c =
    let is : c.number-closed.result ≡ minus c.args.set c.loop-defaults.left = c.number-closed.ensures ∙ c.minus.ensures in
    let small : minus c.args.set c.loop-defaults.left < 2 ^ 10 = minus_below c.args.set c.loop-defaults.left (length (map (λ d. default_of d.now) c.args.theory.now.defaults.now)) 10 (omega (arith, length-map c.args.theory.now.defaults.now (λ d. default_of d.now), c.args.theory.now.few_defaults)) c.requires.set in
    omega arith

pub returns-in-Stuck-clause-told : goal.returns-in-Stuck-clause-told
returns-in-Stuck-clause-told c fs is =
    let names = c.args.theory.now.asked.now.atoms.now in
    let set = c.args.set in
    let left = c.loop-defaults.left in
    let ds : List Default = map (λ d. default_of d.now) c.args.theory.now.defaults.now in
    let derived = c.loop-defaults.invariant.derived fs is in
    let told = subst (IsToldNext names derived.formulas ds left) c.in-Stuck.is (c.in_ok-index.ensures.told derived.formulas derived.clauses) in
    let some : ¬ (left ≡ 0) = λ none. (let empty : size left ≡ 0 = ap (λ (s : ℕ). size s) none ∙ size-none in absurd (omega (arith, c.count.ensures.number, c.loop-defaults-test.true))) in
    subst (λ (s : ℕ). Within s set × (¬ (s ≡ set)) × AreDenied names (fs ++ consequents ds s) (prerequisites ds (minus set s)) (map entailment_of c.in-Stuck.denied.items)) (sym (c.number-closed.ensures ∙ c.minus.ensures)) (
      minus_within set left,
      minus_is_less set left c.loop-defaults.invariant.part some,
      stuck names fs ds set left c.loop-defaults.order.numbers.items (map entailment_of c.loop-defaults.order.pres.items) (map entailment_of c.in-Stuck.denied.items) c.loop-defaults.known c.loop-defaults.invariant.part derived told,
    )

pub returns-clause-told : goal.returns-clause-told
returns-clause-told c fs is =
    let set = c.args.set in
    let none : c.loop-defaults.left ≡ 0 = none_from_size c.loop-defaults.left (omega (arith, c.count.ensures.number, c.loop-defaults-test.false)) in
    let all : minus set c.loop-defaults.left ≡ set = ap (minus set) none ∙ minus-none set in (
      subst (λ (s : ℕ). AreDefaultNumbers s c.loop-defaults.order.numbers.items) all c.loop-defaults.invariant.numbers,
      λ items same. derived-all c.args.theory.now.asked.now.atoms.now fs (map (λ d. default_of d.now) c.args.theory.now.defaults.now) (minus set c.loop-defaults.left) c.loop-defaults.order.numbers.items (map entailment_of c.loop-defaults.order.pres.items) c.loop-defaults.known (c.loop-defaults.invariant.derived fs is) items same,
    )

use Rattle.std.proofs.Common.{◌≡◌, ◌∙◌, [], ◌∷◌, get_or, refl, ap, arith}
use Rattle.mcs_base.proofs.Booleans.{false_tells, true_tells}
use Rattle.mcs_system.specs.Plain.{Default}
use Rattle.mcs_system.specs.Seen.{default_of}
use Rattle.mcs_trace.specs.Clauses.{ClauseList}
use Rattle.mcs_cnf.specs.ClauseLists.{with_formulas}
use Rattle.mcs_cnf.proofs.ListLemmas.{room_kept}
use Rattle.mcs_cnf.proofs.GrowingLemmas.{room_known, grown_more, grown_none}
use Rattle.mcs_evidence.specs.Defaults.{facts_of}
use Rattle.mcs_asked.specs.Questions.{theory_names, theory_defaults, theory_items}
use Rattle.mcs_asked.proofs.QuestionLemmas.{defaults_over}
use Rattle.std.proofs.lemmas.Bool.{iff_false}
use Rattle.mcs_extensions.proofs.OrderLemmas.{derives_start, derives_none, derives_off, derives_on, derives_end, derives_short}
use Rattle.mcs_extensions.proofs.VerdictLemmas.{numbered_over}
use Rattle.mcs_extensions.proofs.order.derives.Goals as goal

pub returns-then-order-pres-clause-exact : goal.returns-then-order-pres-clause-exact
returns-then-order-pres-clause-exact c =
    let t = c.args.theory.now in
    false_tells (derives_short (theory_names t) (theory_items t) (facts_of (theory_items t)) c.args.order.now c.args.pres.now c.if-order-pres.true)

pub returns-then-order-pres-clause-grown : goal.returns-then-order-pres-clause-grown
returns-then-order-pres-clause-grown c = grown_none (theory_names c.args.theory.now) c.args.known.now

pub loop-index-init : goal.loop-index-init
loop-index-init c =
    let t = c.args.theory.now in
    let fs = facts_of (theory_items t) in
    record {
      room = room_known (theory_names t) c.args.known.now fs c.requires;
      grown = grown_none (theory_names t) c.args.known.now;
      rest = derives_start (theory_names t) (theory_items t) fs c.args.order.now c.args.pres.now c.args.known.now c.requires;
    }

pub returns-in_default-clause-exact : goal.returns-in_default-clause-exact
returns-in_default-clause-exact c =
    let t = c.args.theory.now in
    false_tells (derives_none (theory_names t) (theory_items t) (theory_defaults t) t.are (facts_of (theory_items t)) c.args.order.now c.args.pres.now c.loop-index.known c.loop-index.index (get_or c.args.order.now c.loop-index.index 0) c.index-pres-index.result
    c.loop-index-test.true (omega arith) refl c.index-pres-index.is c.loop-index.invariant.rest c.in_default.ensures)

pub shows-requires-clause-goal : goal.shows-requires-clause-goal
shows-requires-clause-goal c =
    let t = c.args.theory.now in
    (numbered_over (theory_names t) (theory_defaults t) (get_or c.args.order.now c.loop-index.index 0) (default_of c.in-Some.default.now) (defaults_over t) c.in-Some.ensures).0

pub returns-then-not-shown-clause-exact : goal.returns-then-not-shown-clause-exact
returns-then-not-shown-clause-exact c =
    let t = c.args.theory.now in
    let before = c.loop-index.invariant.rest in
    false_tells (derives_off (theory_names t) (theory_items t) (theory_defaults t) t.are (facts_of (theory_items t)) c.args.order.now c.args.pres.now c.loop-index.known c.loop-index.index (get_or c.args.order.now c.loop-index.index 0) c.index-pres-index.result
    c.loop-index-test.true (omega arith) refl c.index-pres-index.is before (default_of c.in-Some.default.now) c.in-Some.ensures (iff_false (c.in_ok-shown.ensures.exact before.formulas before.clauses) c.if-not-shown.true))

pub push_formula-requires-clause-over : goal.push_formula-requires-clause-over
push_formula-requires-clause-over c =
    let t = c.args.theory.now in
    (numbered_over (theory_names t) (theory_defaults t) (get_or c.args.order.now c.loop-index.index 0) (default_of c.in-Some.default.now) (defaults_over t) c.in-Some.ensures).2

pub loop-index-preserved : goal.loop-index-preserved
loop-index-preserved c =
    let t = c.args.theory.now in
    let names = theory_names t in
    let d : Default = default_of c.in-Some.default.now in
    let before = c.loop-index.invariant in
    let kept : c.shows.new.known ≡ c.loop-index.known = c.in_ok-shown.ensures.kept in
    let pushed : c.push_formula.new.cnf ≡ with_formulas names c.loop-index.known (d.conclusion ∷ []) = c.in_ok-push_formula.ensures.ok ∙ ap (λ (x : ClauseList). with_formulas names x (d.conclusion ∷ [])) kept in
    record {
      room = room_kept names c.loop-index.known c.push_formula.new.cnf d.conclusion before.room pushed;
      grown = grown_more names c.args.known.now c.loop-index.known c.push_formula.new.cnf d.conclusion before.grown pushed;
      rest = derives_on names (theory_items t) (theory_defaults t) t.are (facts_of (theory_items t)) c.args.order.now c.args.pres.now c.loop-index.known c.loop-index.index (get_or c.args.order.now c.loop-index.index 0) c.index-pres-index.result
          c.loop-index-test.true (omega arith) refl c.index-pres-index.is before.rest d c.push_formula.new.cnf c.in-Some.ensures ((c.in_ok-shown.ensures.exact before.rest.formulas before.rest.clauses).0 c.if-not-shown.false) pushed;
    }

pub returns-clause-exact : goal.returns-clause-exact
returns-clause-exact c =
    let t = c.args.theory.now in
    true_tells (derives_end (theory_names t) (theory_items t) (facts_of (theory_items t)) c.args.order.now c.args.pres.now c.loop-index.known c.loop-index.index c.loop-index-test.false c.if-order-pres.false c.loop-index.invariant.rest)

use Rattle.std.proofs.Common.{List, [], ◌∷◌, map, IsTrue, ◌↔◌, subst}
use Rattle.std.proofs.lemmas.Bool.{iff_false}
use Rattle.std.proofs.lemmas.Result.{IfOk-weaker}
use Rattle.mcs_base.proofs.Booleans.{false_tells, iff_trans}
use Rattle.mcs_system.specs.Plain.{Formula, Default}
use Rattle.mcs_system.specs.Seen.{default_of, formula_of}
use Rattle.mcs_cnf.specs.Entailments.{Entailment, entailment_of}
use Rattle.mcs_cnf.proofs.GrowingLemmas.{room_known}
use Rattle.mcs_evidence.specs.Defaults.{generated, negated_justs, IsEntailmentShown, AreDenied}
use Rattle.mcs_asked.specs.Questions.{theory_names, theory_defaults, theory_items}
use Rattle.mcs_asked.proofs.QuestionLemmas.{defaults_over}
use Rattle.mcs_extensions.proofs.VerdictLemmas.{applied_inside, applied_none, applied_unshown, applied_iff, numbered_over}
use Rattle.mcs_extensions.proofs.verdict.has_applied.Goals as goal

pub returns-then-is_member-clause-exact : goal.returns-then-is_member-clause-exact
returns-then-is_member-clause-exact c =
    let t = c.args.theory.now in
    false_tells (applied_inside (theory_names t) (theory_items t) c.args.set (theory_defaults t) t.are c.args.told.now.number (entailment_of c.args.told.now.pre.now) (map entailment_of c.args.told.now.justs.now) (c.is_member.ensures.exact.0 c.if-is_member.true))

pub returns-in_default-clause-exact : goal.returns-in_default-clause-exact
returns-in_default-clause-exact c =
    let t = c.args.theory.now in
    false_tells (applied_none (theory_names t) (theory_items t) c.args.set (theory_defaults t) t.are c.args.told.now.number (entailment_of c.args.told.now.pre.now) (map entailment_of c.args.told.now.justs.now) c.in_default.ensures)

pub shows-requires-clause-goal : goal.shows-requires-clause-goal
shows-requires-clause-goal c =
    let t = c.args.theory.now in
    (numbered_over (theory_names t) (theory_defaults t) c.args.told.now.number (default_of c.in-Some.default.now) (defaults_over t) c.in-Some.ensures).0

pub shows-requires-clause-room : goal.shows-requires-clause-room
shows-requires-clause-room c = room_known (theory_names c.args.theory.now) c.args.known.now (map (λ f. formula_of f.now) c.args.premises.now) c.requires.made

pub returns-then-not-shown-clause-exact : goal.returns-then-not-shown-clause-exact
returns-then-not-shown-clause-exact c =
    let t = c.args.theory.now in
    let d : Default = default_of c.in-Some.default.now in
    let pre : Entailment = entailment_of c.args.told.now.pre.now in
    false_tells (applied_unshown (theory_names t) (theory_items t) c.args.set (theory_defaults t) t.are c.args.told.now.number pre (map entailment_of c.args.told.now.justs.now) d c.in-Some.ensures
    (subst (λ (fs : List Formula). ¬ IsEntailmentShown (theory_names t) fs d.pre pre) c.requires.are (iff_false (c.in_ok-shown.ensures.exact (map (λ f. formula_of f.now) c.args.premises.now) c.requires.made) c.if-not-shown.true)))

pub returns-clause-exact : goal.returns-clause-exact
returns-clause-exact c = IfOk-weaker c.allow.result _ _ (λ yes told. (
    let t = c.args.theory.now in
    let d : Default = default_of c.in-Some.default.now in
    let pre : Entailment = entailment_of c.args.told.now.pre.now in
    let justs : List Entailment = map entailment_of c.args.told.now.justs.now in
    let shown : IsEntailmentShown (theory_names t) (generated (theory_items t) c.args.set) d.pre pre =
    subst (λ (fs : List Formula). IsEntailmentShown (theory_names t) fs d.pre pre) c.requires.are ((c.in_ok-shown.ensures.exact (map (λ f. formula_of f.now) c.args.premises.now) c.requires.made).0 c.if-not-shown.false) in
    let here : IsTrue yes ↔ AreDenied (theory_names t) (generated (theory_items t) c.args.set) (negated_justs (d ∷ [])) justs =
    subst (λ (fs : List Formula). IsTrue yes ↔ AreDenied (theory_names t) fs (negated_justs (d ∷ [])) justs) c.requires.are told in
    iff_trans here (applied_iff (theory_names t) (theory_items t) c.args.set (theory_defaults t) t.are c.args.told.now.number pre justs d c.in-Some.ensures (iff_false c.is_member.ensures.exact c.if-is_member.false) shown))) c.allow.ensures

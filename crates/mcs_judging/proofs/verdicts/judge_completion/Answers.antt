use Rattle.std.proofs.Common.{◌≡◌, ◌∙◌, ◌↔◌, IsTrue, ℕ, List, true, map, length, refl, sym, ap, subst, arith}
use Rattle.std.proofs.lemmas.List.Elements.{recursion_from_All}
use Rattle.mcs_sets.specs.Sets.{members, minus, such_that}
use Rattle.mcs_sets.proofs.Lattice.{all_places_are}
use Rattle.mcs_system.specs.Plain.{Formula, Default}
use Rattle.mcs_system.specs.Seen.{default_of, formula_of}
use Rattle.mcs_evidence.specs.Defaults.{defaults_of, defaults_at, defaults_in, all_defaults, negated_justs, AreDenied}
use Rattle.mcs_extensions.specs.Checks.{AreAbsent}
use Rattle.mcs_proof_lines.specs.Verdicts.{terms_of, all_places}
use Rattle.mcs_asked.specs.Questions.{theory_names, theory_beliefs, theory_items}
use Rattle.mcs_proof_lines.proofs.Justs.{counted}
use Rattle.mcs_judging.proofs.Places.{as_many_justs}
use Rattle.mcs_judging.proofs.Readings.{told_err}
use Rattle.mcs_judging.proofs.VerdictLemmas.{completion_first, completion_second, completion_third, completion_read, completion_told}
use Rattle.mcs_judging.proofs.verdicts.judge_completion.Goals as goal

pub chosen-requires : goal.chosen-requires
chosen-requires c = omega (arith, c.args.reading.now.theory.now.few_defaults)

pub places-requires : goal.places-requires
places-requires c = c.args.reading.now.few_justs

pub judge_absences-requires-clause-places : goal.judge_absences-requires-clause-places
judge_absences-requires-clause-places c = recursion_from_All _ _ c.members-others.ensures.below

pub returns-in_err-allowed-clause-exact : goal.returns-in_err-allowed-clause-exact
returns-in_err-allowed-clause-exact c =
    let names = theory_names c.args.reading.now.theory.now in
    let items = theory_items c.args.reading.now.theory.now in
    let beliefs : List Formula = theory_beliefs c.args.reading.now.theory.now in
    let t = terms_of c.args.reading.now.terms.now in
    let chosen : List Default = map (λ d. default_of d.now) c.deref.result.now in
    let inside : chosen ≡ defaults_in items c.args.set = ap (map (λ d. default_of d.now)) c.deref.ensures.value ∙ c.in_ok-inside.ensures ∙ ap (λ (xs : List Default). defaults_at 0 xs c.args.set) c.args.reading.now.theory.now.are in
    let many = as_many_justs chosen items t.justs c.args.set inside c.args.reading.now.justs c.requires.inside in
    told_err _ _ _ _ _ c.from_residual-in_err-allowed.ensures.1
    (completion_first t names items beliefs c.args.set c.args.lines.now (length (negated_justs chosen)) many (members (minus (all_places t) c.args.set)) refl (length c.args.reading.now.theory.now.asked.now.beliefs.now) (sym c.args.reading.now.beliefs) _ c.in_err-allowed.ensures)

pub returns-in_err-absent-clause-exact : goal.returns-in_err-absent-clause-exact
returns-in_err-absent-clause-exact c =
    let names = theory_names c.args.reading.now.theory.now in
    let items = theory_items c.args.reading.now.theory.now in
    let beliefs : List Formula = theory_beliefs c.args.reading.now.theory.now in
    let t = terms_of c.args.reading.now.terms.now in
    let chosen : List Default = map (λ d. default_of d.now) c.deref.result.now in
    let inside : chosen ≡ defaults_in items c.args.set = ap (map (λ d. default_of d.now)) c.deref.ensures.value ∙ c.in_ok-inside.ensures ∙ ap (λ (xs : List Default). defaults_at 0 xs c.args.set) c.args.reading.now.theory.now.are in
    let many = as_many_justs chosen items t.justs c.args.set inside c.args.reading.now.justs c.requires.inside in
    let places : c.members-others.result ≡ members (minus (all_places t) c.args.set) = c.members-others.ensures.list ∙ ap members (c.minus.ensures ∙ ap (λ (s : ℕ). minus s c.args.set) c.places.ensures) in
    let h = c.in_ok-allowed.ensures in
    told_err _ _ _ _ _ c.from_residual-in_err-absent.ensures.1
    (completion_second t names items beliefs c.args.set c.args.lines.now (length (negated_justs chosen)) many c.members-others.result places (length c.args.reading.now.theory.now.asked.now.beliefs.now) (sym c.args.reading.now.beliefs) h.value c.judge_justs.new.lines h.is _ c.in_err-absent.ensures.exact)

pub returns-in_err-view-clause-exact : goal.returns-in_err-view-clause-exact
returns-in_err-view-clause-exact c =
    let names = theory_names c.args.reading.now.theory.now in
    let items = theory_items c.args.reading.now.theory.now in
    let beliefs : List Formula = theory_beliefs c.args.reading.now.theory.now in
    let t = terms_of c.args.reading.now.terms.now in
    let chosen : List Default = map (λ d. default_of d.now) c.deref.result.now in
    let inside : chosen ≡ defaults_in items c.args.set = ap (map (λ d. default_of d.now)) c.deref.ensures.value ∙ c.in_ok-inside.ensures ∙ ap (λ (xs : List Default). defaults_at 0 xs c.args.set) c.args.reading.now.theory.now.are in
    let many = as_many_justs chosen items t.justs c.args.set inside c.args.reading.now.justs c.requires.inside in
    let places : c.members-others.result ≡ members (minus (all_places t) c.args.set) = c.members-others.ensures.list ∙ ap members (c.minus.ensures ∙ ap (λ (s : ℕ). minus s c.args.set) c.places.ensures) in
    let h = c.in_ok-allowed.ensures in
    let h' = c.in_ok-absent.ensures.exact in
    told_err _ _ _ _ _ c.from_residual-in_err-view.ensures.1
    (completion_third t names items beliefs c.args.set c.args.lines.now (length (negated_justs chosen)) many c.members-others.result places (length c.args.reading.now.theory.now.asked.now.beliefs.now) (sym c.args.reading.now.beliefs) h.value c.judge_justs.new.lines h.is h'.value c.judge_absences.new.lines h'.is _ c.in_err-view.ensures.exact)

pub returns-clause-exact : goal.returns-clause-exact
returns-clause-exact c =
    let names = theory_names c.args.reading.now.theory.now in
    let items = theory_items c.args.reading.now.theory.now in
    let beliefs : List Formula = theory_beliefs c.args.reading.now.theory.now in
    let fs : List Formula = map (λ f. formula_of f.now) c.args.premises.now in
    let t = terms_of c.args.reading.now.terms.now in
    let chosen : List Default = map (λ d. default_of d.now) c.deref.result.now in
    let inside : chosen ≡ defaults_in items c.args.set = ap (map (λ d. default_of d.now)) c.deref.ensures.value ∙ c.in_ok-inside.ensures ∙ ap (λ (xs : List Default). defaults_at 0 xs c.args.set) c.args.reading.now.theory.now.are in
    let many = as_many_justs chosen items t.justs c.args.set inside c.args.reading.now.justs c.requires.inside in
    let places : c.members-others.result ≡ members (minus (all_places t) c.args.set) = c.members-others.ensures.list ∙ ap members (c.minus.ensures ∙ ap (λ (s : ℕ). minus s c.args.set) c.places.ensures) in
    let all : all_places t ≡ all_defaults items = all_places_are (length t.justs) ∙ ap (λ (n : ℕ). such_that n (λ k. true)) (counted (defaults_of items) t.justs c.args.reading.now.justs) in
    let h = c.in_ok-allowed.ensures in
    let h' = c.in_ok-absent.ensures.exact in
    let v = c.in_ok-view.ensures.exact in
    let allowed : IsTrue c.in_ok-allowed.allowed ↔ AreDenied names fs (negated_justs (defaults_in items c.args.set)) h.value =
    subst (λ (xs : List Default). IsTrue c.in_ok-allowed.allowed ↔ AreDenied names fs (negated_justs xs) h.value) inside h.right in
    let absent : IsTrue c.in_ok-absent.absent ↔ AreAbsent names items fs (members (minus (all_defaults items) c.args.set)) h'.value =
    subst (λ (ks : List ℕ). IsTrue c.in_ok-absent.absent ↔ AreAbsent names items fs ks h'.value) (places ∙ ap (λ (s : ℕ). members (minus s c.args.set)) all) h'.right in
    completion_read t names items beliefs c.args.set c.args.lines.now (length (negated_justs chosen)) many c.members-others.result places (length c.args.reading.now.theory.now.asked.now.beliefs.now) (sym c.args.reading.now.beliefs) h.value c.judge_justs.new.lines h.is h'.value c.judge_absences.new.lines h'.is
    fs c.shown_if-2.result c.judge_places.new.lines v.value v.is
    (rw (c.shown_if-2.ensures, c.shown_if.ensures) (completion_told names items beliefs c.args.set fs (h.value, h'.value, v.value) c.in_ok-allowed.allowed c.in_ok-absent.absent c.in_ok-view.view allowed absent v.fits))

use Rattle.std.proofs.Common.{◌≡◌, ◌∙◌, ℕ, List, map, sym, ap, true≢false, arith}
use Rattle.std.proofs.lemmas.Bool.{eq-eqb}
use Rattle.mcs_sets.specs.Sets.{minus}
use Rattle.mcs_system.specs.Plain.{Default}
use Rattle.mcs_system.specs.Seen.{default_of, formula_of}
use Rattle.mcs_cnf.specs.Entailments.{entailment_of}
use Rattle.mcs_evidence.specs.Defaults.{defaults_at, defaults_in, generated}
use Rattle.mcs_asked.specs.Questions.{theory_names, theory_defaults, theory_items}
use Rattle.mcs_extensions.proofs.VerdictLemmas.{ungrounded_iff}
use Rattle.mcs_extensions.proofs.verdict.is_ungrounded.Goals as goal

pub chosen-requires : goal.chosen-requires
chosen-requires c = omega (arith, c.args.theory.now.few_defaults)

pub returns : goal.returns
returns c =
    let t = c.args.theory.now in
    let part : ℕ = c.numbered-part.result in
    let premises : map (λ f. formula_of f.now) c.deref-2.result.now ≡ generated (theory_items t) part = ap (map (λ f. formula_of f.now)) c.deref-2.ensures.value ∙ c.in_ok-premises.ensures in
    let others : map (λ d. default_of d.now) c.deref.result.now ≡ defaults_in (theory_items t) (minus c.args.set part) =
    ap (map (λ d. default_of d.now)) c.deref.ensures.value ∙ c.in_ok-others.ensures ∙ ap (defaults_at 0 (theory_defaults t)) c.minus.ensures ∙ ap (λ (ds : List Default). defaults_at 0 ds (minus c.args.set part)) t.are in
    let goals : map (λ f. formula_of f.now) c.deref-3.result.now ≡ map (λ (d : Default). d.pre) (defaults_in (theory_items t) (minus c.args.set part)) =
    ap (map (λ f. formula_of f.now)) c.deref-3.ensures.value ∙ c.in_ok-goals.ensures ∙ ap (map (λ (d : Default). d.pre)) others in
    ungrounded_iff (theory_names t) (theory_items t) c.args.set c.args.closed part (map (λ f. formula_of f.now) c.deref-2.result.now) (map (λ f. formula_of f.now) c.deref-3.result.now) (map entailment_of c.args.pres.now) c.deny.result
    (c.numbered-part.ensures ∙ c.from.ensures) (c.within.ensures.0 c.if-not-within.false) (λ e. true≢false (sym (c.eq.ensures ∙ eq-eqb part c.args.set e) ∙ c.if-eq.false)) premises goals c.deny.ensures

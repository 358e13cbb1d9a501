use Rattle.std.proofs.Common.{◌≡◌, ◌∙◌, ◌++◌, List, map, sym, ap}
use Rattle.std.proofs.lemmas.List.{map-append}
use Rattle.mcs_system.specs.Plain.{Formula}
use Rattle.mcs_system.specs.Seen.{formula_of, item_of}
use Rattle.mcs_evidence.specs.Defaults.{facts_of}
use Rattle.mcs_evidence.proofs.TheoryLemmas.{facts_with}
use Rattle.mcs_asked.specs.Questions.{theory_items}
use Rattle.mcs_extensions.proofs.theory.generated.Goals as goal

pub returns : goal.returns
returns c =
    let t = c.args.theory.now in
    let facts : map (λ f. formula_of f.now) c.in_ok-formulas.formulas.items ≡ facts_of (theory_items t) = c.in_ok-formulas.ensures ∙ sym (facts_with (map item_of t.items.now) (map (λ f. formula_of f.now) t.heads.now)) in
    ap (map (λ f. formula_of f.now)) c.in_ok-extend_from_slice.ensures.items ∙ map-append (λ f. formula_of f.now) c.in_ok-formulas.formulas.items c.deref.result.now
    ∙ ap (λ (fs : List Formula). fs ++ map (λ f. formula_of f.now) c.deref.result.now) facts ∙ ap (λ (fs : List Formula). facts_of (theory_items t) ++ fs) (ap (map (λ f. formula_of f.now)) c.deref.ensures.value ∙ c.in_ok-more.ensures)

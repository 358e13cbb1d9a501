use Rattle.std.proofs.Common.{◌∙◌, map, ap, sym, subst}
use Rattle.mcs_system.specs.Seen.{formula_of}
use Rattle.mcs_cnf.specs.ClauseLists.{AreOver}
use Rattle.mcs_evidence.specs.Defaults.{defaults_of}
use Rattle.mcs_evidence.proofs.TheoryLemmas.{over_defaults, consequents_over}
use Rattle.mcs_asked.specs.Questions.{theory_names, theory_items}
use Rattle.mcs_extensions.proofs.theory.push_added.Goals as goal

pub push_all-requires-clause-over : goal.push_all-requires-clause-over
push_all-requires-clause-over c =
    let t = c.args.theory.now in
    subst (AreOver (theory_names t)) (sym (ap (map (λ f. formula_of f.now)) c.deref.ensures.value ∙ c.in_ok-more.ensures))
    (consequents_over (theory_names t) 0 (defaults_of (theory_items t)) c.args.set (over_defaults (theory_names t) (theory_items t) t.over))

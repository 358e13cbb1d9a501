-- What a default theory that is asked keeps of its defaults.
use Rattle.std.proofs.Common.{◌∙◌, length, sym, subst, ap, ◌≡◌}
use Rattle.std.proofs.lemmas.List.{length-map}
use Rattle.mcs_system.specs.Seen.{default_of}
use Rattle.mcs_evidence.specs.Defaults.{defaults_of}
use Rattle.mcs_evidence.specs.Theories.{AreOverDefaults}
use Rattle.mcs_evidence.proofs.TheoryLemmas.{over_defaults}
use Rattle.mcs_asked.specs.declared.theory.AskedTheory as theory
use Rattle.mcs_asked.specs.Questions.{theory_names, theory_defaults, theory_items}

pub defaults_over : (t : theory.AskedTheory) → AreOverDefaults (theory_names t) (theory_defaults t)
defaults_over t = subst (AreOverDefaults (theory_names t)) (sym t.are) (over_defaults (theory_names t) (theory_items t) t.over)

pub defaults_counted : (t : theory.AskedTheory) → length t.defaults.now ≡ length (defaults_of (theory_items t))
defaults_counted t = sym (length-map t.defaults.now (λ d. default_of d.now)) ∙ ap length t.are

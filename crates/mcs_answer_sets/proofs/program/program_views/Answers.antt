use Rattle.std.proofs.Common.{◌≡◌, ◌∙◌, ◌++◌, Bor, ℕ, List, length, map, sym, ap, subst, arith}
use Rattle.std.proofs.lemmas.List.{length-map}
use Rattle.std.proofs.lemmas.Result.{IfOk-weaker}
use Rattle.std.specs.List.{filter_map}
use Rattle.std.specs.Prelude.{MatchOption}
use Rattle.mcs_system.specs.Plain.{Name, Atom, Formula, ProgramRule}
use Rattle.mcs_system.specs.Logic.{fact_of}
use Rattle.mcs_system.specs.Seen.{formula_of, rule_of}
use Rattle.mcs_evidence.specs.Programs.{program_shown_of, AreOverRules, IsAcceptedProgram}
use Rattle.mcs_asking.proofs.AnswerLemmas.{with_heads_over, names_over}
use Rattle.mcs_answer_sets.proofs.program.program_views.Goals as goal

pub invariant_of-program : goal.invariant_of-program
invariant_of-program c =
    let names = c.args.asked.now.atoms.now in
    let asked : map Atom (map (λ b. b.now) c.deref-2.result.now) ≡ map (λ f. formula_of f.now) c.args.asked.now.beliefs.now = ap (λ (ns : List (Bor Name)). map Atom (map (λ b. b.now) ns)) c.deref-2.ensures.value ∙ c.in_ok-names.ensures in
    record {
      few = c.args.asked.now.few;
      few_beliefs = omega (arith, ap length asked, length-map (map (λ b. b.now) c.deref-2.result.now) Atom, length-map c.deref-2.result.now (λ b. b.now), length-map c.args.asked.now.beliefs.now (λ f. formula_of f.now), c.args.asked.now.few_beliefs);
      over = subst (AreOverRules names) (sym (ap (map rule_of) c.deref.ensures.value ∙ c.in_ok-all.ensures)) (with_heads_over names (map rule_of c.args.rules.now) (map (λ f. formula_of f.now) c.args.heads.now) c.requires.rules c.requires.heads);
      names = names_over names (map (λ b. b.now) c.deref-2.result.now) (map (λ f. formula_of f.now) c.args.asked.now.beliefs.now) asked c.args.asked.now.over;
    }

pub returns : goal.returns
returns c = IfOk-weaker c.views_of_rules-shown.result _ _ (λ shown told. (
    let rules : map rule_of c.deref.result.now ≡ map rule_of c.args.rules.now ++ filter_map fact_of (map (λ f. formula_of f.now) c.args.heads.now) = ap (map rule_of) c.deref.ensures.value ∙ c.in_ok-all.ensures in
    let beliefs : map Atom (map (λ b. b.now) c.deref-2.result.now) ≡ map (λ f. formula_of f.now) c.args.asked.now.beliefs.now = ap (λ (ns : List (Bor Name)). map Atom (map (λ b. b.now) ns)) c.deref-2.ensures.value ∙ c.in_ok-names.ensures in
    subst (λ (rs : List ProgramRule). MatchOption shown ((views : List ℕ) → ¬ IsAcceptedProgram c.args.asked.now.atoms.now rs (map (λ f. formula_of f.now) c.args.asked.now.beliefs.now) views (program_shown_of c.args.cert.now)) (λ views. IsAcceptedProgram c.args.asked.now.atoms.now rs (map (λ f. formula_of f.now) c.args.asked.now.beliefs.now) views.items (program_shown_of c.args.cert.now))) rules
    (subst (λ (bs : List Formula). MatchOption shown ((views : List ℕ) → ¬ IsAcceptedProgram c.args.asked.now.atoms.now (map rule_of c.deref.result.now) bs views (program_shown_of c.args.cert.now)) (λ views. IsAcceptedProgram c.args.asked.now.atoms.now (map rule_of c.deref.result.now) bs views.items (program_shown_of c.args.cert.now))) beliefs told))) c.views_of_rules-shown.ensures

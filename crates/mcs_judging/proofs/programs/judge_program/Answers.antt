use Rattle.std.proofs.Common.{◌≡◌, ◌∙◌, ◌++◌, Bor, List, length, map, sym, ap, subst, arith}
use Rattle.std.proofs.lemmas.List.{length-map}
use Rattle.std.specs.List.{filter_map}
use Rattle.mcs_system.specs.Plain.{Name, Atom, Formula, ProgramRule}
use Rattle.mcs_system.specs.Logic.{fact_of}
use Rattle.mcs_system.specs.Seen.{formula_of, rule_of}
use Rattle.mcs_evidence.specs.Programs.{AreOverRules, IsAcceptedProgram}
use Rattle.mcs_asking.proofs.AnswerLemmas.{with_heads_over, names_over}
use Rattle.mcs_proof_lines.specs.Programs.{program_at}
use Rattle.mcs_judging.specs.Judging.{Tells, AreViewsOf}
use Rattle.mcs_judging.proofs.programs.judge_program.Goals as goal

pub invariant_of-program : goal.invariant_of-program
invariant_of-program c =
    let asked = c.args.named.now.asked.now in
    let beliefs : map Atom (map (λ b. b.now) c.deref-2.result.now) ≡ map (λ f. formula_of f.now) asked.beliefs.now = ap (λ (ns : List (Bor Name)). map Atom (map (λ b. b.now) ns)) c.deref-2.ensures.value ∙ c.in_ok-names.ensures in
    record {
      few = asked.few;
      few_beliefs = omega (arith, asked.few_beliefs, ap length beliefs, length-map (map (λ b. b.now) c.deref-2.result.now) Atom, length-map c.deref-2.result.now (λ b. b.now), length-map asked.beliefs.now (λ f. formula_of f.now));
      over = subst (AreOverRules asked.atoms.now) (sym (ap (map rule_of) c.deref.ensures.value ∙ c.in_ok-all.ensures))
          (with_heads_over asked.atoms.now (map rule_of c.args.rules.now) (map (λ f. formula_of f.now) c.args.heads.now) c.requires.rules c.requires.heads);
      names = names_over asked.atoms.now (map (λ b. b.now) c.deref-2.result.now) (map (λ f. formula_of f.now) asked.beliefs.now) beliefs asked.over;
    }

pub returns : goal.returns
returns c =
    let asked = c.args.named.now.asked.now in
    let rules : map rule_of c.deref.result.now ≡ map rule_of c.args.rules.now ++ filter_map fact_of (map (λ f. formula_of f.now) c.args.heads.now) = ap (map rule_of) c.deref.ensures.value ∙ c.in_ok-all.ensures in
    let beliefs : map Atom (map (λ b. b.now) c.deref-2.result.now) ≡ map (λ f. formula_of f.now) asked.beliefs.now = ap (λ (ns : List (Bor Name)). map Atom (map (λ b. b.now) ns)) c.deref-2.ensures.value ∙ c.in_ok-names.ensures in
    subst (λ (rs : List ProgramRule). Tells (AreViewsOf (IsAcceptedProgram asked.atoms.now rs (map (λ f. formula_of f.now) asked.beliefs.now))) c.judge_asked-judged.result c.judge_asked-judged.new.lines (program_at c.args.named.now.texts.now c.args.count c.args.lines.now)) rules
    (subst (λ (bs : List Formula). Tells (AreViewsOf (IsAcceptedProgram asked.atoms.now (map rule_of c.deref.result.now) bs)) c.judge_asked-judged.result c.judge_asked-judged.new.lines (program_at c.args.named.now.texts.now c.args.count c.args.lines.now)) beliefs
    c.judge_asked-judged.ensures)

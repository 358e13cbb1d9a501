-- The clauses that say that sets of atoms have support, rule by rule.
use Rattle.std.proofs.Common.{◌≡◌, ℕ, ◌<◌, ◌≤◌, true, false, List, ◌∷◌, map, filter, length, drop, get_or, ◌+◌, refl, ap, ◌∙◌, Option}
use Rattle.mcs_system.specs.Plain.{Name, Formula, ProgramRule}
use Rattle.mcs_system.specs.Seen.{rule_of}
use Rattle.mcs_system.specs.declared.knowledge.ProgRule as code
use Rattle.mcs_trace.specs.Clauses.{ClauseList}
use Rattle.mcs_base.proofs.Mapped.{map-drop_more}
use Rattle.mcs_evidence.specs.Pushing.{IsVariablePart, HasDisjunction}
use Rattle.mcs_evidence.specs.Supports.{may_support, outside_formula}
use Rattle.mcs_evidence.proofs.ProgramClauses.{AreLeftOver}
use Rattle.mcs_evidence.proofs.PushingLemmas.{IsJoining}

-- of these rules, those that may support the set
abbrev pub outsides : List Name → List code.ProgRule → List Formula
outsides u rules = map (outside_formula u) (filter (may_support u) (map rule_of rules))

-- the code's loop over the rules
pub record IsSupporting (names u : List Name) (rules : List code.ProgRule) (first : ClauseList) (i : ℕ) (c : ClauseList) (o : Option ℕ) : Type 0 where
  pub grows : first.vars ≤ c.vars
  pub over : AreLeftOver names rules i
  pub part : IsVariablePart c o
  pub joined : IsJoining (λ gs p. HasDisjunction names gs first c p) (outsides u rules) (outsides u (drop i rules)) o

pub outsides_more : (u : List Name) (rules : List code.ProgRule) (i : ℕ) (r : code.ProgRule) → i < length rules → r ≡ get_or rules i r → may_support u (rule_of r) ≡ true
    → outsides u (drop i rules) ≡ outside_formula u (rule_of r) ∷ outsides u (drop (i + 1) rules)
outsides_more u rules i r less is may = ap (λ (rs : List ProgramRule). map (outside_formula u) (filter (may_support u) rs)) (map-drop_more rule_of rules i r less is) ∙ kept (map rule_of (drop (i + 1) rules))
  where
    kept : (rs : List ProgramRule) → map (outside_formula u) (filter (may_support u) (rule_of r ∷ rs)) ≡ outside_formula u (rule_of r) ∷ map (outside_formula u) (filter (may_support u) rs)
    kept rs = rw may refl

pub outsides_skipped : (u : List Name) (rules : List code.ProgRule) (i : ℕ) (r : code.ProgRule) → i < length rules → r ≡ get_or rules i r → may_support u (rule_of r) ≡ false
    → outsides u (drop i rules) ≡ outsides u (drop (i + 1) rules)
outsides_skipped u rules i r less is not_so = ap (λ (rs : List ProgramRule). map (outside_formula u) (filter (may_support u) rs)) (map-drop_more rule_of rules i r less is) ∙ left (map rule_of (drop (i + 1) rules))
  where
    left : (rs : List ProgramRule) → map (outside_formula u) (filter (may_support u) (rule_of r ∷ rs)) ≡ map (outside_formula u) (filter (may_support u) rs)
    left rs = rw not_so refl

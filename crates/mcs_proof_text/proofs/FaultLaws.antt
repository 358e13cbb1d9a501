-- Faults of reports: a text that spells a report has none, and a text has one first fault at most.
use Rattle.std.proofs.Common.{◌≡◌, ℕ, ◌+◌, ◌-◌, ◌<◌, ◌≤◌, List, ◌++◌, length, take, ◌∙◌, subst, arith, inl, inr, ◌⊎◌, append_assoc}
use Rattle.std.proofs.lemmas.Bool.{cases_lt}
use Rattle.mcs_base.proofs.Written.{take_front}
use Rattle.mcs_system.specs.Plain.{System}
use Rattle.mcs_spelling.specs.Lines.{complete_lines}
use Rattle.mcs_proof_text.specs.Reports.{BeginsReport, IsFirstLineFault, SpelledReportsHaveNoFault, ReportsHaveOneFault}

-- a front of what begins a report begins one
pub front_begins : (m : System) (front rest : List (List ℕ)) → BeginsReport m (front ++ rest) → BeginsReport m front
front_begins m front rest h = record { listing = h.listing; answers = h.answers; report = h.report; rest = rest ++ h.rest; front = h.front ∙ append_assoc front rest h.rest }

shorter : (m : System) (j k : ℕ) (xs : List (List ℕ)) → j ≤ k → BeginsReport m (take k xs) → BeginsReport m (take j xs)
shorter m j k xs less h = let t = take_front j k xs less in front_begins m (take j xs) t.0 (subst (BeginsReport m) t.1 h)

not_before : (m : System) (bytes : List ℕ) (j k : ℕ) → IsFirstLineFault m bytes j → IsFirstLineFault m bytes k → j < k → ⊥
not_before m bytes j k f g less = at f.there
  where
    at : (j ≡ length (complete_lines bytes) + 1) ⊎ (¬ BeginsReport m (take j (complete_lines bytes))) → ⊥
    at (inl past) = let w = g.within in omega (arith, w, past)
    at (inr refused) = refused (shorter m j (k - 1) (complete_lines bytes) (omega arith) g.before)

pub one_fault : ReportsHaveOneFault
one_fault m bytes j k f g = elim (cases_lt j k) [
  | inl less ↦ absurd (not_before m bytes j k f g less)
  | inr more ↦ elim (cases_lt k j) [ inl less ↦ absurd (not_before m bytes k j g f less) | inr less ↦ omega arith ]
]

pub no_fault : SpelledReportsHaveNoFault
no_fault m bytes l as' line spells f = f.none l as' spells

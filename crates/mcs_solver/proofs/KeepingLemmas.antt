-- Certificates of what a context accepts, and what solvers of the same context keep.
use Rattle.std.proofs.Common.{◌≡◌, ℕ, Bool, true, false, cond, List, [], ◌∷◌, map, slice_get, Some, None, refl, ap, subst}
use Rattle.std.specs.BTreeMap.{BTreeMap}
use Rattle.std.specs.Prelude.{Option}
use Rattle.mcs_system.specs.Plain.{Context, System}
use Rattle.mcs_system.specs.Atoms.{atoms_of}
use Rattle.mcs_system.specs.Logic.{with_heads}
use Rattle.mcs_system.specs.Systems.{variables_of, heads_into}
use Rattle.mcs_system.specs.Views.{at_places, beliefs_at}
use Rattle.mcs_asking.specs.Certificates.{IsAccepted, IsAcceptedFor}
use Rattle.mcs_asking.specs.declared.certificate.AnswerCert as code
use Rattle.mcs_states.specs.Oracles.{OracleState, with_journal}
use Rattle.mcs_keeping.specs.Certified.{IsCertified}
use Rattle.mcs_keeping.specs.Keeping.{AreAnswersKept}
use Rattle.mcs_keeping.specs.declared.keeping.Kept.{Kept}
use Rattle.mcs_solver.specs.Solvers.{solver_with}

-- ---- what is shown of a context
pub certified_there : (m : System) (i x : ℕ) (d : Context) (wanted : Bool) (views parts : List ℕ) (cert : Option code.AnswerCert) → slice_get m.contexts i ≡ Some d → parts ≡ map (at_places (variables_of m i)) views
    → IsCertified wanted (IsAcceptedFor (atoms_of m i) (with_heads d.kb (heads_into m i x)) (beliefs_at m (variables_of m i)) views) cert → IsCertified wanted (IsAccepted m i x parts) cert
certified_there m i x d wanted views parts None there same h = h
certified_there m i x d wanted views parts (Some cert) there same h = (h.0, record { context = d; is_it = there; views = views; shown = h.1; outputs_are = same })

-- ---- solvers of the same context
-- two that keep their answers alike, where they have one origin
same_keeping : (a b : Bool) → ◌≡◌ {A = List (List ℕ)} (cond a ([] ∷ []) []) (cond b ([] ∷ []) []) → a ≡ b
same_keeping true true same = refl
same_keeping true false same = cc
same_keeping false true same = cc
same_keeping false false same = refl

-- what holds of the context of the other holds of the own
pub of_own : (P : System → ℕ → Type 0) (keep keep' : Bool) (m m' : System) (i i' : ℕ) (journal journal' : List ℕ) → with_journal [] (solver_with keep' m' i' journal') ≡ with_journal [] (solver_with keep m i journal) → P m' i' → P m i
of_own P keep keep' m m' i i' journal journal' same holds =
    subst (λ (k : ℕ). P m k) (ap (λ (o : OracleState). o.context) same) (subst (λ (n : System). P n i') (ap (λ (o : OracleState). o.system) same) holds)

-- what the other has kept is kept of the own context too
pub kept_alike : (keep keep' : Bool) (m m' : System) (i i' : ℕ) (journal journal' : List ℕ) (kept : BTreeMap ℕ Kept) → with_journal [] (solver_with keep' m' i' journal') ≡ with_journal [] (solver_with keep m i journal)
    → AreAnswersKept m' i' keep' journal' kept → AreAnswersKept m i keep journal' kept
kept_alike keep keep' m m' i i' journal journal' kept same are =
    subst (λ (b : Bool). AreAnswersKept m i b journal' kept) (same_keeping keep' keep (ap (λ (o : OracleState). o.origin) same))
    (of_own (λ (n : System) (k : ℕ). AreAnswersKept n k keep' journal' kept) keep keep' m m' i i' journal journal' same are)

-- A text without faults says a valid system.
use Rattle.std.proofs.Common.{◌≡◌, false, List, [], ◌∷◌, None, refl, ap}
use Rattle.std.specs.List.{AllByRecursion}
use Rattle.mcs_base.proofs.Booleans.{cond_none}
use Rattle.mcs_system.specs.Plain.{System}
use Rattle.mcs_system.specs.declared.limit.Limit.{Limit}
use Rattle.mcs_system.specs.Faults.{has_unknown_context, has_twin_names, has_misfits, exceeds, first_exceeded, limits, limit_fault, fault, fault_of, IsValid}
use Rattle.mcs_grammar.specs.Written.{WrittenText, IsText}
use Rattle.mcs_grammar.specs.Entries.{text_entries, uses_of}
use Rattle.mcs_grammar.specs.Saying.{SaysSystem}
use Rattle.mcs_faults.proofs.Within.{IsWithin, NoFaults}
use Rattle.mcs_faults.proofs.ValidNames.{no-unknown, no-twins}
use Rattle.mcs_faults.proofs.ValidMisfits.{no-misfits}
use Rattle.mcs_faults.proofs.ValidCounts.{few-contexts, few-bridges, few-rules, few-defaults, few-items, light-rules}
use Rattle.mcs_faults.proofs.ValidSizes.{no-large}
use Rattle.mcs_faults.proofs.ValidReads.{few-variables, few-inputs}
use Rattle.mcs_faults.proofs.ValidAtoms.{few-atoms}

module _ (m : System) where
  none-exceeded : (ls : List Limit) → AllByRecursion (λ (l : Limit). exceeds m l ≡ false) ls → first_exceeded m ls ≡ None
  none-exceeded [] none = refl
  none-exceeded (l ∷ ls) none = cond_none (exceeds m l) l (first_exceeded m ls) none.0 (none-exceeded ls none.1)

  no-fault : has_unknown_context m ≡ false → has_twin_names m ≡ false → has_misfits m ≡ false → first_exceeded m limits ≡ None → IsValid m
  unfolding fault_of
  no-fault known apart fitting limited =
      cond_none (has_unknown_context m) (fault 2 None) _ known
      (cond_none (has_twin_names m) (fault 3 None) _ apart
      (cond_none (has_misfits m) (fault 4 None) _ fitting
      (ap limit_fault limited)))

pub valid-text : (t : WrittenText) (m : System) → IsText t → SaysSystem t m → IsWithin (uses_of (text_entries t)) → NoFaults (text_entries t) → IsValid m
valid-text t m grammar says within none =
    no-fault m (no-unknown t m says) (no-twins t m says within) (no-misfits t m grammar says none)
    (none-exceeded m limits (
      few-contexts t m says within,
      (
        few-bridges t m says within,
        (
          few-rules t m says within,
          (
            few-variables t m says within,
            (
              few-inputs t m says within,
              (
                few-atoms t m says within,
                (
                  few-defaults t m says within,
                  (
                    few-items t m says within grammar,
                    (light-rules t m says within none, (no-large t none m says, tt)),
                  ),
                ),
              ),
            ),
          ),
        ),
      ),
    ))

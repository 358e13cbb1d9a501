-- Which fault is told, by the tests in their order.
use Rattle.std.proofs.Common.{◌≡◌, ℕ, ◌<◌, ◌≤◌, Bool, true, false, cond, ltb, List, [], ◌∷◌, ◌++◌, length, Option, Some, None, Result, Ok, Err, refl, sym, ap, ◌∙◌, subst, inl, inr, arith}
use Rattle.std.proofs.lemmas.List.{length-map}
use Rattle.std.proofs.lemmas.Bool.Decides.{nat_tests}
use Rattle.std.specs.Result.{IfErr, IsErrAnd}
use Rattle.mcs_system.specs.declared.fault.BuildFault.{BuildFault}
use Rattle.mcs_system.specs.declared.fault.BuildFault.TheVariants as code
use Rattle.mcs_system.specs.declared.fault.Flaw.{Flaw}
use Rattle.mcs_system.specs.declared.fault.Flaw.TheVariants.{UnknownContext, TwinNames, Misfits}
use Rattle.mcs_system.specs.declared.limit.Limit.{Limit}
use Rattle.mcs_system.specs.declared.limit.Limit.TheVariants.{Contexts, Bridges, RulesPerContext, Variables, InputsPerContext, AtomsPerContext}
use Rattle.mcs_system.specs.Plain.{System}
use Rattle.mcs_system.specs.Systems.{variables}
use Rattle.mcs_system.specs.Faults.{has_unknown_context, has_twin_names, has_misfits, exceeds, first_exceeded, limits, Fault, fault, limit_fault, fault_of, IsValid}
use Rattle.mcs_system.specs.declared.bridge.Bridge as code_bridge
use Rattle.mcs_system.specs.declared.parts.KnownReads.{KnownReads}
use Rattle.mcs_system.specs.declared.build.Built as code_built
use Rattle.mcs_system.specs.declared.knowledge.Context as code_context
use Rattle.mcs_system.specs.Seen.{system_of}
use Rattle.mcs_system.specs.Naming.{IsSystemNamed}
use Rattle.mcs_system.specs.Built.{flaw_number, first_flaw, first_limits, variable_limits, last_limits, IsFaultOf, PassesFirst, PassesVariables, AreFewReads, IsBuiltOf, IsSystemOf, made_of}
use Rattle.mcs_system.specs.Gathered.{IsLimitDue}
use Rattle.mcs_system.proofs.ValidLemmas.{tests_pass, limit_kept}

-- ---- what is no limit
abbrev flaw_by : Bool → Bool → Bool → Option Flaw
flaw_by a b c = cond a (Some UnknownContext) (cond b (Some TwinNames) (cond c (Some Misfits) None))

abbrev fault_by : Bool → Bool → Bool → Option Fault → Option Fault
fault_by a b c rest = cond a (Some (fault 2 None)) (cond b (Some (fault 3 None)) (cond c (Some (fault 4 None)) rest))

none_lower : (a b c : Bool) (rest : Option Fault) → flaw_by a b c ≡ None → fault_by a b c rest ≡ rest
none_lower true b c rest e = cc
none_lower false true c rest e = cc
none_lower false false true rest e = cc
none_lower false false false rest e = refl

told : (x y : Flaw) → Some x ≡ Some y → Some (fault (flaw_number x) None) ≡ Some (fault (flaw_number y) None)
told x y e = let same : x ≡ y = cc in ap (λ z. Some (fault (flaw_number z) None)) same

some_lower : (a b c : Bool) (rest : Option Fault) (flaw : Flaw) → flaw_by a b c ≡ Some flaw → fault_by a b c rest ≡ Some (fault (flaw_number flaw) None)
some_lower true b c rest flaw e = told UnknownContext flaw e
some_lower false true c rest flaw e = told TwinNames flaw e
some_lower false false true rest flaw e = told Misfits flaw e
some_lower false false false rest flaw e = cc

pub flaw_told : (m : System) (flaw : Flaw) → first_flaw m ≡ Some flaw → fault_of m ≡ Some (fault (flaw_number flaw) None)
unfolding fault_of
flaw_told m flaw e = some_lower (has_unknown_context m) (has_twin_names m) (has_misfits m) _ flaw e

no_flaw : (m : System) → first_flaw m ≡ None → fault_of m ≡ limit_fault (first_exceeded m limits)
unfolding fault_of
no_flaw m e = none_lower (has_unknown_context m) (has_twin_names m) (has_misfits m) _ e

-- ---- the limits
kept_before : (m : System) (xs ys : List Limit) → first_exceeded m xs ≡ None → first_exceeded m (xs ++ ys) ≡ first_exceeded m ys
kept_before m [] ys e = refl
kept_before m (x ∷ xs) ys e = at (exceeds m x) e (kept_before m xs ys)
  where
    at : (v : Bool) → cond v (Some x) (first_exceeded m xs) ≡ None → (first_exceeded m xs ≡ None → first_exceeded m (xs ++ ys) ≡ first_exceeded m ys) → cond v (Some x) (first_exceeded m (xs ++ ys)) ≡ first_exceeded m ys
    at true e rest = cc
    at false e rest = rest e

exceeded_before : (m : System) (xs ys : List Limit) (l : Limit) → first_exceeded m xs ≡ Some l → first_exceeded m (xs ++ ys) ≡ Some l
exceeded_before m [] ys l e = cc
exceeded_before m (x ∷ xs) ys l e = at (exceeds m x) e (exceeded_before m xs ys l)
  where
    at : (v : Bool) → cond v (Some x) (first_exceeded m xs) ≡ Some l → (first_exceeded m xs ≡ Some l → first_exceeded m (xs ++ ys) ≡ Some l) → cond v (Some x) (first_exceeded m (xs ++ ys)) ≡ Some l
    at true e rest = e
    at false e rest = rest e

pub limit_told : (m : System) (l : Limit) → first_flaw m ≡ None → first_exceeded m first_limits ≡ Some l → fault_of m ≡ Some (fault 5 (Some l))
limit_told m l none e = no_flaw m none ∙ ap limit_fault (exceeded_before m first_limits (variable_limits ++ last_limits) l e)

after_first : (m : System) → PassesFirst m → fault_of m ≡ limit_fault (first_exceeded m (variable_limits ++ last_limits))
after_first m first = no_flaw m first.flaws ∙ ap limit_fault (kept_before m first_limits (variable_limits ++ last_limits) first.limits)

many_variables : (m : System) → 64 < length (variables m) → exceeds m Variables ≡ true
unfolding exceeds
many_variables m many = grind (arith, nat_tests)

few_variables : (m : System) → length (variables m) ≤ 64 → exceeds m Variables ≡ false
unfolding exceeds
few_variables m few = grind (arith, nat_tests)

pub few_contexts_first : (m : System) → PassesFirst m → (length m.contexts ≤ 64) × (length m.bridges ≤ 64)
unfolding exceeds
few_contexts_first m first = at (ltb 64 (length m.contexts)) refl (ltb 64 (length m.bridges)) refl first.limits
  where
    at : (u : Bool) → ltb 64 (length m.contexts) ≡ u → (v : Bool) → ltb 64 (length m.bridges) ≡ v → cond u (Some Contexts) (cond v (Some Bridges) (cond (exceeds m RulesPerContext) (Some RulesPerContext) None)) ≡ None → (length m.contexts ≤ 64) × (length m.bridges ≤ 64)
    at true is v is' e = cc
    at false is true is' e = cc
    at false is false is' e = (grind (arith, nat_tests), grind (arith, nat_tests))

pub variables_told : (m : System) → PassesFirst m → 64 < length (variables m) → fault_of m ≡ Some (fault 5 (Some Variables))
variables_told m first many = after_first m first ∙ rw (many_variables m many) refl

pub inputs_told : (m : System) → PassesFirst m → length (variables m) ≤ 64 → exceeds m InputsPerContext ≡ true → fault_of m ≡ Some (fault 5 (Some InputsPerContext))
inputs_told m first few e = after_first m first ∙ rw (few_variables m few, e) refl

pub atoms_told : (m : System) → PassesFirst m → length (variables m) ≤ 64 → exceeds m InputsPerContext ≡ false → exceeds m AtomsPerContext ≡ true → fault_of m ≡ Some (fault 5 (Some AtomsPerContext))
atoms_told m first few e e' = after_first m first ∙ rw (few_variables m few, e, e') refl

after_variables : (m : System) → PassesFirst m → first_exceeded m variable_limits ≡ None → fault_of m ≡ limit_fault (first_exceeded m last_limits)
after_variables m first none = after_first m first ∙ ap limit_fault (kept_before m variable_limits last_limits none)

pub last_told : (m : System) (l : Limit) → PassesFirst m → first_exceeded m variable_limits ≡ None → first_exceeded m last_limits ≡ Some l → fault_of m ≡ Some (fault 5 (Some l))
last_told m l first none last = after_variables m first none ∙ ap limit_fault last

pub none_told : (m : System) → PassesFirst m → first_exceeded m variable_limits ≡ None → first_exceeded m last_limits ≡ None → IsValid m
none_told m first none last = after_variables m first none ∙ ap limit_fault last

pub within_variables : (m : System) → length (variables m) ≤ 64 → exceeds m InputsPerContext ≡ false → exceeds m AtomsPerContext ≡ false → first_exceeded m variable_limits ≡ None
within_variables m few inputs atoms = rw (few_variables m few, inputs, atoms) refl

-- ---- a valid system
pub first_passed : (m : System) → IsValid m → PassesFirst m
first_passed m valid =
    let passed = tests_pass m valid in
    let a = limit_kept m valid Contexts (inl refl) in
    let b = limit_kept m valid Bridges (inr (inl refl)) in
    let c = limit_kept m valid RulesPerContext (inr (inr (inl refl))) in
    record { flaws = rw (passed.known, passed.apart, passed.fitting) refl; limits = rw (a, b, c) refl }

-- no fault of it is told
pub not_told : (m : System) (n : ℕ) (l : Option Limit) → IsValid m → ¬ IsFaultOf m (code.Fault n l)
not_told m n l valid told = let e : None ≡ Some (fault n l) = sym valid ∙ told in cc

-- a limit that a walk refuses
pub due_told : {T : Type 0} (m : System) (limit : Limit) (exceeded : Type 0) (e : BuildFault) (r : Result T BuildFault) → IsErrAnd r (λ d. d ≡ e) → (exceeded → fault_of m ≡ Some (fault 5 (Some limit))) → IsLimitDue limit exceeded e → IfErr r (IsFaultOf m)
due_told m limit exceeded e (Ok x) stops told due = tt
due_told m limit exceeded e (Err d) stops told due = rw stops (at e due)
  where
    at : (f : BuildFault) → IsLimitDue limit exceeded f → IsFaultOf m f
    at code.Memory due = tt
    at (code.Fault n l) (five, is, many) = rw (five, is) (told many)

-- a fault that is handed on
pub fault_handed : {T : Type 0} (here there : List code_context.Context) (bridges : List code_bridge.Bridge) (e : BuildFault) (r : Result T BuildFault) → IsErrAnd r (λ d. d ≡ e) → here ≡ there → IsFaultOf (system_of here bridges) e → IfErr r (IsFaultOf (system_of there bridges))
fault_handed here there bridges e (Ok x) stops same told = tt
fault_handed here there bridges e (Err d) stops same told = rw (stops, ← same) told

pub few_reads : (m : System) (known : KnownReads) → AreFewReads m known → length (variables m) ≤ 64
few_reads m known are = rw (← are.reads.variables_are, length-map) are.reads.few

-- ---- what is built
module _ (contexts : List code_context.Context) (bridges : List code_bridge.Bridge) (built : code_built.Built) (is : IsBuiltOf contexts bridges built) where
  pub passes_built : PassesFirst (system_of contexts bridges) → PassesVariables (made_of built.contexts bridges)
  passes_built first = record { first = subst (λ (cs : List code_context.Context). PassesFirst (system_of cs bridges)) (sym is.contexts_are) first; limited = is.gathered.limited }

  pub system_built : IsValid (made_of built.contexts bridges) → IsSystemNamed (made_of built.contexts bridges) → IsSystemOf contexts bridges built
  system_built valid named = record {
    contexts_are = is.contexts_are;
    kept = record {
      valid = valid;
      named = named;
      own = is.own;
      variables_are = is.gathered.variables_are;
      parts_are = is.gathered.parts_are;
      rules_are = is.gathered.rules_are;
    };
  }

  pub system_built_valid : IsValid (system_of contexts bridges) → IsSystemNamed (system_of contexts bridges) → IsSystemOf contexts bridges built
  system_built_valid valid named = system_built (subst (λ (cs : List code_context.Context). IsValid (system_of cs bridges)) (sym is.contexts_are) valid) (subst (λ (cs : List code_context.Context). IsSystemNamed (system_of cs bridges)) (sym is.contexts_are) named)

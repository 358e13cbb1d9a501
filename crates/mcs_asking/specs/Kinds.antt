-- Certificates, and what a knowledge base wants of what it is told and asked: a line for each kind. All else is said of all kinds at once.
use Rattle.std.specs.Prelude.{ℕ, IsTrue, List, count_by}
use Rattle.std.specs.List.{AllByRecursion}
use Rattle.mcs_system.specs.Plain.{Name, Formula, Kind, ClassicalKind, DefaultKind, ProgramKind, ItemOf, Kb, OfKind}
use Rattle.mcs_system.specs.Faults.{is_atom, is_default}
use Rattle.mcs_cnf.specs.ClauseLists.{IsOver}
use Rattle.mcs_cnf.specs.OneProof.{IsOver-prop}
use Rattle.mcs_cnf.specs.Entailments.{Entailment}
use Rattle.mcs_cnf.specs.Classical.{IsAcceptedClassical, certificate_of}
use Rattle.mcs_evidence.specs.Defaults.{Verdict, verdicts_of, IsAcceptedDefault, IsOverItem}
use Rattle.mcs_evidence.specs.Programs.{ProgramShown, program_shown_of, IsAcceptedProgram, IsOverRule}
use Rattle.mcs_evidence.specs.OneProof.{IsOverItem-prop, IsOverRule-prop}
use Rattle.mcs_asking.specs.declared.certificate.AnswerCert as code
use Rattle.mcs_asking.specs.declared.certificate.AnswerCert.TheVariants as variants

-- ---- certificates as plain data
pub data Certificate : Type 0 where
  OfFormulas : (entailments : List Entailment) → Certificate
  OfDefaults : (verdicts : List Verdict) → Certificate
  OfProgram : (shown : ProgramShown) → Certificate

abbrev pub plain_of : code.AnswerCert → Certificate
plain_of (variants.Classical c) = OfFormulas (certificate_of c)
plain_of (variants.Default c) = OfDefaults (verdicts_of c)
plain_of (variants.Program c) = OfProgram (program_shown_of c)

-- what is accepted of a knowledge base and some beliefs: the certificate, of its kind, shows exactly these views
abbrev pub IsAcceptedFor : List Name → Kb → List Formula → List ℕ → Certificate → Type 0
IsAcceptedFor names (OfKind ClassicalKind formulas) beliefs views (OfFormulas es) = IsAcceptedClassical names formulas beliefs views es
IsAcceptedFor names (OfKind DefaultKind items) beliefs views (OfDefaults vs) = IsAcceptedDefault names items beliefs views vs
IsAcceptedFor names (OfKind ProgramKind rules) beliefs views (OfProgram shown) = IsAcceptedProgram names rules beliefs views shown
IsAcceptedFor names kb beliefs views cert = ⊥

-- the parts of it of which each set is judged: defaults
abbrev pub part_count : Kb → ℕ
part_count (OfKind DefaultKind items) = count_by is_default items
part_count kb = 0

-- ---- each atom of an item is one of the names
abbrev pub IsOverIn : (k : Kind) → List Name → ItemOf k → Type 0
IsOverIn ClassicalKind = IsOver
IsOverIn DefaultKind = IsOverItem
IsOverIn ProgramKind = IsOverRule

pub IsOverIn-prop : (k : Kind) (names : List Name) (item : ItemOf k) → IsProp (IsOverIn k names item)
IsOverIn-prop ClassicalKind = IsOver-prop
IsOverIn-prop DefaultKind = IsOverItem-prop
IsOverIn-prop ProgramKind = IsOverRule-prop

-- each atom of the knowledge base
abbrev pub IsOverKb : List Name → Kb → Type 0
IsOverKb names (OfKind k items) = AllByRecursion (IsOverIn k names) items

-- ---- formulas that it may be told and asked: of a program atoms alone
abbrev pub AreFor : Kind → List Formula → Type 0
AreFor ProgramKind fs = AllByRecursion (λ (f : Formula). IsTrue (is_atom f)) fs
AreFor k fs = Unit {0}

abbrev pub AreOfKind : Kb → List Formula → Type 0
AreOfKind (OfKind k items) fs = AreFor k fs

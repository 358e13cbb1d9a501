-- What is told of what was read, by other words, and where a fault is handed on.
use Rattle.std.proofs.Common.{◌≡◌, Bool, false, ◌↔◌, Result, Ok, Err, sym, subst, true≢false}
use Rattle.std.specs.Result.{IsErrAnd}
use Rattle.mcs_proof_lines.specs.declared.fault.ReportFault.{ReportFault}
use Rattle.mcs_proof_lines.specs.Walks.{At, Reading, ReturnsReading}
use Rattle.mcs_steps.specs.Judging.{IsJudged, Judges, IsPassed, PassesBy}

-- ---- a fault that is handed on
pub judged_err : {A : Type 0} (Holds : A → Type 0) (r : Result Bool ReportFault) (now : At) (read : Reading A) (e : ReportFault) → IsErrAnd r (λ d. d ≡ e) → ReturnsReading e read → Judges Holds r now read
judged_err Holds (Ok x) now read e h told = absurd h
judged_err Holds (Err d) now read e h told = subst (λ (f : ReportFault). ReturnsReading f read) (sym h) told

pub passed_err : {A : Type 0} (r : Result (Unit {0}) ReportFault) (now : At) (read : Reading A) (e : ReportFault) → IsErrAnd r (λ d. d ≡ e) → ReturnsReading e read → PassesBy r now read
passed_err (Ok x) now read e h told = absurd h
passed_err (Err d) now read e h told = subst (λ (f : ReportFault). ReturnsReading f read) (sym h) told

-- ---- told of the same
pub judges_same : {A : Type 0} (P Q : A → Type 0) (r : Result Bool ReportFault) (now : At) (read : Reading A) → ((x : A) → Q x ↔ P x) → Judges P r now read → Judges Q r now read
judges_same P Q (Ok told) now read same h = record { value = h.value; is = h.is; right = (λ yes. (same h.value).1 (h.right.0 yes), λ q. h.right.1 ((same h.value).0 q)) }
judges_same P Q (Err fault) now read same h = h

-- ---- nothing is told of what was passed
pub passed_of : {A : Type 0} (Holds : A → Type 0) (told : Bool) (now : At) (read : Reading A) → IsJudged Holds told now read → IsPassed now read
passed_of Holds told now read h = record { value = h.value; is = h.is }

-- where it is known that what was passed is wrong
pub passed_wrong : {A : Type 0} (Holds : A → Type 0) (now : At) (read : Reading A) → IsPassed now read → ((x : A) → ¬ Holds x) → IsJudged Holds false now read
passed_wrong Holds now read h never = record { value = h.value; is = h.is; right = (λ e. absurd (true≢false (sym e)), λ holds. absurd (never h.value holds)) }

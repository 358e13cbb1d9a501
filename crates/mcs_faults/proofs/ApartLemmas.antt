-- Of which contexts a use says nothing.
use Rattle.std.proofs.Common.{◌≡◌, ℕ, Bool, true, false, refl}
use Rattle.mcs_system.specs.Plain.{Name, Formula}
use Rattle.mcs_system.specs.Logic.{same_name}
use Rattle.mcs_system.proofs.Sameness.{same_name-is}
use Rattle.mcs_grammar.specs.Entries.{BeginsContext, BeginsBridge, NamesContext, NamesBridge, Weighs, SaysProgram, BeginsItem, BeginsDefault, NamesTarget, NamesSource, BeginsBelief, EndsRead, AtomOf, IsNumber, OpensWithin}
use Rattle.mcs_faults.proofs.SeenLater.{IsApart}

other-name : (n d : Name) → ¬ (n ≡ d) → same_name n d ≡ false
other-name n d differ = at (same_name n d) refl
  where
    at : (b : Bool) → same_name n d ≡ b → b ≡ false
    at true e = absurd (differ (same_name-is n d e))
    at false e = refl

-- ---- of none
pub apart-begins_context : (n : Name) → IsApart n BeginsContext
apart-begins_context n = record { program = λ e. cc; rules = refl; defaults = refl; items = refl; atoms = λ a e. cc; reads = λ c f e. cc }

pub apart-begins_bridge : (n : Name) → IsApart n BeginsBridge
apart-begins_bridge n = record { program = λ e. cc; rules = refl; defaults = refl; items = refl; atoms = λ a e. cc; reads = λ c f e. cc }

pub apart-names_context : (d n : Name) → IsApart n (NamesContext d)
apart-names_context d n = record { program = λ e. cc; rules = refl; defaults = refl; items = refl; atoms = λ a e. cc; reads = λ c f e. cc }

pub apart-names_bridge : (d n : Name) → IsApart n (NamesBridge d)
apart-names_bridge d n = record { program = λ e. cc; rules = refl; defaults = refl; items = refl; atoms = λ a e. cc; reads = λ c f e. cc }

pub apart-names_source : (d n : Name) → IsApart n (NamesSource d)
apart-names_source d n = record { program = λ e. cc; rules = refl; defaults = refl; items = refl; atoms = λ a e. cc; reads = λ c f e. cc }

pub apart-begins_belief : (d n : Name) → IsApart n (BeginsBelief d)
apart-begins_belief d n = record { program = λ e. cc; rules = refl; defaults = refl; items = refl; atoms = λ a e. cc; reads = λ c f e. cc }

pub apart-weighs : (k : ℕ) (n : Name) → IsApart n (Weighs k)
apart-weighs k n = record { program = λ e. cc; rules = refl; defaults = refl; items = refl; atoms = λ a e. cc; reads = λ c f e. cc }

pub apart-number : (k : ℕ) (n : Name) → IsApart n (IsNumber k)
apart-number k n = record { program = λ e. cc; rules = refl; defaults = refl; items = refl; atoms = λ a e. cc; reads = λ c f e. cc }

pub apart-opens : (k : ℕ) (n : Name) → IsApart n (OpensWithin k)
apart-opens k n = record { program = λ e. cc; rules = refl; defaults = refl; items = refl; atoms = λ a e. cc; reads = λ c f e. cc }

-- ---- of all but one
pub apart-program : (d n : Name) → ¬ (n ≡ d) → IsApart n (SaysProgram d)
apart-program d n differ = record { program = λ e. differ (let same : n ≡ d = cc in same); rules = refl; defaults = refl; items = refl; atoms = λ a e. cc; reads = λ c f e. cc }

pub apart-item : (d n : Name) → ¬ (n ≡ d) → IsApart n (BeginsItem d)
apart-item d n differ = record { program = λ e. cc; rules = refl; defaults = refl; items = other-name n d differ; atoms = λ a e. cc; reads = λ c f e. cc }

pub apart-default : (d n : Name) → ¬ (n ≡ d) → IsApart n (BeginsDefault d)
apart-default d n differ = record { program = λ e. cc; rules = refl; defaults = other-name n d differ; items = refl; atoms = λ a e. cc; reads = λ c f e. cc }

pub apart-target : (d n : Name) → ¬ (n ≡ d) → IsApart n (NamesTarget d)
apart-target d n differ = record { program = λ e. cc; rules = other-name n d differ; defaults = refl; items = refl; atoms = λ a e. cc; reads = λ c f e. cc }

pub apart-atom : (d x n : Name) → ¬ (n ≡ d) → IsApart n (AtomOf d x)
apart-atom d x n differ = record { program = λ e. cc; rules = refl; defaults = refl; items = refl; atoms = λ a e. differ (let same : n ≡ d = cc in same); reads = λ c f e. cc }

pub apart-read : (d c : Name) (f : Formula) (n : Name) → ¬ (n ≡ d) → IsApart n (EndsRead d c f)
apart-read d c f n differ = record { program = λ e. cc; rules = refl; defaults = refl; items = refl; atoms = λ a e. cc; reads = λ c' f' e. differ (let same : n ≡ d = cc in same) }

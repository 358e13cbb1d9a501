-- Answers that were judged while they were read.
use Rattle.std.proofs.Common.{◌≡◌, ℕ, Bool, false, IsTrue, List, map, length, Option, Some, None, Result, Ok, Err, Vec, slice_get, ◌↔◌, sym, ap, ◌∙◌, subst}
use Rattle.std.specs.declared.alloc.Global.{Global}
use Rattle.std.proofs.lemmas.List.{length-map}
use Rattle.mcs_sets.specs.Sets.{members, size}
use Rattle.mcs_base.proofs.Booleans.{false_tells}
use Rattle.mcs_system.specs.Plain.{Name, Formula, Default, Item, Kb, Context, System}
use Rattle.mcs_system.specs.Atoms.{atoms_of}
use Rattle.mcs_system.specs.Faults.{IsValid}
use Rattle.mcs_system.specs.Logic.{with_heads}
use Rattle.mcs_system.specs.Systems.{variables_of, heads_into}
use Rattle.mcs_system.specs.Views.{at_places, belief_at, beliefs_at}
use Rattle.mcs_evidence.specs.Defaults.{defaults_of}
use Rattle.mcs_asking.specs.Certificates.{Certificate, IsAccepted, IsAcceptedFor}
use Rattle.mcs_asking.proofs.AnswerLemmas.{accepted_none, accepted_views, as_asked}
use Rattle.mcs_proof_lines.specs.declared.fault.ReportFault.{ReportFault}
use Rattle.mcs_proof_lines.specs.Walks.{At, Reading, ◌>>=◌, ReturnsReading, mapped_reading}
use Rattle.mcs_proof_lines.specs.Verdicts.{Terms}
use Rattle.mcs_proof_reader.specs.Questions.{ten}
use Rattle.mcs_proof_text.specs.Kinds.{terms_with, certificate_at}
use Rattle.mcs_proof_reader.specs.Answers.{Shown, outputs_at, certificate_of, with_certificate, shown_at, shown_of}
use Rattle.mcs_steps.specs.Judging.{IsJudged}
use Rattle.mcs_judging.specs.Judging.{IsTold, Tells, AreViewsOf}
use Rattle.mcs_judging.proofs.Ways.{fault_first, fault_later, fault_same}
use Rattle.mcs_check.specs.Judging.{HasKb}

-- ---- a certificate, by the kind of the knowledge base
certified : {A : Type 0} (of : A → Certificate) (Shows : List ℕ → Certificate → Type 0) (r : Result (Option (Vec ℕ Global)) ReportFault) (now : At) (read : Reading A)
    → Tells (AreViewsOf (λ views a. Shows views (of a))) r now read → Tells (AreViewsOf Shows) r now (mapped_reading of read)
certified of Shows (Ok shown) now read told = record { value = of told.value; is = ap (mapped_reading of) told.is; fits = told.fits }
certified of Shows (Err fault) now read told = fault_first fault read (λ a. Ok (of a.0, a.1)) told

module _ (names texts numbers : List Name) (words : texts ≡ names) (hs bs : List Formula) (n count : ℕ) (kb : Kb) (r : Result (Option (Vec ℕ Global)) ReportFault) (now at : At) where
  abbrev IsJudgedFor : Kb → Type 0
  IsJudgedFor k = Tells (AreViewsOf (IsAcceptedFor names (with_heads k hs) bs)) r now (certificate_at names numbers n k count at)

  pub judged_as : {A : Type 0} (of : A → Certificate) (k : Kb) → kb ≡ k → (read : Reading A) → certificate_at texts numbers n k count at ≡ mapped_reading of read
      → Tells (AreViewsOf (λ views a. IsAcceptedFor names (with_heads k hs) bs views (of a))) r now read → IsJudgedFor kb
  judged_as of k is read same told =
      subst IsJudgedFor (sym is) (subst (λ (ts : List Name). Tells (AreViewsOf (IsAcceptedFor names (with_heads k hs) bs)) r now (certificate_at ts numbers n k count at)) words
      (subst (Tells (AreViewsOf (IsAcceptedFor names (with_heads k hs) bs)) r now) (sym same) (certified of (IsAcceptedFor names (with_heads k hs) bs) r now read told)))

-- what the lines may name, as the code has it
pub same_terms : (t : Terms) (names : List Name) (items : List Item) (n : ℕ) → t.atoms ≡ names → t.justs ≡ map (λ (d : Default). length d.justs) (defaults_of items) → t.beliefs ≡ n → t ≡ terms_with names t.numbers items n
same_terms t names items n words justs many =
    ap (λ (xs : List (List ℕ)). (let u : Terms = record { atoms = xs; numbers = t.numbers; justs = t.justs; beliefs = t.beliefs } in u)) words
    ∙ (ap (λ (js : List ℕ). (let u : Terms = record { atoms = names; numbers = t.numbers; justs = js; beliefs = t.beliefs } in u)) justs
    ∙ ap (λ (k : ℕ). (let u : Terms = record { atoms = names; numbers = t.numbers; justs = map (λ (d : Default). length d.justs) (defaults_of items); beliefs = k } in u)) many)

-- ---- of a context of the system, by the names, heads and beliefs that the code has
module _ (m : System) (i x : ℕ) (kb : Kb) (ns numbers : List Name) (hs bs : List Formula) (n count : ℕ) (at : At)
    (names : ns ≡ atoms_of m i) (tens : numbers ≡ ten) (told : hs ≡ heads_into m i x) (asked : bs ≡ beliefs_at m (variables_of m i)) (many : n ≡ length bs) where
  same_there : certificate_at ns numbers n kb count at ≡ certificate_of m i kb count at
  same_there =
      let beliefs : n ≡ size (variables_of m i) = many ∙ (ap length asked ∙ length-map (members (variables_of m i)) (belief_at m)) in
      ap (λ (xs : List Name). certificate_at xs numbers n kb count at) names ∙ (ap (λ (xs : List (List ℕ)). certificate_at (atoms_of m i) xs n kb count at) tens
      ∙ ap (λ (k : ℕ). certificate_at (atoms_of m i) ten k kb count at) beliefs)

  pub fault_there : (e : ReportFault) → ReturnsReading e (certificate_at ns numbers n kb count at) → ReturnsReading e (certificate_of m i kb count at)
  fault_there e read = subst (λ (r : Reading Certificate). ReturnsReading e r) same_there read

  module _ (h : HasKb m i kb) (outputs : List ℕ) (now : At) where
    views_there : (shown : Option (Vec ℕ Global)) → IsTold (AreViewsOf (IsAcceptedFor ns (with_heads kb hs) bs)) shown now (certificate_at ns numbers n kb count at)
        → IsTold (AreViewsOf (IsAcceptedFor (atoms_of m i) (with_heads h.context.kb (heads_into m i x)) (beliefs_at m (variables_of m i)))) shown now (certificate_of m i kb count at)
    views_there shown views =
        subst (λ (k : Kb). IsTold (AreViewsOf (IsAcceptedFor (atoms_of m i) (with_heads k (heads_into m i x)) (beliefs_at m (variables_of m i)))) shown now (certificate_of m i kb count at)) (sym h.kb_is)
        (as_asked (λ (ns : List Name) (hs bs : List Formula). IsTold (AreViewsOf (IsAcceptedFor ns (with_heads kb hs) bs)) shown now (certificate_of m i kb count at)) ns (atoms_of m i) hs (heads_into m i x) bs (beliefs_at m (variables_of m i)) names told asked
        (subst (λ (r : Reading Certificate). IsTold (AreViewsOf (IsAcceptedFor ns (with_heads kb hs) bs)) shown now r) same_there views))

    pub refused_there : IsTold (AreViewsOf (IsAcceptedFor ns (with_heads kb hs) bs)) None now (certificate_at ns numbers n kb count at) → IsJudged (IsAccepted m i x outputs) false now (certificate_of m i kb count at)
    refused_there views =
        let none = views_there None views in record {
          value = none.value;
          is = none.is;
          right = false_tells (accepted_none m i x outputs none.value h.context h.is_it none.fits);
        }

    pub views_judged : IsValid m → (views : Vec ℕ Global) (same : Bool) → IsTrue same ↔ (map (at_places (variables_of m i)) views.items ≡ outputs) → IsTold (AreViewsOf (IsAcceptedFor ns (with_heads kb hs) bs)) (Some views) now (certificate_at ns numbers n kb count at)
        → IsJudged (IsAccepted m i x outputs) same now (certificate_of m i kb count at)
    views_judged valid views same tells shown =
        let there = views_there (Some views) shown in record {
          value = there.value;
          is = there.is;
          right = accepted_views m i x outputs there.value h.context h.is_it views.items same valid there.fits tells;
        }

-- ---- both parts
module _ (m : System) (i : ℕ) (kb : Kb) (h : HasKb m i kb) (at : At) where
  to_parts : shown_of m i (slice_get m.contexts i) at ≡ (outputs_at m i kb at >>= with_certificate m i kb)
  to_parts = ap (λ (o : Option Context). shown_of m i o at) h.is_it ∙ ap (λ (k : Kb). shown_at m i k at) h.kb_is

  pub no_outputs : (e : ReportFault) → ReturnsReading e (outputs_at m i kb at) → ReturnsReading e (shown_of m i (slice_get m.contexts i) at)
  no_outputs e told = fault_same e (shown_of m i (slice_get m.contexts i) at) (outputs_at m i kb at >>= with_certificate m i kb) to_parts (fault_first e (outputs_at m i kb at) (with_certificate m i kb) told)

  module _ (outputs : List ℕ) (mid : At) (begun : outputs_at m i kb at ≡ Ok (outputs, mid)) where
    pub no_certificate : (e : ReportFault) → ReturnsReading e (certificate_of m i kb (length outputs) mid) → ReturnsReading e (shown_of m i (slice_get m.contexts i) at)
    no_certificate e told = fault_same e (shown_of m i (slice_get m.contexts i) at) (outputs_at m i kb at >>= with_certificate m i kb) to_parts
        (fault_later e (outputs_at m i kb at) (with_certificate m i kb) outputs mid begun (fault_first e (certificate_of m i kb (length outputs) mid) (λ cert. Ok ((outputs, cert.0), cert.1)) told))

    pub answer_read : (cert : Certificate) (now : At) → certificate_of m i kb (length outputs) mid ≡ Ok (cert, now) → shown_of m i (slice_get m.contexts i) at ≡ Ok ((outputs, cert), now)
    answer_read cert now told = to_parts ∙ (ap (λ (r : Reading (List ℕ)). r >>= with_certificate m i kb) begun ∙ ap (mapped_reading {B = Shown} (λ (cert : Certificate). (outputs, cert))) told)

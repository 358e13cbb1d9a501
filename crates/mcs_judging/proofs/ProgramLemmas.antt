-- Certificates of programs, judged part by part.
use Rattle.std.proofs.Common.{◌≡◌, ℕ, ◌-◌, ◌<◌, ◌≤◌, Bool, true, false, List, [], ◌∷◌, ◌++◌, map, codes, Option, Some, None, Result, Ok, Err, ◌↔◌, sym, ap, ◌∙◌, subst, arith, true≢false}
use Rattle.std.specs.Prelude.{Vec}
use Rattle.std.specs.List.{AllZip}
use Rattle.std.specs.declared.alloc.Global.{Global}
use Rattle.mcs_sets.specs.Orders.{StateBefore}
use Rattle.mcs_base.specs.Listings.{IsAscending}
use Rattle.mcs_base.proofs.Lists.{zip_push}
use Rattle.mcs_base.proofs.Zipped.{not_among}
use Rattle.mcs_system.specs.Plain.{Name, Formula, ProgramRule}
use Rattle.mcs_system.specs.Logic.{holds_all, true_names, Atoms}
use Rattle.mcs_system.specs.Views.{Shows}
use Rattle.mcs_trace.specs.Clauses.{ClauseList}
use Rattle.mcs_trace.specs.Traces.{Inference, IsAcceptedTrace}
use Rattle.mcs_cnf.specs.ClauseLists.{clause_list}
use Rattle.mcs_evidence.specs.Programs.{ModelShown, ProgramShown, rule_formula, smaller_formulas, rest_formulas, IsInRange, IsRefutation, IsModelShown, IsAcceptedModel, IsAcceptedProgram}
use Rattle.mcs_answer_sets.specs.Models.{AreModelsShown}
use Rattle.mcs_answer_sets.proofs.ModelLemmas.{models_one}
use Rattle.mcs_proof_lines.specs.declared.fault.ReportFault.{ReportFault}
use Rattle.mcs_proof_lines.specs.declared.fault.ReportFault.TheVariants as faults
use Rattle.mcs_proof_lines.specs.Walks.{At, Reading, ◌>>=◌, ReturnsReading, atoms_at, expect_at, trace_at, many_at, after_front}
use Rattle.mcs_proof_lines.specs.Programs.{model_at, smaller_at, rest_at, program_at}
use Rattle.mcs_proof_lines.proofs.WalkLemmas.{many_ok, many_err, many_end, front_none}
use Rattle.mcs_steps.specs.Judging.{IsJudged, Judges, IsPassed, PassesBy}
use Rattle.mcs_steps.proofs.Judged.{passed_wrong}
use Rattle.mcs_judging.specs.Judging.{IsTold, AreViewsOf}
use Rattle.mcs_judging.specs.Programs.{IsViewOf, Refutes, MayBeShown, Completes}
use Rattle.mcs_asked.specs.Questions.{program_rules, program_beliefs}
use Rattle.mcs_asked.specs.declared.program.AskedProgram.{AskedProgram}

-- ---- traces
pub refutes_some : (o : Option ClauseList) (known : ClauseList) → o ≡ Some known → (steps : List Inference) → Refutes o steps ↔ IsAcceptedTrace known.clauses steps
refutes_some o known e steps = (λ h. subst (λ (x : Option ClauseList). Refutes x steps) e h, λ h. subst (λ (x : Option ClauseList). Refutes x steps) (sym e) h)

pub refutes_none : (o : Option ClauseList) → o ≡ None → (now : At) (read : Reading (List Inference)) → IsPassed now read → IsJudged (Refutes o) false now read
refutes_none o e now read h = passed_wrong (Refutes o) now read h (λ steps refutes. subst (λ (x : Option ClauseList). Refutes x steps) e refutes)

-- ---- the clauses for the trace of a model
module _ (names : List Name) (rules : List ProgramRule) (model : ℕ) (minimal : List Inference) where
  abbrev this : ModelShown
  this = record { model = model; minimal = minimal }

  pub out_of_range : ¬ IsInRange names model → IsModelShown names rules this ↔ Refutes None minimal
  out_of_range out = (λ h. out h.in_range, λ h. absurd h)

  pub not_satisfied : (places : ℕ) → places ≡ model → holds_all (true_names 0 names places) (map rule_formula rules) ≡ false → IsModelShown names rules this ↔ Refutes None minimal
  not_satisfied places same e = (
    λ h. true≢false (sym h.satisfies ∙ ap (λ (s : ℕ). holds_all (true_names 0 names s) (map rule_formula rules)) (sym same) ∙ e),
    λ h. absurd h,
  )

  pub satisfied : (places : ℕ) (known : ClauseList) → places ≡ model → IsInRange names model → holds_all (true_names 0 names places) (map rule_formula rules) ≡ true
      → known ≡ clause_list names (smaller_formulas names rules places) → IsModelShown names rules this ↔ Refutes (Some known) minimal
  satisfied places known same range all made = (
    λ h. subst (λ (c : ClauseList). IsAcceptedTrace c.clauses minimal) (sym here) h.minimal,
    λ accepted. record {
      in_range = range;
      satisfies = subst (λ (s : ℕ). holds_all (true_names 0 names s) (map rule_formula rules) ≡ true) same all;
      minimal = subst (λ (c : ClauseList). IsAcceptedTrace c.clauses minimal) here accepted;
    },
  )
    where
      here : known ≡ clause_list names (smaller_formulas names rules model)
      here = made ∙ ap (λ (s : ℕ). clause_list names (smaller_formulas names rules s)) same

-- ---- a model
module _ (texts : List (List ℕ)) (at mid : At) (model : ℕ) (first : atoms_at (codes "model ") texts at ≡ Ok (model, mid)) where
  abbrev with_trace : List Inference × At → Reading ModelShown
  with_trace t = Ok (record { model = model; minimal = t.0 }, t.1)

  to_trace : model_at texts at ≡ (trace_at mid >>= with_trace)
  unfolding model_at
  to_trace = ap (λ (r : Reading ℕ). r >>= λ m. trace_at m.1 >>= λ t. (let s : Reading ModelShown = Ok (record { model = m.0; minimal = t.0 }, t.1) in s)) first

  pub model_read : (now : At) (minimal : List Inference) → trace_at mid ≡ Ok (minimal, now) → model_at texts at ≡ Ok (record { model = model; minimal = minimal }, now)
  model_read now minimal e = to_trace ∙ ap (λ (r : Reading (List Inference)). r >>= with_trace) e

  pub model_failed : (fault : ReportFault) → ReturnsReading fault (trace_at mid) → ReturnsReading fault (model_at texts at)
  model_failed faults.Memory told = tt
  model_failed (faults.Grammar k) told = to_trace ∙ ap (λ (r : Reading (List Inference)). r >>= with_trace) told

  pub model_passed : (r : Result (Unit {0}) ReportFault) (now : At) → PassesBy r now (trace_at mid) → PassesBy r now (model_at texts at)
  model_passed (Ok u) now h = record { value = record { model = model; minimal = h.value }; is = model_read now h.value h.is }
  model_passed (Err fault) now h = model_failed fault h

  module _ (names : List Name) (rules : List ProgramRule) (beliefs : List Formula) (now : At) (told : Bool)
      (judged : IsJudged (λ minimal. IsModelShown names rules (record { model = model; minimal = minimal })) told now (trace_at mid)) where
    pub model_shown : (places view : ℕ) → told ≡ true → places ≡ model → Shows (Atoms (true_names 0 names places)) beliefs view → IsTold (IsViewOf (IsAcceptedModel names rules beliefs)) (Some view) now (model_at texts at)
    model_shown places view e same shows = record {
      value = record { model = model; minimal = judged.value };
      is = model_read now judged.value judged.is;
      fits = record {
        shown = judged.right.0 e;
        shows = subst (λ (s : ℕ). Shows (Atoms (true_names 0 names s)) beliefs view) same shows;
      };
    }

    pub model_not_shown : told ≡ false → IsTold (IsViewOf (IsAcceptedModel names rules beliefs)) None now (model_at texts at)
    model_not_shown e = record {
      value = record { model = model; minimal = judged.value };
      is = model_read now judged.value judged.is;
      fits = λ view h. true≢false (sym (judged.right.1 h.shown) ∙ e);
    }

-- ---- so many of one kind
-- some were read, and so many are left
pub record AreReadSoFar {A : Type 0} (p : At → Reading A) (count left : ℕ) (start at : At) : Type 0 where
  pub values : List A
  pub read : after_front values (many_at p left at) ≡ many_at p count start

pub none_so_far : {A : Type 0} (p : At → Reading A) (count : ℕ) (start : At) → AreReadSoFar p count count start start
none_so_far p count start = record { values = []; read = front_none (many_at p count start) }

-- each of them shows one of these
pub record AreShownSoFar {A V : Type 0} (p : At → Reading A) (Shown : V → A → Type 0) (count left : ℕ) (start at : At) (vs : List V) : Type 0 where
  pub so_far : AreReadSoFar p count left start at
  pub shown : AllZip Shown vs so_far.values

pub none_shown : {A V : Type 0} (p : At → Reading A) (Shown : V → A → Type 0) (count : ℕ) (start : At) (vs : List V) → vs ≡ [] → AreShownSoFar p Shown count count start start vs
unfolding none_so_far
none_shown p Shown count start vs e = record { so_far = none_so_far p count start; shown = subst (λ ws. AllZip Shown ws []) (sym e) tt }

module _ {A : Type 0} (p : At → Reading A) (count left : ℕ) (start at : At) (h : AreReadSoFar p count left start at) where
  pub read_all : left ≤ 0 → many_at p count start ≡ Ok (h.values, at)
  read_all none =
      let e : left ≡ 0 = omega (arith, none) in
      sym h.read ∙ ap (λ (n : ℕ). after_front h.values (many_at p n at)) e ∙ many_end p h.values at

  pub passed_all : left ≤ 0 → IsPassed at (many_at p count start)
  passed_all none = record { value = h.values; is = read_all none }

  module _ (some : 0 < left) where
    pub one_failed : (fault : ReportFault) → ReturnsReading fault (p at) → ReturnsReading fault (many_at p count start)
    one_failed faults.Memory told = tt
    one_failed (faults.Grammar k) told = sym h.read ∙ many_err p h.values left at k some told

    pub one_more : (x : A) (now : At) → p at ≡ Ok (x, now) → AreReadSoFar p count (left - 1) start now
    one_more x now e = record { values = h.values ++ x ∷ []; read = many_ok p h.values left at x now some e ∙ h.read }

    module _ (x : A) (mid : At) (e : p at ≡ Ok (x, mid)) where
      to_others : many_at p count start ≡ after_front (h.values ++ x ∷ []) (many_at p (left - 1) mid)
      to_others = sym (many_ok p h.values left at x mid some e ∙ h.read)

      pub others_failed : (fault : ReportFault) → ReturnsReading fault (many_at p (left - 1) mid) → ReturnsReading fault (many_at p count start)
      others_failed faults.Memory told = tt
      others_failed (faults.Grammar k) told = to_others ∙ ap (after_front (h.values ++ x ∷ [])) told

      pub others_read : (rest : List A) (now : At) → many_at p (left - 1) mid ≡ Ok (rest, now) → many_at p count start ≡ Ok ((h.values ++ x ∷ []) ++ rest, now)
      others_read rest now told = to_others ∙ ap (after_front (h.values ++ x ∷ [])) told

module _ {A : Type 0} (p : At → Reading A) (Shown : ℕ → A → Type 0) (count left : ℕ) (start at mid : At) (vs : List ℕ) (h : AreShownSoFar p Shown count left start at vs) (some : 0 < left) (told : Option ℕ)
    (judged : IsTold (IsViewOf Shown) told mid (p at)) where
  pub shown_more : (v : ℕ) (new : List ℕ) → told ≡ Some v → new ≡ vs ++ v ∷ [] → AreShownSoFar p Shown count (left - 1) start mid new
  unfolding one_more
  shown_more v new is pushed = record {
    so_far = one_more p count left start at h.so_far some judged.value mid judged.is;
    shown = subst (λ (ws : List ℕ). AllZip Shown ws (h.so_far.values ++ judged.value ∷ [])) (sym pushed)
        (zip_push Shown vs h.so_far.values v judged.value h.shown (subst (λ (o : Option ℕ). IsViewOf Shown o judged.value) is judged.fits));
  }

  module _ (is : told ≡ None) where
    pub rest_failed : (fault : ReportFault) → ReturnsReading fault (many_at p (left - 1) mid) → ReturnsReading fault (many_at p count start)
    rest_failed = others_failed p count left start at h.so_far some judged.value mid judged.is

    pub rest_passed : (now : At) → IsPassed now (many_at p (left - 1) mid) → IsTold (AreViewsOf (AllZip Shown)) None now (many_at p count start)
    rest_passed now rest = record {
      value = (h.so_far.values ++ judged.value ∷ []) ++ rest.value;
      is = others_read p count left start at h.so_far some judged.value mid judged.is rest.value now rest.is;
      fits = not_among Shown h.so_far.values judged.value rest.value (subst (λ (o : Option ℕ). IsViewOf Shown o judged.value) is judged.fits);
    }

pub shown_all : {A : Type 0} (p : At → Reading A) (Shown : ℕ → A → Type 0) (count left : ℕ) (start at : At) (views : Vec ℕ Global) → AreShownSoFar p Shown count left start at views.items → left ≤ 0
    → IsTold (AreViewsOf (AllZip Shown)) (Some views) at (many_at p count start)
shown_all p Shown count left start at views h none = record { value = h.so_far.values; is = read_all p count left start at h.so_far none; fits = h.shown }

-- ---- the clauses for the last trace
module _ (p : AskedProgram) (smaller : List ℕ) (shown : Option (Vec ℕ Global)) (rest : List Inference) where
  pub none_to_complete : shown ≡ None → Completes p smaller shown rest ↔ Refutes None rest
  none_to_complete e = (λ h. subst (λ (o : Option (Vec ℕ Global)). Completes p smaller o rest) e h, λ h. absurd h)

  module _ (views : Vec ℕ Global) (e : shown ≡ Some views) where
    completed : Completes p smaller shown rest ↔ Completes p smaller (Some views) rest
    completed = (λ h. subst (λ (o : Option (Vec ℕ Global)). Completes p smaller o rest) e h, λ h. subst (λ (o : Option (Vec ℕ Global)). Completes p smaller o rest) (sym e) h)

    pub not_to_complete : ¬ MayBeShown p.atoms.now smaller views.items → Completes p smaller shown rest ↔ Refutes None rest
    not_to_complete not = (λ h. not (completed.0 h).0, λ h. absurd h)

    pub to_complete : (known : ClauseList) → MayBeShown p.atoms.now smaller views.items → known ≡ clause_list p.atoms.now (rest_formulas p.atoms.now (program_rules p) (program_beliefs p) smaller views.items)
        → Completes p smaller shown rest ↔ Refutes (Some known) rest
    to_complete known may made = (
      λ h. subst (λ (c : ClauseList). IsAcceptedTrace c.clauses rest) (sym made) (completed.0 h).1,
      λ accepted. completed.1 (may, subst (λ (c : ClauseList). IsAcceptedTrace c.clauses rest) made accepted),
    )

-- the line before it
pub line_failed : (fault : ReportFault) (at : At) → ReturnsReading fault (expect_at (codes "none") at) → ReturnsReading fault (rest_at at)
line_failed faults.Memory at told = tt
line_failed (faults.Grammar k) at told = ap (λ (x : Result At ℕ). x >>= trace_at) told

pub rest_read : (Holds : List Inference → Type 0) (r : Result Bool ReportFault) (at mid now : At) → expect_at (codes "none") at ≡ Ok mid → Judges Holds r now (trace_at mid) → Judges Holds r now (rest_at at)
rest_read Holds r at mid now e h = subst (λ (read : Reading (List Inference)). Judges Holds r now read) (sym (ap (λ (x : Result At ℕ). x >>= trace_at) e)) h

-- ---- certificates
module _ (p : AskedProgram) (models : List ModelShown) (smaller : List ℕ) (rest : List Inference) where
  abbrev certificate : ProgramShown
  certificate = record { models = models; smaller = smaller; rest = rest }

  accepted : (shown : Option (Vec ℕ Global)) → AreViewsOf (AreModelsShown p.atoms.now (program_rules p) (program_beliefs p)) shown models → Completes p smaller shown rest
      → AreViewsOf (IsAcceptedProgram p.atoms.now (program_rules p) (program_beliefs p)) shown certificate
  accepted None told h = absurd h
  accepted (Some views) told h = record { ascending = h.0.ascending; models = told; in_range = h.0.in_range; others = h.1 }

  not_accepted : (shown : Option (Vec ℕ Global)) → AreViewsOf (AreModelsShown p.atoms.now (program_rules p) (program_beliefs p)) shown models → ¬ Completes p smaller shown rest
      → (views : List ℕ) → ¬ IsAcceptedProgram p.atoms.now (program_rules p) (program_beliefs p) views certificate
  not_accepted None told not views h = told views h.models
  not_accepted (Some v) told not views h =
      let same : views ≡ v.items = models_one p.atoms.now (program_rules p) (program_beliefs p) views v.items models h.models told in
      not (
        record { ascending = subst (IsAscending StateBefore) same h.ascending; in_range = h.in_range },
        subst (λ (ws : List ℕ). IsRefutation p.atoms.now (rest_formulas p.atoms.now (program_rules p) (program_beliefs p) smaller ws) rest) same h.others,
      )

module _ (texts : List (List ℕ)) (count : ℕ) (start : At) where
  pub models_failed : (fault : ReportFault) → ReturnsReading fault (many_at (model_at texts) count start) → ReturnsReading fault (program_at texts count start)
  unfolding program_at
  models_failed faults.Memory told = tt
  models_failed (faults.Grammar k) told =
      ap (λ (r : Reading (List ModelShown)). r >>= λ ms. rest_at (smaller_at texts ms.1).1 >>= λ rest. (let s : Reading ProgramShown = Ok (record { models = ms.0; smaller = (smaller_at texts ms.1).0; rest = rest.0 }, rest.1) in s)) told

  module _ (mid last : At) (models : List ModelShown) (smaller : List ℕ) (first : many_at (model_at texts) count start ≡ Ok (models, mid)) (next : smaller_at texts mid ≡ (smaller, last)) where
    abbrev with_rest : List Inference × At → Reading ProgramShown
    with_rest rest = Ok (record { models = models; smaller = smaller; rest = rest.0 }, rest.1)

    to_rest : program_at texts count start ≡ (rest_at last >>= with_rest)
    unfolding program_at
    to_rest =
        ap (λ (r : Reading (List ModelShown)). r >>= λ ms. rest_at (smaller_at texts ms.1).1 >>= λ rest. (let s : Reading ProgramShown = Ok (record { models = ms.0; smaller = (smaller_at texts ms.1).0; rest = rest.0 }, rest.1) in s)) first
        ∙ ap (λ (r : List ℕ × At). rest_at r.1 >>= λ rest. (let s : Reading ProgramShown = Ok (record { models = models; smaller = r.0; rest = rest.0 }, rest.1) in s)) next

    pub last_failed : (fault : ReportFault) → ReturnsReading fault (rest_at last) → ReturnsReading fault (program_at texts count start)
    last_failed faults.Memory told = tt
    last_failed (faults.Grammar k) told = to_rest ∙ ap (λ (r : Reading (List Inference)). r >>= with_rest) told

    pub program_read : (now : At) (rest : List Inference) → rest_at last ≡ Ok (rest, now) → program_at texts count start ≡ Ok (record { models = models; smaller = smaller; rest = rest }, now)
    program_read now rest e = to_rest ∙ ap (λ (r : Reading (List Inference)). r >>= with_rest) e

-- whether it is accepted
module _ (p : AskedProgram) (texts : List (List ℕ)) (count : ℕ) (start mid last now : At) (smaller : List ℕ) (shown : Option (Vec ℕ Global)) (told : Bool)
    (models : IsTold (AreViewsOf (AreModelsShown p.atoms.now (program_rules p) (program_beliefs p))) shown mid (many_at (model_at texts) count start))
    (next : smaller_at texts mid ≡ (smaller, last)) (judged : IsJudged (Completes p smaller shown) told now (rest_at last)) where
  whole : program_at texts count start ≡ Ok (certificate p models.value smaller judged.value, now)
  whole = program_read texts count start mid last models.value smaller models.is next now judged.value judged.is

  pub program_shown : told ≡ true → IsTold (AreViewsOf (IsAcceptedProgram p.atoms.now (program_rules p) (program_beliefs p))) shown now (program_at texts count start)
  program_shown e = record { value = certificate p models.value smaller judged.value; is = whole; fits = accepted p models.value smaller judged.value shown models.fits (judged.right.0 e) }

  pub program_not_shown : told ≡ false → IsTold (AreViewsOf (IsAcceptedProgram p.atoms.now (program_rules p) (program_beliefs p))) None now (program_at texts count start)
  program_not_shown e = record {
    value = certificate p models.value smaller judged.value;
    is = whole;
    fits = not_accepted p models.value smaller judged.value shown models.fits (λ completes. true≢false (sym (judged.right.1 completes) ∙ e));
  }

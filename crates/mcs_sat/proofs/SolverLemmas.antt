-- What a solver keeps and its calls do, as it is seen.
use Rattle.std.proofs.Common.{◌≡◌, ℕ, suc, ◌+◌, ◌-◌, ◌<◌, ◌≤◌, List, [], ◌∷◌, ◌++◌, refl, sym, ap, ◌∙◌, subst, arith, ℤ, neg_ℤ, unsigned_abs, length}
use Rattle.std.specs.List.{AllByRecursion}
use Rattle.std.proofs.lemmas.List.{append_cancel_left, map-append}
use Rattle.mcs_base.specs.Listings.{IsAmong}
use Rattle.mcs_base.proofs.Among.{among_get, among_left}
use Rattle.mcs_base.proofs.Each.{all_among, all_both, all_from_among, all_weaker}
use Rattle.mcs_trace.specs.Clauses.{IsClause, IsWithin}
use Rattle.mcs_trace.specs.Traces.{numbered_clause}
use Rattle.mcs_engine.specs.declared.state.State.{State}
use Rattle.mcs_engine.specs.declared.trail.Entry.{Entry}
use Rattle.mcs_sat.specs.Solvers.{GoesOn, IsFalseNumber, IsFalseUnder, IsOpenUnder, IsSolver, IsUnitRun, LeadsToConflict, SolverView, trues, view_of}
use Rattle.mcs_engine.specs.States.{IsDecided, IsState, KeepsClauses}
use Rattle.mcs_engine.specs.Trails.{AreCovered, AreExplained, ArePlaced, GrowsOnLevel, IsFalseAt, IsOpen, levels_of, literal_at}
use Rattle.mcs_engine.proofs.KnownLemmas.{numbered-row}
use Rattle.mcs_engine.proofs.LevelLemmas.{levels-decide, levels-more}
use Rattle.mcs_sat.proofs.UnitRunLemmas.{AreConsistent, AreIn, among-on, flat-levels, grown-run, levels-run, literals, open-not_false, open-under, false-under, placed-consistent, run-within, under-false}

pub trues-are : (s : State) (v : SolverView) → view_of s ≡ v → trues v ≡ literals s.trail.entries.items
trues-are s v is = sym (ap trues is) ∙ flat-levels s.trail.entries.items

-- ---- what is kept
covered-within : (n : ℕ) (ps : List ℕ) (c : List ℤ) → n ≡ length ps - 1 → 0 < length ps → AreCovered ps c → IsWithin n c
covered-within n ps c is some covered = all_weaker (λ (l : ℤ). unsigned_abs l < length ps) (λ (l : ℤ). unsigned_abs l ≤ n) (λ l less. omega arith) c covered

pub is-solver : (s : State) → IsState s → IsSolver (view_of s)
is-solver s is =
    let es : List Entry = s.trail.entries.items in
    let ps : List ℕ = s.trail.positions.items in
    let n : ℕ = length ps - 1 in
    record {
      clauses = (
        (let some = s.trail.some in let fits = s.trail.fits in omega arith),
        all_both IsClause (IsWithin n) s.clauses is.trail.clauses (all_weaker (AreCovered ps) (IsWithin n) (λ c covered. covered-within n ps c refl s.trail.some covered) s.clauses is.trail.covered),
      );
      levels = levels-run s.clauses ps [] es s.trail.placed is.trail.explained;
      within = all_from_among (λ (l : ℤ). (0 < unsigned_abs l) × (unsigned_abs l ≤ n)) (trues (view_of s)) (λ l among.
          let (p, less, e) = among-on es l (subst (IsAmong l) (flat-levels es) among) in
          let (literal, covered, at) = s.trail.placed p less in
          let some : 0 < unsigned_abs (literal_at es p) = literal.0 in
          (omega (arith, ap unsigned_abs e), omega (arith, ap unsigned_abs e)));
    }

-- ---- what grows
abbrev IsGrown : State → State → Type 0
IsGrown old new = IsState new × (new.clauses ≡ old.clauses) × GrowsOnLevel (length old.levels.items) old.trail.entries.items new.trail.entries.items

grown-trues : (old new : State) (more : List Entry) → new.trail.entries.items ≡ old.trail.entries.items ++ more → trues (view_of new) ≡ trues (view_of old) ++ literals more
grown-trues old new more is = flat-levels new.trail.entries.items ∙ ap literals is ∙ map-append (λ (e : Entry). e.literal) old.trail.entries.items more ∙ ap (λ (x : List ℤ). x ++ literals more) (sym (flat-levels old.trail.entries.items))

grown-unit_run : (old new : State) (more : List Entry) → IsState new → new.clauses ≡ old.clauses → new.trail.entries.items ≡ old.trail.entries.items ++ more → AllByRecursion (λ (e : Entry). (0 < e.reason) × (e.level ≡ length old.levels.items)) more → IsUnitRun old.clauses (trues (view_of old)) (literals more)
grown-unit_run old new more is clauses e all =
    let es : List Entry = old.trail.entries.items in
    subst (λ (x : List ℤ). IsUnitRun old.clauses x (literals more)) (sym (flat-levels es)) (grown-run old.clauses new.trail.positions.items (length old.levels.items) es more
    (subst (λ (x : List Entry). ArePlaced x new.trail.positions.items) e new.trail.placed)
    (subst (λ (known : List (List ℤ)). AreExplained known (es ++ more)) clauses (subst (AreExplained new.clauses) e is.trail.explained)) all)

pub grown-goes_on : (old new : State) → IsGrown old new → (more : List ℤ) × GoesOn (levels_of old.trail.entries.items) (levels_of new.trail.entries.items) more × IsUnitRun old.clauses (trues (view_of old)) more
grown-goes_on old new (is, clauses, (more, e, all)) =
    let level : ℕ = length old.levels.items in
    let es : List Entry = old.trail.entries.items in
    let (more', e', (before, last, was, now)) = levels-more level es new.trail.entries.items (more, e, all) in
    let same : more ≡ more' = append_cancel_left es more more' (sym e ∙ e') in (
      literals more,
      record { before = before; last = last; was = was; is = now ∙ ap (λ (x : List Entry). before ++ (last ++ literals x) ∷ []) (sym same) },
      grown-unit_run old new more is clauses e all,
    )

-- unit clauses lead to the one that is false
pub grown-conflict : (old new : State) (i : ℕ) → IsGrown old new → IsFalseAt new.clauses new.trail.entries.items i → LeadsToConflict old.clauses (trues (view_of old))
grown-conflict old new i (is, clauses, (more, e, all)) (c, at, off) = (
  literals more,
  grown-unit_run old new more is clauses e all,
  (
    c,
    subst (IsAmong c) clauses (among_get c new.clauses i at),
    subst (λ (x : List ℤ). IsFalseUnder x c) (sym (flat-levels new.trail.entries.items) ∙ grown-trues old new more e) (false-under new.trail.entries.items c off),
  ),
)

pub opens-under : (s : State) → AllByRecursion (IsOpen s.trail.entries.items) s.clauses → AllByRecursion (IsOpenUnder (trues (view_of s))) s.clauses
opens-under s open' = all_weaker (IsOpen s.trail.entries.items) (IsOpenUnder (trues (view_of s)))
    (λ c o. subst (λ (x : List ℤ). IsOpenUnder x c) (sym (flat-levels s.trail.entries.items)) (open-under s.trail.entries.items c o)) s.clauses open'

trues-consistent : (s : State) → AreConsistent (trues (view_of s))
trues-consistent s = subst AreConsistent (sym (flat-levels s.trail.entries.items)) (placed-consistent s.trail.entries.items s.trail.positions.items s.trail.placed)

-- where each clause is open they lead to none
pub grown-no_conflict : (old new : State) → IsGrown old new → AllByRecursion (IsOpen new.trail.entries.items) new.clauses → LeadsToConflict old.clauses (trues (view_of old)) → ⊥
grown-no_conflict old new (is, clauses, (more, e, all)) open' (run, is-run, (c, among, off)) =
    let ts : List ℤ = trues (view_of new) in
    let ls : List ℤ = trues (view_of old) in
    let consistent : AreConsistent ts = trues-consistent new in
    let opens : AllByRecursion (IsOpenUnder ts) old.clauses = subst (AllByRecursion (IsOpenUnder ts)) clauses (opens-under new open') in
    let within : AreIn ls ts = λ k among'. subst (IsAmong k) (sym (grown-trues old new more e)) (among_left k ls (literals more) among') in
    open-not_false ts c consistent (all_among (IsOpenUnder ts) old.clauses c opens among) (λ k among'. run-within old.clauses ls run ts consistent opens within is-run (neg_ℤ k) (off k among'))

-- the clause of the index has the next number
pub false-number : (s : State) (i n : ℕ) → n ≡ i + 1 → IsFalseAt s.clauses s.trail.entries.items i → IsFalseNumber (view_of s) n
false-number s i n e (c, at, off) = (
  c,
  ap (numbered_clause s.clauses) (let up : n ≡ suc i = omega arith in up) ∙ at,
  subst (λ (x : List ℤ). IsFalseUnder x c) (sym (flat-levels s.trail.entries.items)) (false-under s.trail.entries.items c off),
)

pub number-false : (s : State) (n : ℕ) → IsFalseNumber (view_of s) n → (0 < n) × IsFalseAt s.clauses s.trail.entries.items (n - 1)
number-false s n (c, is, off) =
    let (some, within, at) = numbered-row s.clauses n c is in
    (some, (c, at, under-false s.trail.entries.items c (subst (λ (x : List ℤ). IsFalseUnder x c) (flat-levels s.trail.entries.items) off)))

-- ---- what a decision makes of it
pub same-view : (vars vars' : ℕ) (known known' levels levels' : List (List ℤ)) → vars ≡ vars' → known ≡ known' → levels ≡ levels'
    → let a : SolverView = record { vars = vars; clauses = known; levels = levels } in let b : SolverView = record { vars = vars'; clauses = known'; levels = levels' } in a ≡ b
same-view vars vars' known known' levels levels' e e' e'' = cc

pub view-decided : (old new : State) (v : SolverView) (l : ℤ) → view_of old ≡ v → KeepsClauses old new → IsDecided old new l → view_of new ≡ record v { levels = v.levels ++ (l ∷ []) ∷ [] }
view-decided old new v l is same decided =
    let e : Entry = record { literal = l; reason = 0; level = length old.levels.items + 1 } in
    same-view _ _ _ _ _ _
    (ap (λ (n : ℕ). n - 1) same.positions ∙ ap (λ (x : SolverView). x.vars) is)
    (same.clauses ∙ ap (λ (x : SolverView). x.clauses) is)
    (ap levels_of decided.entries ∙ levels-decide old.trail.entries.items e refl ∙ ap (λ (x : SolverView). x.levels ++ (l ∷ []) ∷ []) is)

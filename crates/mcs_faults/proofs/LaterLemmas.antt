-- What one use more leaves as it was, and what it adds to counts and lists.
use Rattle.std.proofs.Common.{◌≡◌, ℕ, List, [], ◌∷◌, ◌++◌, Some, refl, inl, inr, ◌↔◌, slice_get}
use Rattle.std.specs.Prelude.{IsTrue}
use Rattle.mcs_base.specs.Listings.{IsAmong}
use Rattle.mcs_sets.specs.Sets.{has}
use Rattle.mcs_base.proofs.Among.{among_push, among_left}
use Rattle.mcs_base.proofs.Lists.{flat_map_push}
use Rattle.mcs_system.specs.Plain.{Name, Formula}
use Rattle.mcs_grammar.specs.Entries.{Use, BeginsContext, BeginsBridge, NamesContext, NamesBridge, Weighs, SaysProgram, BeginsItem, BeginsDefault, NamesTarget, NamesSource, BeginsBelief, EndsRead, AtomOf, IsNumber, OpensWithin}
use Rattle.mcs_grammar.specs.Faults.{NamedRead, WasRead, WasReadInto, WasAtom}
use Rattle.mcs_account.specs.Known.{context_named, contexts_named}
use Rattle.mcs_faults.specs.Watching.{bridge_named, bridges_named, ListsEach}
use Rattle.mcs_account.specs.Images.{IsSpokenOf}
use Rattle.mcs_faults.proofs.DifferentLemmas.{lists-same}

-- ---- what is among them
module _ (before : List Use) (u : Use) where
  abbrev after : List Use
  after = before ++ u ∷ []

  pub earlier : (v : Use) → IsAmong v before → IsAmong v after
  earlier v h = among_left v before (u ∷ []) h

  pub not-new : (v : Use) → ¬ (v ≡ u) → IsAmong v after → IsAmong v before
  not-new v other h = elim ((among_push v before u).0 h) [ inl there ↦ there | inr e ↦ absurd (other e) ]

  pub the-new : IsAmong u after
  the-new = (among_push u before u).1 (inr refl)

  pub same-among : (v : Use) → ¬ (v ≡ u) → IsAmong v before ↔ IsAmong v after
  same-among v other = (earlier v, not-new v other)

  pub spoken-later : (v : Use) → IsSpokenOf before v → IsSpokenOf after v
  spoken-later BeginsContext h = tt
  spoken-later BeginsBridge h = tt
  spoken-later (NamesContext c) h = tt
  spoken-later (NamesBridge c) h = tt
  spoken-later (Weighs n) h = tt
  spoken-later (SaysProgram c) h = earlier (NamesContext c) h
  spoken-later (BeginsItem c) h = earlier (NamesContext c) h
  spoken-later (BeginsDefault c) h = earlier (NamesContext c) h
  spoken-later (NamesTarget c) h = tt
  spoken-later (NamesSource c) h = tt
  spoken-later (BeginsBelief c) h = earlier (NamesContext c) h
  spoken-later (EndsRead d c f) h = (earlier (NamesContext d) h.0, earlier (NamesContext c) h.1)
  spoken-later (AtomOf c a) h = earlier (NamesContext c) h
  spoken-later (IsNumber n) h = tt
  spoken-later (OpensWithin n) h = tt

  -- ---- lists
  pub atoms-later : (c : Name) (xs : List Name) → ((a : Name) → ¬ (AtomOf c a ≡ u)) → ListsEach xs (WasAtom before c) → ListsEach xs (WasAtom after c)
  atoms-later c xs other l = lists-same xs (WasAtom before c) (WasAtom after c) (λ a. same-among (AtomOf c a) (other a)) l

  pub reads-later : (xs : List NamedRead) → ((t c : Name) (f : Formula) → ¬ (EndsRead t c f ≡ u)) → ListsEach xs (WasRead before) → ListsEach xs (WasRead after)
  reads-later xs other l = lists-same xs (WasRead before) (WasRead after) (λ r. (
    λ was. (was.0, earlier (EndsRead was.0 r.context r.belief) was.1),
    λ was. (was.0, not-new (EndsRead was.0 r.context r.belief) (other was.0 r.context r.belief) was.1),
  )) l

  pub inputs-later : (t : Name) (s : ℕ) (xs more : List NamedRead) → ((c : Name) (f : Formula) → ¬ (EndsRead t c f ≡ u))
      → ((k : ℕ) → IsTrue (has s k) ↔ ((r : NamedRead) × (slice_get xs k ≡ Some r) × WasReadInto before t r))
      → ((k : ℕ) (r : NamedRead) → slice_get xs k ≡ Some r → slice_get more k ≡ Some r)
      → ((k : ℕ) (r : NamedRead) → slice_get more k ≡ Some r → WasReadInto before t r → slice_get xs k ≡ Some r)
      → ((k : ℕ) → IsTrue (has s k) ↔ ((r : NamedRead) × (slice_get more k ≡ Some r) × WasReadInto after t r))
  inputs-later t s xs more other is to from k = (
    λ h. let (r, at, was) = (is k).0 h in (r, to k r at, earlier (EndsRead t r.context r.belief) was),
    λ (r, at, was). let was' : WasReadInto before t r = not-new (EndsRead t r.context r.belief) (other r.context r.belief) was in (is k).1 (r, from k r at was', was'),
  )

  -- ---- names
  pub named-later : contexts_named after ≡ contexts_named before ++ context_named u
  named-later = flat_map_push context_named before u

  pub bridges-later : bridges_named after ≡ bridges_named before ++ bridge_named u
  bridges-later = flat_map_push bridge_named before u

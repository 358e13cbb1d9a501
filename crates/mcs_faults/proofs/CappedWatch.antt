-- The watch does not depend on the numbers of tokens.
use Rattle.std.proofs.Common.{◌≡◌, ℕ, Bool, false, cond, ◌+◌, List, [], ◌∷◌, ◌++◌, map, refl, sym, ap, ◌∙◌, subst, inl, inr, ◌↔◌}
use Rattle.std.specs.Prelude.{count_by}
use Rattle.std.proofs.lemmas.List.{append_assoc}
use Rattle.std.proofs.lemmas.List.Sums.{sum_by-append, sum_by-cons}
use Rattle.std.specs.List.{flat_map, AllByRecursion}
use Rattle.mcs_base.specs.Listings.{IsAmong}
use Rattle.mcs_base.proofs.Among.{among_left, among_right, among_either}
use Rattle.mcs_system.specs.Plain.{Name}
use Rattle.mcs_faults.specs.declared.watch.Watch.{Watch}
use Rattle.mcs_faults.specs.declared.watch.ContextSeen.{ContextSeen}
use Rattle.mcs_grammar.specs.Entries.{Use, BeginsContext, BeginsBridge, NamesContext, NamesBridge, Weighs, SaysProgram, BeginsItem, BeginsDefault, NamesTarget, NamesSource, BeginsBelief, EndsRead, AtomOf, IsNumber, OpensWithin}
use Rattle.mcs_grammar.specs.Faults.{begins_context, begins_bridge, names_target, begins_default_of, begins_item_of, AreDifferent, NamedRead, WasRead, WasAtom}
use Rattle.mcs_account.specs.Images.{named_read_of, capped}
use Rattle.mcs_account.specs.Known.{context_named, contexts_named}
use Rattle.mcs_faults.specs.Watching.{bridge_named, bridges_named, ListsEach, IsContextSeen, IsWatch}
use Rattle.mcs_account.specs.Images.{IsSpokenOf}
use Rattle.mcs_faults.proofs.DifferentLemmas.{lists-same}
use Rattle.mcs_account.proofs.UseLemmas.{is_number, among-capped, capped-among}

-- apart from the numbers they are there for the same
pub record IsSame (us vs : List Use) : Type 0 where
  pub among : (u : Use) → is_number u ≡ false → IsAmong u us ↔ IsAmong u vs
  pub counts : (p : Use → Bool) → ((n : ℕ) → p (IsNumber n) ≡ false) → count_by p us ≡ count_by p vs
  pub contexts : contexts_named us ≡ contexts_named vs
  pub bridges : bridges_named us ≡ bridges_named vs

module _ (us vs : List Use) (same : IsSame us vs) where
  spoken-same : (u : Use) → IsSpokenOf us u → IsSpokenOf vs u
  spoken-same (SaysProgram c) h = (same.among (NamesContext c) refl).0 h
  spoken-same (BeginsItem c) h = (same.among (NamesContext c) refl).0 h
  spoken-same (BeginsDefault c) h = (same.among (NamesContext c) refl).0 h
  spoken-same (BeginsBelief c) h = (same.among (NamesContext c) refl).0 h
  spoken-same (AtomOf c a) h = (same.among (NamesContext c) refl).0 h
  spoken-same (EndsRead t c f) h = ((same.among (NamesContext t) refl).0 h.0, (same.among (NamesContext c) refl).0 h.1)
  spoken-same BeginsContext h = tt
  spoken-same BeginsBridge h = tt
  spoken-same (NamesContext c) h = tt
  spoken-same (NamesBridge b) h = tt
  spoken-same (Weighs n) h = tt
  spoken-same (NamesTarget c) h = tt
  spoken-same (NamesSource c) h = tt
  spoken-same (IsNumber n) h = tt
  spoken-same (OpensWithin n) h = tt

  atoms-same : (c : Name) (xs : List Name) → ListsEach xs (WasAtom us c) → ListsEach xs (WasAtom vs c)
  atoms-same c xs l = lists-same xs (WasAtom us c) (WasAtom vs c) (λ a. same.among (AtomOf c a) refl) l

  seen-same : (vars : List NamedRead) (c : ContextSeen) → IsContextSeen vars us c → IsContextSeen vars vs c
  seen-same vars c s = record {
    program = let is = same.among (SaysProgram c.name) refl in (λ h. is.0 (s.program.0 h), λ h. s.program.1 (is.1 h));
    rules = s.rules ∙ same.counts (names_target c.name) (λ n. refl);
    defaults = s.defaults ∙ same.counts (begins_default_of c.name) (λ n. refl);
    items = s.items ∙ same.counts (begins_item_of c.name) (λ n. refl);
    atoms = atoms-same c.name c.atoms s.atoms;
    inputs = λ k. (
      λ h. let (r, at, was) = (s.inputs k).0 h in (r, at, (same.among (EndsRead c.name r.context r.belief) refl).0 was),
      λ (r, at, was). (s.inputs k).1 (r, at, (same.among (EndsRead c.name r.context r.belief) refl).1 was),
    );
    few = s.few;
  }

  all-same : (vars : List NamedRead) (cs : List ContextSeen) → AllByRecursion (IsContextSeen vars us) cs → AllByRecursion (IsContextSeen vars vs) cs
  all-same vars [] all = tt
  all-same vars (c ∷ cs) all = (seen-same vars c all.0, all-same vars cs all.1)

  pub watch-same : (w : Watch) → IsWatch w us → IsWatch w vs
  watch-same w watch = record {
    begun = watch.begun ∙ same.counts begins_context (λ n. refl);
    bridges_begun = watch.bridges_begun ∙ same.counts begins_bridge (λ n. refl);
    named = watch.named ∙ same.contexts;
    bridges = watch.bridges ∙ same.bridges;
    different = (subst (λ (ns : List Name). AreDifferent ns) same.contexts watch.different.0, subst (λ (ns : List Name). AreDifferent ns) same.bridges watch.different.1);
    variables = lists-same (map named_read_of w.variables.items) (WasRead us) (WasRead vs) (λ r. (
      λ was. (was.0, (same.among (EndsRead was.0 r.context r.belief) refl).0 was.1),
      λ was. (was.0, (same.among (EndsRead was.0 r.context r.belief) refl).1 was.1),
    )) watch.variables;
    seen = all-same (map named_read_of w.variables.items) w.contexts.items watch.seen;
    few = watch.few;
    spoken = λ u h. said u h;
    targets = λ c h. (same.among (NamesContext c) refl).0 (watch.targets c ((same.among (NamesTarget c) refl).1 h));
    short = λ t c f h. watch.short t c f ((same.among (EndsRead t c f) refl).1 h);
  }
    where
      said : (u : Use) → IsAmong u vs → IsSpokenOf vs u
      said (IsNumber n) h = tt
      said u h = spoken-same u (watch.spoken u ((same.among u refl).1 h))

-- ---- the numbers as they are told
capped-test : (p : Use → Bool) → ((n : ℕ) → p (IsNumber n) ≡ false) → (u : Use) → p (capped u) ≡ p u
capped-test p none (IsNumber n) = none _ ∙ sym (none n)
capped-test p none u = refl

capped-counts : (p : Use → Bool) → ((n : ℕ) → p (IsNumber n) ≡ false) → (us : List Use) → count_by p (map capped us) ≡ count_by p us
capped-counts p none [] = refl
capped-counts p none (u ∷ us) =
    sum_by-cons (λ x. cond (p x) 1 0) (capped u) (map capped us)
    ∙ ap (λ (b : Bool). cond b 1 0 + count_by p (map capped us)) (capped-test p none u)
    ∙ ap (λ (n : ℕ). cond (p u) 1 0 + n) (capped-counts p none us)
    ∙ sym (sum_by-cons (λ x. cond (p x) 1 0) u us)

capped-named : (f : Use → List Name) → ((u : Use) → f (capped u) ≡ f u) → (us : List Use) → flat_map f (map capped us) ≡ flat_map f us
capped-named f is [] = refl
capped-named f is (u ∷ us) = ap (λ (ns : List Name). ns ++ flat_map f (map capped us)) (is u) ∙ ap (λ (ns : List Name). f u ++ ns) (capped-named f is us)

flat-append : (f : Use → List Name) (us vs : List Use) → flat_map f (us ++ vs) ≡ flat_map f us ++ flat_map f vs
flat-append f [] vs = refl
flat-append f (u ∷ us) vs = ap (λ (ns : List Name). f u ++ ns) (flat-append f us vs) ∙ sym (append_assoc (f u) (flat_map f us) (flat_map f vs))

named-append : (f : Use → List Name) → ((u : Use) → f (capped u) ≡ f u) → (before us : List Use) → flat_map f (before ++ map capped us) ≡ flat_map f (before ++ us)
named-append f is before us = flat-append f before (map capped us) ∙ ap (λ (ns : List Name). flat_map f before ++ ns) (capped-named f is us) ∙ sym (flat-append f before us)

pub capped-watch : (w : Watch) (before us : List Use) → IsWatch w (before ++ map capped us) → IsWatch w (before ++ us)
capped-watch w before us = watch-same (before ++ map capped us) (before ++ us) (record {
  among = λ u other. (
    λ h. elim (among_either u before (map capped us) h) [ inl there ↦ among_left u before us there | inr here ↦ among_right u before us (capped-among u us other here) ],
    λ h. elim (among_either u before us h) [ inl there ↦ among_left u before (map capped us) there | inr here ↦ among_right u before (map capped us) (among-capped u us other here) ],
  );
  counts = λ p none.
      sum_by-append (λ x. cond (p x) 1 0) before (map capped us) ∙ ap (λ (n : ℕ). count_by p before + n) (capped-counts p none us) ∙ sym (sum_by-append (λ x. cond (p x) 1 0) before us);
  contexts = named-append context_named (λ u. named u) before us;
  bridges = named-append bridge_named (λ u. bridged u) before us;
}) w
  where
    named : (u : Use) → context_named (capped u) ≡ context_named u
    named (IsNumber n) = refl
    named u = refl

    bridged : (u : Use) → bridge_named (capped u) ≡ bridge_named u
    bridged (IsNumber n) = refl
    bridged u = refl

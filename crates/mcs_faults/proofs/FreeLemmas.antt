-- A token without a fault: what it is there for may be kept, one use after the other.
use Rattle.std.proofs.Common.{◌≡◌, ℕ, Bool, true, false, List, [], ◌∷◌, ◌++◌, length, ◌≤◌, Option, Some, None, refl, sym, ap, ◌∙◌, subst, inl, inr, ◌↔◌, true≢false}
use Rattle.std.specs.Prelude.{count_by}
use Rattle.std.specs.Option.{option_copied}
use Rattle.std.proofs.lemmas.Bool.{cases_lt}
use Rattle.mcs_base.specs.Listings.{IsAmong}
use Rattle.mcs_base.proofs.Sums.{count_by_push_no}
use Rattle.mcs_base.proofs.Each.{all_among}
use Rattle.mcs_system.specs.Plain.{Name, Formula}
use Rattle.mcs_system.specs.Logic.{atoms}
use Rattle.mcs_system.specs.declared.limit.Limit.TheVariants.{Contexts, Bridges, RulesPerContext, Variables, InputsPerContext, AtomsPerContext, DefaultsPerContext, ItemsPerContext, NameBytes}
use Rattle.mcs_account.specs.declared.reader.NamedRead as code_read
use Rattle.mcs_account.specs.declared.place.Role as code_role
use Rattle.mcs_account.specs.declared.place.Role.TheVariants as roles
use Rattle.mcs_faults.specs.declared.watch.Watch.{Watch}
use Rattle.mcs_faults.specs.declared.watch.Said.{Said}
use Rattle.mcs_grammar.specs.Entries.{Token, Use, BeginsContext, BeginsBridge, NamesContext, NamesBridge, Weighs, SaysProgram, BeginsItem, BeginsDefault, NamesTarget, NamesSource, BeginsBelief, EndsRead, AtomOf, IsNumber, OpensWithin, Entry}
use Rattle.mcs_grammar.specs.Faults.{begins_context, begins_bridge, names_target, begins_default_of, begins_item_of, WasAtom, IsOneMore, TextFault, NoContext, Twin, Exceeds, Has}
use Rattle.mcs_account.specs.Images.{About, role_uses, uses_in, named_read_of}
use Rattle.mcs_grammar.specs.Written.{IsNameWord}
use Rattle.mcs_faults.specs.Watching.{named_read, IsEntryAsked, IsUseAllowed, HaveNoFault}
use Rattle.mcs_account.specs.Images.{IsSpokenOf, AreShort}
use Rattle.mcs_faults.proofs.LimitLemmas.{use-in, in-use}
use Rattle.mcs_faults.proofs.WatchFacts.{is-context}
use Rattle.mcs_faults.proofs.LaterLemmas.{earlier, not-new, same-among, spoken-later}
use Rattle.mcs_account.proofs.UseLemmas.{told-in}

-- ---- one more
one-more-same : {A : Type 0} (n : ℕ) (P Q : A → Type 0) (x : A) → ((y : A) → P y ↔ Q y) → IsOneMore n Q x → IsOneMore n P x
one-more-same n P Q x same h = record {
  values = h.values;
  different = h.different;
  all = λ y. (λ among. (same y).1 ((h.all y).0 among), λ p. (h.all y).1 ((same y).0 p));
  count = h.count;
  new = λ p. h.new ((same x).0 p);
}

-- ---- what is kept first takes no room of the others
-- it is none of the kinds of a role
pub record IsEarly (v : Use) : Type 0 where
  pub contexts : begins_context v ≡ false
  pub bridges : begins_bridge v ≡ false
  pub context : (c : Name) → ¬ (NamesContext c ≡ v)
  pub bridge : (b : Name) → ¬ (NamesBridge b ≡ v)
  pub targets : (c : Name) → names_target c v ≡ false
  pub defaults : (c : Name) → begins_default_of c v ≡ false
  pub atoms : (c a : Name) → ¬ (AtomOf c a ≡ v)

pub early-read : (t c : Name) (f : Formula) → IsEarly (EndsRead t c f)
early-read t c f = record { contexts = refl; bridges = refl; context = λ d e. cc; bridge = λ b e. cc; targets = λ d. refl; defaults = λ d. refl; atoms = λ d a e. cc }

pub early-belief : (c : Name) → IsEarly (BeginsBelief c)
early-belief c = record { contexts = refl; bridges = refl; context = λ d e. cc; bridge = λ b e. cc; targets = λ d. refl; defaults = λ d. refl; atoms = λ d a e. cc }

pub early-item : (c : Name) → IsEarly (BeginsItem c)
early-item c = record { contexts = refl; bridges = refl; context = λ d e. cc; bridge = λ b e. cc; targets = λ d. refl; defaults = λ d. refl; atoms = λ d a e. cc }

abbrev pub is_role_use : Use → Bool
is_role_use (EndsRead t c f) = false
is_role_use (BeginsBelief c) = false
is_role_use (BeginsItem c) = false
is_role_use u = true

pub role-uses-are : (a : About) (t : Token) (r : code_role.Role) (u : Use) → IsAmong u (role_uses a t r) → is_role_use u ≡ true
role-uses-are a t roles.Nothing u h = absurd h
role-uses-are a t (roles.Atom n) u (inl e) = ap is_role_use e
role-uses-are a t (roles.Atom n) u (inr (inl e)) = ap is_role_use e
role-uses-are a t (roles.Atom n) u (inr (inr none)) = absurd none
role-uses-are a t roles.BeginsContext u (inl e) = ap is_role_use e
role-uses-are a t roles.BeginsContext u (inr none) = absurd none
role-uses-are a t roles.BeginsBridge u (inl e) = ap is_role_use e
role-uses-are a t roles.BeginsBridge u (inr none) = absurd none
role-uses-are a t roles.NamesContext u (inl e) = ap is_role_use e
role-uses-are a t roles.NamesContext u (inr none) = absurd none
role-uses-are a t roles.NamesBridge u (inl e) = ap is_role_use e
role-uses-are a t roles.NamesBridge u (inr none) = absurd none
role-uses-are a t roles.Weighs u (inl e) = ap is_role_use e
role-uses-are a t roles.Weighs u (inr none) = absurd none
role-uses-are a t roles.SaysProgram u (inl e) = ap is_role_use e
role-uses-are a t roles.SaysProgram u (inr none) = absurd none
role-uses-are a t roles.BeginsDefault u (inl e) = ap is_role_use e
role-uses-are a t roles.BeginsDefault u (inr none) = absurd none
role-uses-are a t roles.NamesTarget u (inl e) = ap is_role_use e
role-uses-are a t roles.NamesTarget u (inr none) = absurd none
role-uses-are a t roles.NamesSource u (inl e) = ap is_role_use e
role-uses-are a t roles.NamesSource u (inr none) = absurd none
role-uses-are a t (roles.Counted n) u (inl e) = ap is_role_use e
role-uses-are a t (roles.Counted n) u (inr none) = absurd none
role-uses-are a t (roles.Opens n) u (inl e) = ap is_role_use e
role-uses-are a t (roles.Opens n) u (inr none) = absurd none

module _ (before : List Use) (v : Use) where
  count-stays : (p : Use → Bool) (n : ℕ) → p v ≡ false → ¬ (count_by p before ≡ n) → ¬ (count_by p (before ++ v ∷ []) ≡ n)
  count-stays p n other h e = h (sym (count_by_push_no p before v other) ∙ e)

  role-later : IsEarly v → (u : Use) → is_role_use u ≡ true → IsUseAllowed before u → IsUseAllowed (before ++ v ∷ []) u
  role-later early BeginsContext e h = count-stays begins_context 64 early.contexts h
  role-later early BeginsBridge e h = count-stays begins_bridge 64 early.bridges h
  role-later early (NamesContext d) e h = λ there. h (not-new before v (NamesContext d) (early.context d) there)
  role-later early (NamesBridge d) e h = λ there. h (not-new before v (NamesBridge d) (early.bridge d) there)
  role-later early (NamesTarget d) e h = (earlier before v (NamesContext d) h.0, count-stays (names_target d) 12 (early.targets d) h.1)
  role-later early (BeginsDefault d) e h = count-stays (begins_default_of d) 10 (early.defaults d) h
  role-later early (AtomOf d x) e h = λ more. h (one-more-same 64 (WasAtom before d) (WasAtom (before ++ v ∷ []) d) x (λ y. same-among before v (AtomOf d y) (early.atoms d y)) more)
  role-later early (BeginsItem d) e h = absurd (true≢false (sym e))
  role-later early (EndsRead d x g) e h = absurd (true≢false (sym e))
  role-later early (BeginsBelief d) e h = tt
  role-later early (SaysProgram d) e h = tt
  role-later early (Weighs n) e h = tt
  role-later early (NamesSource d) e h = tt
  role-later early (IsNumber n) e h = tt
  role-later early (OpensWithin n) e h = tt

  -- a use of the role, or the beginning of an item, as before
  pub roles-later : IsEarly v → (a : About) (t : Token) (r : code_role.Role) → HaveNoFault before (role_uses a t r) → HaveNoFault (before ++ v ∷ []) (role_uses a t r)
  roles-later early a t r free u h = (spoken-later before v u (free u h).0, role-later early u (role-uses-are a t r u h) (free u h).1)

  pub item-later : (c : Name) → begins_item_of c v ≡ false → IsSpokenOf before (BeginsItem c) × IsUseAllowed before (BeginsItem c) → IsSpokenOf (before ++ v ∷ []) (BeginsItem c) × IsUseAllowed (before ++ v ∷ []) (BeginsItem c)
  item-later c other free = (spoken-later before v (BeginsItem c) free.0, count-stays (begins_item_of c) 4096 other free.1)

-- ---- a token that has no fault
module _ (w : Watch) (before : List Use) (m : Entry) (a : About) (s : Said) (asked : IsEntryAsked w before m a s) (none : (f : TextFault) → ¬ Has f before m) where
  -- the name is no longer than a name may be
  pub fitting : IsNameWord m.token → length m.token ≤ 64
  fitting word = elim (cases_lt 64 (length m.token)) [ inl long ↦ absurd (none (Exceeds NameBytes) (word, long)) | inr short ↦ short ]

  -- the read is to hand
  pub read-there : s.uses.ends_read ≡ true → (r : code_read.NamedRead) × (option_copied s.read ≡ Some r) × (named_read_of r ≡ named_read a.subject.context a.belief)
  read-there ends = at (option_copied s.read) refl
    where
      at : (o : Option code_read.NamedRead) → option_copied s.read ≡ o → (r : code_read.NamedRead) × (option_copied s.read ≡ Some r) × (named_read_of r ≡ named_read a.subject.context a.belief)
      at (Some r) e = (r, e, asked.said.read_is ends r e)
      at None e = absurd (none (Exceeds NameBytes) (asked.said.read_there ends e))

  pub allowed-use : (u : Use) → IsAmong u m.uses → IsUseAllowed before u
  allowed-use BeginsContext h = λ full. none (Exceeds Contexts) (h, full)
  allowed-use BeginsBridge h = λ full. none (Exceeds Bridges) (h, full)
  allowed-use (NamesContext c) h = λ there. none Twin (inl (c, h, there))
  allowed-use (NamesBridge b) h = λ there. none Twin (inr (b, h, there))
  allowed-use (NamesTarget c) h = (named c h, λ full. none (Exceeds RulesPerContext) (c, h, full))
    where
      named : (c : Name) → IsAmong (NamesTarget c) m.uses → IsAmong (NamesContext c) before
      named c h = elim (is-context w before asked.watch c) [ inl there ↦ there | inr unseen ↦ absurd (none NoContext (c, inl h, unseen)) ]
  allowed-use (BeginsDefault c) h = λ full. none (Exceeds DefaultsPerContext) (c, h, full)
  allowed-use (BeginsItem c) h = λ full. none (Exceeds ItemsPerContext) (c, h, full)
  allowed-use (AtomOf c x) h = λ full. none (Exceeds AtomsPerContext) (c, (x, h, full))
  allowed-use (EndsRead t c f) h = (
    short,
    λ full. none (Exceeds Variables) (t, (named_read c f, h, full)),
    λ full. none (Exceeds InputsPerContext) (t, (named_read c f, h, full)),
  )
    where
      short : AreShort (atoms f)
      short =
          let is = use-in w before m a s asked (EndsRead t c f) refl h in
          let (r, e, _same) = read-there is.0 in
          subst (λ (g : Formula). AreShort (atoms g)) (sym is.3) (asked.said.short is.0 r e fitting)
  allowed-use (BeginsBelief c) h = tt
  allowed-use (SaysProgram c) h = tt
  allowed-use (Weighs n) h = tt
  allowed-use (NamesSource c) h = tt
  allowed-use (IsNumber n) h = tt
  allowed-use (OpensWithin n) h = tt

  pub free-uses : HaveNoFault before (uses_in a s.token.now s.uses)
  free-uses u h = go u h
    where
      go : (u : Use) → IsAmong u (uses_in a s.token.now s.uses) → IsSpokenOf before u × IsUseAllowed before u
      go (IsNumber n) h = (tt, tt)
      go u h =
          let there : IsAmong u m.uses = in-use w before m a s asked u refl (told-in a s.token.now s.uses u h) in
          (all_among (IsSpokenOf before) m.uses u asked.spoken there, allowed-use u there)

  -- no read ends where none is to hand
  pub no-read : s.read ≡ None → s.uses.ends_read ≡ false
  no-read e = at s.uses.ends_read refl
    where
      at : (b : Bool) → s.uses.ends_read ≡ b → b ≡ false
      at false ends = refl
      at true ends = let (r, is, _same) = read-there ends in absurd (let no-such : None ≡ Some r = sym (ap option_copied e) ∙ is in cc)

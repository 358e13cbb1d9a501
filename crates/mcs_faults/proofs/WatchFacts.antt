-- What the watch tells of what came before.
use Rattle.std.proofs.Common.{◌≡◌, ℕ, ◌<◌, Bool, true, false, List, map, length, Some, None, refl, sym, ap, ◌∙◌, subst, inl, inr, ◌⊎◌, ◌↔◌, arith, true≢false, slice_get}
use Rattle.std.specs.Prelude.{count_by, IsTrue}
use Rattle.std.proofs.lemmas.List.{length-map}
use Rattle.std.proofs.lemmas.Option.{same_Some, slice_get_within}
use Rattle.std.proofs.lemmas.Bool.{false_from_ne_true}
use Rattle.mcs_base.specs.Listings.{IsAmong}
use Rattle.mcs_base.proofs.Lists.{slice_get-map_some, slice_get_none}
use Rattle.mcs_base.proofs.Sums.{count_none}
use Rattle.mcs_base.proofs.Among.{among_get, among_flat_map, flat_map_among, any_get, among_any}
use Rattle.mcs_base.proofs.Each.{all_among}
use Rattle.mcs_system.specs.Plain.{Name}
use Rattle.mcs_system.specs.Logic.{same_name, is_in}
use Rattle.mcs_system.proofs.Sameness.{same_name-is, same_name-itself}
use Rattle.mcs_faults.specs.declared.watch.Watch.{Watch}
use Rattle.mcs_faults.specs.declared.watch.ContextSeen.{ContextSeen}
use Rattle.mcs_grammar.specs.Entries.{Use, BeginsContext, BeginsBridge, NamesContext, NamesBridge, Weighs, SaysProgram, BeginsItem, BeginsDefault, NamesTarget, NamesSource, BeginsBelief, EndsRead, AtomOf, IsNumber, OpensWithin}
use Rattle.mcs_grammar.specs.Faults.{names_target, begins_default_of, begins_item_of, IsOneMore}
use Rattle.mcs_account.specs.Images.{named_read_of}
use Rattle.mcs_account.specs.Known.{context_named, contexts_named}
use Rattle.mcs_faults.specs.Watching.{bridge_named, bridges_named, ListsEach, IsContextSeen, names_seen, IsWatch, IsNumberOf}
use Rattle.mcs_faults.proofs.DifferentLemmas.{same-length}

-- ---- names
pub context-named : (n : Name) (us : List Use) → IsAmong (NamesContext n) us ↔ IsAmong n (contexts_named us)
context-named n us = (
  λ h. among_flat_map context_named (NamesContext n) n us h (inl refl),
  λ h. let (u, there, is) = flat_map_among context_named n us h in subst (λ (v : Use). IsAmong v us) (back u is) there,
)
  where
    back : (u : Use) → IsAmong n (context_named u) → u ≡ NamesContext n
    back (NamesContext c) (inl e) = ap (λ x. NamesContext x) (sym e)
    back (NamesContext c) (inr none) = absurd none
    back BeginsContext none = absurd none
    back BeginsBridge none = absurd none
    back (NamesBridge b) none = absurd none
    back (Weighs k) none = absurd none
    back (SaysProgram c) none = absurd none
    back (BeginsItem c) none = absurd none
    back (BeginsDefault c) none = absurd none
    back (NamesTarget c) none = absurd none
    back (NamesSource c) none = absurd none
    back (BeginsBelief c) none = absurd none
    back (EndsRead d c f) none = absurd none
    back (AtomOf c x) none = absurd none
    back (IsNumber k) none = absurd none
    back (OpensWithin k) none = absurd none

pub bridge-named : (n : Name) (us : List Use) → IsAmong (NamesBridge n) us ↔ IsAmong n (bridges_named us)
bridge-named n us = (
  λ h. among_flat_map bridge_named (NamesBridge n) n us h (inl refl),
  λ h. let (u, there, is) = flat_map_among bridge_named n us h in subst (λ (v : Use). IsAmong v us) (back u is) there,
)
  where
    back : (u : Use) → IsAmong n (bridge_named u) → u ≡ NamesBridge n
    back (NamesBridge c) (inl e) = ap (λ x. NamesBridge x) (sym e)
    back (NamesBridge c) (inr none) = absurd none
    back BeginsContext none = absurd none
    back BeginsBridge none = absurd none
    back (NamesContext b) none = absurd none
    back (Weighs k) none = absurd none
    back (SaysProgram c) none = absurd none
    back (BeginsItem c) none = absurd none
    back (BeginsDefault c) none = absurd none
    back (NamesTarget c) none = absurd none
    back (NamesSource c) none = absurd none
    back (BeginsBelief c) none = absurd none
    back (EndsRead d c f) none = absurd none
    back (AtomOf c x) none = absurd none
    back (IsNumber k) none = absurd none
    back (OpensWithin k) none = absurd none

pub named-there : (w : Watch) (before : List Use) → IsWatch w before → (n : Name) → IsAmong n (names_seen w) ↔ IsAmong (NamesContext n) before
named-there w before watch n = (
  λ h. (context-named n before).1 (subst (IsAmong n) watch.named h),
  λ h. subst (IsAmong n) (sym watch.named) ((context-named n before).0 h),
)

pub bridge-there : (w : Watch) (before : List Use) → IsWatch w before → (n : Name) → IsAmong n w.bridges ↔ IsAmong (NamesBridge n) before
bridge-there w before watch n = (
  λ h. (bridge-named n before).1 (subst (IsAmong n) watch.bridges h),
  λ h. subst (IsAmong n) (sym watch.bridges) ((bridge-named n before).0 h),
)

-- ---- numbers
-- it is there exactly if its number is one
pub number-there : {A : Type 0} (xs : List A) (x : A) (k : ℕ) → IsNumberOf xs x k → (k < length xs) ↔ IsAmong x xs
number-there xs x k (inl is) = (λ _. among_get x xs k is, λ _. slice_get_within xs k x is)
number-there xs x k (inr (e, none)) = (λ less. absurd (omega arith), λ h. absurd (none h))

module _ (w : Watch) (before : List Use) (watch : IsWatch w before) (n : Name) (k : ℕ) (number : IsNumberOf (names_seen w) n k) where
  -- the context of the number
  pub seen-name : (c : ContextSeen) → slice_get w.contexts.items k ≡ Some c → c.name ≡ n
  seen-name c is = go number (slice_get-map_some (λ (s : ContextSeen). s.name) w.contexts.items k c is)
    where
      go : IsNumberOf (names_seen w) n k → slice_get (names_seen w) k ≡ Some c.name → c.name ≡ n
      go (inl here) is' = same_Some _ _ (sym is' ∙ here)
      go (inr (e, none)) is' = absurd (let less = slice_get_within (names_seen w) k c.name is' in omega arith)

  pub seen-here : (c : ContextSeen) → slice_get w.contexts.items k ≡ Some c → IsContextSeen (map named_read_of w.variables.items) before c
  seen-here c is = all_among (IsContextSeen (map named_read_of w.variables.items) before) w.contexts.items c watch.seen (among_get c w.contexts.items k is)

  pub rules-here : (c : ContextSeen) → slice_get w.contexts.items k ≡ Some c → c.rules ≡ count_by (names_target n) before
  rules-here c is = subst (λ (x : Name). c.rules ≡ count_by (names_target x) before) (seen-name c is) (seen-here c is).rules

  pub defaults-here : (c : ContextSeen) → slice_get w.contexts.items k ≡ Some c → c.defaults ≡ count_by (begins_default_of n) before
  defaults-here c is = subst (λ (x : Name). c.defaults ≡ count_by (begins_default_of x) before) (seen-name c is) (seen-here c is).defaults

  pub items-here : (c : ContextSeen) → slice_get w.contexts.items k ≡ Some c → c.items ≡ count_by (begins_item_of n) before
  items-here c is = subst (λ (x : Name). c.items ≡ count_by (begins_item_of x) before) (seen-name c is) (seen-here c is).items

  pub program-here : (c : ContextSeen) → slice_get w.contexts.items k ≡ Some c → IsTrue c.is_program ↔ IsAmong (SaysProgram n) before
  program-here c is = subst (λ (x : Name). IsTrue c.is_program ↔ IsAmong (SaysProgram x) before) (seen-name c is) (seen-here c is).program

  -- there is none
  pub seen-none : slice_get w.contexts.items k ≡ None → ¬ IsAmong (NamesContext n) before
  seen-none is h =
      let long = slice_get_none w.contexts.items k is in
      let same = length-map w.contexts.items (λ (s : ContextSeen). s.name) in
      let less = (number-there (names_seen w) n k number).1 (subst (IsAmong n) (sym watch.named) ((context-named n before).0 h)) in
      omega arith

-- ---- counts
module _ (w : Watch) (before : List Use) (watch : IsWatch w before) (n : Name) (unseen : ¬ IsAmong (NamesContext n) before) where
  other-name : (d : Name) → IsAmong (NamesContext d) before → same_name n d ≡ false
  other-name d h = false_from_ne_true (same_name n d) (λ e. unseen (subst (λ (x : Name). IsAmong (NamesContext x) before) (sym (same_name-is n d e)) h))

  pub no-rules : count_by (names_target n) before ≡ 0
  no-rules = count_none (names_target n) before go
    where
      go : (u : Use) → IsAmong u before → names_target n u ≡ false
      go (NamesTarget d) h = other-name d (watch.targets d h)
      go BeginsContext h = refl
      go BeginsBridge h = refl
      go (NamesContext b) h = refl
      go (NamesBridge b) h = refl
      go (Weighs k) h = refl
      go (SaysProgram c) h = refl
      go (BeginsItem c) h = refl
      go (BeginsDefault c) h = refl
      go (NamesSource c) h = refl
      go (BeginsBelief c) h = refl
      go (EndsRead d c f) h = refl
      go (AtomOf c x) h = refl
      go (IsNumber k) h = refl
      go (OpensWithin k) h = refl

  pub no-defaults : count_by (begins_default_of n) before ≡ 0
  no-defaults = count_none (begins_default_of n) before go
    where
      go : (u : Use) → IsAmong u before → begins_default_of n u ≡ false
      go (BeginsDefault d) h = other-name d (watch.spoken (BeginsDefault d) h)
      go BeginsContext h = refl
      go BeginsBridge h = refl
      go (NamesContext b) h = refl
      go (NamesBridge b) h = refl
      go (Weighs k) h = refl
      go (SaysProgram c) h = refl
      go (BeginsItem c) h = refl
      go (NamesTarget c) h = refl
      go (NamesSource c) h = refl
      go (BeginsBelief c) h = refl
      go (EndsRead d c f) h = refl
      go (AtomOf c x) h = refl
      go (IsNumber k) h = refl
      go (OpensWithin k) h = refl

  pub no-items : count_by (begins_item_of n) before ≡ 0
  no-items = count_none (begins_item_of n) before go
    where
      go : (u : Use) → IsAmong u before → begins_item_of n u ≡ false
      go (BeginsItem d) h = other-name d (watch.spoken (BeginsItem d) h)
      go BeginsContext h = refl
      go BeginsBridge h = refl
      go (NamesContext b) h = refl
      go (NamesBridge b) h = refl
      go (Weighs k) h = refl
      go (SaysProgram c) h = refl
      go (BeginsDefault c) h = refl
      go (NamesTarget c) h = refl
      go (NamesSource c) h = refl
      go (BeginsBelief c) h = refl
      go (EndsRead d c f) h = refl
      go (AtomOf c x) h = refl
      go (IsNumber k) h = refl
      go (OpensWithin k) h = refl

-- ---- one more than are listed
pub one-more : {A : Type 0} (xs : List A) (P : A → Type 0) (n : ℕ) (x : A) → ListsEach xs P → IsOneMore n P x ↔ ((length xs ≡ n) × (¬ IsAmong x xs))
one-more xs P n x l = (
  λ h. (same-length xs h.values P l (h.different, h.all) ∙ h.count, λ there. h.new ((l.1 x).0 there)),
  λ h. record { values = xs; different = l.0; all = l.1; count = h.0; new = λ p. h.1 ((l.1 x).1 p) },
)

-- ---- whether a context has the name
pub is-context : (w : Watch) (before : List Use) → IsWatch w before → (n : Name) → IsAmong (NamesContext n) before ⊎ (¬ IsAmong (NamesContext n) before)
is-context w before watch n = at (is_in n (names_seen w)) refl
  where
    at : (b : Bool) → is_in n (names_seen w) ≡ b → IsAmong (NamesContext n) before ⊎ (¬ IsAmong (NamesContext n) before)
    at true e = let (i, x, is, same) = any_get (same_name n) (names_seen w) e in
        inl ((named-there w before watch n).0 (subst (λ (y : Name). IsAmong y (names_seen w)) (sym (same_name-is n x same)) (among_get x (names_seen w) i is)))
    at false e = inr (λ h. true≢false (sym (among_any (same_name n) (names_seen w) n ((named-there w before watch n).1 h) (same_name-itself n)) ∙ e))

-- All that a token is there for, one after the other.
use Rattle.std.proofs.Common.{◌≡◌, Bool, true, false, not, ◌&&◌, List, [], ◌∷◌, ◌++◌, map, length, refl, sym, ap, ◌∙◌, subst, inl, inr, true≢false}
use Rattle.std.specs.Prelude.{IsTrue, nat_le}
use Rattle.std.proofs.lemmas.Bool.{and_parts, le-leb}
use Rattle.std.proofs.lemmas.List.{append-nil, append_assoc}
use Rattle.mcs_base.specs.Listings.{IsAmong}
use Rattle.mcs_base.specs.Words.{is_word, is_reserved, is_name}
use Rattle.mcs_base.proofs.Among.{among_left, among_right}
use Rattle.mcs_system.specs.Plain.{Name}
use Rattle.mcs_faults.specs.declared.watch.Watch.{Watch}
use Rattle.mcs_faults.specs.declared.watch.Said.{Said}
use Rattle.mcs_grammar.specs.Written.{IsNameWord}
use Rattle.mcs_grammar.specs.Entries.{Token, Use, BeginsItem, BeginsBelief, EndsRead, Entry}
use Rattle.mcs_grammar.specs.Faults.{TextFault, Has, begins_item_of}
use Rattle.mcs_account.specs.Account.{when}
use Rattle.mcs_account.specs.Images.{About, capped, role_uses, uses_in}
use Rattle.mcs_account.specs.Known.{context_named, contexts_named}
use Rattle.mcs_faults.specs.Watching.{names_seen, IsWatch, IsNumberOf, IsEntryAsked, IsUseAllowed, HaveNoFault}
use Rattle.mcs_account.specs.Images.{IsSpokenOf, IsNaming}
use Rattle.mcs_faults.proofs.CappedWatch.{capped-watch}
use Rattle.mcs_faults.proofs.FreeLemmas.{early-read, early-belief, early-item, roles-later, item-later, fitting, free-uses}
use Rattle.mcs_faults.proofs.LaterLemmas.{named-later}
use Rattle.mcs_faults.proofs.LimitLemmas.{spoken-of}
use Rattle.mcs_faults.proofs.PlainSteps.{step-begins_belief}

-- ---- of what is there only sometimes
pub when-yes : (b : Bool) (v : Use) → b ≡ true → when b v ≡ v ∷ []
when-yes true v e = refl
when-yes false v e = absurd (true≢false (sym e))

pub when-no : (b : Bool) (v : Use) → b ≡ false → when b v ≡ []
when-no false v e = refl
when-no true v e = absurd (true≢false e)

pub when-later : (P : List Use → Type 0) (before : List Use) (b : Bool) (v : Use) → P before → (b ≡ true → P (before ++ v ∷ [])) → P (before ++ when b v)
when-later P before true v stays goes = goes refl
when-later P before false v stays goes = subst P (sym (append-nil before)) stays

item-free : (before : List Use) (v : Use) (b : Bool) (c : Name) → begins_item_of c v ≡ false → HaveNoFault before (when b (BeginsItem c)) → HaveNoFault (before ++ v ∷ []) (when b (BeginsItem c))
item-free before v true c other free u (inl e) =
    let h : IsSpokenOf (before ++ v ∷ []) (BeginsItem c) × IsUseAllowed (before ++ v ∷ []) (BeginsItem c) = item-later before v c other (free (BeginsItem c) (inl refl)) in
    subst (λ (x : Use). IsSpokenOf (before ++ v ∷ []) x × IsUseAllowed (before ++ v ∷ []) x) (sym e) h
item-free before v true c other free u (inr none) = absurd none
item-free before v false c other free u none = absurd none

module _ (w : Watch) (before : List Use) (m : Entry) (a : About) (s : Said) (asked : IsEntryAsked w before m a s) (none : (f : TextFault) → ¬ Has f before m) where
  abbrev read : Use
  read = EndsRead a.subject.target a.subject.context a.belief

  abbrev belief : Use
  belief = BeginsBelief a.subject.context

  abbrev item : Use
  item = BeginsItem a.subject.context

  abbrev after_read : List Use
  after_read = before ++ when s.uses.ends_read read

  abbrev pub after_belief : List Use
  after_belief = after_read ++ when s.uses.begins_belief belief

  abbrev pub after_item : List Use
  after_item = after_belief ++ when s.uses.begins_item item

  abbrev pub role : List Use
  role = role_uses a s.token.now s.uses.role

  free-of : (us : List Use) → ((u : Use) → IsAmong u us → IsAmong u (uses_in a s.token.now s.uses)) → HaveNoFault before us
  free-of us within u h = free-uses w before m a s asked none u (within u h)

  -- ---- what may be kept after the first ones
  pub free-item : HaveNoFault after_belief (when s.uses.begins_item item)
  free-item =
      let P : List Use → Type 0 = λ (us : List Use). HaveNoFault us (when s.uses.begins_item item) in
      let start : P before = free-of (when s.uses.begins_item item) (λ u h. among_right u (when s.uses.ends_read read) _ (among_right u (when s.uses.begins_belief belief) _ (among_left u (when s.uses.begins_item item) _ h))) in
      let next : P after_read = when-later P before s.uses.ends_read read start (λ _. item-free before read s.uses.begins_item a.subject.context refl start) in
      when-later P after_read s.uses.begins_belief belief next (λ _. item-free after_read belief s.uses.begins_item a.subject.context refl next)

  pub free-role : HaveNoFault after_item role
  free-role =
      let P : List Use → Type 0 = λ (us : List Use). HaveNoFault us role in
      let start : P before = free-of role (λ u h. among_right u (when s.uses.ends_read read) _ (among_right u (when s.uses.begins_belief belief) _ (among_right u (when s.uses.begins_item item) _ h))) in
      let next : P after_read = when-later P before s.uses.ends_read read start (λ _. roles-later before read (early-read a.subject.target a.subject.context a.belief) a s.token.now s.uses.role start) in
      let then' : P after_belief = when-later P after_read s.uses.begins_belief belief next (λ _. roles-later after_read belief (early-belief a.subject.context) a s.token.now s.uses.role next) in
      when-later P after_belief s.uses.begins_item item then' (λ _. roles-later after_belief item (early-item a.subject.context) a s.token.now s.uses.role then')

  -- ---- the contexts are those that were named before
  named-same : (us : List Use) (v : Use) → context_named v ≡ [] → contexts_named us ≡ contexts_named before → contexts_named (us ++ v ∷ []) ≡ contexts_named before
  named-same us v other same = named-later us v ∙ ap (λ (ns : List Name). contexts_named us ++ ns) other ∙ append-nil (contexts_named us) ∙ same

  names-belief : contexts_named after_belief ≡ contexts_named before
  names-belief =
      let P : List Use → Type 0 = λ (us : List Use). contexts_named us ≡ contexts_named before in
      let next : P after_read = when-later P before s.uses.ends_read read refl (λ _. named-same before read refl refl) in
      when-later P after_read s.uses.begins_belief belief next (λ _. named-same after_read belief refl next)

  names-item : contexts_named after_item ≡ contexts_named before
  names-item =
      let P : List Use → Type 0 = λ (us : List Use). contexts_named us ≡ contexts_named before in
      when-later P after_belief s.uses.begins_item item names-belief (λ _. named-same after_belief item refl names-belief)

  pub number-belief : (w' : Watch) → IsWatch w' after_belief → IsNumberOf (names_seen w') a.subject.context s.subject.context
  number-belief w' watch = subst (λ (ns : List Name). IsNumberOf ns a.subject.context s.subject.context) (asked.watch.named ∙ sym names-belief ∙ sym watch.named) asked.subject_is.context

  pub number-item : (w' : Watch) → IsWatch w' after_item → IsNumberOf (names_seen w') a.subject.context s.subject.context
  number-item w' watch = subst (λ (ns : List Name). IsNumberOf ns a.subject.context s.subject.context) (asked.watch.named ∙ sym names-item ∙ sym watch.named) asked.subject_is.context

  -- ---- the first of a belief is not kept
  pub kept-belief : (w' : Watch) → IsWatch w' after_read → IsWatch w' after_belief
  kept-belief w' watch =
      when-later (IsWatch w') after_read s.uses.begins_belief belief watch (λ begins.
      step-begins_belief w' after_read watch a.subject.context (spoken-read (spoken-of w before m a s asked belief refl (begins, refl))))
    where
      spoken-read : IsSpokenOf before belief → IsSpokenOf after_read belief
      spoken-read h = among_left _ before (when s.uses.ends_read read) h

  pub name-read : IsNaming s.uses.role → IsTrue (is_name s.token.now)
  name-read naming =
      let word : IsNameWord m.token = asked.said.names naming in
      let short = fitting w before m a s asked none word in
      let parts = and_parts (is_word m.token) (not (is_reserved m.token)) word in
      subst (λ (t : Token). IsTrue (is_name t)) asked.token_is (all-three (is_word m.token) (not (is_reserved m.token)) (nat_le (length m.token) 64) parts.0 parts.1 (le-leb (length m.token) 64 short))
    where
      all-three : (x y z : Bool) → x ≡ true → y ≡ true → z ≡ true → (x && (y && z)) ≡ true
      all-three x y z e e' e'' = rw (e, e', e'') refl

  pub all-kept : (w' : Watch) → IsWatch w' (after_item ++ role) → IsWatch w' (before ++ m.uses)
  all-kept w' watch =
      let told : map capped m.uses ≡ uses_in a s.token.now s.uses = subst (λ (t : Token). map capped m.uses ≡ uses_in a t s.uses) asked.token_is asked.said.uses_are in
      capped-watch w' before m.uses (subst (IsWatch w')
      (append_assoc after_belief (when s.uses.begins_item item) role
      ∙ append_assoc after_read (when s.uses.begins_belief belief) (when s.uses.begins_item item ++ role)
      ∙ append_assoc before (when s.uses.ends_read read) (when s.uses.begins_belief belief ++ (when s.uses.begins_item item ++ role))
      ∙ ap (λ (us : List Use). before ++ us) (sym told)) watch)

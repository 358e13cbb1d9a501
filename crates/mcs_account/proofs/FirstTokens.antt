-- The first tokens of the beliefs of bridge rules, and what stands before them.
use Rattle.std.proofs.Common.{◌≡◌, ℕ, ◌+◌, true, codes, List, [], ◌∷◌, ◌++◌, length, take, Some, refl, sym, ap, ◌∙◌, inl, inr, subst, true≢false}
use Rattle.std.specs.Prelude.{slice_get}
use Rattle.std.specs.List.{flat_map}
use Rattle.std.proofs.Math.Seq.{take-append-add}
use Rattle.mcs_base.specs.Listings.{IsAmong}
use Rattle.mcs_base.specs.Words.{reserved_words}
use Rattle.mcs_base.proofs.Lists.{slice_get-append_right}
use Rattle.mcs_base.proofs.Among.{among_left, among_right, get_among, among_flat_map}
use Rattle.mcs_system.specs.Plain.{Name}
use Rattle.mcs_system.specs.Faults.{is_atom}
use Rattle.mcs_grammar.specs.Written.{Written, True', False', Named, Prefixed, Grouped, Joins, level, IsNameWord, WrittenPlace, IsPlace, WrittenRead, WrittenBridge, WrittenText}
use Rattle.mcs_grammar.specs.Entries.{Use, BeginsBelief, NamesTarget, NamesSource, Entry, entry, with_first, with_last, formula_in, whole_entries, optional, place_entries, read_entries, further_read, reads_entries, context_entries, mark_entries, bridge_entries, version_entries, text_entries, uses_of}
use Rattle.mcs_account.proofs.Signs.{prefix-no-name, joined-high}
use Rattle.mcs_account.proofs.UsesParts.{IsPlaceOf, OfHead, OfRead}
use Rattle.mcs_account.proofs.EntryLists.{uses-append}
use Rattle.mcs_account.proofs.BridgeUses.{read_end}

-- ---- a belief's first token
pub record IsFirstOf (p : WrittenPlace) (m : Entry) : Type 0 where
  pub begins : IsAmong (BeginsBelief p.context) m.uses
  pub atom : IsNameWord m.token → is_atom (formula_in p.belief) ≡ true

abbrev belief_entries : Name → Written → List Entry
belief_entries c f = with_first (BeginsBelief c ∷ []) (whole_entries c f)

abbrev place : Name → Written → WrittenPlace
place c f = record { context = c; belief = f }

abbrev IsBegun : Name → Written → Type 0
IsBegun c f = (m : Entry) × IsAmong m (belief_entries c f) × IsFirstOf (place c f) m

begun : (c : Name) (f : Written) → level f ≡ 0 → IsBegun c f
unfolding reserved_words
begun c True' low = (_, inl refl, record { begins = inl refl; atom = λ e. absurd (true≢false (sym e)) })
begun c False' low = (_, inl refl, record { begins = inl refl; atom = λ e. absurd (true≢false (sym e)) })
begun c (Named a) low = (_, inl refl, record { begins = inl refl; atom = λ e. refl })
begun c (Prefixed p f) low = (_, inl refl, record { begins = inl refl; atom = λ e. absurd (prefix-no-name p e) })
begun c (Grouped f) low = (_, inl refl, record { begins = inl refl; atom = λ e. absurd (true≢false (sym e)) })
begun c (Joins j f g) low = absurd (joined-high j low)

-- ---- where it stands
-- the entries of a read have a last one with more uses
kept-last : (us : List Use) (ms : List Entry) (m : Entry) → IsAmong m ms → (n : Entry) × IsAmong n (with_last us ms) × (n.token ≡ m.token) × ((u : Use) → IsAmong u m.uses → IsAmong u n.uses)
kept-last us [] m h = absurd h
kept-last us (x ∷ []) m (inl e) = (entry x.token (us ++ x.uses), inl refl, ap (λ (y : Entry). y.token) (sym e), λ u here. among_right u us x.uses (subst (λ (y : Entry). IsAmong u y.uses) e here))
kept-last us (x ∷ []) m (inr h) = absurd h
kept-last us (x ∷ y ∷ ys) m (inl e) = (m, inl e, refl, λ u here. here)
kept-last us (x ∷ y ∷ ys) m (inr h) = let (n, there, same, more) = kept-last us (y ∷ ys) m h in (n, inr there, same, more)

first-kept : (p : WrittenPlace) (m n : Entry) → n.token ≡ m.token → ((u : Use) → IsAmong u m.uses → IsAmong u n.uses) → IsFirstOf p m → IsFirstOf p n
first-kept p m n same more h = record { begins = more (BeginsBelief p.context) h.begins; atom = λ w. h.atom (subst IsNameWord same w) }

of-place : (role : Use) (p : WrittenPlace) → IsPlace p → (m : Entry) × IsAmong m (place_entries role p) × IsFirstOf p m
of-place role p h = let (m, there, first) = begun p.context p.belief h.2 in (m, inr (inr there), record { begins = first.begins; atom = first.atom })

of-read : (target : Name) (r : WrittenRead) → IsPlace r.place → (m : Entry) × IsAmong m (read_entries target r) × IsFirstOf r.place m
of-read target r h =
    let role : Use = NamesSource (r.place).context in
    let (m, there, first) = of-place role r.place h in
    let (n, last, same, more) = kept-last (read_end target r ∷ []) (place_entries role r.place) m there in
    (n, among_right n (optional r.denied (codes "not")) (with_last (read_end target r ∷ []) (place_entries role r.place)) last, first-kept r.place m n same more first)

of-reads : (target : Name) (rs : List WrittenRead) (r : WrittenRead) → IsAmong r rs → IsPlace r.place → (m : Entry) × IsAmong m (reads_entries target rs) × IsFirstOf r.place m
of-reads target [] r h p = absurd h
of-reads target (q ∷ qs) r (inl e) p =
    let (m, there, first) = of-read target r p in
    (m, inr (among_left m (read_entries target q) (flat_map (further_read target) qs) (subst (λ (x : WrittenRead). IsAmong m (read_entries target x)) e there)), first)
of-reads target (q ∷ qs) r (inr h) p =
    let (m, there, first) = of-read target r p in
    (m, inr (among_right m (read_entries target q) (flat_map (further_read target) qs) (among_flat_map (further_read target) r m qs h (inr there))), first)

in-head : (b : WrittenBridge) (m : Entry) → IsAmong m (place_entries (NamesTarget (b.head).context) b.head) → IsAmong m (bridge_entries b)
in-head b m h = inr (inr (among_right m (mark_entries b.marks) _ (inr (among_left m (place_entries (NamesTarget (b.head).context) b.head) (reads_entries (b.head).context b.reads ++ entry (codes ".") [] ∷ []) h))))

in-reads : (b : WrittenBridge) (m : Entry) → IsAmong m (reads_entries (b.head).context b.reads) → IsAmong m (bridge_entries b)
in-reads b m h = inr (inr (among_right m (mark_entries b.marks) _ (inr (among_right m (place_entries (NamesTarget (b.head).context) b.head) (reads_entries (b.head).context b.reads ++ entry (codes ".") [] ∷ []) (among_left m (reads_entries (b.head).context b.reads) (entry (codes ".") [] ∷ []) h)))))

pub first-there : (t : WrittenText) (p : WrittenPlace) → IsPlaceOf t p → IsPlace p → (m : Entry) × IsAmong m (flat_map bridge_entries t.bridges) × IsFirstOf p m
first-there t p (OfHead b there is) h =
    let (m, in_place, first) = of-place (NamesTarget (b.head).context) b.head (subst IsPlace (sym is) h) in
    (m, among_flat_map bridge_entries b m t.bridges there (in-head b m in_place), subst (λ (q : WrittenPlace). IsFirstOf q m) is first)
first-there t p (OfRead b there r read is) h =
    let (m, in_place, first) = of-reads (b.head).context b.reads r read (subst IsPlace (sym is) h) in
    (m, among_flat_map bridge_entries b m t.bridges there (in-reads b m in_place), subst (λ (q : WrittenPlace). IsFirstOf q m) is first)

-- ---- what stands before a bridge rule's token
-- the number of a rule's token, and the uses before it, the contexts' all among them
pub record IsEntryAt (t : WrittenText) (m : Entry) (k : ℕ) : Type 0 where
  pub there : slice_get (text_entries t) k ≡ Some m
  pub before : (u : Use) → IsAmong u (uses_of (flat_map context_entries t.contexts)) → IsAmong u (uses_of (take k (text_entries t)))

pub entry-at : (t : WrittenText) (m : Entry) → IsAmong m (flat_map bridge_entries t.bridges) → (k : ℕ) × IsEntryAt t m k
entry-at t m h =
    let cs : List Entry = flat_map context_entries t.contexts in
    let bs : List Entry = flat_map bridge_entries t.bridges in
    let es : List Entry = version_entries t.has_version in
    let (j, at) = get_among m bs h in (
      length es + (length cs + j),
      record {
        there = slice_get-append_right es (cs ++ bs) (length cs + j) ∙ slice_get-append_right cs bs j ∙ at;
        before = λ u here. subst (λ (ms : List Entry). IsAmong u (uses_of ms)) (sym (take-append-add es (cs ++ bs) (length cs + j) ∙ ap (λ (ms : List Entry). es ++ ms) (take-append-add cs bs j)))
            (subst (IsAmong u) (sym (uses-append es (cs ++ take j bs) ∙ ap (λ (us : List Use). uses_of es ++ us) (uses-append cs (take j bs))))
            (among_right u (uses_of es) (uses_of cs ++ uses_of (take j bs)) (among_left u (uses_of cs) (uses_of (take j bs)) here)));
      },
    )

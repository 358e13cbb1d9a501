-- The watch goes on with the name of a context, and with the end of a read.
use Rattle.std.proofs.Common.{◌≡◌, ℕ, ◌<◌, ◌≤◌, Bool, true, false, List, [], ◌∷◌, ◌++◌, map, length, Some, refl, sym, ap, ◌∙◌, subst, inl, inr, ◌⊎◌, ◌↔◌, arith, true≢false, slice_get, slice_set}
use Rattle.std.specs.Prelude.{count_by, IsTrue}
use Rattle.std.specs.List.{AllByRecursion}
use Rattle.std.proofs.lemmas.Bool.Decides.{Decides-eqb}
use Rattle.std.proofs.lemmas.List.{append-nil, length-append, length-map, map-append}
use Rattle.std.proofs.lemmas.Bool.{or_cases, or_left, or_right}
use Rattle.std.proofs.lemmas.Option.{same_Some, slice_get_within}
use Rattle.mcs_base.specs.Listings.{IsAmong}
use Rattle.mcs_sets.specs.Sets.{has, size, single, union}
use Rattle.mcs_sets.proofs.SetLemmas.{has-empty, has-single, has-union, members-empty}
use Rattle.mcs_base.proofs.Among.{among_push, among_get}
use Rattle.mcs_base.proofs.Distinct.{one_place}
use Rattle.mcs_base.proofs.Sums.{count_by_push_no}
use Rattle.mcs_system.specs.Plain.{Name}
use Rattle.mcs_faults.specs.declared.watch.Watch.{Watch}
use Rattle.mcs_faults.specs.declared.watch.ContextSeen.{ContextSeen}
use Rattle.mcs_grammar.specs.Entries.{Use, NamesContext, SaysProgram, EndsRead, AtomOf}
use Rattle.mcs_grammar.specs.Faults.{names_target, begins_default_of, begins_item_of, AreDifferent, NamedRead, WasRead, WasReadInto, WasAtom, IsOneMore}
use Rattle.mcs_account.specs.Images.{named_read_of}
use Rattle.mcs_faults.specs.Watching.{ListsEach, IsContextSeen, names_seen, IsWatch, IsNumberOf, IsUseAllowed, IsUnseenContext, IsHeld}
use Rattle.mcs_account.specs.Images.{IsSpokenOf}
use Rattle.mcs_faults.proofs.ApartLemmas.{apart-names_context, apart-read}
use Rattle.mcs_faults.proofs.DifferentLemmas.{values-at, lists-same, lists-more, same-length}
use Rattle.mcs_faults.proofs.LaterLemmas.{same-among, the-new, earlier, atoms-later, reads-later}
use Rattle.mcs_faults.proofs.SeenLater.{IsLonger, not-longer, one-longer, seen-later, all-set, all-push, names-set}
use Rattle.mcs_faults.proofs.StepWatch.{watch-step}
use Rattle.mcs_faults.proofs.WatchFacts.{seen-name, seen-here, one-more, no-rules, no-defaults, no-items}
use Rattle.mcs_account.proofs.TextUses.{same-named}

-- ---- the name of a context
module _ (w : Watch) (before : List Use) (watch : IsWatch w before) (n : Name) (new : IsUseAllowed before (NamesContext n)) where
  fresh-seen : (c : ContextSeen) → IsUnseenContext c n → IsContextSeen (map named_read_of w.variables.items) before c
  fresh-seen c h = record {
    program = (λ e. absurd (true≢false (sym e ∙ h.1)), λ said. absurd (new (subst (λ (x : Name). IsAmong (NamesContext x) before) h.0 (watch.spoken (SaysProgram c.name) said))));
    rules = h.2 ∙ sym (no-rules w before watch n new) ∙ ap (λ (x : Name). count_by (names_target x) before) (sym h.0);
    defaults = h.4 ∙ sym (no-defaults w before watch n new) ∙ ap (λ (x : Name). count_by (begins_default_of x) before) (sym h.0);
    items = h.3 ∙ sym (no-items w before watch n new) ∙ ap (λ (x : Name). count_by (begins_item_of x) before) (sym h.0);
    atoms = subst (λ (xs : List Name). ListsEach xs (WasAtom before c.name)) (sym h.5) (
      tt,
      λ a. (
        λ none. absurd none,
        λ was. absurd (new (subst (λ (x : Name). IsAmong (NamesContext x) before) h.0 (watch.spoken (AtomOf c.name a) was))),
      ),
    );
    inputs = λ k. (
      λ e. absurd (true≢false (sym e ∙ ap (λ (s : ℕ). has s k) h.6 ∙ has-empty k)),
      λ (r, at, was). absurd (new (subst (λ (x : Name). IsAmong (NamesContext x) before) h.0 (watch.spoken (EndsRead c.name r.context r.belief) was).0)),
    );
    few = (omega (arith, h.2), omega (arith, h.4), omega (arith, h.3), (let e = ap length h.5 in omega arith), (let e = ap size h.6 ∙ ap length members-empty in omega arith));
  }

  pub step-names_context : (c : ContextSeen) → IsUnseenContext c n → (w' : Watch) → w'.contexts_begun ≡ w.contexts_begun → w'.bridges_begun ≡ w.bridges_begun → w'.bridges ≡ w.bridges → w'.variables.items ≡ w.variables.items
      → w'.contexts.items ≡ w.contexts.items ++ c ∷ [] → IsWatch w' (before ++ NamesContext n ∷ [])
  step-names_context c fresh w' begun bridges_begun bridges variables contexts =
      watch-step w before watch (NamesContext n) tt new w' (omega arith) (omega arith)
      (ap (map (λ (s : ContextSeen). s.name)) contexts ∙ map-append (λ (s : ContextSeen). s.name) w.contexts.items (c ∷ []) ∙ ap (λ (x : Name). names_seen w ++ x ∷ []) fresh.0)
      (bridges ∙ sym (append-nil w.bridges))
      (subst (λ (vs : List _). ListsEach (map named_read_of vs) (WasRead (before ++ NamesContext n ∷ []))) (sym variables) (reads-later before (NamesContext n) (map named_read_of w.variables.items) (λ t d f e. cc) watch.variables))
      (subst (λ (vs : List _). length vs ≤ 64) (sym variables) watch.few.2)
      (subst (λ (vs : List _). AllByRecursion (IsContextSeen (map named_read_of vs) (before ++ NamesContext n ∷ [])) w'.contexts.items) (sym variables)
      (subst (AllByRecursion (IsContextSeen (map named_read_of w.variables.items) (before ++ NamesContext n ∷ []))) (sym contexts)
      (all-push _ _ before (NamesContext n) (not-longer before (map named_read_of w.variables.items)) w.contexts.items c (λ d h. apart-names_context n d.name)
      (seen-later _ _ before (NamesContext n) (not-longer before (map named_read_of w.variables.items)) c (apart-names_context n c.name) (fresh-seen c fresh)) watch.seen)))

-- ---- the end of a read
abbrev pub with_inputs : ContextSeen → ℕ → ContextSeen
with_inputs c s = record c { inputs = s }

module _ (w : Watch) (before : List Use) (watch : IsWatch w before) (t : Name) (r : NamedRead) (spoken : IsSpokenOf before (EndsRead t r.context r.belief)) (allowed : IsUseAllowed before (EndsRead t r.context r.belief))
    (k : ℕ) (number : IsNumberOf (names_seen w) t k) (c : ContextSeen) (here : slice_get w.contexts.items k ≡ Some c) (now : List NamedRead) (j : ℕ) (held : IsHeld (map named_read_of w.variables.items) now r j) where
  abbrev old : List NamedRead
  old = map named_read_of w.variables.items

  abbrev u : Use
  u = EndsRead t r.context r.belief

  abbrev after : List Use
  after = before ++ u ∷ []

  name : c.name ≡ t
  name = seen-name w before watch t k number c here

  seen : IsContextSeen old before c
  seen = seen-here w before watch t k number c here

  -- the new use is of this read
  of-it : (d : Name) (q : NamedRead) → EndsRead d q.context q.belief ≡ u → q ≡ r
  of-it d q e = same-named q r (cc) (cc)

  read-after : (q : NamedRead) → WasRead after q → WasRead before q ⊎ (q ≡ r)
  read-after q (d, h) = elim ((among_push (EndsRead d q.context q.belief) before u).0 h) [ inl there ↦ inl (d, there) | inr e ↦ inr (of-it d q e) ]

  read-now : WasRead after r
  read-now = (t, the-new before u)

  read-earlier : (q : NamedRead) → WasRead before q → WasRead after q
  read-earlier q (d, h) = (d, earlier before u (EndsRead d q.context q.belief) h)

  listed : ListsEach now (WasRead after)
  listed = go held.either
    where
      go : (now ≡ old) ⊎ ((now ≡ old ++ r ∷ []) × (¬ IsAmong r old)) → ListsEach now (WasRead after)
      go (inl same) = subst (λ (vs : List NamedRead). ListsEach vs (WasRead after)) (sym same) (lists-same old (WasRead before) (WasRead after) (λ q. (
        λ h. read-earlier q h,
        λ h. elim (read-after q h) [
          | inl there ↦ there
          | inr e ↦ (watch.variables.1 q).0 (subst (λ (x : NamedRead). IsAmong x old) (sym e) (among_get r old j (subst (λ (vs : List NamedRead). slice_get vs j ≡ Some r) same held.there)))
        ],
      )) watch.variables)
      go (inr (more, new)) = subst (λ (vs : List NamedRead). ListsEach vs (WasRead after)) (sym more) (lists-more old (WasRead before) (WasRead after) r (λ q. (
        λ h. read-after q h,
        λ h. elim h [ inl there ↦ read-earlier q there | inr e ↦ subst (WasRead after) (sym e) read-now ],
      )) new watch.variables)

  longer : IsLonger before old now
  longer = go held.either
    where
      go : (now ≡ old) ⊎ ((now ≡ old ++ r ∷ []) × (¬ IsAmong r old)) → IsLonger before old now
      go (inl same) = subst (IsLonger before old) (sym same) (not-longer before old)
      go (inr (more, new)) = subst (IsLonger before old) (sym more) (one-longer before old r (λ was. new ((watch.variables.1 r).1 was)))

  few-variables : length now ≤ 64
  few-variables = go held.either
    where
      go : (now ≡ old) ⊎ ((now ≡ old ++ r ∷ []) × (¬ IsAmong r old)) → length now ≤ 64
      go (inl same) = omega (arith, ap length same, length-map w.variables.items named_read_of, watch.few.2)
      go (inr (more, new)) =
          let many : length old ≡ 64 → ⊥ = λ e. allowed.1 ((one-more old (WasRead before) 64 r watch.variables).1 (e, new)) in
          omega (arith, ap length more, length-append old (r ∷ []), length-map w.variables.items named_read_of, watch.few.2)

  pub number-below : j < 64
  number-below = let less = slice_get_within now j r held.there in let few = few-variables in omega arith

  -- ---- the inputs of the target
  inputs-now : (i : ℕ) → IsTrue (has (union c.inputs (single j)) i) ↔ ((q : NamedRead) × (slice_get now i ≡ Some q) × WasReadInto after c.name q)
  inputs-now i = (
    λ h. elim (or_cases (has c.inputs i) (has (single j) i) (sym (has-union c.inputs (single j) i) ∙ h)) [
      | inl was ↦ let (q, at, was') = (seen.inputs i).0 was in (q, longer.to i q at, earlier before u (EndsRead c.name q.context q.belief) was')
      | inr is ↦ let same : i ≡ j = (Decides-eqb i j).0 (sym (has-single j i) ∙ is) in
          (r, ap (slice_get now) same ∙ held.there, subst (λ (x : Name). WasReadInto after x r) (sym name) (the-new before u))
    ],
    λ (q, at, was). has-union c.inputs (single j) i ∙ elim ((among_push (EndsRead c.name q.context q.belief) before u).0 was) [
      | inl there ↦ or_left (has c.inputs i) (has (single j) i) ((seen.inputs i).1 (q, longer.from c.name i q at there, there))
      | inr e ↦ let same : q ≡ r = of-it c.name q e in
          or_right (has c.inputs i) (has (single j) i) (has-single j i ∙ (Decides-eqb i j).1 (one_place now listed.0 i j r (at ∙ ap (λ (x : NamedRead). Some x) same) held.there))
    ],
  )

  was-input : has c.inputs j ≡ true → WasReadInto before c.name r
  was-input h =
      let (q, at, was) = (seen.inputs j).0 h in
      subst (WasReadInto before c.name) (same_Some _ _ (sym (longer.to j q at) ∙ held.there)) was

  no-input : has c.inputs j ≡ false → ¬ WasReadInto before c.name r
  no-input h was = true≢false (sym ((seen.inputs j).1 (r, longer.from c.name j r held.there was, was)) ∙ h)

  input-after : (q : NamedRead) → WasReadInto after c.name q → WasReadInto before c.name q ⊎ (q ≡ r)
  input-after q was = elim ((among_push (EndsRead c.name q.context q.belief) before u).0 was) [ inl there ↦ inl there | inr e ↦ inr (of-it c.name q e) ]

  input-now : WasReadInto after c.name r
  input-now = subst (λ (x : Name). WasReadInto after x r) (sym name) (the-new before u)

  few-values : (ys zs : List NamedRead) → ListsEach ys (WasReadInto before c.name) → length ys ≡ size c.inputs → ListsEach zs (WasReadInto after c.name) → length zs ≤ 16
  few-values ys zs values long values' = at (has c.inputs j) refl
    where
      at : (b : Bool) → has c.inputs j ≡ b → length zs ≤ 16
      at true e =
          let same : ListsEach ys (WasReadInto after c.name) = lists-same ys (WasReadInto before c.name) (WasReadInto after c.name) (λ q. (
            λ was. earlier before u (EndsRead c.name q.context q.belief) was,
            λ was. elim (input-after q was) [ inl there ↦ there | inr is ↦ subst (WasReadInto before c.name) (sym is) (was-input e) ],
          )) values in
          omega (arith, same-length zs ys (WasReadInto after c.name) values' same, seen.few.4)
      at false e =
          let new : ¬ IsAmong r ys = λ h. no-input e ((values.1 r).0 h) in
          let more : ListsEach (ys ++ r ∷ []) (WasReadInto after c.name) = lists-more ys (WasReadInto before c.name) (WasReadInto after c.name) r (λ q. (
            λ was. input-after q was,
            λ h. elim h [ inl there ↦ earlier before u (EndsRead c.name q.context q.belief) there | inr is ↦ subst (WasReadInto after c.name) (sym is) input-now ],
          )) new values in
          let full : length ys ≡ 16 → ⊥ = λ is. allowed.2 (subst (λ (x : Name). IsOneMore 16 (WasReadInto before x) r) name ((one-more ys (WasReadInto before c.name) 16 r values).1 (is, new))) in
          omega (arith, same-length zs (ys ++ r ∷ []) (WasReadInto after c.name) values' more, length-append ys (r ∷ []), seen.few.4)

  few-inputs : size (union c.inputs (single j)) ≤ 16
  few-inputs =
      let (ys, values, long) = values-at old r c.inputs (WasReadInto before c.name) watch.variables.0 seen.inputs (λ q was. (watch.variables.1 q).1 (c.name, was)) in
      let (zs, values', long') = values-at now r (union c.inputs (single j)) (WasReadInto after c.name) listed.0 inputs-now (λ q was. (listed.1 q).1 (c.name, was)) in
      let few : length zs ≤ 16 = few-values ys zs values long values' in
      omega arith

  pub step-ends_read : (c' : ContextSeen) → c' ≡ record c { inputs = union c.inputs (single j) } → (w' : Watch) → w'.contexts_begun ≡ w.contexts_begun → w'.bridges_begun ≡ w.bridges_begun → w'.bridges ≡ w.bridges
      → map named_read_of w'.variables.items ≡ now → w'.contexts.items ≡ slice_set w.contexts.items k c' → IsWatch w' after
  step-ends_read c' is w' begun bridges_begun bridges variables contexts =
      watch-step w before watch u spoken allowed w' (omega arith) (omega arith)
      (ap (map (λ (s : ContextSeen). s.name)) contexts ∙ names-set w.contexts.items k c c' here (ap (λ (s : ContextSeen). s.name) is) ∙ sym (append-nil (names_seen w)))
      (bridges ∙ sym (append-nil w.bridges))
      (subst (λ (vs : List NamedRead). ListsEach vs (WasRead after)) (sym variables) listed)
      (omega (arith, ap length variables, length-map w'.variables.items named_read_of, few-variables))
      (subst (λ (vs : List NamedRead). AllByRecursion (IsContextSeen vs after) w'.contexts.items) (sym variables)
      (subst (AllByRecursion (IsContextSeen now after)) (sym (contexts ∙ ap (slice_set w.contexts.items k) is))
      (all-set old now before u longer w.contexts.items k c (record c { inputs = union c.inputs (single j) }) here
      (subst (λ (ns : List Name). AreDifferent ns) (sym watch.named) watch.different.0)
      (λ x differ. apart-read t r.context r.belief x (λ e. differ (e ∙ sym name)))
      (record {
        program = let same = same-among before u (SaysProgram c.name) (λ e. cc) in (λ h. same.0 (seen.program.0 h), λ h. seen.program.1 (same.1 h));
        rules = seen.rules ∙ sym (count_by_push_no (names_target c.name) before u refl);
        defaults = seen.defaults ∙ sym (count_by_push_no (begins_default_of c.name) before u refl);
        items = seen.items ∙ sym (count_by_push_no (begins_item_of c.name) before u refl);
        atoms = atoms-later before u c.name c.atoms (λ a e. cc) seen.atoms;
        inputs = inputs-now;
        few = (seen.few.0, seen.few.1, seen.few.2, seen.few.3, few-inputs);
      })
      watch.seen)))

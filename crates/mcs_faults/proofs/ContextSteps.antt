-- The watch goes on with a use that says more of one context.
use Rattle.std.proofs.Common.{◌≡◌, ℕ, ◌+◌, ◌≤◌, Bool, true, List, [], ◌∷◌, ◌++◌, map, length, Some, refl, sym, ap, ◌∙◌, subst, inl, inr, ◌↔◌, arith, slice_get, slice_set}
use Rattle.std.specs.Prelude.{min, ◌-◌, ◌^◌, count_by, IsTrue}
use Rattle.std.proofs.lemmas.List.{append-nil, length-append}
use Rattle.mcs_base.specs.Listings.{IsAmong}
use Rattle.mcs_base.proofs.Among.{among_push}
use Rattle.mcs_base.proofs.Sums.{count_by_push_no, count_by_push_yes}
use Rattle.mcs_system.specs.Plain.{Name}
use Rattle.mcs_system.specs.Logic.{same_name}
use Rattle.mcs_system.proofs.Sameness.{same_name-itself}
use Rattle.mcs_faults.specs.declared.watch.Watch.{Watch}
use Rattle.mcs_faults.specs.declared.watch.ContextSeen.{ContextSeen}
use Rattle.mcs_grammar.specs.Entries.{Use, SaysProgram, BeginsItem, BeginsDefault, NamesTarget, AtomOf}
use Rattle.mcs_grammar.specs.Faults.{names_target, begins_default_of, begins_item_of, WasAtom}
use Rattle.mcs_account.specs.Images.{named_read_of}
use Rattle.mcs_faults.specs.Watching.{ListsEach, IsContextSeen, names_seen, IsWatch, IsNumberOf, IsUseAllowed}
use Rattle.mcs_account.specs.Images.{IsSpokenOf}
use Rattle.mcs_faults.proofs.ApartLemmas.{apart-program, apart-item, apart-default, apart-target, apart-atom}
use Rattle.mcs_faults.proofs.DifferentLemmas.{lists-same, lists-more}
use Rattle.mcs_faults.proofs.LaterLemmas.{same-among, the-new, earlier, atoms-later, inputs-later}
use Rattle.mcs_faults.proofs.StepWatch.{context-step}
use Rattle.mcs_faults.proofs.WatchFacts.{seen-name, seen-here, one-more}

module _ (w : Watch) (before : List Use) (watch : IsWatch w before) (n : Name) (k : ℕ) (number : IsNumberOf (names_seen w) n k) (c : ContextSeen) (here : slice_get w.contexts.items k ≡ Some c) where
  name : c.name ≡ n
  name = seen-name w before watch n k number c here

  seen : IsContextSeen (map named_read_of w.variables.items) before c
  seen = seen-here w before watch n k number c here

  -- one more, as it is counted
  pub more-rules : (x : ℕ) → x ≡ min (c.rules + 1) (2 ^ 64 - 1) → x ≡ c.rules + 1
  more-rules x is = let few = seen.few.0 in omega arith

  pub more-defaults : (x : ℕ) → x ≡ min (c.defaults + 1) (2 ^ 64 - 1) → x ≡ c.defaults + 1
  more-defaults x is = let few = seen.few.1 in omega arith

  pub more-items : (x : ℕ) → x ≡ min (c.items + 1) (2 ^ 64 - 1) → x ≡ c.items + 1
  more-items x is = let few = seen.few.2 in omega arith

  module _ (w' : Watch) (begun : w'.contexts_begun ≡ w.contexts_begun) (bridges_begun : w'.bridges_begun ≡ w.bridges_begun) (bridges : w'.bridges ≡ w.bridges) (variables : w'.variables.items ≡ w.variables.items) where
    pub step-says_program : IsSpokenOf before (SaysProgram n) → (c' : ContextSeen) → c' ≡ record c { is_program = true } → w'.contexts.items ≡ slice_set w.contexts.items k c' → IsWatch w' (before ++ SaysProgram n ∷ [])
    step-says_program spoken c' is contexts =
        context-step w before watch (SaysProgram n) spoken tt (λ t d f e. cc) k c (record c { is_program = true }) here refl
        (λ x differ. apart-program n x (λ e. differ (e ∙ sym name)))
        (record {
          program = (λ _. subst (λ (x : Name). IsAmong (SaysProgram x) (before ++ SaysProgram n ∷ [])) (sym name) (the-new before (SaysProgram n)), λ _. refl);
          rules = seen.rules ∙ sym (count_by_push_no (names_target c.name) before (SaysProgram n) refl);
          defaults = seen.defaults ∙ sym (count_by_push_no (begins_default_of c.name) before (SaysProgram n) refl);
          items = seen.items ∙ sym (count_by_push_no (begins_item_of c.name) before (SaysProgram n) refl);
          atoms = atoms-later before (SaysProgram n) c.name c.atoms (λ a e. cc) seen.atoms;
          inputs = inputs-later before (SaysProgram n) c.name c.inputs _ _ (λ d f e. cc) seen.inputs (λ j r at. at) (λ j r at was. at);
          few = seen.few;
        })
        w' (omega arith) (omega arith) (bridges ∙ sym (append-nil w.bridges)) variables (contexts ∙ ap (slice_set w.contexts.items k) is) refl

    pub step-begins_item : IsSpokenOf before (BeginsItem n) → IsUseAllowed before (BeginsItem n) → (c' : ContextSeen) (x : ℕ) → x ≡ c.items + 1 → c' ≡ record c { items = x } → w'.contexts.items ≡ slice_set w.contexts.items k c' → IsWatch w' (before ++ BeginsItem n ∷ [])
    step-begins_item spoken allowed c' x more is contexts =
        let mine : begins_item_of c.name (BeginsItem n) ≡ true = ap (same_name c.name) (sym name) ∙ same_name-itself c.name in
        context-step w before watch (BeginsItem n) spoken allowed (λ t d f e. cc) k c (record c { items = x }) here refl
        (λ x differ. apart-item n x (λ e. differ (e ∙ sym name)))
        (record {
          program = let same = same-among before (BeginsItem n) (SaysProgram c.name) (λ e. cc) in (λ h. same.0 (seen.program.0 h), λ h. seen.program.1 (same.1 h));
          rules = seen.rules ∙ sym (count_by_push_no (names_target c.name) before (BeginsItem n) refl);
          defaults = seen.defaults ∙ sym (count_by_push_no (begins_default_of c.name) before (BeginsItem n) refl);
          items = more ∙ ap (λ (y : ℕ). y + 1) seen.items ∙ sym (count_by_push_yes (begins_item_of c.name) before (BeginsItem n) mine);
          atoms = atoms-later before (BeginsItem n) c.name c.atoms (λ a e. cc) seen.atoms;
          inputs = inputs-later before (BeginsItem n) c.name c.inputs _ _ (λ d f e. cc) seen.inputs (λ j r at. at) (λ j r at was. at);
          few = (seen.few.0, seen.few.1, (let other : c.items ≡ 4096 → ⊥ = λ e. allowed (subst (λ (y : Name). count_by (begins_item_of y) before ≡ 4096) name (sym seen.items ∙ e)) in let less = seen.few.2 in omega arith), seen.few.3, seen.few.4);
        })
        w' (omega arith) (omega arith) (bridges ∙ sym (append-nil w.bridges)) variables (contexts ∙ ap (slice_set w.contexts.items k) is) refl

    pub step-begins_default : IsSpokenOf before (BeginsDefault n) → IsUseAllowed before (BeginsDefault n) → (c' : ContextSeen) (x : ℕ) → x ≡ c.defaults + 1 → c' ≡ record c { defaults = x } → w'.contexts.items ≡ slice_set w.contexts.items k c' → IsWatch w' (before ++ BeginsDefault n ∷ [])
    step-begins_default spoken allowed c' x more is contexts =
        let mine : begins_default_of c.name (BeginsDefault n) ≡ true = ap (same_name c.name) (sym name) ∙ same_name-itself c.name in
        context-step w before watch (BeginsDefault n) spoken allowed (λ t d f e. cc) k c (record c { defaults = x }) here refl
        (λ x differ. apart-default n x (λ e. differ (e ∙ sym name)))
        (record {
          program = let same = same-among before (BeginsDefault n) (SaysProgram c.name) (λ e. cc) in (λ h. same.0 (seen.program.0 h), λ h. seen.program.1 (same.1 h));
          rules = seen.rules ∙ sym (count_by_push_no (names_target c.name) before (BeginsDefault n) refl);
          defaults = more ∙ ap (λ (y : ℕ). y + 1) seen.defaults ∙ sym (count_by_push_yes (begins_default_of c.name) before (BeginsDefault n) mine);
          items = seen.items ∙ sym (count_by_push_no (begins_item_of c.name) before (BeginsDefault n) refl);
          atoms = atoms-later before (BeginsDefault n) c.name c.atoms (λ a e. cc) seen.atoms;
          inputs = inputs-later before (BeginsDefault n) c.name c.inputs _ _ (λ d f e. cc) seen.inputs (λ j r at. at) (λ j r at was. at);
          few = (seen.few.0, (let other : c.defaults ≡ 10 → ⊥ = λ e. allowed (subst (λ (y : Name). count_by (begins_default_of y) before ≡ 10) name (sym seen.defaults ∙ e)) in let less = seen.few.1 in omega arith), seen.few.2, seen.few.3, seen.few.4);
        })
        w' (omega arith) (omega arith) (bridges ∙ sym (append-nil w.bridges)) variables (contexts ∙ ap (slice_set w.contexts.items k) is) refl

    pub step-names_target : IsUseAllowed before (NamesTarget n) → (c' : ContextSeen) (x : ℕ) → x ≡ c.rules + 1 → c' ≡ record c { rules = x } → w'.contexts.items ≡ slice_set w.contexts.items k c' → IsWatch w' (before ++ NamesTarget n ∷ [])
    step-names_target allowed c' x more is contexts =
        let mine : names_target c.name (NamesTarget n) ≡ true = ap (same_name c.name) (sym name) ∙ same_name-itself c.name in
        context-step w before watch (NamesTarget n) tt allowed (λ t d f e. cc) k c (record c { rules = x }) here refl
        (λ x differ. apart-target n x (λ e. differ (e ∙ sym name)))
        (record {
          program = let same = same-among before (NamesTarget n) (SaysProgram c.name) (λ e. cc) in (λ h. same.0 (seen.program.0 h), λ h. seen.program.1 (same.1 h));
          rules = more ∙ ap (λ (y : ℕ). y + 1) seen.rules ∙ sym (count_by_push_yes (names_target c.name) before (NamesTarget n) mine);
          defaults = seen.defaults ∙ sym (count_by_push_no (begins_default_of c.name) before (NamesTarget n) refl);
          items = seen.items ∙ sym (count_by_push_no (begins_item_of c.name) before (NamesTarget n) refl);
          atoms = atoms-later before (NamesTarget n) c.name c.atoms (λ a e. cc) seen.atoms;
          inputs = inputs-later before (NamesTarget n) c.name c.inputs _ _ (λ d f e. cc) seen.inputs (λ j r at. at) (λ j r at was. at);
          few = ((let other : c.rules ≡ 12 → ⊥ = λ e. allowed.1 (subst (λ (y : Name). count_by (names_target y) before ≡ 12) name (sym seen.rules ∙ e)) in let less = seen.few.0 in omega arith), seen.few.1, seen.few.2, seen.few.3, seen.few.4);
        })
        w' (omega arith) (omega arith) (bridges ∙ sym (append-nil w.bridges)) variables (contexts ∙ ap (slice_set w.contexts.items k) is) refl

    -- an atom, whose list is the same if it was there, and has it at its end if not
    module _ (a : Name) (c' : ContextSeen) (same : c'.name ≡ c.name) (program : c'.is_program ≡ c.is_program) (rules : c'.rules ≡ c.rules) (items : c'.items ≡ c.items) (defaults : c'.defaults ≡ c.defaults) (inputs : c'.inputs ≡ c.inputs)
        (spoken : IsSpokenOf before (AtomOf n a)) (allowed : IsUseAllowed before (AtomOf n a)) (contexts : w'.contexts.items ≡ slice_set w.contexts.items k c') where
      step-atom : ListsEach c'.atoms (WasAtom (before ++ AtomOf n a ∷ []) c.name) → length c'.atoms ≤ 64 → IsWatch w' (before ++ AtomOf n a ∷ [])
      step-atom listed few =
          context-step w before watch (AtomOf n a) spoken allowed (λ t d f e. cc) k c c' here same
          (λ x differ. apart-atom n a x (λ e. differ (e ∙ sym name)))
          (record {
            program = let as' = same-among before (AtomOf n a) (SaysProgram c'.name) (λ e. cc) in subst (λ (b : Bool). IsTrue b ↔ IsAmong (SaysProgram c'.name) (before ++ AtomOf n a ∷ [])) (sym program)
                (let is = subst (λ (y : Name). IsTrue c.is_program ↔ IsAmong (SaysProgram y) before) (sym same) seen.program in (λ h. as'.0 (is.0 h), λ h. is.1 (as'.1 h)));
            rules = rules ∙ seen.rules ∙ ap (λ (y : Name). count_by (names_target y) before) (sym same) ∙ sym (count_by_push_no (names_target c'.name) before (AtomOf n a) refl);
            defaults = defaults ∙ seen.defaults ∙ ap (λ (y : Name). count_by (begins_default_of y) before) (sym same) ∙ sym (count_by_push_no (begins_default_of c'.name) before (AtomOf n a) refl);
            items = items ∙ seen.items ∙ ap (λ (y : Name). count_by (begins_item_of y) before) (sym same) ∙ sym (count_by_push_no (begins_item_of c'.name) before (AtomOf n a) refl);
            atoms = subst (λ (y : Name). ListsEach c'.atoms (WasAtom (before ++ AtomOf n a ∷ []) y)) (sym same) listed;
            inputs = inputs-later before (AtomOf n a) c'.name c'.inputs _ _ (λ d f e. cc) (rw (same, inputs) seen.inputs) (λ j r at. at) (λ j r at was. at);
            few = (omega (arith, seen.few.0), omega (arith, seen.few.1), omega (arith, seen.few.2), few, rw inputs seen.few.4);
          })
          w' (omega arith) (omega arith) (bridges ∙ sym (append-nil w.bridges)) variables contexts refl

      pub step-atom_again : c'.atoms ≡ c.atoms → IsAmong a c.atoms → IsWatch w' (before ++ AtomOf n a ∷ [])
      step-atom_again atoms there =
          let was : WasAtom before c.name a = (seen.atoms.1 a).0 there in
          let was' : IsAmong (AtomOf n a) before = subst (λ (y : Name). IsAmong (AtomOf y a) before) name was in
          step-atom
          (subst (λ (xs : List Name). ListsEach xs (WasAtom (before ++ AtomOf n a ∷ []) c.name)) (sym atoms)
          (lists-same c.atoms (WasAtom before c.name) (WasAtom (before ++ AtomOf n a ∷ []) c.name) (λ b. (
            λ h. earlier before (AtomOf n a) (AtomOf c.name b) h,
            λ h. elim ((among_push (AtomOf c.name b) before (AtomOf n a)).0 h) [ inl h' ↦ h' | inr e ↦ subst (λ (u : Use). IsAmong u before) (sym e) was' ],
          )) seen.atoms))
          (omega (arith, ap length atoms, seen.few.3))

      pub step-atom_new : c'.atoms ≡ c.atoms ++ a ∷ [] → ¬ IsAmong a c.atoms → IsWatch w' (before ++ AtomOf n a ∷ [])
      step-atom_new atoms new =
          step-atom
          (subst (λ (xs : List Name). ListsEach xs (WasAtom (before ++ AtomOf n a ∷ []) c.name)) (sym atoms)
          (lists-more c.atoms (WasAtom before c.name) (WasAtom (before ++ AtomOf n a ∷ []) c.name) a (λ b. (
            λ h. elim ((among_push (AtomOf c.name b) before (AtomOf n a)).0 h) [ inl h' ↦ inl h' | inr e ↦ inr (let e' : b ≡ a = cc in e') ],
            λ h. elim h [ inl h' ↦ earlier before (AtomOf n a) (AtomOf c.name b) h' | inr e ↦ (among_push (AtomOf c.name b) before (AtomOf n a)).1 (inr (let e' = name in cc)) ],
          )) new seen.atoms))
          (let many : length c.atoms ≡ 64 → ⊥ = λ e. allowed ((one-more c.atoms (WasAtom before n) 64 a (subst (λ (y : Name). ListsEach c.atoms (WasAtom before y)) name seen.atoms)).1 (e, new)) in
          let few = seen.few.3 in let long = length-append c.atoms (a ∷ []) in omega (arith, ap length atoms))

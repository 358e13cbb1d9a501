-- What one use more leaves of what was seen of the contexts.
use Rattle.std.proofs.Common.{◌≡◌, ℕ, zero, suc, false, List, [], ◌∷◌, ◌++◌, map, Some, refl, sym, ap, ◌∙◌, subst, inl, inr, slice_get, slice_set}
use Rattle.std.specs.List.{AllByRecursion}
use Rattle.mcs_base.specs.Listings.{IsAmong}
use Rattle.mcs_base.proofs.Among.{among_map, among_get}
use Rattle.mcs_base.proofs.Sums.{count_by_push_no}
use Rattle.mcs_base.proofs.Lists.{slice_get_kept, slice_get_push_cases}
use Rattle.mcs_system.specs.Plain.{Name, Formula}
use Rattle.mcs_faults.specs.declared.watch.ContextSeen.{ContextSeen}
use Rattle.mcs_grammar.specs.Entries.{Use, SaysProgram, EndsRead, AtomOf}
use Rattle.mcs_grammar.specs.Faults.{names_target, begins_default_of, begins_item_of, AreDifferent, NamedRead, WasRead, WasReadInto}
use Rattle.mcs_faults.specs.Watching.{IsContextSeen}
use Rattle.mcs_faults.proofs.LaterLemmas.{same-among, atoms-later, inputs-later}

-- nothing is said of the context
pub record IsApart (n : Name) (u : Use) : Type 0 where
  pub program : ¬ (SaysProgram n ≡ u)
  pub rules : names_target n u ≡ false
  pub defaults : begins_default_of n u ≡ false
  pub items : begins_item_of n u ≡ false
  pub atoms : (a : Name) → ¬ (AtomOf n a ≡ u)
  pub reads : (c : Name) (f : Formula) → ¬ (EndsRead n c f ≡ u)

-- the variables are those, or those and one that is new
pub record IsLonger (before : List Use) (xs more : List NamedRead) : Type 0 where
  pub to : (k : ℕ) (r : NamedRead) → slice_get xs k ≡ Some r → slice_get more k ≡ Some r
  pub from : (t : Name) (k : ℕ) (r : NamedRead) → slice_get more k ≡ Some r → WasReadInto before t r → slice_get xs k ≡ Some r

pub not-longer : (before : List Use) (xs : List NamedRead) → IsLonger before xs xs
not-longer before xs = record { to = λ k r is. is; from = λ t k r is was. is }

pub one-longer : (before : List Use) (xs : List NamedRead) (q : NamedRead) → ¬ WasRead before q → IsLonger before xs (xs ++ q ∷ [])
one-longer before xs q new = record {
  to = λ k r is. slice_get_kept xs (q ∷ []) k r is;
  from = λ t k r is was. elim (slice_get_push_cases xs q k r is) [ inl there ↦ there | inr e ↦ absurd (new (t, subst (WasReadInto before t) e was)) ];
}

module _ (xs more : List NamedRead) (before : List Use) (u : Use) (longer : IsLonger before xs more) where
  pub seen-later : (c : ContextSeen) → IsApart c.name u → IsContextSeen xs before c → IsContextSeen more (before ++ u ∷ []) c
  seen-later c apart s = record {
    program = let same = same-among before u (SaysProgram c.name) apart.program in (λ h. same.0 (s.program.0 h), λ h. s.program.1 (same.1 h));
    rules = s.rules ∙ sym (count_by_push_no (names_target c.name) before u apart.rules);
    defaults = s.defaults ∙ sym (count_by_push_no (begins_default_of c.name) before u apart.defaults);
    items = s.items ∙ sym (count_by_push_no (begins_item_of c.name) before u apart.items);
    atoms = atoms-later before u c.name c.atoms apart.atoms s.atoms;
    inputs = inputs-later before u c.name c.inputs xs more apart.reads s.inputs longer.to (longer.from c.name);
    few = s.few;
  }

  pub all-later : (cs : List ContextSeen) → ((c : ContextSeen) → IsAmong c cs → IsApart c.name u) → AllByRecursion (IsContextSeen xs before) cs → AllByRecursion (IsContextSeen more (before ++ u ∷ [])) cs
  all-later [] apart all = tt
  all-later (c ∷ cs) apart all = (seen-later c (apart c (inl refl)) all.0, all-later cs (λ d h. apart d (inr h)) all.1)

  -- all but one, of which there is more now
  pub all-set : (cs : List ContextSeen) (k : ℕ) (c c' : ContextSeen) → slice_get cs k ≡ Some c → AreDifferent (map (λ (s : ContextSeen). s.name) cs) → ((n : Name) → ¬ (n ≡ c.name) → IsApart n u) → IsContextSeen more (before ++ u ∷ []) c'
      → AllByRecursion (IsContextSeen xs before) cs → AllByRecursion (IsContextSeen more (before ++ u ∷ [])) (slice_set cs k c')
  all-set [] k c c' is different apart new all = tt
  all-set (d ∷ cs) zero c c' is different apart new all =
      let same : d ≡ c = cc in
      let names : d.name ≡ c.name = ap (λ (s : ContextSeen). s.name) same in
      (new, all-later cs (λ e h. apart e.name (λ e'. different.0 (subst (λ (n : Name). IsAmong n (map (λ (s : ContextSeen). s.name) cs)) (e' ∙ sym names) (among_map (λ (s : ContextSeen). s.name) e cs h)))) all.1)
  all-set (d ∷ cs) (suc k) c c' is different apart new all = (
    seen-later d (apart d.name (λ e. different.0 (subst (λ (n : Name). IsAmong n (map (λ (s : ContextSeen). s.name) cs)) (sym e) (among_map (λ (s : ContextSeen). s.name) c cs (among_get c cs k is))))) all.0,
    all-set cs k c c' is different.1 apart new all.1,
  )

  pub all-push : (cs : List ContextSeen) (c : ContextSeen) → ((d : ContextSeen) → IsAmong d cs → IsApart d.name u) → IsContextSeen more (before ++ u ∷ []) c → AllByRecursion (IsContextSeen xs before) cs → AllByRecursion (IsContextSeen more (before ++ u ∷ [])) (cs ++ c ∷ [])
  all-push [] c apart new all = (new, tt)
  all-push (d ∷ cs) c apart new all = (seen-later d (apart d (inl refl)) all.0, all-push cs c (λ e h. apart e (inr h)) new all.1)

pub names-set : (cs : List ContextSeen) (k : ℕ) (c c' : ContextSeen) → slice_get cs k ≡ Some c → c'.name ≡ c.name → map (λ (s : ContextSeen). s.name) (slice_set cs k c') ≡ map (λ (s : ContextSeen). s.name) cs
names-set [] k c c' is same = refl
names-set (d ∷ cs) zero c c' is same = let e : c ≡ d = cc in ap (λ (n : Name). n ∷ map (λ (s : ContextSeen). s.name) cs) (same ∙ ap (λ (s : ContextSeen). s.name) e)
names-set (d ∷ cs) (suc k) c c' is same = ap (λ (ns : List Name). d.name ∷ ns) (names-set cs k c c' is same)

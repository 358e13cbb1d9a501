-- Which context supplies which, by the one import order, and induction along it.
use Rattle.std.proofs.Common.{◌≡◌, ℕ, ◌<◌, Bool, true, false, cond, nat_eq, List, [], ◌∷◌, ◌++◌, length, refl, sym, ◌∙◌, subst, append_assoc, append-nil, inl, inr, arith}
use Rattle.mcs_base.specs.Listings.{IsAmong}
use Rattle.mcs_base.proofs.Among.{among_left, among_either, filter_among}
use Rattle.mcs_base.proofs.Each.{all_among}
use Rattle.mcs_system.specs.Plain.{System}
use Rattle.mcs_system.specs.Imports.{IsImportOrder, FollowsOrder, before_in, supplied, imports}
use Rattle.mcs_import.proofs.OrderLemmas.{import_order_exists, import_order_is_one, supplied_in_range}
use Rattle.mcs_node.specs.Rounds.{Supplies}

-- by any order, since there is one
pub supplied_by : (m : System) (order : List ℕ) (i j : ℕ) → IsImportOrder m order → Supplies m j i → IsAmong j (supplied m order i)
supplied_by m order i j is s = subst (λ (l : List ℕ). IsAmong j (supplied m l i)) (import_order_is_one m s.0 order s.1 is) s.3

pub supplier_below : (m : System) (i j : ℕ) → Supplies m j i → j < length m.contexts
supplier_below m i j s = all_among (λ (k : ℕ). k < length m.contexts) (supplied m s.0 i) j (supplied_in_range m s.0 i s.1) s.3

-- what stands before i in a list that has i after these
in_front : (earlier rest : List ℕ) (i j : ℕ) → IsAmong j (before_in (earlier ++ i ∷ rest) i) → IsAmong j earlier
in_front [] rest i j h = at (nat_eq i i) refl h
  where
    at : (b : Bool) → nat_eq i i ≡ b → IsAmong j (cond b [] (i ∷ before_in rest i)) → ⊥
    at true e h = h
    at false e h = grind arith
in_front (e ∷ es) rest i j h = at (nat_eq e i) h (in_front es rest i j)
  where
    at : (b : Bool) → IsAmong j (cond b [] (e ∷ before_in (es ++ i ∷ rest) i)) → (IsAmong j (before_in (es ++ i ∷ rest) i) → IsAmong j es) → IsAmong j (e ∷ es)
    at true h more = absurd h
    at false (inl is) more = inl is
    at false (inr h) more = inr (more h)

-- each context is taken
covers : (m : System) (taken rest : List ℕ) → FollowsOrder m taken rest → (i : ℕ) → i < length m.contexts → IsAmong i (taken ++ rest)
covers m taken [] f i less = among_left i taken [] (f i less)
covers m taken (c ∷ rest) f i less = subst (IsAmong i) (append_assoc taken (c ∷ []) rest) (covers m (taken ++ c ∷ []) rest f.1 i less)

module _ (m : System) (P : ℕ → Type 0) (next : (i : ℕ) → i < length m.contexts → ((j : ℕ) → Supplies m j i → P j) → P i) where
  walk : (order : List ℕ) → IsImportOrder m order → (earlier rest : List ℕ) → order ≡ earlier ++ rest → FollowsOrder m earlier rest → ((j : ℕ) → IsAmong j earlier → P j)
      → (i : ℕ) → IsAmong i (earlier ++ rest) → P i
  walk order is earlier [] split f known i among = known i (subst (IsAmong i) (append-nil earlier) among)
  walk order is earlier (x ∷ rest) split f known i among =
      walk order is (earlier ++ x ∷ []) rest (split ∙ sym (append_assoc earlier (x ∷ []) rest)) f.1 pushed i (subst (IsAmong i) (sym (append_assoc earlier (x ∷ []) rest)) among)
    where
      here : P x
      here = next x f.0.ready.in_range (λ j s. known j (in_front earlier rest x j (subst (λ (l : List ℕ). IsAmong j (before_in l x)) split
          (filter_among (imports m x) j (before_in order x) (supplied_by m order x j is s)).0)))

      pushed : (j : ℕ) → IsAmong j (earlier ++ x ∷ []) → P j
      pushed j h = elim (among_either j earlier (x ∷ []) h) [ inl old ↦ known j old | inr last ↦ elim last [ inl e ↦ subst P (sym e) here | inr none ↦ absurd none ] ]

  -- what holds of a context where it holds of all that supply it holds of every context
  pub along_order : (i : ℕ) → i < length m.contexts → P i
  along_order i less = let (order, is) = import_order_exists m in walk order is [] order refl is (λ j h. absurd h) i (covers m [] order is i less)

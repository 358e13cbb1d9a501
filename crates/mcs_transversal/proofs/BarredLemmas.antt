-- What the critical edges of a mark have in common is barred: with it the mark would have none.
use Rattle.std.proofs.Common.{◌≡◌, ◌≢◌, ℕ, ◌+◌, ◌<◌, ◌≤◌, Bool, true, false, eqb, List, length, set, get_or, drop, replicate, ◌⊎◌, inl, inr, refl, sym, ap, ◌∙◌, subst, true≢false, arith}
use Rattle.std.proofs.lemmas.Bool.Decides.{nat_tests}
use Rattle.std.proofs.lemmas.List.{drop_more, drop_all, get_or_default, get_or-set_same, get_or-set_other, length-set, length-replicate}
use Rattle.mcs_sets.specs.Sets.{has, single, union, common}
use Rattle.mcs_sets.proofs.SetLemmas.{same_set, has-single, has-common}
use Rattle.mcs_sets.proofs.Lattice.{has-single_itself, in_common, within_union_left, within_union_right}
use Rattle.mcs_base.specs.Listings.{IsAmong}
use Rattle.mcs_base.specs.Transversals.{MeetAloneAt}
use Rattle.mcs_transversal.specs.Transversals.{IsCritical, AreCommonParts}
use Rattle.mcs_transversal.proofs.CriticalLemmas.{alone-in_first, alone-only, alone-same}

-- at each mark a set that lies in all edges before this place that meet t in this mark alone
pub record AreNarrowed (edges : List ℕ) (t index : ℕ) (parts : List ℕ) : Type 0 where
  pub one_each : length parts ≡ 128
  pub each : (k : ℕ) → k < 128 → (m : ℕ) → has (get_or parts k 0) m ≡ true → (e : ℕ) → IsAmong e edges → MeetAloneAt e t k → (has e m ≡ true) ⊎ IsAmong e (drop index edges)

module _ (edges : List ℕ) (t : ℕ) where
  pub none_narrowed : (most : ℕ) → AreNarrowed edges t 0 (replicate 128 most)
  none_narrowed most = record { one_each = length-replicate {A = ℕ} 128 most; each = λ k less m is e among alone. inr among }

  pub all_narrowed : (index : ℕ) (parts : List ℕ) → length edges ≤ index → AreNarrowed edges t index parts → AreCommonParts edges t parts
  all_narrowed index parts past narrowed = record {
    one_each = narrowed.one_each;
    each = λ k less m is e among alone. elim (narrowed.each k less m is e among alone) [
      | inl in_edge ↦ in_edge
      | inr later ↦ absurd (subst (IsAmong e) (drop_all index edges past) later)
    ];
  }

  module _ (index e : ℕ) (parts : List ℕ) (less : index < length edges) (here : e ≡ get_or edges index e) (narrowed : AreNarrowed edges t index parts) where
    -- an edge from this place on is this one, or comes after it
    here_or_later : (f : ℕ) → IsAmong f (drop index edges) → (f ≡ e) ⊎ IsAmong f (drop (index + 1) edges)
    here_or_later f among = elim (subst (IsAmong f) (drop_more edges index e less) among) [ inl is ↦ inl (is ∙ sym here) | inr later ↦ inr later ]

    -- at a mark that is not the only one in which this edge meets the set
    unlike : (k : ℕ) → ¬ MeetAloneAt e t k → (m f : ℕ) → MeetAloneAt f t k → (has f m ≡ true) ⊎ IsAmong f (drop index edges) → (has f m ≡ true) ⊎ IsAmong f (drop (index + 1) edges)
    unlike k not m f alone (inl is) = inl is
    unlike k not m f alone (inr from) = elim (here_or_later f from) [
      | inl same ↦ absurd (not (subst (λ (x : ℕ). MeetAloneAt x t k) same alone))
      | inr later ↦ inr later
    ]

    pub nothing_narrowed : ((k : ℕ) → ¬ MeetAloneAt e t k) → AreNarrowed edges t (index + 1) parts
    nothing_narrowed none = record { one_each = narrowed.one_each; each = λ k small m is f among alone. unlike k (none k) m f alone (narrowed.each k small m is f among alone) }

    one_narrowed : (mark : ℕ) → mark < 128 → MeetAloneAt e t mark → AreNarrowed edges t (index + 1) (set parts mark (common (get_or parts mark 0) e))
    one_narrowed mark low at_mark = record {
      one_each = length-set parts mark (common (get_or parts mark 0) e) ∙ narrowed.one_each;
      each = λ k small m is f among alone. each k small m is f among alone (eqb k mark) refl;
    }
      where
        now : List ℕ
        now = set parts mark (common (get_or parts mark 0) e)

        there : get_or now mark 0 ≡ common (get_or parts mark 0) e
        there = get_or-set_same parts mark (common (get_or parts mark 0) e) 0 (omega (arith, narrowed.one_each))

        other : (k : ℕ) → eqb k mark ≡ false → get_or now k 0 ≡ get_or parts k 0
        other k differ = get_or-set_other parts mark k (common (get_or parts mark 0) e) 0 (let apart : k ≢ mark = grind (arith, nat_tests) in apart)

        here_too : (m f : ℕ) → has e m ≡ true → (has f m ≡ true) ⊎ IsAmong f (drop index edges) → (has f m ≡ true) ⊎ IsAmong f (drop (index + 1) edges)
        here_too m f in_edge (inl is) = inl is
        here_too m f in_edge (inr from) = elim (here_or_later f from) [ inl same ↦ inl (ap (λ x. has x m) same ∙ in_edge) | inr later ↦ inr later ]

        each : (k : ℕ) → k < 128 → (m : ℕ) → has (get_or now k 0) m ≡ true → (f : ℕ) → IsAmong f edges → MeetAloneAt f t k → (v : Bool) → eqb k mark ≡ v → (has f m ≡ true) ⊎ IsAmong f (drop (index + 1) edges)
        each k small m is f among alone true at =
            let same : k ≡ mark = grind (arith, nat_tests) in
            let both = in_common (get_or parts mark 0) e m (ap (λ x. has x m) (sym there) ∙ ap (λ (i : ℕ). has (get_or now i 0) m) (sym same) ∙ is) in
            here_too m f both.1 (narrowed.each mark low m both.0 f among (subst (λ (i : ℕ). MeetAloneAt f t i) same alone))
        each k small m is f among alone false at =
            let not : ¬ MeetAloneAt e t k = λ alone'. let same : k ≡ mark = alone-same e t k mark alone' at_mark in true≢false (let yes : eqb k mark ≡ true = grind (arith, nat_tests) in sym yes ∙ at) in
            unlike k not m f alone (narrowed.each k small m (ap (λ x. has x m) (sym (other k at)) ∙ is) f among alone)

    pub narrowed_with : (d mark : ℕ) → mark < 128 → MeetAloneAt e t mark → AreNarrowed edges t (index + 1) (set parts mark (common (get_or parts mark d) e))
    narrowed_with d mark low at_mark = subst (λ (part : ℕ). AreNarrowed edges t (index + 1) (set parts mark (common part e))) (get_or_default parts mark 0 d (omega (arith, narrowed.one_each))) (one_narrowed mark low at_mark)

-- an edge that meets more in a mark of the set alone meets the set in it alone
alone_less : (e t m k : ℕ) → has t k ≡ true → MeetAloneAt e (union t (single m)) k → MeetAloneAt e t k
alone_less e t m k in_t alone = same_set (common e t) (single k) (λ j. at j (eqb j k) refl (has (common e t) j) refl)
  where
    in_edge : has e k ≡ true
    in_edge = alone-in_first e (union t (single m)) k alone

    at : (j : ℕ) → (v : Bool) → eqb j k ≡ v → (b : Bool) → has (common e t) j ≡ b → has (common e t) j ≡ has (single k) j
    at j true is b value = let same : k ≡ j = grind (arith, nat_tests) in subst (λ (i : ℕ). has (common e t) i ≡ has (single k) i) same (both ∙ sym (has-single_itself k))
      where
        both : has (common e t) k ≡ true
        both = rw (has-common e t k, in_edge, in_t) refl
    at j false is true value =
        let parts = in_common e t j value in
        let same : j ≡ k = alone-only e (union t (single m)) k j alone parts.0 (within_union_left t (single m) j parts.1) in
        absurd (true≢false (let yes : eqb j k ≡ true = grind (arith, nat_tests) in sym yes ∙ is))
    at j false is false value = value ∙ sym (has-single k j ∙ is)

-- what the critical edges of a mark of the set have in common is barred
pub common_is_barred : (edges : List ℕ) (t : ℕ) (parts : List ℕ) → AreCommonParts edges t parts → (k part : ℕ) → k < 128 → part ≡ get_or parts k part → has t k ≡ true → (m : ℕ) → has part m ≡ true → has t m ≡ false → ¬ IsCritical edges (union t (single m))
common_is_barred edges t parts common k part small is in_t m in_part not_in_t critical =
    let there : get_or parts k 0 ≡ part = get_or_default parts k 0 part (omega (arith, common.one_each)) ∙ sym is in
    let h = critical k (within_union_left t (single m) k in_t) in
    let in_edge = common.each k small m (ap (λ s. has s m) there ∙ in_part) h.edge h.among (alone_less h.edge t m k in_t h.alone) in
    let same : m ≡ k = alone-only h.edge (union t (single m)) k m h.alone in_edge (within_union_right t (single m) m (has-single_itself m)) in
    true≢false (sym in_t ∙ ap (has t) (sym same) ∙ not_in_t)

-- The order in which the prerequisites of the defaults of a set follow.
use Rattle.std.proofs.Common.{◌≡◌, ℕ, ◌+◌, Bool, true, false, not, ◌&&◌, cond, List, [], ◌∷◌, ◌++◌, map, length, arith, refl, sym, ap, ◌∙◌, subst, append_assoc, ◌⊎◌, inl, inr, Some, slice_get, true≢false}
use Rattle.std.proofs.lemmas.List.{append-nil}
use Rattle.std.proofs.lemmas.List.Folds.{list_all-append}
use Rattle.std.proofs.lemmas.Bool.{and_parts, and_from}
use Rattle.mcs_sets.specs.Sets.{has, single, minus, Within}
use Rattle.mcs_sets.proofs.SetLemmas.{has-minus, has-empty}
use Rattle.mcs_sets.proofs.Lattice.{in_minus, within_antisymmetric, minus_itself}
use Rattle.mcs_base.specs.Listings.{IsAmong, AreApart}
use Rattle.mcs_base.proofs.Among.{among_push}
use Rattle.mcs_base.proofs.Each.{all_push}
use Rattle.mcs_base.proofs.Zipped.{zip_weaker}
use Rattle.mcs_base.proofs.SetParts.{minus_less, less_minus}
use Rattle.mcs_system.specs.Plain.{Name, Formula, Default, Item}
use Rattle.mcs_system.specs.Logic.{holds, holds_all}
use Rattle.mcs_trace.specs.Clauses.{ClauseList}
use Rattle.mcs_cnf.specs.ClauseLists.{with_formulas, IsOver}
use Rattle.mcs_trace.specs.declared.certificate.Entail.{Entail}
use Rattle.mcs_cnf.specs.Entailments.{Entailment, Yes, No, entailment_of}
use Rattle.mcs_cnf.proofs.ListLemmas.{with_append}
use Rattle.mcs_evidence.specs.Defaults.{defaults_of, defaults_at, numbered_default, IsEntailmentShown, IsDenied, AreDenied, AreGrounded}
use Rattle.mcs_grounding.specs.Theories.{AreClausesOf, consequents}
use Rattle.mcs_grounding.specs.Told.{AreDefaultNumbers, prerequisites}
use Rattle.mcs_grounding.proofs.Numbers.{numbered_at, get_later}

-- where the formulas hold, the consequents of the defaults of the set do
abbrev AreMetBy : List Default → ℕ → List Name → Type 0
AreMetBy ds set a = (i : ℕ) (d : Default) → slice_get ds i ≡ Some d → has set i ≡ true → holds a d.conclusion ≡ true

-- by the defaults of these numbers, whose set it is, these formulas are derived, of which the list is
pub record IsDerived (names : List Name) (fs : List Formula) (ds : List Default) (closed : ℕ) (order : List ℕ) (pres : List Entailment) (known : ClauseList) : Type 0 where
  pub formulas : List Formula
  pub clauses : AreClausesOf names formulas known
  pub grounded : (items : List Item) → ds ≡ defaults_of items → (ns : List ℕ) (es : List Entailment) → AreGrounded names items formulas ns es → AreGrounded names items fs (order ++ ns) (pres ++ es)
  pub met : (a : List Name) → holds_all a formulas ≡ true → (holds_all a fs ≡ true) × AreMetBy ds closed a

pub derived-none : (names : List Name) (fs : List Formula) (ds : List Default) (closed : ℕ) (known : ClauseList) → AreClausesOf names fs known → closed ≡ 0 → IsDerived names fs ds closed [] [] known
derived-none names fs ds closed known is none = record {
  formulas = fs;
  clauses = is;
  grounded = λ items same ns es h. h;
  met = λ a h. (h, λ i d at member. absurd (true≢false (sym member ∙ ap (λ (s : ℕ). has s i) none ∙ has-empty i)));
}

-- ---- one default more
holds-push : (a : List Name) (fs : List Formula) (f : Formula) → holds_all a (fs ++ f ∷ []) ≡ true → (holds_all a fs ≡ true) × (holds a f ≡ true)
holds-push a fs f h =
    let (all, last) = and_parts (holds_all a fs) (holds_all a (f ∷ [])) (sym (list_all-append (holds a) fs (f ∷ [])) ∙ h) in
    (all, (and_parts (holds a f) true last).0)

pub numbers-more : (set left k : ℕ) (order order' : List ℕ) → has set k ≡ true → has left k ≡ true → order' ≡ order ++ (k + 1) ∷ [] → AreDefaultNumbers (minus set left) order → AreDefaultNumbers (minus set (minus left (single k))) order'
numbers-more set left k order order' inside in_left pushed (apart, exactly) =
    subst (AreDefaultNumbers (minus set (minus left (single k)))) (sym pushed) (apart_push order (k + 1) apart fresh, λ n. (to n, from n))
  where
    fresh : ¬ IsAmong (k + 1) order
    fresh among =
        let (j, same, member) = (exactly (k + 1)).0 among in
        let e : k ≡ j = omega arith in
        let (_, out) = in_minus set left j member in
        true≢false (sym in_left ∙ ap (has left) e ∙ out)

    apart_push : (xs : List ℕ) (x : ℕ) → AreApart xs → ¬ IsAmong x xs → AreApart (xs ++ x ∷ [])
    apart_push [] x h none = ((λ among. among), tt)
    apart_push (y ∷ ys) x (first, rest) none =
        ((λ among. elim ((among_push y ys x).0 among) [ inl old ↦ first old | inr same ↦ none (inl (sym same)) ]), apart_push ys x rest (λ among. none (inr among)))

    to : (n : ℕ) → IsAmong n (order ++ (k + 1) ∷ []) → (j : ℕ) × (n ≡ j + 1) × (has (minus set (minus left (single k))) j ≡ true)
    to n among = elim ((among_push n order (k + 1)).0 among) [
      | inl old ↦ let (j, same, member) = (exactly n).0 old in (j, same, less_minus set left k j (inl member) inside)
      | inr same ↦ (k, same, less_minus set left k k (inr refl) inside)
    ]

    from : (n : ℕ) → (j : ℕ) × (n ≡ j + 1) × (has (minus set (minus left (single k))) j ≡ true) → IsAmong n (order ++ (k + 1) ∷ [])
    from n (j, same, member) = (among_push n order (k + 1)).1 (elim (minus_less set left k j member) as (λ _. IsAmong n order ⊎ (n ≡ k + 1)) [
      | inl old ↦ inl ((exactly n).1 (j, same, old))
      | inr e ↦ inr (same ∙ ap (λ (m : ℕ). m + 1) e)
    ])

pub derived-more : (names : List Name) (fs : List Formula) (ds : List Default) (set left k : ℕ) (d : Default) (order order' : List ℕ) (pres pres' : List Entailment) (e : Entailment) (known known' : ClauseList)
    → slice_get ds k ≡ Some d → IsOver names d.conclusion → order' ≡ order ++ (k + 1) ∷ [] → pres' ≡ pres ++ e ∷ [] → known' ≡ with_formulas names known (d.conclusion ∷ [])
    → (derived : IsDerived names fs ds (minus set left) order pres known) → IsEntailmentShown names derived.formulas d.pre e
    → IsDerived names fs ds (minus set (minus left (single k))) order' pres' known'
derived-more names fs ds set left k d order order' pres pres' e known known' at over ordered shown_more pushed derived shown =
    let gs = derived.formulas in
    record {
      formulas = gs ++ d.conclusion ∷ [];
      clauses = (pushed ∙ ap (λ (x : ClauseList). with_formulas names x (d.conclusion ∷ [])) derived.clauses.0 ∙ with_append names (record { vars = length names; clauses = [] }) gs (d.conclusion ∷ []), all_push (IsOver names) gs d.conclusion derived.clauses.1 over);
      grounded = λ items same ns es h.
          (let is : numbered_default items (k + 1) ≡ Some d = numbered_at items k ∙ ap (λ (xs : List Default). slice_get xs k) (sym same) ∙ at in
          let next = derived.grounded items same ((k + 1) ∷ ns) (e ∷ es) (d, is, shown, h) in
          subst (λ (xs : List ℕ). AreGrounded names items fs xs (pres' ++ es)) (sym (ap (λ (xs : List ℕ). xs ++ ns) ordered ∙ append_assoc order ((k + 1) ∷ []) ns))
          (subst (λ (ys : List Entailment). AreGrounded names items fs (order ++ (k + 1) ∷ ns) ys) (sym (ap (λ (ys : List Entailment). ys ++ es) shown_more ∙ append_assoc pres (e ∷ []) es)) next));
      met = λ a h.
          (let (old, last) = holds-push a gs d.conclusion h in
          let (base, met) = derived.met a old in (
            base,
            λ i d' at' member. elim (minus_less set left k i member) [
              | inl before ↦ met i d' at' before
              | inr same ↦ let one : d' ≡ d = (let e' : Some d' ≡ Some d = sym at' ∙ ap (slice_get ds) same ∙ at in cc) in ap (λ (x : Default). holds a x.conclusion) one ∙ last
            ],
          ));
    }

-- ---- all are derived, or none is next
pub derived-all : (names : List Name) (fs : List Formula) (ds : List Default) (closed : ℕ) (order : List ℕ) (pres : List Entailment) (known : ClauseList) → IsDerived names fs ds closed order pres known
    → (items : List Item) → ds ≡ defaults_of items → AreGrounded names items fs order pres
derived-all names fs ds closed order pres known derived items same =
    subst (λ (xs : List ℕ). AreGrounded names items fs xs pres) (append-nil order)
    (subst (λ (ys : List Entailment). AreGrounded names items fs (order ++ []) ys) (append-nil pres) (derived.grounded items same [] [] tt))

consequents-hold : (a : List Name) (j : ℕ) (ds : List Default) (set : ℕ) → ((i : ℕ) (d : Default) → slice_get ds i ≡ Some d → has set (j + i) ≡ true → holds a d.conclusion ≡ true)
    → holds_all a (map (λ (d : Default). d.conclusion) (defaults_at j ds set)) ≡ true
consequents-hold a j [] set met = refl
consequents-hold a j (d ∷ ds) set met =
    let z : j + 0 ≡ j = omega arith in
    at (has set j) refl (λ is. met 0 d refl (ap (has set) z ∙ is)) (consequents-hold a (j + 1) ds set (λ i d' is member. (let e : j + (i + 1) ≡ j + 1 + i = omega arith in met (i + 1) d' (get_later d ds i ∙ is) (ap (has set) e ∙ member))))
  where
    at : (b : Bool) → has set j ≡ b → (has set j ≡ true → holds a d.conclusion ≡ true) → holds_all a (map (λ (d : Default). d.conclusion) (defaults_at (j + 1) ds set)) ≡ true
        → holds_all a (map (λ (d : Default). d.conclusion) (cond b (d ∷ defaults_at (j + 1) ds set) (defaults_at (j + 1) ds set))) ≡ true
    at true is first rest = and_from (holds a d.conclusion) _ (first is) rest
    at false is first rest = rest

weaker : (names : List Name) (gs hs : List Formula) → ((a : List Name) → holds_all a gs ≡ true → holds_all a hs ≡ true) → (p : Formula) (e : Entailment) → IsDenied names gs p e → IsDenied names hs p e
weaker names gs hs more p (Yes steps) (accepted, said) = absurd (true≢false said)
weaker names gs hs more p (No places) (refuted, said) = (record { model = record { in_range = refuted.model.in_range; formulas = more _ refuted.model.formulas }; goal = refuted.goal }, said)

pub stuck : (names : List Name) (fs : List Formula) (ds : List Default) (set left : ℕ) (order : List ℕ) (pres es : List Entailment) (known : ClauseList) → Within left set
    → (derived : IsDerived names fs ds (minus set left) order pres known) → AreDenied names derived.formulas (prerequisites ds left) es
    → AreDenied names (fs ++ consequents ds (minus set left)) (prerequisites ds (minus set (minus set left))) es
stuck names fs ds set left order pres es known part derived denied =
    subst (λ (s : ℕ). AreDenied names (fs ++ consequents ds (minus set left)) (prerequisites ds s) es) (sym (back part))
    (zip_weaker (IsDenied names derived.formulas) (IsDenied names (fs ++ consequents ds (minus set left)))
    (λ p e h. weaker names derived.formulas (fs ++ consequents ds (minus set left)) (λ a all. (let (base, met) = derived.met a all in
    list_all-append (holds a) fs (consequents ds (minus set left)) ∙ and_from (holds_all a fs) _ base (consequents-hold a 0 ds (minus set left) (λ i d at member. (let z : 0 + i ≡ i = omega arith in met i d at (ap (has (minus set left)) (sym z) ∙ member)))))) p e h)
    (prerequisites ds left) es denied)
  where
    back : Within left set → minus set (minus set left) ≡ left
    back within = within_antisymmetric (minus set (minus set left)) left
        (λ k member. (let (inside, out) = in_minus set (minus set left) k member in at k (has left k) refl inside (sym (has-minus set left k) ∙ out)))
        (λ k member. has-minus set (minus set left) k ∙ ap (λ c. c && not (has (minus set left) k)) (within k member) ∙ ap not (has-minus set left k ∙ ap (λ c. c && not (has left k)) (within k member) ∙ ap not member))
      where
        at : (k : ℕ) (b : Bool) → has left k ≡ b → has set k ≡ true → (has set k && not (has left k)) ≡ false → has left k ≡ true
        at k true is inside none = is
        at k false is inside none = absurd (true≢false (sym (ap (λ c. c && not (has left k)) inside ∙ ap not is) ∙ none))

-- ---- the code's loop begins
pub numbers-none : (set : ℕ) (order : List ℕ) → order ≡ [] → AreDefaultNumbers (minus set set) order
numbers-none set order none = subst (AreDefaultNumbers (minus set set)) (sym none) (tt, λ n. (λ among. absurd among, λ (k, same, member). absurd (true≢false (sym member ∙ ap (λ (s : ℕ). has s k) (minus_itself set) ∙ has-empty k))))

pub derived-start : (names : List Name) (fs : List Formula) (ds : List Default) (set : ℕ) (order : List ℕ) (pres : List Entail) (known : ClauseList) → order ≡ [] → pres ≡ [] → AreClausesOf names fs known
    → IsDerived names fs ds (minus set set) order (map entailment_of pres) known
derived-start names fs ds set order pres known none none' is =
    subst (λ (xs : List ℕ). IsDerived names fs ds (minus set set) xs (map entailment_of pres) known) (sym none)
    (subst (λ (ys : List Entail). IsDerived names fs ds (minus set set) [] (map entailment_of ys) known) (sym none') (derived-none names fs ds (minus set set) known is (minus_itself set)))

pub same_default : (ds : List Default) (k : ℕ) (d d' : Default) → slice_get ds k ≡ Some d → slice_get ds k ≡ Some d' → d ≡ d'
same_default ds k d d' at at' = let e : Some d ≡ Some d' = sym at ∙ at' in cc

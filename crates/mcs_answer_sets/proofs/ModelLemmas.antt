-- Rules and views of a model, and states that ascend.
use Rattle.std.proofs.Common.{◌≡◌, ℕ, ◌+◌, ◌-◌, ◌<◌, ◌≤◌, Bool, true, false, not, ◌&&◌, ◌||◌, IsTrue, List, [], ◌∷◌, ◌++◌, map, length, get_or, take, drop, arith, refl, sym, ap, ◌∙◌, subst, ◌↔◌, Some, slice_get, Bor, true≢false}
use Rattle.std.proofs.lemmas.List.{drop_more, map_more, length-drop, length-map, get_or-map}
use Rattle.std.proofs.lemmas.Bool.Decides.{same_from_decides}
use Rattle.std.proofs.lemmas.Option.{same_Some, slice_get_within}
use Rattle.std.specs.List.{AllByRecursion, list_any, list_all}
use Rattle.mcs_sets.specs.Sets.{has}
use Rattle.mcs_sets.specs.Orders.{StateBefore}
use Rattle.mcs_sets.proofs.SetLemmas.{same_set}
use Rattle.mcs_base.specs.Listings.{IsAscending}
use Rattle.mcs_base.specs.StateOrder.{StateBefore-transitive}
use Rattle.mcs_base.proofs.Each.{all_get, all_weaker}
use Rattle.mcs_base.proofs.Lists.{zip_push}
use Rattle.mcs_base.proofs.Mapped.{slice_get-map_read}
use Rattle.mcs_system.specs.Plain.{Name, Formula, Atom, ProgramRule}
use Rattle.mcs_trace.specs.Clauses.{ClauseList}
use Rattle.mcs_trace.specs.Traces.{IsAcceptedTrace}
use Rattle.mcs_cnf.specs.ClauseLists.{clause_list}
use Rattle.mcs_system.specs.Logic.{is_in, holds_all, holds, true_names, Atoms, Believes}
use Rattle.mcs_system.specs.Views.{Shows}
use Rattle.mcs_evidence.specs.Programs.{ModelShown, ProgramShown, model_shown_of, rest_formulas, smaller_formulas, rule_formula, IsRefutation, IsAcceptedProgram, IsInRange, IsModelShown, IsAcceptedModel}
use Rattle.mcs_evidence.proofs.Models.{rule_formula-holds}
use Rattle.mcs_trace.specs.declared.certificate.AnswerSetCert.{AnswerSetCert}
use Rattle.mcs_answer_sets.specs.Models.{AreModelsShown}

-- ---- rules
pub rule_unmet : (a : List Name) (r : ProgramRule) → list_all (λ n. is_in n a) r.pos ≡ false → true ≡ holds a (rule_formula r)
rule_unmet a r unmet = sym (rule_formula-holds a r ∙ ap (λ b. not (b && not (list_any (λ n. is_in n a) r.neg)) || list_any (λ n. is_in n a) r.head) unmet)

pub rule_blocked : (a : List Name) (r : ProgramRule) → list_any (λ n. is_in n a) r.neg ≡ true → true ≡ holds a (rule_formula r)
rule_blocked a r blocked = sym (rule_formula-holds a r ∙ ap (λ b. not (list_all (λ n. is_in n a) r.pos && not b) || list_any (λ n. is_in n a) r.head) blocked ∙ turn (list_all (λ n. is_in n a) r.pos))
  where
    turn : (x : Bool) → (not (x && false) || list_any (λ n. is_in n a) r.head) ≡ true
    turn true = refl
    turn false = refl

pub rule_left : (a : List Name) (r : ProgramRule) (b : Bool) → list_all (λ n. is_in n a) r.pos ≡ true → list_any (λ n. is_in n a) r.neg ≡ false → b ≡ list_any (λ n. is_in n a) r.head → b ≡ holds a (rule_formula r)
rule_left a r b met free is = is ∙ sym (rule_formula-holds a r ∙ ap (λ x. not (x && not (list_any (λ n. is_in n a) r.neg)) || list_any (λ n. is_in n a) r.head) met ∙ ap (λ x. not (true && not x) || list_any (λ n. is_in n a) r.head) free)

-- ---- views
-- the belief at this place is believed
abbrev pub IsBelievedAt : List Name → List Formula → ℕ → Type 0
IsBelievedAt a beliefs b = (p : Formula) × (slice_get beliefs b ≡ Some p) × Believes (Atoms a) p

module _ (a : List Name) (beliefs : List (Bor Name)) (k : ℕ) (n : Bor Name) (less : k < length beliefs) (is : n ≡ get_or beliefs k n) where
  there : slice_get (map Atom (map (λ b. b.now) beliefs)) k ≡ Some (Atom n.now)
  there = slice_get-map_read Atom (map (λ b. b.now) beliefs) k n.now (omega (arith, length-map beliefs (λ b. b.now))) at
    where
      at : n.now ≡ get_or (map (λ b. b.now) beliefs) k n.now
      at = sym (get_or-map (λ b. b.now) beliefs k n n.now less ∙ ap (λ (x : Bor Name). x.now) (sym is))

  pub believed : is_in n.now a ≡ true → IsBelievedAt a (map Atom (map (λ b. b.now) beliefs)) k
  believed held = (Atom n.now, there, held)

  pub not_believed : is_in n.now a ≡ false → ¬ IsBelievedAt a (map Atom (map (λ b. b.now) beliefs)) k
  not_believed absent (p, at, held) =
      let same : p ≡ Atom n.now = same_Some p (Atom n.now) (sym at ∙ there) in
      let inside : is_in n.now a ≡ true = subst (Believes (Atoms a)) same held in
      true≢false (sym inside ∙ absent)

pub view_all : (a : List Name) (beliefs : List Formula) (view k : ℕ) → length beliefs ≤ k → ((b : ℕ) → (has view b ≡ true) ↔ ((b < k) × IsBelievedAt a beliefs b)) → Shows (Atoms a) beliefs view
view_all a beliefs view k past gathered b = (
  λ h. ((gathered b).0 h).1,
  λ (p, at, held). (gathered b).1 ((let inside = slice_get_within beliefs b p at in omega arith), (p, at, held)),
)

-- a model has one view
pub shows_one : (a : List Name) (beliefs : List Formula) (v w : ℕ) → Shows (Atoms a) beliefs v → Shows (Atoms a) beliefs w → v ≡ w
shows_one a beliefs v w shows shows' = same_set v w (λ k. same_from_decides {P = has w k ≡ true} (has v k) (has w k) (λ h. (shows' k).1 ((shows k).0 h), λ h. (shows k).1 ((shows' k).0 h)) (λ h. h, λ h. h))

-- ---- models
pub models_shown : (names : List Name) (rules : List ProgramRule) (beliefs : List Formula) (views : List ℕ) (ms : List ModelShown) → AreModelsShown names rules beliefs views ms → AllByRecursion (IsModelShown names rules) ms
models_shown names rules beliefs [] [] h = tt
models_shown names rules beliefs [] (m ∷ ms) h = absurd h
models_shown names rules beliefs (v ∷ views) [] h = absurd h
models_shown names rules beliefs (v ∷ views) (m ∷ ms) h = (h.0.shown, models_shown names rules beliefs views ms h.1)

pub models_one : (names : List Name) (rules : List ProgramRule) (beliefs : List Formula) (views others : List ℕ) (ms : List ModelShown) → AreModelsShown names rules beliefs views ms → AreModelsShown names rules beliefs others ms → views ≡ others
models_one names rules beliefs [] [] [] h h' = refl
models_one names rules beliefs [] [] (m ∷ ms) h h' = absurd h
models_one names rules beliefs [] (w ∷ others) [] h h' = absurd h'
models_one names rules beliefs [] (w ∷ others) (m ∷ ms) h h' = absurd h
models_one names rules beliefs (v ∷ views) others [] h h' = absurd h
models_one names rules beliefs (v ∷ views) [] (m ∷ ms) h h' = absurd h'
models_one names rules beliefs (v ∷ views) (w ∷ others) (m ∷ ms) h h' =
    ap (λ (x : ℕ). x ∷ views) (shows_one (true_names 0 names m.model) beliefs v w h.0.shows h'.0.shows) ∙ ap (λ (xs : List ℕ). w ∷ xs) (models_one names rules beliefs views others ms h.1 h'.1)

pub models_more : (names : List Name) (rules : List ProgramRule) (beliefs : List Formula) (ms : List AnswerSetCert) (i : ℕ) (m : AnswerSetCert) (views views' : List ℕ) (view : ℕ) → i < length ms → m ≡ get_or ms i m → views' ≡ views ++ view ∷ []
    → IsAcceptedModel names rules beliefs view (model_shown_of m) → AreModelsShown names rules beliefs views (map model_shown_of (take i ms)) → AreModelsShown names rules beliefs views' (map model_shown_of (take (i + 1) ms))
models_more names rules beliefs ms i m views views' view less is pushed fine before =
    subst (λ (vs : List ℕ). AreModelsShown names rules beliefs vs (map model_shown_of (take (i + 1) ms))) (sym pushed)
    (subst (λ (xs : List ModelShown). AreModelsShown names rules beliefs (views ++ view ∷ []) xs) (sym (map_more model_shown_of ms i m less ∙ ap (λ (x : AnswerSetCert). map model_shown_of (take i ms) ++ model_shown_of x ∷ []) (sym is)))
    (zip_push (IsAcceptedModel names rules beliefs) views (map model_shown_of (take i ms)) view (model_shown_of m) before fine))

pub model_at : (names : List Name) (rules : List ProgramRule) (beliefs : List Formula) (ms : List AnswerSetCert) (i : ℕ) (m : AnswerSetCert) (views : List ℕ) → i < length ms → m ≡ get_or ms i m → AreModelsShown names rules beliefs views (map model_shown_of ms) → IsModelShown names rules (model_shown_of m)
model_at names rules beliefs ms i m views less is all = all_get (IsModelShown names rules) (map model_shown_of ms) i (model_shown_of m) (models_shown names rules beliefs views (map model_shown_of ms) all) (slice_get-map_read model_shown_of ms i m less is)

pub model_iff : (names : List Name) (rules : List ProgramRule) (m : ModelShown) (model : ℕ) (cnf : ClauseList) (b : Bool) → IsInRange names m.model → holds_all (true_names 0 names model) (map rule_formula rules) ≡ true → model ≡ m.model
    → cnf ≡ clause_list names (smaller_formulas names rules model) → IsTrue b ↔ IsAcceptedTrace cnf.clauses m.minimal → IsTrue b ↔ IsModelShown names rules m
model_iff names rules m model cnf b range all is made tells = (
  λ h. record { in_range = range; satisfies = subst (λ (s : ℕ). holds_all (true_names 0 names s) (map rule_formula rules) ≡ true) is all; minimal = there.0 h },
  λ s. there.1 s.minimal,
)
  where
    there : IsTrue b ↔ IsRefutation names (smaller_formulas names rules m.model) m.minimal
    there = subst (λ (c : ClauseList). IsTrue b ↔ IsAcceptedTrace c.clauses m.minimal) (made ∙ ap (λ (s : ℕ). clause_list names (smaller_formulas names rules s)) is) tells

-- ---- certificates
module _ (names : List Name) (rules : List ProgramRule) (beliefs : List Formula) (shown : ProgramShown) where
  pub unless_range : ¬ AllByRecursion (IsInRange names) shown.smaller → (views : List ℕ) → ¬ IsAcceptedProgram names rules beliefs views shown
  unless_range none views h = none h.in_range

  pub unless_models : ((views : List ℕ) → ¬ AreModelsShown names rules beliefs views shown.models) → (views : List ℕ) → ¬ IsAcceptedProgram names rules beliefs views shown
  unless_models none views h = none views h.models

  module _ (v : List ℕ) (models : AreModelsShown names rules beliefs v shown.models) where
    pub unless_ascending : ¬ IsAscending StateBefore v → (views : List ℕ) → ¬ IsAcceptedProgram names rules beliefs views shown
    unless_ascending none views h = none (subst (IsAscending StateBefore) (models_one names rules beliefs views v shown.models h.models models) h.ascending)

    pub unless_refuted : ¬ IsRefutation names (rest_formulas names rules beliefs shown.smaller v) shown.rest → (views : List ℕ) → ¬ IsAcceptedProgram names rules beliefs views shown
    unless_refuted none views h = none (subst (λ (ws : List ℕ). IsRefutation names (rest_formulas names rules beliefs shown.smaller ws) shown.rest) (models_one names rules beliefs views v shown.models h.models models) h.others)

    pub program_accepted : AllByRecursion (IsInRange names) shown.smaller → IsAscending StateBefore v → IsRefutation names (rest_formulas names rules beliefs shown.smaller v) shown.rest → IsAcceptedProgram names rules beliefs v shown
    program_accepted ranges up refuted = record { ascending = up; models = models; in_range = ranges; others = refuted }

-- ---- states that ascend
module _ (xs : List ℕ) where
  -- all ascend exactly where those from the one before the index on do
  abbrev pub AscendFrom : ℕ → Type 0
  AscendFrom i = (0 < i) × (IsAscending StateBefore xs ↔ IsAscending StateBefore (drop (i - 1) xs))

  pub ascend_start : AscendFrom 1
  ascend_start = (omega arith, (λ h. h, λ h. h))

  pairs : (x y : ℕ) (ys : List ℕ) → StateBefore x y → IsAscending StateBefore (y ∷ ys) → IsAscending StateBefore (x ∷ (y ∷ ys))
  pairs x y ys first rest = ((first, all_weaker (StateBefore y) (StateBefore x) (λ z later. StateBefore-transitive x y z first later) ys rest.0), rest)

  module _ (i : ℕ) (x y : ℕ) (less : i < length xs) (is : x ≡ get_or xs (i - 1) x) (is' : y ≡ get_or xs i y) (before : AscendFrom i) where
    here : drop (i - 1) xs ≡ x ∷ (y ∷ drop (i + 1) xs)
    here =
        let e : i - 1 + 1 ≡ i = (let some : 0 < i = before.0 in omega arith) in
        drop_more xs (i - 1) x (let some : 0 < i = before.0 in omega arith) ∙ ap (λ (v : ℕ). v ∷ drop (i - 1 + 1) xs) (sym is)
        ∙ ap (λ (n : ℕ). x ∷ drop n xs) e ∙ ap (λ (ys : List ℕ). x ∷ ys) (drop_more xs i y less ∙ ap (λ (v : ℕ). v ∷ drop (i + 1) xs) (sym is'))

    next : drop (i + 1 - 1) xs ≡ y ∷ drop (i + 1) xs
    next = let e : i + 1 - 1 ≡ i = omega arith in ap (λ (n : ℕ). drop n xs) e ∙ drop_more xs i y less ∙ ap (λ (v : ℕ). v ∷ drop (i + 1) xs) (sym is')

    pub ascend_on : StateBefore x y → AscendFrom (i + 1)
    ascend_on first = (
      omega arith,
      (
        λ h. subst (IsAscending StateBefore) (sym next) (let whole : IsAscending StateBefore (x ∷ (y ∷ drop (i + 1) xs)) = subst (IsAscending StateBefore) here (before.1.0 h) in whole.1),
        λ h. before.1.1 (subst (IsAscending StateBefore) (sym here) (pairs x y (drop (i + 1) xs) first (subst (IsAscending StateBefore) next h))),
      ),
    )

    pub ascend_off : ¬ StateBefore x y → ¬ IsAscending StateBefore xs
    ascend_off not_first h = let whole : IsAscending StateBefore (x ∷ (y ∷ drop (i + 1) xs)) = subst (IsAscending StateBefore) here (before.1.0 h) in not_first whole.0.0

  pub ascend_end : (i : ℕ) → length xs ≤ i → AscendFrom i → IsAscending StateBefore xs
  ascend_end i past (some, go) = go.1 (single (drop (i - 1) xs) (omega (arith, length-drop (i - 1) xs)))
    where
      single : (ys : List ℕ) → length ys ≤ 1 → IsAscending StateBefore ys
      single [] few = tt
      single (y ∷ []) few = (tt, tt)
      single (y ∷ (z ∷ ys)) few = absurd (omega (arith, few))

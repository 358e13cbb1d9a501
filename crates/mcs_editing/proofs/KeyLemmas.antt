-- Different keys: which there are in a listing and in the first ones, and which of them are new.
use Rattle.std.proofs.Common.{◌≡◌, ℕ, zero, suc, ◌<◌, ◌≤◌, List, [], ◌∷◌, ◌++◌, length, Option, Some, None, slice_get, refl, sym, ap, ◌∙◌, subst, inl, inr, ◌⊎◌, ◌↔◌, arith}
use Rattle.std.proofs.lemmas.Bool.{cases_eq}
use Rattle.std.proofs.lemmas.Option.{slice_get_within, same_Some}
use Rattle.std.specs.List.{flat_map, range_with_len}
use Rattle.mcs_base.specs.Listings.{IsAmong, IsInventory}
use Rattle.mcs_base.proofs.Among.{among_either, among_left, among_right, among_map, map_among, among_flat_map, flat_map_among, among_range, range_among}
use Rattle.mcs_base.proofs.Bags.{inventory_same}
use Rattle.mcs_base.proofs.Distinct.{distinct_append, distinct_fits}
use Rattle.mcs_base.proofs.Lists.{slice_get_below, place_cases}
use Rattle.mcs_costs.proofs.ExistLemmas.{cases_states}
use Rattle.mcs_existence.proofs.Counts.{counts_exist}
use Rattle.mcs_system.specs.Plain.{System}
use Rattle.mcs_system.specs.Systems.{all_rules, IsProjectedEquilibrium}
use Rattle.mcs_system.specs.Levels.{IsQuestionAt, AreQuestions}
use Rattle.mcs_work.specs.Tasks.{IsLastRepairLevel}
use Rattle.mcs_session.specs.Keys.{Key, key_of, keys_of}
use Rattle.mcs_session.specs.KeyTexts.{key_text}
use Rattle.mcs_session.proofs.TextLemmas.{texts_differ}
use Rattle.mcs_editing.specs.Listed.{IsKeyOfListing, IsKeyOfFirst, IsNewKeyAt, IsKeptKeyAt}

-- ---- of lists
-- inventories of the same are as long
pub inventories_fit : {A : Type 0} (P : A → Type 0) (xs ys : List A) → IsInventory P xs → IsInventory P ys → length xs ≡ length ys
inventories_fit P xs ys a b =
    let most = distinct_fits xs ys a.apart (λ x h. (b.exactly x).1 ((a.exactly x).0 h)) in
    let least = distinct_fits ys xs b.apart (λ x h. (a.exactly x).1 ((b.exactly x).0 h)) in
    omega (arith, most, least)

numbers_same : (xs ys : List ℕ) → (xs ≡ ys) ⊎ (¬ (xs ≡ ys))
numbers_same [] [] = inl refl
numbers_same [] (y ∷ ys) = inr (λ e. absurd (cc))
numbers_same (x ∷ xs) [] = inr (λ e. absurd (cc))
numbers_same (x ∷ xs) (y ∷ ys) = elim (cases_eq x y) [
  | inl e ↦ elim (numbers_same xs ys) [ inl es ↦ inl (cc) | inr other ↦ inr (λ same. other (cc)) ]
  | inr other ↦ inr (λ same. other (cc))
]

-- the different ones of a list, apart by whether they are in another list
module _ {A : Type 0} (cases : (x y : A) → (x ≡ y) ⊎ (¬ (x ≡ y))) where
  pub cases_in : (x : A) (ys : List A) → IsAmong x ys ⊎ (¬ IsAmong x ys)
  cases_in x [] = inr (λ h. h)
  cases_in x (y ∷ ys) = elim (cases x y) [
    | inl e ↦ inl (inl e)
    | inr differ ↦ elim (cases_in x ys) [ inl later ↦ inl (inr later) | inr out ↦ inr (λ h. elim h [ inl e ↦ differ e | inr there ↦ out there ]) ]
  ]

  abbrev pub Divides : List A → List A → List A → List A → Type 0
  Divides xs ys new kept = IsInventory (λ x. IsAmong x xs × (¬ IsAmong x ys)) new × IsInventory (λ x. IsAmong x xs × IsAmong x ys) kept

  pub divided : (xs ys : List A) → (new kept : List A) × Divides xs ys new kept
  divided [] ys = (
    [],
    [],
    (
      record { exactly = λ x. (λ h. absurd h, λ p. p.0); apart = tt },
      record { exactly = λ x. (λ h. absurd h, λ p. p.0); apart = tt },
    ),
  )
  divided (x ∷ xs) ys = let (new, kept, (are_new, are_kept)) = divided xs ys in elim (cases_in x xs) [
    | inl again ↦ (
      new,
      kept,
      (
        inventory_same _ _ new (λ z. (λ p. (inr p.0, p.1), λ p. (elim p.0 [ inl e ↦ subst (λ (v : A). IsAmong v xs) (sym e) again | inr h ↦ h ], p.1))) are_new,
        inventory_same _ _ kept (λ z. (λ p. (inr p.0, p.1), λ p. (elim p.0 [ inl e ↦ subst (λ (v : A). IsAmong v xs) (sym e) again | inr h ↦ h ], p.1))) are_kept,
      ),
    )
    | inr fresh ↦ elim (cases_in x ys) [
      | inl there ↦ (
        new,
        x ∷ kept,
        (
          inventory_same _ _ new (λ z. (λ p. (inr p.0, p.1), λ p. (elim p.0 [ inl e ↦ absurd (p.1 (subst (λ (v : A). IsAmong v ys) (sym e) there)) | inr h ↦ h ], p.1))) are_new,
          record {
            exactly = λ z. (
              λ h. elim h [ inl e ↦ (inl e, subst (λ (v : A). IsAmong v ys) (sym e) there) | inr later ↦ (inr ((are_kept.exactly z).0 later).0, ((are_kept.exactly z).0 later).1) ],
              λ p. elim p.0 [ inl e ↦ inl e | inr later ↦ inr ((are_kept.exactly z).1 (later, p.1)) ],
            );
            apart = (λ h. fresh ((are_kept.exactly x).0 h).0, are_kept.apart);
          },
        ),
      )
      | inr out ↦ (
        x ∷ new,
        kept,
        (
          record {
            exactly = λ z. (
              λ h. elim h [ inl e ↦ (inl e, λ there. out (subst (λ (v : A). IsAmong v ys) e there)) | inr later ↦ (inr ((are_new.exactly z).0 later).0, ((are_new.exactly z).0 later).1) ],
              λ p. elim p.0 [ inl e ↦ inl e | inr later ↦ inr ((are_new.exactly z).1 (later, p.1)) ],
            );
            apart = (λ h. fresh ((are_new.exactly x).0 h).0, are_new.apart);
          },
          inventory_same _ _ kept (λ z. (λ p. (inr p.0, p.1), λ p. (elim p.0 [ inl e ↦ absurd (out (subst (λ (v : A). IsAmong v ys) e p.1)) | inr h ↦ h ], p.1))) are_kept,
        ),
      )
    ]
  ]

-- ---- keys
pub keys_same : (k l : Key) → (k ≡ l) ⊎ (¬ (k ≡ l))
keys_same k l = elim (numbers_same (key_text k) (key_text l)) [ inl e ↦ inl (texts_differ k l e) | inr other ↦ inr (λ same. other (ap key_text same)) ]

-- the level of a listing
last_level : (m : System) → (level : ℕ) × IsLastRepairLevel m level
last_level m = at (cases_states m (all_rules m) 0)
  where
    at : ((σ : ℕ) × IsProjectedEquilibrium m (all_rules m) 0 σ) ⊎ ((σ : ℕ) → ¬ IsProjectedEquilibrium m (all_rules m) 0 σ) → (level : ℕ) × IsLastRepairLevel m level
    at (inl (σ, is)) = (0, inl (record { equilibrium = σ; balanced = is }, refl))
    at (inr none) = (length m.bridges, inr (λ c. none c.equilibrium c.balanced, refl))

pub one_last_level : (m : System) (level other : ℕ) → IsLastRepairLevel m level → IsLastRepairLevel m other → level ≡ other
one_last_level m level other (inl a) (inl b) = a.1 ∙ sym b.1
one_last_level m level other (inl a) (inr b) = absurd (b.0 a.0)
one_last_level m level other (inr a) (inl b) = absurd (a.0 b.0)
one_last_level m level other (inr a) (inr b) = a.1 ∙ sym b.1

questions_in : Option (List ℕ) → List ℕ
questions_in None = []
questions_in (Some xs) = xs

module _ (m : System) (level : ℕ) (last : IsLastRepairLevel m level) (lists : List (List ℕ)) (are : AreQuestions m level lists) where
  keys_at : ℕ → List Key
  keys_at i = keys_of m i (questions_in (slice_get lists i))

  all_keys : List Key
  all_keys = flat_map keys_at (range_with_len 0 (length m.contexts))

  keys_at_are : (i : ℕ) (xs : List ℕ) → slice_get lists i ≡ Some xs → keys_at i ≡ keys_of m i xs
  unfolding keys_at questions_in
  keys_at_are i xs is = ap (λ (o : Option (List ℕ)). keys_of m i (questions_in o)) is

  list_at : (i : ℕ) → i < length m.contexts → (xs : List ℕ) × (slice_get lists i ≡ Some xs)
  list_at i below = slice_get_below lists i (let e = are.one_each in omega (arith, e, below))

  key_is_listed : (k : Key) → IsKeyOfListing m k → IsAmong k all_keys
  unfolding all_keys
  key_is_listed k w =
      let (xs, is) = list_at w.context w.there in
      let asked : IsQuestionAt m level w.context w.question = subst (λ (l : ℕ). IsQuestionAt m l w.context w.question) (one_last_level m w.level level w.last last) w.asked in
      let here : IsAmong (key_of m w.context w.question) (keys_of m w.context xs) = among_map (key_of m w.context) w.question xs (((are.listed w.context xs is).exactly w.question).1 asked) in
      let there = subst (λ (ks : List Key). IsAmong (key_of m w.context w.question) ks) (sym (keys_at_are w.context xs is)) here in
      subst (λ (l : Key). IsAmong l (flat_map keys_at (range_with_len 0 (length m.contexts)))) (sym w.key_is)
      (among_flat_map keys_at w.context (key_of m w.context w.question) (range_with_len 0 (length m.contexts)) (among_range w.context 0 (length m.contexts) (omega arith) (let below = w.there in omega (arith, below))) there)

  listed_is_key : (k : Key) → IsAmong k all_keys → IsKeyOfListing m k
  unfolding all_keys
  listed_is_key k h =
      let (i, inside, there) = flat_map_among keys_at k (range_with_len 0 (length m.contexts)) h in
      let within = range_among i 0 (length m.contexts) inside in
      let below : i < length m.contexts = omega (arith, within.1) in
      let (xs, is) = list_at i below in
      let (x, among, key_is) = map_among (key_of m i) k xs (subst (λ (ks : List Key). IsAmong k ks) (keys_at_are i xs is) there) in
      record { level = level; last = last; context = i; there = below; question = x; asked = ((are.listed i xs is).exactly x).0 among; key_is = key_is }

-- the keys of a listing
pub listing_keys : (m : System) → (keys : List Key) × ((k : Key) → IsKeyOfListing m k ↔ IsAmong k keys)
listing_keys m =
    let (level, last) = last_level m in
    let (n, (lists, are, count)) = counts_exist m level in
    (all_keys m level last lists are, λ k. (key_is_listed m level last lists are k, listed_is_key m level last lists are k))

-- ---- the keys of some listings
module _ (systems : List System) (many : ℕ) where
  pub earlier_more : (k : Key) → IsKeyOfFirst systems many k → IsKeyOfFirst systems (suc many) k
  earlier_more k f = record { place = f.place; earlier = (let less = f.earlier in omega (arith, less)); system = f.system; is_there = f.is_there; of_listing = f.of_listing }

  -- one listing more
  module _ (m : System) (there : slice_get systems many ≡ Some m) (old new : List Key) (olds : IsInventory (IsKeyOfFirst systems many) old) (news : IsInventory (IsNewKeyAt systems many m) new) where
    here_or_before : (k : Key) (f : IsKeyOfFirst systems (suc many) k) → (f.place ≡ many) ⊎ (¬ (f.place ≡ many)) → IsAmong k (old ++ new)
    here_or_before k f (inl e) = elim (cases_in keys_same k old) [
      | inl known ↦ among_left k old new known
      | inr unknown ↦ among_right k old new ((news.exactly k).1 (record {
        of_listing = subst (λ (s : System). IsKeyOfListing s k) (same_Some _ _ (sym f.is_there ∙ ap (λ (i : ℕ). slice_get systems i) e ∙ there)) f.of_listing;
        new = λ first. unknown ((olds.exactly k).1 first);
      }))
    ]
    here_or_before k f (inr other) = among_left k old new ((olds.exactly k).1 (record { place = f.place; earlier = (let less = f.earlier in omega (arith, less, other)); system = f.system; is_there = f.is_there; of_listing = f.of_listing }))

    pub more_keys : IsInventory (IsKeyOfFirst systems (suc many)) (old ++ new)
    more_keys = record {
      exactly = λ k. (
        λ h. elim (among_either k old new h) [
          | inl known ↦ earlier_more k ((olds.exactly k).0 known)
          | inr fresh ↦ record { place = many; earlier = omega arith; system = m; is_there = there; of_listing = ((news.exactly k).0 fresh).of_listing }
        ],
        λ f. here_or_before k f (cases_eq f.place many),
      );
      apart = distinct_append old new olds.apart news.apart (λ k known fresh. ((news.exactly k).0 fresh).new ((olds.exactly k).0 known));
    }

  -- its keys, the new ones and those that were kept
  pub keys_divided : (m : System) (old : List Key) → IsInventory (IsKeyOfFirst systems many) old
      → (new kept : List Key) × IsInventory (IsNewKeyAt systems many m) new × IsInventory (IsKeptKeyAt systems many m) kept
  keys_divided m old olds =
      let (keys, are) = listing_keys m in
      let (new, kept, (are_new, are_kept)) = divided keys_same keys old in (
        new,
        kept,
        inventory_same _ _ new (λ k. (
          λ p. record { of_listing = (are k).1 p.0; new = λ first. p.1 ((olds.exactly k).1 first) },
          λ n. ((are k).0 n.of_listing, λ known. n.new ((olds.exactly k).0 known)),
        )) are_new,
        inventory_same _ _ kept (λ k. (
          λ p. record { of_listing = (are k).1 p.0; kept = (olds.exactly k).0 p.1 },
          λ n. ((are k).0 n.of_listing, (olds.exactly k).1 n.kept),
        )) are_kept,
      )

-- those of the first ones
pub no_keys : (systems : List System) → IsInventory (IsKeyOfFirst systems 0) []
no_keys systems = record { exactly = λ k. (λ h. absurd h, λ f. absurd (let less = f.earlier in omega (arith, less))); apart = tt }

pub first_keys : (systems : List System) (many : ℕ) → (keys : List Key) × IsInventory (IsKeyOfFirst systems many) keys
first_keys systems zero = ([], no_keys systems)
first_keys systems (suc many) = let (old, olds) = first_keys systems many in at old olds (place_cases systems many)
  where
    at : (old : List Key) → IsInventory (IsKeyOfFirst systems many) old → ((m : System) × (slice_get systems many ≡ Some m)) ⊎ (length systems ≤ many)
        → (keys : List Key) × IsInventory (IsKeyOfFirst systems (suc many)) keys
    at old olds (inl (m, there)) = let (new, kept, news, kepts) = keys_divided systems many m old olds in (old ++ new, more_keys systems many m there old new olds news)
    at old olds (inr past) = (
      old,
      inventory_same _ _ old (λ k. (
        earlier_more systems many k,
        λ f. record { place = f.place; earlier = (let inside = slice_get_within systems f.place f.system f.is_there in omega (arith, inside, past)); system = f.system; is_there = f.is_there; of_listing = f.of_listing },
      )) olds,
    )

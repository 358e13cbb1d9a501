-- Twins among names, found by a set of the names seen so far.
use Rattle.std.proofs.Common.{◌≡◌, ℕ, Bool, true, false, ◌||◌, List, [], ◌∷◌, refl, sym, ap, ◌∙◌, Bor, Ordering, ◌+◌, ◌<◌, not, length, map, drop, get_or, ap₂, arith}
use Rattle.std.proofs.lemmas.Bool.Decides.{same_from_decides, Decides-like}
use Rattle.std.proofs.lemmas.List.{at_drop_more}
use Rattle.std.proofs.lemmas.Map.Text.{is_eq-slice_cmp}
use Rattle.std.proofs.lemmas.Slice.Eq.{bytes_eq-Decides}
use Rattle.std.specs.declared.cmp.Ordering.TheVariants.{Less, Equal, Greater}
use Rattle.std.specs.List.{list_any}
use Rattle.std.specs.Ordering.{nat_cmp, match_ordering, is_eq}
use Rattle.std.specs.Cmp.Lexicographic.{slice_cmp}
use Rattle.std.specs.BTreeMap.{is_at}
use Rattle.std.specs.BTreeSet.{insert_key}
use Rattle.std.specs.Str.{bytes_eq}
use Rattle.mcs_system.specs.Plain.{Name}
use Rattle.mcs_system.specs.Logic.{is_in}
use Rattle.mcs_system.specs.Faults.{has_twins}
use Rattle.mcs_base.proofs.Booleans.{or_swap, or_across, or_last}
use Rattle.std.proofs.lemmas.Bool.{not-true, not-false}

-- whether the name is among the keys
abbrev pub is_seen : List (Bor Name) → Name → Bool
is_seen keys n = list_any (λ (k : Bor Name). bytes_eq n k.now) keys

-- the order of the keys
abbrev pub name_cmp : Bor Name → Bor Name → Ordering
name_cmp x y = slice_cmp nat_cmp x.now y.now

bytes_eq-sym : (m n : Name) → bytes_eq m n ≡ bytes_eq n m
bytes_eq-sym m n = same_from_decides _ _ (bytes_eq-Decides m n) (Decides-like _ sym sym (bytes_eq-Decides n m))

-- what a search of the set answers
pub found_is : (keys : List (Bor Name)) (n : Bor Name) → list_any (is_at (name_cmp n)) keys ≡ is_seen keys n.now
found_is [] n = refl
found_is (k ∷ ks) n = ap₂ (λ a b. a || b) (is_eq-slice_cmp n.now k.now) (found_is ks n)

seen_more : (keys : List (Bor Name)) (n : Bor Name) (x : Name) → is_seen (insert_key name_cmp keys n) x ≡ (bytes_eq x n.now || is_seen keys x)
seen_more [] n x = refl
seen_more (k ∷ ks) n x = at (name_cmp n k) refl (seen_more ks n x)
  where
    at : (o : Ordering) → name_cmp n k ≡ o → is_seen (insert_key name_cmp ks n) x ≡ (bytes_eq x n.now || is_seen ks x) → is_seen (match_ordering o (n ∷ (k ∷ ks)) (k ∷ ks) (k ∷ insert_key name_cmp ks n)) x ≡ (bytes_eq x n.now || (bytes_eq x k.now || is_seen ks x))
    at Less e later = refl
    at Equal e later =
        let same : n.now ≡ k.now = (bytes_eq-Decides n.now k.now).0 (sym (is_eq-slice_cmp n.now k.now) ∙ ap is_eq e) in
        let alike : bytes_eq x n.now ≡ bytes_eq x k.now = ap (bytes_eq x) same in grind arith
    at Greater e later = ap (λ b. bytes_eq x k.now || b) later ∙ or_swap (bytes_eq x k.now) (bytes_eq x n.now) (is_seen ks x)

any_more : (keys : List (Bor Name)) (n : Bor Name) (xs : List Name) → list_any (is_seen (insert_key name_cmp keys n)) xs ≡ (is_in n.now xs || list_any (is_seen keys) xs)
any_more keys n [] = refl
any_more keys n (x ∷ xs) =
    ap₂ (λ a b. a || b) (seen_more keys n x ∙ ap (λ b. b || is_seen keys x) (bytes_eq-sym x n.now)) (any_more keys n xs)
    ∙ or_across (bytes_eq n.now x) (is_seen keys x) (is_in n.now xs) (list_any (is_seen keys) xs)

-- nothing was seen yet
pub none_seen : (keys : List (Bor Name)) (xs : List Name) → keys ≡ [] → list_any (is_seen keys) xs ≡ false
none_seen keys xs e = ap (λ ks. list_any (is_seen ks) xs) e ∙ none xs
  where
    none : (xs : List Name) → list_any (is_seen []) xs ≡ false
    none [] = refl
    none (x ∷ xs) = none xs

-- the names left are the next one and those after it
pub next_named : {X : Type 0} (named : X → Name) (xs : List X) (k : ℕ) (x : X) (n : Name) → k < length xs → x ≡ get_or xs k x → n ≡ named x → map named (drop k xs) ≡ n ∷ map named (drop (k + 1) xs)
next_named named xs k x n less is e = at_drop_more (map named) xs k x less ∙ ap (λ y. named y ∷ map named (drop (k + 1) xs)) (sym is) ∙ ap (λ m. m ∷ map named (drop (k + 1) xs)) (sym e)

-- a twin among the names left, or of one of these and one that was seen
abbrev pub has_twin_left : List (Bor Name) → List Name → Bool
has_twin_left keys xs = list_any (is_seen keys) xs || has_twins xs

-- the next name was seen before
pub seen_twin : (keys : List (Bor Name)) (n : Bor Name) (names xs : List Name) (added : Bool) → names ≡ n.now ∷ xs → added ≡ not (list_any (is_at (name_cmp n)) keys) → added ≡ false → has_twin_left keys names ≡ true
seen_twin keys n names xs added is e new =
    ap (has_twin_left keys) is
    ∙ ap (λ b. (b || list_any (is_seen keys) xs) || has_twins (n.now ∷ xs)) (sym (found_is keys n) ∙ not-false (list_any (is_at (name_cmp n)) keys) (sym e ∙ new))

seen_one : (keys : List (Bor Name)) (n : Bor Name) (xs : List Name) → is_seen keys n.now ≡ false → has_twin_left keys (n.now ∷ xs) ≡ has_twin_left (insert_key name_cmp keys n) xs
seen_one keys n xs unseen =
    ap (λ b. (b || list_any (is_seen keys) xs) || has_twins (n.now ∷ xs)) unseen
    ∙ (or_last (list_any (is_seen keys) xs) (is_in n.now xs) (has_twins xs) ∙ ap (λ b. b || has_twins xs) (sym (any_more keys n xs)))

-- the next name was not
pub seen_next : (keys later : List (Bor Name)) (n : Bor Name) (names xs : List Name) (added : Bool) → names ≡ n.now ∷ xs → later ≡ insert_key name_cmp keys n → added ≡ not (list_any (is_at (name_cmp n)) keys) → added ≡ true → has_twin_left keys names ≡ has_twin_left later xs
seen_next keys later n names xs added is e e' new =
    ap (has_twin_left keys) is
    ∙ (seen_one keys n xs (sym (found_is keys n) ∙ not-true (list_any (is_at (name_cmp n)) keys) (sym e' ∙ new)) ∙ ap (λ ks. has_twin_left ks xs) (sym e))

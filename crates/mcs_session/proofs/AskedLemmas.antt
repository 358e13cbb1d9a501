-- Questions of a session, listing by listing.
use Rattle.std.proofs.Common.{◌≡◌, ℕ, ◌+◌, ◌-◌, ◌<◌, inl, inr, slice_get, slice_set, Some, List, [], ◌∷◌, ◌++◌, length, get_or, set, refl, sym, ap, ◌∙◌, append-nil, arith, length-append}
use Rattle.std.proofs.lemmas.Grind.{flat_map-append}
use Rattle.std.specs.Arc.{arc_value}
use Rattle.std.specs.Global.{Vec}
use Rattle.std.specs.List.{AllByRecursion}
use Rattle.std.proofs.lemmas.Bool.{cases_lt}
use Rattle.mcs_base.proofs.Each.{all_weaker}
use Rattle.mcs_base.proofs.Mapped.{copied_each}
use Rattle.mcs_base.proofs.Written.{image_kept, slice_get-slice_set}
use Rattle.mcs_system.specs.Plain.{System}
use Rattle.mcs_session.specs.Asked.{all_keys, asked_keys, keys_in, HasAnswered, IsOpen}
use Rattle.mcs_session.specs.Inside.{no_keys}
use Rattle.mcs_session.specs.Keys.{Key, keys_of}
use Rattle.mcs_session.specs.declared.asked.Asked.{Asked}

last_read : {A : Type 0} (xs : List A) (x d : A) → get_or (xs ++ x ∷ []) (length xs) d ≡ x
last_read [] x d = refl
last_read (y ∷ xs) x d = last_read xs x d

last_set : {A : Type 0} (xs : List A) (x y : A) → set (xs ++ x ∷ []) (length xs) y ≡ xs ++ y ∷ []
last_set [] x y = refl
last_set (z ∷ xs) x y = ap (λ zs. z ∷ zs) (last_set xs x y)

keys_push : (before : List Asked) (a : Asked) → keys_in (before ++ a ∷ []) ≡ keys_in before ++ asked_keys a
keys_push before a = flat_map-append asked_keys before (a ∷ []) ∙ ap (λ (ks : List Key). keys_in before ++ ks) (append-nil (asked_keys a))

-- the last ones are replaced by these
pub last_closed : (listings : List Asked) (n : ℕ) (now : Asked) (questions : Vec ℕ) → n ≡ length listings → now ≡ get_or listings (n - 1) now
    → HasAnswered listings questions.items (set listings (n - 1) (record { system = now.system; context = now.context; questions = questions }))
last_closed listings n now questions long is m i o =
    let at : n - 1 ≡ length o.before = omega (arith, long, ap length o.is, length-append o.before (o.last ∷ [])) in
    let same : now ≡ o.last = is ∙ ap (λ (xs : List Asked). get_or xs (n - 1) now) o.is ∙ ap (λ (k : ℕ). get_or (o.before ++ o.last ∷ []) k now) at ∙ last_read o.before o.last now in
    let filled : Asked = record { system = now.system; context = now.context; questions = questions } in
    let there : set listings (n - 1) filled ≡ o.before ++ filled ∷ [] = ap (λ (xs : List Asked). set xs (n - 1) filled) o.is ∙ ap (λ (k : ℕ). set (o.before ++ o.last ∷ []) k filled) at ∙ last_set o.before o.last filled in
    let old : keys_in listings ≡ keys_in o.before = ap keys_in o.is ∙ keys_push o.before o.last ∙ ap (λ (xs : List ℕ). keys_in o.before ++ keys_of (arc_value o.last.system) o.last.context xs) o.none_yet ∙ append-nil (keys_in o.before) in
    ap keys_in there ∙ keys_push o.before filled
    ∙ ap (λ (s : System). keys_in o.before ++ keys_of s now.context questions.items) (ap (λ (a : Asked). arc_value a.system) same ∙ o.system_is)
    ∙ ap (λ (k : ℕ). keys_in o.before ++ keys_of m k questions.items) (ap (λ (a : Asked). a.context) same ∙ o.context_is)
    ∙ ap (λ (ks : List Key). ks ++ keys_of m i questions.items) (sym old)

-- a place of the lists is changed, and its keys are as before
pub same_throughout : (asked : List (Vec Asked)) (i : ℕ) (own own' : Vec Asked) → slice_get asked i ≡ Some own → keys_in own'.items ≡ keys_in own.items → all_keys (slice_set asked i own') ≡ all_keys asked
same_throughout asked i own own' there same = image_kept (λ (listings : Vec Asked). keys_in listings.items) asked i own own' there same

-- one list more is open
pub one_more_open : (m : System) (asked : List (Vec Asked)) (n : ℕ) (own' : Vec Asked) → ((i : ℕ) (own : Vec Asked) → i < n → slice_get asked i ≡ Some own → IsOpen m i own.items) → IsOpen m n own'.items
    → (i : ℕ) (own : Vec Asked) → i < n + 1 → slice_get (slice_set asked n own') i ≡ Some own → IsOpen m i own.items
one_more_open m asked n own' open_now open_here i own less at = elim (slice_get-slice_set asked n i own' own at) [
  | inl both ↦ rw (both.0, both.1) open_here
  | inr both ↦ open_now i own (let other = both.0 in before i n less other) both.1
]
  where
    before : (i n : ℕ) → i < n + 1 → ¬ (i ≡ n) → i < n
    before i n less other = elim (cases_lt i n) [ inl low ↦ low | inr high ↦ absurd (other (omega (arith, high, less))) ]

pub nothing_yet : (m : System) (asked : List (Vec Asked)) → length asked ≡ length m.contexts → AllByRecursion (λ (own : Vec Asked). own.items ≡ []) asked → all_keys asked ≡ no_keys m
nothing_yet m asked long empty =
    copied_each (λ (own : Vec Asked). keys_in own.items) [] asked m.contexts long (all_weaker (λ (own : Vec Asked). own.items ≡ []) (λ (own : Vec Asked). keys_in own.items ≡ []) (λ own none. ap keys_in none) asked empty)

-- What a token is there for, as the code tells it.
use Rattle.std.proofs.Common.{◌≡◌, ℕ, ◌<◌, Bool, true, false, List, [], ◌∷◌, map, refl, sym, ap, ◌∙◌, subst, inl, inr, ◌⊎◌, arith, true≢false}
use Rattle.std.specs.Prelude.{min}
use Rattle.mcs_base.specs.Listings.{IsAmong}
use Rattle.mcs_base.specs.Numbers.{value_of_digits}
use Rattle.mcs_base.proofs.Among.{among_left, among_right, among_either}
use Rattle.mcs_account.specs.declared.place.Role as code_role
use Rattle.mcs_account.specs.declared.place.Role.TheVariants as roles
use Rattle.mcs_account.specs.declared.place.Uses as code_uses
use Rattle.mcs_grammar.specs.Entries.{Token, Use, BeginsContext, BeginsBridge, NamesContext, NamesBridge, Weighs, SaysProgram, BeginsItem, BeginsDefault, NamesTarget, NamesSource, BeginsBelief, EndsRead, AtomOf, IsNumber, OpensWithin}
use Rattle.mcs_account.specs.Account.{when}
use Rattle.mcs_account.specs.Images.{About, capped, role_uses, uses_in}

abbrev pub is_number : Use → Bool
is_number (IsNumber n) = true
is_number u = false

-- the use is one of those that the code tells
abbrev pub IsIn : About → Token → code_uses.Uses → Use → Type 0
IsIn a t uses BeginsContext = uses.role ≡ roles.BeginsContext
IsIn a t uses BeginsBridge = uses.role ≡ roles.BeginsBridge
IsIn a t uses (NamesContext c) = (uses.role ≡ roles.NamesContext) × (c ≡ t)
IsIn a t uses (NamesBridge b) = (uses.role ≡ roles.NamesBridge) × (b ≡ t)
IsIn a t uses (Weighs w) = (uses.role ≡ roles.Weighs) × (w ≡ value_of_digits t)
IsIn a t uses (SaysProgram c) = (uses.role ≡ roles.SaysProgram) × (c ≡ a.subject.context)
IsIn a t uses (BeginsItem c) = (uses.begins_item ≡ true) × (c ≡ a.subject.context)
IsIn a t uses (BeginsDefault c) = (uses.role ≡ roles.BeginsDefault) × (c ≡ a.subject.context)
IsIn a t uses (NamesTarget c) = (uses.role ≡ roles.NamesTarget) × (c ≡ t)
IsIn a t uses (NamesSource c) = (uses.role ≡ roles.NamesSource) × (c ≡ t)
IsIn a t uses (BeginsBelief c) = (uses.begins_belief ≡ true) × (c ≡ a.subject.context)
IsIn a t uses (EndsRead d c f) = (uses.ends_read ≡ true) × (d ≡ a.subject.target) × (c ≡ a.subject.context) × (f ≡ a.belief)
IsIn a t uses (AtomOf c x) = ((n : ℕ) × (uses.role ≡ roles.Atom n)) × (c ≡ a.subject.context) × (x ≡ t)
IsIn a t uses (IsNumber n) = (uses.role ≡ roles.Atom n) ⊎ (uses.role ≡ roles.Counted n)
IsIn a t uses (OpensWithin n) = uses.role ≡ roles.Opens n

among-when : (u v : Use) (b : Bool) → IsAmong u (when b v) → (b ≡ true) × (u ≡ v)
among-when u v true (inl e) = (refl, e)
among-when u v true (inr none) = absurd none
among-when u v false none = absurd none

when-among : (u v : Use) (b : Bool) → b ≡ true → u ≡ v → IsAmong u (when b v)
when-among u v true e same = inl same
when-among u v false e same = absurd (true≢false (sym e))

module _ (a : About) (t : Token) (uses : code_uses.Uses) where
  role-in : (u : Use) (r : code_role.Role) → uses.role ≡ r → IsAmong u (role_uses a t r) → IsIn a t uses u
  role-in u roles.Nothing e h = absurd h
  role-in u roles.BeginsContext e (inl is) = subst (IsIn a t uses) (sym is) e
  role-in u roles.BeginsBridge e (inl is) = subst (IsIn a t uses) (sym is) e
  role-in u roles.NamesContext e (inl is) = subst (IsIn a t uses) (sym is) (e, refl)
  role-in u roles.NamesBridge e (inl is) = subst (IsIn a t uses) (sym is) (e, refl)
  role-in u roles.Weighs e (inl is) = subst (IsIn a t uses) (sym is) (e, refl)
  role-in u roles.SaysProgram e (inl is) = subst (IsIn a t uses) (sym is) (e, refl)
  role-in u roles.BeginsDefault e (inl is) = subst (IsIn a t uses) (sym is) (e, refl)
  role-in u roles.NamesTarget e (inl is) = subst (IsIn a t uses) (sym is) (e, refl)
  role-in u roles.NamesSource e (inl is) = subst (IsIn a t uses) (sym is) (e, refl)
  role-in u (roles.Atom n) e (inl is) = subst (IsIn a t uses) (sym is) ((n, e), refl, refl)
  role-in u (roles.Atom n) e (inr (inl is)) = subst (IsIn a t uses) (sym is) (inl e)
  role-in u (roles.Counted n) e (inl is) = subst (IsIn a t uses) (sym is) (inr e)
  role-in u (roles.Opens n) e (inl is) = subst (IsIn a t uses) (sym is) e
  role-in u roles.BeginsContext e (inr none) = absurd none
  role-in u roles.BeginsBridge e (inr none) = absurd none
  role-in u roles.NamesContext e (inr none) = absurd none
  role-in u roles.NamesBridge e (inr none) = absurd none
  role-in u roles.Weighs e (inr none) = absurd none
  role-in u roles.SaysProgram e (inr none) = absurd none
  role-in u roles.BeginsDefault e (inr none) = absurd none
  role-in u roles.NamesTarget e (inr none) = absurd none
  role-in u roles.NamesSource e (inr none) = absurd none
  role-in u (roles.Atom n) e (inr (inr none)) = absurd none
  role-in u (roles.Counted n) e (inr none) = absurd none
  role-in u (roles.Opens n) e (inr none) = absurd none

  pub told-in : (u : Use) → IsAmong u (uses_in a t uses) → IsIn a t uses u
  told-in u h = elim (among_either u (when uses.ends_read (EndsRead a.subject.target a.subject.context a.belief)) _ h) [
    | inl here ↦ let e = among-when u _ uses.ends_read here in subst (IsIn a t uses) (sym e.1) (e.0, refl, refl, refl)
    | inr h' ↦ elim (among_either u (when uses.begins_belief (BeginsBelief a.subject.context)) _ h') [
      | inl here ↦ let e = among-when u _ uses.begins_belief here in subst (IsIn a t uses) (sym e.1) (e.0, refl)
      | inr h'' ↦ elim (among_either u (when uses.begins_item (BeginsItem a.subject.context)) _ h'') [
        | inl here ↦ let e = among-when u _ uses.begins_item here in subst (IsIn a t uses) (sym e.1) (e.0, refl)
        | inr here ↦ role-in u uses.role refl here
      ]
    ]
  ]

  by-role : (u : Use) (r : code_role.Role) → uses.role ≡ r → IsAmong u (role_uses a t r) → IsAmong u (uses_in a t uses)
  by-role u r e h =
      among_right u (when uses.ends_read (EndsRead a.subject.target a.subject.context a.belief)) _
      (among_right u (when uses.begins_belief (BeginsBelief a.subject.context)) _
      (among_right u (when uses.begins_item (BeginsItem a.subject.context)) _ (subst (λ (x : code_role.Role). IsAmong u (role_uses a t x)) (sym e) h)))

  in-told : (u : Use) → IsIn a t uses u → IsAmong u (uses_in a t uses)
  in-told BeginsContext h = by-role BeginsContext roles.BeginsContext h (inl refl)
  in-told BeginsBridge h = by-role BeginsBridge roles.BeginsBridge h (inl refl)
  in-told (NamesContext c) h = by-role (NamesContext c) roles.NamesContext h.0 (inl (ap (λ x. NamesContext x) h.1))
  in-told (NamesBridge b) h = by-role (NamesBridge b) roles.NamesBridge h.0 (inl (ap (λ x. NamesBridge x) h.1))
  in-told (Weighs w) h = by-role (Weighs w) roles.Weighs h.0 (inl (ap (λ x. Weighs x) h.1))
  in-told (SaysProgram c) h = by-role (SaysProgram c) roles.SaysProgram h.0 (inl (ap (λ x. SaysProgram x) h.1))
  in-told (BeginsItem c) h =
      among_right (BeginsItem c) (when uses.ends_read (EndsRead a.subject.target a.subject.context a.belief)) _
      (among_right (BeginsItem c) (when uses.begins_belief (BeginsBelief a.subject.context)) _
      (among_left (BeginsItem c) (when uses.begins_item (BeginsItem a.subject.context)) _ (when-among _ _ uses.begins_item h.0 (ap (λ x. BeginsItem x) h.1))))
  in-told (BeginsDefault c) h = by-role (BeginsDefault c) roles.BeginsDefault h.0 (inl (ap (λ x. BeginsDefault x) h.1))
  in-told (NamesTarget c) h = by-role (NamesTarget c) roles.NamesTarget h.0 (inl (ap (λ x. NamesTarget x) h.1))
  in-told (NamesSource c) h = by-role (NamesSource c) roles.NamesSource h.0 (inl (ap (λ x. NamesSource x) h.1))
  in-told (BeginsBelief c) h =
      among_right (BeginsBelief c) (when uses.ends_read (EndsRead a.subject.target a.subject.context a.belief)) _
      (among_left (BeginsBelief c) (when uses.begins_belief (BeginsBelief a.subject.context)) _ (when-among _ _ uses.begins_belief h.0 (ap (λ x. BeginsBelief x) h.1)))
  in-told (EndsRead d c f) h =
      among_left (EndsRead d c f) (when uses.ends_read (EndsRead a.subject.target a.subject.context a.belief)) _ (when-among _ _ uses.ends_read h.0 (let e = h.1 in let e' = h.2 in let e'' = h.3 in cc))
  in-told (AtomOf c x) h = let e = h.1 in let e' = h.2 in by-role (AtomOf c x) (roles.Atom h.0.0) h.0.1 (inl (cc))
  in-told (IsNumber n) (inl e) = by-role (IsNumber n) (roles.Atom n) e (inr (inl refl))
  in-told (IsNumber n) (inr e) = by-role (IsNumber n) (roles.Counted n) e (inl refl)
  in-told (OpensWithin n) h = by-role (OpensWithin n) (roles.Opens n) h (inl refl)

-- ---- numbers are told up to a bound
capped-back : (u v : Use) → is_number u ≡ false → u ≡ capped v → u ≡ v
capped-back u (IsNumber n) other e = absurd (true≢false (ap is_number (sym e) ∙ other))
capped-back u BeginsContext other e = e
capped-back u BeginsBridge other e = e
capped-back u (NamesContext c) other e = e
capped-back u (NamesBridge b) other e = e
capped-back u (Weighs w) other e = e
capped-back u (SaysProgram c) other e = e
capped-back u (BeginsItem c) other e = e
capped-back u (BeginsDefault c) other e = e
capped-back u (NamesTarget c) other e = e
capped-back u (NamesSource c) other e = e
capped-back u (BeginsBelief c) other e = e
capped-back u (EndsRead d c f) other e = e
capped-back u (AtomOf c x) other e = e
capped-back u (OpensWithin n) other e = e

capped-same : (u : Use) → is_number u ≡ false → capped u ≡ u
capped-same u other = capped-back (capped u) u (kept u other) refl
  where
    kept : (u : Use) → is_number u ≡ false → is_number (capped u) ≡ false
    kept (IsNumber n) other = absurd (true≢false other)
    kept u other = other

pub among-capped : (u : Use) (us : List Use) → is_number u ≡ false → IsAmong u us → IsAmong u (map capped us)
among-capped u [] other h = absurd h
among-capped u (v ∷ us) other (inl e) = inl (sym (capped-same u other) ∙ ap capped e)
among-capped u (v ∷ us) other (inr h) = inr (among-capped u us other h)

pub capped-among : (u : Use) (us : List Use) → is_number u ≡ false → IsAmong u (map capped us) → IsAmong u us
capped-among u [] other h = absurd h
capped-among u (v ∷ us) other (inl e) = inl (capped-back u v other e)
capped-among u (v ∷ us) other (inr h) = inr (capped-among u us other h)

capped-number : (n : ℕ) (v : Use) → n < 514 → IsNumber n ≡ capped v → IsNumber n ≡ v
capped-number n (IsNumber k) less e = let e' : n ≡ min k 514 = cc in ap (λ x. IsNumber x) (let r : n ≡ k = omega arith in r)
capped-number n BeginsContext less e = e
capped-number n BeginsBridge less e = e
capped-number n (NamesContext c) less e = e
capped-number n (NamesBridge b) less e = e
capped-number n (Weighs w) less e = e
capped-number n (SaysProgram c) less e = e
capped-number n (BeginsItem c) less e = e
capped-number n (BeginsDefault c) less e = e
capped-number n (NamesTarget c) less e = e
capped-number n (NamesSource c) less e = e
capped-number n (BeginsBelief c) less e = e
capped-number n (EndsRead d c f) less e = e
capped-number n (AtomOf c x) less e = e
capped-number n (OpensWithin k) less e = e

number-capped : (n : ℕ) (us : List Use) → n < 514 → IsAmong (IsNumber n) us → IsAmong (IsNumber n) (map capped us)
number-capped n [] less h = absurd h
number-capped n (v ∷ us) less (inl e) = inl (ap (λ x. IsNumber x) (let r : n ≡ min n 514 = omega arith in r) ∙ ap capped e)
number-capped n (v ∷ us) less (inr h) = inr (number-capped n us less h)

number-among : (n : ℕ) (us : List Use) → n < 514 → IsAmong (IsNumber n) (map capped us) → IsAmong (IsNumber n) us
number-among n [] less h = absurd h
number-among n (v ∷ us) less (inl e) = inl (capped-number n v less e)
number-among n (v ∷ us) less (inr h) = inr (number-among n us less h)

-- what a entry is there for, where the code tells it
module _ (a : About) (t : Token) (uses : code_uses.Uses) (us : List Use) (told : map capped us ≡ uses_in a t uses) where
  pub entry-in : (u : Use) → is_number u ≡ false → IsAmong u us → IsIn a t uses u
  entry-in u other h = told-in a t uses u (subst (IsAmong u) told (among-capped u us other h))

  pub in-entry : (u : Use) → is_number u ≡ false → IsIn a t uses u → IsAmong u us
  in-entry u other h = capped-among u us other (subst (IsAmong u) (sym told) (in-told a t uses u h))

  pub number-in : (n : ℕ) → n < 514 → IsAmong (IsNumber n) us → IsIn a t uses (IsNumber n)
  number-in n less h = told-in a t uses (IsNumber n) (subst (IsAmong (IsNumber n)) told (number-capped n us less h))

  pub in-number : (n : ℕ) → n < 514 → IsIn a t uses (IsNumber n) → IsAmong (IsNumber n) us
  in-number n less h = number-among n us less (subst (IsAmong (IsNumber n)) (sym told) (in-told a t uses (IsNumber n) h))

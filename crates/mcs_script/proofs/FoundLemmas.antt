-- What walks find, one after the other.
use Rattle.std.proofs.Common.{◌≡◌, ◌<◌, true, List, [], ◌∷◌, ◌++◌, map, length, Some, sym, ap, ◌∙◌, subst, inl, inr, arith}
use Rattle.std.proofs.lemmas.List.{length-append, map-append}
use Rattle.std.specs.List.{list_any}
use Rattle.mcs_base.specs.Listings.{IsAmong}
use Rattle.mcs_base.proofs.Among.{among_left, among_right, among_either, among_get, any_get}
use Rattle.mcs_system.specs.declared.bridge.Read as code
use Rattle.mcs_system.specs.Plain.{Name, Read}
use Rattle.mcs_system.specs.Logic.{is_in}
use Rattle.mcs_system.specs.Seen.{read_of}
use Rattle.mcs_system.specs.Systems.{same_read}
use Rattle.mcs_system.proofs.NameLemmas.{is_in-among}
use Rattle.mcs_system.proofs.Sameness.{same_read-is}
use Rattle.mcs_script.specs.Found.{Finds}

module _ {A : Type 0} where
  pub finds_nothing : (xs : List A) → Finds xs xs []
  finds_nothing xs = record { kept = λ x h. h; longer = omega arith; all = λ few x h. absurd h }

  -- nothing more is looked for
  pub finds_over : (xs ys : List A) → 64 < length xs → Finds xs xs ys
  finds_over xs ys over = record { kept = λ x h. h; longer = omega arith; all = λ few x h. absurd (omega (arith, few, over)) }

  pub finds_known : (xs : List A) (x : A) → IsAmong x xs → Finds xs xs (x ∷ [])
  finds_known xs x known = record {
    kept = λ y h. h;
    longer = omega arith;
    all = λ few y h. elim h [ inl e ↦ subst (λ (z : A). IsAmong z xs) (sym e) known | inr none ↦ absurd none ];
  }

  pub finds_new : (xs ys : List A) (x : A) → ys ≡ xs ++ x ∷ [] → Finds xs ys (x ∷ [])
  finds_new xs ys x is = record {
    kept = λ y h. subst (IsAmong y) (sym is) (among_left y xs (x ∷ []) h);
    longer = omega (arith, ap length is, length-append xs (x ∷ []));
    all = λ few y h. subst (IsAmong y) (sym is) (among_right y xs (x ∷ []) h);
  }

  pub finds_then : (a b c all xs ys : List A) → all ≡ xs ++ ys → Finds a b xs → Finds b c ys → Finds a c all
  finds_then a b c all xs ys is first then = record {
    kept = λ x h. then.kept x (first.kept x h);
    longer = omega (arith, first.longer, then.longer);
    all = λ few x h. elim (among_either x xs ys (subst (IsAmong x) is h)) [
      | inl here ↦ then.kept x (first.all (omega (arith, few, then.longer)) x here)
      | inr there ↦ then.all few x there
    ];
  }

  -- in a loop: once the rest is found, all are
  abbrev pub Goes : List A → List A → List A → List A → Type 0
  Goes found all mid rest = (last : List A) → Finds mid last rest → Finds found last all

  pub goes_on : (found all mid next rest xs ys : List A) → Goes found all mid rest → rest ≡ xs ++ ys → Finds mid next xs → Goes found all next ys
  goes_on found all mid next rest xs ys goes is more last then = goes last (finds_then mid next last rest xs ys is more then)

pub name_found : (xs : List Name) (n : Name) → is_in n xs ≡ true → Finds xs xs (n ∷ [])
name_found xs n e = finds_known xs n ((is_in-among n xs).0 e)

pub read_found : (xs : List Read) (r : Read) → list_any (same_read r) xs ≡ true → Finds xs xs (r ∷ [])
read_found xs r e =
    let (k, q, at, same) = any_get (same_read r) xs e in
    finds_known xs r (among_get r xs k (at ∙ ap (λ (x : Read). Some x) (sym (same_read-is r q same))))

pub read_new : (xs ys : List code.Read) (x : code.Read) (r : Read) → ys ≡ xs ++ x ∷ [] → read_of x ≡ r → Finds (map read_of xs) (map read_of ys) (r ∷ [])
read_new xs ys x r is same = finds_new (map read_of xs) (map read_of ys) r (ap (map read_of) is ∙ map-append read_of xs (x ∷ []) ∙ ap (λ (y : Read). map read_of xs ++ y ∷ []) same)

-- Members of a list that are written one after the other, in two parts.
use Rattle.std.proofs.Common.{◌≡◌, ℕ, suc, arith, true, nat_eq, List, [], ◌∷◌, ◌++◌, map, length, codes, refl, sym, ap, ◌∙◌, append_assoc, map-id}
use Rattle.std.proofs.lemmas.List.{length-map}
use Rattle.mcs_text.specs.Separated.{separated}
use Rattle.std.proofs.lemmas.Bool.{ne_eqb}
use Rattle.mcs_system.specs.Plain.{Name}
use Rattle.mcs_writer.specs.Canonical.{further_by, joined_by, denied}

further-append : (sign : List ℕ) (xs ys : List (List ℕ)) → further_by sign (xs ++ ys) ≡ further_by sign xs ++ further_by sign ys
further-append sign [] ys = refl
further-append sign (x ∷ xs) ys = ap (λ l. (sign ++ x) ++ l) (further-append sign xs ys) ∙ sym (append_assoc (sign ++ x) (further_by sign xs) (further_by sign ys))

pub separated-listed : (xs : List (List ℕ)) → separated xs ≡ joined_by (codes ", ") true xs
separated-listed [] = refl
separated-listed (x ∷ xs) = refl

-- some members, and others after them
pub in_two_parts : (xs ys : List (List ℕ)) → separated (xs ++ ys) ≡ joined_by (codes ", ") true xs ++ joined_by (codes ", ") (nat_eq (length xs) 0) ys
in_two_parts [] ys = separated-listed ys
in_two_parts (x ∷ xs) ys = rw (ne_eqb (suc (length xs)) 0 (λ e. omega arith)) (ap (λ l. x ++ l) (further-append (codes ", ") xs ys) ∙ sym (append_assoc x (further_by (codes ", ") xs) (further_by (codes ", ") ys)))

-- the same, where the first part is the image of so many
pub images_first : {A : Type 0} (f : A → List ℕ) (as' : List A) (ys : List (List ℕ)) → separated (map f as' ++ ys) ≡ joined_by (codes ", ") true (map f as') ++ joined_by (codes ", ") (nat_eq (length as') 0) ys
images_first f as' ys = in_two_parts (map f as') ys ∙ ap (λ n. joined_by (codes ", ") true (map f as') ++ joined_by (codes ", ") (nat_eq n 0) ys) (length-map as' f)

pub rule_written : (text sign : List ℕ) (head pos neg : List Name) → (((text ++ joined_by (codes " | ") true head) ++ sign) ++ joined_by (codes ", ") true (map (λ a. a) pos)) ++ joined_by (codes ", ") (nat_eq (length pos) 0) (map denied neg)
    ≡ text ++ (joined_by (codes " | ") true head ++ (sign ++ separated (pos ++ map denied neg)))
rule_written text sign head pos neg =
    let body : separated (pos ++ map denied neg) ≡ joined_by (codes ", ") true (map (λ a. a) pos) ++ joined_by (codes ", ") (nat_eq (length pos) 0) (map denied neg) =
    ap (λ l. separated (l ++ map denied neg)) (sym (map-id pos)) ∙ images_first (λ a. a) pos (map denied neg) in
    rw body (simp append_assoc)

-- the parts of a bridge rule's line, one after another
pub regrouped : (text word name marks colon head if' pos neg end : List ℕ) → ((((((((text ++ word) ++ name) ++ marks) ++ colon) ++ head) ++ if') ++ pos) ++ neg) ++ end ≡ text ++ (word ++ (name ++ (marks ++ (colon ++ (head ++ (if' ++ ((pos ++ neg) ++ end)))))))
regrouped text word name marks colon head if' pos neg end = simp append_assoc

-- Reads that are the same, and the reads that there were.
use Rattle.std.proofs.Common.{◌≡◌, ℕ, Bool, true, List, [], ◌∷◌, map, length, Option, Some, refl, sym, ap, ◌∙◌, subst, inl, inr, ◌↔◌, arith, slice_get}
use Rattle.std.specs.Prelude.{IsTrue, ◌++◌}
use Rattle.std.proofs.lemmas.List.{length-map, map-append}
use Rattle.mcs_system.specs.Plain.{Name, Formula}
use Rattle.mcs_system.specs.Logic.{same_name}
use Rattle.mcs_system.specs.Seen.{formula_of}
use Rattle.mcs_system.specs.Systems.{same_formula}
use Rattle.mcs_system.proofs.Sameness.{same_name-is, same_formula-is, same_formula-itself}
use Rattle.mcs_account.specs.declared.reader.NamedRead as code_read
use Rattle.std.specs.Borrow.{Bor}
use Rattle.std.specs.Option.{option_copied}
use Rattle.std.proofs.lemmas.Option.{same_Some}
use Rattle.mcs_base.proofs.Lists.{slice_get_seam}
use Rattle.mcs_grammar.specs.Faults.{NamedRead}
use Rattle.mcs_faults.specs.Watching.{IsNumberOf, IsHeld}
use Rattle.mcs_faults.proofs.WatchFacts.{number-there}
use Rattle.mcs_account.specs.Images.{named_read_of}

abbrev read_at : Name → Formula → NamedRead
read_at c f = record { context = c; belief = f }

read-context : NamedRead → Name
read-context r = r.context

read-belief : NamedRead → Formula
read-belief r = r.belief

pub same-read-told : (r q : code_read.NamedRead) (a b : Bool) → a ≡ same_name r.context q.context → a ≡ true → b ≡ same_formula (formula_of r.belief) (formula_of q.belief) → IsTrue b ↔ (named_read_of r ≡ named_read_of q)
unfolding read-context read-belief
same-read-told r q a b context is belief =
    let names : r.context ≡ q.context = same_name-is r.context q.context (sym context ∙ is) in (
      λ h. ap (λ (c : Name). read_at c (formula_of r.belief)) names ∙ ap (read_at q.context) (same_formula-is (formula_of r.belief) (formula_of q.belief) (sym belief ∙ h)),
      λ e. belief ∙ ap (same_formula (formula_of r.belief)) (sym (ap read-belief e)) ∙ same_formula-itself (formula_of r.belief),
    )

-- the read that is handed over
pub read-copied : (o : Option (Bor code_read.NamedRead)) (b : Bor code_read.NamedRead) (P : NamedRead → Type 0) → o ≡ Some b → P (named_read_of b.now) → (r : code_read.NamedRead) → option_copied o ≡ Some r → P (named_read_of r)
read-copied o b P is holds r e =
    let same : Some b.now ≡ Some r = sym (ap option_copied is) ∙ e in
    subst (λ (q : code_read.NamedRead). P (named_read_of q)) (same_Some _ _ same) holds

-- ---- a read that is held
pub held-already : (xs : List code_read.NamedRead) (r : NamedRead) (n k : ℕ) → IsNumberOf (map named_read_of xs) r n → k ≡ length xs → ¬ (n ≡ k) → IsHeld (map named_read_of xs) (map named_read_of xs) r n
held-already xs r n k (inl there) is differ = record { there = there; either = inl refl }
held-already xs r n k (inr none) is differ = absurd (differ (none.0 ∙ length-map xs named_read_of ∙ sym is))

pub held-now : (xs ys : List code_read.NamedRead) (q : code_read.NamedRead) (r : NamedRead) (n k : ℕ) → IsNumberOf (map named_read_of xs) r n → k ≡ length xs → n ≡ k → ys ≡ xs ++ q ∷ [] → named_read_of q ≡ r → IsHeld (map named_read_of xs) (map named_read_of ys) r n
held-now xs ys q r n k number is same more copy =
    let now : map named_read_of ys ≡ map named_read_of xs ++ r ∷ [] = ap (map named_read_of) more ∙ map-append named_read_of xs (q ∷ []) ∙ ap (λ (x : NamedRead). map named_read_of xs ++ x ∷ []) copy in
    let last : n ≡ length (map named_read_of xs) = same ∙ is ∙ sym (length-map xs named_read_of) in
    record {
      there = ap (λ (zs : List NamedRead). slice_get zs n) now ∙ slice_get_seam (map named_read_of xs) r [] n last;
      either = inr (now, λ h. let less = (number-there (map named_read_of xs) r n number).1 h in omega arith);
    }

-- No line of a certificate has a line feed, where the atoms have names.
use Rattle.std.proofs.Common.{◌≡◌, ℕ, ◌+◌, List, [], ◌∷◌, ◌++◌, map, codes, slice_get, Option, Some, None, refl, ℤ, pos, negsuc}
use Rattle.std.specs.Fmt.{decimal}
use Rattle.std.specs.Int.RustNames.{unsigned_abs}
use Rattle.std.specs.List.{AllByRecursion}
use Rattle.mcs_sets.specs.Sets.{members}
use Rattle.mcs_base.proofs.Each.{all_get}
use Rattle.mcs_system.specs.Plain.{Name}
use Rattle.mcs_system.specs.Naming.{IsName}
use Rattle.mcs_trace.specs.Traces.{Inference}
use Rattle.mcs_spelling.specs.Parts.{text_of_name, atom_text, atoms_text, default_places_text, defaults_text, literal_sign, literal_text, spaced, step_text}
use Rattle.mcs_proof_text.specs.Lines.{Line, YesLine, NoLine, StepLine, SetLine, UnsupportedLine, BlockedLine, AppliedLine, UngroundedLine, ExtensionLine, ModelLine, SmallerLine, NoneLine, line_text}
use Rattle.mcs_proof_text.specs.Reports.{IsLineFeedFree}
use Rattle.mcs_proof_text.proofs.FreeTexts.{append_free, told_free, name_free, decimal_free, each_free, all_braced}

spaced_free : (ts : List (List ℕ)) → AllByRecursion IsLineFeedFree ts → IsLineFeedFree (spaced ts)
spaced_free [] all = tt
spaced_free (t ∷ ts) all = append_free (codes " " ++ t) (spaced ts) (append_free (codes " ") t (told_free (codes " ") refl) all.0) (spaced_free ts all.1)

all_spaced : {A : Type 0} (f : A → List ℕ) → ((a : A) → IsLineFeedFree (f a)) → (as' : List A) → IsLineFeedFree (spaced (map f as'))
all_spaced f free as' = spaced_free (map f as') (each_free f free as')

literal_free : (l : ℤ) → IsLineFeedFree (literal_text l)
literal_free l = append_free (literal_sign l) (decimal (unsigned_abs l)) (by l) (decimal_free (unsigned_abs l))
  where
    by : (l : ℤ) → IsLineFeedFree (literal_sign l)
    by (pos n) = tt
    by (negsuc n) = told_free (codes "-") refl

step_free : (s : Inference) → IsLineFeedFree (step_text s)
unfolding step_text
step_free s =
    append_free (codes "step") (spaced (map literal_text s.clause) ++ (codes " by" ++ spaced (map decimal s.chain))) (told_free (codes "step") refl)
    (append_free (spaced (map literal_text s.clause)) (codes " by" ++ spaced (map decimal s.chain)) (all_spaced literal_text literal_free s.clause)
    (append_free (codes " by") (spaced (map decimal s.chain)) (told_free (codes " by") refl) (all_spaced decimal decimal_free s.chain)))

defaults_free : (set : ℕ) → IsLineFeedFree (defaults_text set)
defaults_free set = all_braced default_places_text (λ k. decimal_free (k + 1)) (members set)

module _ (names : List Name) (named : AllByRecursion IsName names) where
  atom_free : (k : ℕ) → IsLineFeedFree (atom_text names k)
  atom_free k = by (slice_get names k) refl
    where
      by : (o : Option Name) → slice_get names k ≡ o → IsLineFeedFree (text_of_name o)
      by None e = tt
      by (Some n) e = name_free n (all_get IsName names k n named e)

  atoms_free : (places : ℕ) → IsLineFeedFree (atoms_text names places)
  atoms_free places = all_braced (atom_text names) atom_free (members places)

  pub line_free : (l : Line) → IsLineFeedFree (line_text names l)
  unfolding line_text
  line_free YesLine = told_free (codes "yes") refl
  line_free (NoLine atoms) = append_free (codes "no ") (atoms_text names atoms) (told_free (codes "no ") refl) (atoms_free atoms)
  line_free (StepLine step) = step_free step
  line_free (SetLine defaults) = append_free (codes "set ") (defaults_text defaults) (told_free (codes "set ") refl) (defaults_free defaults)
  line_free (UnsupportedLine number) = append_free (codes "unsupported ") (decimal number) (told_free (codes "unsupported ") refl) (decimal_free number)
  line_free (BlockedLine number just) = append_free (codes "blocked ") (decimal number ++ (codes " " ++ decimal just)) (told_free (codes "blocked ") refl)
      (append_free (decimal number) (codes " " ++ decimal just) (decimal_free number) (append_free (codes " ") (decimal just) (told_free (codes " ") refl) (decimal_free just)))
  line_free (AppliedLine number) = append_free (codes "applied ") (decimal number) (told_free (codes "applied ") refl) (decimal_free number)
  line_free (UngroundedLine defaults) = append_free (codes "ungrounded ") (defaults_text defaults) (told_free (codes "ungrounded ") refl) (defaults_free defaults)
  line_free (ExtensionLine order) = append_free (codes "extension") (spaced (map decimal order)) (told_free (codes "extension") refl) (all_spaced decimal decimal_free order)
  line_free (ModelLine atoms) = append_free (codes "model ") (atoms_text names atoms) (told_free (codes "model ") refl) (atoms_free atoms)
  line_free (SmallerLine atoms) = append_free (codes "smaller ") (atoms_text names atoms) (told_free (codes "smaller ") refl) (atoms_free atoms)
  line_free NoneLine = told_free (codes "none") refl

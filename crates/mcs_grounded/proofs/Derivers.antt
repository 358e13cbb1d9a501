-- What contexts derive, by the kind of their knowledge base; and what was found of classical ones.
use Rattle.std.proofs.Common.{◌≡◌, ℕ, ◌<◌, false, List, [], Some, Vec, Global, slice_get, slice_set, refl, sym, ap, ◌∙◌, subst, inl, inr, true≢false}
use Rattle.std.specs.Prelude.{Option}
use Rattle.std.proofs.lemmas.Bool.{cases_eq}
use Rattle.std.proofs.lemmas.Cmp.{ranked}
use Rattle.std.proofs.lemmas.Option.{same_Some}
use Rattle.std.specs.BTreeMap.{BTreeMap, get, is_at, IsEmpty, IsUnchanged}
use Rattle.std.specs.Map.{lookup}
use Rattle.std.specs.Ordering.{MatchOrdering, is_eq, nat_cmp}
use Rattle.std.specs.declared.cmp.Ordering.{Ordering}
use Rattle.std.specs.declared.cmp.Ordering.TheVariants.{Less, Equal, Greater}
use Rattle.mcs_sets.specs.Sets.{common}
use Rattle.mcs_base.proofs.Written.{slice_get-slice_set, length-slice_set}
use Rattle.mcs_system.specs.Plain.{Formula, ProgramRule, ProgramKind, Kb, Program, Context, System}
use Rattle.mcs_system.specs.Codes.{same_items}
use Rattle.mcs_system.specs.Atoms.{atoms_of}
use Rattle.mcs_system.specs.Imports.{rules_into}
use Rattle.mcs_system.specs.Logic.{Accepts, with_heads, true_names}
use Rattle.mcs_system.specs.Seen.{kb_of}
use Rattle.mcs_system.specs.Systems.{IsAcceptedPart}
use Rattle.mcs_system.specs.declared.formula.Formula as code_formula
use Rattle.mcs_system.specs.declared.knowledge.Kb as code_kb
use Rattle.mcs_system.specs.declared.knowledge.Kb.TheVariants as code
use Rattle.mcs_system.specs.declared.knowledge.ProgRule.{ProgRule}
use Rattle.mcs_laws.proofs.Classical.{classical_part}
use Rattle.mcs_laws.proofs.Questions.{heads-own}
use Rattle.mcs_reduct.specs.Plain.{is_plain, IsPlain}
use Rattle.mcs_grounded.specs.Derivations.{Derives}
use Rattle.mcs_grounded.specs.Parts.{IsProgramAt, IsClassicalAt, IsConeOf, IsConeFor, IsFoundOf, AreAllFound, AreToldOf}
use Rattle.mcs_grounded.specs.declared.cone.Cone.{Cone}
use Rattle.mcs_grounded.specs.declared.found.Solver.{Solver}

-- ---- by kind
pub classical_derives : (m : System) (i x τ cone names : ℕ) (fs : List Formula) → IsClassicalAt m i fs → IsAcceptedPart m i x τ → (d : Context) → slice_get m.contexts i ≡ Some d
    → Derives m i (true_names 0 (atoms_of m i) cone) (true_names 0 (atoms_of m i) names) d.kb x τ
classical_derives m i x τ cone names fs (c, is, kb) part d there =
    let same : c ≡ d = same_Some c d (sym is ∙ there) in
    subst (λ (k : Kb). Derives m i (true_names 0 (atoms_of m i) cone) (true_names 0 (atoms_of m i) names) k x τ) (sym kb ∙ ap (λ (e : Context). e.kb) same) ((classical_part m i x τ c fs is kb).0 part)

pub program_derives : (m : System) (i x τ against cone : ℕ) (rules : List ProgramRule) → IsProgramAt m i rules
    → Derives m i (true_names 0 (atoms_of m i) cone) (true_names 0 (atoms_of m i) against) (Program rules) x τ
    → (d : Context) → slice_get m.contexts i ≡ Some d → Derives m i (true_names 0 (atoms_of m i) cone) (true_names 0 (atoms_of m i) against) d.kb x τ
program_derives m i x τ against cone rules (c, is, kb) derives d there =
    let same : c ≡ d = same_Some c d (sym is ∙ there) in
    subst (λ (k : Kb). Derives m i (true_names 0 (atoms_of m i) cone) (true_names 0 (atoms_of m i) against) k x τ) (sym kb ∙ ap (λ (e : Context). e.kb) same) derives

pub cone_for : (m : System) (i : ℕ) (rules : List ProgramRule) (cone : Cone) → IsProgramAt m i rules → IsConeOf m i rules cone → IsConeFor m i cone
cone_for m i rules cone (c, is, kb) of_these = record {
  of_program = λ others (d, there, kb'). (
      let same : c ≡ d = same_Some c d (sym is ∙ there) in
      let one : rules ≡ others = same_items ProgramKind rules others (sym kb ∙ ap (λ (e : Context). e.kb) same ∙ kb') in
      subst (λ (rs : List ProgramRule). IsConeOf m i rs cone) one of_these);
  or_none = inl (rules, (c, is, kb));
}

pub no_cone : (m : System) (i : ℕ) (cone : Cone) (c : Context) → slice_get m.contexts i ≡ Some c → ((rules : List ProgramRule) → ¬ (c.kb ≡ Program rules)) → cone.places ≡ 0 → IsConeFor m i cone
no_cone m i cone c is other none = record {
  of_program = λ rules (d, there, kb'). absurd (other rules (ap (λ (e : Context). e.kb) (same_Some c d (sym is ∙ there)) ∙ kb'));
  or_none = inr none;
}

pub no_program : (k : code_kb.Kb) → ((rs : Vec ProgRule Global) → ¬ (k ≡ code.Program rs)) → (rules : List ProgramRule) → ¬ (kb_of k ≡ Program rules)
no_program (code.Program rs) other rules is = other rs refl
no_program k other rules is = cc

-- a plain context is classical or a program
pub not_plain : (k : code_kb.Kb) → ((fs : Vec code_formula.Formula Global) → ¬ (k ≡ code.Classical fs)) → ((rs : Vec ProgRule Global) → ¬ (k ≡ code.Program rs)) → is_plain (kb_of k) ≡ false
not_plain (code.Classical fs) none other = absurd (none fs refl)
not_plain (code.Program rs) none other = absurd (other rs refl)
not_plain k none other = refl

-- what is accepted depends on the rules into the context
pub part_with : (m : System) (i x τ : ℕ) → IsAcceptedPart m i (common x (rules_into m i)) τ → IsAcceptedPart m i x τ
part_with m i x τ h = let (c, is, accepts) = h.accepted in record {
  belief = h.belief;
  accepted = (c, is, subst (λ (hs : List Formula). Accepts (with_heads c.kb hs) h.belief) (sym (heads-own m i x)) accepts);
  part = h.part;
}

-- ---- what was found
apart_at : (x y : ℕ) → ¬ (x ≡ y) → is_at (nat_cmp x) y ≡ false
apart_at x y differ = at (nat_cmp x y) (ranked x y _ refl)
  where
    at : (o : Ordering) → MatchOrdering o (x < y) (x ≡ y) (y < x) → is_eq o ≡ false
    at Less h = refl
    at Equal h = absurd (differ h)
    at Greater h = refl

pub none_told : (m : System) (i : ℕ) (told : BTreeMap ℕ ℕ) → IsEmpty told → AreToldOf m i told
none_told m i told empty x τ is = let e : lookup (is_at (nat_cmp x)) [] ≡ Some τ = subst (λ (es : List (ℕ × ℕ)). lookup (is_at (nat_cmp x)) es ≡ Some τ) empty is in cc

pub told_still : (m : System) (i : ℕ) (old new : BTreeMap ℕ ℕ) → IsUnchanged old new → AreToldOf m i old → AreToldOf m i new
told_still m i old new same are x τ is = are x τ (subst (λ (es : List (ℕ × ℕ)). lookup (is_at (nat_cmp x)) es ≡ Some τ) same is)

pub told_more : (m : System) (i x τ : ℕ) (old new : BTreeMap ℕ ℕ) → get nat_cmp new x ≡ Some τ → ((y : ℕ) → is_at (nat_cmp x) y ≡ false → get nat_cmp new y ≡ get nat_cmp old y) → IsAcceptedPart m i x τ → AreToldOf m i old → AreToldOf m i new
told_more m i x τ old new now others part are y υ is = elim (cases_eq x y) [
  | inl same ↦ subst (λ (z : ℕ). IsAcceptedPart m i z υ) same (subst (IsAcceptedPart m i x) (same_Some τ υ (sym now ∙ ap (get nat_cmp new) same ∙ is)) part)
  | inr differ ↦ are y υ (sym (others y (apart_at x y differ)) ∙ is)
]

-- of one context more was found
pub all_found_set : (m : System) (all : List (Option Solver)) (i : ℕ) (solver : Option Solver) → AreAllFound m all → IsFoundOf m i solver → AreAllFound m (slice_set all i solver)
all_found_set m all i solver are of_i = record {
  one_each = length-slice_set all i solver ∙ are.one_each;
  own = λ j s is. elim (slice_get-slice_set all i j solver s is) [
    | inl (same, now) ↦ subst (IsFoundOf m j) (sym now) (subst (λ (k : ℕ). IsFoundOf m k solver) (sym same) of_i)
    | inr (other, before) ↦ are.own j s before
  ];
}

-- The parts of a text that its tokens are told by.
use Rattle.std.proofs.Common.{◌≡◌, ℕ, ◌+◌, ◌≤◌, max, Bool, cond, List, [], ◌∷◌, length, ◌⊎◌, true, false, refl, arith}
use Rattle.std.specs.List.{flat_map}
use Rattle.mcs_base.specs.Listings.{IsAmong}
use Rattle.mcs_system.specs.Plain.{Name, ProgramKind}
use Rattle.mcs_system.specs.Logic.{same_name, atoms}
use Rattle.mcs_system.specs.Atoms.{kb_atoms}
use Rattle.mcs_grammar.specs.Written.{Written, True', False', Named, Prefixed, Grouped, Joins, WrittenKb, OfKind, WrittenLiteral, WrittenRule, WrittenContext, WrittenPlace, WrittenRead, WrittenBridge, WrittenText}
use Rattle.mcs_grammar.specs.Entries.{Use, NamesContext, SaysProgram, formula_in, size_of, text_entries, uses_of}
use Rattle.mcs_grammar.specs.Saying.{kb_in, positive_atoms, negative_atoms}
use Rattle.mcs_grammar.specs.Faults.{NamedRead}
use Rattle.mcs_account.specs.Images.{read_in}
pub use Rattle.mcs_account.specs.Items.{item_formulas}
use Rattle.mcs_account.specs.Items.{formulas_in, rules_in}

abbrev pub text_uses : WrittenText → List Use
text_uses t = uses_of (text_entries t)

-- ---- counts
abbrev pub goes_into : Name → WrittenBridge → Bool
goes_into c b = same_name c (b.head).context

-- of one context, and all contexts of that name
abbrev pub sum_of : Name → (WrittenKb → ℕ) → List WrittenContext → ℕ
sum_of c count [] = 0
sum_of c count (x ∷ xs) = cond (same_name c x.name) (count x.kb) 0 + sum_of c count xs

-- ---- reads
pub record IsReadOf (t : WrittenText) (target : Name) (r : NamedRead) : Type 0 where
  pub bridge : WrittenBridge
  pub is_there : IsAmong bridge t.bridges
  pub into : (bridge.head).context ≡ target
  pub read : WrittenRead
  pub is_read : IsAmong read bridge.reads
  pub says : read_in read.place ≡ r

-- ---- atoms
-- a head or a belief that is read
pub data IsPlaceOf (t : WrittenText) (p : WrittenPlace) : Type 0 where
  OfHead : (b : WrittenBridge) (there : IsAmong b t.bridges) (is : b.head ≡ p) → IsPlaceOf t p
  OfRead : (b : WrittenBridge) (there : IsAmong b t.bridges) (r : WrittenRead) (read : IsAmong r b.reads) (is : r.place ≡ p) → IsPlaceOf t p

abbrev pub IsAtomOf : WrittenText → Name → Name → Type 0
IsAtomOf t c a =
    ((x : WrittenContext) × IsAmong x t.contexts × (x.name ≡ c) × IsAmong a (kb_atoms (kb_in x.kb)))
    ⊎ ((p : WrittenPlace) × IsPlaceOf t p × (p.context ≡ c) × IsAmong a (atoms (formula_in p.belief)))

-- ---- sizes
-- the formulas of a knowledge base, and the number of names of its rules
abbrev pub kb_formulas : WrittenKb → List Written
kb_formulas (OfKind k items) = flat_map (formulas_in k) items

abbrev pub rule_size : WrittenRule → ℕ
rule_size r = length r.head + length r.body

abbrev pub kb_rules : WrittenKb → List WrittenRule
kb_rules (OfKind k items) = flat_map (rules_in k) items

-- a size of a formula or of a rule of the text
pub data IsSizeOf (t : WrittenText) (n : ℕ) : Type 0 where
  OfFormula : (x : WrittenContext) (there : IsAmong x t.contexts) (f : Written) (among : IsAmong f (kb_formulas x.kb)) (is : size_of f ≡ n) → IsSizeOf t n
  OfRule : (x : WrittenContext) (there : IsAmong x t.contexts) (r : WrittenRule) (among : IsAmong r (kb_rules x.kb)) (is : rule_size r ≡ n) → IsSizeOf t n
  OfPlace : (p : WrittenPlace) (place : IsPlaceOf t p) (is : size_of p.belief ≡ n) → IsSizeOf t n

-- ---- parentheses
-- the most parentheses that are open at once
abbrev pub depth_of : Written → ℕ
depth_of True' = 0
depth_of False' = 0
depth_of (Named name) = 0
depth_of (Prefixed p f) = depth_of f
depth_of (Grouped f) = depth_of f + 1
depth_of (Joins j f g) = max (depth_of f) (depth_of g)

pub record IsShallow (t : WrittenText) : Type 0 where
  pub of_contexts : (x : WrittenContext) (f : Written) → IsAmong x t.contexts → IsAmong f (kb_formulas x.kb) → depth_of f ≤ 512
  pub of_places : (p : WrittenPlace) → IsPlaceOf t p → depth_of p.belief ≤ 512

-- ---- contexts and their kinds
abbrev pub IsProgramKb : WrittenKb → Type 0
IsProgramKb (OfKind ProgramKind rules) = Unit {0}
IsProgramKb kb = ⊥

-- ---- at which token: the uses before a bridge rule's token have all that the contexts name and say
pub record IsBefore (t : WrittenText) (before : List Use) : Type 0 where
  pub named : (c : Name) → IsAmong (NamesContext c) (text_uses t) → IsAmong (NamesContext c) before
  pub programs : (c : Name) → IsAmong (SaysProgram c) (text_uses t) → IsAmong (SaysProgram c) before

-- ---- the literals of a rule
pub literals-count : (body : List WrittenLiteral) → length (positive_atoms body) + length (negative_atoms body) ≡ length body
literals-count [] = refl
literals-count (l ∷ body) = go l.denied refl (literals-count body)
  where
    go : (b : Bool) → l.denied ≡ b → length (positive_atoms body) + length (negative_atoms body) ≡ length body → length (positive_atoms (l ∷ body)) + length (negative_atoms (l ∷ body)) ≡ length (l ∷ body)
    go true is h = rw is (omega (arith, h))
    go false is h = rw is (omega (arith, h))

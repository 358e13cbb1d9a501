-- What a written text says: the system, as plain data.
use Rattle.std.specs.Prelude.{◌≡◌, ℕ, not, List, [], ◌∷◌, map, filter, Option, Some, None}
use Rattle.std.specs.List.{position}
use Rattle.mcs_base.specs.Numbers.{value_of_digits}
use Rattle.mcs_system.specs.Plain as plain
use Rattle.mcs_system.specs.Plain.{Name}
use Rattle.mcs_system.specs.Logic.{same_name}
pub use Rattle.mcs_grammar.specs.Items.{default_said, item_in, positive_atoms, negative_atoms, rule_in, said_in}
use Rattle.mcs_grammar.specs.Items.{formula_in}
use Rattle.mcs_grammar.specs.Written.{WrittenKb, OfKind, WrittenContext, WrittenPlace, WrittenRead, WrittenBridge, WrittenText}

abbrev pub kb_in : WrittenKb → plain.Kb
kb_in (OfKind k items) = plain.OfKind k (map (said_in k) items)

abbrev pub context_in : WrittenContext → plain.Context
context_in c = record { name = c.name; kb = kb_in c.kb }

-- where these are the names of the contexts
pub record SaysPlace (contexts : List Name) (p : WrittenPlace) (r : plain.Read) : Type 0 where
  pub number : position (same_name p.context) contexts ≡ Some r.context
  pub belief : r.belief ≡ formula_in p.belief

-- one by one, and as many
abbrev pub Each : {W X : Type 0} → (W → X → Type 0) → List W → List X → Type 0
Each says [] [] = Unit {0}
Each says (w ∷ ws) (x ∷ xs) = says w x × Each says ws xs
Each says ws xs = ⊥

abbrev pub positive_places : List WrittenRead → List WrittenPlace
positive_places rs = map (λ (r : WrittenRead). r.place) (filter (λ (r : WrittenRead). not r.denied) rs)

abbrev pub negative_places : List WrittenRead → List WrittenPlace
negative_places rs = map (λ (r : WrittenRead). r.place) (filter (λ (r : WrittenRead). r.denied) rs)

-- the number that the digits spell; 1 where a rule says no weight
abbrev pub weight_said : Option (List ℕ) → ℕ
weight_said None = 1
weight_said (Some digits) = value_of_digits digits

pub record SaysBridge (contexts : List Name) (w : WrittenBridge) (b : plain.Bridge) : Type 0 where
  pub named : b.name ≡ w.name
  pub head : SaysPlace contexts w.head (record { context = b.target; belief = b.head })
  pub pos : Each (SaysPlace contexts) (positive_places w.reads) b.pos
  pub neg : Each (SaysPlace contexts) (negative_places w.reads) b.neg
  pub keep : b.keep ≡ w.marks.keep
  pub closed : b.closed ≡ w.marks.closed
  pub weight : b.weight ≡ weight_said w.marks.weight

abbrev pub names_of : List WrittenContext → List Name
names_of cs = map (λ (c : WrittenContext). c.name) cs

pub record SaysSystem (t : WrittenText) (m : plain.System) : Type 0 where
  pub contexts : m.contexts ≡ map context_in t.contexts
  pub bridges : Each (SaysBridge (names_of t.contexts)) t.bridges m.bridges

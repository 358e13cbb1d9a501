-- Systems in which each name is one: those of contexts and of bridge rules, and the atoms.
use Rattle.std.specs.Prelude.{List}
use Rattle.std.specs.List.{AllByRecursion}
use Rattle.mcs_system.specs.Plain.{Kb, OfKind, Context, Read, Bridge, System}
pub use Rattle.mcs_system.specs.Items.{IsName, AreNames, IsNamedFormula, IsNamedDefault, IsNamedItem, IsNamedRule}
use Rattle.mcs_system.specs.Kinds.{IsNamedIn}

abbrev pub IsNamedKb : Kb → Type 0
IsNamedKb (OfKind k items) = AllByRecursion (IsNamedIn k) items

pub record IsNamedContext (c : Context) : Type 0 where
  pub name : IsName c.name
  pub kb : IsNamedKb c.kb

abbrev pub AreNamedReads : List Read → Type 0
AreNamedReads rs = AllByRecursion (λ (r : Read). IsNamedFormula r.belief) rs

pub record IsNamedBridge (b : Bridge) : Type 0 where
  pub name : IsName b.name
  pub head : IsNamedFormula b.head
  pub pos : AreNamedReads b.pos
  pub neg : AreNamedReads b.neg

pub record IsSystemNamed (m : System) : Type 0 where
  pub contexts : AllByRecursion IsNamedContext m.contexts
  pub bridges : AllByRecursion IsNamedBridge m.bridges

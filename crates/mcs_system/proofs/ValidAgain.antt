-- When a system with the contexts of a valid one is valid.
use Rattle.std.proofs.Common.{◌≡◌, ℕ, ◌<◌, ◌≤◌, Bool, false, ◌||◌, nat_lt, nat_eq, List, map, length, count_by, None, refl, inl, inr, arith}
use Rattle.std.proofs.lemmas.Bool.Decides.{nat_tests}
use Rattle.std.proofs.lemmas.Bool.{or_parts, or_from}
use Rattle.std.specs.List.{list_any, range_with_len}
use Rattle.mcs_sets.specs.Sets.{size}
use Rattle.mcs_base.proofs.Among.{any_none, range_among}
use Rattle.mcs_system.specs.Plain.{Context, Bridge, System}
use Rattle.mcs_system.specs.Systems.{variables}
use Rattle.mcs_system.specs.Rows.{inputs_of}
use Rattle.mcs_system.specs.Atoms.{atoms_of}
use Rattle.mcs_system.specs.declared.limit.Limit.TheVariants.{Contexts, Bridges, RulesPerContext, InputsPerContext, AtomsPerContext, DefaultsPerContext, ItemsPerContext, Weight, FormulaSize}
use Rattle.mcs_system.specs.Faults.{points_outside, has_misfit, has_unjustified, has_twins, has_large_item, has_large_part, exceeds, first_exceeded, has_twin_names, has_misfits, IsValid}
use Rattle.mcs_system.specs.Built.{last_limits, PassesFirst}
use Rattle.mcs_system.proofs.BuildLemmas.{within_variables, none_told}
use Rattle.mcs_system.specs.Edits.{with_rules}
use Rattle.mcs_system.proofs.ValidLemmas.{tests_pass, limit_kept}

-- what is tested of the rules, one by one and by counting them
pub record AreSoundRules (cs : List Context) (bs : List Bridge) : Type 0 where
  pub known : list_any (points_outside (length cs)) bs ≡ false
  pub apart : has_twins (map (λ (b : Bridge). b.name) bs) ≡ false
  pub fitting : list_any (has_misfit cs) bs ≡ false
  pub few : length bs ≤ 64
  pub few_there : (i : ℕ) → i < length cs → count_by (λ (b : Bridge). nat_eq b.target i) bs ≤ 12
  pub light : list_any (λ (b : Bridge). nat_lt 1000000 b.weight) bs ≡ false
  pub small : list_any has_large_part bs ≡ false

-- what is counted over variables
pub record AreFewEnough (m : System) : Type 0 where
  pub variables : length (variables m) ≤ 64
  pub inputs : (i : ℕ) → i < length m.contexts → size (inputs_of m i) ≤ 16
  pub atoms : (i : ℕ) → i < length m.contexts → length (atoms_of m i) ≤ 64

pub not_less : (a b : ℕ) → b ≤ a → nat_lt a b ≡ false
not_less a b few = grind (arith, nat_tests)

no_context : (n : ℕ) (p : ℕ → Bool) → ((i : ℕ) → i < n → p i ≡ false) → list_any p (range_with_len 0 n) ≡ false
no_context n p none = any_none p (range_with_len 0 n) (λ i h. none i (let (low, high) = range_among i 0 n h in omega arith))

module _ (m : System) (valid : IsValid m) (bs : List Bridge) (sound : AreSoundRules m.contexts bs) where
  n : ℕ
  n = length m.contexts

  twins : has_twin_names (with_rules m bs) ≡ false
  twins = or_from (has_twins (map (λ (c : Context). c.name) m.contexts)) _ (or_parts _ _ (tests_pass m valid).apart).0 sound.apart

  misfits : has_misfits (with_rules m bs) ≡ false
  misfits = or_from (list_any (λ (c : Context). has_unjustified c.kb) m.contexts) _ (or_parts _ _ (tests_pass m valid).fitting).0 sound.fitting

  contexts_few : exceeds (with_rules m bs) Contexts ≡ false
  unfolding exceeds
  contexts_few = limit_kept m valid Contexts (inl refl)

  bridges_few : exceeds (with_rules m bs) Bridges ≡ false
  unfolding exceeds
  bridges_few = not_less 64 (length bs) sound.few

  there_few : exceeds (with_rules m bs) RulesPerContext ≡ false
  unfolding exceeds
  there_few = no_context (length m.contexts) (λ i. nat_lt 12 (count_by (λ (b : Bridge). nat_eq b.target i) bs)) (λ i less. not_less 12 _ (sound.few_there i less))

  first : PassesFirst (with_rules m bs)
  first = record {
    flaws = rw (sound.known, twins, misfits) refl;
    limits = rw (contexts_few, bridges_few, there_few) refl;
  }

  defaults_few : exceeds (with_rules m bs) DefaultsPerContext ≡ false
  unfolding exceeds
  defaults_few = limit_kept m valid DefaultsPerContext (inr (inr (inr (inr (inr (inr (inl refl)))))))

  items_few : exceeds (with_rules m bs) ItemsPerContext ≡ false
  unfolding exceeds
  items_few = limit_kept m valid ItemsPerContext (inr (inr (inr (inr (inr (inr (inr (inl refl))))))))

  light : exceeds (with_rules m bs) Weight ≡ false
  unfolding exceeds
  light = sound.light

  small : exceeds (with_rules m bs) FormulaSize ≡ false
  unfolding exceeds
  small =
      let all : (list_any (λ (c : Context). has_large_item c.kb) m.contexts || list_any has_large_part m.bridges) ≡ false = limit_kept m valid FormulaSize (inr (inr (inr (inr (inr (inr (inr (inr (inr (inl refl)))))))))) in
      or_from (list_any (λ (c : Context). has_large_item c.kb) m.contexts) (list_any has_large_part bs) (or_parts _ _ all).0 sound.small

  last : first_exceeded (with_rules m bs) last_limits ≡ None
  last = rw (defaults_few, items_few, light, small) refl

  module _ (few : AreFewEnough (with_rules m bs)) where
    inputs_few : exceeds (with_rules m bs) InputsPerContext ≡ false
    unfolding exceeds
    inputs_few = no_context (length m.contexts) (λ i. nat_lt 16 (size (inputs_of (with_rules m bs) i))) (λ i less. not_less 16 _ (few.inputs i less))

    atoms_few : exceeds (with_rules m bs) AtomsPerContext ≡ false
    unfolding exceeds
    atoms_few = no_context (length m.contexts) (λ i. nat_lt 64 (length (atoms_of (with_rules m bs) i))) (λ i less. not_less 64 _ (few.atoms i less))

    pub valid_again : IsValid (with_rules m bs)
    valid_again = none_told (with_rules m bs) first (within_variables (with_rules m bs) few.variables inputs_few atoms_few) last

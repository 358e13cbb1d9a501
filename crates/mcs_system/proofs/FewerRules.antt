-- A valid system is valid with fewer rules.
use Rattle.std.proofs.Common.{◌≡◌, ℕ, ◌+◌, ◌≤◌, Bool, true, false, not, nat_eq, nat_lt, cond, List, [], ◌∷◌, map, filter, length, count_by, refl, sym, ap, subst, inl, inr, arith}
use Rattle.std.proofs.lemmas.Bool.{or_parts}
use Rattle.std.proofs.lemmas.List.Sums.{length-filter, count_by-le-length}
use Rattle.std.specs.List.{list_any}
use Rattle.mcs_base.specs.Listings.{IsAmong, AreApart}
use Rattle.mcs_base.proofs.Among.{any_none, none_any, filter_among, map_among, among_map}
use Rattle.mcs_base.proofs.Sums.{count_by-cons}
use Rattle.mcs_system.specs.declared.bridge.Bridge as code
use Rattle.mcs_system.specs.Plain.{Name, Context, Bridge, System}
use Rattle.mcs_system.specs.Logic.{same_name}
use Rattle.mcs_system.specs.Seen.{bridge_of}
use Rattle.mcs_system.specs.declared.limit.Limit.TheVariants.{Weight, FormulaSize}
use Rattle.mcs_system.specs.Faults.{points_outside, has_misfit, has_unjustified, has_twins, has_large_item, has_large_part, exceeds, IsValid}
use Rattle.mcs_system.proofs.NameLemmas.{no_twins}
use Rattle.mcs_system.proofs.ValidLemmas.{tests_pass, limit_kept}
use Rattle.mcs_system.proofs.ValidLemmas as kept
use Rattle.mcs_system.specs.Edits.{with_rules, without_rule}
use Rattle.mcs_system.proofs.CountLemmas.{AreAmong, fewer_variables, fewer_inputs, fewer_atoms}
use Rattle.mcs_system.proofs.ValidAgain.{AreSoundRules, valid_again}

abbrev name : Bridge → Name
name b = b.name

abbrev into : ℕ → Bridge → Bool
into i b = nat_eq b.target i

-- ---- what holds of the rules of a valid system
module _ (m : System) (valid : IsValid m) where
  pub rules_apart : has_twins (map name m.bridges) ≡ false
  rules_apart = (or_parts (has_twins (map (λ (c : Context). c.name) m.contexts)) (has_twins (map name m.bridges)) (tests_pass m valid).apart).1

  pub rules_fit : list_any (has_misfit m.contexts) m.bridges ≡ false
  rules_fit = (or_parts (list_any (λ (c : Context). has_unjustified c.kb) m.contexts) (list_any (has_misfit m.contexts) m.bridges) (tests_pass m valid).fitting).1

  pub rules_light : list_any (λ (b : Bridge). nat_lt 1000000 b.weight) m.bridges ≡ false
  unfolding exceeds
  rules_light = limit_kept m valid Weight (inr (inr (inr (inr (inr (inr (inr (inr (inl refl)))))))))

  pub rules_small : list_any has_large_part m.bridges ≡ false
  unfolding exceeds
  rules_small = (or_parts (list_any (λ (c : Context). has_large_item c.kb) m.contexts) (list_any has_large_part m.bridges) (limit_kept m valid FormulaSize (inr (inr (inr (inr (inr (inr (inr (inr (inr (inl refl)))))))))))).1

-- ---- fewer rules
count_fewer : {A : Type 0} (q p : A → Bool) (xs : List A) → count_by q (filter p xs) ≤ count_by q xs
count_fewer q p [] = omega arith
count_fewer {A = A} q p (x ∷ xs) = at (p x) (count_fewer q p xs)
  where
    one : (ys : List A) → count_by q (x ∷ ys) ≡ cond (q x) 1 0 + count_by q ys
    one ys = count_by-cons q x ys

    at : (v : Bool) → count_by q (filter p xs) ≤ count_by q xs → count_by q (cond v (x ∷ filter p xs) (filter p xs)) ≤ count_by q (x ∷ xs)
    at true fewer = omega (arith, fewer, one (filter p xs), one xs)
    at false fewer = omega (arith, fewer, one xs)

apart_fewer : {A B : Type 0} (f : A → B) (p : A → Bool) (xs : List A) → AreApart (map f xs) → AreApart (map f (filter p xs))
apart_fewer f p [] apart = tt
apart_fewer {B = B} f p (x ∷ xs) apart = at (p x) (apart_fewer f p xs apart.1)
  where
    at : (v : Bool) → AreApart (map f (filter p xs)) → AreApart (map f (cond v (x ∷ filter p xs) (filter p xs)))
    at true rest = (λ h. let (y, there, is) = map_among f (f x) (filter p xs) h in apart.0 (subst (λ (z : B). IsAmong z (map f xs)) (sym is) (among_map f y xs (filter_among p y xs there).0)), rest)
    at false rest = rest

none_fewer : {A : Type 0} (q p : A → Bool) (xs : List A) → list_any q xs ≡ false → list_any q (filter p xs) ≡ false
none_fewer q p xs none = any_none q (filter p xs) (λ x h. none_any q xs x none (filter_among p x xs h).0)

module _ (m : System) (valid : IsValid m) (p : Bridge → Bool) where
  fewer_sound : AreSoundRules m.contexts (filter p m.bridges)
  fewer_sound = record {
    known = none_fewer (points_outside (length m.contexts)) p m.bridges (tests_pass m valid).known;
    apart = (no_twins (map name (filter p m.bridges))).1 (apart_fewer name p m.bridges ((no_twins (map name m.bridges)).0 (rules_apart m valid)));
    fitting = none_fewer (has_misfit m.contexts) p m.bridges (rules_fit m valid);
    few = omega (arith, length-filter p m.bridges, count_by-le-length p m.bridges, kept.few_bridges m valid);
    few_there = λ i less. omega (arith, count_fewer (into i) p m.bridges, kept.few_rules m valid i less);
    light = none_fewer (λ (b : Bridge). nat_lt 1000000 b.weight) p m.bridges (rules_light m valid);
    small = none_fewer has_large_part p m.bridges (rules_small m valid);
  }

  fewer : AreAmong (filter p m.bridges) m.bridges
  fewer b h = (filter_among p b m.bridges h).0

  pub fewer_is_valid : IsValid (with_rules m (filter p m.bridges))
  fewer_is_valid =
      let m' = with_rules m (filter p m.bridges) in
      valid_again m valid (filter p m.bridges) fewer_sound (record {
        variables = omega (arith, fewer_variables m m' refl fewer, kept.few_variables m valid);
        inputs = λ i less. omega (arith, fewer_inputs m m' refl fewer i, kept.few_inputs m valid i less);
        atoms = λ i less. omega (arith, fewer_atoms m m' refl fewer i, kept.few_atoms m valid i less);
      })

pub without_rule_is_valid : (m : System) (n : Name) → IsValid m → IsValid (without_rule m n)
without_rule_is_valid m n valid = fewer_is_valid m valid (λ (b : Bridge). not (same_name n b.name))

pub filtered_seen : (p : Bridge → Bool) (xs : List code.Bridge) → map bridge_of (filter (λ x. p (bridge_of x)) xs) ≡ filter p (map bridge_of xs)
filtered_seen p [] = refl
filtered_seen p (x ∷ xs) = at (p (bridge_of x)) (filtered_seen p xs)
  where
    at : (v : Bool) → map bridge_of (filter (λ x. p (bridge_of x)) xs) ≡ filter p (map bridge_of xs) → map bridge_of (cond v (x ∷ filter (λ x. p (bridge_of x)) xs) (filter (λ x. p (bridge_of x)) xs)) ≡ cond v (bridge_of x ∷ filter p (map bridge_of xs)) (filter p (map bridge_of xs))
    at true rest = ap (λ (bs : List Bridge). bridge_of x ∷ bs) rest
    at false rest = rest

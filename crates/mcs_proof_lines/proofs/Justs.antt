-- Numbers of defaults and of their justifications, and how many justifications the defaults of a set have.
use Rattle.std.proofs.Common.{◌≡◌, ℕ, ◌+◌, ◌-◌, ◌<◌, ◌≤◌, ◌^◌, suc, Bool, true, false, cond, nat_le, nat_lt, ◌&&◌, List, [], ◌∷◌, ◌++◌, map, length, slice_get, slice_index, Option, Some, None, refl, sym, ap, ◌∙◌, subst, arith, true≢false}
use Rattle.std.proofs.lemmas.Bool.{and_parts}
use Rattle.std.proofs.lemmas.Bool.Decides.{nat_tests}
use Rattle.std.proofs.lemmas.List.{length-map, length-append}
use Rattle.std.proofs.lemmas.Option.{slice_get-map, slice_get_within, get_or_from_slice_get}
use Rattle.std.specs.Option.{option_map, option_map_or}
use Rattle.mcs_sets.specs.Sets.{has, members, members_from}
use Rattle.mcs_sets.proofs.SetLemmas.{members-width}
use Rattle.mcs_system.specs.Plain.{Default, Not}
use Rattle.mcs_evidence.specs.Defaults.{defaults_at, negated_justs}
use Rattle.mcs_proof_lines.specs.Walks.{IsJustOf, is_just}
use Rattle.mcs_proof_lines.specs.Verdicts.{just_total}

-- a justification that may be named
pub just_within : (justs : List ℕ) (n j : ℕ) → 0 < n → 0 < j → is_just justs n j ≡ true → IsJustOf justs (n, j)
just_within justs n j some some_just e = at (slice_get justs (n - 1)) refl e
  where
    at : (o : Option ℕ) → slice_get justs (n - 1) ≡ o → option_map_or (λ count. nat_le j count && nat_lt j (2 ^ 32)) o false ≡ true → IsJustOf justs (n, j)
    at None is h = absurd (true≢false (sym h))
    at (Some count) is h =
        let (enough, fits) = and_parts (nat_le j count) (nat_lt j (2 ^ 32)) h in
        let less : n - 1 < length justs = slice_get_within justs (n - 1) count is in
        let low : j ≤ count = grind (arith, nat_tests) in
        let here : slice_index justs (n - 1) ≡ count = get_or_from_slice_get justs (n - 1) count 0 is in
        record { number = (some, omega (arith, some, less)); some = some_just; enough = omega (arith, low, here) }

-- ---- justifications of the defaults of a set
abbrev pub justs_in : Default → ℕ
justs_in d = length d.justs

total_from : (all : List ℕ) (set k : ℕ) (ds : List Default) → ((j : ℕ) (d : Default) → slice_get ds j ≡ Some d → slice_index all (k + j) ≡ length d.justs) → just_total all (members_from k (length ds) set) ≡ length (negated_justs (defaults_at k ds set))
unfolding members_from
total_from all set k [] known = refl
total_from all set k (d ∷ ds) known =
    at (has set k) (total_from all set (k + 1) ds (λ j e is. (let next : k + 1 + j ≡ k + suc j = omega arith in ap (slice_index all) next ∙ known (suc j) e is))) (let here : k ≡ k + 0 = omega arith in ap (slice_index all) here ∙ known 0 d refl)
  where
    at : (b : Bool) → just_total all (members_from (k + 1) (length ds) set) ≡ length (negated_justs (defaults_at (k + 1) ds set)) → slice_index all k ≡ length d.justs
        → just_total all (cond b (k ∷ members_from (k + 1) (length ds) set) (members_from (k + 1) (length ds) set)) ≡ length (negated_justs (cond b (d ∷ defaults_at (k + 1) ds set) (defaults_at (k + 1) ds set)))
    at true rest first =
        let long : length (map Not d.justs) ≡ length d.justs = length-map d.justs Not in
        let joined : length (map Not d.justs ++ negated_justs (defaults_at (k + 1) ds set)) ≡ length (map Not d.justs) + length (negated_justs (defaults_at (k + 1) ds set)) = length-append (map Not d.justs) (negated_justs (defaults_at (k + 1) ds set)) in
        omega (arith, rest, first, long, joined)
    at false rest first = rest

module _ (ds : List Default) (justs : List ℕ) (justs_are : justs ≡ map justs_in ds) where
  pub counted : length justs ≡ length ds
  counted = ap length justs_are ∙ length-map ds justs_in

  pub just_at : (k : ℕ) (d : Default) → slice_get ds k ≡ Some d → slice_index justs k ≡ length d.justs
  just_at k d e = ap (λ (js : List ℕ). slice_index js k) justs_are ∙ get_or_from_slice_get (map justs_in ds) k (length d.justs) 0 (slice_get-map justs_in ds k ∙ ap (option_map justs_in) e)

  pub total_justs : (set : ℕ) → set < 2 ^ length justs → length (negated_justs (defaults_at 0 ds set)) ≡ just_total justs (members set)
  total_justs set small =
      let low : set < 2 ^ length ds = subst (λ (n : ℕ). set < 2 ^ n) counted small in
      sym (ap (just_total justs) (members-width set (length ds) low) ∙ total_from justs set 0 ds (λ j d e. (let here : 0 + j ≡ j = omega arith in ap (slice_index justs) here ∙ just_at j d e)))

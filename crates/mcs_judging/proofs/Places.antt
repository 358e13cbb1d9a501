-- How many there are of the defaults of a set and of their justifications, and places as sets.
use Rattle.std.proofs.Common.{◌≡◌, ℕ, ◌+◌, ◌-◌, ◌<◌, ◌^◌, zero, suc, List, [], ◌∷◌, ◌++◌, map, length, slice_index, Some, sym, ap, ◌∙◌, subst, arith}
use Rattle.std.proofs.lemmas.List.{length-map, length-append}
use Rattle.std.proofs.lemmas.Option.{none-some}
use Rattle.std.specs.List.{AllByRecursion}
use Rattle.mcs_sets.specs.Sets.{members, size}
use Rattle.mcs_sets.proofs.SetLemmas.{members_below}
use Rattle.mcs_base.proofs.Each.{all_from_among}
use Rattle.mcs_system.specs.Plain.{Formula, Default, Item, Not}
use Rattle.mcs_system.specs.Seen.{default_of}
use Rattle.mcs_evidence.specs.Defaults.{defaults_of, defaults_in, negated_justs}
use Rattle.mcs_evidence.proofs.TheorySizes.{as_many}
use Rattle.mcs_extensions.specs.Checks.{at_number, AreNumbersOf}
use Rattle.mcs_asked.specs.Questions.{theory_defaults}
use Rattle.mcs_judging.specs.declared.theory.TheoryLines as lines
use Rattle.mcs_proof_lines.specs.Walks.{IsNumberOf}
use Rattle.mcs_proof_lines.specs.Verdicts.{just_total}
use Rattle.mcs_proof_lines.proofs.Justs.{justs_in, counted, just_at, total_justs}

-- ---- how many justifications the defaults have, as the code holds them
pub own_counts : (r : lines.TheoryLines) → r.terms.now.justs.now ≡ map justs_in (theory_defaults r.theory.now)
own_counts r = r.justs ∙ ap (map justs_in) (sym r.theory.now.are)

pub as_long : (r : lines.TheoryLines) → length r.terms.now.justs.now ≡ length r.theory.now.defaults.now
as_long r = counted (theory_defaults r.theory.now) r.terms.now.justs.now (own_counts r) ∙ length-map r.theory.now.defaults.now (λ d. default_of d.now)

-- ---- justifications of one default
pub own_justs : (ds : List Default) (justs : List ℕ) → justs ≡ map justs_in ds → (n : ℕ) (d : Default) → at_number ds n ≡ Some d → slice_index justs (n - 1) ≡ length d.justs
own_justs ds justs are zero d at = absurd (none-some d at)
own_justs ds justs are (suc k) d at = let e : suc k - 1 ≡ k = omega arith in ap (slice_index justs) e ∙ just_at ds justs are k d at

one_default : (d : Default) → length (negated_justs (d ∷ [])) ≡ length d.justs
one_default d =
    let long : length (map Not d.justs) ≡ length d.justs = length-map d.justs Not in
    let joined : length (map Not d.justs ++ []) ≡ length (map Not d.justs) + 0 = length-append (map Not d.justs) [] in
    omega (arith, long, joined)

pub one_justs : (ds : List Default) (justs : List ℕ) → justs ≡ map justs_in ds → (n : ℕ) (d : Default) → at_number ds n ≡ Some d → length (negated_justs (d ∷ [])) ≡ slice_index justs (n - 1)
one_justs ds justs are n d at = one_default d ∙ sym (own_justs ds justs are n d at)

-- ---- the defaults of a set: there are as many prerequisites as members
pub as_many_goals : {X : Type 0} (f : X → Formula) (xs : List X) (items : List Item) (justs : List ℕ) (s : ℕ) → map f xs ≡ map (λ (d : Default). d.pre) (defaults_in items s) → justs ≡ map justs_in (defaults_of items) → s < 2 ^ length justs → length xs ≡ size s
as_many_goals f xs items justs s goals are small =
    sym (length-map xs f) ∙ ap length goals ∙ length-map (defaults_in items s) (λ (d : Default). d.pre) ∙ as_many items s (subst (λ (n : ℕ). s < 2 ^ n) (counted (defaults_of items) justs are) small)

-- and as many justifications as are counted
pub as_many_justs : (xs : List Default) (items : List Item) (justs : List ℕ) (s : ℕ) → xs ≡ defaults_in items s → justs ≡ map justs_in (defaults_of items) → s < 2 ^ length justs → length (negated_justs xs) ≡ just_total justs (members s)
as_many_justs xs items justs s are counts small = ap (λ (ds : List Default). length (negated_justs ds)) are ∙ total_justs (defaults_of items) justs counts s small

-- ---- the numbers of a set's members are those of defaults
pub numbers_within : (set : ℕ) (justs ns : List ℕ) → set < 2 ^ length justs → AreNumbersOf set ns → AllByRecursion (IsNumberOf justs) ns
numbers_within set justs ns small are = all_from_among (IsNumberOf justs) ns (λ n among. (
    let (k, is, there) = (are.1 n).0 among in
    let less : k < length justs = members_below set (length justs) k small there in
    (omega (arith, is), omega (arith, is, less))))

-- What the trail of a round tells of its system.
use Rattle.std.proofs.Common.{◌≡◌, ℕ, ◌+◌, ◌<◌, ◌≤◌, ◌%◌, false, List, map, length, Option, Some, None, Result, Ok, Err, slice_get, refl, sym, ap, ◌∙◌, subst, inl, inr, ◌⊎◌, ◌↔◌, arith}
use Rattle.std.proofs.lemmas.Bool.{cases_eq}
use Rattle.std.proofs.lemmas.Option.{same_Some}
use Rattle.std.specs.List.{flat_map}
use Rattle.mcs_base.specs.Groups.{members}
use Rattle.mcs_base.specs.Listings.{IsInventory}
use Rattle.mcs_base.proofs.Placed.{sum_map}
use Rattle.mcs_base.proofs.Mapped.{none_mapped}
use Rattle.mcs_base.proofs.Booleans.{cases_same}
use Rattle.mcs_base.proofs.Bags.{IsOfGroup, inventory_by_weight, inventory_none, inventory_one, inventory_same, members_listed}
use Rattle.mcs_base.proofs.Sums.{sum_by-flat_map}
use Rattle.mcs_system.specs.Plain.{System}
use Rattle.mcs_system.specs.Levels.{IsCount}
use Rattle.mcs_import.proofs.CountLemmas.{count_is_one, counts_agree}
use Rattle.mcs_laws.specs.Examples.{one_reads_fact}
use Rattle.mcs_laws.proofs.Supplies.{questions_take_supplies}
use Rattle.mcs_states.specs.declared.halt.Halt.{Halt}
use Rattle.mcs_states.specs.declared.halt.Halt.TheVariants.{Memory, Spent}
use Rattle.mcs_node.specs.Rounds.{Stamp, Supplies, stamp}
use Rattle.mcs_node.specs.Letters.{stamp_of}
use Rattle.mcs_node.specs.Nodes.{NodeData}
use Rattle.mcs_node.proofs.ExampleLemmas.{example_needs_one_each}
use Rattle.mcs_node.proofs.ExistenceLemmas.{stamp_same}
use Rattle.mcs_mesh.specs.Players.{AreNodesOf, HaveFinished, IsPlayed}
use Rattle.mcs_mesh.specs.Rounds.{HasShown}
use Rattle.mcs_draw.specs.Seats.{ClosedData}
use Rattle.mcs_wire.specs.Ends.{SettledData}
use Rattle.mcs_crew.specs.Told.{HasEnded, IsDueAt, ShowsDone, ShowsSpent}
use Rattle.mcs_crew.specs.Trails.{IsMemory, IsNoTrail, IsTrail, IsWireOf, TrailData, alone, group_count, shared, trail_of}
use Rattle.mcs_crew.specs.declared.trail.Trail as code
use Rattle.mcs_crew.specs.Laws.{OneFactIsSpent, OneFactIsTold, OneLetterIsDue}

-- ---- how a round ended
pub has_ended : (m : System) (level budget : ℕ) (before after : List NodeData) (total : Result ℕ Halt) → IsPlayed m level budget before after total → HasEnded m level after total
has_ended m level budget before after (Ok total) played = (played.ends.0.count, played.ends.1)
has_ended m level budget before after (Err halt) played = tt

-- ---- stamps
stamp_cases : (x y : Stamp) → (x ≡ y) ⊎ (¬ (x ≡ y))
stamp_cases x y = elim (cases_eq x.level y.level) [
  | inr differ ↦ inr (λ e. differ (ap (λ (z : Stamp). z.level) e))
  | inl level ↦ elim (cases_eq x.from y.from) [
    | inr differ ↦ inr (λ e. differ (ap (λ (z : Stamp). z.from) e))
    | inl from ↦ elim (cases_eq x.to y.to) [
      | inr differ ↦ inr (λ e. differ (ap (λ (z : Stamp). z.to) e))
      | inl to ↦ elim (cases_same x.stop y.stop) [
        | inr differ ↦ inr (λ e. differ (ap (λ (z : Stamp). z.stop) e))
        | inl stop ↦ inl (stamp_same x y level from to stop)
      ]
    ]
  ]
]

-- the supply of the level to context i from one that supplies it
abbrev IsSupplyFor : System → ℕ → ℕ → Stamp → Type 0
IsSupplyFor m level i x = (j : ℕ) × Supplies m j i × (x ≡ stamp level j i false)

-- ---- the letters of a group
module _ (m : System) (level budget groups g : ℕ) (nodes : List NodeData) (own : AreNodesOf m budget nodes) (finished : HaveFinished level nodes) where
  -- the stamps that its nodes have had
  had_by_group : List Stamp
  had_by_group = flat_map (λ (d : NodeData). d.state.had) (members groups g 0 nodes)

  had_each : (i : ℕ) (d : NodeData) → slice_get nodes i ≡ Some d → IsInventory (IsSupplyFor m level (0 + i)) d.state.had
  had_each i d at =
      let same : i ≡ 0 + i = omega arith in
      subst (λ (k : ℕ). IsInventory (IsSupplyFor m level k) d.state.had) same
      (subst (λ (n : System). IsInventory (IsSupplyFor n level i) d.state.had) (own.each i d at).plan (finished i d at).had)

  due_same : (x : Stamp) → IsOfGroup (λ (d : NodeData). d.state.had) (IsSupplyFor m level) (λ (z : Stamp). z.to) (λ i z s. ap (λ (v : Stamp). v.to) s.2) groups g 0 (length nodes) x ↔ IsDueAt m level groups g x
  due_same x = (
    λ w. (let (i, from, below, at, s) = w in (s.0, i, s.1, at, s.2)),
    λ due. (let (j, i, supplies, at, is) = due in let below = supplies.2 in let many = own.one_each in (i, omega arith, omega (arith, below, many), at, (j, supplies, is))),
  )

  had_due : IsInventory (IsDueAt m level groups g) (flat_map (λ (d : NodeData). d.state.had) (members groups g 0 nodes))
  had_due =
      inventory_same (IsOfGroup (λ (d : NodeData). d.state.had) (IsSupplyFor m level) (λ (z : Stamp). z.to) (λ i z s. ap (λ (v : Stamp). v.to) s.2) groups g 0 (length nodes)) (IsDueAt m level groups g) (flat_map (λ (d : NodeData). d.state.had) (members groups g 0 nodes)) due_same
      (members_listed (λ (d : NodeData). d.state.had) (IsSupplyFor m level) (λ (z : Stamp). z.to) (λ i z s. ap (λ (v : Stamp). v.to) s.2) groups g 0 (length nodes) nodes (omega arith) had_each)

  got_due : (s : SettledData) → IsWireOf groups g nodes s → IsInventory (IsDueAt m level groups g) (map stamp_of s.got)
  got_due s wire =
      inventory_by_weight stamp_cases (IsDueAt m level groups g) (map stamp_of s.got) (flat_map (λ (d : NodeData). d.state.had) (members groups g 0 nodes))
      (λ weight. sum_map weight stamp_of s.got ∙ wire.got weight ∙ sym (sum_by-flat_map weight (λ (d : NodeData). d.state.had) (members groups g 0 nodes))) had_due

-- ---- what a trail tells
pub shows_done : (m : System) (level budget workers total : ℕ) (nodes : List NodeData) (t : TrailData) → AreNodesOf m budget nodes → 2 ≤ group_count workers (length nodes) → IsTrail m level workers nodes (Ok total) t → HasEnded m level nodes (Ok total)
    → ShowsDone m level (group_count workers (length nodes)) t
shows_done m level budget workers total nodes t own many (alone few empty) ended = absurd (omega (arith, many, few))
shows_done m level budget workers total nodes t own many (shared some shown) ended = record {
  wires = shown.wires;
  got = λ g s at. got_due m level budget (group_count workers (length nodes)) g nodes own ended.1 s (shown.each g s at);
  word = shown.word;
  word_is = shown.word_is;
  total = subst (λ (n : ℕ). IsCount m level n) (sym shown.total_is) ended.0;
}

pub shows_spent : (m : System) (level budget workers at drawn : ℕ) (nodes : List NodeData) (t : TrailData) → 2 ≤ group_count workers (length nodes) → budget < drawn → IsTrail m level workers nodes (Err (Spent at drawn)) t
    → ShowsSpent m level budget (group_count workers (length nodes)) t
shows_spent m level budget workers at drawn nodes t many over (alone few empty) = absurd (omega (arith, many, few))
shows_spent m level budget workers at drawn nodes t many over (shared some (inl empty)) = absurd empty.0
shows_spent m level budget workers at drawn nodes t many over (shared some (inr shown)) = record {
  wires = shown.wires;
  word = shown.word;
  word_is = shown.word_is;
  beyond = let within : drawn ≤ shown.word.total = shown.within in omega (arith, over, within);
  questions = shown.questions;
}

-- with fewer than two groups it tells nothing
pub shows_none : (m : System) (level workers : ℕ) (nodes : List NodeData) (total : Result ℕ Halt) (t : TrailData) → group_count workers (length nodes) < 2 → IsTrail m level workers nodes total t → IsNoTrail t
shows_none m level workers nodes total t few (alone less empty) = empty
shows_none m level workers nodes total t few (shared some shown) = absurd (omega (arith, few, some))

-- nor after want of memory
pub shows_no_memory : (m : System) (level workers : ℕ) (nodes : List NodeData) (t : TrailData) → IsTrail m level workers nodes (Err Memory) t → IsNoTrail t
shows_no_memory m level workers nodes t (alone few empty) = empty
shows_no_memory m level workers nodes t (shared some (inl empty)) = empty.1
shows_no_memory m level workers nodes t (shared some (inr shown)) = absurd (shown.no_memory tt)

-- ---- two contexts
pub one_letter_is_due : OneLetterIsDue
one_letter_is_due m level supplies only t shows s = (
  λ at. none_mapped stamp_of s.got (inventory_none (IsDueAt m level 2 0) (map stamp_of s.got) (λ x due. (
      let (j, i, su, group, is) = due in
      let second = (only j i su).1 in
      let odd : 1 ≡ 0 = subst (λ (k : ℕ). k % 2 ≡ 0) second group in
      omega (arith, odd))) (shows.got 0 s at)),
  λ at. inventory_one (IsDueAt m level 2 1) (stamp level 0 1 false) (map stamp_of s.got) (0, 1, supplies, refl, refl) (λ x due. (
      let (j, i, su, group, is) = due in
      let (first, second) = only j i su in
      is ∙ ap (λ (k : ℕ). stamp level k i false) first ∙ ap (λ (k : ℕ). stamp level 0 k false) second)) (shows.got 1 s at),
)

pub one_fact_is_told : OneFactIsTold
one_fact_is_told t shows =
    let two = example_needs_one_each 0 in (
      shows.wires.one_each,
      λ word is. (let same = same_Some shows.word word (sym shows.word_is ∙ is) in ap (λ (w : ClosedData). w.total) (sym same) ∙ count_is_one one_reads_fact 0 shows.word.total 2 shows.total questions_take_supplies.2),
      one_letter_is_due one_reads_fact 0 two.supplies two.alone t shows,
    )

pub one_fact_is_spent : OneFactIsSpent
one_fact_is_spent t shows = (
  shows.wires.one_each,
  λ word is. (
      let same = same_Some shows.word word (sym shows.word_is ∙ is) in
      let most = (counts_agree one_reads_fact 0 2 shows.word.total questions_take_supplies.2).0 shows.questions in
      let least = shows.beyond in
      let two : shows.word.total ≡ 2 = omega (arith, most, least) in
      ap (λ (w : ClosedData). w.total) (sym same) ∙ two),
)

-- ---- what an evaluation has shown of its last round
module _ (m : System) (level budget workers : ℕ) (nodes : List NodeData) where
  -- what its player leaves of a round
  abbrev pub Leaves : Result ℕ Halt → code.Trail → Type 0
  Leaves total trail = IsTrail m level workers nodes total (trail_of trail) × HasEnded m level nodes total

  pub last_done : AreNodesOf m budget nodes → 2 ≤ group_count workers (length nodes) → (shown : Option code.Trail) → HasShown Leaves None shown → (trail : code.Trail) × (shown ≡ Some trail) × ShowsDone m level (group_count workers (length nodes)) (trail_of trail)
  last_done own many shown (trail, is, Ok total, left, ends) = (trail, is, shows_done m level budget workers total nodes (trail_of trail) own many left.0 left.1)
  last_done own many shown (trail, is, Err halt, left, ends) = absurd ends

  pub last_spent : 2 ≤ group_count workers (length nodes) → (at drawn : ℕ) → budget < drawn → (shown : Option code.Trail) → HasShown Leaves (Some (Spent at drawn)) shown
      → (trail : code.Trail) × (shown ≡ Some trail) × ShowsSpent m level budget (group_count workers (length nodes)) (trail_of trail)
  last_spent many at drawn over shown (trail, is, Ok total, left, ends) = absurd (subst IsMemory (sym ends) tt)
  last_spent many at drawn over shown (trail, is, Err halt, left, ends) = (trail, is, shows_spent m level budget workers at drawn nodes (trail_of trail) many over (subst (λ (h : Halt). IsTrail m level workers nodes (Err h) (trail_of trail)) (sym ends) left.0))

  -- with fewer than two groups nothing, whatever the halt
  pub last_none : group_count workers (length nodes) < 2 → (halt : Option Halt) (shown : Option code.Trail) → HasShown Leaves halt shown → (trail : code.Trail) × (shown ≡ Some trail) × IsNoTrail (trail_of trail)
  last_none few halt shown (trail, is, total, left, ends) = (trail, is, shows_none m level workers nodes total (trail_of trail) few left.0)

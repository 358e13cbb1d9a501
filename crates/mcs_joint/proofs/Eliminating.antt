-- Eliminating one table after the other.
use Rattle.std.proofs.Common.{◌≡◌, ◌<◌, ◌≤◌, ◌+◌, ℕ, List, ◌∷◌, length, get_or, drop, refl, sym, ap, ◌∙◌, subst, arith}
use Rattle.std.proofs.lemmas.List.{get_or_default, drop_more, drop_all, get_or-drop, length-drop}
use Rattle.std.specs.List.{AllByRecursion}
use Rattle.mcs_base.specs.Listings.{IsAmong}
use Rattle.mcs_base.proofs.Among.{place_among}
use Rattle.mcs_base.proofs.Each.{all_from_among, all_among}
use Rattle.mcs_table.specs.Tables.{TableData, ShareNoMark, IsJoin, IsForgetting, unit_table}
use Rattle.mcs_table.specs.Elimination.{still_kept, EliminatesFrom, EliminatesTo}
use Rattle.mcs_table.proofs.JointLemmas.{join_apart, unit_apart}
use Rattle.mcs_table.proofs.EliminationLemmas.{forgetting_apart}
use Rattle.mcs_joint.specs.Apart.{EachApart}

-- what is left of the first k of the tables
pub record IsLeft (level : ℕ) (tables : List TableData) (k : ℕ) (left : TableData) : Type 0 where
  pub reaches : (t : TableData) → EliminatesFrom level 0 left (drop k tables) t → EliminatesTo level 0 tables t
  pub apart : AllByRecursion (λ (c : TableData). ShareNoMark left.rows c.rows) (drop k tables)

pub left_begin : (level : ℕ) (tables : List TableData) → IsLeft level tables 0 unit_table
left_begin level tables = record { reaches = λ t h. h; apart = all_from_among (λ (c : TableData). ShareNoMark unit_table.rows c.rows) tables (λ c among. unit_apart c) }

-- a table has no mark in common with a later one
pub later_apart : (tables : List TableData) (k : ℕ) (a : TableData) → k < length tables → a ≡ get_or tables k a → EachApart tables → (c : TableData) → IsAmong c (drop (k + 1) tables) → ShareNoMark a.rows c.rows
later_apart tables k a less here apart c among =
    let (j, less_j, at) = place_among (drop (k + 1) tables) c among in
    let long = length-drop (k + 1) tables in
    let there : get_or tables (k + 1 + j) unit_table ≡ c = sym (get_or-drop (k + 1) tables j unit_table) ∙ at unit_table in
    let here' : get_or tables k unit_table ≡ a = get_or_default tables k unit_table a less ∙ sym here in
    let two = apart.at k (k + 1 + j) less (omega arith) (λ e. omega (arith, e)) in
    subst (λ (t : TableData). ShareNoMark t.rows c.rows) here' (subst (λ (t : TableData). ShareNoMark (get_or tables k unit_table).rows t.rows) there two)

module _ (level : ℕ) (tables : List TableData) (k : ℕ) (left a : TableData) (less : k < length tables) (here : a ≡ get_or tables k a) (so_far : IsLeft level tables k left) where
  split : drop k tables ≡ a ∷ drop (k + 1) tables
  split = drop_more tables k a less ∙ ap (λ (t : TableData). t ∷ drop (k + 1) tables) (sym here)

  parts : ShareNoMark left.rows a.rows × AllByRecursion (λ (c : TableData). ShareNoMark left.rows c.rows) (drop (k + 1) tables)
  parts = subst (AllByRecursion (λ (c : TableData). ShareNoMark left.rows c.rows)) split so_far.apart

  pub next_apart : ShareNoMark left.rows a.rows
  next_apart = parts.0

  pub left_more : EachApart tables → (joined next : TableData) → IsJoin left a level joined → IsForgetting joined (still_kept 0 (drop (k + 1) tables)) next → IsLeft level tables (k + 1) next
  left_more apart joined next join forget = record {
    reaches = λ t h. so_far.reaches t (subst (λ ts. EliminatesFrom level 0 left ts t) (sym split) (joined, next, join, forget, h));
    apart = all_from_among (λ (c : TableData). ShareNoMark next.rows c.rows) (drop (k + 1) tables) (λ c among.
        forgetting_apart joined next c (still_kept 0 (drop (k + 1) tables)) forget (join_apart level left a joined c join (all_among (λ (t : TableData). ShareNoMark left.rows t.rows) (drop (k + 1) tables) c parts.1 among) (later_apart tables k a less here apart c among)));
  }

pub left_end : (level : ℕ) (tables : List TableData) (k : ℕ) (left : TableData) → length tables ≤ k → IsLeft level tables k left → EliminatesTo level 0 tables left
left_end level tables k left past so_far = so_far.reaches left (subst (λ ts. EliminatesFrom level 0 left ts left) (sym (drop_all k tables past)) refl)

-- The first state of joint rows, by settling one variable after the other.
use Rattle.std.proofs.Common.{◌≡◌, ◌<◌, ◌+◌, ℕ, Bool, true, false, true≢false, List, length, take, get_or, refl, sym, ◌∙◌, subst, inl, inr, ◌⊎◌, ◌↔◌, arith, map, Option, None, Some}
use Rattle.std.proofs.lemmas.Bool.{false_from_ne_true, cases_lt, cases_eq}
use Rattle.std.proofs.lemmas.Bool.Decides.{nat_tests}
use Rattle.std.specs.List.{AllByRecursion}
use Rattle.mcs_sets.specs.Orders.{StateBefore}
use Rattle.mcs_sets.specs.Sets.{has, single, union}
use Rattle.mcs_sets.proofs.SetLemmas.{has-empty, same_set, sets}
use Rattle.mcs_sets.proofs.Lattice.{in_with}
use Rattle.mcs_base.specs.Listings.{IsAmong}
use Rattle.mcs_base.specs.StateOrder.{StateBefore-total, StateBefore-transitive}
use Rattle.mcs_base.proofs.Among.{among_take_more, among_map, map_among}
use Rattle.mcs_table.specs.declared.row.Row.{Row}
use Rattle.mcs_table.specs.Tables.{TableData, IsTable}
use Rattle.mcs_table.specs.Joins.{IsJointRow}
use Rattle.mcs_joint.specs.Apart.{EachApart}
use Rattle.mcs_joint.specs.First.{IsFirst, TellsFirst, IsJointState, HaveJointRow, IsVariableSettled}
use Rattle.mcs_joint.specs.Reduced.{IsReduced}
use Rattle.mcs_table.proofs.PartLemmas.{joint_below}

-- a state has the variables below a bound that the set has
abbrev pub AgreesBelow : ℕ → ℕ → ℕ → Type 0
AgreesBelow bound s σ = (j : ℕ) → j < bound → has σ j ≡ has s j

-- The variables below the bound are settled: the joint rows that are left are those that agree with what is true so far, and the others come after them.
pub record AreSettled (level bound first : ℕ) (before after : List TableData) : Type 0 where
  pub tables : AllByRecursion IsTable after
  pub apart : EachApart after
  pub some : HaveJointRow level after
  pub joint : (r : Row) → IsJointRow level after r ↔ (IsJointRow level before r × AgreesBelow bound first r.state.values)
  pub below : (j : ℕ) → has first j ≡ true → j < bound
  pub least : (r : Row) → IsJointRow level before r → AgreesBelow bound first r.state.values ⊎ StateBefore first r.state.values

pub settled_begin : (level : ℕ) (ts : List TableData) → AllByRecursion IsTable ts → EachApart ts → HaveJointRow level ts → AreSettled level 0 0 ts ts
settled_begin level ts are apart some = record {
  tables = are;
  apart = apart;
  some = some;
  joint = λ r. (λ joint. (joint, λ j less. absurd (omega arith)), λ h. h.0);
  below = λ j h. absurd (true≢false (sym h ∙ has-empty j));
  least = λ r joint. inl (λ j less. absurd (omega arith));
}

-- one more variable, which is true or false
module _ (level v first first' : ℕ) (holds : Bool) (ts us vs : List TableData) (so_far : AreSettled level v first ts us) (one : IsVariableSettled level v holds us vs) (same : (j : ℕ) → j < v → has first' j ≡ has first j) (here : has first' v ≡ holds) (above : (j : ℕ) → has first' j ≡ true → j < v + 1) where
  agrees_more : (σ : ℕ) → AgreesBelow v first σ → has σ v ≡ holds → AgreesBelow (v + 1) first' σ
  agrees_more σ agrees is j less = elim (cases_eq j v) [
    | inl e ↦ subst (λ (k : ℕ). has σ k ≡ has first' k) (sym e) (is ∙ sym here)
    | inr differ ↦ agrees j (omega arith) ∙ sym (same j (omega arith))
  ]

  agrees_fewer : (σ : ℕ) → AgreesBelow (v + 1) first' σ → AgreesBelow v first σ × (has σ v ≡ holds)
  agrees_fewer σ agrees = (λ j less. agrees j (omega arith) ∙ same j less, agrees v (omega arith) ∙ here)

  some_more : (b : Bool) → holds ≡ b → HaveJointRow level vs
  some_more true e = one.some e
  some_more false e = let (r, joint) = so_far.some in (r, (one.joint r).1 (joint, one.all e r joint ∙ sym e))

  -- where it is true, a joint row that lacks it comes after
  least_more : (r : Row) → IsJointRow level ts r → (b : Bool) → holds ≡ b → (c : Bool) → has r.state.values v ≡ c → AgreesBelow v first r.state.values ⊎ StateBefore first r.state.values → AgreesBelow (v + 1) first' r.state.values ⊎ StateBefore first' r.state.values
  least_more r joint b e c e' (inr before) =
      let less : before.at < v = so_far.below before.at before.in_first in
      inr (record {
        at = before.at;
        in_first = same before.at less ∙ before.in_first;
        not_in_second = before.not_in_second;
        same_below = λ j low. same j (omega arith) ∙ before.same_below j low;
      })
  least_more r joint true e true e' (inl agrees) = inl (agrees_more r.state.values agrees (e' ∙ sym e))
  least_more r joint false e false e' (inl agrees) = inl (agrees_more r.state.values agrees (e' ∙ sym e))
  least_more r joint true e false e' (inl agrees) = inr (record { at = v; in_first = here ∙ e; not_in_second = e'; same_below = λ j low. same j low ∙ sym (agrees j low) })
  least_more r joint false e true e' (inl agrees) = absurd (true≢false (sym e' ∙ one.all e r ((so_far.joint r).1 (joint, agrees))))

  settled_step : AreSettled level (v + 1) first' ts vs
  settled_step = record {
    tables = one.tables;
    apart = one.apart;
    some = some_more holds refl;
    joint = λ r. (
      λ j. let (before, is) = (one.joint r).0 j in let (start, agrees) = (so_far.joint r).0 before in (start, agrees_more r.state.values agrees is),
      λ h. let (agrees, is) = agrees_fewer r.state.values h.1 in (one.joint r).1 ((so_far.joint r).1 (h.0, agrees), is),
    );
    below = above;
    least = λ r joint. least_more r joint holds refl (has r.state.values v) refl (so_far.least r joint);
  }

module _ (level v first : ℕ) (ts us vs : List TableData) (so_far : AreSettled level v first ts us) where
  lacks : has first v ≡ false
  lacks = false_from_ne_true _ (λ is. let less = so_far.below v is in omega arith)

  pub settled_false : IsVariableSettled level v false us vs → AreSettled level (v + 1) first ts vs
  settled_false one = settled_step level v first first false ts us vs so_far one (λ j less. refl) lacks (λ j is. let less = so_far.below j is in omega arith)

  pub settled_true : IsVariableSettled level v true us vs → AreSettled level (v + 1) (union first (single v)) ts vs
  settled_true one = settled_step level v first (union first (single v)) true ts us vs so_far one
      (λ j less. grind (arith, sets, nat_tests))
      ((in_with first v v).1 (inr refl))
      (λ j is. elim ((in_with first v j).0 is) [ inl old ↦ (let less = so_far.below j old in omega arith) | inr e ↦ omega arith ])

-- ---- in the end
module _ (level first : ℕ) (ts us : List TableData) (are : AllByRecursion IsTable ts) (all : AreSettled level 64 first ts us) where
  is_first : (r : Row) → IsJointRow level ts r → AgreesBelow 64 first r.state.values → r.state.values ≡ first
  is_first r joint agrees = same_set _ _ (λ j. elim (cases_lt j 64) [
    | inl less ↦ agrees j less
    | inr past ↦ false_from_ne_true _ (λ is. let less = joint_below level ts are r joint j is in omega arith) ∙ sym (false_from_ne_true _ (λ is. let less = all.below j is in omega arith))
  ])

  pub settled_end : IsFirst (IsJointState level ts) first
  settled_end = record {
    one = let (r, left) = all.some in let (joint, agrees) = (all.joint r).0 left in (r, joint, is_first r joint agrees);
    first = λ τ (r, joint, e). elim (all.least r joint) [
      | inl agrees ↦ inl (sym (is_first r joint agrees) ∙ e)
      | inr before ↦ inr (subst (StateBefore first) e before)
    ];
  }

-- ---- the same states
pub first_same : (P Q : ℕ → Type 0) → ((σ : ℕ) → P σ ↔ Q σ) → (told : Option ℕ) → TellsFirst P told → TellsFirst Q told
first_same P Q same None none = λ σ q. none σ ((same σ).1 q)
first_same P Q same (Some σ) first = record { one = (same σ).0 first.one; first = λ τ q. first.first τ ((same τ).1 q) }

-- ---- the least of a list
-- least is no later than any of the list
abbrev pub IsNoLater : ℕ → List ℕ → Type 0
IsNoLater least xs = (τ : ℕ) → IsAmong τ xs → (least ≡ τ) ⊎ StateBefore least τ

module _ (xs : List ℕ) (i least x : ℕ) (less : i < length xs) (here : x ≡ get_or xs i x) (so_far : IsNoLater least (take i xs)) where
  pub least_kept : ¬ StateBefore x least → IsNoLater least (take (i + 1) xs)
  least_kept not τ among = elim ((among_take_more xs i x less here τ).0 among) [
    | inl before ↦ so_far τ before
    | inr e ↦ elim (StateBefore-total least x) [
      | inl same ↦ inl (same ∙ sym e)
      | inr (inl sooner) ↦ inr (subst (StateBefore least) (sym e) sooner)
      | inr (inr later) ↦ absurd (not later)
    ]
  ]

  pub least_taken : StateBefore x least → IsNoLater x (take (i + 1) xs)
  least_taken sooner τ among = elim ((among_take_more xs i x less here τ).0 among) [
    | inl before ↦ elim (so_far τ before) [
      | inl same ↦ inr (subst (StateBefore x) same sooner)
      | inr later ↦ inr (StateBefore-transitive x least τ sooner later)
    ]
    | inr e ↦ inl (sym e)
  ]

-- ---- the states of joint rows
pub states_reduced : (level : ℕ) (ts us : List TableData) → IsReduced level ts us → (σ : ℕ) → IsJointState level us σ ↔ IsJointState level ts σ
states_reduced level ts us reduced σ = (λ (r, joint, e). (r, (reduced.joint r).1 joint, e), λ (r, joint, e). (r, (reduced.joint r).0 joint, e))

pub states_united : (level : ℕ) (ts : List TableData) (rows : List Row) (states : List ℕ) → ((r : Row) → IsAmong r rows ↔ IsJointRow level ts r) → states ≡ map (λ (r : Row). r.state.values) rows → (σ : ℕ) → IsAmong σ states ↔ IsJointState level ts σ
states_united level ts rows states joint is σ =
    let values = λ (r : Row). r.state.values in (
      λ among. let (r, there, e) = map_among values σ rows (subst (IsAmong σ) is among) in (r, (joint r).0 there, sym e),
      λ (r, j, e). subst (IsAmong σ) (sym is) (subst (λ (τ : ℕ). IsAmong τ (map values rows)) e (among_map values r rows ((joint r).1 j))),
    )

-- Trees, whatever their leaves are.
use Rattle.std.proofs.Common.{◌≡◌, Bool, not, refl, ap, ap₂}
use Rattle.std.specs.List.{AllByRecursion}
use Rattle.mcs_base.proofs.Each.{all_append, all_left, all_right}
use Rattle.mcs_system.specs.Trees.{Tree, Truth, Falsity, Atom, Not, Joined, joined_value, value, leaves, AllLeaves}

module _ {A : Type 0} where
  -- each leaf is as it should be where each of the list of leaves is
  pub leaves_all : (P : A → Type 0) (t : Tree A) → AllLeaves P t → AllByRecursion P (leaves t)
  leaves_all P Truth all = tt
  leaves_all P Falsity all = tt
  leaves_all P (Atom x) all = (all, tt)
  leaves_all P (Not t) all = leaves_all P t all
  leaves_all P (Joined c t u) all = all_append P (leaves t) (leaves u) (leaves_all P t all.0) (leaves_all P u all.1)

  pub all_leaves : (P : A → Type 0) (t : Tree A) → AllByRecursion P (leaves t) → AllLeaves P t
  all_leaves P Truth all = tt
  all_leaves P Falsity all = tt
  all_leaves P (Atom x) all = all.0
  all_leaves P (Not t) all = all_leaves P t all
  all_leaves P (Joined c t u) all = (all_leaves P t (all_left P (leaves t) (leaves u) all), all_leaves P u (all_right P (leaves t) (leaves u) all))

  pub leaves_weaker : (P Q : A → Type 0) → ((x : A) → P x → Q x) → (t : Tree A) → AllLeaves P t → AllLeaves Q t
  leaves_weaker P Q weaker Truth all = tt
  leaves_weaker P Q weaker Falsity all = tt
  leaves_weaker P Q weaker (Atom x) all = weaker x all
  leaves_weaker P Q weaker (Not t) all = leaves_weaker P Q weaker t all
  leaves_weaker P Q weaker (Joined c t u) all = (leaves_weaker P Q weaker t all.0, leaves_weaker P Q weaker u all.1)

  -- leaves of one value make trees of one value
  pub same_value : (p q : A → Bool) (t : Tree A) → AllLeaves (λ x. p x ≡ q x) t → value p t ≡ value q t
  same_value p q Truth same = refl
  same_value p q Falsity same = refl
  same_value p q (Atom x) same = same
  same_value p q (Not t) same = ap not (same_value p q t same)
  same_value p q (Joined c t u) same = ap₂ (joined_value c) (same_value p q t same.0) (same_value p q u same.1)

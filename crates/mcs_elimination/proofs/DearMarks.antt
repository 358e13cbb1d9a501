-- The marks that alone cost so much or more.
use Rattle.std.proofs.Common.{◌≡◌, ℕ, ◌<◌, ◌≤◌, Bool, true, false, cond, List, [], ◌∷◌, map, filter, Some, None, ◌++◌, leb, le-leb, leb-true, refl, sym, ap, ◌∙◌, subst, arith, ◌↔◌}
use Rattle.std.proofs.lemmas.Bool.Decides.{nat_tests}
use Rattle.std.proofs.lemmas.List.{append-nil, append_assoc}
use Rattle.mcs_sets.specs.Sets.{members, single}
use Rattle.mcs_sets.proofs.Lattice.{has-single_itself, only_member}
use Rattle.mcs_base.specs.Listings.{IsAmong, IsInventory}
use Rattle.mcs_base.proofs.Among.{among_filter, filter_among, among_map, map_among}
use Rattle.mcs_base.proofs.Each.{all_from_among}
use Rattle.mcs_base.proofs.Distinct.{ascending_distinct, distinct_filter, distinct_map}
use Rattle.mcs_base.proofs.ListingLemmas.{members_listing}
use Rattle.mcs_system.specs.Plain.{System}
use Rattle.mcs_system.specs.Repairs.{allowed_marks}
use Rattle.mcs_costs.specs.Costs.{cost}
use Rattle.mcs_elimination.specs.Eliminating.{IsDearMark, AreDear, AreDearMarks}
use Rattle.mcs_elimination.proofs.Settling.{none_dear, reaching_dear}

-- whether a mark alone costs so much
abbrev pub is_dear : System → ℕ → ℕ → Bool
is_dear m price k = leb price (cost m (single k))

abbrev pub dear_of : System → ℕ → List ℕ → List ℕ
dear_of m price marks = map single (filter (is_dear m price) marks)

-- ---- the marks one after the other
dear_more : (m : System) (price k : ℕ) (ks : List ℕ) (b : Bool) → is_dear m price k ≡ b → dear_of m price (k ∷ ks) ≡ cond b (single k ∷ dear_of m price ks) (dear_of m price ks)
dear_more m price k ks true is = rw is refl
dear_more m price k ks false is = rw is refl

pub skipped : (m : System) (price k s : ℕ) (left ks sets all : List ℕ) → left ≡ k ∷ ks → s ≡ single k → cost m s < price → sets ++ dear_of m price left ≡ all → sets ++ dear_of m price ks ≡ all
skipped m price k s left ks sets all step alone less sofar =
    let cheap : is_dear m price k ≡ false = (let below : cost m (single k) < price = subst (λ (x : ℕ). cost m x < price) alone less in grind (arith, nat_tests)) in
    ap (λ (l : List ℕ). sets ++ l) (sym (ap (dear_of m price) step ∙ dear_more m price k ks false cheap)) ∙ sofar

pub pushed : (m : System) (price k s : ℕ) (left ks sets all : List ℕ) → left ≡ k ∷ ks → s ≡ single k → price ≤ cost m s → sets ++ dear_of m price left ≡ all → (sets ++ s ∷ []) ++ dear_of m price ks ≡ all
pushed m price k s left ks sets all step alone reached sofar =
    let dear : is_dear m price k ≡ true = le-leb price (cost m (single k)) (subst (λ (x : ℕ). price ≤ cost m x) alone reached) in
    append_assoc sets (s ∷ []) (dear_of m price ks) ∙ ap (λ (x : ℕ). sets ++ x ∷ dear_of m price ks) alone ∙ ap (λ (l : List ℕ). sets ++ l) (sym (ap (dear_of m price) step ∙ dear_more m price k ks true dear)) ∙ sofar

-- ---- exactly those
dear_exact : (m : System) (price s : ℕ) → IsAmong s (dear_of m price (members (allowed_marks m))) ↔ IsDearMark m price s
dear_exact m price s = (
  λ h.
      let (k, among, is) = map_among single s (filter (is_dear m price) (members (allowed_marks m))) h in
      let (allowed, dear) = filter_among (is_dear m price) k (members (allowed_marks m)) among in
      (k, ((members_listing (allowed_marks m)).exactly k).0 allowed, is, subst (λ (x : ℕ). price ≤ cost m x) (sym is) (leb-true price (cost m (single k)) dear)),
  λ h.
      let (k, allowed, is, reached) = h in
      let dear = le-leb price (cost m (single k)) (subst (λ (x : ℕ). price ≤ cost m x) is reached) in
      subst (λ (x : ℕ). IsAmong x (dear_of m price (members (allowed_marks m)))) (sym is) (among_map single k (filter (is_dear m price) (members (allowed_marks m))) (among_filter (is_dear m price) k (members (allowed_marks m)) (((members_listing (allowed_marks m)).exactly k).1 allowed) dear)),
)

pub dear_inventory : (m : System) (price : ℕ) → IsInventory (IsDearMark m price) (dear_of m price (members (allowed_marks m)))
dear_inventory m price = record {
  exactly = dear_exact m price;
  apart = distinct_map single (filter (is_dear m price) (members (allowed_marks m))) (λ x y _ _ same. only_member (single x) y same x (has-single_itself x)) (distinct_filter (is_dear m price) (members (allowed_marks m)) (ascending_distinct (members (allowed_marks m)) (members_listing (allowed_marks m)).ascending));
}

-- the loop at its end
pub all_dear : (m : System) (price : ℕ) (left sets : List ℕ) → left ≡ [] → sets ++ dear_of m price left ≡ dear_of m price (members (allowed_marks m)) → IsInventory (IsDearMark m price) sets
all_dear m price left sets done sofar = subst (IsInventory (IsDearMark m price)) (sym (sym (append-nil sets) ∙ ap (λ (l : List ℕ). sets ++ dear_of m price l) (sym done) ∙ sofar)) (dear_inventory m price)

-- ---- what the bound tells of them
pub dear_marks_are_dear : (m : System) (level : ℕ) (sets : List ℕ) → AreDearMarks m level sets → AreDear m level sets
dear_marks_are_dear m level sets (None, is, none) = subst (AreDear m level) (sym none) (none_dear m level)
dear_marks_are_dear m level sets (Some bound, is, all) = reaching_dear m level bound sets is (all_from_among (λ s. bound ≤ cost m s) sets (λ s among. ((all.exactly s).0 among).3))

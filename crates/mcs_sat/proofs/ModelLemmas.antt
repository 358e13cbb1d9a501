-- What is true of all variables and of all clauses.
use Rattle.std.proofs.Common.{◌≡◌, ℕ, ◌+◌, ◌<◌, ◌≤◌, zero, suc, List, [], ◌∷◌, ◌++◌, ◌↔◌, inl, inr, refl, sym, ap, ◌∙◌, subst, arith, ℤ, pos, negsuc, neg_ℤ, unsigned_abs, length, get_or, Bool, true, false, not, IsTrue, true≢false, ◌||◌, ◌&&◌}
use Rattle.std.specs.List.{AllByRecursion}
use Rattle.std.proofs.lemmas.Bool.{cases_lt}
use Rattle.std.proofs.lemmas.List.{get_or_append_left, get_or_push}
use Rattle.mcs_base.specs.Listings.{IsAmong}
use Rattle.mcs_trace.specs.Clauses.{IsWithin, literal_holds, clause_holds, all_hold}
use Rattle.mcs_sat.specs.Answers.{assignment_of}
use Rattle.mcs_engine.specs.declared.trail.Entry.{Entry}
use Rattle.mcs_engine.specs.Trails.{ArePlaced, IsOn, IsClauseSatisfied}
use Rattle.mcs_engine.proofs.TrailLemmas.{not_both_on}

-- ---- the model
pub model-more : (es : List Entry) (model new : List Bool) (v : ℕ) (b : Bool) → length model + 1 ≡ v → new ≡ model ++ b ∷ [] → (IsTrue b ↔ IsOn es (pos v))
    → ((w : ℕ) → 0 < w → w < v → (IsTrue (assignment_of model w) ↔ IsOn es (pos w)))
    → (w : ℕ) → 0 < w → w < v + 1 → (IsTrue (assignment_of new w) ↔ IsOn es (pos w))
model-more es model new v b size e here h zero some less = absurd (omega arith)
model-more es model new v b size e here h (suc n) some less = elim (cases_lt n (length model)) [
  | inl old ↦
      let same : get_or new n false ≡ get_or model n false = ap (λ (xs : List Bool). get_or xs n false) e ∙ get_or_append_left model (b ∷ []) false n old in
      subst (λ (x : Bool). IsTrue x ↔ IsOn es (pos (suc n))) (sym same) (h (suc n) some (omega arith))
  | inr past ↦
      let at : length model ≡ n = omega arith in
      let v-is : v ≡ suc n = omega arith in
      let same : get_or new n false ≡ b = ap (λ (xs : List Bool). get_or xs n false) e ∙ get_or_push model b false n at in
      subst (λ (x : Bool). IsTrue x ↔ IsOn es (pos (suc n))) (sym same) (subst (λ (w : ℕ). IsTrue b ↔ IsOn es (pos w)) v-is here)
]

module _ (es : List Entry) (ps : List ℕ) (v : ℕ → Bool) (n : ℕ) (placed : ArePlaced es ps) (values : (w : ℕ) → 0 < w → w < n + 1 → (IsTrue (v w) ↔ IsOn es (pos w))) where
  literal-on : (k : ℤ) → unsigned_abs k ≤ n → IsOn es k → literal_holds v k ≡ true
  literal-on (pos m) within (p, less, e) =
      let literal = (placed p less).0 in
      let some : 0 < m = subst (λ (l : ℤ). 0 < unsigned_abs l) e literal.0 in
      let within' : m ≤ n = within in
      (values m some (omega arith)).1 (p, less, e)
  literal-on (negsuc m) within on =
      let size : unsigned_abs (negsuc m) ≡ m + 1 = omega arith in
      negated (v (m + 1)) (values (m + 1) (omega arith) (omega arith)) on
    where
      neg-is : neg_ℤ (pos (m + 1)) ≡ negsuc m
      neg-is = let s : m + 1 ≡ suc m = omega arith in ap (λ k. neg_ℤ (pos k)) s

      negated : (b : Bool) → IsTrue b ↔ IsOn es (pos (m + 1)) → IsOn es (negsuc m) → not b ≡ true
      negated false same on = refl
      negated true same on = absurd (not_both_on es ps (pos (m + 1)) placed (same.0 refl) (subst (IsOn es) (sym neg-is) on))

  clause-on : (c : List ℤ) (k : ℤ) → IsWithin n c → IsAmong k c → IsOn es k → clause_holds v c ≡ true
  clause-on [] k within among on = absurd among
  clause-on (l ∷ c) k within (inl e) on = first (literal_holds v l) (clause_holds v c) (ap (literal_holds v) (sym e) ∙ literal-on k (subst (λ (j : ℤ). unsigned_abs j ≤ n) (sym e) within.0) on)
    where
      first : (a b : Bool) → a ≡ true → (a || b) ≡ true
      first true b e = refl
      first false b e = absurd (true≢false (sym e))
  clause-on (l ∷ c) k within (inr among) on = later (literal_holds v l) (clause_holds v c) (clause-on c k within.1 among on)
    where
      later : (a b : Bool) → b ≡ true → (a || b) ≡ true
      later true b e = refl
      later false b e = e

  pub all-on : (cs : List (List ℤ)) → AllByRecursion (IsWithin n) cs → AllByRecursion (IsClauseSatisfied es) cs → IsTrue (all_hold v cs)
  all-on [] within all = refl
  all-on (c ∷ cs) (here, there) ((k, among, on), rest) = both (clause_holds v c) (all_hold v cs) (clause-on c k here among on) (all-on cs there rest)
    where
      both : (a b : Bool) → a ≡ true → b ≡ true → (a && b) ≡ true
      both true b e e' = e'
      both false b e e' = absurd (true≢false (sym e))

-- Heads of rules and beliefs of variables, gathered one by one.
use Rattle.std.proofs.Common.{◌≡◌, ℕ, ◌+◌, ◌<◌, Bor, map, length, get_or, slice_get, true, false, ◌&&◌, nat_eq, List, [], ◌∷◌, ◌++◌, Some, sym, ap, ◌∙◌, arith}
use Rattle.std.proofs.lemmas.List.{length-map}
use Rattle.std.specs.List.{AllByRecursion}
use Rattle.mcs_sets.specs.Sets.{has, members}
use Rattle.mcs_sets.proofs.SetLemmas.{members_below}
use Rattle.mcs_base.proofs.ListingLemmas.{members_listing}
use Rattle.mcs_base.proofs.Each.{all_from_among}
use Rattle.mcs_system.specs.Plain.{Formula, Bridge, System}
use Rattle.mcs_system.specs.Seen.{formula_of, read_of, context_of}
use Rattle.mcs_system.specs.Systems.{variables, variables_of, heads_from}
use Rattle.mcs_system.specs.Views.{belief_of, belief_at}
use Rattle.mcs_system.specs.declared.formula.Formula as code
use Rattle.mcs_system.specs.declared.bridge.Read as read
use Rattle.mcs_system.specs.declared.knowledge.Context as context
use Rattle.mcs_system.proofs.ContextSets.{variables_of-lt}
use Rattle.mcs_system.proofs.SeenLemmas.{slice_get-map}

-- ---- formulas that are lent
-- one more, of those that were still to come the first
pub lent_more : (old now : List (Bor code.Formula)) (f : Bor code.Formula) (g : Formula) (rest : List Formula) → now ≡ old ++ f ∷ [] → formula_of f.now ≡ g → map (λ f. formula_of f.now) now ++ rest ≡ map (λ f. formula_of f.now) old ++ g ∷ rest
lent_more old now f g rest pushed same = ap (λ fs. map (λ f. formula_of f.now) fs ++ rest) pushed ∙ go old
  where
    go : (old : List (Bor code.Formula)) → map (λ f. formula_of f.now) (old ++ f ∷ []) ++ rest ≡ map (λ f. formula_of f.now) old ++ g ∷ rest
    go [] = ap (λ h. h ∷ rest) same
    go (e ∷ es) = ap (λ hs. formula_of e.now ∷ hs) (go es)

-- ---- the heads of rules
module _ (k : ℕ) (b : Bridge) (bs : List Bridge) (i x : ℕ) where
  -- the head of a rule that is taken goes into the context
  pub head_taken : (old now : List (Bor code.Formula)) (f : Bor code.Formula) (all : List Formula) → has x k ≡ true → nat_eq b.target i ≡ true → now ≡ old ++ f ∷ [] → formula_of f.now ≡ b.head
      → map (λ f. formula_of f.now) old ++ heads_from k (b ∷ bs) i x ≡ all → map (λ f. formula_of f.now) now ++ heads_from (k + 1) bs i x ≡ all
  head_taken old now f all on own pushed same is = lent_more old now f b.head (heads_from (k + 1) bs i x) pushed same ∙ rw (on, own) at is

  pub head_passed : (old all : List Formula) → (has x k && nat_eq b.target i) ≡ false → old ++ heads_from k (b ∷ bs) i x ≡ all → old ++ heads_from (k + 1) bs i x ≡ all
  head_passed old all off is = rw off at is

-- ---- the beliefs of variables
pub lent_belief : (m : System) (reads : List read.Read) (v : ℕ) (r : read.Read) → map read_of reads ≡ variables m → v < length reads → formula_of (get_or reads v r).belief ≡ belief_at m v
lent_belief m reads v r all less =
    let there : slice_get (variables m) v ≡ Some (read_of (get_or reads v r)) = ap (λ rs. slice_get rs v) (sym all) ∙ slice_get-map read_of reads v r less in
    sym (ap belief_of there)

-- the variables of a context are among the system's
pub variables_known : (m : System) (i : ℕ) → AllByRecursion (λ v. v < length (variables m)) (members (variables_of m i))
variables_known m i = all_from_among (λ v. v < length (variables m)) (members (variables_of m i)) (λ v among. members_below (variables_of m i) (length (variables m)) v (variables_of-lt m i) (((members_listing (variables_of m i)).exactly v).0 among))

-- ---- the context that is asked
pub context_there : (m : System) (cs : List context.Context) (i : ℕ) (d : context.Context) → map context_of cs ≡ m.contexts → i < length m.contexts → slice_get m.contexts i ≡ Some (context_of (get_or cs i d))
context_there m cs i d all less = ap (λ xs. slice_get xs i) (sym all) ∙ slice_get-map context_of cs i d (omega (arith, ap length all, length-map cs context_of))

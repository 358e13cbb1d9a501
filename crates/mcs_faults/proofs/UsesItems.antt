-- How many items and defaults a text's tokens begin, told by its contexts.
use Rattle.std.proofs.Common.{◌≡◌, ℕ, ◌+◌, Bool, false, cond, codes, List, [], ◌∷◌, ◌++◌, map, refl, sym, ap, ◌∙◌, arith}
use Rattle.std.specs.Prelude.{count_by}
use Rattle.std.specs.List.{flat_map, sum_by}
use Rattle.std.proofs.lemmas.List.{length-map}
use Rattle.std.proofs.lemmas.List.Folds.{fold-map}
use Rattle.std.proofs.lemmas.List.Sums.{sum_by-cons}
use Rattle.mcs_base.specs.Listings.{IsAmong}
use Rattle.mcs_base.proofs.Sums.{count_by-cons, count_by-append, sum_by_same, sum_by_none, sum_by-ones, sum_by-cond, count_by-flat_map}
use Rattle.mcs_base.proofs.Each.{all_among}
use Rattle.mcs_system.specs.Plain.{Name, Kind}
use Rattle.mcs_system.specs.Logic.{same_name}
use Rattle.mcs_system.specs.Faults.{default_count, item_count}
use Rattle.mcs_grammar.specs.Written.{WrittenOf, IsWrittenIn, WrittenKb, OfKind, IsKb, WrittenContext, IsContext, WrittenBridge, WrittenText, IsText}
use Rattle.mcs_grammar.specs.Entries.{Use, SaysProgram, BeginsItem, Entry, entry, with_first, ended, entries_in, kind_uses, kb_entries, uses_of}
use Rattle.mcs_grammar.specs.Saying.{said_in, kb_in}
use Rattle.mcs_grammar.specs.Faults.{begins_default_of, begins_item_of}
use Rattle.mcs_account.proofs.UsesParts.{text_uses, sum_of}
use Rattle.mcs_account.proofs.EntryLists.{uses-flat_map, uses-end, uses-first}
use Rattle.mcs_faults.proofs.UsesCounts.{text-count, context-parts, bridge-parts}
use Rattle.mcs_account.specs.Reading.{HasSome}
use Rattle.mcs_account.proofs.Courses.{zero-add}
use Rattle.mcs_faults.proofs.ItemCounts.{default-no-formula, default-no-read, item-no-formula, item-no-read}
use Rattle.mcs_faults.proofs.KindItems.{word-none, default_in, defaults-of, parts-in, has-in}

-- ---- the items of a context, each with its period
module _ (p : Use → Bool) (n : Name) where
  ended-count : (ms : List Entry) → HasSome ms → count_by p (uses_of (ended n ms)) ≡ cond (p (BeginsItem n)) 1 0 + count_by p (uses_of ms)
  ended-count ms h =
      let whole = ap (count_by p) (uses-end (with_first (BeginsItem n ∷ []) ms) (entry (codes ".") []) refl ∙ uses-first (BeginsItem n ∷ []) ms h) in
      let step = count_by-cons p (BeginsItem n) (uses_of ms) in
      omega arith

  items-count : {A : Type 0} (f : A → List Entry) (w : A → ℕ) (xs : List A) → ((x : A) → IsAmong x xs → count_by p (uses_of (ended n (f x))) ≡ w x) → count_by p (uses_of (flat_map (λ x. ended n (f x)) xs ++ entry (codes "}") [] ∷ [])) ≡ sum_by w xs
  items-count {A} f w xs each =
      ap (count_by p) (uses-end (flat_map (λ x. ended n (f x)) xs) (entry (codes "}") []) refl ∙ uses-flat_map (λ x. ended n (f x)) xs)
      ∙ count_by-flat_map p (λ (x : A). uses_of (ended n (f x))) xs
      ∙ sum_by_same (λ (x : A). count_by p (uses_of (ended n (f x)))) w xs each

  -- where the first token's use is not counted
  ended-none : (ms : List Entry) → p (BeginsItem n) ≡ false → count_by p (uses_of (ended n ms)) ≡ count_by p (uses_of ms)
  ended-none [] e = refl
  ended-none (m ∷ ms) e = ended-count (m ∷ ms) tt ∙ rw e (zero-add (count_by p (uses_of (m ∷ ms))))

  -- the word of the kind, and then the items
  kb-count : (k : Kind) (items : List (WrittenOf k)) (w : WrittenOf k → ℕ) → p (SaysProgram n) ≡ false → ((i : WrittenOf k) → IsAmong i items → count_by p (uses_of (ended n (entries_in k n i))) ≡ w i)
      → count_by p (uses_of (kb_entries n (OfKind k items))) ≡ sum_by w items
  kb-count k items w e each =
      let rest : List Entry = flat_map (λ i. ended n (entries_in k n i)) items ++ entry (codes "}") [] ∷ [] in
      let all = count_by-append p (kind_uses k n) (uses_of rest) in
      let word = word-none p k n e in
      let counted = items-count (entries_in k n) w items each in
      omega arith

-- ---- defaults
kb-defaults : (c n : Name) (kb : WrittenKb) → count_by (begins_default_of c) (uses_of (kb_entries n kb)) ≡ cond (same_name c n) (default_count (kb_in kb)) 0
kb-defaults c n (OfKind k items) =
    kb-count (begins_default_of c) n k items (λ i. cond (same_name c n) (default_in k (said_in k i)) 0) refl (λ i here. ended-none (begins_default_of c) n (entries_in k n i) refl ∙ parts-in (begins_default_of c) k n i (default-no-formula c))
    ∙ sum_by-cond (same_name c n) (λ i. default_in k (said_in k i)) items
    ∙ ap (λ (m : ℕ). cond (same_name c n) m 0) (sym (defaults-of k (map (said_in k) items) ∙ fold-map (λ m i. m + default_in k i) (said_in k) 0 items))

-- ---- items
-- each counts once
kb-items : (c n : Name) (kb : WrittenKb) → IsKb kb → count_by (begins_item_of c) (uses_of (kb_entries n kb)) ≡ cond (same_name c n) (item_count (kb_in kb)) 0
kb-items c n (OfKind k items) h =
    kb-count (begins_item_of c) n k items (λ i. cond (same_name c n) 1 0) refl (λ i here.
    let all = ended-count (begins_item_of c) n (entries_in k n i) (has-in k n i (all_among (IsWrittenIn k) items i h here)) in
    let none : count_by (begins_item_of c) (uses_of (entries_in k n i)) ≡ 0 = parts-in (begins_item_of c) k n i (item-no-formula c) in
    omega arith)
    ∙ sum_by-cond (same_name c n) (λ i. 1) items
    ∙ ap (λ (m : ℕ). cond (same_name c n) m 0) (sum_by-ones items ∙ sym (length-map items (said_in k)))

-- ---- of a text
sum-total : (c : Name) (count : WrittenKb → ℕ) (xs : List WrittenContext) → sum_by (λ (x : WrittenContext). cond (same_name c x.name) (count x.kb) 0) xs ≡ sum_of c count xs
sum-total c count [] = refl
sum-total c count (x ∷ xs) = omega (arith, sum_by-cons (λ (x : WrittenContext). cond (same_name c x.name) (count x.kb) 0) x xs, sum-total c count xs)

pub default-count : (t : WrittenText) (c : Name) → count_by (begins_default_of c) (text_uses t) ≡ sum_of c (λ kb. default_count (kb_in kb)) t.contexts
default-count t c =
    let counted = text-count (begins_default_of c) (λ (x : WrittenContext). cond (same_name c x.name) (default_count (kb_in x.kb)) 0) (λ (b : WrittenBridge). 0) t (λ x here. let part = kb-defaults c x.name x.kb in let all = context-parts (begins_default_of c) x in omega arith) (λ b. bridge-parts (begins_default_of c) b (λ n. refl) (default-no-read c)) in
    let none = sum_by_none (λ (b : WrittenBridge). 0) t.bridges (λ b here. refl) in
    let sum = sum-total c (λ kb. default_count (kb_in kb)) t.contexts in
    omega arith

-- a rule of a text has a token of its own
pub item-count : (t : WrittenText) (c : Name) → IsText t → count_by (begins_item_of c) (text_uses t) ≡ sum_of c (λ kb. item_count (kb_in kb)) t.contexts
item-count t c h =
    let counted = text-count (begins_item_of c) (λ (x : WrittenContext). cond (same_name c x.name) (item_count (kb_in x.kb)) 0) (λ (b : WrittenBridge). 0) t (λ x here. let part = kb-items c x.name x.kb (all_among IsContext t.contexts x h.0 here).1 in let all = context-parts (begins_item_of c) x in omega arith) (λ b. bridge-parts (begins_item_of c) b (λ n. refl) (item-no-read c)) in
    let none = sum_by_none (λ (b : WrittenBridge). 0) t.bridges (λ b here. refl) in
    let sum = sum-total c (λ kb. item_count (kb_in kb)) t.contexts in
    omega arith

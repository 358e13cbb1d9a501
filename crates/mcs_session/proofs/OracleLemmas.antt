-- What an oracle keeps, question by question.
use Rattle.std.proofs.Common.{◌≡◌, ℕ, ◌<◌, Bool, true, false, List, [], ◌∷◌, ◌++◌, length, take, drop, map, count_by, get_or, zero, suc, None, Some, slice_get, slice_set, refl, sym, ap, subst, ◌∙◌, arith}
use Rattle.std.proofs.lemmas.List.{length-map, take-append-drop, take_all}
use Rattle.std.proofs.lemmas.Option.{slice_get_within}
use Rattle.std.specs.Global.{Vec}
use Rattle.mcs_base.specs.Listings.{IsAmong, AreApart}
use Rattle.mcs_sets.specs.Sets.{Within}
use Rattle.mcs_system.specs.Plain.{Context, System}
use Rattle.mcs_system.specs.Imports.{rules_into}
use Rattle.mcs_session.specs.Keys.{Key, key_of, keys_of}
use Rattle.mcs_session.specs.Journals.{AreNewKeys}
use Rattle.mcs_session.specs.Sessions.{kept_oracle, HasSettled}
use Rattle.mcs_session.specs.Tables.{AreNumbersOf, AreWordsOf, head_numbers, key_parts, texts_in}
use Rattle.mcs_session.specs.Kept.{AreKept, HasMoreFormulas}
use Rattle.mcs_session.specs.Journalled.{IsOracleOf, IsToSolve, HasSolved}
use Rattle.mcs_session.specs.declared.kept.Kept.{Kept}
use Rattle.mcs_session.specs.declared.words.Words.{Words}
use Rattle.mcs_session.proofs.KeptLemmas.{IsKeptAt, kept_at, keys_apart, words_number, words_later, still_kept}
use Rattle.mcs_session.proofs.JournalLemmas.{asked_again, asked_new, nothing_asked, asked_of_other, kept_counted, few_asked}

pub all_once : (m : System) (i : ℕ) (keys : List Key) (kept : Kept) (words : Words) (origin : ℕ) (seen : List Bool) (journal new : List ℕ) → IsOracleOf m i keys kept words origin seen journal new → AreApart keys
all_once m i keys kept words origin seen journal new h = keys_apart (texts_in kept.formulas.keys) m.contexts i h.answers.formulas_apart keys (texts_in kept.numbers.keys) (texts_in kept.views.items) h.answers.numbers_apart h.answers.each

module _ (m : System) (i : ℕ) (keys : List Key) (kept : Kept) (words : Words) (origin : ℕ) (seen : List Bool) (journal new : List ℕ) (h : IsOracleOf m i keys kept words origin seen journal new)
    (x : ℕ) (numbers : List ℕ) (is : numbers ≡ words.beliefs ∷ head_numbers x words.heads.items) where
  numbered : AreNumbersOf (texts_in kept.formulas.keys) (key_parts (key_of m i x)) numbers
  numbered = subst (AreNumbersOf (texts_in kept.formulas.keys) (key_parts (key_of m i x))) (sym is) (words_number (texts_in kept.formulas.keys) m i words h.numbers x)

  pub found : (p : ℕ) → slice_get (texts_in kept.numbers.keys) p ≡ Some numbers → IsKeptAt (texts_in kept.formulas.keys) m.contexts i (key_of m i x) numbers keys (texts_in kept.views.items) p
  found p at = kept_at (texts_in kept.formulas.keys) m.contexts i keys (texts_in kept.numbers.keys) (texts_in kept.views.items) h.answers.each p (key_of m i x) numbers refl numbered at

  pub again : Within x (rules_into m i) → (p : ℕ) → slice_get (texts_in kept.numbers.keys) p ≡ Some numbers → IsOracleOf m i keys kept words origin (slice_set seen p true) (journal ++ x ∷ []) new
  again rules p at = record { there = h.there; answers = h.answers; numbers = h.numbers; journalled = asked_again m i keys origin seen journal new x h.journalled rules (all_once m i keys kept words origin seen journal new h) p (found p at).key_there }

  pub to_solve : Within x (rules_into m i) → ¬ IsAmong numbers (texts_in kept.numbers.keys) → IsToSolve m i x keys kept numbers
  to_solve rules none = record { there = h.there; rules = rules; answers = h.answers; numbered = numbered; new = none }

  pub solved : Within x (rules_into m i) → (later : List Key) (kept' : Kept) → HasSolved m i x keys later kept kept' → IsOracleOf m i later kept' words origin (seen ++ true ∷ []) (journal ++ x ∷ []) (new ++ x ∷ [])
  solved rules later kept' s = rw s.journal (record {
    there = h.there;
    answers = subst (λ ks. AreKept m.contexts i ks kept') s.journal s.kept.answers;
    numbers = rw s.kept.formulas h.numbers;
    journalled = asked_new m i keys origin seen journal new x h.journalled rules s.unknown;
  })

-- ---- what stands in a list of lists
pub view_at : (vs : List (Vec ℕ)) (p : ℕ) (v : List ℕ) (d : Vec ℕ) → slice_get (texts_in vs) p ≡ Some v → (get_or vs p d).items ≡ v
view_at [] p v d is = let no : None ≡ Some v = is in absurd (cc)
view_at (w ∷ ws) zero v d is = cc
view_at (w ∷ ws) (suc p) v d is = view_at ws p v d is

pub place_within : (vs : List (Vec ℕ)) (p : ℕ) (v : List ℕ) → slice_get (texts_in vs) p ≡ Some v → p < length vs
place_within vs p v is = subst (λ n. p < n) (length-map vs (λ (w : Vec ℕ). w.items)) (slice_get_within (texts_in vs) p v is)

-- ---- from system to system
pub made : (m : System) (i : ℕ) (kept kept' : Kept) (words : Words) → i < length m.contexts → ((cs : List Context) (j : ℕ) → AreKept cs j [] kept) → HasMoreFormulas kept kept' → AreWordsOf (texts_in kept'.formulas.keys) m i words
    → IsOracleOf m i [] kept' words 0 [] [] []
made m i kept kept' words there none more w = record { there = there; answers = still_kept m.contexts i [] kept kept' more (none m.contexts i); numbers = w; journalled = nothing_asked m i [] [] refl (λ p on. let no : None ≡ Some true = on in absurd (cc)) }

pub of_other : (m n : System) (i : ℕ) (keys : List Key) (kept kept' : Kept) (words words' : Words) (origin : ℕ) (seen : List Bool) (new : List ℕ) → IsOracleOf m i keys kept words origin seen [] new
    → n.contexts ≡ m.contexts → HasMoreFormulas kept kept' → AreWordsOf (texts_in kept'.formulas.keys) n i words' → IsOracleOf n i keys kept' words' origin seen [] new
of_other m n i keys kept kept' words words' origin seen new h same more w = record {
  there = subst (λ (cs : List Context). i < length cs) (sym same) h.there;
  answers = subst (λ (cs : List Context). AreKept cs i keys kept') (sym same) (still_kept m.contexts i keys kept kept' more h.answers);
  numbers = w;
  journalled = asked_of_other m n i keys origin seen new h.journalled;
}

pub of_same : (m : System) (i : ℕ) (keys : List Key) (kept kept' : Kept) (words : Words) (origin : ℕ) (seen : List Bool) (journal new : List ℕ) → IsOracleOf m i keys kept words origin seen journal new
    → HasMoreFormulas kept kept' → IsOracleOf m i keys kept' words origin seen journal new
of_same m i keys kept kept' words origin seen journal new h more = record {
  there = h.there;
  answers = still_kept m.contexts i keys kept kept' more h.answers;
  numbers = words_later (texts_in kept.formulas.keys) (texts_in kept'.formulas.keys) m i words more.formulas.grown h.numbers;
  journalled = h.journalled;
}

-- ---- settled
pub settled : (m : System) (i : ℕ) (keys : List Key) (kept : Kept) (words : Words) (origin : ℕ) (seen off : List Bool) (journal new : List ℕ) → IsOracleOf m i keys kept words origin seen journal new
    → length off ≡ length seen → ((p : ℕ) → ¬ (slice_get off p ≡ Some true)) → IsOracleOf m i keys kept words (length keys) off [] []
settled m i keys kept words origin seen off journal new h long none = record {
  there = h.there;
  answers = h.answers;
  numbers = h.numbers;
  journalled = nothing_asked m i keys off (long ∙ h.journalled.many) none;
}

pub none_set : (xs : List Bool) (p : ℕ) → ¬ (slice_get (map (λ (_ : Bool). false) xs) p ≡ Some true)
none_set [] p on = let no : None ≡ Some true = on in absurd (cc)
none_set (x ∷ xs) zero on = let no : Some false ≡ Some true = on in absurd (cc)
none_set (x ∷ xs) (suc p) on = none_set xs p on

-- what was asked is told
pub told : (m : System) (i : ℕ) (keys : List Key) (kept : Kept) (words : Words) (origin : ℕ) (seen : List Bool) (journal solved : List ℕ) (count : ℕ) → IsOracleOf m i keys kept words origin seen journal solved
    → count ≡ count_by (λ b. b) (take origin seen) → HasSettled (kept_oracle m i (take origin keys) journal) (kept_oracle m i (take (length keys) keys) []) solved count
told m i keys kept words origin seen journal solved count h is =
    let (kepts, are, many) = kept_counted m i keys origin seen journal solved h.journalled (all_once m i keys kept words origin seen journal solved h) in record {
      old = take origin keys;
      origin_is = refl;
      new_are = subst (AreNewKeys (take origin keys) (keys_of m i journal)) (sym h.journalled.new_are) h.journalled.exact;
      kept_keys = kepts;
      kept_are = are;
      many_kept = is ∙ many;
      few_new = λ valid. (let few = few_asked m i valid h.there journal h.journalled.questions (drop origin keys) (λ k there. ((h.journalled.exact.exactly k).0 there).asked_for) h.journalled.exact.apart in
          omega (arith, few, ap length h.journalled.new_are, length-map solved (key_of m i)));
      few_kept = λ valid. (let few = few_asked m i valid h.there journal h.journalled.questions kepts (λ k there. ((are.exactly k).0 there).asked_for) are.apart in omega (arith, few, is, many));
      after_is = ap (λ (ks : List Key). kept_oracle m i ks []) (take_all (length keys) keys (omega arith) ∙ sym (take-append-drop origin keys) ∙ ap (λ (ks : List Key). take origin keys ++ ks) (sym h.journalled.new_are));
    }

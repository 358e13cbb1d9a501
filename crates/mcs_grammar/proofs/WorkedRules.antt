-- The worked rules that are read by themselves are as they are told.
use Rattle.std.proofs.Common.{◌≡◌, ℕ, false, List, [], ◌∷◌, ◌++◌, codes, Option, Some, None, refl, sym, ap, ◌∙◌, subst, inl, inr, true≢false, lit<, arith, append_assoc}
use Rattle.std.specs.Prelude.{slice_index}
use Rattle.std.proofs.lemmas.Bool.{eqb-false}
use Rattle.std.proofs.lemmas.List.{map-append}
use Rattle.mcs_base.specs.Words.{reserved_words}
use Rattle.mcs_base.specs.Listings.{IsAmong}
use Rattle.mcs_grammar.specs.Written.{WrittenBridge, IsWrittenBridge, IsPlace, no_marks}
use Rattle.mcs_grammar.specs.Entries.{Token, Use, NamesContext, NamesTarget, Weighs, Entry, entry, mark_entries, place_entries, reads_entries, bridge_entries, tokens_of}
use Rattle.mcs_grammar.specs.Faults.{TextFault, NoGrammar}
use Rattle.mcs_grammar.specs.Alone.{is_told, contexts_said, Begins, IsWhole, IsRuleFaultNext}
use Rattle.mcs_grammar.specs.Examples.{tokens_apart, place, fact, of_weight, lone_rule}
use Rattle.mcs_grammar.specs.Laws.{LoneRuleIsRead, LoneRuleFaults}

place-right : IsPlace place
unfolding reserved_words
place-right = (refl, (tt, refl), refl)

lone-right : IsWrittenBridge lone_rule
unfolding reserved_words
lone-right = (refl, place-right, ((refl, ((tt, omega arith, (tt, refl), omega arith), (refl, refl)), refl), tt), (refl, λ e. eqb-false 51 48 refl e))

pub lone-rule-read : LoneRuleIsRead
lone-rule-read = record {
  grammar = lone-right;
  tokens = refl;
  says = record { named = refl; head = record { number = refl; belief = refl }; pos = tt; neg = (record { number = refl; belief = refl }, tt); keep = refl; closed = refl; weight = refl };
}

-- ---- a rule begins with `bridge` and ends with a period
not-begun : ¬ Begins IsWrittenBridge bridge_entries ([] ++ codes "context" ∷ [])
not-begun (b, g, e) = eqb-false 98 99 refl (ap (λ (ts : List Token). slice_index (first ts) 0) e)
  where
    first : List Token → Token
    first [] = []
    first (t ∷ ts) = t

last : Token → List Token → Token
last d [] = d
last d (t ∷ ts) = last t ts

last-append : (d : Token) (ts : List Token) (t : Token) → last d (ts ++ t ∷ []) ≡ t
unfolding last
last-append d [] t = refl
last-append d (u ∷ ts) t = last-append u ts t

ends-so : (b : WrittenBridge) → last [] (tokens_of (bridge_entries b)) ≡ codes "."
unfolding last
ends-so b =
    let head : List Entry = place_entries (NamesTarget b.head.context) b.head in
    let reads : List Entry = reads_entries b.head.context b.reads in
    let period : List Entry = entry (codes ".") [] ∷ [] in
    let token : Entry → Token = λ (m : Entry). m.token in
    let front : List Token = tokens_of (mark_entries b.marks) ++ codes ":" ∷ (tokens_of head ++ tokens_of reads) in
    let all : tokens_of (mark_entries b.marks ++ entry (codes ":") [] ∷ (head ++ (reads ++ period))) ≡ front ++ codes "." ∷ [] = simp (map-append, append_assoc) in
    ap (λ (ts : List Token). last b.name ts) all ∙ last-append b.name front (codes ".")

not-ended : ¬ IsWhole IsWrittenBridge bridge_entries (tokens_apart (codes "bridge r : c : a"))
unfolding last
not-ended (b, g, e) = eqb-false 46 97 refl (ap (λ (t : Token). slice_index t 0) (sym (ends-so b) ∙ ap (last []) e))

-- ---- the faults
other-name : ¬ IsAmong (NamesContext (codes "d")) (contexts_said (codes "c" ∷ []))
other-name (inl e) = eqb-false 100 99 refl (ap name e)
  where
    name : Use → ℕ
    name (NamesContext n) = slice_index n 0
    name u = 0
other-name (inr none) = absurd none

others : (names : List Token) (ts : List Token) (next : Option Token) (fault : TextFault) → is_told fault ≡ false → ¬ IsRuleFaultNext names ts next fault
others names ts None NoGrammar e h = absurd (true≢false e)
others names ts None fault e h = h
others names ts (Some t) NoGrammar e h = absurd (true≢false e)
others names ts (Some t) fault e h = true≢false (sym h.0 ∙ e)

pub lone-rule-faults : (names : List Token) → LoneRuleFaults names
unfolding reserved_words
lone-rule-faults names = record {
  begins = not-begun;
  ends = not-ended;
  unknown = λ is. (
    refl,
    record {
      written = record (fact (codes "r") no_marks) { head = record place { context = codes "d" } };
      grammar = (refl, (refl, (tt, refl), refl), tt, tt);
      first = refl;
      here = entry (codes "d") (NamesTarget (codes "d") ∷ []);
      is_here = refl;
      has = (codes "d", inl (inl refl), subst (λ (ns : List Token). ¬ IsAmong (NamesContext (codes "d")) (contexts_said ns)) (sym is) other-name);
    },
  );
  heavy = (
    refl,
    record {
      written = fact (codes "r") (of_weight (codes "1000001"));
      grammar = (refl, place-right, tt, (refl, λ e. eqb-false 49 48 refl e));
      first = refl;
      here = entry (codes "1000001") (Weighs 1000001 ∷ []);
      is_here = refl;
      has = (1000001, inl refl, lit< tt);
    },
  );
  others = others names;
}

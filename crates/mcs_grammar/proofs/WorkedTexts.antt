-- The worked texts are as they are told.
use Rattle.std.proofs.Common.{◌≡◌, ℕ, suc, Bool, true, false, List, [], ◌∷◌, ◌++◌, codes, length, take, drop, get_or, Option, Some, None, refl, ap, ◌∙◌, subst, inl, true≢false, lit<}
use Rattle.std.specs.Prelude.{slice_index}
use Rattle.std.specs.List.{flat_map, AllByRecursion}
use Rattle.std.proofs.lemmas.Bool.{eqb-false}
use Rattle.mcs_base.specs.Words.{reserved_words}
use Rattle.mcs_system.specs.Plain.{Name}
use Rattle.mcs_tokens.specs.Kinds.{zero_digit}
use Rattle.mcs_grammar.specs.Written.{WrittenContext, WrittenMarks, WrittenBridge, IsContext, IsPlace, IsWeight, no_marks, IsWrittenBridge, IsText}
use Rattle.mcs_grammar.specs.Entries.{Token, BeginsBridge, NamesBridge, NamesTarget, Weighs, Entry, entry, optional, place_entries, reads_entries, weight_entries, context_entries, bridge_entries, version_entries, tokens_of}
use Rattle.mcs_grammar.specs.Saying.{weight_said, SaysBridge, names_of}
use Rattle.mcs_grammar.specs.Faults.{BeginsText}
use Rattle.mcs_grammar.specs.Examples.{tokens_apart, place, fact, empty_program, of_weight, marked_text, plain_fact}
use Rattle.mcs_grammar.specs.Laws.{MarkedTextIsRead, RefusedFronts}

-- ---- a text with each of the marks
place-right : IsPlace place
unfolding reserved_words
place-right = (refl, (tt, refl), refl)

program-right : AllByRecursion IsContext (empty_program ∷ [])
unfolding reserved_words
program-right = ((refl, tt), tt)

marked-right : IsText marked_text
unfolding reserved_words
marked-right = (
  program-right,
  ((refl, place-right, tt, tt), ((refl, place-right, tt, tt), ((refl, place-right, tt, (refl, λ e. eqb-false 49 48 refl e)), ((refl, place-right, tt, (refl, λ e. eqb-false 50 48 refl e)), ((refl, place-right, tt, tt), tt))))),
  λ e. absurd (true≢false e),
)

fact-said : (name : Name) (marks : WrittenMarks) → SaysBridge (names_of (empty_program ∷ [])) (fact name marks) (record (plain_fact name) { keep = marks.keep; closed = marks.closed; weight = weight_said marks.weight })
fact-said name marks = record { named = refl; head = record { number = refl; belief = refl }; pos = tt; neg = tt; keep = refl; closed = refl; weight = refl }

pub marked-read : MarkedTextIsRead
marked-read = record {
  grammar = marked-right;
  tokens = refl;
  says = record {
    contexts = refl;
    bridges = (
      fact-said (codes "p") (record { keep = true; closed = false; weight = None }),
      (
        fact-said (codes "q") (record { keep = false; closed = true; weight = None }),
        (
          fact-said (codes "r") (of_weight (codes "1000000")),
          (
            fact-said (codes "s") (record { keep = true; closed = true; weight = Some (codes "2") }),
            (fact-said (codes "t") no_marks, tt),
          ),
        ),
      ),
    );
  };
}

-- ---- where no text goes on
-- the first byte of a token of a front tells it from others
abbrev first_byte : ℕ → List Token → ℕ
first_byte k ts = slice_index (get_or ts k []) 0

abbrev parts : List WrittenContext → List WrittenBridge → List Entry
parts cs bs = flat_map context_entries cs ++ flat_map bridge_entries bs

-- a text begins with `version 2`, with `context` or with `bridge`
other-version : (v : Bool) (cs : List WrittenContext) (bs : List WrittenBridge) → take 2 (tokens_of (version_entries v ++ parts cs bs)) ≡ tokens_apart (codes "version 3") → ⊥
other-version true cs bs e = eqb-false 50 51 refl (ap (first_byte 1) e)
other-version false (c ∷ cs) bs e = eqb-false 99 118 refl (ap (first_byte 0) e)
other-version false [] (b ∷ bs) e = eqb-false 98 118 refl (ap (first_byte 0) e)
other-version false [] [] e = eqb-false 0 118 refl (ap (first_byte 0) e)

-- the entries of a rule and of what comes after it, by its name, its marks and its parts after the colon
abbrev ruled : Name → Bool → Bool → Option Token → List Entry → List Entry → List Entry
ruled n k c w after rest =
    entry (codes "bridge") (BeginsBridge ∷ []) ∷ entry n (NamesBridge n ∷ [])
    ∷ (((optional k (codes "keep") ++ (optional c (codes "closed") ++ weight_entries w)) ++ entry (codes ":") [] ∷ after) ++ rest)

abbrev after_colon : WrittenBridge → List Entry
after_colon b = place_entries (NamesTarget b.head.context) b.head ++ (reads_entries b.head.context b.reads ++ entry (codes ".") [] ∷ [])

-- a rule without marks says none
no-mark : (n : Name) (marks : WrittenMarks) (after rest : List Entry) → marks ≡ no_marks → take 3 (tokens_of (ruled n marks.keep marks.closed marks.weight after rest)) ≡ tokens_apart (codes "bridge r keep") → ⊥
no-mark n marks after rest is e =
    let bare : take 3 (tokens_of (ruled n false false None after rest)) ≡ tokens_apart (codes "bridge r keep") =
    subst (λ (x : WrittenMarks). take 3 (tokens_of (ruled n x.keep x.closed x.weight after rest)) ≡ tokens_apart (codes "bridge r keep")) is e in
    eqb-false 58 107 refl (ap (first_byte 2) bare)

unversioned : (v : Bool) (cs : List WrittenContext) (bs : List WrittenBridge) → (v ≡ false → AllByRecursion (λ (b : WrittenBridge). b.marks ≡ no_marks) bs) → take 3 (tokens_of (version_entries v ++ parts cs bs)) ≡ tokens_apart (codes "bridge r keep") → ⊥
unversioned true cs bs plain e = eqb-false 118 98 refl (ap (first_byte 0) e)
unversioned false (c ∷ cs) bs plain e = eqb-false 99 98 refl (ap (first_byte 0) e)
unversioned false [] [] plain e = eqb-false 0 98 refl (ap (first_byte 0) e)
unversioned false [] (b ∷ bs) plain e = no-mark b.name b.marks (after_colon b) (flat_map bridge_entries bs) (plain refl).0 e

-- a text that begins with a rule after the version
pub record BeginsRule (n : ℕ) (ts : List Token) : Type 0 where
  pub rule : WrittenBridge
  pub grammar : IsWrittenBridge rule
  pub rest : List Entry
  pub first : take (suc n) (tokens_of (ruled rule.name rule.marks.keep rule.marks.closed rule.marks.weight (after_colon rule) rest)) ≡ codes "bridge" ∷ ts

begins-rule : (n : ℕ) (ts : List Token) (v : Bool) (cs : List WrittenContext) (bs : List WrittenBridge) → AllByRecursion IsWrittenBridge bs
    → take (suc (suc (suc (suc n)))) (tokens_of (version_entries v ++ parts cs bs)) ≡ codes "version" ∷ codes "2" ∷ codes "." ∷ codes "bridge" ∷ ts → BeginsRule n ts
begins-rule n ts false (c ∷ cs) bs h e = absurd (eqb-false 99 118 refl (ap (first_byte 0) e))
begins-rule n ts false [] (b ∷ bs) h e = absurd (eqb-false 98 118 refl (ap (first_byte 0) e))
begins-rule n ts false [] [] h e = absurd (eqb-false 0 118 refl (ap (first_byte 0) e))
begins-rule n ts true (c ∷ cs) bs h e = absurd (eqb-false 99 98 refl (ap (first_byte 3) e))
begins-rule n ts true [] [] h e = absurd (eqb-false 0 98 refl (ap (first_byte 3) e))
begins-rule n ts true [] (b ∷ bs) h e = record { rule = b; grammar = h.0; rest = flat_map bridge_entries bs; first = ap (drop 3) e }

wrong-order : (n : Name) (k c : Bool) (w : Option Token) (after rest : List Entry) → take 4 (tokens_of (ruled n k c w after rest)) ≡ tokens_apart (codes "bridge r closed keep") → ⊥
wrong-order n true c w after rest e = eqb-false 107 99 refl (ap (first_byte 2) e)
wrong-order n false true None after rest e = eqb-false 58 107 refl (ap (first_byte 3) e)
wrong-order n false true (Some d) after rest e = eqb-false 119 107 refl (ap (first_byte 3) e)
wrong-order n false false None after rest e = eqb-false 58 99 refl (ap (first_byte 2) e)
wrong-order n false false (Some d) after rest e = eqb-false 119 99 refl (ap (first_byte 2) e)

kept-twice : (n : Name) (k c : Bool) (w : Option Token) (after rest : List Entry) → take 4 (tokens_of (ruled n k c w after rest)) ≡ tokens_apart (codes "bridge r keep keep") → ⊥
kept-twice n true true w after rest e = eqb-false 99 107 refl (ap (first_byte 3) e)
kept-twice n true false None after rest e = eqb-false 58 107 refl (ap (first_byte 3) e)
kept-twice n true false (Some d) after rest e = eqb-false 119 107 refl (ap (first_byte 3) e)
kept-twice n false true w after rest e = eqb-false 99 107 refl (ap (first_byte 2) e)
kept-twice n false false None after rest e = eqb-false 58 107 refl (ap (first_byte 2) e)
kept-twice n false false (Some d) after rest e = eqb-false 119 107 refl (ap (first_byte 2) e)

begins-with-zero : (t : Token) → slice_index t 0 ≡ zero_digit → (n : Name) (k c : Bool) (w : Option Token) → IsWeight w → (after rest : List Entry) → take 4 (tokens_of (ruled n k c w after rest)) ≡ tokens_apart (codes "bridge r weight") ++ t ∷ [] → ⊥
begins-with-zero t zero n true c w h after rest e = eqb-false 107 119 refl (ap (first_byte 2) e)
begins-with-zero t zero n false true w h after rest e = eqb-false 99 119 refl (ap (first_byte 2) e)
begins-with-zero t zero n false false None h after rest e = eqb-false 58 119 refl (ap (first_byte 2) e)
begins-with-zero t zero n false false (Some d) h after rest e = h.1 (ap (first_byte 3) e ∙ zero)

no-rule : (ts : List Token) → (BeginsRule (length ts) ts → ⊥) → ¬ BeginsText (codes "version" ∷ codes "2" ∷ codes "." ∷ codes "bridge" ∷ ts)
no-rule ts none h = none (begins-rule (length ts) ts h.text.has_version h.text.contexts h.text.bridges h.grammar.1 h.first)

pub refused-fronts : RefusedFronts
unfolding reserved_words
refused-fronts = record {
  version = inl (lit< tt, λ h. other-version h.text.has_version h.text.contexts h.text.bridges h.first);
  unversioned = inl (lit< tt, λ h. unversioned h.text.has_version h.text.contexts h.text.bridges h.grammar.2 h.first);
  order = inl (lit< tt, no-rule (tokens_apart (codes "r closed keep")) (λ r. wrong-order r.rule.name r.rule.marks.keep r.rule.marks.closed r.rule.marks.weight (after_colon r.rule) r.rest r.first));
  twice = inl (lit< tt, no-rule (tokens_apart (codes "r keep keep")) (λ r. kept-twice r.rule.name r.rule.marks.keep r.rule.marks.closed r.rule.marks.weight (after_colon r.rule) r.rest r.first));
  zero = λ t zero. inl (lit< tt, no-rule (tokens_apart (codes "r weight") ++ t ∷ []) (λ r. begins-with-zero t zero r.rule.name r.rule.marks.keep r.rule.marks.closed r.rule.marks.weight r.grammar.3 (after_colon r.rule) r.rest r.first));
  heavy = (
    lit< tt,
    record {
      text = record { has_version = true; contexts = empty_program ∷ []; bridges = fact (codes "r") (of_weight (codes "1000001")) ∷ [] };
      grammar = (program-right, ((refl, place-right, tt, (refl, λ e. eqb-false 49 48 refl e)), tt), λ e. absurd (true≢false e));
      same = refl;
      here = entry (codes "1000001") (Weighs 1000001 ∷ []);
      is_here = refl;
      has = (1000001, inl refl, lit< tt);
    },
  );
}

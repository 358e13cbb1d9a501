-- The worked edits are as they are told.
use Rattle.std.proofs.Common.{ℕ, List, [], ◌∷◌, ◌++◌, codes, refl, ap, inl, inr}
use Rattle.std.specs.Prelude.{slice_index}
use Rattle.std.proofs.lemmas.Bool.{eqb-false}
use Rattle.mcs_base.specs.Words.{reserved_words}
use Rattle.mcs_base.specs.Listings.{IsAmong}
use Rattle.mcs_grammar.specs.Entries.{Token, Use, NamesContext, NamesTarget, entry}
use Rattle.mcs_grammar.specs.Alone.{Begins, IsWhole, contexts_said}
use Rattle.mcs_grammar.specs.Examples.{tokens_apart}
use Rattle.mcs_script.specs.Edits.{context_names, Adds, Drops, Lists, IsWrittenEdit, edit_entries}
use Rattle.mcs_script.specs.Worked.{before_edits, written_rule, EditsAreMade, EditsAreWritten, EditsAreRefused}

pub edits-made : EditsAreMade
edits-made = record { rules = refl; last = refl; there = inl refl; missing = λ h. h }

pub edits-written : EditsAreWritten
unfolding reserved_words
edits-written = record {
  adds = (refl, (refl, (tt, refl), refl), ((refl, (tt, refl), refl), tt), tt);
  add_tokens = refl;
  add_says = record { named = refl; head = record { number = refl; belief = refl }; pos = (record { number = refl; belief = refl }, tt); neg = tt; keep = refl; closed = refl; weight = refl };
  drop_tokens = refl;
  list_tokens = refl;
  named = refl;
}

-- the first bytes of the first token and of the second one tell edits apart
abbrev byte_of : List Token → ℕ
byte_of [] = 0
byte_of (t ∷ ts) = slice_index t 0

abbrev later : List Token → List Token
later [] = []
later (t ∷ ts) = ts

no-edit : ¬ Begins IsWrittenEdit edit_entries ([] ++ codes "bridge" ∷ [])
no-edit (Adds b, g, e) = eqb-false 97 98 refl (ap byte_of e)
no-edit (Drops n, g, e) = eqb-false 100 98 refl (ap byte_of e)
no-edit (Lists, g, e) = eqb-false 108 98 refl (ap byte_of e)

no-period : ¬ IsWhole IsWrittenEdit edit_entries (tokens_apart (codes "drop r1"))
no-period (Adds b, g, e) = eqb-false 97 100 refl (ap byte_of e)
no-period (Drops n, g, e) = eqb-false 46 0 refl (ap (λ (ts : List Token). byte_of (later (later ts))) e)
no-period (Lists, g, e) = eqb-false 108 100 refl (ap byte_of e)

no-listing : ¬ Begins IsWrittenEdit edit_entries (tokens_apart (codes "list") ++ codes "r1" ∷ [])
no-listing (Adds b, g, e) = eqb-false 97 108 refl (ap byte_of e)
no-listing (Drops n, g, e) = eqb-false 100 108 refl (ap byte_of e)
no-listing (Lists, g, e) = eqb-false 46 114 refl (ap (λ (ts : List Token). byte_of (later ts)) e)

second : Use → ℕ
second (NamesContext n) = slice_index n 1
second u = 0

no-context : ¬ IsAmong (NamesContext (codes "c3")) (contexts_said (context_names before_edits))
unfolding second
no-context (inl e) = eqb-false 51 49 refl (ap second e)
no-context (inr (inl e)) = eqb-false 51 50 refl (ap second e)
no-context (inr (inr none)) = absurd none

pub edits-refused : EditsAreRefused
unfolding reserved_words
edits-refused = record {
  unknown = no-edit;
  ends = no-period;
  listing = no-listing;
  no_context = (
    refl,
    record {
      written = Adds (record written_rule { head = record written_rule.head { context = codes "c3" } });
      grammar = (refl, (refl, (tt, refl), refl), ((refl, (tt, refl), refl), tt), tt);
      first = refl;
      here = entry (codes "c3") (NamesTarget (codes "c3") ∷ []);
      is_here = refl;
      has = (codes "c3", inl (inl refl), no-context);
    },
  );
}

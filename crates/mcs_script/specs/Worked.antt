-- Worked edits, small enough to be read at a glance.
use Rattle.std.specs.Prelude.{◌≡◌, ℕ, false, List, [], ◌∷◌, codes, map, take, Option, Some, None}
use Rattle.mcs_system.specs.Plain as plain
use Rattle.mcs_system.specs.Plain.{Name, System, plain_rule}
use Rattle.mcs_grammar.specs.Entries.{Token, tokens_of}
use Rattle.mcs_grammar.specs.Written.{Named, no_marks, WrittenBridge}
use Rattle.mcs_grammar.specs.Faults.{TextFault, NoGrammar, NoContext}
use Rattle.mcs_grammar.specs.Alone.{IsFaultNext}
use Rattle.mcs_grammar.specs.Examples.{tokens_apart}
use Rattle.mcs_script.specs.Edits.{Edit, Added, Dropped, Listed, context_names, rule_names, system_after, IsThere, Adds, Drops, Lists, IsWrittenEdit, edit_entries, SaysEdit}

-- context c1 program { a. } context c2 program { :- p. }
abbrev pub before_edits : System
before_edits = record {
  contexts =
      record { name = codes "c1"; kb = plain.Program (record { head = codes "a" ∷ []; pos = []; neg = [] } ∷ []) }
      ∷ record { name = codes "c2"; kb = plain.Program (record { head = []; pos = codes "p" ∷ []; neg = [] } ∷ []) } ∷ [];
  bridges = [];
}

-- r1: c2:p if c1:a
abbrev pub new_rule : plain.Bridge
new_rule = plain_rule (codes "r1") 1 (plain.Atom (codes "p")) (record { context = 0; belief = plain.Atom (codes "a") } ∷ []) []

abbrev pub some_edits : List Edit
some_edits = Listed ∷ Added new_rule ∷ Listed ∷ Dropped (codes "r1") ∷ Listed ∷ []

abbrev pub written_rule : WrittenBridge
written_rule = record {
  name = codes "r1";
  marks = no_marks;
  head = record { context = codes "c2"; belief = Named (codes "p") };
  reads = record { denied = false; place = record { context = codes "c1"; belief = Named (codes "a") } } ∷ [];
}

-- the systems after the edits
pub record EditsAreMade : Type 0 where
  pub rules : map (λ (e : ℕ). rule_names (system_after before_edits (take e some_edits))) (0 ∷ 1 ∷ 2 ∷ 3 ∷ 4 ∷ 5 ∷ []) ≡ [] ∷ [] ∷ (codes "r1" ∷ []) ∷ (codes "r1" ∷ []) ∷ [] ∷ [] ∷ []
  pub last : system_after before_edits some_edits ≡ before_edits
  pub there : IsThere (system_after before_edits (take 3 some_edits)) (Dropped (codes "r1"))
  pub missing : ¬ IsThere before_edits (Dropped (codes "r9"))

-- what is written of them
pub record EditsAreWritten : Type 0 where
  pub adds : IsWrittenEdit (Adds written_rule)
  pub add_tokens : tokens_of (edit_entries (Adds written_rule)) ≡ tokens_apart (codes "add bridge r1 : c2 : p if c1 : a .")
  pub add_says : SaysEdit (context_names before_edits) (Adds written_rule) (Added new_rule)
  pub drop_tokens : tokens_of (edit_entries (Drops (codes "r1"))) ≡ tokens_apart (codes "drop r1 .")
  pub list_tokens : tokens_of (edit_entries Lists) ≡ tokens_apart (codes "list .")
  -- a rule may have the name of an edit
  pub named : IsWrittenEdit (Drops (codes "list"))

abbrev pub IsEditFaultNext : List Name → List Token → Option Token → TextFault → Type 0
IsEditFaultNext names ts next fault = IsFaultNext IsWrittenEdit edit_entries names ts next fault

-- faults of edits by themselves
pub record EditsAreRefused : Type 0 where
  pub unknown : IsEditFaultNext (context_names before_edits) [] (Some (codes "bridge")) NoGrammar
  pub ends : IsEditFaultNext (context_names before_edits) (tokens_apart (codes "drop r1")) None NoGrammar
  pub listing : IsEditFaultNext (context_names before_edits) (tokens_apart (codes "list")) (Some (codes "r1")) NoGrammar
  pub no_context : IsEditFaultNext (context_names before_edits) (tokens_apart (codes "add bridge r1 :")) (Some (codes "c3")) NoContext

-- Tokens that can have no fault, whatever was seen before.
use Rattle.std.proofs.Common.{◌≡◌, ◌≤◌, ◌<◌, Bool, true, false, List, length, inl, inr, refl, sym, ap, ◌∙◌, subst, true≢false, arith}
use Rattle.mcs_system.specs.declared.limit.Limit.{Limit}
use Rattle.mcs_system.specs.declared.limit.Limit.TheVariants.{Contexts, Bridges, RulesPerContext, Variables, InputsPerContext, AtomsPerContext, DefaultsPerContext, ItemsPerContext, Weight, FormulaSize, OpenParentheses, NameBytes}
use Rattle.mcs_account.specs.declared.place.Role.{Role}
use Rattle.mcs_account.specs.declared.place.Role.TheVariants as roles
use Rattle.mcs_account.specs.Images.{About}
use Rattle.mcs_faults.specs.declared.watch.Watch.{Watch}
use Rattle.mcs_faults.specs.declared.watch.Said.{Said}
use Rattle.mcs_faults.specs.Watching.{IsEntryAsked}
use Rattle.mcs_grammar.specs.Entries.{Token, Use, Entry}
use Rattle.mcs_grammar.specs.Faults.{TextFault, NoGrammar, NoContext, Twin, NoAtom, Exceeds, ExceedsLimit, Has}
use Rattle.mcs_faults.proofs.LimitLemmas.{contexts-beyond, bridges-beyond, rules-beyond, variables-beyond, inputs-beyond, atoms-beyond, defaults-beyond, items-beyond, weight-beyond, sizes-beyond, opens-beyond, no-context-is, twin-is, no-atom-is}

-- the role by itself has no fault, but for a number in a formula
abbrev pub is_plain_role : Role → Bool
is_plain_role roles.Nothing = true
is_plain_role (roles.Counted n) = true
is_plain_role r = false

module _ (w : Watch) (before : List Use) (m : Entry) (a : About) (s : Said) (asked : IsEntryAsked w before m a s) (item : s.uses.begins_item ≡ false) (belief : s.uses.begins_belief ≡ false) (read : s.uses.ends_read ≡ false)
    (short : length s.token.now ≤ 64) (plain : is_plain_role s.uses.role ≡ true) (small : ¬ (s.uses.role ≡ roles.Counted 513)) where
  other : (r : Role) → s.uses.role ≡ r → is_plain_role r ≡ false → ⊥
  other r e f = true≢false (sym plain ∙ ap is_plain_role e ∙ f)

  quiet-limit : (l : Limit) → ¬ ExceedsLimit l before m
  quiet-limit Contexts h = other roles.BeginsContext ((contexts-beyond w before m a s asked).0 h).0 refl
  quiet-limit Bridges h = other roles.BeginsBridge ((bridges-beyond w before m a s asked).0 h).0 refl
  quiet-limit RulesPerContext h = other roles.NamesTarget ((rules-beyond w before m a s asked).0 h).0 refl
  quiet-limit Variables h = true≢false (sym ((variables-beyond w before m a s asked).0 h).0 ∙ read)
  quiet-limit InputsPerContext h = true≢false (sym ((inputs-beyond w before m a s asked).0 h).0 ∙ read)
  quiet-limit AtomsPerContext h = let e = ((atoms-beyond w before m a s asked).0 h).0 in other (roles.Atom e.0) e.1 refl
  quiet-limit DefaultsPerContext h = other roles.BeginsDefault ((defaults-beyond w before m a s asked).0 h).0 refl
  quiet-limit ItemsPerContext h = true≢false (sym ((items-beyond w before m a s asked).0 h).0 ∙ item)
  quiet-limit Weight h = other roles.Weighs ((weight-beyond w before m a s asked).0 h).0 refl
  quiet-limit FormulaSize h = elim ((sizes-beyond w before m a s asked).0 h) [ inl e ↦ other (roles.Atom 513) e refl | inr e ↦ small e ]
  quiet-limit OpenParentheses h = other (roles.Opens 512) ((opens-beyond w before m a s asked).0 h) refl
  quiet-limit NameBytes h = let long = subst (λ (t : Token). 64 < length t) asked.token_is h.1 in absurd (omega (arith, long, short))

  pub quiet : (f : TextFault) → ¬ Has f before m
  quiet NoGrammar h = h
  quiet NoContext h = elim ((no-context-is w before m a s asked).0 h).0 [ inl e ↦ other roles.NamesTarget e refl | inr e ↦ other roles.NamesSource e refl ]
  quiet Twin h = elim ((twin-is w before m a s asked).0 h) [ inl e ↦ other roles.NamesContext e.0 refl | inr e ↦ other roles.NamesBridge e.0 refl ]
  quiet NoAtom h = true≢false (sym ((no-atom-is w before m a s asked).0 h).0 ∙ belief)
  quiet (Exceeds l) h = quiet-limit l h

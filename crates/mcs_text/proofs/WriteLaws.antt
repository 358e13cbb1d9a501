-- How writes join.
use Rattle.std.proofs.Common.{◌≡◌, ℕ, ◌≤◌, List, [], ◌++◌, take, drop, length, Option, Some, None, Result, Ok, Err, refl, sym, ap, ◌∙◌, subst, append_assoc, arith}
use Rattle.std.specs.Result.{IsErrAnd}
use Rattle.std.proofs.lemmas.List.{append-nil, take-append-drop}
use Rattle.mcs_ports.specs.Causes.{Rose}
use Rattle.mcs_ports.specs.Pieces.{Device, appended}
use Rattle.mcs_text.specs.Writes.{Writes, IsWriteFaultDue}
use Rattle.mcs_text.specs.declared.unwritten.Unwritten.{Unwritten}
use Rattle.mcs_text.specs.declared.unwritten.Unwritten.TheVariants as why

pub appended-append : (told : Option (List ℕ)) (a b : List ℕ) → appended (appended told a) b ≡ appended told (a ++ b)
appended-append None a b = refl
appended-append (Some w) a b = ap (λ t. Some t) (append_assoc w a b)

pub appended-none : (told : Option (List ℕ)) → told ≡ appended told []
appended-none None = refl
appended-none (Some w) = ap (λ t. Some t) (sym (append-nil w))

due_later : (e : Unwritten) (a b c : ℕ) → b ≡ a → IsWriteFaultDue e b c → IsWriteFaultDue e a c
due_later e a b c same due = subst (λ (n : ℕ). IsWriteFaultDue e n c) same due

module _ {T U : Type 0} where
  -- one text after the other
  pub writes_then : (a b : List ℕ) (before mid now : Device) (x : T) (r : Result U Unwritten)
      → Writes a before mid (Ok x) → Writes b mid now r → Writes (a ++ b) before now r
  writes_then a b before mid now x (Ok y) f g = record {
    later = omega (arith, f.later, g.later);
    notes = g.notes ∙ f.notes;
    quiet = g.quiet ∙ f.quiet;
    whole = g.whole ∙ ap (λ w. appended w b) f.whole ∙ appended-append before.written a b;
    front = tt;
    due = tt;
  }
  writes_then a b before mid now x (Err e) f g = record {
    later = omega (arith, f.later, g.later);
    notes = g.notes ∙ f.notes;
    quiet = tt;
    whole = tt;
    front = record {
      front = a ++ g.front.front;
      rest = g.front.rest;
      parts = append_assoc a g.front.front g.front.rest ∙ ap (λ t. a ++ t) g.front.parts;
      written = g.front.written ∙ ap (λ w. appended w g.front.front) f.whole ∙ appended-append before.written a g.front.front;
    };
    due = due_later e before.faults mid.faults now.faults f.quiet g.due;
  }

  -- a write that is cut off: what follows is not written
  pub writes_cut : (a b : List ℕ) (before now : Device) (e : Unwritten) (r : Result U Unwritten)
      → IsErrAnd r (λ d. d ≡ e) → Writes {T = T} a before now (Err e) → Writes (a ++ b) before now r
  writes_cut a b before now e (Ok y) is f = absurd is
  writes_cut a b before now e (Err d) is f = record {
    later = f.later;
    notes = f.notes;
    quiet = tt;
    whole = tt;
    front = record {
      front = f.front.front;
      rest = f.front.rest ++ b;
      parts = sym (append_assoc f.front.front f.front.rest b) ∙ ap (λ t. t ++ b) f.front.parts;
      written = f.front.written;
    };
    due = rw is f.due;
  }

module _ {T : Type 0} where
  -- memory ran out before the first byte
  pub writes_none : (text : List ℕ) (at : Device) (r : Result T Unwritten) → IsErrAnd r (λ d. d ≡ why.Memory) → Writes text at at r
  writes_none text at (Ok y) is = absurd is
  writes_none text at (Err d) is = record {
    later = omega arith;
    notes = refl;
    quiet = tt;
    whole = tt;
    front = record { front = []; rest = text; parts = refl; written = appended-none at.written };
    due = rw is refl;
  }

  -- the empty text
  pub writes_nothing : (at : Device) (x : T) → Writes [] at at (Ok x)
  writes_nothing at x = record { later = omega arith; notes = refl; quiet = refl; whole = appended-none at.written; front = tt; due = tt }

module _ {T U : Type 0} where
  -- the same, of a line that is the first text
  pub line_then : (a b line : List ℕ) (before mid now : Device) (x : T) (r : Result U Unwritten)
      → line ≡ a → Writes line before mid (Ok x) → Writes b mid now r → Writes (a ++ b) before now r
  line_then a b line before mid now x r is f g = rw (← is) (writes_then line b before mid now x r f g)

  pub line_cut : (a b line : List ℕ) (before now : Device) (e : Unwritten) (r : Result U Unwritten)
      → line ≡ a → IsErrAnd r (λ d. d ≡ e) → Writes {T = T} line before now (Err e) → Writes (a ++ b) before now r
  line_cut a b line before now e r is err f = rw (← is) (writes_cut line b before now e r err f)

-- a write that failed
pub writes_fault : {T : Type 0} (text bytes : List ℕ) (before now : Device) → bytes ≡ text → Rose before.faults now.faults → before.faults ≤ now.faults → now.notes ≡ before.notes
    → ((n : ℕ) × (n ≤ length bytes) × (now.written ≡ appended before.written (take n bytes))) → Writes {T = T} text before now (Err why.Fault)
writes_fault text bytes before now same rose later notes (n, within, is) = record {
  later = later;
  notes = notes;
  quiet = tt;
  whole = tt;
  front = record { front = take n bytes; rest = drop n bytes; parts = take-append-drop n bytes ∙ same; written = is };
  due = rose;
}

-- ---- in a loop: once the rest is written, the whole text is
abbrev pub Goes : List ℕ → List ℕ → Device → Device → Type 0
Goes whole rest before now = (last : Device) (r : Result (Unit {0}) Unwritten) → Writes rest now last r → Writes whole before last r

pub goes_on : {T : Type 0} (whole a b rest : List ℕ) (before mid now : Device) (x : T) → Goes whole rest before mid → rest ≡ a ++ b → Writes a mid now (Ok x) → Goes whole b before now
goes_on whole a b rest before mid now x goes is f last r w = goes last r (rw is (writes_then a b mid now last x r f w))

pub goes_cut : {T : Type 0} (whole a b rest : List ℕ) (before mid now : Device) (e : Unwritten) (r : Result (Unit {0}) Unwritten) → Goes whole rest before mid → rest ≡ a ++ b
    → IsErrAnd r (λ d. d ≡ e) → Writes {T = T} a mid now (Err e) → Writes whole before now r
goes_cut whole a b rest before mid now e r goes is err f = goes now r (rw is (writes_cut a b mid now e r err f))

pub ruleset writes = (appended-append)

pub ruleset joins = (line_then, line_cut, writes_then, writes_cut, writes_none)

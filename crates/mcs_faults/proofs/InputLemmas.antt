-- The limits of variables, of inputs and of atoms, as the watch tells them.
use Rattle.std.proofs.Common.{◌≡◌, ℕ, ◌<◌, ◌≤◌, Bool, true, List, map, length, Option, Some, None, refl, sym, ◌∙◌, subst, inl, inr, ◌↔◌, arith, slice_get}
use Rattle.std.specs.Prelude.{IsTrue, nat_eq, not}
use Rattle.std.specs.Option.{option_copied}
use Rattle.std.proofs.lemmas.Bool.Decides.{Decides-eqb, Decides-not}
use Rattle.std.proofs.lemmas.List.{length-map}
use Rattle.std.proofs.lemmas.Option.{same_Some, slice_get_within}
use Rattle.mcs_base.specs.Listings.{IsAmong}
use Rattle.mcs_sets.specs.Sets.{has, size}
use Rattle.mcs_base.proofs.Among.{among_get}
use Rattle.mcs_system.specs.Plain.{Name}
use Rattle.mcs_system.specs.declared.limit.Limit.TheVariants.{Variables, InputsPerContext, AtomsPerContext}
use Rattle.mcs_account.specs.declared.reader.NamedRead as code_read
use Rattle.mcs_account.specs.declared.place.Role.TheVariants as roles
use Rattle.mcs_faults.specs.declared.watch.Watch.{Watch}
use Rattle.mcs_faults.specs.declared.watch.ContextSeen.{ContextSeen}
use Rattle.mcs_faults.specs.declared.watch.Said.{Said}
use Rattle.mcs_grammar.specs.Entries.{Use, EndsRead, AtomOf, Entry}
use Rattle.mcs_grammar.specs.Faults.{NamedRead, WasReadInto, WasAtom, ExceedsLimit}
use Rattle.mcs_account.specs.Images.{About, named_read_of}
use Rattle.mcs_faults.specs.Watching.{ListsEach, IsNumberOf, IsEntryAsked}
use Rattle.mcs_faults.proofs.DifferentLemmas.{values-at}
use Rattle.mcs_faults.proofs.LimitLemmas.{read_said, variables-beyond, inputs-beyond, atoms-beyond, spoken-of}
use Rattle.mcs_faults.proofs.WatchFacts.{one-more, number-there, seen-name, seen-here, seen-none}

module _ (w : Watch) (before : List Use) (m : Entry) (a : About) (s : Said) (asked : IsEntryAsked w before m a s) where
  abbrev variables : List NamedRead
  variables = map named_read_of w.variables.items

  -- the read's number, as it is looked up
  pub variable-number : (n : ℕ) → ((r : code_read.NamedRead) → option_copied s.read ≡ Some r → IsNumberOf variables (named_read_of r) n) → (option_copied s.read ≡ None → n ≡ length w.variables.items) → s.uses.ends_read ≡ true → IsNumberOf variables (read_said a) n
  variable-number n some none ends = at (option_copied s.read) refl
    where
      at : (o : Option code_read.NamedRead) → option_copied s.read ≡ o → IsNumberOf variables (read_said a) n
      at (Some r) e = subst (λ (q : NamedRead). IsNumberOf variables q n) (asked.said.read_is ends r e) (some r e)
      at None e = inr (
        none e ∙ sym (length-map w.variables.items named_read_of),
        λ there.
            let long = asked.said.read_there ends e in
            let was = (asked.watch.variables.1 (read_said a)).0 there in
            let short = asked.watch.short was.0 a.subject.context a.belief was.1 m.token (asked.said.has_atom ends long.0) in
            omega (arith, long.1),
      )

  -- ---- variables
  pub few-variables : length w.variables.items < 64 → ¬ ExceedsLimit Variables before m
  few-variables few h =
      let full = ((one-more variables _ 64 (read_said a) asked.watch.variables).0 ((variables-beyond w before m a s asked).0 h).1).0 in
      let same = length-map w.variables.items named_read_of in
      omega arith

  pub variables-told : (n k : ℕ) → s.uses.ends_read ≡ true → IsNumberOf variables (read_said a) n → k ≡ length w.variables.items → 64 ≤ length w.variables.items → IsTrue (nat_eq n k) ↔ ExceedsLimit Variables before m
  variables-told n k ends number is many =
      let same = length-map w.variables.items named_read_of in
      let few = asked.watch.few.2 in
      let there = number-there variables (read_said a) n number in
      let one = one-more variables _ 64 (read_said a) asked.watch.variables in
      let beyond = variables-beyond w before m a s asked in (
        λ h. beyond.1 (ends, one.1 (omega arith, λ among. let less = there.1 among in let e = (Decides-eqb n k).0 h in omega arith)),
        λ h. (Decides-eqb n k).1 (past n number (one.0 (beyond.0 h).1).1 ∙ same ∙ sym is),
      )
    where
      past : (n : ℕ) → IsNumberOf variables (read_said a) n → ¬ IsAmong (read_said a) variables → n ≡ length variables
      past n (inl here) none = absurd (none (among_get (read_said a) variables n here))
      past n (inr h) none = h.0

  -- ---- inputs
  module _ (c : ContextSeen) (here : slice_get w.contexts.items s.subject.target ≡ Some c) where
    target-is : c.name ≡ a.subject.target
    target-is = seen-name w before asked.watch a.subject.target s.subject.target asked.subject_is.target c here

    input-is : (k : ℕ) → IsTrue (has c.inputs k) ↔ ((r : NamedRead) × (slice_get variables k ≡ Some r) × WasReadInto before a.subject.target r)
    input-is = subst (λ (n : Name). (k : ℕ) → IsTrue (has c.inputs k) ↔ ((r : NamedRead) × (slice_get variables k ≡ Some r) × WasReadInto before n r)) target-is
        (seen-here w before asked.watch a.subject.target s.subject.target asked.subject_is.target c here).inputs

    values : (ys : List NamedRead) × ListsEach ys (WasReadInto before a.subject.target) × (length ys ≡ size c.inputs)
    values = values-at variables (read_said a) c.inputs (WasReadInto before a.subject.target) asked.watch.variables.0 input-is
        (λ r was. (asked.watch.variables.1 r).1 (a.subject.target, was))

    pub few-inputs : size c.inputs < 16 → ¬ ExceedsLimit InputsPerContext before m
    few-inputs few h =
        let full = (one-more values.0 _ 16 (read_said a) values.1).0 ((inputs-beyond w before m a s asked).0 h).1 in
        let long = values.2 in
        omega (arith, full.0)

    -- whether the read is an input already
    pub input-there : (n : ℕ) → IsNumberOf variables (read_said a) n → ((n < 64) × IsTrue (has c.inputs n)) ↔ WasReadInto before a.subject.target (read_said a)
    input-there n number = (λ h. go number ((input-is n).0 h.1), λ was. back number was)
      where
        go : IsNumberOf variables (read_said a) n → ((r : NamedRead) × (slice_get variables n ≡ Some r) × WasReadInto before a.subject.target r) → WasReadInto before a.subject.target (read_said a)
        go (inl is) (r, is', was) = subst (WasReadInto before a.subject.target) (same_Some _ _ (sym is' ∙ is)) was
        go (inr none) (r, is', was) = absurd (let less = slice_get_within variables n r is' in omega (arith, none.0))

        back : IsNumberOf variables (read_said a) n → WasReadInto before a.subject.target (read_said a) → (n < 64) × IsTrue (has c.inputs n)
        back (inl is) was =
            let less = slice_get_within variables n (read_said a) is in
            let same = length-map w.variables.items named_read_of in
            let few = asked.watch.few.2 in
            (omega arith, (input-is n).1 (read_said a, is, was))
        back (inr none) was = absurd (none.1 ((asked.watch.variables.1 (read_said a)).1 (a.subject.target, was)))

    pub inputs-told : (n : ℕ) (b : Bool) → s.uses.ends_read ≡ true → IsNumberOf variables (read_said a) n → IsTrue b ↔ ((n < 64) × IsTrue (has c.inputs n)) → 16 ≤ size c.inputs → IsTrue (not b) ↔ ExceedsLimit InputsPerContext before m
    inputs-told n b ends number tells many =
        let there = input-there n number in
        let is : IsTrue b ↔ WasReadInto before a.subject.target (read_said a) = (λ h. there.0 (tells.0 h), λ was. tells.1 (there.1 was)) in
        let one = one-more values.0 (WasReadInto before a.subject.target) 16 (read_said a) values.1 in
        let among = values.1.1 (read_said a) in
        let long = values.2 in
        let few = (seen-here w before asked.watch a.subject.target s.subject.target asked.subject_is.target c here).few.4 in
        let beyond = inputs-beyond w before m a s asked in
        let tell = Decides-not b is in (
          λ h. beyond.1 (ends, one.1 (omega arith, λ there'. tell.0 h (among.0 there'))),
          λ h. tell.1 (λ was. (one.0 (beyond.0 h).1).1 (among.1 was)),
        )

  pub no-target : slice_get w.contexts.items s.subject.target ≡ None → ¬ ExceedsLimit InputsPerContext before m
  no-target none h =
      let said = (inputs-beyond w before m a s asked).0 h in
      let spoken = spoken-of w before m a s asked (EndsRead a.subject.target a.subject.context a.belief) refl (said.0, refl, refl, refl) in
      seen-none w before asked.watch a.subject.target s.subject.target asked.subject_is.target none spoken.0

  -- ---- atoms
  module _ (c : ContextSeen) (here : slice_get w.contexts.items s.subject.context ≡ Some c) where
    atoms-listed : ListsEach c.atoms (WasAtom before a.subject.context)
    atoms-listed = subst (λ (n : Name). ListsEach c.atoms (WasAtom before n)) (seen-name w before asked.watch a.subject.context s.subject.context asked.subject_is.context c here)
        (seen-here w before asked.watch a.subject.context s.subject.context asked.subject_is.context c here).atoms

    pub few-atoms : length c.atoms < 64 → ¬ ExceedsLimit AtomsPerContext before m
    few-atoms few h =
        let full = (one-more c.atoms _ 64 s.token.now atoms-listed).0 ((atoms-beyond w before m a s asked).0 h).1 in
        omega (arith, full.0)

    pub atoms-told : (n : ℕ) (b : Bool) → s.uses.role ≡ roles.Atom n → IsTrue b ↔ IsAmong s.token.now c.atoms → 64 ≤ length c.atoms → IsTrue (not b) ↔ ExceedsLimit AtomsPerContext before m
    atoms-told n b role tells many =
        let one = one-more c.atoms (WasAtom before a.subject.context) 64 s.token.now atoms-listed in
        let few = (seen-here w before asked.watch a.subject.context s.subject.context asked.subject_is.context c here).few.3 in
        let beyond = atoms-beyond w before m a s asked in
        let tell = Decides-not b tells in (
          λ h. beyond.1 ((n, role), one.1 (omega arith, tell.0 h)),
          λ h. tell.1 (one.0 (beyond.0 h).1).1,
        )

  pub no-atoms : slice_get w.contexts.items s.subject.context ≡ None → ¬ ExceedsLimit AtomsPerContext before m
  no-atoms none h =
      let said = (atoms-beyond w before m a s asked).0 h in
      seen-none w before asked.watch a.subject.context s.subject.context asked.subject_is.context none
      (spoken-of w before m a s asked (AtomOf a.subject.context s.token.now) refl (said.0, refl, refl))

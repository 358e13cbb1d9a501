-- A text that says a valid system keeps the limits on variables and inputs.
use Rattle.std.proofs.Common.{◌≡◌, ℕ, ◌<◌, true, List, [], ◌∷◌, map, take, length, get_or, Option, Some, None, refl, sym, ap, subst, ◌∙◌, inl, inr, arith, slice_get}
use Rattle.std.specs.List.{position}
use Rattle.std.proofs.lemmas.List.{length-map}
use Rattle.std.proofs.lemmas.Option.{get_or_from_slice_get, same_Some}
use Rattle.mcs_base.specs.Listings.{IsAmong}
use Rattle.mcs_base.proofs.ListingLemmas.{members_listing}
use Rattle.mcs_sets.specs.Sets.{has, members}
use Rattle.mcs_base.proofs.Among.{among_map, get_among, among_get}
use Rattle.mcs_base.proofs.Distinct.{distinct_fits}
use Rattle.mcs_system.specs.Plain.{Name}
use Rattle.mcs_system.specs.Plain as plain
use Rattle.mcs_system.specs.Logic.{same_name}
use Rattle.mcs_system.specs.Systems.{variables, IsVariable}
use Rattle.mcs_system.specs.Rows.{inputs_of}
use Rattle.mcs_system.specs.Faults.{IsValid}
use Rattle.mcs_system.specs.declared.limit.Limit.TheVariants.{Variables, InputsPerContext}
use Rattle.mcs_system.proofs.Sameness.{same_read-itself}
use Rattle.mcs_system.proofs.VariableLemmas.{read_is_variable, has-inputs_of}
use Rattle.mcs_system.proofs.ValidLemmas.{few_variables, few_inputs}
use Rattle.mcs_system.proofs.NameLemmas.{position-there}
use Rattle.mcs_grammar.specs.Written.{WrittenPlace, WrittenText}
use Rattle.mcs_grammar.specs.Entries.{Use, EndsRead, Entry, text_entries, uses_of}
use Rattle.mcs_grammar.specs.Saying.{SaysPlace, names_of, SaysSystem}
use Rattle.mcs_grammar.specs.Faults.{AreDifferent, IsOneMore, NamedRead, WasReadInto, WasRead, ExceedsLimit}
use Rattle.mcs_account.specs.Images.{read_in}
use Rattle.mcs_grammar.proofs.TextSplits.{IsSplit, uses-split, among-before, among-here}
use Rattle.mcs_faults.proofs.SaidParts.{in-range, said-read, said-bridge}
use Rattle.mcs_faults.proofs.UsesLemmas.{text_uses, reads-there}

-- ---- one more than the values that were there is no more than there are in all
pub one-more : {A : Type 0} (n : ℕ) (before all : A → Type 0) (x : A) (ys : List A) → IsOneMore n before x → ((y : A) → before y → all y) → all x → ((y : A) → all y → IsAmong y ys) → n < length ys
one-more {A} n before all x ys h later here inside =
    let values : List A = x ∷ h.values in
    let new : AreDifferent values = ((λ there. h.new ((h.all x).0 there)), h.different) in
    let each : (y : A) → IsAmong y values → IsAmong y ys = λ y among. elim among [ inl same ↦ inside y (subst all (sym same) here) | inr there ↦ inside y (later y ((h.all y).0 there)) ] in
    let most = distinct_fits values ys new each in
    omega (arith, h.count)

-- ---- reads by the names of their contexts
named_read : List Name → plain.Read → NamedRead
named_read names q = record { context = get_or names q.context []; belief = q.belief }

-- of the variable of a number
named_at : List Name → Option plain.Read → NamedRead
named_at names None = record { context = []; belief = plain.Truth }
named_at names (Some q) = named_read names q

says-named : (names : List Name) (p : WrittenPlace) (q : plain.Read) → SaysPlace names p q → named_read names q ≡ read_in p
unfolding named_read
says-named names p q h =
    let context : get_or names q.context [] ≡ p.context = get_or_from_slice_get names q.context p.context [] (position-there p.context names q.context h.number) in
    let belief = h.belief in
    cc

-- what is read into a context is a variable of the system, and one of the context's inputs
record IsInput (t : WrittenText) (m : plain.System) (target : Name) (y : NamedRead) : Type 0 where
  into : ℕ
  is_into : position (same_name target) (names_of t.contexts) ≡ Some into
  number : ℕ
  read : plain.Read
  variable : IsVariable m number read
  input : has (inputs_of m into) number ≡ true
  named : named_read (names_of t.contexts) read ≡ y

module _ (t : WrittenText) (m : plain.System) (says : SaysSystem t m) (valid : IsValid m) where
  input-of : (target : Name) (y : NamedRead) → WasReadInto (text_uses t) target y → IsInput t m target y
  input-of target y h =
      let found = (reads-there t target y).0 h in
      let (b, there, said) = said-bridge t m says found.bridge found.is_there in
      let (q, among, place) = said-read (names_of t.contexts) found.bridge b said found.read found.is_read in
      let (k, at) = get_among b m.bridges there in
      let (v, var) = read_is_variable m k b q at among (in-range t m says ((found.read).place).context q.context place.number) in
      record {
        into = b.target;
        is_into = ap (λ (n : Name). position (same_name n) (names_of t.contexts)) (sym found.into) ∙ (said.head).number;
        number = v;
        read = q;
        variable = var;
        input = has-inputs_of m b.target k v b q q at refl among var (same_read-itself q);
        named = says-named (names_of t.contexts) (found.read).place q place ∙ found.says;
      }

  variable-of : (y : NamedRead) → WasRead (text_uses t) y → IsAmong y (map (named_read (names_of t.contexts)) (variables m))
  variable-of y (target, h) =
      let found = input-of target y h in
      subst (λ (z : NamedRead). IsAmong z (map (named_read (names_of t.contexts)) (variables m))) found.named
      (among_map (named_read (names_of t.contexts)) found.read (variables m) (among_get found.read (variables m) found.number found.variable))

  -- the inputs of a context by their names
  inputs_named : ℕ → List NamedRead
  inputs_named i = map (λ v. named_at (names_of t.contexts) (slice_get (variables m) v)) (members (inputs_of m i))

  is-named-input : (target : Name) (i : ℕ) → position (same_name target) (names_of t.contexts) ≡ Some i → (y : NamedRead) → WasReadInto (text_uses t) target y → IsAmong y (inputs_named i)
  unfolding named_at inputs_named
  is-named-input target i is y h =
      let found = input-of target y h in
      let same : found.into ≡ i = same_Some _ _ (sym found.is_into ∙ is) in
      let member : IsAmong found.number (members (inputs_of m i)) = ((members_listing (inputs_of m i)).exactly found.number).1 (ap (λ (j : ℕ). has (inputs_of m j) found.number) (sym same) ∙ found.input) in
      let at : named_at (names_of t.contexts) (slice_get (variables m) found.number) ≡ y = ap (named_at (names_of t.contexts)) found.variable ∙ found.named in
      subst (λ (z : NamedRead). IsAmong z (inputs_named i)) at (among_map (λ v. named_at (names_of t.contexts) (slice_get (variables m) v)) found.number (members (inputs_of m i)) member)

  module _ (k : ℕ) (here : Entry) (is : slice_get (text_entries t) k ≡ Some here) where
    abbrev before : List Use
    before = uses_of (take k (text_entries t))

    split : IsSplit (text_uses t) before here.uses
    split = uses-split (text_entries t) k here is

    later : (target : Name) (y : NamedRead) → WasReadInto before target y → WasReadInto (text_uses t) target y
    later target y = among-before (text_uses t) before here.uses (EndsRead target y.context y.belief) split

    now : (target : Name) (y : NamedRead) → WasReadInto here.uses target y → WasReadInto (text_uses t) target y
    now target y = among-here (text_uses t) before here.uses (EndsRead target y.context y.belief) split

    pub few-variables : ¬ ExceedsLimit Variables before here
    few-variables (target, (r, h, full)) =
        let names : List Name = names_of t.contexts in
        let over = one-more 64 (WasRead before) (WasRead (text_uses t)) r (map (named_read names) (variables m)) full (λ y g. (g.0, later g.0 y g.1)) (target, now target r h) variable-of in
        let most = few_variables m valid in
        omega (arith, length-map (variables m) (named_read names))

    pub few-inputs : ¬ ExceedsLimit InputsPerContext before here
    unfolding inputs_named
    few-inputs (target, (r, h, full)) =
        let first = input-of target r (now target r h) in
        let i : ℕ = first.into in
        let over = one-more 16 (WasReadInto before target) (WasReadInto (text_uses t) target) r (inputs_named i) full (later target) (now target r h) (is-named-input target i first.is_into) in
        let most = few_inputs m valid i (in-range t m says target i first.is_into) in
        omega (arith, length-map (members (inputs_of m i)) (λ v. named_at (names_of t.contexts) (slice_get (variables m) v)))

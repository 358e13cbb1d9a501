-- A text of which all tokens were read, where it may end: what the account has is what the text says, and texts with the
-- same tokens say the same.
use Rattle.std.proofs.Common.{◌≡◌, Bool, true, false, List, [], ◌∷◌, ◌++◌, map, refl, sym, ap, subst, ◌∙◌, true≢false, ℕ, ◌<◌, ◌≤◌, length, Some, None, arith, append-nil, length-append}
use Rattle.mcs_syntax.specs.declared.part.Event.TheVariants.{Took, Told}
use Rattle.mcs_syntax.specs.Grammar.{Means, tokens}
use Rattle.mcs_syntax.specs.Reads.{IsRead}
use Rattle.mcs_system.specs.Plain as plain
use Rattle.mcs_grammar.specs.Entries.{Token, formula_in, text_entries, tokens_of}
use Rattle.mcs_grammar.specs.Saying.{context_in, weight_said, SaysPlace, SaysBridge, Each, positive_places, negative_places}
use Rattle.mcs_productions.specs.Productions.{rules, grammar}
use Rattle.mcs_productions.specs.declared.class.Class.{Class}
use Rattle.mcs_productions.specs.declared.production.Action.{Action}
use Rattle.mcs_productions.specs.declared.production.Action.TheVariants as action
use Rattle.mcs_productions.specs.declared.production.Production.{Production}
use Rattle.mcs_account.specs.Marks.{Marked, marks_for, text_marks}
use Rattle.mcs_account.specs.Account.{Account, told, no_account, accounted, number_of, the_read}
use Rattle.mcs_account.specs.Reading.{AreRead, Events}
use Rattle.mcs_account.proofs.Forward.{Part, text-of}
use Rattle.mcs_account.proofs.Accounts.{accounted-append, weight_in, weight-known, the_rule, bridge_said, read_said, names_in}
use Rattle.mcs_account.proofs.ContextAccounts.{text-accounts}
use Rattle.mcs_account.proofs.FaultTheory.{Whole, is-whole, none-for, events-for}
use Rattle.mcs_account.proofs.Reading.{no-late, same-kinds, same-marks}
use Rattle.mcs_account.specs.Turns.{}
use Rattle.mcs_account.proofs.ReadEnds.{ends_late}
use Rattle.std.specs.Prelude.{cond, nat_lt}
use Rattle.std.specs.List.{position, position_or_len, AllByRecursion}
use Rattle.std.proofs.lemmas.Bool.Decides.{nat_tests}
use Rattle.std.proofs.lemmas.List.{length-map, nil_from_length}
use Rattle.mcs_syntax.proofs.Unique.{one-way}
use Rattle.mcs_system.specs.Plain.{Name}
use Rattle.mcs_system.specs.Logic.{same_name}
use Rattle.mcs_grammar.specs.Written.{WrittenPlace, WrittenBridge, WrittenText, IsText}
use Rattle.mcs_productions.specs.Readable.{reads}
use Rattle.mcs_productions.specs.declared.production.Production.TheVariants as name
use Rattle.mcs_account.specs.Mark.{events_of, tokens_in}
use Rattle.mcs_account.proofs.Tokens.{text-tokens, text-filled}

-- connectives change neither the contexts nor the bridge rules
pub silent-same : (a : Account) (t : Token) (xs : Events) → tokens grammar xs ≡ [] → ends_late xs ≡ false → ((accounted a (marks_for t xs)).contexts ≡ a.contexts) × ((accounted a (marks_for t xs)).bridges ≡ a.bridges)
silent-same a t [] e l = (refl, refl)
silent-same a t (Took c ∷ xs) e l = absurd (cc)
silent-same a t (Told action.EndsRead ∷ xs) e l = absurd (true≢false l)
silent-same a t (Told b ∷ xs) e l = silent-same (told a b) t xs e l

pub record SaysAll (ts : List Token) (ms : Marked) (xs : Events) : Type 0 where
  pub whole : Whole ts ms xs
  pub contexts : (accounted no_account ms).contexts ≡ map context_in whole.text.contexts
  pub bridges : (accounted no_account ms).bridges ≡ map (bridge_said (map context_in whole.text.contexts)) whole.text.bridges

pub says-all : (ts : List Token) (ms : Marked) (rest : Part) (xs : Events) → AreRead ts ms rest → IsRead grammar rest [] xs → SaysAll ts ms xs
says-all ts ms rest xs h r =
    let w = is-whole ts ms rest xs h r in
    let late : ends_late xs ≡ false = ap ends_late (sym (events-for [] xs)) ∙ no-late ts ms rest h (marks_for [] xs) (none-for [] xs r.1).1 (subst (Means Class Action Production rules rest) (sym (events-for [] xs)) r.0) in
    let same = silent-same (accounted no_account ms) [] xs r.1 late in
    let all : accounted no_account (text_marks w.text) ≡ accounted (accounted no_account ms) (marks_for [] xs) = ap (accounted no_account) w.marks ∙ accounted-append no_account ms (marks_for [] xs) in
    let said = text-accounts w.text w.grammar in
    record {
      whole = w;
      contexts = sym same.0 ∙ ap (λ (a : Account). a.contexts) (sym all ∙ said.1);
      bridges = sym same.1 ∙ ap (λ (a : Account). a.bridges) (sym all ∙ said.1);
    }

-- ---- the marks
two-more : (a b x y : List ℕ) → b ≡ a ++ x → a ≡ b ++ y → a ≡ b
two-more a b x y e h =
    let none : length y ≡ 0 = omega (arith, ap (λ (l : List ℕ). length l) e, ap (λ (l : List ℕ). length l) h, length-append a x, length-append b y) in
    h ∙ ap (λ (l : List ℕ). b ++ l) (nil_from_length y none) ∙ append-nil b

module _ (t u : WrittenText) (g : IsText t) (i : IsText u) (same : tokens_of (text_entries t) ≡ tokens_of (text_entries u)) where
  same-tokens : tokens_in (text_marks t) ≡ tokens_in (text_marks u)
  same-tokens = sym (text-tokens t g) ∙ same ∙ text-tokens u i

  kinds-same : tokens grammar (events_of (text_marks t)) ≡ tokens grammar (events_of (text_marks u))
  kinds-same =
      let one = same-kinds (text_marks t) (text_marks u) [] (text-filled t g) (text-filled u i) (sym same-tokens ∙ sym (append-nil (tokens_in (text_marks t)))) in
      let two = same-kinds (text_marks u) (text_marks t) [] (text-filled u i) (text-filled t g) (same-tokens ∙ sym (append-nil (tokens_in (text_marks u)))) in
      two-more _ _ one.0 two.0 one.1 two.1

  pub one-marks : text_marks t ≡ text_marks u
  one-marks =
      let events = one-way grammar reads name.Text (tokens grammar (events_of (text_marks u))) (events_of (text_marks t)) (events_of (text_marks u)) (text-of t g, kinds-same) (text-of u i, refl) in
      same-marks (text_marks t) (text_marks u) [] [] events (ap (λ (l : List Token). l ++ []) same-tokens)

  pub one-contexts : map context_in t.contexts ≡ map context_in u.contexts
  one-contexts = sym (ap (λ (a : Account). a.contexts) (text-accounts t g).1) ∙ ap (λ (ms : Marked). (accounted no_account ms).contexts) one-marks ∙ ap (λ (a : Account). a.contexts) (text-accounts u i).1

  pub one-bridges : map (bridge_said (map context_in t.contexts)) t.bridges ≡ map (bridge_said (map context_in u.contexts)) u.bridges
  one-bridges = sym (ap (λ (a : Account). a.bridges) (text-accounts t g).1) ∙ ap (λ (ms : Marked). (accounted no_account ms).bridges) one-marks ∙ ap (λ (a : Account). a.bridges) (text-accounts u i).1

-- ---- what is said of a rule is what the account has of it
module _ (cs : List plain.Context) (few : length cs ≤ 64) where
  number-said : (n : Name) (k : ℕ) → position (same_name n) (names_in cs) ≡ Some k → k ≡ number_of cs n
  number-said n k is =
      let many : length (names_in cs) ≡ length cs = length-map cs (λ (c : plain.Context). c.name) in
      let at : (position_or_len (same_name n) (names_in cs) < length (names_in cs)) × (k ≡ position_or_len (same_name n) (names_in cs)) = position-at (position_or_len (same_name n) (names_in cs)) (length (names_in cs)) k is in
      let less = at.0 in
      let same : position_or_len (same_name n) (names_in cs) ≡ number_of cs n = omega arith in
      at.1 ∙ same
    where
      position-at : (p n k : ℕ) → cond (nat_lt p n) (Some p) None ≡ Some k → (p < n) × (k ≡ p)
      position-at p n k e = at (nat_lt p n) refl e
        where
          at : (b : Bool) → nat_lt p n ≡ b → cond b (Some p) None ≡ Some k → (p < n) × (k ≡ p)
          at true h e = (grind (arith, nat_tests), cc)
          at false h e = absurd (cc)

  place-said : (p : WrittenPlace) (r : plain.Read) → SaysPlace (names_in cs) p r → r ≡ read_said cs p
  place-said p r h = ap (λ (k : ℕ). the_read k r.belief) (number-said p.context r.context h.number) ∙ ap (the_read (number_of cs p.context)) h.belief

  each-said : (ps : List WrittenPlace) (rs : List plain.Read) → Each (SaysPlace (names_in cs)) ps rs → rs ≡ map (read_said cs) ps
  each-said [] [] h = refl
  each-said [] (r ∷ rs) h = absurd h
  each-said (p ∷ ps) [] h = absurd h
  each-said (p ∷ ps) (r ∷ rs) h = ap (λ (x : plain.Read). x ∷ rs) (place-said p r h.0) ∙ ap (λ (l : List plain.Read). read_said cs p ∷ l) (each-said ps rs h.1)

  weight-same : (w : WrittenBridge) (b : plain.Bridge) → b.weight ≤ 1000000 → b.weight ≡ weight_said w.marks.weight → b.weight ≡ weight_in w.marks.weight
  weight-same w b light e = e ∙ sym (weight-known w.marks.weight (subst (λ (n : ℕ). n ≤ 1000000) e light))

  bridge-said-is : (w : WrittenBridge) (b : plain.Bridge) → b.weight ≤ 1000000 → SaysBridge (names_in cs) w b → b ≡ bridge_said cs w
  bridge-said-is w b light h =
      let n : ℕ = number_of cs w.head.context in
      let f : plain.Formula = formula_in w.head.belief in
      let pos : List plain.Read = map (read_said cs) (positive_places w.reads) in
      let neg : List plain.Read = map (read_said cs) (negative_places w.reads) in
      ap (λ (x : Name). the_rule x b.target b.head b.pos b.neg b.keep b.closed b.weight) h.named
      ∙ ap (λ (x : ℕ). the_rule w.name x b.head b.pos b.neg b.keep b.closed b.weight) (number-said w.head.context b.target h.head.number)
      ∙ ap (λ (x : plain.Formula). the_rule w.name n x b.pos b.neg b.keep b.closed b.weight) h.head.belief
      ∙ ap (λ (x : List plain.Read). the_rule w.name n f x b.neg b.keep b.closed b.weight) (each-said (positive_places w.reads) b.pos h.pos)
      ∙ ap (λ (x : List plain.Read). the_rule w.name n f pos x b.keep b.closed b.weight) (each-said (negative_places w.reads) b.neg h.neg)
      ∙ ap (λ (x : Bool). the_rule w.name n f pos neg x b.closed b.weight) h.keep
      ∙ ap (λ (x : Bool). the_rule w.name n f pos neg w.marks.keep x b.weight) h.closed
      ∙ ap (the_rule w.name n f pos neg w.marks.keep w.marks.closed) (weight-same w b light h.weight)

  pub bridges-said : (ws : List WrittenBridge) (bs : List plain.Bridge) → AllByRecursion (λ (b : plain.Bridge). b.weight ≤ 1000000) bs → Each (SaysBridge (names_in cs)) ws bs → bs ≡ map (bridge_said cs) ws
  bridges-said [] [] light h = refl
  bridges-said [] (b ∷ bs) light h = absurd h
  bridges-said (w ∷ ws) [] light h = absurd h
  bridges-said (w ∷ ws) (b ∷ bs) light h = ap (λ (x : plain.Bridge). x ∷ bs) (bridge-said-is w b light.0 h.0) ∙ ap (λ (l : List plain.Bridge). bridge_said cs w ∷ l) (bridges-said ws bs light.1 h.1)

-- Which faults a token has, by what it is there for and by what the watch tells.
use Rattle.std.proofs.Common.{◌≡◌, ℕ, ◌<◌, true, false, List, refl, sym, ap, ◌∙◌, subst, inl, inr, ◌⊎◌, ◌↔◌, arith}
use Rattle.std.specs.Prelude.{count_by}
use Rattle.mcs_base.specs.Listings.{IsAmong}
use Rattle.mcs_base.specs.Numbers.{value_of_digits}
use Rattle.mcs_base.proofs.Each.{all_among}
use Rattle.mcs_system.specs.Plain.{Name, Formula}
use Rattle.mcs_system.specs.declared.limit.Limit.TheVariants.{Contexts, Bridges, RulesPerContext, Variables, InputsPerContext, AtomsPerContext, DefaultsPerContext, ItemsPerContext, Weight, FormulaSize, OpenParentheses}
use Rattle.mcs_account.specs.declared.place.Role.TheVariants as roles
use Rattle.mcs_faults.specs.declared.watch.Watch.{Watch}
use Rattle.mcs_faults.specs.declared.watch.Said.{Said}
use Rattle.mcs_grammar.specs.Written.{IsNameWord}
use Rattle.mcs_grammar.specs.Entries.{Token, Use, BeginsContext, BeginsBridge, NamesContext, NamesBridge, Weighs, SaysProgram, BeginsItem, BeginsDefault, NamesTarget, NamesSource, BeginsBelief, EndsRead, AtomOf, OpensWithin, Entry}
use Rattle.mcs_grammar.specs.Faults.{names_target, begins_default_of, begins_item_of, NamedRead, WasRead, WasReadInto, WasAtom, IsOneMore, NoContext, Twin, NoAtom, ExceedsLimit, Has}
use Rattle.mcs_account.specs.Images.{About}
use Rattle.mcs_faults.specs.Watching.{IsEntryAsked}
use Rattle.mcs_account.specs.Images.{IsSpokenOf}
use Rattle.mcs_account.proofs.UseLemmas.{is_number, IsIn, entry-in, in-entry, number-in, in-number}

-- the read that ends with the token
abbrev pub read_said : About → NamedRead
read_said a = record { context = a.subject.context; belief = a.belief }

abbrev read_at : Name → Formula → NamedRead
read_at c f = record { context = c; belief = f }

module _ (w : Watch) (before : List Use) (m : Entry) (a : About) (s : Said) (asked : IsEntryAsked w before m a s) where
  abbrev token : Token
  token = s.token.now

  pub use-in : (u : Use) → is_number u ≡ false → IsAmong u m.uses → IsIn a token s.uses u
  use-in u other h = subst (λ (t : Token). IsIn a t s.uses u) asked.token_is (entry-in a m.token s.uses m.uses asked.said.uses_are u other h)

  pub in-use : (u : Use) → is_number u ≡ false → IsIn a token s.uses u → IsAmong u m.uses
  in-use u other h = in-entry a m.token s.uses m.uses asked.said.uses_are u other (subst (λ (t : Token). IsIn a t s.uses u) (sym asked.token_is) h)

  pub spoken-of : (u : Use) → is_number u ≡ false → IsIn a token s.uses u → IsSpokenOf before u
  spoken-of u other h = all_among (IsSpokenOf before) m.uses u asked.spoken (in-use u other h)

  pub contexts-beyond : ExceedsLimit Contexts before m ↔ ((s.uses.role ≡ roles.BeginsContext) × (w.contexts_begun ≡ 64))
  contexts-beyond = (
    λ h. (use-in BeginsContext refl h.0, asked.watch.begun ∙ h.1),
    λ h. (in-use BeginsContext refl h.0, sym asked.watch.begun ∙ h.1),
  )

  pub bridges-beyond : ExceedsLimit Bridges before m ↔ ((s.uses.role ≡ roles.BeginsBridge) × (w.bridges_begun ≡ 64))
  bridges-beyond = (
    λ h. (use-in BeginsBridge refl h.0, asked.watch.bridges_begun ∙ h.1),
    λ h. (in-use BeginsBridge refl h.0, sym asked.watch.bridges_begun ∙ h.1),
  )

  pub rules-beyond : ExceedsLimit RulesPerContext before m ↔ ((s.uses.role ≡ roles.NamesTarget) × (count_by (names_target token) before ≡ 12))
  rules-beyond = (
    λ (c, among, full). let h = use-in (NamesTarget c) refl among in (h.0, subst (λ (x : Name). count_by (names_target x) before ≡ 12) h.1 full),
    λ h. (token, in-use (NamesTarget token) refl (h.0, refl), h.1),
  )

  pub defaults-beyond : ExceedsLimit DefaultsPerContext before m ↔ ((s.uses.role ≡ roles.BeginsDefault) × (count_by (begins_default_of a.subject.context) before ≡ 10))
  defaults-beyond = (
    λ (c, among, full). let h = use-in (BeginsDefault c) refl among in (h.0, subst (λ (x : Name). count_by (begins_default_of x) before ≡ 10) h.1 full),
    λ h. (a.subject.context, in-use (BeginsDefault a.subject.context) refl (h.0, refl), h.1),
  )

  pub items-beyond : ExceedsLimit ItemsPerContext before m ↔ ((s.uses.begins_item ≡ true) × (count_by (begins_item_of a.subject.context) before ≡ 4096))
  items-beyond = (
    λ (c, among, full). let h = use-in (BeginsItem c) refl among in (h.0, subst (λ (x : Name). count_by (begins_item_of x) before ≡ 4096) h.1 full),
    λ h. (a.subject.context, in-use (BeginsItem a.subject.context) refl (h.0, refl), h.1),
  )

  pub atoms-beyond : ExceedsLimit AtomsPerContext before m ↔ (((n : ℕ) × (s.uses.role ≡ roles.Atom n)) × IsOneMore 64 (WasAtom before a.subject.context) token)
  atoms-beyond = (
    λ (c, (x, among, full)). let h = use-in (AtomOf c x) refl among in
        (h.0, subst (λ (y : Name). IsOneMore 64 (WasAtom before a.subject.context) y) h.2 (subst (λ (d : Name). IsOneMore 64 (WasAtom before d) x) h.1 full)),
    λ h. (a.subject.context, (token, in-use (AtomOf a.subject.context token) refl (h.0, refl, refl), h.1)),
  )

  same-read : (r : NamedRead) (d : Name) → IsIn a token s.uses (EndsRead d r.context r.belief) → r ≡ read_said a
  same-read r d h = ap (λ (c : Name). read_at c r.belief) h.2 ∙ ap (read_at a.subject.context) h.3

  pub variables-beyond : ExceedsLimit Variables before m ↔ ((s.uses.ends_read ≡ true) × IsOneMore 64 (WasRead before) (read_said a))
  variables-beyond = (
    λ (d, (r, among, full)). let h = use-in (EndsRead d r.context r.belief) refl among in (h.0, subst (λ (q : NamedRead). IsOneMore 64 (WasRead before) q) (same-read r d h) full),
    λ h. (a.subject.target, (read_said a, in-use (EndsRead a.subject.target a.subject.context a.belief) refl (h.0, refl, refl, refl), h.1)),
  )

  pub inputs-beyond : ExceedsLimit InputsPerContext before m ↔ ((s.uses.ends_read ≡ true) × IsOneMore 16 (WasReadInto before a.subject.target) (read_said a))
  inputs-beyond = (
    λ (d, (r, among, full)). let h = use-in (EndsRead d r.context r.belief) refl among in
        (h.0, subst (λ (q : NamedRead). IsOneMore 16 (WasReadInto before a.subject.target) q) (same-read r d h) (subst (λ (x : Name). IsOneMore 16 (WasReadInto before x) r) h.1 full)),
    λ h. (a.subject.target, (read_said a, in-use (EndsRead a.subject.target a.subject.context a.belief) refl (h.0, refl, refl, refl), h.1)),
  )

  pub weight-beyond : ExceedsLimit Weight before m ↔ ((s.uses.role ≡ roles.Weighs) × (1000000 < value_of_digits token))
  weight-beyond = (
    λ (n, among, heavy). let h = use-in (Weighs n) refl among in (h.0, subst (λ (k : ℕ). 1000000 < k) h.1 heavy),
    λ h. (value_of_digits token, in-use (Weighs (value_of_digits token)) refl (h.0, refl), h.1),
  )

  pub sizes-beyond : ExceedsLimit FormulaSize before m ↔ ((s.uses.role ≡ roles.Atom 513) ⊎ (s.uses.role ≡ roles.Counted 513))
  sizes-beyond = (
    λ h. number-in a m.token s.uses m.uses asked.said.uses_are 513 (omega arith) h,
    λ h. in-number a m.token s.uses m.uses asked.said.uses_are 513 (omega arith) h,
  )

  pub opens-beyond : ExceedsLimit OpenParentheses before m ↔ (s.uses.role ≡ roles.Opens 512)
  opens-beyond = (λ h. use-in (OpensWithin 512) refl h, λ h. in-use (OpensWithin 512) refl h)

  pub no-context-is : Has NoContext before m ↔ (((s.uses.role ≡ roles.NamesTarget) ⊎ (s.uses.role ≡ roles.NamesSource)) × (¬ IsAmong (NamesContext token) before))
  no-context-is = (
    λ (c, named, none). elim named [
      | inl among ↦ let h = use-in (NamesTarget c) refl among in (inl h.0, λ there. none (subst (λ (x : Name). IsAmong (NamesContext x) before) (sym h.1) there))
      | inr among ↦ let h = use-in (NamesSource c) refl among in (inr h.0, λ there. none (subst (λ (x : Name). IsAmong (NamesContext x) before) (sym h.1) there))
    ],
    λ h. (token, elim h.0 [ inl e ↦ inl (in-use (NamesTarget token) refl (e, refl)) | inr e ↦ inr (in-use (NamesSource token) refl (e, refl)) ], h.1),
  )

  pub twin-is : Has Twin before m ↔ (((s.uses.role ≡ roles.NamesContext) × IsAmong (NamesContext token) before) ⊎ ((s.uses.role ≡ roles.NamesBridge) × IsAmong (NamesBridge token) before))
  twin-is = (
    λ h. elim h [
      | inl (c, among, there) ↦ let h' = use-in (NamesContext c) refl among in inl (h'.0, subst (λ (x : Name). IsAmong (NamesContext x) before) h'.1 there)
      | inr (b, among, there) ↦ let h' = use-in (NamesBridge b) refl among in inr (h'.0, subst (λ (x : Name). IsAmong (NamesBridge x) before) h'.1 there)
    ],
    λ h. elim h [
      | inl (e, there) ↦ inl (token, in-use (NamesContext token) refl (e, refl), there)
      | inr (e, there) ↦ inr (token, in-use (NamesBridge token) refl (e, refl), there)
    ],
  )

  pub no-atom-is : Has NoAtom before m ↔ ((s.uses.begins_belief ≡ true) × IsAmong (SaysProgram a.subject.context) before × (¬ IsNameWord token))
  no-atom-is = (
    λ (c, among, program, other). let h = use-in (BeginsBelief c) refl among in
        (h.0, subst (λ (x : Name). IsAmong (SaysProgram x) before) h.1 program, λ word. other (subst IsNameWord (sym asked.token_is) word)),
    λ h. (a.subject.context, in-use (BeginsBelief a.subject.context) refl (h.0, refl), h.1, λ word. h.2 (subst IsNameWord asked.token_is word)),
  )

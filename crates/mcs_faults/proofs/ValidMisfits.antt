-- In the system that a text without faults says, what goes into a program or is read of one is an atom, and defaults are justified.
use Rattle.std.proofs.Common.{◌≡◌, suc, length, arith, true, false, not, ◌&&◌, map, take, Some, refl, sym, ap, ◌∙◌, inr, subst, true≢false}
use Rattle.std.specs.Prelude.{nat_eq, slice_get}
use Rattle.std.specs.List.{list_any, flat_map}
use Rattle.std.proofs.lemmas.Bool.{or_from, true_from_ne_false, ne_eqb}
use Rattle.mcs_base.specs.Listings.{IsAmong}
use Rattle.mcs_base.specs.Words.{is_word, is_reserved}
use Rattle.mcs_base.proofs.Among.{map_among, any_none}
use Rattle.mcs_base.proofs.Booleans.{not_refuted}
use Rattle.mcs_base.proofs.Each.{all_among}
use Rattle.mcs_system.specs.Plain.{Name, DefaultKind, ProgramKind, Context, Read, Bridge, System}
use Rattle.mcs_system.specs.Plain as plain
use Rattle.mcs_system.specs.Faults.{reads_of, is_atom, is_program, is_unjustified, has_unjustified, has_misfit, has_misfits}
use Rattle.mcs_grammar.specs.Written.{WrittenItem, Fact, Rule, WrittenKb, OfKind, WrittenContext, WrittenPlace, IsPlace, WrittenRead, IsWrittenBridge, WrittenText, IsText}
use Rattle.mcs_grammar.specs.Entries.{SaysProgram, formula_in, context_entries, text_entries, uses_of}
use Rattle.mcs_grammar.specs.Saying.{item_in, kb_in, SaysPlace, SaysSystem, names_of}
use Rattle.mcs_grammar.specs.Faults.{NoAtom}
use Rattle.mcs_account.proofs.UsesParts.{IsPlaceOf, OfHead, OfRead, IsProgramKb}
use Rattle.mcs_faults.proofs.Within.{NoFaults}
use Rattle.mcs_account.proofs.EntryLists.{parts-among}
use Rattle.mcs_account.proofs.ContextUses.{kind-among}
use Rattle.mcs_account.proofs.FirstTokens.{first-there, entry-at}
use Rattle.mcs_grammar.proofs.Weights.{written-some}
use Rattle.mcs_grammar.proofs.SaidSystem.{read-written, context-written, bridge-written, context-at}

-- ---- justifications
pub kb-justified : (kb : WrittenKb) → has_unjustified (kb_in kb) ≡ false
kb-justified (OfKind DefaultKind items) = any_none is_unjustified (map item_in items) each
  where
    one : (i : WrittenItem) → is_unjustified (item_in i) ≡ false
    one (Fact f) = refl
    one (Rule d) = ne_eqb (suc (length (map formula_in d.justs))) 0 (λ e. omega arith)

    each : (x : plain.Item) → IsAmong x (map item_in items) → is_unjustified x ≡ false
    each x h = let (i, there, is) = map_among item_in x items h in ap is_unjustified is ∙ one i
kb-justified kb = refl

-- ---- atoms
program-kb : (n : Name) (kb : WrittenKb) → is_program (Some (record { name = n; kb = kb_in kb })) ≡ true → IsProgramKb kb
program-kb n (OfKind ProgramKind rules) e = tt
program-kb n kb e = absurd (true≢false (sym e))

-- a place of a program has an atom
module _ (t : WrittenText) (none : NoFaults (text_entries t)) where
  place-atom : (p : WrittenPlace) (x : WrittenContext) → IsPlaceOf t p → IsPlace p → IsAmong x t.contexts → x.name ≡ p.context → IsProgramKb x.kb → is_atom (formula_in p.belief) ≡ true
  place-atom p x place grammar there named program =
      let (m, in_rules, first) = first-there t p place grammar in
      let (k, at) = entry-at t m in_rules in
      let said : IsAmong (SaysProgram x.name) (uses_of (flat_map context_entries t.contexts)) = parts-among (SaysProgram x.name) context_entries t.contexts x there (inr (inr (kind-among x.name x.kb program))) in
      let said' : IsAmong (SaysProgram p.context) (uses_of (take k (text_entries t))) = subst (λ (n : Name). IsAmong (SaysProgram n) (uses_of (take k (text_entries t)))) named (at.before (SaysProgram x.name) said) in
      first.atom (true_from_ne_false (is_word m.token && not (is_reserved m.token)) (λ e. none k m NoAtom at.there (p.context, first.begins, said', λ word. true≢false (sym word ∙ e))))

module _ (t : WrittenText) (m : System) (grammar : IsText t) (says : SaysSystem t m) (none : NoFaults (text_entries t)) where
  fits : (p : WrittenPlace) (r : Read) → IsPlaceOf t p → IsPlace p → SaysPlace (names_of t.contexts) p r → (is_program (slice_get m.contexts r.context) && not (is_atom r.belief)) ≡ false
  fits p r place h s = not_refuted (is_program (slice_get m.contexts r.context)) (is_atom r.belief) (λ e.
      let (x, at) = context-at t m says r.context p.context s.number in
      ap is_atom s.belief ∙ place-atom t none p x place h at.there at.named (program-kb x.name x.kb (ap is_program (sym at.said_at) ∙ e)))

  rule-fits : (b : Bridge) → IsAmong b m.bridges → has_misfit m.contexts b ≡ false
  rule-fits b h =
      let (w, there, s) = bridge-written t m says b h in
      let parts : IsWrittenBridge w = all_among IsWrittenBridge t.bridges w grammar.1 there in
      or_from (nat_eq b.weight 0) _ (ne_eqb b.weight 0 (λ none. let some = written-some w.marks.weight parts.3 in omega (arith, s.weight, none, some)))
      (or_from (is_program (slice_get m.contexts b.target) && not (is_atom b.head)) (list_any (λ (r : Read). is_program (slice_get m.contexts r.context) && not (is_atom r.belief)) (reads_of b))
      (fits w.head (record { context = b.target; belief = b.head }) (OfHead w there refl) parts.1 s.head)
      (any_none (λ (r : Read). is_program (slice_get m.contexts r.context) && not (is_atom r.belief)) (reads_of b) (λ r here.
      let (q, in_reads, place) = read-written (names_of t.contexts) w b r s here in
      fits q.place r (OfRead w there q in_reads refl) (all_among (λ (y : WrittenRead). IsPlace y.place) w.reads q parts.2 in_reads) place)))

  pub no-misfits : has_misfits m ≡ false
  no-misfits = or_from (list_any (λ (c : Context). has_unjustified c.kb) m.contexts) (list_any (has_misfit m.contexts) m.bridges)
      (any_none (λ (c : Context). has_unjustified c.kb) m.contexts (λ c here. let (x, there, is) = context-written t m says c here in ap (λ (d : Context). has_unjustified d.kb) is ∙ kb-justified x.kb))
      (any_none (has_misfit m.contexts) m.bridges rule-fits)

-- The atoms that a text's tokens are there for.
use Rattle.std.proofs.Common.{◌≡◌, List, ◌++◌, map, refl, sym, inl, inr, ◌⊎◌, ◌↔◌, subst}
use Rattle.std.specs.List.{flat_map}
use Rattle.mcs_base.specs.Listings.{IsAmong}
use Rattle.mcs_base.proofs.Among.{among_map, map_among, among_left, among_right, among_either, among_flat_map, flat_map_among}
use Rattle.mcs_system.specs.Plain.{Name, Kind}
use Rattle.mcs_system.specs.Kinds.{atoms_in}
use Rattle.mcs_account.specs.Items.{formulas_in, rules_in}
use Rattle.mcs_system.specs.Atoms.{kb_atoms}
use Rattle.mcs_grammar.specs.Written.{Written, WrittenOf, WrittenKb, OfKind, WrittenRule, WrittenContext, WrittenPlace, WrittenText}
use Rattle.mcs_grammar.specs.Entries.{Use, AtomOf}
use Rattle.mcs_grammar.specs.Saying.{said_in, kb_in}
use Rattle.mcs_grammar.specs.Faults.{WasAtom}
use Rattle.mcs_account.proofs.UsesParts.{text_uses, IsPlaceOf, OfHead, OfRead, IsAtomOf, kb_formulas, kb_rules}
use Rattle.mcs_account.proofs.FormulaUses.{whole-part}
use Rattle.mcs_account.proofs.ItemUses.{formula_names, rule_names}
use Rattle.mcs_account.proofs.KindItems.{names-in}
use Rattle.mcs_account.proofs.RuleUses.{rule-part}
use Rattle.mcs_account.proofs.ContextUses.{formula_uses, KbUse, OfWord, OfItem, OfDefault, WithinFormula, WithinRule, kb-uses, formula-among, rule-among}
use Rattle.mcs_account.proofs.BridgeUses as bridges
use Rattle.mcs_account.proofs.TextUses.{TextUse, BeginsOne, NamesOne, WithinKb, WithinBridge, text-use, kb-there, bridge-there}

-- ---- the atoms of a knowledge base, by its formulas and its rules
of-item : (a : Name) (k : Kind) (items : List (WrittenOf k)) (i : WrittenOf k) → IsAmong i items → IsAmong a (flat_map formula_names (formulas_in k i) ++ flat_map rule_names (rules_in k i)) → IsAmong a (kb_atoms (kb_in (OfKind k items)))
of-item a k items i there here =
    among_flat_map (atoms_in k) (said_in k i) a (map (said_in k) items) (among_map (said_in k) i items there) (subst (IsAmong a) (sym (names-in k i)) here)

-- an atom of a knowledge base is one of a formula or of a rule
pub data KbAtom (a : Name) (kb : WrittenKb) : Type 0 where
  OfFormula' : (f : Written) (there : IsAmong f (kb_formulas kb)) (here : IsAmong a (formula_names f)) → KbAtom a kb
  OfRule' : (r : WrittenRule) (there : IsAmong r (kb_rules kb)) (here : IsAmong a (rule_names r)) → KbAtom a kb

kb-atom : (a : Name) (kb : WrittenKb) → IsAmong a (kb_atoms (kb_in kb)) → KbAtom a kb
kb-atom a (OfKind k items) h =
    let (x, said, here) = flat_map_among (atoms_in k) a (map (said_in k) items) h in
    let (i, there, is) = map_among (said_in k) x items said in
    at i there (among_either a (flat_map formula_names (formulas_in k i)) (flat_map rule_names (rules_in k i)) (subst (IsAmong a) (names-in k i) (subst (λ y. IsAmong a (atoms_in k y)) is here)))
  where
    at : (i : WrittenOf k) → IsAmong i items → IsAmong a (flat_map formula_names (formulas_in k i)) ⊎ IsAmong a (flat_map rule_names (rules_in k i)) → KbAtom a (OfKind k items)
    at i there (inl l) = let (f, in_item, here) = flat_map_among formula_names a (formulas_in k i) l in OfFormula' f (among_flat_map (formulas_in k) i f items there in_item) here
    at i there (inr l) = let (r, in_item, here) = flat_map_among rule_names a (rules_in k i) l in OfRule' r (among_flat_map (rules_in k) i r items there in_item) here

pub formula-atoms : (a : Name) (kb : WrittenKb) (f : Written) → IsAmong f (kb_formulas kb) → IsAmong a (formula_names f) → IsAmong a (kb_atoms (kb_in kb))
formula-atoms a (OfKind k items) f there here =
    let (i, in_items, in_item) = flat_map_among (formulas_in k) f items there in
    of-item a k items i in_items (among_left a (flat_map formula_names (formulas_in k i)) (flat_map rule_names (rules_in k i)) (among_flat_map formula_names f a (formulas_in k i) in_item here))

pub rule-atoms : (a : Name) (kb : WrittenKb) (r : WrittenRule) → IsAmong r (kb_rules kb) → IsAmong a (rule_names r) → IsAmong a (kb_atoms (kb_in kb))
rule-atoms a (OfKind k items) r there here =
    let (i, in_items, in_item) = flat_map_among (rules_in k) r items there in
    of-item a k items i in_items (among_right a (flat_map formula_names (formulas_in k i)) (flat_map rule_names (rules_in k i)) (among_flat_map rule_names r a (rules_in k i) in_item here))

-- ---- a use of a knowledge base
kb-atom-use : (c a : Name) (n : Name) (kb : WrittenKb) → KbUse n kb (AtomOf c a) → (n ≡ c) × IsAmong a (kb_atoms (kb_in kb))
kb-atom-use c a n kb (OfWord is program) = cc
kb-atom-use c a n kb (OfItem is) = cc
kb-atom-use c a n kb (OfDefault is) = cc
kb-atom-use c a n kb (WithinFormula f there here) = let part = (whole-part n f).are (AtomOf c a) here in (sym part.0, formula-atoms a kb f there part.1)
kb-atom-use c a n kb (WithinRule r there here) = let part = (rule-part n r).are (AtomOf c a) here in (sym part.0, rule-atoms a kb r there part.1)

kb-use-atom : (c a : Name) (x : WrittenContext) (t : WrittenText) → IsAmong x t.contexts → x.name ≡ c → IsAmong a (kb_atoms (kb_in x.kb)) → WasAtom (text_uses t) c a
kb-use-atom c a x t there is h = at (kb-atom a x.kb h)
  where
    at : KbAtom a x.kb → WasAtom (text_uses t) c a
    at (OfFormula' f in_kb here) = kb-there t (AtomOf c a) x there (formula-among x.name x.kb (AtomOf c a) f in_kb ((whole-part x.name f).there (AtomOf c a) (sym is, here)))
    at (OfRule' r in_kb here) = kb-there t (AtomOf c a) x there (rule-among x.name x.kb (AtomOf c a) r in_kb ((rule-part x.name r).there (AtomOf c a) (sym is, here)))

-- ---- of a text
place-atom : (c a : Name) (p : WrittenPlace) (t : WrittenText) → IsPlaceOf t p → IsAmong (AtomOf c a) (formula_uses p.context p.belief) → IsAtomOf t c a
place-atom c a p t place here = let part = (whole-part p.context p.belief).are (AtomOf c a) here in inr (p, place, sym part.0, part.1)

atoms-said : (t : WrittenText) (c a : Name) → TextUse t (AtomOf c a) → IsAtomOf t c a
atoms-said t c a (BeginsOne is) = cc
atoms-said t c a (NamesOne x there is) = cc
atoms-said t c a (WithinKb x there here) = let said = kb-atom-use c a x.name x.kb (kb-uses x.name x.kb (AtomOf c a) here) in inl (x, there, said.0, said.1)
atoms-said t c a (WithinBridge b there (bridges.OfBridge is)) = cc
atoms-said t c a (WithinBridge b there (bridges.OfName is)) = cc
atoms-said t c a (WithinBridge b there (bridges.OfWeight digits said is)) = cc
atoms-said t c a (WithinBridge b there (bridges.OfHead (inl is))) = cc
atoms-said t c a (WithinBridge b there (bridges.OfHead (inr (inl is)))) = cc
atoms-said t c a (WithinBridge b there (bridges.OfHead (inr (inr here)))) = place-atom c a b.head t (OfHead b there refl) here
atoms-said t c a (WithinBridge b there (bridges.OfRead r in_reads (inl is))) = cc
atoms-said t c a (WithinBridge b there (bridges.OfRead r in_reads (inr (inl is)))) = cc
atoms-said t c a (WithinBridge b there (bridges.OfRead r in_reads (inr (inr (inl is))))) = cc
atoms-said t c a (WithinBridge b there (bridges.OfRead r in_reads (inr (inr (inr here))))) = place-atom c a r.place t (OfRead b there r in_reads refl) here

-- a use of the formula of a place
pub place-there : (t : WrittenText) (u : Use) (p : WrittenPlace) → IsPlaceOf t p → IsAmong u (formula_uses p.context p.belief) → IsAmong u (text_uses t)
place-there t u p (OfHead b there is) here = bridge-there t u b there (bridges.OfHead (inr (inr (subst (λ (q : WrittenPlace). IsAmong u (formula_uses q.context q.belief)) (sym is) here))))
place-there t u p (OfRead b there r in_reads is) here = bridge-there t u b there (bridges.OfRead r in_reads (inr (inr (inr (subst (λ (q : WrittenPlace). IsAmong u (formula_uses q.context q.belief)) (sym is) here)))))

pub atoms-there : (t : WrittenText) (c a : Name) → WasAtom (text_uses t) c a ↔ IsAtomOf t c a
atoms-there t c a = (λ h. atoms-said t c a (text-use t (AtomOf c a) h), back)
  where
    back : IsAtomOf t c a → WasAtom (text_uses t) c a
    back (inl (x, there, is, h)) = kb-use-atom c a x t there is h
    back (inr (p, place, is, h)) = place-there t (AtomOf c a) p place ((whole-part p.context p.belief).there (AtomOf c a) (sym is, h))

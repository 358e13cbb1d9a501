use Rattle.std.proofs.Common.{◌∙◌, [], ◌∷◌, ◌++◌, List, map, take, take_all, append_assoc, append-nil, sym, ap, subst}
use Rattle.mcs_base.specs.Listings.{IsAmong}
use Rattle.mcs_base.proofs.Among.{among_at}
use Rattle.mcs_base.proofs.Mapped.{map-take_read}
use Rattle.mcs_system.specs.Plain.{Name, Formula}
use Rattle.mcs_system.specs.Seen.{rule_of}
use Rattle.mcs_system.proofs.NameLemmas.{is_in-among}
use Rattle.mcs_evidence.specs.Programs.{rule_formula}
use Rattle.mcs_evidence.specs.Pushing.{AreNamesOf}
use Rattle.mcs_evidence.specs.Supports.{support_formula}
use Rattle.mcs_meant.specs.Meanings.{AreMeantBy, AddsFormula}
use Rattle.mcs_program.proofs.listing.add_own.Goals as goal

pub loop-atom-init : goal.loop-atom-init
loop-atom-init c = subst (λ (fs : List Formula). AreMeantBy c.args.program.now.atoms.now fs c.args.known.now) (sym (append-nil (map rule_formula (map rule_of c.args.program.now.rules.now)))) c.requires

pub add_support-requires-clause-over : goal.add_support-requires-clause-over
add_support-requires-clause-over c =
    let atoms = c.args.program.now.atoms.now in
    let n = c.atom-item.result in
    let among = subst (λ (m : Name). IsAmong m atoms) (sym c.atom-item.is) (among_at atoms c.loop-atom.atom-index n c.loop-atom-test.true) in
    subst (AreNamesOf atoms) (sym c.from_ref.ensures.value) ((is_in-among n atoms).1 among, tt)

pub add_support-requires-clause-room : goal.add_support-requires-clause-room
add_support-requires-clause-room c = c.loop-atom.invariant.room

pub loop-atom-preserved : goal.loop-atom-preserved
loop-atom-preserved c =
    let atoms = c.args.program.now.atoms.now in
    let rules = map rule_of c.args.program.now.rules.now in
    let i = c.loop-atom.atom-index in
    let n = c.atom-item.result in
    let new = c.add_support.new.known in
    let first = map rule_formula rules in
    let before = map (λ n. support_formula rules (n ∷ [])) (take i atoms) in
    let added : AddsFormula atoms (support_formula rules (n ∷ [])) c.loop-atom.known new = subst (λ (u : List Name). AddsFormula atoms (support_formula rules u) c.loop-atom.known new) c.from_ref.ensures.value c.in_ok-add_support.ensures in
    subst (λ (fs : List Formula). AreMeantBy atoms fs new)
    (append_assoc first before (support_formula rules (n ∷ []) ∷ [])
    ∙ ap (λ (fs : List Formula). first ++ fs) (sym (map-take_read (λ n. support_formula rules (n ∷ [])) atoms i n c.loop-atom-test.true c.atom-item.is)))
    (added (first ++ before) c.loop-atom.invariant)

pub returns : goal.returns
returns c =
    let atoms = c.args.program.now.atoms.now in
    let rules = map rule_of c.args.program.now.rules.now in
    subst (λ (ns : List Name). AreMeantBy atoms (map rule_formula rules ++ map (λ n. support_formula rules (n ∷ [])) ns) c.loop-atom.known) (take_all c.loop-atom.atom-index atoms c.loop-atom-test.false) c.loop-atom.invariant

-- What an accepted certificate shows.
use Rattle.std.proofs.Common.{◌≡◌, ℕ, Bool, false, IsTrue, List, [], ◌∷◌, ◌++◌, map, sym, ap, ◌∙◌, ◌↔◌, subst, slice_get, Some}
use Rattle.mcs_sets.specs.Orders.{StateBefore}
use Rattle.mcs_sets.proofs.SetLemmas.{StateBefore-asymmetric}
use Rattle.mcs_base.specs.Listings.{IsListing}
use Rattle.mcs_base.proofs.Each.{all_append}
use Rattle.mcs_base.proofs.ListingLemmas.{same_listing}
use Rattle.mcs_system.specs.Plain.{Name, Formula, Atom, Kb, OfKind, Context, System}
use Rattle.mcs_system.specs.Atoms.{atoms_of}
use Rattle.mcs_system.specs.Faults.{IsValid, has_twins}
use Rattle.mcs_system.specs.Logic.{told_to, with_heads}
use Rattle.mcs_system.specs.Systems.{variables_of, heads_into, IsAcceptedPart}
use Rattle.mcs_system.specs.Views.{IsAcceptedView, at_places, beliefs_at}
use Rattle.mcs_cnf.specs.ClauseLists.{AreOver}
use Rattle.mcs_cnf.proofs.OverLemmas.{context_atoms}
use Rattle.mcs_evidence.specs.Pushing.{AreNamesOf}
use Rattle.mcs_laws.proofs.Views.{view_listings}
use Rattle.mcs_asking.specs.Certificates.{Certificate, IsAccepted, IsAcceptedFor}
use Rattle.mcs_asking.specs.Kinds.{IsOverIn, IsOverKb, AreOfKind}
use Rattle.mcs_asking.specs.Laws.{AcceptedAnswersAreRight}
pub use Rattle.mcs_asking.proofs.KindItems.{with_heads_over, atoms_over}
use Rattle.mcs_asking.proofs.KindItems.{told_over, sound_in}
use Rattle.mcs_asking.proofs.CoverLemmas.{own_over, heads_over, beliefs_over}
use Rattle.mcs_asking.proofs.KindLemmas.{beliefs_of_kind}

-- ---- names
pub names_over : (names ns : List Name) (fs : List Formula) → map Atom ns ≡ fs → AreOver names fs → AreNamesOf names ns
names_over names ns fs same over = go ns (subst (AreOver names) (sym same) over)
  where
    go : (ns : List Name) → AreOver names (map Atom ns) → AreNamesOf names ns
    go [] h = tt
    go (n ∷ ns) h = (h.0, go ns h.1)

-- ---- the views that are shown
pub shown_listing : (names : List Name) (kb : Kb) (heads beliefs : List Formula) (views : List ℕ) (cert : Certificate) → has_twins names ≡ false → IsOverKb names kb → AreOver names heads → AreOver names beliefs → AreOfKind kb beliefs
    → IsAcceptedFor names (with_heads kb heads) beliefs views cert → IsListing (IsAcceptedView (with_heads kb heads) beliefs) StateBefore views
shown_listing names (OfKind k items) heads beliefs views cert single over told asked fit shown =
    sound_in k names (items ++ told_to k heads) beliefs views cert single (all_append (IsOverIn k names) items (told_to k heads) over (told_over k names heads told)) asked fit shown

-- a certificate shows no two lists of views
pub shown_once : (names : List Name) (kb : Kb) (heads beliefs : List Formula) (views others : List ℕ) (cert : Certificate) → has_twins names ≡ false → IsOverKb names kb → AreOver names heads → AreOver names beliefs → AreOfKind kb beliefs
    → IsAcceptedFor names (with_heads kb heads) beliefs views cert → IsAcceptedFor names (with_heads kb heads) beliefs others cert → views ≡ others
shown_once names kb heads beliefs views others cert single over told asked fit shown shown' =
    same_listing StateBefore StateBefore-asymmetric (IsAcceptedView (with_heads kb heads) beliefs) views others
    (shown_listing names kb heads beliefs views cert single over told asked fit shown)
    (shown_listing names kb heads beliefs others cert single over told asked fit shown')

pub accepted_right : AcceptedAnswersAreRight
accepted_right m i x outputs cert valid a =
    let c : Context = a.context in
    let listing = shown_listing (atoms_of m i) c.kb (heads_into m i x) (beliefs_at m (variables_of m i)) a.views cert (context_atoms m i).0 (own_over m i c a.is_it) (heads_over m i x) (beliefs_over m i) (beliefs_of_kind m valid i c a.is_it) a.shown in
    subst (λ (xs : List ℕ). IsListing (IsAcceptedPart m i x) StateBefore xs) (sym a.outputs_are) (view_listings m i x c a.views a.is_it listing)

-- ---- what is accepted of a context
module _ (m : System) (i x : ℕ) (outputs : List ℕ) (cert : Certificate) (c : Context) (is : slice_get m.contexts i ≡ Some c) where
  own : (a : IsAccepted m i x outputs cert) → a.context ≡ c
  own a = let e : Some a.context ≡ Some c = sym a.is_it ∙ is in cc

  shown_there : (a : IsAccepted m i x outputs cert) → IsAcceptedFor (atoms_of m i) (with_heads c.kb (heads_into m i x)) (beliefs_at m (variables_of m i)) a.views cert
  shown_there a = subst (λ (d : Context). IsAcceptedFor (atoms_of m i) (with_heads d.kb (heads_into m i x)) (beliefs_at m (variables_of m i)) a.views cert) (own a) a.shown

  pub accepted_none : ((views : List ℕ) → ¬ IsAcceptedFor (atoms_of m i) (with_heads c.kb (heads_into m i x)) (beliefs_at m (variables_of m i)) views cert) → ¬ IsAccepted m i x outputs cert
  accepted_none none a = none a.views (shown_there a)

  pub accepted_views : (views : List ℕ) (b : Bool) → IsValid m → IsAcceptedFor (atoms_of m i) (with_heads c.kb (heads_into m i x)) (beliefs_at m (variables_of m i)) views cert
      → IsTrue b ↔ (map (at_places (variables_of m i)) views ≡ outputs) → IsTrue b ↔ IsAccepted m i x outputs cert
  accepted_views views b valid shown tells = (
    λ h. record { context = c; is_it = is; views = views; shown = shown; outputs_are = sym (tells.0 h) },
    λ a. tells.1 (ap (map (at_places (variables_of m i))) (shown_once (atoms_of m i) c.kb (heads_into m i x) (beliefs_at m (variables_of m i)) views a.views cert (context_atoms m i).0 (own_over m i c is) (heads_over m i x) (beliefs_over m i)
        (beliefs_of_kind m valid i c is) shown (shown_there a)) ∙ sym a.outputs_are),
  )

-- what is said of names, heads and beliefs is said of equal ones
pub as_asked : (P : List Name → List Formula → List Formula → Type 0) (names names' : List Name) (heads heads' beliefs beliefs' : List Formula) → names ≡ names' → heads ≡ heads' → beliefs ≡ beliefs' → P names heads beliefs → P names' heads' beliefs'
as_asked P names names' heads heads' beliefs beliefs' e1 e2 e3 h =
    subst (λ (ns : List Name). P ns heads' beliefs') e1 (subst (λ (hs : List Formula). P names hs beliefs') e2 (subst (λ (bs : List Formula). P names heads bs) e3 h))

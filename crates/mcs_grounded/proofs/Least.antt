-- What is derived on a cone bounds what a context of a reduct accepts, from below and from above.
use Rattle.std.proofs.Common.{◌≡◌, Bool, true, false, not, ◌||◌, List, [], ◌∷◌, ◌++◌, filter, inl, inr, refl, sym, ◌∙◌, subst, true≢false}
use Rattle.std.proofs.lemmas.Bool.{and_parts, and_from, or_cases, not-true, false_from_ne_true}
use Rattle.std.specs.List.{AllByRecursion, list_any}
use Rattle.mcs_base.specs.Listings.{IsAmong}
use Rattle.mcs_base.proofs.Among.{among_filter, filter_among}
use Rattle.mcs_base.proofs.Each.{all_among}
use Rattle.mcs_system.specs.Plain.{Name, Formula, Atom, ProgramRule, Kb, Classical, Program}
use Rattle.mcs_system.specs.Logic.{is_in, BeliefSet, Theory, Atoms, Believes, Accepts, with_heads, satisfies, IsAnswerSet}
use Rattle.mcs_system.proofs.NameLemmas.{is_in-among, is_in-filter}
use Rattle.mcs_evidence.proofs.Models.{all_in, any_in, all_in_each, all_in_from, any_in_from, none_in, none_in_from, satisfies_from, satisfies_head}
use Rattle.mcs_reduct.specs.Plain.{is_plain}
use Rattle.mcs_reduct.specs.Reducts.{kb_reduct}
use Rattle.mcs_grounded.specs.Derivations.{rules_for, IsBodyWithin}
use Rattle.mcs_reduct.proofs.Accepted.{normal_rules, follows_from_more, append_more, same_consequences}
use Rattle.mcs_reduct.proofs.Programs.{Models, AreNormal, reduced, least_of, one_head, in_head, head_in}

-- ---- bounds of the answer set, on a cone
module _ (cone : List Name) (rules : List ProgramRule) (normal : AreNormal rules) (bodies : AllByRecursion (IsBodyWithin cone) (rules_for cone rules)) where
  for_normal : AreNormal (rules_for cone rules)
  for_normal r among = normal r (filter_among (λ (r : ProgramRule). list_any (λ n. is_in n cone) r.head) r rules among).0

  body_of : (r : ProgramRule) → IsAmong r (rules_for cone rules) → IsBodyWithin cone r
  body_of r among = all_among (IsBodyWithin cone) (rules_for cone rules) r bodies among

  -- what is reduced by more, of the cone, has less
  pub bounded_below : (a against : List Name) (hs hs' : List Formula) → ((f : Formula) → IsAmong f hs → IsAmong f hs') → ((n : Name) → is_in n cone ≡ true → is_in n a ≡ true → is_in n against ≡ true)
      → (c d : List Name) → IsAnswerSet (reduced against (rules_for cone rules) hs) c → IsAnswerSet (reduced a rules hs') d → (n : Name) → is_in n c ≡ true → is_in n d ≡ true
  bounded_below a against hs hs' more above c d of_c of_d = (least_of against (rules_for cone rules) hs for_normal c of_c).least d (record {
    each = λ r among left. whole.each r (filter_among (λ (r : ProgramRule). list_any (λ n. is_in n cone) r.head) r rules among).0 (none_in_from a r.neg (λ n here. false_from_ne_true (is_in n a) (λ inside.
        true≢false (sym (above n (all_among (λ k. is_in k cone ≡ true) r.neg n (body_of r among).1 ((is_in-among n r.neg).0 here)) inside) ∙ none_in against r.neg n left here))));
    heads = λ n among. whole.heads n (more (Atom n) among);
  })
    where
      whole : Models a rules hs' d
      whole = (least_of a rules hs' normal d of_d).model

  -- what is reduced by fewer has, on the cone, more
  pub bounded_above : (a against : List Name) (hs hs' : List Formula) → ((f : Formula) → IsAmong f hs' → IsAmong f hs) → ((n : Name) → is_in n against ≡ true → is_in n a ≡ true)
      → (c d : List Name) → IsAnswerSet (reduced against (rules_for cone rules) hs) c → IsAnswerSet (reduced a rules hs') d → (n : Name) → is_in n cone ≡ true → is_in n d ≡ true → is_in n c ≡ true
  bounded_above a against hs hs' more below c d of_c of_d n known here = on_cone n known ((and_parts (is_in n d) (keeps n) (sym (is_in-filter keeps n d) ∙ (least_of a rules hs' normal d of_d).least smaller small n here)).1)
    where
      of_cone : Models against (rules_for cone rules) hs c
      of_cone = (least_of against (rules_for cone rules) hs for_normal c of_c).model

      whole : Models a rules hs' d
      whole = (least_of a rules hs' normal d of_d).model

      -- what is outside the cone, or in c
      keeps : Name → Bool
      keeps k = not (is_in k cone) || is_in k c

      smaller : List Name
      smaller = filter keeps d

      on_cone : (k : Name) → is_in k cone ≡ true → (not (is_in k cone) || is_in k c) ≡ true → is_in k c ≡ true
      on_cone k inside kept = elim (or_cases (not (is_in k cone)) (is_in k c) kept) [ inl out ↦ absurd (true≢false (sym inside ∙ not-true (is_in k cone) out)) | inr there ↦ there ]

      in_smaller : (k : Name) → is_in k smaller ≡ true → (is_in k d ≡ true) × ((not (is_in k cone) || is_in k c) ≡ true)
      in_smaller k h = and_parts (is_in k d) (keeps k) (sym (is_in-filter keeps k d) ∙ h)

      smaller_has : (k : Name) → is_in k d ≡ true → (is_in k cone ≡ true → is_in k c ≡ true) → is_in k smaller ≡ true
      smaller_has k in_d if_cone = is_in-filter keeps k d ∙ and_from (is_in k d) (keeps k) in_d (at (is_in k cone) if_cone)
        where
          at : (v : Bool) → (v ≡ true → is_in k c ≡ true) → (not v || is_in k c) ≡ true
          at true h = h refl
          at false h = refl

      -- on the cone, the head of a rule of the reduct is in c where the body is there
      head_there : (r : ProgramRule) (h : Name) → IsAmong r rules → any_in a r.neg ≡ false → r.head ≡ h ∷ [] → all_in smaller r.pos ≡ true → is_in h cone ≡ true → is_in h c ≡ true
      head_there r h among left head body on =
          let own = among_filter (λ (r : ProgramRule). list_any (λ n. is_in n cone) r.head) r rules among (any_in_from cone r.head h (in_head r h head) on) in
          let unblocked = none_in_from against r.neg (λ k inside. false_from_ne_true (is_in k against) (λ known. true≢false (sym (below k known) ∙ none_in a r.neg k left inside))) in
          let known = λ (p : Name) (inside : is_in p r.pos ≡ true). all_among (λ k. is_in k cone ≡ true) r.pos p (body_of r own).0 ((is_in-among p r.pos).0 inside) in
          head_in c r h head (satisfies_head c r (of_cone.each r own unblocked) (all_in_from c r.pos (λ p inside. on_cone p (known p inside) (in_smaller p (all_in_each smaller r.pos body p inside)).1)))

      each : (r : ProgramRule) → IsAmong r rules → any_in a r.neg ≡ false → satisfies smaller r ≡ true
      each r among left = satisfies_from smaller r (λ body.
          let (h, head) = one_head r (normal r among) in
          let in_d = head_in d r h head (satisfies_head d r (whole.each r among left) (all_in_from d r.pos (λ p inside. (in_smaller p (all_in_each smaller r.pos body p inside)).0))) in
          any_in_from smaller r.head h (in_head r h head) (smaller_has h in_d (λ on. head_there r h among left head body on)))

      small : Models a rules hs' smaller
      small = record { each = each; heads = λ k among. smaller_has k (whole.heads k among) (λ on. of_cone.heads k (more (Atom k) among)) }

-- ---- what a context derives, as a belief set
abbrev pub IsDerivedSet : List Name → List Name → Kb → List Formula → BeliefSet → Type 0
IsDerivedSet cone names (Classical fs) hs d = d ≡ Theory (fs ++ hs)
IsDerivedSet cone names (Program rules) hs d = (a : List Name) × (d ≡ Atoms a) × IsAnswerSet (reduced names (rules_for cone rules) hs) a
IsDerivedSet cone names kb hs d = ⊥

-- the bodies of the rules for the cone are within it
abbrev pub HasBodies : List Name → Kb → Type 0
HasBodies cone (Program rules) = AllByRecursion (IsBodyWithin cone) (rules_for cone rules)
HasBodies cone kb = Unit {0}

-- a belief of a program is an atom of the cone
abbrev pub IsOfCone : List Name → Kb → Formula → Type 0
IsOfCone cone (Program rules) p = (n : Name) → p ≡ Atom n → is_in n cone ≡ true
IsOfCone cone kb p = Unit {0}

pub derived_below : (cone a against : List Name) (kb : Kb) (hs hs' : List Formula) → is_plain kb ≡ true → HasBodies cone kb → ((f : Formula) → IsAmong f hs → IsAmong f hs')
    → ((n : Name) → is_in n cone ≡ true → is_in n a ≡ true → is_in n against ≡ true)
    → (d f : BeliefSet) → IsDerivedSet cone against kb hs d → Accepts (with_heads (kb_reduct a kb) hs') f → (p : Formula) → Believes d p → Believes f p
derived_below cone a against (Classical fs) hs hs' plain bodies more above d (Theory g) is of_f p h =
    (same_consequences g (fs ++ hs') p of_f).1 (follows_from_more (fs ++ hs) (fs ++ hs') p (append_more fs hs hs' more) (subst (λ (e : BeliefSet). Believes e p) is h))
derived_below cone a against (Classical fs) hs hs' plain bodies more above d (Atoms g) is of_f p h = absurd of_f
derived_below cone a against (Program rules) hs hs' plain bodies more above d (Theory g) is of_f p h = absurd of_f
derived_below cone a against (Program rules) hs hs' plain bodies more above d (Atoms g) (c, is, of_c) of_f p h = at p (subst (λ (e : BeliefSet). Believes e p) is h)
  where
    at : (p : Formula) → Believes (Atoms c) p → Believes (Atoms g) p
    at (Atom n) h = bounded_below cone rules (normal_rules rules plain) bodies a against hs hs' more above c g of_c of_f n h
    at p h = absurd h
derived_below cone a against kb hs hs' plain bodies more above d f is of_f p h = absurd is

pub derived_above : (cone a against : List Name) (kb : Kb) (hs hs' : List Formula) → is_plain kb ≡ true → HasBodies cone kb → ((f : Formula) → IsAmong f hs' → IsAmong f hs)
    → ((n : Name) → is_in n against ≡ true → is_in n a ≡ true)
    → (d f : BeliefSet) → IsDerivedSet cone against kb hs d → Accepts (with_heads (kb_reduct a kb) hs') f → (p : Formula) → IsOfCone cone kb p → Believes f p → Believes d p
derived_above cone a against (Classical fs) hs hs' plain bodies more below d (Theory g) is of_f p known h =
    subst (λ (e : BeliefSet). Believes e p) (sym is) (follows_from_more (fs ++ hs') (fs ++ hs) p (append_more fs hs' hs more) ((same_consequences g (fs ++ hs') p of_f).0 h))
derived_above cone a against (Classical fs) hs hs' plain bodies more below d (Atoms g) is of_f p known h = absurd of_f
derived_above cone a against (Program rules) hs hs' plain bodies more below d (Theory g) is of_f p known h = absurd of_f
derived_above cone a against (Program rules) hs hs' plain bodies more below d (Atoms g) (c, is, of_c) of_f p known h = subst (λ (e : BeliefSet). Believes e p) (sym is) (at p known h)
  where
    at : (p : Formula) → ((n : Name) → p ≡ Atom n → is_in n cone ≡ true) → Believes (Atoms g) p → Believes (Atoms c) p
    at (Atom n) known h = bounded_above cone rules (normal_rules rules plain) bodies a against hs hs' more below c g of_c of_f n (known n refl) h
    at p known h = absurd h
derived_above cone a against kb hs hs' plain bodies more below d f is of_f p known h = absurd is

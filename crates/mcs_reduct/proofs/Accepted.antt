-- What plain knowledge bases accept with heads in a reduct: with more heads more, and always something.
use Rattle.std.proofs.Common.{◌≡◌, true, List, [], ◌∷◌, ◌++◌, inl, inr, ◌↔◌, refl, sym, ap, ◌∙◌, true≢false}
use Rattle.std.proofs.lemmas.Bool.{and_parts}
use Rattle.std.specs.List.{AllByRecursion, list_all}
use Rattle.mcs_base.specs.Listings.{IsAmong}
use Rattle.mcs_base.proofs.Among.{among_either, among_left, among_right}
use Rattle.mcs_base.proofs.Each.{all_among, all_from_among}
use Rattle.mcs_system.specs.Plain.{Name, Formula, Atom, ProgramRule, Kb, Classical, Program}
use Rattle.mcs_system.specs.Logic.{is_in, BeliefSet, Theory, Atoms, Believes, Accepts, SameModels, Entails, with_heads, IsAnswerSet}
use Rattle.mcs_system.proofs.Consequence.{member_follows, follows_through}
use Rattle.mcs_system.proofs.NameLemmas.{is_in-among}
use Rattle.mcs_reduct.specs.Plain.{is_plain, has_one_head}
use Rattle.mcs_reduct.specs.Reducts.{kb_reduct}
use Rattle.mcs_reduct.specs.Grounded.{LiesWithin}
use Rattle.mcs_reduct.proofs.Programs.{AreNormal, reduced, least_of, answer_of, least_exists, models_of_more}

-- the rules of a plain program are normal
pub normal_rules : (rules : List ProgramRule) → is_plain (Program rules) ≡ true → AreNormal rules
normal_rules [] plain r among = absurd among
normal_rules (s ∷ rules) plain r (inl same) = ap has_one_head same ∙ (and_parts (has_one_head s) (list_all has_one_head rules) plain).0
normal_rules (s ∷ rules) plain r (inr later) = normal_rules rules (and_parts (has_one_head s) (list_all has_one_head rules) plain).1 r later

-- ---- formulas
-- what the theory of fs believes follows from fs with more
pub follows_from_more : (fs gs : List Formula) (p : Formula) → ((f : Formula) → IsAmong f fs → IsAmong f gs) → Entails fs p → Entails gs p
follows_from_more fs gs p more follows = follows_through gs fs p (all_from_among (Entails gs) fs (λ f among. member_follows gs f (more f among))) follows

pub append_more : (fs hs hs' : List Formula) → ((f : Formula) → IsAmong f hs → IsAmong f hs') → (f : Formula) → IsAmong f (fs ++ hs) → IsAmong f (fs ++ hs')
append_more fs hs hs' more f among = elim (among_either f fs hs among) [ inl own ↦ among_left f fs hs' own | inr told ↦ among_right f fs hs' (more f told) ]

pub same_consequences : (e fs : List Formula) (p : Formula) → SameModels e fs → Entails e p ↔ Entails fs p
same_consequences e fs p same = (λ h a holds. h a (same a ∙ holds), λ h a holds. h a (sym (same a) ∙ holds))

-- ---- with more heads more is believed
module _ (a : List Name) (kb : Kb) (hs hs' : List Formula) (more : (f : Formula) → IsAmong f hs → IsAmong f hs') where
  within_formulas : (fs e g : List Formula) → SameModels e (fs ++ hs) → SameModels g (fs ++ hs') → AllByRecursion (Entails g) e
  within_formulas fs e g of_e of_g = all_from_among (Entails g) e (λ f among.
      (same_consequences g (fs ++ hs') f of_g).1 (follows_from_more (fs ++ hs) (fs ++ hs') f (append_more fs hs hs' more) ((same_consequences e (fs ++ hs) f of_e).0 (member_follows e f among))))

  within_programs : (rules : List ProgramRule) → AreNormal rules → (c d : List Name) → IsAnswerSet (reduced a rules hs) c → IsAnswerSet (reduced a rules hs') d → (n : Name) → is_in n c ≡ true → is_in n d ≡ true
  within_programs rules normal c d of_c of_d = (least_of a rules hs normal c of_c).least d (models_of_more a rules hs hs' d more (least_of a rules hs' normal d of_d).model)

  pub lies_within : is_plain kb ≡ true → (b c : BeliefSet) → Accepts (with_heads (kb_reduct a kb) hs) b → Accepts (with_heads (kb_reduct a kb) hs') c → LiesWithin b c
  lies_within plain b c of_b of_c = at kb plain b c of_b of_c
    where
      at : (kb : Kb) → is_plain kb ≡ true → (b c : BeliefSet) → Accepts (with_heads (kb_reduct a kb) hs) b → Accepts (with_heads (kb_reduct a kb) hs') c → LiesWithin b c
      at (Classical fs) plain (Theory e) (Theory g) of_b of_c = within_formulas fs e g of_b of_c
      at (Classical fs) plain (Theory e) (Atoms d) of_b of_c = absurd of_c
      at (Classical fs) plain (Atoms c) d of_b of_c = absurd of_b
      at (Program rules) plain (Theory e) d of_b of_c = absurd of_b
      at (Program rules) plain (Atoms c) (Theory g) of_b of_c = absurd of_c
      at (Program rules) plain (Atoms c) (Atoms d) of_b of_c = all_from_among (λ n. is_in n d ≡ true) c (λ n among. within_programs rules (normal_rules rules plain) c d of_b of_c n ((is_in-among n c).1 among))
      at kb plain b c of_b of_c = absurd (true≢false (sym plain))

  -- and all that the one believes the other does
  pub believes_more : is_plain kb ≡ true → (b c : BeliefSet) → Accepts (with_heads (kb_reduct a kb) hs) b → Accepts (with_heads (kb_reduct a kb) hs') c → (p : Formula) → Believes b p → Believes c p
  believes_more plain b c of_b of_c p = at kb plain b c of_b of_c p
    where
      at : (kb : Kb) → is_plain kb ≡ true → (b c : BeliefSet) → Accepts (with_heads (kb_reduct a kb) hs) b → Accepts (with_heads (kb_reduct a kb) hs') c → (p : Formula) → Believes b p → Believes c p
      at (Classical fs) plain (Theory e) (Theory g) of_b of_c p h = follows_through g e p (within_formulas fs e g of_b of_c) h
      at (Classical fs) plain (Theory e) (Atoms d) of_b of_c p h = absurd of_c
      at (Classical fs) plain (Atoms c) d of_b of_c p h = absurd of_b
      at (Program rules) plain (Theory e) d of_b of_c p h = absurd of_b
      at (Program rules) plain (Atoms c) (Theory g) of_b of_c p h = absurd of_c
      at (Program rules) plain (Atoms c) (Atoms d) of_b of_c (Atom n) h = within_programs rules (normal_rules rules plain) c d of_b of_c n h
      at (Program rules) plain (Atoms c) (Atoms d) of_b of_c p h = absurd h
      at kb plain b c of_b of_c p h = absurd (true≢false (sym plain))

-- where one lies within the other and both are of one sort, what it believes the other does
pub within_believes : (a : List Name) (kb : Kb) (hs hs' : List Formula) (b c : BeliefSet) → is_plain kb ≡ true → Accepts (with_heads (kb_reduct a kb) hs) b → Accepts (with_heads (kb_reduct a kb) hs') c
    → LiesWithin b c → (p : Formula) → Believes b p → Believes c p
within_believes a (Classical fs) hs hs' (Theory e) (Theory g) plain of_b of_c within p h = follows_through g e p within h
within_believes a (Classical fs) hs hs' (Theory e) (Atoms d) plain of_b of_c within p h = absurd of_c
within_believes a (Classical fs) hs hs' (Atoms c) d plain of_b of_c within p h = absurd of_b
within_believes a (Program rules) hs hs' (Theory e) d plain of_b of_c within p h = absurd of_b
within_believes a (Program rules) hs hs' (Atoms c) (Theory g) plain of_b of_c within p h = absurd of_c
within_believes a (Program rules) hs hs' (Atoms c) (Atoms d) plain of_b of_c within (Atom n) h = all_among (λ k. is_in k d ≡ true) c n within ((is_in-among n c).0 h)
within_believes a (Program rules) hs hs' (Atoms c) (Atoms d) plain of_b of_c within p h = absurd h
within_believes a kb hs hs' b c plain of_b of_c within p h = absurd (true≢false (sym plain))

-- ---- something is accepted
pub accepts_some : (a : List Name) (kb : Kb) (hs : List Formula) → is_plain kb ≡ true → (b : BeliefSet) × Accepts (with_heads (kb_reduct a kb) hs) b
accepts_some a (Classical fs) hs plain = (Theory (fs ++ hs), λ x. refl)
accepts_some a (Program rules) hs plain = let (c, least) = least_exists a rules hs (normal_rules rules plain) in (Atoms c, answer_of a rules hs c least)
accepts_some a kb hs plain = absurd (true≢false (sym plain))

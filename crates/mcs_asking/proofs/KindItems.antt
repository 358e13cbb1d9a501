-- What is said of the items of each kind, and of what a certificate of each kind shows: a line for each kind.
use Rattle.std.proofs.Common.{◌≡◌, ℕ, ◌≤◌, true, false, IsTrue, List, [], ◌∷◌, ◌++◌, Some, slice_get, refl, sym, true≢false, arith}
use Rattle.std.specs.List.{AllByRecursion, filter_map, flat_map}
use Rattle.mcs_sets.specs.Orders.{StateBefore}
use Rattle.mcs_base.specs.Listings.{IsListing}
use Rattle.mcs_base.proofs.Deciding.{places_where, has-places_where}
use Rattle.mcs_base.proofs.Each.{all_append, all_from_among, all_map}
use Rattle.mcs_system.specs.Plain.{Name, Formula, Truth, Falsity, Atom, Not, Joined, ProgramRule, Item, Fact, Rule, Kind, ClassicalKind, DefaultKind, ProgramKind, ItemOf, Kb, OfKind, Context, System}
use Rattle.mcs_system.specs.Atoms.{item_atoms, rule_atoms}
use Rattle.mcs_system.specs.Faults.{IsValid, has_twins, is_atom, default_count}
use Rattle.mcs_system.specs.Kinds.{atoms_in, IsNamedIn}
use Rattle.mcs_system.specs.Logic.{is_in, atoms, Entails, fact_of, told_to}
use Rattle.mcs_system.specs.Naming.{IsName, AreNames, IsNamedFormula, IsNamedItem, IsNamedRule}
use Rattle.mcs_system.specs.Views.{IsAcceptedView}
use Rattle.mcs_system.proofs.Consequence.{cases_entails}
use Rattle.mcs_system.proofs.NameLemmas.{is_in-among, is_in_left, is_in_right, is_in_flat_map}
use Rattle.mcs_system.proofs.ValidLemmas.{few_defaults}
use Rattle.mcs_cnf.specs.ClauseLists.{IsOver, AreOver}
use Rattle.mcs_cnf.proofs.OverLemmas.{over_atoms}
use Rattle.mcs_cnf.proofs.EntailmentLemmas.{classical_sound, one_view}
use Rattle.mcs_evidence.specs.Defaults.{IsOverItem}
use Rattle.mcs_evidence.specs.Programs.{IsOverRule, AreOverRules, AreAtomsOf}
use Rattle.mcs_evidence.proofs.AnswerSets.{program_sound}
use Rattle.mcs_evidence.proofs.DefaultCertificates.{defaults_sound}
use Rattle.mcs_evidence.proofs.DefaultListing.{default_theories_listed}
use Rattle.mcs_evidence.proofs.ProgramListings.{program_views_listed}
use Rattle.mcs_asking.specs.Kinds.{Certificate, OfFormulas, OfDefaults, OfProgram, IsAcceptedFor, part_count, IsOverIn, AreFor}

-- ---- what is built of known names is over them
over_item : (names : List Name) (item : Item) → ((n : Name) → is_in n (item_atoms item) ≡ true → is_in n names ≡ true) → IsOverItem names item
over_item names (Fact f) h = (over_atoms names f).1 h
over_item names (Rule d) h = (
  (over_atoms names d.pre).1 (λ n k. h n (is_in_left n (atoms d.pre) _ k)),
  all_from_among (IsOver names) d.justs (λ f among. (over_atoms names f).1 (λ n k. h n (is_in_right n (atoms d.pre) _ (is_in_left n (flat_map atoms d.justs) _ (is_in_flat_map atoms n f d.justs among k))))),
  (over_atoms names d.conclusion).1 (λ n k. h n (is_in_right n (atoms d.pre) _ (is_in_right n (flat_map atoms d.justs) _ k))),
)

over_rule : (names : List Name) (r : ProgramRule) → ((n : Name) → is_in n (rule_atoms r) ≡ true → is_in n names ≡ true) → IsOverRule names r
over_rule names r h = (
  all_from_among (λ n. IsTrue (is_in n names)) r.head (λ n among. h n (is_in_left n r.head _ ((is_in-among n r.head).1 among))),
  all_from_among (λ n. IsTrue (is_in n names)) r.pos (λ n among. h n (is_in_right n r.head _ (is_in_left n r.pos _ ((is_in-among n r.pos).1 among)))),
  all_from_among (λ n. IsTrue (is_in n names)) r.neg (λ n among. h n (is_in_right n r.head _ (is_in_right n r.pos _ ((is_in-among n r.neg).1 among)))),
)

-- ---- what is added is over the names
heads_over_rules : (names : List Name) (fs : List Formula) → AreOver names fs → AreOverRules names (filter_map fact_of fs)
heads_over_rules names [] over = tt
heads_over_rules names (Atom n ∷ fs) over = (((over.0, tt), tt, tt), heads_over_rules names fs over.1)
heads_over_rules names (f ∷ fs) over = heads_over_rules names fs over.1

pub with_heads_over : (names : List Name) (rules : List ProgramRule) (fs : List Formula) → AreOverRules names rules → AreOver names fs → AreOverRules names (rules ++ filter_map fact_of fs)
with_heads_over names rules fs over over' = all_append (IsOverRule names) rules (filter_map fact_of fs) over (heads_over_rules names fs over')

atom_over : (names : List Name) (f : Formula) → IsOver names f → is_atom f ≡ true → (n : Name) × (f ≡ Atom n) × (is_in n names ≡ true)
atom_over names (Atom n) over is = (n, refl, over)
atom_over names f over is = absurd (true≢false (sym is))

pub atoms_over : (names : List Name) (fs : List Formula) → AreOver names fs → AllByRecursion (λ (f : Formula). IsTrue (is_atom f)) fs → AreAtomsOf names fs
atoms_over names [] over are = tt
atoms_over names (f ∷ fs) over are = (atom_over names f over.0 are.0, atoms_over names fs over.1 are.1)

-- ---- names
pub formula_names : (f : Formula) → IsNamedFormula f → AreNames (atoms f)
formula_names Truth named = tt
formula_names Falsity named = tt
formula_names (Atom n) named = (named, tt)
formula_names (Not f) named = formula_names f named
formula_names (Joined c f g) named = all_append IsName (atoms f) (atoms g) (formula_names f named.0) (formula_names g named.1)

pub all_flat : {A : Type 0} (Is : A → Type 0) (of : A → List Name) → ((x : A) → Is x → AreNames (of x)) → (xs : List A) → AllByRecursion Is xs → AreNames (flat_map of xs)
all_flat Is of each [] all = tt
all_flat Is of each (x ∷ xs) all = all_append IsName (of x) (flat_map of xs) (each x all.0) (all_flat Is of each xs all.1)

pub formulas_names : (fs : List Formula) → AllByRecursion IsNamedFormula fs → AreNames (flat_map atoms fs)
formulas_names = all_flat IsNamedFormula atoms formula_names

item_names : (i : Item) → IsNamedItem i → AreNames (item_atoms i)
item_names (Fact f) named = formula_names f named
item_names (Rule d) named = all_append IsName (atoms d.pre) (flat_map atoms d.justs ++ atoms d.conclusion) (formula_names d.pre named.pre) (all_append IsName (flat_map atoms d.justs) (atoms d.conclusion) (formulas_names d.justs named.justs) (formula_names d.conclusion named.conclusion))

rule_names : (r : ProgramRule) → IsNamedRule r → AreNames (rule_atoms r)
rule_names r named = all_append IsName r.head (r.pos ++ r.neg) named.head (all_append IsName r.pos r.neg named.pos named.neg)

-- ---- by kind
-- an item whose atoms are known is over the names
pub over_in : (k : Kind) (names : List Name) (item : ItemOf k) → ((n : Name) → is_in n (atoms_in k item) ≡ true → is_in n names ≡ true) → IsOverIn k names item
over_in ClassicalKind names f = (over_atoms names f).1
over_in DefaultKind names item = over_item names item
over_in ProgramKind names r = over_rule names r

-- what heads tell is over the names
pub told_over : (k : Kind) (names : List Name) (heads : List Formula) → AreOver names heads → AllByRecursion (IsOverIn k names) (told_to k heads)
told_over ClassicalKind names heads over = over
told_over DefaultKind names heads over = all_map Fact (IsOver names) (IsOverItem names) (λ f h. h) heads over
told_over ProgramKind names heads over = heads_over_rules names heads over

-- the views that an accepted certificate shows are a listing
pub sound_in : (k : Kind) (names : List Name) (items : List (ItemOf k)) (beliefs : List Formula) (views : List ℕ) (cert : Certificate) → has_twins names ≡ false → AllByRecursion (IsOverIn k names) items → AreOver names beliefs → AreFor k beliefs
    → IsAcceptedFor names (OfKind k items) beliefs views cert → IsListing (IsAcceptedView (OfKind k items) beliefs) StateBefore views
sound_in ClassicalKind names fs beliefs views (OfFormulas es) single over asked fit shown = classical_sound names fs beliefs views es over asked shown
sound_in DefaultKind names items beliefs views (OfDefaults vs) single over asked fit shown = defaults_sound names items beliefs views vs over asked shown
sound_in ProgramKind names rules beliefs views (OfProgram p) single over asked fit shown = program_sound names rules beliefs views p single over (atoms_over names beliefs asked fit) shown
sound_in k names items beliefs views cert single over asked fit shown = absurd shown

-- what a knowledge base accepts has a listing
pub listed_in : (k : Kind) (items : List (ItemOf k)) (beliefs : List Formula) → (outputs : List ℕ) × IsListing (IsAcceptedView (OfKind k items) beliefs) StateBefore outputs
listed_in ClassicalKind fs beliefs = let view = places_where (Entails fs) (cases_entails fs) beliefs in (view ∷ [], one_view fs beliefs view (has-places_where (Entails fs) (cases_entails fs) beliefs))
listed_in DefaultKind items beliefs = default_theories_listed items beliefs
listed_in ProgramKind rules beliefs = program_views_listed rules beliefs

-- the atoms of an item whose atoms are names
pub names_in : (k : Kind) (item : ItemOf k) → IsNamedIn k item → AreNames (atoms_in k item)
names_in ClassicalKind = formula_names
names_in DefaultKind = item_names
names_in ProgramKind = rule_names

-- the parts of a context of a valid system are few
pub few_parts : (m : System) → IsValid m → (i : ℕ) (c : Context) → slice_get m.contexts i ≡ Some c → part_count c.kb ≤ 10
few_parts m valid i c is = at c.kb (few_defaults m valid i c is)
  where
    at : (kb : Kb) → default_count kb ≤ 10 → part_count kb ≤ 10
    at (OfKind DefaultKind items) few = few
    at kb few = omega arith

-- The canonical text of a system: a line for the version where a rule needs one, and a line for each bridge rule, for
-- each item of a context, and for the braces around the items. Each line ends with a line feed.
use Rattle.std.specs.Prelude.{ℕ, Bool, true, false, not, ◌||◌, nat_eq, cond, List, [], ◌∷◌, ◌++◌, map, codes}
use Rattle.std.specs.Fmt.{decimal}
use Rattle.std.specs.List.{flat_map, list_any}
use Rattle.mcs_system.specs.Plain.{Name, Joined, Formula, Default, ProgramRule, Item, Fact, Rule, Kind, ClassicalKind, DefaultKind, ProgramKind, ItemOf, Kb, OfKind, Context, Read, Bridge, System}
use Rattle.mcs_system.specs.Faults.{reads_of}
use Rattle.mcs_system.specs.Texts.{connective_sign, primary, belief_text}
use Rattle.mcs_grammar.specs.Items.{kind_word}
use Rattle.mcs_text.specs.Separated.{separated}

-- ---- formulas and defaults

-- a formula that stands alone: no parentheses around its two parts
abbrev pub formula_text : Formula → List ℕ
formula_text (Joined c f g) = primary f ++ (connective_sign c ++ primary g)
formula_text f = primary f

-- PRE : JUSTS / CONCLUSION
abbrev pub default_text : Default → List ℕ
default_text d = formula_text d.pre ++ (codes " : " ++ (separated (map formula_text d.justs) ++ (codes " / " ++ formula_text d.conclusion)))

abbrev pub theory_item_text : Item → List ℕ
theory_item_text (Fact f) = formula_text f
theory_item_text (Rule d) = default_text d

-- ---- members of a list

-- each after the separator
abbrev pub further_by : List ℕ → List (List ℕ) → List ℕ
further_by separator texts = flat_map (λ t. separator ++ t) texts

-- the separator between them, and before the first one too if it is not the first of all
abbrev pub joined_by : List ℕ → Bool → List (List ℕ) → List ℕ
joined_by separator true [] = []
joined_by separator true (t ∷ ts) = t ++ further_by separator ts
joined_by separator false texts = further_by separator texts

-- ---- program rules

abbrev pub denied : List ℕ → List ℕ
denied text = codes "not " ++ text

-- the positive literals first
abbrev pub literal_texts : ProgramRule → List (List ℕ)
literal_texts r = r.pos ++ map denied r.neg

-- the sign with the spaces around it, between a head and a body; none where there is a head and no body
abbrev pub rule_sign : List Name → List Name → List ℕ
rule_sign [] [] = codes ":-"
rule_sign [] (l ∷ ls) = codes ":- "
rule_sign (n ∷ ns) [] = []
rule_sign (n ∷ ns) (l ∷ ls) = codes " :- "

-- HEAD :- BODY
abbrev pub program_rule_text : ProgramRule → List ℕ
program_rule_text r = joined_by (codes " | ") true r.head ++ (rule_sign r.head (r.pos ++ r.neg) ++ separated (literal_texts r))

-- ---- contexts

abbrev pub text_in : (k : Kind) → ItemOf k → List ℕ
text_in ClassicalKind = formula_text
text_in DefaultKind = theory_item_text
text_in ProgramKind = program_rule_text

abbrev pub kb_word : Kb → List ℕ
kb_word (OfKind k items) = kind_word k

abbrev pub item_texts : Kb → List (List ℕ)
item_texts (OfKind k items) = map (text_in k) items

abbrev pub item_line : List ℕ → List ℕ
item_line text = codes "  " ++ (text ++ codes ".\n")

abbrev pub items_text : Kb → List ℕ
items_text kb = flat_map item_line (item_texts kb)

-- the line `context NAME KIND {`, the items, and the line `}`
abbrev pub context_text : Context → List ℕ
context_text c = codes "context " ++ (c.name ++ (codes " " ++ (kb_word c.kb ++ (codes " {\n" ++ (items_text c.kb ++ codes "}\n")))))

-- ---- bridge rules

abbrev pub head_place : Bridge → Read
head_place b = record { context = b.target; belief = b.head }

-- the positive reads first
abbrev pub read_texts : System → Bridge → List (List ℕ)
read_texts m b = map (belief_text m) b.pos ++ map (λ (r : Read). denied (belief_text m r)) b.neg

-- the word between spaces, where there is a read
abbrev pub if_word : List Read → List ℕ
if_word [] = []
if_word (r ∷ rs) = codes " if "

-- the weight, where it is not 1
abbrev pub weight_text : ℕ → List ℕ
weight_text weight = cond (nat_eq weight 1) [] (codes " weight " ++ decimal weight)

-- what a rule says of itself, each after a space
abbrev pub marks_text : Bridge → List ℕ
marks_text b = cond b.keep (codes " keep") [] ++ (cond b.closed (codes " closed") [] ++ weight_text b.weight)

-- bridge NAME MARKS: HEAD if READS.
abbrev pub bridge_text : System → Bridge → List ℕ
bridge_text m b = codes "bridge " ++ (b.name ++ (marks_text b ++ (codes ": " ++ (belief_text m (head_place b) ++ (if_word (reads_of b) ++ (separated (read_texts m b) ++ codes ".\n"))))))

-- ---- the whole text
-- it may not be removed, may not be forced, or has another weight than 1
abbrev pub is_marked : Bridge → Bool
is_marked b = b.keep || (b.closed || not (nat_eq b.weight 1))

-- where some rule says something of itself
abbrev pub version_line : System → List ℕ
version_line m = cond (list_any is_marked m.bridges) (codes "version 2.\n") []

abbrev pub canonical_text : System → List ℕ
canonical_text m = version_line m ++ (flat_map context_text m.contexts ++ flat_map (bridge_text m) m.bridges)

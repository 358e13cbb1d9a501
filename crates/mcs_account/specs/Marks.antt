-- What is written in a text as a text of the grammar: its tokens with what each is there for, and what is whole after them.
use Rattle.std.specs.Prelude.{Bool, true, false, cond, List, [], ◌∷◌, ◌++◌, codes, Option, Some, None}
use Rattle.std.specs.List.{flat_map}
use Rattle.std.specs.Str.{bytes_eq}
use Rattle.mcs_account.specs.Mark.{Seen, Said}
use Rattle.mcs_grammar.specs.Written.{Written, WrittenKb, OfKind, WrittenContext, WrittenPlace, WrittenRead, WrittenMarks, WrittenBridge, WrittenText}
use Rattle.mcs_grammar.specs.Entries.{Token, kind_word}
use Rattle.mcs_productions.specs.declared.class.Class.{Class}
use Rattle.mcs_productions.specs.declared.class.Class.TheVariants as class
use Rattle.mcs_productions.specs.declared.production.Action.TheVariants as action
pub use Rattle.mcs_account.specs.Items.{Marked, Content, spelled, Fill, bytes_for, Filled, marks_for, prefix_class, prefix_action, joint_class, joint_action, two_marks, formula_marks, after_marks, default_marks, item_marks, further_head_marks, head_marks, literal_denial, literal_marks, further_literal_marks, literals_marks, sign_marks, rule_marks, marks_in, kind_class}

-- ---- bridge rules
-- after the name of the context
abbrev pub belief_marks : Written → Marked
belief_marks f = Seen class.BeginsBelief (codes ":") ∷ formula_marks f

abbrev pub denial_marks : Bool → Marked
denial_marks true = Seen class.DeniesRead (codes "not") ∷ []
denial_marks false = []

abbrev pub read_marks : WrittenRead → Marked
read_marks r = denial_marks r.denied ++ Seen class.NamesSource r.place.context ∷ (belief_marks r.place.belief ++ Said action.EndsRead ∷ [])

abbrev pub further_marks : WrittenRead → Marked
further_marks r = Seen class.SeparatesReads (codes ",") ∷ read_marks r

abbrev pub reads_marks : List WrittenRead → Marked
reads_marks [] = []
reads_marks (r ∷ rs) = Seen class.BeginsReads (codes "if") ∷ (read_marks r ++ flat_map further_marks rs)

-- after the name of the rule
abbrev pub tail_marks : WrittenPlace → List WrittenRead → Marked
tail_marks head reads = Seen class.EndsBridgeName (codes ":") ∷ Seen class.NamesTarget head.context ∷ (belief_marks head.belief ++ (reads_marks reads ++ Seen class.EndsBridge (codes ".") ∷ []))

-- a word that may stand there
abbrev pub word_marks : Class → Token → Bool → Marked
word_marks c word true = Seen c word ∷ []
word_marks c word false = []

-- the number of a weight: `2` is a terminal of its own
abbrev pub weight_class : Token → Class
weight_class digits = cond (bytes_eq digits (codes "2")) class.WeighsTwo class.Weighs

abbrev pub weight_marks : Option Token → Marked
weight_marks None = []
weight_marks (Some digits) = Seen class.BeginsWeight (codes "weight") ∷ Seen (weight_class digits) digits ∷ []

-- what a rule says of itself, and what comes after it
abbrev pub own_marks : WrittenMarks → Marked → Marked
own_marks m rest = word_marks class.Keeps (codes "keep") m.keep ++ (word_marks class.Closes (codes "closed") m.closed ++ (weight_marks m.weight ++ rest))

abbrev pub bridge_marks : WrittenBridge → Marked
bridge_marks b = Seen class.BeginsBridge (codes "bridge") ∷ Seen class.NamesBridge b.name ∷ own_marks b.marks (tail_marks b.head b.reads)

-- ---- contexts
-- an item and the period after it
abbrev pub ended_marks : Marked → Marked
ended_marks ms = ms ++ Seen class.EndsItem (codes ".") ∷ []

abbrev pub items_marks : Class → Token → Marked → Marked
items_marks c word ms = Seen c word ∷ Seen class.OpensItems (codes "{") ∷ (ms ++ Seen class.ClosesItems (codes "}") ∷ [])

abbrev pub kb_marks : WrittenKb → Marked
kb_marks (OfKind k items) = items_marks (kind_class k) (kind_word k) (flat_map (λ i. ended_marks (marks_in k i)) items)

abbrev pub context_marks : WrittenContext → Marked
context_marks c = Seen class.BeginsContext (codes "context") ∷ Seen class.NamesContext c.name ∷ kb_marks c.kb

-- ---- the whole text
abbrev pub version_marks : Bool → Marked
version_marks true = Seen class.BeginsVersion (codes "version") ∷ Seen class.NamesVersion (codes "2") ∷ Seen class.EndsVersion (codes ".") ∷ []
version_marks false = []

abbrev pub text_marks : WrittenText → Marked
text_marks t = version_marks t.has_version ++ (flat_map context_marks t.contexts ++ flat_map bridge_marks t.bridges)

-- What is written is accounted for: after it stands what it says.
use Rattle.std.proofs.Common.{◌≡◌, ℕ, ◌<◌, ◌≤◌, Bool, true, false, cond, codes, Option, None, List, [], ◌∷◌, ◌++◌, map, length, Some, refl, sym, ap, ◌∙◌, inl, inr, ◌⊎◌, arith, append_assoc, append-nil}
use Rattle.std.proofs.lemmas.List.{length-map}
use Rattle.std.specs.List.{flat_map, position, position_or_len, AllByRecursion}
use Rattle.std.proofs.lemmas.Bool.Decides.{nat_tests}
use Rattle.std.proofs.lemmas.Slice.Eq.{bytes_eq-Decides}
use Rattle.std.specs.Str.{bytes_eq}
use Rattle.mcs_base.specs.Listings.{IsAmong}
use Rattle.mcs_system.specs.Plain.{Name, Connective}
use Rattle.mcs_system.specs.Plain as plain
use Rattle.mcs_system.specs.Logic.{same_name}
use Rattle.mcs_grammar.specs.Written.{Written, Prefix, True', False', Named, Prefixed, Grouped, Joins, WrittenPlace, WrittenRead, WrittenMarks, WrittenBridge}
use Rattle.mcs_grammar.specs.Entries.{Token, formula_in}
use Rattle.mcs_grammar.specs.Saying.{weight_said, SaysPlace, SaysBridge, Each, positive_places, negative_places}
use Rattle.mcs_productions.specs.declared.class.Class.TheVariants as class
use Rattle.mcs_productions.specs.declared.production.Action.TheVariants as action
use Rattle.mcs_account.specs.Mark.{Seen, Said}
use Rattle.mcs_account.specs.Marks.{Marked, formula_marks, belief_marks, denial_marks, read_marks, further_marks, reads_marks, tail_marks, word_marks, weight_marks, own_marks, bridge_marks}
use Rattle.mcs_account.specs.Account.{Account, greatest_number, number_of, the_read, pushed, took, account_step, accounted, in_last, named_rule, with_keep, with_closed, weight_of, with_weight, with_target, with_read}
use Rattle.mcs_account.proofs.Signs.{prefix-takes, prefix-told, joint-takes, joint-told}

pub accounted-append : (a : Account) (ms ns : Marked) → accounted a (ms ++ ns) ≡ accounted (accounted a ms) ns
accounted-append a [] ns = refl
accounted-append a (m ∷ ms) ns = accounted-append (account_step a m) ms ns

-- ---- formulas
abbrev Accounts : Written → Type 0
Accounts f = (a : Account) → accounted a (formula_marks f) ≡ pushed a (formula_in f)

prefix-accounts : (p : Prefix) (f : Written) → Accounts f → Accounts (Prefixed p f)
prefix-accounts p f hf a = simp (prefix-takes, accounted-append, hf, prefix-told p a (formula_in f))

joins-account : (j : Connective) (f g : Written) → Accounts f → Accounts g → Accounts (Joins j f g)
joins-account j f g hf hg a = simp (accounted-append, hf, joint-takes, hg, joint-told j a (formula_in f) (formula_in g))

pub formula-accounts : (f : Written) → Accounts f
formula-accounts True' a = refl
formula-accounts False' a = refl
formula-accounts (Named n) a = refl
formula-accounts (Prefixed p f) a = prefix-accounts p f (formula-accounts f) a
formula-accounts (Grouped f) a = accounted-append a (formula_marks f) (Seen class.ClosesParenthesis (codes ")") ∷ []) ∙ ap (λ (r : Account). accounted r (Seen class.ClosesParenthesis (codes ")") ∷ [])) (formula-accounts f a)
formula-accounts (Joins j f g) a = joins-account j f g (formula-accounts f) (formula-accounts g) a

-- ---- bridge rules, by the numbers of their contexts
abbrev pub read_said : List plain.Context → WrittenPlace → plain.Read
read_said cs p = the_read (number_of cs p.context) (formula_in p.belief)

abbrev pub weight_in : Option Token → ℕ
weight_in None = 1
weight_in (Some digits) = weight_of digits

abbrev pub the_rule : Name → ℕ → plain.Formula → (pos neg : List plain.Read) → (keep closed : Bool) → ℕ → plain.Bridge
the_rule name target head pos neg keep closed weight = record { name = name; target = target; head = head; pos = pos; neg = neg; keep = keep; closed = closed; weight = weight }

abbrev pub bridge_said : List plain.Context → WrittenBridge → plain.Bridge
bridge_said cs b = the_rule b.name (number_of cs b.head.context) (formula_in b.head.belief) (map (read_said cs) (positive_places b.reads)) (map (read_said cs) (negative_places b.reads)) b.marks.keep b.marks.closed (weight_in b.marks.weight)

pub last-changed : {A : Type 0} (f : A → A) (xs : List A) (x : A) → in_last f (xs ++ x ∷ []) ≡ xs ++ f x ∷ []
last-changed f [] x = refl
last-changed f (y ∷ []) x = refl
last-changed f (y ∷ z ∷ xs) x = ap (λ l. y ∷ l) (last-changed f (z ∷ xs) x)

-- the last rule so far is this one, which may still grow
abbrev pub growing : Account → ℕ → plain.Bridge → Account
growing a source x = record a { bridges = a.bridges ++ x ∷ []; denied = false; source = source }

-- what a rule says of itself
abbrev keep_if : Bool → plain.Bridge → plain.Bridge
keep_if true x = with_keep x
keep_if false x = x

abbrev closed_if : Bool → plain.Bridge → plain.Bridge
closed_if true x = with_closed x
closed_if false x = x

abbrev weight_if : Option Token → plain.Bridge → plain.Bridge
weight_if None x = x
weight_if (Some digits) x = with_weight (weight_of digits) x

keep-account : (a : Account) (k : ℕ) (x : plain.Bridge) (b : Bool) (ms : Marked) → accounted (growing a k x) (word_marks class.Keeps (codes "keep") b ++ ms) ≡ accounted (growing a k (keep_if b x)) ms
keep-account a k x true ms = ap (λ l. accounted (record a { bridges = l; denied = false; source = k }) ms) (last-changed with_keep a.bridges x)
keep-account a k x false ms = refl

closed-account : (a : Account) (k : ℕ) (x : plain.Bridge) (b : Bool) (ms : Marked) → accounted (growing a k x) (word_marks class.Closes (codes "closed") b ++ ms) ≡ accounted (growing a k (closed_if b x)) ms
closed-account a k x true ms = ap (λ l. accounted (record a { bridges = l; denied = false; source = k }) ms) (last-changed with_closed a.bridges x)
closed-account a k x false ms = refl

weight-account : (a : Account) (k : ℕ) (x : plain.Bridge) (w : Option Token) (ms : Marked) → accounted (growing a k x) (weight_marks w ++ ms) ≡ accounted (growing a k (weight_if w x)) ms
weight-account a k x None ms = refl
weight-account a k x (Some digits) ms =
    ap (λ (c : Account). accounted c ms) (at (bytes_eq digits (codes "2"))) ∙ ap (λ l. accounted (record a { bridges = l; denied = false; source = k }) ms) (last-changed (with_weight (weight_of digits)) a.bridges x)
  where
    at : (b : Bool) → took (growing a k x) (cond b class.WeighsTwo class.Weighs) digits ≡ record (growing a k x) { bridges = in_last (with_weight (weight_of digits)) (a.bridges ++ x ∷ []) }
    at true = refl
    at false = refl

abbrev marked_rule : WrittenBridge → plain.Bridge
marked_rule b = the_rule b.name 0 plain.Truth [] [] b.marks.keep b.marks.closed (weight_in b.marks.weight)

own-account : (a : Account) (k : ℕ) (b : WrittenBridge) (ms : Marked) → accounted (growing a k (named_rule b.name)) (own_marks b.marks ms) ≡ accounted (growing a k (marked_rule b)) ms
own-account a k b ms =
    let x : plain.Bridge = named_rule b.name in
    let m : WrittenMarks = b.marks in
    keep-account a k x m.keep (word_marks class.Closes (codes "closed") m.closed ++ (weight_marks m.weight ++ ms))
    ∙ closed-account a k (keep_if m.keep x) m.closed (weight_marks m.weight ++ ms)
    ∙ weight-account a k (closed_if m.closed (keep_if m.keep x)) m.weight ms
    ∙ ap (λ (r : plain.Bridge). accounted (growing a k r) ms) (at m.keep m.closed m.weight)
  where
    at : (k c : Bool) (w : Option Token) → weight_if w (closed_if c (keep_if k (named_rule b.name))) ≡ the_rule b.name 0 plain.Truth [] [] k c (weight_in w)
    at true true None = refl
    at true true (Some digits) = refl
    at true false None = refl
    at true false (Some digits) = refl
    at false true None = refl
    at false true (Some digits) = refl
    at false false None = refl
    at false false (Some digits) = refl

-- one read more
abbrev read_more : Account → WrittenRead → plain.Bridge → plain.Bridge
read_more a r x = with_read r.denied (read_said a.contexts r.place) x

read-accounts : (a : Account) (k : ℕ) (x : plain.Bridge) (r : WrittenRead) → accounted (growing a k x) (read_marks r) ≡ growing a (number_of a.contexts r.place.context) (read_more a r x)
read-accounts a k x r = at r.denied
  where
    at : (b : Bool) → accounted (growing a k x) (denial_marks b ++ Seen class.NamesSource r.place.context ∷ (belief_marks r.place.belief ++ Said action.EndsRead ∷ []))
        ≡ growing a (number_of a.contexts r.place.context) (with_read b (read_said a.contexts r.place) x)
    at true = simp (accounted-append, formula-accounts, last-changed)
    at false = simp (accounted-append, formula-accounts, last-changed)

-- all of them
abbrev reads_more : Account → List WrittenRead → plain.Bridge → plain.Bridge
reads_more a rs x = record x { pos = x.pos ++ map (read_said a.contexts) (positive_places rs); neg = x.neg ++ map (read_said a.contexts) (negative_places rs) }

one-before : (a : Account) (r : WrittenRead) (rs : List WrittenRead) (x : plain.Bridge) → reads_more a rs (read_more a r x) ≡ reads_more a (r ∷ rs) x
one-before a r rs x = at r.denied refl
  where
    at : (b : Bool) → r.denied ≡ b → reads_more a rs (read_more a r x) ≡ reads_more a (r ∷ rs) x
    at true is = rw is (ap (λ l. record x { pos = x.pos ++ map (read_said a.contexts) (positive_places rs); neg = l }) (append_assoc x.neg (read_said a.contexts r.place ∷ []) (map (read_said a.contexts) (negative_places rs))))
    at false is = rw is (ap (λ l. record x { pos = l; neg = x.neg ++ map (read_said a.contexts) (negative_places rs) }) (append_assoc x.pos (read_said a.contexts r.place ∷ []) (map (read_said a.contexts) (positive_places rs))))

none-before : (a : Account) (x : plain.Bridge) → x ≡ reads_more a [] x
none-before a x = ap (λ l. record x { pos = l }) (sym (append-nil x.pos)) ∙ ap (λ l. record x { pos = x.pos ++ []; neg = l }) (sym (append-nil x.neg))

further-account : (a : Account) (k : ℕ) (x : plain.Bridge) (rs : List WrittenRead) → (source : ℕ) × (accounted (growing a k x) (flat_map further_marks rs) ≡ growing a source (reads_more a rs x))
further-account a k x [] = (k, ap (growing a k) (none-before a x))
further-account a k x (r ∷ rs) =
    let q = further-account a (number_of a.contexts r.place.context) (read_more a r x) rs in
    (q.0, accounted-append (growing a k x) (read_marks r) (flat_map further_marks rs) ∙ ap (λ (b : Account). accounted b (flat_map further_marks rs)) (read-accounts a k x r) ∙ q.1 ∙ ap (growing a q.0) (one-before a r rs x))

reads-account : (a : Account) (k : ℕ) (x : plain.Bridge) (rs : List WrittenRead) → (source : ℕ) × (accounted (growing a k x) (reads_marks rs) ≡ growing a source (reads_more a rs x))
reads-account a k x [] = further-account a k x []
reads-account a k x (r ∷ rs) = further-account a k x (r ∷ rs)

-- between the parts of a text no formula waits
abbrev pub idle : Account → ℕ → Account
idle a source = record a { operands = []; denied = false; source = source }

pub bridge-accounts : (a : Account) (k : ℕ) (b : WrittenBridge) → (source : ℕ) × (accounted (idle a k) (bridge_marks b) ≡ record (idle a source) { bridges = a.bridges ++ bridge_said a.contexts b ∷ [] })
bridge-accounts a k b =
    let x : plain.Bridge = with_target (number_of a.contexts b.head.context) (marked_rule b) in
    let q = reads-account (record a { operands = formula_in b.head.belief ∷ [] }) k x b.reads in
    (q.0, own-account (record a { operands = [] }) k b (tail_marks b.head b.reads) ∙ simp (last-changed, accounted-append, formula-accounts, q.1))

-- ---- which is what the rule says, where its contexts are known
found : (n : Name) (names : List Name) → IsAmong n names → position_or_len (same_name n) names < length names
found n [] h = absurd h
found n (m ∷ names) h = go (same_name n m) refl h (found n names)
  where
    go : (b : Bool) → same_name n m ≡ b → (n ≡ m) ⊎ IsAmong n names → (IsAmong n names → position_or_len (same_name n) names < length names) → position_or_len (same_name n) (m ∷ names) < length (m ∷ names)
    go true is h more = rw is (omega arith)
    go false is (inl e) more = let yes' : same_name n m ≡ true = (bytes_eq-Decides n m).1 e in absurd (cc)
    go false is (inr h) more = let k = more h in rw is (omega arith)

is-at : (n : Name) (names : List Name) → IsAmong n names → position (same_name n) names ≡ Some (position_or_len (same_name n) names)
is-at n names h = let k = found n names h in grind (arith, nat_tests)

abbrev pub names_in : List plain.Context → List Name
names_in cs = map (λ (c : plain.Context). c.name) cs

-- the number that the account has
is-number : (cs : List plain.Context) (n : Name) → length cs ≤ greatest_number → IsAmong n (names_in cs) → position (same_name n) (names_in cs) ≡ Some (number_of cs n)
is-number cs n few h =
    let k = found n (names_in cs) h in
    let many : length (names_in cs) ≡ length cs = length-map cs (λ (c : plain.Context). c.name) in
    let same : position_or_len (same_name n) (names_in cs) ≡ number_of cs n = omega arith in
    is-at n (names_in cs) h ∙ ap (λ (i : ℕ). Some i) same

said-reads : (cs : List plain.Context) (ps : List WrittenPlace) → length cs ≤ greatest_number → AllByRecursion (λ (p : WrittenPlace). IsAmong p.context (names_in cs)) ps → Each (SaysPlace (names_in cs)) ps (map (read_said cs) ps)
said-reads cs [] few h = tt
said-reads cs (p ∷ ps) few h = (record { number = is-number cs p.context few h.0; belief = refl }, said-reads cs ps few h.1)

-- a weight that the limit allows is as it is spelled
pub weight-known : (w : Option Token) → weight_said w ≤ 1000000 → weight_in w ≡ weight_said w
weight-known None light = refl
weight-known (Some digits) light = omega (arith, light)

pub bridge-says : (cs : List plain.Context) (b : WrittenBridge) → length cs ≤ greatest_number → weight_said b.marks.weight ≤ 1000000 → IsAmong b.head.context (names_in cs) → AllByRecursion (λ (p : WrittenPlace). IsAmong p.context (names_in cs)) (positive_places b.reads)
    → AllByRecursion (λ (p : WrittenPlace). IsAmong p.context (names_in cs)) (negative_places b.reads) → SaysBridge (names_in cs) b (bridge_said cs b)
bridge-says cs b few light h pos neg = record {
  named = refl;
  head = record { number = is-number cs b.head.context few h; belief = refl };
  pos = said-reads cs (positive_places b.reads) few pos;
  neg = said-reads cs (negative_places b.reads) few neg;
  keep = refl;
  closed = refl;
  weight = weight-known b.marks.weight light;
}

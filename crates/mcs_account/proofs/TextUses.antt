-- What the tokens of a whole text are there for.
use Rattle.std.proofs.Common.{◌≡◌, ℕ, Some, Bool, true, false, List, ◌++◌, refl, sym, ap, ◌∙◌, inl, inr, ◌⊎◌, ◌↔◌, subst, true≢false}
use Rattle.std.specs.List.{flat_map}
use Rattle.mcs_base.specs.Listings.{IsAmong}
use Rattle.mcs_base.specs.Numbers.{value_of_digits}
use Rattle.mcs_system.specs.Plain.{Name, Formula}
use Rattle.mcs_grammar.specs.Written.{WrittenContext, WrittenRead, WrittenBridge, WrittenText}
use Rattle.mcs_grammar.specs.Entries.{Token, Use, BeginsContext, NamesContext, Weighs, SaysProgram, NamesTarget, NamesSource, EndsRead, Entry, context_entries, bridge_entries, version_entries, kb_entries, uses_of}
use Rattle.mcs_grammar.specs.Faults.{NamedRead, WasReadInto}
use Rattle.mcs_account.specs.Images.{read_in}
use Rattle.mcs_account.proofs.UsesParts.{text_uses, IsReadOf, IsProgramKb}
use Rattle.mcs_account.proofs.EntryLists.{among-append, append-left, append-right, among-parts, parts-among}
use Rattle.mcs_account.proofs.ContextUses.{KbUse, OfWord, OfItem, OfDefault, WithinFormula, WithinRule, kb-uses, kind-among, in_formula, in_kb, formula-in, rule-in, kb-in}
use Rattle.mcs_account.proofs.BridgeUses.{BridgeUse, OfBridge, OfName, OfWeight, OfHead, OfRead, bridge-uses, uses-bridge, in_place, in_read, in_bridge, place-in, read-in, bridge-in}

-- ---- of a context, or of a bridge rule
pub data TextUse (t : WrittenText) (u : Use) : Type 0 where
  BeginsOne : (is : u ≡ BeginsContext) → TextUse t u
  NamesOne : (x : WrittenContext) (there : IsAmong x t.contexts) (is : u ≡ NamesContext x.name) → TextUse t u
  WithinKb : (x : WrittenContext) (there : IsAmong x t.contexts) (here : IsAmong u (uses_of (kb_entries x.name x.kb))) → TextUse t u
  WithinBridge : (b : WrittenBridge) (there : IsAmong b t.bridges) (here : BridgeUse b u) → TextUse t u

-- the version is there for nothing more
pub version-uses : (v : Bool) (es : List Entry) → uses_of (version_entries v ++ es) ≡ uses_of es
version-uses true es = refl
version-uses false es = refl

pub text-use : (t : WrittenText) (u : Use) → IsAmong u (text_uses t) → TextUse t u
text-use t u h = at (among-append u (flat_map context_entries t.contexts) (flat_map bridge_entries t.bridges) (subst (IsAmong u) (version-uses t.has_version _) h))
  where
    within : (x : WrittenContext) → IsAmong x t.contexts → IsAmong u (uses_of (context_entries x)) → TextUse t u
    within x there (inl e) = BeginsOne e
    within x there (inr (inl e)) = NamesOne x there e
    within x there (inr (inr here)) = WithinKb x there here

    at : IsAmong u (uses_of (flat_map context_entries t.contexts)) ⊎ IsAmong u (uses_of (flat_map bridge_entries t.bridges)) → TextUse t u
    at (inl a) = let (x, there, here) = among-parts u context_entries t.contexts a in within x there here
    at (inr b) = let (w, there, here) = among-parts u bridge_entries t.bridges b in WithinBridge w there (bridge-uses w u here)

text-there : (t : WrittenText) (u : Use) → IsAmong u (uses_of (flat_map context_entries t.contexts ++ flat_map bridge_entries t.bridges)) → IsAmong u (text_uses t)
text-there t u h = subst (IsAmong u) (sym (version-uses t.has_version _)) h

pub context-there : (t : WrittenText) (u : Use) (x : WrittenContext) → IsAmong x t.contexts → IsAmong u (uses_of (context_entries x)) → IsAmong u (text_uses t)
context-there t u x there here = text-there t u (append-left u (flat_map context_entries t.contexts) (flat_map bridge_entries t.bridges) (parts-among u context_entries t.contexts x there here))

pub kb-there : (t : WrittenText) (u : Use) (x : WrittenContext) → IsAmong x t.contexts → IsAmong u (uses_of (kb_entries x.name x.kb)) → IsAmong u (text_uses t)
kb-there t u x there here = context-there t u x there (inr (inr here))

pub bridge-there : (t : WrittenText) (u : Use) (b : WrittenBridge) → IsAmong b t.bridges → BridgeUse b u → IsAmong u (text_uses t)
bridge-there t u b there here = text-there t u (append-right u (flat_map context_entries t.contexts) (flat_map bridge_entries t.bridges) (parts-among u bridge_entries t.bridges b there (uses-bridge b u here)))

abbrev named_at : Name → Formula → NamedRead
named_at c f = record { context = c; belief = f }

pub same-named : (q r : NamedRead) → q.context ≡ r.context → q.belief ≡ r.belief → q ≡ r
same-named q r e e' = ap (λ (c : Name). named_at c q.belief) e ∙ ap (λ (f : Formula). named_at r.context f) e'

-- a test that the use does not pass
pub not-so : (p : Use → Bool) (u : Use) → p u ≡ true → p u ≡ false → ⊥
not-so p u e e' = true≢false (sym e ∙ e')

-- ---- what is said of contexts
targets-into : (t : WrittenText) (c : Name) → TextUse t (NamesTarget c) → (b : WrittenBridge) × IsAmong b t.bridges × ((b.head).context ≡ c)
targets-into t c (BeginsOne is) = cc
targets-into t c (NamesOne x there is) = cc
targets-into t c (WithinKb x there here) = absurd (not-so in_kb (NamesTarget c) (kb-in x.name x.kb (NamesTarget c) here) refl)
targets-into t c (WithinBridge b there (OfBridge is)) = cc
targets-into t c (WithinBridge b there (OfName is)) = cc
targets-into t c (WithinBridge b there (OfWeight digits said is)) = cc
targets-into t c (WithinBridge b there (OfHead (inl is))) = (b, there, cc)
targets-into t c (WithinBridge b there (OfHead (inr here))) = absurd (not-so in_place (NamesTarget c) (place-in b.head (NamesTarget c) here) refl)
targets-into t c (WithinBridge b there (OfRead r in_reads here)) = absurd (not-so in_read (NamesTarget c) (read-in (b.head).context r (NamesTarget c) here) refl)

pub targets-there : (t : WrittenText) (c : Name) → IsAmong (NamesTarget c) (text_uses t) ↔ ((b : WrittenBridge) × IsAmong b t.bridges × ((b.head).context ≡ c))
targets-there t c = (λ h. targets-into t c (text-use t (NamesTarget c) h), back)
  where
    back : ((b : WrittenBridge) × IsAmong b t.bridges × ((b.head).context ≡ c)) → IsAmong (NamesTarget c) (text_uses t)
    back (b, there, is) = bridge-there t (NamesTarget c) b there (OfHead (inl (ap (λ (x : Name). NamesTarget x) (sym is))))

sources-read : (t : WrittenText) (c : Name) → TextUse t (NamesSource c) → (b : WrittenBridge) × IsAmong b t.bridges × ((r : WrittenRead) × IsAmong r b.reads × ((r.place).context ≡ c))
sources-read t c (BeginsOne is) = cc
sources-read t c (NamesOne x there is) = cc
sources-read t c (WithinKb x there here) = absurd (not-so in_kb (NamesSource c) (kb-in x.name x.kb (NamesSource c) here) refl)
sources-read t c (WithinBridge b there (OfBridge is)) = cc
sources-read t c (WithinBridge b there (OfName is)) = cc
sources-read t c (WithinBridge b there (OfWeight digits said is)) = cc
sources-read t c (WithinBridge b there (OfHead (inl is))) = cc
sources-read t c (WithinBridge b there (OfHead (inr here))) = absurd (not-so in_place (NamesSource c) (place-in b.head (NamesSource c) here) refl)
sources-read t c (WithinBridge b there (OfRead r in_reads (inl is))) = cc
sources-read t c (WithinBridge b there (OfRead r in_reads (inr (inl is)))) = (b, there, (r, in_reads, cc))
sources-read t c (WithinBridge b there (OfRead r in_reads (inr (inr here)))) = absurd (not-so in_place (NamesSource c) (place-in r.place (NamesSource c) here) refl)

pub sources-there : (t : WrittenText) (c : Name) → IsAmong (NamesSource c) (text_uses t) ↔ ((b : WrittenBridge) × IsAmong b t.bridges × ((r : WrittenRead) × IsAmong r b.reads × ((r.place).context ≡ c)))
sources-there t c = (λ h. sources-read t c (text-use t (NamesSource c) h), back)
  where
    back : ((b : WrittenBridge) × IsAmong b t.bridges × ((r : WrittenRead) × IsAmong r b.reads × ((r.place).context ≡ c))) → IsAmong (NamesSource c) (text_uses t)
    back (b, there, (r, in_reads, is)) = bridge-there t (NamesSource c) b there (OfRead r in_reads (inr (inl (ap (λ (x : Name). NamesSource x) (sym is)))))

programs-said : (t : WrittenText) (c : Name) → TextUse t (SaysProgram c) → (x : WrittenContext) × IsAmong x t.contexts × (x.name ≡ c) × IsProgramKb x.kb
programs-said t c (BeginsOne is) = cc
programs-said t c (NamesOne x there is) = cc
programs-said t c (WithinKb x there here) = at (kb-uses x.name x.kb (SaysProgram c) here)
  where
    at : KbUse x.name x.kb (SaysProgram c) → (x : WrittenContext) × IsAmong x t.contexts × (x.name ≡ c) × IsProgramKb x.kb
    at (OfWord is program) = (x, there, cc, program)
    at (OfItem is) = cc
    at (OfDefault is) = cc
    at (WithinFormula f in_kb' here) = absurd (not-so in_formula (SaysProgram c) (formula-in x.name f (SaysProgram c) here) refl)
    at (WithinRule r in_kb' here) = absurd (not-so in_formula (SaysProgram c) (rule-in x.name r (SaysProgram c) here) refl)
programs-said t c (WithinBridge b there here) = absurd (not-so in_bridge (SaysProgram c) (bridge-in b (SaysProgram c) here) refl)

pub programs-there : (t : WrittenText) (c : Name) → IsAmong (SaysProgram c) (text_uses t) ↔ ((x : WrittenContext) × IsAmong x t.contexts × (x.name ≡ c) × IsProgramKb x.kb)
programs-there t c = (λ h. programs-said t c (text-use t (SaysProgram c) h), back)
  where
    back : ((x : WrittenContext) × IsAmong x t.contexts × (x.name ≡ c) × IsProgramKb x.kb) → IsAmong (SaysProgram c) (text_uses t)
    back (x, there, is, program) = kb-there t (SaysProgram c) x there (subst (λ (n : Name). IsAmong (SaysProgram n) (uses_of (kb_entries x.name x.kb))) is (kind-among x.name x.kb program))

-- ---- reads
reads-into : (t : WrittenText) (target : Name) (r : NamedRead) → TextUse t (EndsRead target r.context r.belief) → IsReadOf t target r
reads-into t target r (BeginsOne is) = cc
reads-into t target r (NamesOne x there is) = cc
reads-into t target r (WithinKb x there here) = absurd (not-so in_kb (EndsRead target r.context r.belief) (kb-in x.name x.kb (EndsRead target r.context r.belief) here) refl)
reads-into t target r (WithinBridge b there (OfBridge is)) = cc
reads-into t target r (WithinBridge b there (OfName is)) = cc
reads-into t target r (WithinBridge b there (OfWeight digits said is)) = cc
reads-into t target r (WithinBridge b there (OfHead (inl is))) = cc
reads-into t target r (WithinBridge b there (OfHead (inr here))) = absurd (not-so in_place (EndsRead target r.context r.belief) (place-in b.head (EndsRead target r.context r.belief) here) refl)
reads-into t target r (WithinBridge b there (OfRead q in_reads (inl is))) = record { bridge = b; is_there = there; into = cc; read = q; is_read = in_reads; says = same-named (read_in q.place) r (cc) (cc) }
reads-into t target r (WithinBridge b there (OfRead q in_reads (inr (inl is)))) = cc
reads-into t target r (WithinBridge b there (OfRead q in_reads (inr (inr here)))) = absurd (not-so in_place (EndsRead target r.context r.belief) (place-in q.place (EndsRead target r.context r.belief) here) refl)

pub reads-there : (t : WrittenText) (target : Name) (r : NamedRead) → WasReadInto (text_uses t) target r ↔ IsReadOf t target r
reads-there t target r = (λ h. reads-into t target r (text-use t (EndsRead target r.context r.belief) h), back)
  where
    back : IsReadOf t target r → WasReadInto (text_uses t) target r
    back h =
        bridge-there t (EndsRead target r.context r.belief) h.bridge h.is_there (OfRead h.read h.is_read (inl
        (ap (λ (x : Name). EndsRead x r.context r.belief) (sym h.into) ∙ ap (λ (x : NamedRead). EndsRead (((h.bridge).head).context) x.context x.belief) (sym h.says))))

-- ---- weights
weights-said : (t : WrittenText) (n : ℕ) → TextUse t (Weighs n) → (b : WrittenBridge) × IsAmong b t.bridges × ((digits : Token) × (b.marks.weight ≡ Some digits) × (n ≡ value_of_digits digits))
weights-said t n (BeginsOne is) = cc
weights-said t n (NamesOne x there is) = cc
weights-said t n (WithinKb x there here) = absurd (not-so in_kb (Weighs n) (kb-in x.name x.kb (Weighs n) here) refl)
weights-said t n (WithinBridge b there (OfBridge is)) = cc
weights-said t n (WithinBridge b there (OfName is)) = cc
weights-said t n (WithinBridge b there (OfWeight digits said is)) = (b, there, (digits, said, cc))
weights-said t n (WithinBridge b there (OfHead (inl is))) = cc
weights-said t n (WithinBridge b there (OfHead (inr here))) = absurd (not-so in_place (Weighs n) (place-in b.head (Weighs n) here) refl)
weights-said t n (WithinBridge b there (OfRead r in_reads here)) = absurd (not-so in_read (Weighs n) (read-in (b.head).context r (Weighs n) here) refl)

pub weights-there : (t : WrittenText) (n : ℕ) → IsAmong (Weighs n) (text_uses t) → (b : WrittenBridge) × IsAmong b t.bridges × ((digits : Token) × (b.marks.weight ≡ Some digits) × (n ≡ value_of_digits digits))
weights-there t n h = weights-said t n (text-use t (Weighs n) h)

-- The sizes of a text's formulas and rules, and its open parentheses, told by its tokens.
use Rattle.std.proofs.Common.{ℕ, ◌<◌, ◌≤◌, refl, inl, inr, ◌↔◌, arith}
use Rattle.mcs_base.specs.Listings.{IsAmong}
use Rattle.mcs_grammar.specs.Written.{WrittenContext, WrittenPlace, WrittenText}
use Rattle.mcs_grammar.specs.Entries.{IsNumber, OpensWithin, size_of}
use Rattle.mcs_account.proofs.UsesParts.{text_uses, IsPlaceOf, OfHead, OfRead, rule_size, IsSizeOf, OfFormula, OfRule, OfPlace, IsShallow}
use Rattle.mcs_account.proofs.FormulaUses.{whole-part}
use Rattle.mcs_account.proofs.RuleUses.{rule-part}
use Rattle.mcs_account.proofs.ContextUses.{formula_uses, KbUse, OfWord, OfItem, OfDefault, WithinFormula, WithinRule, kb-uses, formula-among, rule-among}
use Rattle.mcs_account.proofs.BridgeUses as bridges
use Rattle.mcs_account.proofs.TextUses.{TextUse, BeginsOne, NamesOne, WithinKb, WithinBridge, text-use, kb-there}
use Rattle.mcs_account.proofs.UsesAtoms.{place-there}

-- ---- numbers
abbrev IsNumbered : WrittenText → ℕ → Type 0
IsNumbered t n = (1 ≤ n) × ((k : ℕ) × IsSizeOf t k × (n ≤ k))

kb-number : (n : ℕ) (t : WrittenText) (x : WrittenContext) → IsAmong x t.contexts → KbUse x.name x.kb (IsNumber n) → IsNumbered t n
kb-number n t x there (OfWord is program) = cc
kb-number n t x there (OfItem is) = cc
kb-number n t x there (OfDefault is) = cc
kb-number n t x there (WithinFormula f in_kb here) = let part = (whole-part x.name f).are (IsNumber n) here in (part.0, (size_of f, OfFormula x there f in_kb refl, part.1))
kb-number n t x there (WithinRule r in_kb here) = let part = (rule-part x.name r).are (IsNumber n) here in (part.0, (rule_size r, OfRule x there r in_kb refl, part.1))

place-number : (n : ℕ) (t : WrittenText) (p : WrittenPlace) → IsPlaceOf t p → IsAmong (IsNumber n) (formula_uses p.context p.belief) → IsNumbered t n
place-number n t p place here = let part = (whole-part p.context p.belief).are (IsNumber n) here in (part.0, (size_of p.belief, OfPlace p place refl, part.1))

numbers-said : (t : WrittenText) (n : ℕ) → TextUse t (IsNumber n) → IsNumbered t n
numbers-said t n (BeginsOne is) = cc
numbers-said t n (NamesOne x there is) = cc
numbers-said t n (WithinKb x there here) = kb-number n t x there (kb-uses x.name x.kb (IsNumber n) here)
numbers-said t n (WithinBridge b there (bridges.OfBridge is)) = cc
numbers-said t n (WithinBridge b there (bridges.OfName is)) = cc
numbers-said t n (WithinBridge b there (bridges.OfWeight digits said is)) = cc
numbers-said t n (WithinBridge b there (bridges.OfHead (inl is))) = cc
numbers-said t n (WithinBridge b there (bridges.OfHead (inr (inl is)))) = cc
numbers-said t n (WithinBridge b there (bridges.OfHead (inr (inr here)))) = place-number n t b.head (OfHead b there refl) here
numbers-said t n (WithinBridge b there (bridges.OfRead r in_reads (inl is))) = cc
numbers-said t n (WithinBridge b there (bridges.OfRead r in_reads (inr (inl is)))) = cc
numbers-said t n (WithinBridge b there (bridges.OfRead r in_reads (inr (inr (inl is))))) = cc
numbers-said t n (WithinBridge b there (bridges.OfRead r in_reads (inr (inr (inr here))))) = place-number n t r.place (OfRead b there r in_reads refl) here

sizes-there : (t : WrittenText) (n k : ℕ) → 1 ≤ n → n ≤ k → IsSizeOf t k → IsAmong (IsNumber n) (text_uses t)
sizes-there t n k some most (OfFormula x there f in_kb is) = kb-there t (IsNumber n) x there (formula-among x.name x.kb (IsNumber n) f in_kb ((whole-part x.name f).there (IsNumber n) (some, omega arith)))
sizes-there t n k some most (OfRule x there r in_kb is) = kb-there t (IsNumber n) x there (rule-among x.name x.kb (IsNumber n) r in_kb ((rule-part x.name r).there (IsNumber n) (some, omega arith)))
sizes-there t n k some most (OfPlace p place is) = place-there t (IsNumber n) p place ((whole-part p.context p.belief).there (IsNumber n) (some, omega arith))

pub numbers-there : (t : WrittenText) (n : ℕ) → IsAmong (IsNumber n) (text_uses t) ↔ ((1 ≤ n) × ((k : ℕ) × IsSizeOf t k × (n ≤ k)))
numbers-there t n = (λ h. numbers-said t n (text-use t (IsNumber n) h), λ h. sizes-there t n h.1.0 h.0 h.1.2 h.1.1)

-- ---- parentheses
kb-opens : (n : ℕ) (t : WrittenText) (x : WrittenContext) → IsShallow t → IsAmong x t.contexts → KbUse x.name x.kb (OpensWithin n) → n < 512
kb-opens n t x h there (OfWord is program) = cc
kb-opens n t x h there (OfItem is) = cc
kb-opens n t x h there (OfDefault is) = cc
kb-opens n t x h there (WithinFormula f in_kb here) = let part = (whole-part x.name f).are (OpensWithin n) here in let most = h.of_contexts x f there in_kb in omega (arith, part.1)
kb-opens n t x h there (WithinRule r in_kb here) = let part = (rule-part x.name r).are (OpensWithin n) here in absurd (omega (arith, part.1))

place-opens : (n : ℕ) (t : WrittenText) (p : WrittenPlace) → IsShallow t → IsPlaceOf t p → IsAmong (OpensWithin n) (formula_uses p.context p.belief) → n < 512
place-opens n t p h place here = let part = (whole-part p.context p.belief).are (OpensWithin n) here in let most = h.of_places p place in omega (arith, part.1)

opens-said : (t : WrittenText) (n : ℕ) → IsShallow t → TextUse t (OpensWithin n) → n < 512
opens-said t n h (BeginsOne is) = cc
opens-said t n h (NamesOne x there is) = cc
opens-said t n h (WithinKb x there here) = kb-opens n t x h there (kb-uses x.name x.kb (OpensWithin n) here)
opens-said t n h (WithinBridge b there (bridges.OfBridge is)) = cc
opens-said t n h (WithinBridge b there (bridges.OfName is)) = cc
opens-said t n h (WithinBridge b there (bridges.OfWeight digits said is)) = cc
opens-said t n h (WithinBridge b there (bridges.OfHead (inl is))) = cc
opens-said t n h (WithinBridge b there (bridges.OfHead (inr (inl is)))) = cc
opens-said t n h (WithinBridge b there (bridges.OfHead (inr (inr here)))) = place-opens n t b.head h (OfHead b there refl) here
opens-said t n h (WithinBridge b there (bridges.OfRead r in_reads (inl is))) = cc
opens-said t n h (WithinBridge b there (bridges.OfRead r in_reads (inr (inl is)))) = cc
opens-said t n h (WithinBridge b there (bridges.OfRead r in_reads (inr (inr (inl is))))) = cc
opens-said t n h (WithinBridge b there (bridges.OfRead r in_reads (inr (inr (inr here))))) = place-opens n t r.place h (OfRead b there r in_reads refl) here

pub opens-there : (t : WrittenText) (n : ℕ) → IsShallow t → IsAmong (OpensWithin n) (text_uses t) → n < 512
opens-there t n h there = opens-said t n h (text-use t (OpensWithin n) there)

-- Which fault is told of a text, and at which offset.
use Rattle.std.proofs.Common.{◌≡◌, ℕ, ◌<◌, List, [], length, Some, None, refl, sym, ap, subst, ◌∙◌, arith, get_or, slice_get}
use Rattle.std.specs.Prelude.{slice_range}
use Rattle.std.proofs.lemmas.List.{length-map}
use Rattle.std.proofs.lemmas.Option.{slice_get-get_or, slice_get_past}
use Rattle.mcs_base.proofs.Lists.{slice_get-map_at}
use Rattle.mcs_tokens.specs.Tokens.{AreTokens}
use Rattle.mcs_tokens.specs.declared.scan.Span.{Span}
use Rattle.mcs_faults.specs.declared.fault.Fault as code_fault
use Rattle.mcs_faults.specs.declared.fault.TextFault as code_text
use Rattle.mcs_faults.specs.declared.fault.TextFault.TheVariants as texts
use Rattle.mcs_language.specs.declared.reading.Reading.{Reading}
use Rattle.mcs_grammar.specs.Entries.{Token}
use Rattle.mcs_grammar.specs.Faults.{NoGrammar, IsFirstTextFault, fault_number, limit_of}
use Rattle.mcs_grammar.specs.Texts.{token_texts, offset_of, HasFault}
use Rattle.mcs_syntax.specs.Reads.{IsRead}
use Rattle.mcs_syntax.specs.Parts.{rest}
use Rattle.mcs_productions.specs.Productions.{grammar}
use Rattle.mcs_account.specs.Reading.{Events}
use Rattle.mcs_faults.specs.Watching.{fault_for}
use Rattle.mcs_language.specs.Progress.{AreReadUpTo, IsToldOf}
use Rattle.mcs_account.proofs.FaultTheory.{first-end}
use Rattle.mcs_language.proofs.ProgressLemmas.{reached}

-- ---- where a token stands
pub token-at : (bytes : List ℕ) (spans : List Span) (k : ℕ) (d : Span) (t : Token) → k < length spans → t ≡ slice_range bytes (get_or spans k d).from (get_or spans k d).to → slice_get (token_texts bytes spans) k ≡ Some t
token-at bytes spans k d t less is = slice_get-map_at (λ (s : Span). slice_range bytes s.from s.to) spans k d less ∙ ap (λ (x : Token). Some x) (sym is)

pub tokens-many : (bytes : List ℕ) (spans : List Span) → length spans ≡ length (token_texts bytes spans)
tokens-many bytes spans = sym (length-map spans (λ (s : Span). slice_range bytes s.from s.to))

offset-within : (bytes : List ℕ) (spans : List Span) (k : ℕ) (s : Span) → slice_get spans k ≡ Some s → s.from ≡ offset_of bytes spans k
offset-within bytes spans k s is = rw is refl

offset-past : (bytes : List ℕ) (spans : List Span) (k : ℕ) → slice_get spans k ≡ None → length bytes ≡ offset_of bytes spans k
offset-past bytes spans k is = rw is refl

-- ---- the fault that is told
pub told-at : (bytes : List ℕ) (spans : List Span) (k : ℕ) (d : Span) (f : code_fault.Fault) (told : code_text.TextFault) → AreTokens bytes 0 spans → k < length spans → IsFirstTextFault (token_texts bytes spans) k (fault_for f)
    → told ≡ texts.Fault (fault_number (fault_for f)) (get_or spans k d).from (limit_of (fault_for f)) → IsToldOf bytes told
told-at bytes spans k d f told tokens less first is =
    let offset : (get_or spans k d).from ≡ offset_of bytes spans k = offset-within bytes spans k (get_or spans k d) (slice_get-get_or spans k d less) in
    let here : HasFault bytes (fault_number (fault_for f)) (limit_of (fault_for f)) (get_or spans k d).from = record { spans = spans; tokens = tokens; token = k; fault = fault_for f; first = first; number_is = refl; limit_is = refl; offset_is = offset } in
    subst (IsToldOf bytes) (sym is) here

-- at the end, where something has to come
pub told-end : (bytes : List ℕ) (spans : List Span) (r : Reading) (told : code_text.TextFault) (size : ℕ) → AreTokens bytes 0 spans → (h : AreReadUpTo r (token_texts bytes spans) (length spans)) → ((xs : Events) → IsRead grammar (rest r.reader.reader) [] xs → ⊥)
    → size ≡ length bytes → told ≡ texts.Fault (fault_number NoGrammar) size (limit_of NoGrammar) → IsToldOf bytes told
told-end bytes spans r told size tokens h none whole is =
    let offset : size ≡ offset_of bytes spans (length spans) = whole ∙ offset-past bytes spans (length spans) (slice_get_past spans (length spans) (omega arith)) in
    let first = first-end (token_texts bytes spans) (length spans) h.marks (rest r.reader.reader) (reached r (token_texts bytes spans) (length spans) h) (tokens-many bytes spans) none h.free in
    let here : HasFault bytes (fault_number NoGrammar) (limit_of NoGrammar) size = record { spans = spans; tokens = tokens; token = length spans; fault = NoGrammar; first = first; number_is = refl; limit_is = refl; offset_is = offset } in
    subst (IsToldOf bytes) (sym is) here

-- Questions that are asked one after the other.
use Rattle.std.proofs.Common.{◌≡◌, ℕ, ◌+◌, ◌<◌, List, [], ◌∷◌, ◌++◌, take, length, get_or, Option, sym, ap, ◌∙◌, subst, inl, inr}
use Rattle.std.proofs.lemmas.List.{append_assoc, take_more, map-append}
use Rattle.mcs_base.specs.Listings.{IsAmong}
use Rattle.mcs_base.proofs.Among.{among_at, among_either}
use Rattle.mcs_base.proofs.Each.{all_append}
use Rattle.mcs_rows.specs.Local.{Answered}
use Rattle.mcs_system.specs.Plain.{System}
use Rattle.mcs_states.specs.Oracles.{OracleState, IsLacking, with_journal}
use Rattle.mcs_states.specs.declared.halt.Halt.{Halt}
use Rattle.mcs_states.specs.declared.halt.Halt.TheVariants.{Spent, Missing, Memory}
use Rattle.mcs_node.specs.Known.{AreRight, HasAskedAll, HasAskingCause, IsRight, questions_in}

-- some questions, and then others
pub asked_on : (o p q : OracleState) (xs ys : List ℕ) (given more : List Answered) → HasAskedAll o p xs given → HasAskedAll p q ys more → HasAskedAll o q (xs ++ ys) (given ++ more)
asked_on o p q xs ys given more first second =
    let system : p.system ≡ o.system = ap (λ z. z.system) first.journal in
    let context : p.context ≡ o.context = ap (λ z. z.context) first.journal in
    let holds : p.holds ≡ o.holds = ap (λ z. z.holds) first.journal in
    record {
      questions = map-append (λ (a : Answered). a.question) given more ∙ ap (λ zs. zs ++ questions_in more) first.questions ∙ ap (λ zs. xs ++ zs) second.questions;
      right = all_append (IsRight o.system o.context) given more first.right (subst (λ (m : System). AreRight m o.context more) system (subst (λ (i : ℕ). AreRight p.system i more) context second.right));
      held = λ x h. elim (among_either x xs ys h) [ inl early ↦ first.held x early | inr late ↦ subst (λ (sets : Option (List ℕ)). ¬ IsLacking sets x) holds (second.held x late) ];
      journal = second.journal ∙ ap (λ (z : OracleState). with_journal (z.journal ++ ys) z) first.journal ∙ ap (λ zs. with_journal zs o) (append_assoc o.journal xs ys);
    }

-- one question more
pub asked_more : (o p q : OracleState) (asked : List ℕ) (k d x : ℕ) (given now : List Answered) (a : Answered) → HasAskedAll o p (take k asked) given → HasAskedAll p q (x ∷ []) (a ∷ []) → k < length asked → x ≡ get_or asked k d → now ≡ given ++ a ∷ [] → HasAskedAll o q (take (k + 1) asked) now
asked_more o p q asked k d x given now a first second less is grown =
    subst (λ zs. HasAskedAll o q zs now) (ap (λ y. take k asked ++ y ∷ []) is ∙ sym (take_more asked k d less))
    (subst (λ (zs : List Answered). HasAskedAll o q (take k asked ++ x ∷ []) zs) (sym grown) (asked_on o p q (take k asked) (x ∷ []) given (a ∷ []) first second))

-- what stopped a question stopped them all, where the oracle changed but for its journal
pub cause_of_one : (i x k d : ℕ) (o p : OracleState) (asked : List ℕ) (given : List Answered) (halt : Halt) → HasAskedAll o p (take k asked) given → k < length asked → x ≡ get_or asked k d → HasAskingCause i p (x ∷ []) halt → HasAskingCause i o asked halt
cause_of_one i x k d o p asked given (Spent level drawn) so_far less is none = none
cause_of_one i x k d o p asked given (Missing context y) so_far less is (e, among, lacks) =
    let holds : p.holds ≡ o.holds = ap (λ z. z.holds) so_far.journal in
    let one : y ≡ x = elim among [ inl here ↦ here | inr none ↦ absurd none ] in
    (e, subst (λ z. IsAmong z asked) (sym (one ∙ is)) (among_at asked k d less), subst (λ (sets : Option (List ℕ)). IsLacking sets y) holds lacks)
cause_of_one i x k d o p asked given Memory so_far less is h = tt

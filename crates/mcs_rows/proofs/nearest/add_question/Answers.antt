use Rattle.std.proofs.Common.{◌≡◌, ◌↔◌, ◌⊎◌, ◌++◌, ◌∷◌, [], ℕ, List, Some, slice_get, ◌∙◌, inl, inr, sym, ap, subst, refl}
use Rattle.std.proofs.lemmas.Option.{get_or_from_slice_get}
use Rattle.mcs_base.specs.Listings.{IsAmong}
use Rattle.mcs_base.proofs.Among.{among_push}
use Rattle.mcs_rows.specs.declared.nearest.Supported.{Supported}
use Rattle.mcs_rows.proofs.NearestLemmas.{supported_push, supported_insert}
use Rattle.mcs_rows.proofs.nearest.add_question.Goals as goal

pub returns-in_ok-push-in-Some : goal.returns-in_ok-push-in-Some
returns-in_ok-push-in-Some c =
    let xs = c.args.all.now.items in
    let old : Supported = c.index_mut.result.now in
    let new : Supported = record { part = c.index_mut.result.now.part; questions = c.push.new.self } in
    let (one, there, part) = c.in-Some.ensures in
    let at : slice_get xs c.in-Some.place ≡ Some one = subst (λ (ys : List Supported). slice_get ys c.in-Some.place ≡ Some one) c.deref.ensures.value there in
    let here : old ≡ one = c.index_mut.ensures.value ∙ get_or_from_slice_get xs c.in-Some.place one old at in
    supported_push xs c.in-Some.place old new c.args.part c.args.question (at ∙ ap Some (sym here)) (ap (λ (s : Supported). s.part) here ∙ part) refl c.in_ok-push-in-Some.ensures.items

pub returns-in_ok-push-in-None-2 : goal.returns-in_ok-push-in-None-2
returns-in_ok-push-in-None-2 c =
    let new : Supported = record { part = c.args.part; questions = c.push-in-None.new.self } in
    supported_insert c.args.all.now.items c.push-in-None-2.new.self.items new c.args.part c.args.question
    (λ one. subst (λ (xs : List Supported). IsAmong one xs ↔ ((one ≡ new) ⊎ IsAmong one c.args.all.now.items)) (sym c.in_ok-push-in-None-2.ensures.items)
    (let pushed = among_push one c.args.all.now.items new in (λ h. elim (pushed.0 h) [ inl b ↦ inr b | inr e ↦ inl e ], λ h. elim h [ inl e ↦ pushed.1 (inr e) | inr b ↦ pushed.1 (inl b) ])))
    refl (c.in_ok-push-in-None.ensures.items ∙ ap (λ (xs : List ℕ). xs ++ c.args.question ∷ []) c.new-questions.ensures.items)

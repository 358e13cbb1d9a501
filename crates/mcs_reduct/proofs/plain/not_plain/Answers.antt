use Rattle.std.proofs.Common.{◌≡◌, ℕ, ◌<◌, Some, slice_get, inl, inr, arith, refl, sym, ap, ◌∙◌, List, length, map, get_or}
use Rattle.std.proofs.lemmas.Bool.{cases_eq}
use Rattle.std.proofs.lemmas.List.{length-map}
use Rattle.std.proofs.lemmas.Option.{same_Some, slice_get_read, slice_get_within}
use Rattle.mcs_base.proofs.Lists.{slice_get-map_some}
use Rattle.mcs_system.specs.Plain.{Context}
use Rattle.mcs_system.specs.Seen.{context_of}
use Rattle.mcs_system.specs.declared.knowledge.Context.{Context as CodeContext}
use Rattle.mcs_reduct.specs.Plain.{is_plain}
use Rattle.mcs_reduct.proofs.plain.not_plain.Goals as goal

-- the item of the loop, as a context of the system
item_is : (cs : List Context) (items : List CodeContext) (k : ℕ) (c : CodeContext) → map context_of items ≡ cs → k < length items → c ≡ get_or items k c → slice_get cs k ≡ Some (context_of c)
item_is cs items k c value less is = ap (λ (cs : List Context). slice_get cs k) (sym value) ∙ slice_get-map_some context_of items k c (slice_get_read items (length items) k c refl less is)

pub returns-then-not-is_plain : goal.returns-then-not-is_plain
returns-then-not-is_plain c = record {
  context = context_of c.context-item.result;
  is_its = item_is c.args.system.now.contexts c.contexts-context-items.result.now c.loop-number.number c.context-item.result c.contexts-context-items.ensures.value c.loop-number-test.true c.context-item.is;
  not_plain = sym c.is_plain.ensures ∙ c.if-not-is_plain.true;
  plain_before = λ j d less is. c.loop-number.invariant j d less is;
}

pub loop-number-preserved : goal.loop-number-preserved
loop-number-preserved c j d less is = elim (cases_eq j c.loop-number.number) [
  | inl same ↦ (
      let here = item_is c.args.system.now.contexts c.contexts-context-items.result.now c.loop-number.number c.context-item.result c.contexts-context-items.ensures.value c.loop-number-test.true c.context-item.is in
      ap (λ (x : Context). is_plain x.kb) (sym (same_Some (context_of c.context-item.result) d (sym here ∙ (ap (slice_get c.args.system.now.contexts) (sym same) ∙ is)))) ∙ sym c.is_plain.ensures ∙ c.if-not-is_plain.false)
  | inr other ↦ c.loop-number.invariant j d (omega (arith, less, other)) is
]

pub returns : goal.returns
returns c i d is =
    let few = slice_get_within c.args.system.now.contexts i d is in
    let long = ap length c.contexts-context-items.ensures.value in
    let same = length-map c.contexts-context-items.result.now context_of in
    c.loop-number.invariant i d (omega (arith, few, long, same, c.loop-number-test.false)) is

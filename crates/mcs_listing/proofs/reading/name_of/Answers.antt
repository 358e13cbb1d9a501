use Rattle.std.proofs.Common.{◌≡◌, ℕ, ◌<◌, Some, slice_get, arith, refl, sym, ap, ◌∙◌, List, length, get_or}
use Rattle.std.proofs.lemmas.List.{length-map}
use Rattle.std.proofs.lemmas.Option.{same_Some, slice_get_read, slice_get_within}
use Rattle.std.proofs.lemmas.Result.{IfOk-weaker}
use Rattle.mcs_base.proofs.Lists.{slice_get-map_some}
use Rattle.mcs_system.specs.Plain.{Name, Context, System}
use Rattle.mcs_system.specs.Seen.{context_of}
use Rattle.mcs_system.specs.declared.knowledge.Context.{Context as CodeContext}
use Rattle.mcs_reduct.specs.Plain.{IsLowestNotPlain}
use Rattle.mcs_listing.specs.Texts.{IsNotPlainAt}
use Rattle.mcs_listing.proofs.reading.name_of.Goals as goal

named : (m : System) (i : ℕ) (l : IsLowestNotPlain m i) (d : Context) → slice_get m.contexts i ≡ Some d → (n : Name) → n ≡ d.name → IsNotPlainAt n m
named m i l d at n is = record { place = i; lowest = l; name_is = ap (λ (x : Context). x.name) (same_Some l.context d (sym l.is_its ∙ at)) ∙ sym is }

pub returns : goal.returns
returns c =
    let items = c.contexts.result.now in
    let i = c.args.context in
    let own = c.index-contexts-context.result in
    let few = slice_get_within c.args.system.now.contexts i c.requires.context c.requires.is_its in
    let long = ap length c.contexts.ensures.value in
    let same = length-map items context_of in
    let less : i < length items = omega (arith, few, long, same) in
    let at : slice_get c.args.system.now.contexts i ≡ Some (context_of own) =
    ap (λ (cs : List Context). slice_get cs i) (sym c.contexts.ensures.value) ∙ slice_get-map_some context_of items i own (slice_get_read items (length items) i own refl less c.index-contexts-context.is) in
    IfOk-weaker c.copy.result (λ n. n ≡ (get_or items i own).name) _ (λ n is. named c.args.system.now i c.requires (context_of own) at n (is ∙ ap (λ (x : CodeContext). x.name) (sym c.index-contexts-context.is))) c.copy.ensures

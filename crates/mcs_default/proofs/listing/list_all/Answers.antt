use Rattle.std.proofs.Common.{◌≡◌, ◌∙◌, ◌+◌, ◌-◌, ◌^◌, ℕ, List, [], length, sym, ap, subst}
use Rattle.std.proofs.lemmas.List.{length-map}
use Rattle.mcs_sets.specs.Sets.{Within}
use Rattle.mcs_sets.proofs.Lattice.{none_within}
use Rattle.mcs_base.proofs.NumberCases.{power_less_one}
use Rattle.mcs_system.specs.Plain.{Formula, Default}
use Rattle.mcs_system.specs.Seen.{default_of}
use Rattle.mcs_evidence.specs.Theories.{all_of}
use Rattle.mcs_grounding.specs.Asked.{theory_beliefs, theory_defaults}
use Rattle.mcs_default.proofs.SearchLemmas.{AreAdded, all_added, all_numbered}
use Rattle.mcs_default.proofs.listing.list_all.Goals as goal

all_sets : (ds : List Default) (n sets last : ℕ) → n ≡ length ds → sets ≡ 2 ^ n → last ≡ sets - 1 → last ≡ all_of ds
all_sets ds n sets last few is less = all_numbered ds last (less_one ∙ power_less_one (length ds))
  where
    less_one : last + 1 ≡ 2 ^ length ds - 1 + 1
    less_one = ap (λ (m : ℕ). m + 1) (less ∙ ap (λ (m : ℕ). m - 1) (is ∙ ap (λ (m : ℕ). 2 ^ m) few))

pub add_views-requires : goal.add_views-requires
add_views-requires c =
    let ds : List Default = theory_defaults c.args.search.now.theory.now in
    let few = sym (length-map c.args.search.now.theory.now.defaults.now (λ d. default_of d.now)) in
    let all = c.known_of-all.ensures.set ∙ all_sets ds (length c.args.search.now.theory.now.defaults.now) c.set_count-sets.result c.numbered.result few c.set_count-sets.ensures c.numbered.ensures in
    record {
      within = subst (λ (s : ℕ). Within s c.known_of-all.result.set) (sym (c.known_of-taken.ensures.set ∙ c.empty.ensures)) (none_within c.known_of-all.result.set);
      inside = subst (λ (s : ℕ). Within c.known_of-all.result.set s) all (λ k member. member);
      taken = c.known_of-taken.ensures.right;
      all = c.known_of-all.ensures.right;
    }

pub returns-clause-exact : goal.returns-clause-exact
returns-clause-exact c items parts =
    let ds : List Default = theory_defaults c.args.search.now.theory.now in
    let beliefs : List Formula = theory_beliefs c.args.search.now.theory.now in
    let few = sym (length-map c.args.search.now.theory.now.defaults.now (λ d. default_of d.now)) in
    let none = c.known_of-taken.ensures.set ∙ c.empty.ensures in
    let all = c.known_of-all.ensures.set ∙ all_sets ds (length c.args.search.now.theory.now.defaults.now) c.set_count-sets.result c.numbered.result few c.set_count-sets.ensures c.numbered.ensures in
    let added = subst (λ (s : ℕ). AreAdded items beliefs s c.known_of-all.result.set c.new-views.result.items c.add_views.new.views.items) none (c.in_ok-add_views.ensures.listed items parts) in
    let from_none = subst (λ (xs : List ℕ). AreAdded items beliefs 0 c.known_of-all.result.set xs c.add_views.new.views.items) c.new-views.ensures.items added in
    all_added items beliefs ds c.add_views.new.views.items c.list_states.new.states.items parts.0 (subst (λ (s : ℕ). AreAdded items beliefs 0 s [] c.add_views.new.views.items) all from_none) c.list_states.ensures

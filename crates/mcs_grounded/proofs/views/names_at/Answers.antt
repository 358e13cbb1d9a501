use Rattle.std.proofs.Common.{◌+◌, ◌≡◌, ◌∙◌, ◌∷◌, ◌++◌, ◌<◌, ℕ, List, length, map, refl, ap, subst, arith}
use Rattle.std.specs.List.{AllByRecursion}
use Rattle.mcs_sets.specs.Sets.{members}
use Rattle.mcs_base.proofs.Each.{all_from_among}
use Rattle.mcs_base.proofs.ListingLemmas.{members_listing}
use Rattle.mcs_grounded.specs.Views.{name_at, names_there}
use Rattle.mcs_grounded.proofs.Loops.{push_long}
use Rattle.mcs_grounded.proofs.Viewing.{lent_name, name_read}
use Rattle.mcs_grounded.proofs.views.names_at.Goals as goal

pub loop-place-init : goal.loop-place-init
loop-place-init c =
    let all : c.into_iter-place-iterator.result ≡ members c.args.places = c.into_iter-place-iterator.ensures.into_iter_gives ∙ c.members-place-items.ensures.list in record {
      lent = rw (all, c.new-names.ensures.items) refl;
      known = rw all (all_from_among (λ k. k < length c.args.atoms.now) (members c.args.places) (λ k among. c.requires k (((members_listing c.args.places).exactly k).0 among)));
      few = rw (all, c.new-names.ensures.items) (omega (arith, c.members-place-items.ensures.few, ap length c.members-place-items.ensures.list));
    }

pub bounds-atoms-place : goal.bounds-atoms-place
bounds-atoms-place c = (subst (AllByRecursion (λ k. k < length c.args.atoms.now)) c.in-Some.ensures.steps c.loop-place.invariant.known).0

pub loop-place-preserved : goal.loop-place-preserved
loop-place-preserved c =
    let atoms = c.args.atoms.now in
    let before = c.loop-place.invariant in
    let k = c.in-Some.place in
    let known = subst (AllByRecursion (λ k. k < length atoms)) c.in-Some.ensures.steps before.known in
    let lent : map (λ n. n.now) c.loop-place.names.items ++ name_at atoms k ∷ map (name_at atoms) c.next.new.self ≡ names_there atoms c.args.places =
    subst (λ (ks : List ℕ). map (λ n. n.now) c.loop-place.names.items ++ map (name_at atoms) ks ≡ names_there atoms c.args.places) c.in-Some.ensures.steps before.lent in
    let longer : length c.push.new.self.items ≡ length c.loop-place.names.items + 1 = ap length c.in_ok-push.ensures.items ∙ push_long _ _ in
    record {
      lent = ap (λ ns. map (λ n. n.now) ns ++ map (name_at atoms) c.next.new.self) c.in_ok-push.ensures.items ∙ lent_name _ _ _ (map (name_at atoms) c.next.new.self) (c.index-atoms-place.is ∙ name_read atoms k c.index-atoms-place.result known.0) ∙ lent;
      known = known.1;
      few = omega (arith, longer, before.few, ap length c.in-Some.ensures.steps);
    }

-- Rounds in which every node is done are alike.
use Rattle.std.proofs.Common.{◌≡◌, ℕ, true, true≢false, Option, is_some, sym, ap, ◌∙◌, inl, inr, arith}
use Rattle.std.proofs.lemmas.Bool.{cases_Bool}
use Rattle.std.proofs.lemmas.Option.{slice_get_within}
use Rattle.mcs_base.specs.Listings.{IsAmong}
use Rattle.mcs_base.proofs.Distinct.{distinct_fits}
use Rattle.mcs_base.proofs.Lists.{slice_get_below}
use Rattle.mcs_node.specs.Rounds.{Stamp, Round, NodeState, Finishes}
use Rattle.mcs_node.specs.Configurations.{Configuration, HasNode, IsSound, IsDone}
use Rattle.mcs_node.specs.Laws.{AreAlike, DoneRoundsAreAlike}
use Rattle.mcs_node.proofs.RuleLemmas.{done_finishes}

-- a node that is done has begun
done_begun : (r : Round) (c : Configuration) (sound : IsSound r c) (i : ℕ) (s : NodeState) → HasNode c i s → s.done ≡ true → s.begun ≡ true
done_begun r c sound i s at done = elim (cases_Bool s.begun) [
  | inl begun ↦ begun
  | inr unbegun ↦ absurd (true≢false (sym done ∙ ap (λ (p : NodeState). p.done) ((sound.nodes i s at).unbegun unbegun)))
]

alike : (r : Round) (i : ℕ) (s t : NodeState) → s.begun ≡ true → t.begun ≡ true → Finishes r i s → Finishes r i t → AreAlike s t
alike r i s t begun begun' f g = record {
  begun = begun ∙ sym begun';
  had = (λ x. ((λ h. (g.had.exactly x).1 ((f.had.exactly x).0 h)), (λ h. (f.had.exactly x).1 ((g.had.exactly x).0 h))));
  granted = was_granted f ∙ sym (was_granted g);
  put_out = (λ x. ((λ h. (g.put_out.exactly x).1 ((f.put_out.exactly x).0 h)), (λ h. (f.put_out.exactly x).1 ((g.put_out.exactly x).0 h))));
  done = f.done ∙ sym g.done;
  halt = f.halt ∙ sym g.halt;
  by_itself = f.by_itself ∙ sym g.by_itself;
}
  where
    was_granted : {q : NodeState} → Finishes r i q → is_some q.granted ≡ true
    was_granted {q} h = let (total, is, within) = h.granted in ap (λ (o : Option ℕ). is_some o) is

module _ (r : Round) (c d : Configuration) (sound : IsSound r c) (sound' : IsSound r d) (done : IsDone c) (done' : IsDone d) where
  nodes_alike : (i : ℕ) (s t : NodeState) → HasNode c i s → HasNode d i t → AreAlike s t
  nodes_alike i s t at there = alike r i s t
      (done_begun r c sound i s at (done i s at))
      (done_begun r d sound' i t there (done' i t there))
      (done_finishes r i s (sound.nodes i s at).rule (done i s at))
      (done_finishes r i t (sound'.nodes i t there).rule (done' i t there))

  letters_there : (x : Stamp) → IsAmong x c.letters → IsAmong x d.letters
  letters_there x h =
      let (i, s, at, out) = (sound.letters.exactly x).0 h in
      let (t, there) = slice_get_below d.nodes i (omega (arith, slice_get_within c.nodes i s at, sound.one_each, sound'.one_each)) in
      (sound'.letters.exactly x).1 (i, t, there, ((nodes_alike i s t at there).put_out x).0 out)

pub done_rounds_are_alike : DoneRoundsAreAlike
done_rounds_are_alike r c d sound sound' done done' = (
  nodes_alike r c d sound sound' done done',
  λ x. (letters_there r c d sound sound' done done' x, letters_there r d c sound' sound done' done x),
  let few = distinct_fits c.letters d.letters sound.letters.apart (letters_there r c d sound sound' done done') in
      let many = distinct_fits d.letters c.letters sound'.letters.apart (letters_there r d c sound' sound done' done) in
      omega (arith, few, many),
)

-- Clauses that a state of its own takes in, and what it learns of them.
use Rattle.std.proofs.Common.{◌≡◌, ◌≢◌, ℕ, ◌+◌, ◌-◌, suc, ◌<◌, List, [], ◌∷◌, ◌++◌, inl, inr, sym, ap, ◌∙◌, subst, arith, ℤ, unsigned_abs, length, length-append, map, take, get_or, Some, slice_get}
use Rattle.std.proofs.lemmas.Bool.{cases_lt}
use Rattle.std.proofs.lemmas.List.{get_or_append_left, get_or_push, length_push}
use Rattle.std.proofs.lemmas.Option.{slice_get_within}
use Rattle.std.specs.List.{AllByRecursion}
use Rattle.mcs_base.proofs.Each.{all_get, all_weaker}
use Rattle.mcs_base.proofs.Lists.{map_slice_get, slice_get_push_at, slice_get_seam, slice_get_take, slice_get-append_left, slice_get-append_right}
use Rattle.mcs_trace.specs.Clauses.{IsClause}
use Rattle.mcs_trace.specs.Traces.{Inference, IsChainResolvent, numbered_clause}
use Rattle.mcs_engine.specs.declared.state.State.{State}
use Rattle.mcs_search.specs.Numbering.{NameBelow, number_now}
use Rattle.mcs_search.specs.Parts.{IsGathered, IsPartState}
use Rattle.mcs_engine.specs.States.{KeepsTrail}
use Rattle.mcs_engine.specs.Stores.{IsAdded, IsLaterGround}
use Rattle.mcs_engine.specs.Trails.{AreCovered, IsClauseOver}
use Rattle.mcs_engine.proofs.GrowLemmas.{over_at}
use Rattle.mcs_engine.proofs.KnownLemmas.{numbered-more, numbered-row}
use Rattle.mcs_search.proofs.NumberingLemmas.{chain-renumbered, names-at}

numbered-next : (known : List (List ℤ)) (i : ℕ) → numbered_clause known (i + 1) ≡ slice_get known i
numbered-next known i = let next : i + 1 ≡ suc i = omega arith in ap (numbered_clause known) next

-- ---- a clause is taken in
pub gathered-more : (whole old new : State) (ns ms : List ℕ) (i : ℕ) (c : List ℤ) → IsGathered whole old ns → KeepsTrail old new → IsAdded old new c [] → slice_get whole.clauses i ≡ Some c → ms ≡ ns ++ (i + 1) ∷ [] → IsGathered whole new ms
gathered-more whole old new ns ms i c is kept added here numbers = record {
  taken = record {
    sound = is.taken.sound;
    state = kept.state;
    base = kept.levels ∙ is.taken.base;
    positions = kept.positions ∙ is.taken.positions;
    sized = (let all = sizes in omega arith);
    numbered = λ j d less at. elim (slice_get_push_at old.clauses c j d (subst (λ (cs : List (List ℤ)). slice_get cs j ≡ Some d) added.clauses at)) [
      | inl before ↦
          let within = slice_get_within old.clauses j d before in
          let same : get_or ms j 0 ≡ get_or ns j 0 = ap (λ (xs : List ℕ). get_or xs j 0) numbers ∙ get_or_append_left ns ((i + 1) ∷ []) 0 j (omega (arith, is.all)) in
          ap (numbered_clause whole.clauses) same ∙ is.taken.numbered j d (omega (arith, is.all)) before
      | inr (last, e) ↦
          let same : get_or ms j 0 ≡ i + 1 = ap (λ (xs : List ℕ). get_or xs j 0) numbers ∙ get_or_push ns (i + 1) 0 j (is.all ∙ sym last) in
          ap (numbered_clause whole.clauses) same ∙ numbered-next whole.clauses i ∙ here ∙ ap Some (sym e)
    ];
    learnt = λ j past none. let all = sizes in let less = slice_get_within new.chains j [] none in omega (arith, kept.state.chains.sized);
  };
  all = sizes;
}
  where
    sizes : length ms ≡ length new.clauses
    sizes = omega (arith, is.all, ap length numbers, length_push ns (i + 1), ap length added.clauses, length_push old.clauses c)

-- a clause of the whole is one over the variables of the part
pub over-whole : (whole part : State) (ns : List ℕ) (i : ℕ) (c : List ℤ) → IsPartState whole part ns → slice_get whole.clauses i ≡ Some c → IsClauseOver part.trail.positions.items c
over-whole whole part ns i c is here =
    let over = over_at whole.clauses whole.trail i c is.sound.trail here in
    (over.0, subst (λ (n : ℕ). AllByRecursion (λ (l : ℤ). unsigned_abs l < n) c) (sym is.positions) over.1)

-- ---- more was learnt
pub part-later : (whole old new : State) (ns : List ℕ) → IsPartState whole old ns → IsLaterGround old new → IsPartState whole new ns
part-later whole old new ns is ground = let later = ground.later in record {
  sound = is.sound;
  state = later.state;
  base = ground.base;
  positions = later.positions ∙ is.positions;
  sized = (let few = is.sized in omega (arith, ap length later.clauses, length-append old.clauses added));
  numbered = λ i c less at. (let few = is.sized in
      is.numbered i c less (sym (slice_get-append_left old.clauses added i (omega arith)) ∙ subst (λ (cs : List (List ℤ)). slice_get cs i ≡ Some c) later.clauses at));
  learnt = λ i past none.
      let at : slice_get (old.chains ++ chains) i ≡ Some [] = subst (λ (ms : List (List ℕ)). slice_get ms i ≡ Some []) later.chains none in
      elim (cases_lt i (length old.chains)) [
        | inl before ↦ is.learnt i past (sym (slice_get-append_left old.chains chains i before) ∙ at)
        | inr after ↦
            let k : ℕ = i - length old.chains in
            let place : i ≡ length old.chains + k = omega arith in
            let (step, here, empty) = map_slice_get (λ (s : Inference). s.chain) later.more k [] (sym (slice_get-append_right old.chains chains k) ∙ ap (slice_get (old.chains ++ chains)) (sym place) ∙ at) in
            all_get (λ (s : Inference). s.chain ≢ []) later.more k step later.learnt here empty
      ];
}
  where
    added : List (List ℤ)
    added = map (λ (s : Inference). s.clause) ground.later.more

    chains : List (List ℕ)
    chains = map (λ (s : Inference). s.chain) ground.later.more

-- ---- the next clause that was learnt
pub next-below : (whole part : State) (ns chain : List ℕ) → IsPartState whole part ns → slice_get part.chains (length ns) ≡ Some chain → NameBelow (length ns) chain
next-below whole part ns chain is at = names-at part.clauses part.chains is.state.chains (length ns) chain at

module _ (whole part : State) (ns : List ℕ) (c : List ℤ) (chain : List ℕ) (is : IsPartState whole part ns) (here : slice_get part.clauses (length ns) ≡ Some c) (at : slice_get part.chains (length ns) ≡ Some chain) where
  pub next-over : IsClauseOver whole.trail.positions.items c
  next-over =
      let room = is.positions in (
        all_get IsClause part.clauses (length ns) c is.state.trail.clauses here,
        all_weaker (λ (l : ℤ). unsigned_abs l < length part.trail.positions.items) (λ (l : ℤ). unsigned_abs l < length whole.trail.positions.items) (λ l less. omega arith) c
            (all_get (AreCovered part.trail.positions.items) part.clauses (length ns) c is.state.trail.covered here),
      )

  pub next-right : IsChainResolvent whole.clauses (map (number_now ns) chain) c
  next-right = elim (is.state.chains.right (length ns) c chain here at) [
    | inl none ↦ absurd (is.learnt (length ns) (omega arith) (at ∙ ap Some none))
    | inr right ↦ chain-renumbered (take (length ns) part.clauses) whole.clauses (number_now ns) chain c (λ n d among named.
        let (some, less, row) = numbered-row (take (length ns) part.clauses) n d named in
        let (low, known) = slice_get_take (length ns) part.clauses (n - 1) d row in
        is.numbered (n - 1) d low known) right
  ]

-- it is learnt
pub part-adopted : (whole new part : State) (ns ms : List ℕ) (c : List ℤ) (chain : List ℕ) → IsPartState whole part ns → KeepsTrail whole new → IsAdded whole new c chain → slice_get part.clauses (length ns) ≡ Some c → ms ≡ ns ++ length new.clauses ∷ [] → IsPartState new part ms
part-adopted whole new part ns ms c chain is kept added here numbers = record {
  sound = kept.state;
  state = is.state;
  base = is.base;
  positions = is.positions ∙ sym kept.positions;
  sized = (let less = slice_get_within part.clauses (length ns) c here in omega (arith, size));
  numbered = λ j d less at. elim (cases_lt j (length ns)) [
    | inl before ↦
        let same : get_or ms j 0 ≡ get_or ns j 0 = ap (λ (xs : List ℕ). get_or xs j 0) numbers ∙ get_or_append_left ns (length new.clauses ∷ []) 0 j before in
        ap (numbered_clause new.clauses) same ∙ ap (λ (cs : List (List ℤ)). numbered_clause cs (get_or ns j 0)) added.clauses ∙ numbered-more whole.clauses (c ∷ []) (get_or ns j 0) d (is.numbered j d before at)
    | inr past ↦
        let last : j ≡ length ns = omega (arith, size) in
        let same : get_or ms j 0 ≡ length whole.clauses + 1 = ap (λ (xs : List ℕ). get_or xs j 0) numbers ∙ get_or_push ns (length new.clauses) 0 j (sym last) ∙ ap length added.clauses ∙ length_push whole.clauses c in
        ap (numbered_clause new.clauses) same ∙ numbered-next new.clauses (length whole.clauses) ∙ ap (λ (cs : List (List ℤ)). slice_get cs (length whole.clauses)) added.clauses
        ∙ slice_get_seam whole.clauses c [] (length whole.clauses) refl-length ∙ sym here ∙ ap (slice_get part.clauses) (sym last) ∙ at
  ];
  learnt = λ i past. is.learnt i (omega (arith, size));
}
  where
    size : length ms ≡ length ns + 1
    size = ap length numbers ∙ length_push ns (length new.clauses)

    refl-length : length whole.clauses ≡ length whole.clauses
    refl-length = omega arith

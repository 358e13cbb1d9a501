-- The trace that a store of clauses gives is accepted.
use Rattle.std.proofs.Common.{◌≡◌, ℕ, ◌+◌, ◌-◌, ◌<◌, ◌≤◌, zero, suc, Bool, true, false, IsTrue, List, [], ◌∷◌, ◌++◌, ◌⊎◌, inl, inr, refl, sym, ap, ◌∙◌, subst, arith, true≢false, ℤ, length, length-append, map, set, take, get_or, Some, slice_get}
use Rattle.std.proofs.lemmas.Bool.{cases_eq, cases_lt}
use Rattle.std.proofs.lemmas.Grind.{get_or-set_at}
use Rattle.std.proofs.lemmas.List.{append-nil, append_assoc, get_or_append_left, get_or-set_other, get_or_push, length-map, length-take-le, length_push, map_push, take_all, take_more}
use Rattle.std.proofs.lemmas.Option.{get_or_from_slice_get, same_Some, slice_get_within}
use Rattle.mcs_base.specs.Listings.{IsAmong}
use Rattle.mcs_base.proofs.Among.{among_at, among_push}
use Rattle.mcs_base.proofs.Lists.{slice_get_below, slice_get_kept, slice_get_read_as, slice_get_seam, slice_get_take}
use Rattle.mcs_trace.specs.Traces.{AreRightSteps, Inference, IsAcceptedTrace, IsChainResolvent, ResolvesTo, clauses_of, inference_of, numbered_clause}
use Rattle.mcs_trace.specs.declared.trace.Step.{Step}
use Rattle.mcs_trace.proofs.TraceLemmas.{numbered-pred}
use Rattle.mcs_search.specs.declared.trace.Numbering.{Numbering}
use Rattle.mcs_search.specs.Numbering.{AreMarked, AreChainsMarked, IsNumbering, IsRead, NameBelow, NamesAt, number_now}
use Rattle.mcs_engine.specs.States.{AreChains}
use Rattle.mcs_engine.specs.Stores.{given, given_count}
use Rattle.mcs_engine.proofs.KnownLemmas.{numbered-more, numbered-row}
use Rattle.mcs_engine.proofs.StoreLemmas.{given-at, given_count-append, length-given}
use Rattle.mcs_base.proofs.Written.{take_next}

-- ---- what a chain names
resolves-names : (known : List (List ℤ)) (c : List ℤ) (ns : List ℕ) (last : List ℤ) → ResolvesTo known c ns last → (n : ℕ) → IsAmong n ns → (d : List ℤ) × (numbered_clause known n ≡ Some d)
resolves-names known c [] last h n among = absurd among
resolves-names known c (m ∷ ns) last (d, at, (between, is, rest)) n (inl e) = (d, ap (numbered_clause known) e ∙ at)
resolves-names known c (m ∷ ns) last (d, at, (between, is, rest)) n (inr among) = resolves-names known between ns last rest n among

pub chain-names : (known : List (List ℤ)) (ns : List ℕ) (c : List ℤ) → IsChainResolvent known ns c → (n : ℕ) → IsAmong n ns → (d : List ℤ) × (numbered_clause known n ≡ Some d)
chain-names known [] c h n among = absurd among
chain-names known (m ∷ ns) c (first, at, rest) n (inl e) = (first, ap (numbered_clause known) e ∙ at)
chain-names known (m ∷ ns) c (first, at, rest) n (inr among) = resolves-names known first ns c rest n among

pub chain-below : (known : List (List ℤ)) (ns : List ℕ) (c : List ℤ) → IsChainResolvent known ns c → NameBelow (length known) ns
chain-below known ns c h n among =
    let (d, at) = chain-names known ns c h n among in
    let (some, less, is) = numbered-row known n d at in
    (some, omega arith)

pub names-at : (known : List (List ℤ)) (chains : List (List ℕ)) → AreChains known chains → NamesAt chains
names-at known chains is i ns at n among =
    let less = slice_get_within chains i ns at in
    let (c, here) = slice_get_below known i (omega (arith, is.sized)) in
    elim (is.right i c ns here at) [
      | inl none ↦ absurd (subst (λ (xs : List ℕ). IsAmong n xs) none among)
      | inr right ↦ let (some, most) = chain-below (take i known) ns c right n among in (some, omega (arith, length-take-le i known (omega (arith, is.sized))))
    ]

-- ---- other numbers
resolves-renumbered : (known new : List (List ℤ)) (f : ℕ → ℕ) (c : List ℤ) (ns : List ℕ) (last : List ℤ) → ((n : ℕ) (d : List ℤ) → IsAmong n ns → numbered_clause known n ≡ Some d → numbered_clause new (f n) ≡ Some d) → ResolvesTo known c ns last → ResolvesTo new c (map f ns) last
resolves-renumbered known new f c [] last same h = h
resolves-renumbered known new f c (m ∷ ns) last same (d, at, (between, is, rest)) = (d, same m d (inl refl) at, (between, is, resolves-renumbered known new f between ns last (λ n d among. same n d (inr among)) rest))

pub chain-renumbered : (known new : List (List ℤ)) (f : ℕ → ℕ) (ns : List ℕ) (c : List ℤ) → ((n : ℕ) (d : List ℤ) → IsAmong n ns → numbered_clause known n ≡ Some d → numbered_clause new (f n) ≡ Some d) → IsChainResolvent known ns c → IsChainResolvent new (map f ns) c
chain-renumbered known new f [] c same h = h
chain-renumbered known new f (m ∷ ns) c same (first, at, rest) = (first, same m first (inl refl) at, resolves-renumbered known new f first ns c (λ n d among. same n d (inr among)) rest)

-- ---- steps
right-push : (known : List (List ℤ)) (steps : List Inference) (s : Inference) → AreRightSteps known steps → IsChainResolvent (known ++ map (λ (i : Inference). i.clause) steps) s.chain s.clause → AreRightSteps known (steps ++ s ∷ [])
right-push known [] s right chain = (subst (λ (ks : List (List ℤ)). IsChainResolvent ks s.chain s.clause) (append-nil known) chain, tt)
right-push known (t ∷ steps) s right chain = (
  right.0,
  right-push (known ++ t.clause ∷ []) steps s right.1 (subst (λ (ks : List (List ℤ)). IsChainResolvent ks s.chain s.clause) (sym (append_assoc known (t.clause ∷ []) (map (λ (i : Inference). i.clause) steps))) chain),
)

clauses-inferences : (steps : List Step) → map (λ (i : Inference). i.clause) (map inference_of steps) ≡ clauses_of steps
clauses-inferences [] = refl
clauses-inferences (s ∷ steps) = ap (λ (xs : List (List ℤ)). s.clause ∷ xs) (clauses-inferences steps)

-- one step more
right-step : (known : List (List ℤ)) (steps : List Step) (s : Step) (c : List ℤ) (ns : List ℕ) → AreRightSteps known (map inference_of steps) → inference_of s ≡ record { clause = c; chain = ns } → IsChainResolvent (known ++ clauses_of steps) ns c → AreRightSteps known (map inference_of (steps ++ s ∷ []))
right-step known steps s c ns right is chain =
    subst (AreRightSteps known) (sym (map_push inference_of steps s))
    (right-push known (map inference_of steps) (inference_of s) right
    (subst (λ (ks : List (List ℤ)). IsChainResolvent (known ++ ks) s.chain.items s.clause) (sym (clauses-inferences steps))
    (subst (λ (i : Inference). IsChainResolvent (known ++ clauses_of steps) i.chain i.clause) (sym is) chain)))

clauses-push : (known : List (List ℤ)) (steps : List Step) (s : Step) (c : List ℤ) → s.clause ≡ c → known ++ clauses_of (steps ++ s ∷ []) ≡ (known ++ clauses_of steps) ++ c ∷ []
clauses-push known steps s c e = ap (λ (xs : List (List ℤ)). known ++ xs) (map_push (λ (t : Step). t.clause) steps s) ∙ sym (append_assoc known (clauses_of steps) (s.clause ∷ [])) ∙ ap (λ (x : List ℤ). (known ++ clauses_of steps) ++ x ∷ []) e

module _ (known : List (List ℤ)) (chains : List (List ℕ)) (needed : List Bool) (is : AreChains known chains) (closed : AreChainsMarked chains needed 0) where
  -- a chain of marked clauses is right by their numbers
  pub chain-now : (i : ℕ) (n : Numbering) (ns : List ℕ) (c : List ℤ) → IsNumbering known chains needed i n → AreMarked needed ns → IsChainResolvent (take i known) ns c → IsChainResolvent (given known chains ++ clauses_of n.steps.items) (map (number_now n.numbers.items) ns) c
  chain-now i n ns c so marked right = chain-renumbered (take i known) (given known chains ++ clauses_of n.steps.items) (number_now n.numbers.items) ns c (λ m d among at.
      let (some, less, row) = numbered-row (take i known) m d at in
      let (low, here) = slice_get_take i known (m - 1) d row in
      let within = slice_get_within known (m - 1) d here in
      let (ms, there) = slice_get_below chains (m - 1) (omega (arith, is.sized)) in
      so.named (m - 1) d ms low here there (inr (marked m among))) right

  -- the numbers of the clauses before stay
  named-before : (i j : ℕ) (old new : Numbering) (x : ℕ) (more : List (List ℤ)) (c : List ℤ) (ns : List ℕ) → IsNumbering known chains needed i old → new.numbers.items ≡ old.numbers.items ++ x ∷ [] → given known chains ++ clauses_of new.steps.items ≡ (given known chains ++ clauses_of old.steps.items) ++ more → j < i → slice_get known j ≡ Some c → slice_get chains j ≡ Some ns → (ns ≡ []) ⊎ IsTrue (get_or needed j false) → numbered_clause (given known chains ++ clauses_of new.steps.items) (get_or new.numbers.items j 0) ≡ Some c
  named-before i j old new x more c ns so numbers clauses less at at' marked =
      let same : get_or new.numbers.items j 0 ≡ get_or old.numbers.items j 0 = ap (λ (xs : List ℕ). get_or xs j 0) numbers ∙ get_or_append_left old.numbers.items (x ∷ []) 0 j (omega (arith, so.sized)) in
      ap (λ (ks : List (List ℤ)). numbered_clause ks (get_or new.numbers.items j 0)) clauses ∙ ap (numbered_clause ((given known chains ++ clauses_of old.steps.items) ++ more)) same
      ∙ numbered-more (given known chains ++ clauses_of old.steps.items) more (get_or old.numbers.items j 0) c (so.named j c ns less at at' marked)

  number-last : (i : ℕ) (old new : Numbering) (x : ℕ) → IsNumbering known chains needed i old → new.numbers.items ≡ old.numbers.items ++ x ∷ [] → get_or new.numbers.items i 0 ≡ x
  number-last i old new x so numbers = ap (λ (xs : List ℕ). get_or xs i 0) numbers ∙ get_or_push old.numbers.items x 0 i so.sized

  size-next : (i : ℕ) (old new : Numbering) (x : ℕ) → IsNumbering known chains needed i old → new.numbers.items ≡ old.numbers.items ++ x ∷ [] → length new.numbers.items ≡ i + 1
  size-next i old new x so numbers = ap length numbers ∙ length_push old.numbers.items x ∙ ap (λ (k : ℕ). k + 1) so.sized

  -- a clause that was given
  next-given : (i : ℕ) (old new : Numbering) (c : List ℤ) → IsNumbering known chains needed i old → slice_get known i ≡ Some c → slice_get chains i ≡ Some [] → new.steps.items ≡ old.steps.items → new.given ≡ old.given + 1 → new.numbers.items ≡ old.numbers.items ++ (old.given + 1) ∷ [] → IsNumbering known chains needed (i + 1) new
  next-given i old new c so at none steps count numbers =
      let clauses : given known chains ++ clauses_of new.steps.items ≡ (given known chains ++ clauses_of old.steps.items) ++ [] = ap (λ (xs : List Step). given known chains ++ clauses_of xs) steps ∙ sym (append-nil (given known chains ++ clauses_of old.steps.items)) in
      let counted : given_count (take (i + 1) chains) ≡ given_count (take i chains) + 1 = ap given_count (take_next chains i [] none) ∙ given_count-append (take i chains) ([] ∷ []) in
      record {
        sized = size-next i old new (old.given + 1) so numbers;
        counted = omega (arith, so.counted);
        few = omega (arith, so.few, ap length steps);
        right = subst (λ (xs : List Step). AreRightSteps (given known chains) (map inference_of xs)) (sym steps) so.right;
        named = λ j d ns less at' at'' marked. elim (cases_lt j i) [
          | inl before ↦ named-before i j old new (old.given + 1) [] d ns so numbers clauses before at' at'' marked
          | inr past ↦
              let last : j ≡ i = omega arith in
              let same : c ≡ d = same_Some c d (sym at ∙ ap (slice_get known) (sym last) ∙ at') in
              let back : old.given + 1 - 1 ≡ given_count (take i chains) = omega (arith, so.counted) in
              ap (numbered_clause (given known chains ++ clauses_of new.steps.items)) (ap (λ (k : ℕ). get_or new.numbers.items k 0) last ∙ number-last i old new (old.given + 1) so numbers)
              ∙ numbered-pred (given known chains ++ clauses_of new.steps.items) (old.given + 1) (omega arith)
              ∙ ap (slice_get (given known chains ++ clauses_of new.steps.items)) back
              ∙ slice_get_kept (given known chains) (clauses_of new.steps.items) (given_count (take i chains)) c (given-at known chains i c at none)
              ∙ ap Some same
        ];
      }

  given-not : (i m : ℕ) (ms : List ℕ) → slice_get chains i ≡ Some (m ∷ ms) → given_count (take (i + 1) chains) ≡ given_count (take i chains)
  given-not i m ms at = ap given_count (take_next chains i (m ∷ ms) at) ∙ given_count-append (take i chains) ((m ∷ ms) ∷ []) ∙ omega arith

  -- one that is left out
  next-left : (i : ℕ) (old new : Numbering) (m : ℕ) (ms : List ℕ) → IsNumbering known chains needed i old → slice_get chains i ≡ Some (m ∷ ms) → get_or needed i false ≡ false → new.steps.items ≡ old.steps.items → new.given ≡ old.given → new.numbers.items ≡ old.numbers.items ++ 0 ∷ [] → IsNumbering known chains needed (i + 1) new
  next-left i old new m ms so at off steps count numbers =
      let clauses : given known chains ++ clauses_of new.steps.items ≡ (given known chains ++ clauses_of old.steps.items) ++ [] = ap (λ (xs : List Step). given known chains ++ clauses_of xs) steps ∙ sym (append-nil (given known chains ++ clauses_of old.steps.items)) in
      record {
        sized = size-next i old new 0 so numbers;
        counted = count ∙ so.counted ∙ sym (given-not i m ms at);
        few = omega (arith, so.few, ap length steps, count);
        right = subst (λ (xs : List Step). AreRightSteps (given known chains) (map inference_of xs)) (sym steps) so.right;
        named = λ j d ns less at' at'' marked. elim (cases_lt j i) [
          | inl before ↦ named-before i j old new 0 [] d ns so numbers clauses before at' at'' marked
          | inr past ↦
              let last : j ≡ i = omega arith in
              let same : m ∷ ms ≡ ns = same_Some (m ∷ ms) ns (sym at ∙ ap (slice_get chains) (sym last) ∙ at'') in
              absurd (elim marked [
                | inl none ↦ cons-not_nil m ms (same ∙ none)
                | inr on ↦ true≢false (sym on ∙ ap (λ (k : ℕ). get_or needed k false) last ∙ off)
              ])
        ];
      }
    where
      cons-not_nil : (m : ℕ) (ms : List ℕ) → m ∷ ms ≡ [] → ⊥
      cons-not_nil m ms e = cc

  -- a step
  next-step : (i count : ℕ) (old new : Numbering) (c : List ℤ) (m : ℕ) (ms : List ℕ) (s : Step) → count ≡ given_count chains → IsNumbering known chains needed i old → slice_get known i ≡ Some c → slice_get chains i ≡ Some (m ∷ ms) → get_or needed i false ≡ true
      → inference_of s ≡ record { clause = c; chain = map (number_now old.numbers.items) (m ∷ ms) } → new.steps.items ≡ old.steps.items ++ s ∷ [] → new.given ≡ old.given → new.numbers.items ≡ old.numbers.items ++ (count + length old.steps.items + 1) ∷ [] → IsNumbering known chains needed (i + 1) new
  next-step i count old new c m ms s counted so at at' on step steps same-given numbers =
      let G : List (List ℤ) = given known chains in
      let number : ℕ = count + length old.steps.items + 1 in
      let e : s.clause ≡ c = ap (λ (x : Inference). x.clause) step in
      let clauses : G ++ clauses_of new.steps.items ≡ (G ++ clauses_of old.steps.items) ++ c ∷ [] = ap (λ (xs : List Step). G ++ clauses_of xs) steps ∙ clauses-push G old.steps.items s c e in
      let right : IsChainResolvent (take i known) (m ∷ ms) c = elim (is.right i c (m ∷ ms) at at') [ inl none ↦ absurd (cons-not_nil m ms none) | inr right ↦ right ] in
      let marked : AreMarked needed (m ∷ ms) = closed i (m ∷ ms) (omega arith) at' on in
      record {
        sized = size-next i old new number so numbers;
        counted = same-given ∙ so.counted ∙ sym (given-not i m ms at');
        few = omega (arith, so.few, ap length steps, length_push old.steps.items s, same-given);
        right = subst (λ (xs : List Step). AreRightSteps G (map inference_of xs)) (sym steps)
            (right-step G old.steps.items s c (map (number_now old.numbers.items) (m ∷ ms)) so.right step (chain-now i old (m ∷ ms) c so marked right));
        named = λ j d ns less there there' marked'. elim (cases_lt j i) [
          | inl before ↦ named-before i j old new number (c ∷ []) d ns so numbers clauses before there there' marked'
          | inr past ↦
              let last : j ≡ i = omega arith in
              let same : c ≡ d = same_Some c d (sym at ∙ ap (slice_get known) (sym last) ∙ there) in
              let back : number - 1 ≡ length (G ++ clauses_of old.steps.items) = omega (arith, counted, length-append G (clauses_of old.steps.items), length-given known chains is.sized, length-map old.steps.items (λ (t : Step). t.clause)) in
              ap (numbered_clause (G ++ clauses_of new.steps.items)) (ap (λ (k : ℕ). get_or new.numbers.items k 0) last ∙ number-last i old new number so numbers)
              ∙ ap (λ (ks : List (List ℤ)). numbered_clause ks number) clauses
              ∙ numbered-pred ((G ++ clauses_of old.steps.items) ++ c ∷ []) number (omega arith)
              ∙ slice_get_seam (G ++ clauses_of old.steps.items) c [] (number - 1) back
              ∙ ap Some same
        ];
      }
    where
      cons-not_nil : (m : ℕ) (ms : List ℕ) → m ∷ ms ≡ [] → ⊥
      cons-not_nil m ms e = cc

  pub numbering-next : (i count : ℕ) (old new : Numbering) (c : List ℤ) (ns : List ℕ) (b : Bool) → count ≡ given_count chains → IsNumbering known chains needed i old → slice_get known i ≡ Some c → slice_get chains i ≡ Some ns → get_or needed i false ≡ b → IsRead old new c ns b count → IsNumbering known chains needed (i + 1) new
  numbering-next i count old new c [] b counted so at at' on (steps, more, numbers) = next-given i old new c so at at' steps more numbers
  numbering-next i count old new c (m ∷ ms) false counted so at at' on (steps, more, numbers) = next-left i old new m ms so at' on steps more numbers
  numbering-next i count old new c (m ∷ ms) true counted so at at' on (s, step, steps, more, numbers) = next-step i count old new c m ms s counted so at at' on step steps more numbers

  -- the whole trace
  pub numbering-ends : (count : ℕ) (old new : Numbering) (ns : List ℕ) → IsNumbering known chains needed (length known) old → AreMarked needed ns → IsChainResolvent known ns [] → IsRead old new [] ns true count → IsAcceptedTrace (given known chains) (map inference_of new.steps.items)
  numbering-ends count old new [] so marked right read = absurd right
  numbering-ends count old new (m ∷ ms) so marked right (s, step, steps, more, numbers) =
      let G : List (List ℤ) = given known chains in
      let whole : take (length known) known ≡ known = take_all (length known) known (omega arith) in
      let right' : IsChainResolvent (take (length known) known) (m ∷ ms) [] = subst (λ (ks : List (List ℤ)). IsChainResolvent ks (m ∷ ms) []) (sym whole) right in
      let done : AreRightSteps G (map inference_of (old.steps.items ++ s ∷ [])) = right-step G old.steps.items s [] (map (number_now old.numbers.items) (m ∷ ms)) so.right step (chain-now (length known) old (m ∷ ms) [] so marked right') in
      subst (λ (xs : List Step). IsAcceptedTrace G (map inference_of xs)) (sym steps) (done, (inference_of s, last old.steps.items s, ap (λ (x : Inference). x.clause) step))
    where
      last : (steps : List Step) (s : Step) → slice_get (map inference_of (steps ++ s ∷ [])) (length (map inference_of (steps ++ s ∷ [])) - 1) ≡ Some (inference_of s)
      last steps s =
          let e : map inference_of (steps ++ s ∷ []) ≡ map inference_of steps ++ inference_of s ∷ [] = map_push inference_of steps s in
          let size : length (map inference_of steps ++ inference_of s ∷ []) - 1 ≡ length (map inference_of steps) = omega (arith, length_push (map inference_of steps) (inference_of s)) in
          ap (λ (xs : List Inference). slice_get xs (length xs - 1)) e ∙ ap (slice_get (map inference_of steps ++ inference_of s ∷ [])) size ∙ slice_get_seam (map inference_of steps) (inference_of s) [] (length (map inference_of steps)) refl

-- how many clauses come later
pub given-later : (chains : List (List ℕ)) (i : ℕ) → given_count chains ≤ given_count (take i chains) + (length chains - i)
given-later [] i = omega arith
given-later (ns ∷ chains) zero = let most = count-most (ns ∷ chains) in omega arith
  where
    count-most : (chains : List (List ℕ)) → given_count chains ≤ length chains
    count-most [] = omega arith
    count-most ([] ∷ chains) = let rest = count-most chains in omega arith
    count-most ((m ∷ ms) ∷ chains) = let rest = count-most chains in omega arith
given-later ([] ∷ chains) (suc i) = let rest = given-later chains i in omega arith
given-later ((m ∷ ms) ∷ chains) (suc i) = let rest = given-later chains i in omega arith

-- ---- marks
pub at-number : (ns : List ℕ) (k i : ℕ) → NameBelow k ns → i < length ns → (0 < get_or ns i 0) × (get_or ns i 0 ≤ k)
at-number ns k i below less = below (get_or ns i 0) (among_at ns i 0 less)

pub set-kept : (xs : List Bool) (p i : ℕ) → p < length xs → IsTrue (get_or xs i false) → IsTrue (get_or (set xs p true) i false)
set-kept xs p i less on = elim (cases_eq i p) [
  | inl e ↦ get_or-set_at xs p i true false e less
  | inr other ↦ get_or-set_other xs p i true false other ∙ on
]

pub set-only : (xs : List Bool) (p i : ℕ) → IsTrue (get_or (set xs p true) i false) → IsTrue (get_or xs i false) ⊎ (i ≡ p)
set-only xs p i on = elim (cases_eq i p) [
  | inl e ↦ inr e
  | inr other ↦ inl (sym (get_or-set_other xs p i true false other) ∙ on)
]

pub marked-more : (xs : List Bool) (ns : List ℕ) (i : ℕ) → i < length ns → 0 < get_or ns i 0 → get_or ns i 0 ≤ length xs → AreMarked xs (take i ns) → AreMarked (set xs (get_or ns i 0 - 1) true) (take (i + 1) ns)
marked-more xs ns i less some within marked n among = elim ((among_push n (take i ns) (get_or ns i 0)).0 (subst (λ (ms : List ℕ). IsAmong n ms) (take_more ns i 0 less) among)) [
  | inl before ↦ set-kept xs (get_or ns i 0 - 1) (n - 1) (omega arith) (marked n before)
  | inr e ↦ get_or-set_at xs (get_or ns i 0 - 1) (n - 1) true false (ap (λ (m : ℕ). m - 1) e) (omega arith)
]

pub marked-kept : (old new : List Bool) (ns : List ℕ) → ((i : ℕ) → IsTrue (get_or old i false) → IsTrue (get_or new i false)) → AreMarked old ns → AreMarked new ns
marked-kept old new ns kept marked n among = kept (n - 1) (marked n among)

-- one chain more, from the end
pub named-marked : (chains : List (List ℕ)) (old new : List Bool) (i : ℕ) (ns : List ℕ) → NamesAt chains → slice_get chains i ≡ Some ns → ((j : ℕ) → IsTrue (get_or old j false) → IsTrue (get_or new j false)) → ((j : ℕ) → IsTrue (get_or new j false) → IsTrue (get_or old j false) ⊎ IsAmong (j + 1) ns) → AreMarked new ns → AreChainsMarked chains old (i + 1) → AreChainsMarked chains new i
named-marked chains old new i ns at here kept only marked named j ms from there on = elim (cases_lt i j) [
  | inl later ↦ elim (only j on) [
    | inl was ↦ marked-kept old new ms kept (named j ms (omega arith) there was)
    | inr among ↦ absurd (let (some, most) = at i ns here (j + 1) among in omega arith)
  ]
  | inr not ↦
      let same : j ≡ i = omega arith in
      subst (AreMarked new) (same_Some ns ms (sym here ∙ ap (slice_get chains) (sym same) ∙ there)) marked
]

pub named-off : (chains : List (List ℕ)) (needed : List Bool) (i : ℕ) → get_or needed i false ≡ false → AreChainsMarked chains needed (i + 1) → AreChainsMarked chains needed i
named-off chains needed i off named j ms from there on = elim (cases_lt i j) [
  | inl later ↦ named j ms (omega arith) there on
  | inr not ↦ absurd (let same : j ≡ i = omega arith in true≢false (sym on ∙ ap (λ (k : ℕ). get_or needed k false) same ∙ off))
]

pub mark-read : (needed : List Bool) (i : ℕ) (b : Bool) → i < length needed → b ≡ get_or needed i b → get_or needed i false ≡ b
mark-read needed i b less e = get_or_from_slice_get needed i b false (slice_get_read_as needed needed i b refl less e)

-- there is room for the number of one step more
pub room-left : (chains : List (List ℕ)) (i : ℕ) (ns : List ℕ) (given steps : ℕ) → slice_get chains i ≡ Some ns → 0 < length ns → given ≡ given_count (take i chains) → given + steps ≤ i → given_count chains + steps + 1 ≤ length chains
room-left chains i [] given steps at some counted few = absurd (omega arith)
room-left chains i (m ∷ ms) given steps at some counted few =
    let less = slice_get_within chains i (m ∷ ms) at in
    let same : given_count (take (i + 1) chains) ≡ given_count (take i chains) = ap given_count (take_next chains i (m ∷ ms) at) ∙ given_count-append (take i chains) ((m ∷ ms) ∷ []) ∙ omega arith in
    let later = given-later chains (i + 1) in
    omega arith

-- a step was taken
pub read-step : (old new : Numbering) (c : List ℤ) (ns : List ℕ) (b : Bool) (count : ℕ) (s : Step) → 0 < length ns → b ≡ true → inference_of s ≡ record { clause = c; chain = map (number_now old.numbers.items) ns } → new.steps.items ≡ old.steps.items ++ s ∷ [] → new.given ≡ old.given → new.numbers.items ≡ old.numbers.items ++ (count + length old.steps.items + 1) ∷ [] → IsRead old new c ns b count
read-step old new c [] b count s some on step steps same numbers = absurd (omega arith)
read-step old new c (m ∷ ms) false count s some on step steps same numbers = absurd (true≢false (sym on))
read-step old new c (m ∷ ms) true count s some on step steps same numbers = (s, step, steps, same, numbers)

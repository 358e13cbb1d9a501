-- What was learnt holds where what was given does, and so do the literals that are true before any decision.
use Rattle.std.proofs.Common.{◌≡◌, ℕ, ◌+◌, ◌<◌, zero, suc, Bool, true, false, not, IsTrue, true≢false, List, [], ◌∷◌, ◌++◌, inl, inr, sym, ap, ◌∙◌, subst, arith, ℤ, pos, negsuc, neg_ℤ, unsigned_abs, length, take, Some, slice_get}
use Rattle.std.specs.List.{AllByRecursion}
use Rattle.std.proofs.lemmas.Bool.{cases_lt}
use Rattle.std.proofs.lemmas.List.{take_all, take_more}
use Rattle.std.proofs.lemmas.Option.{get_or_from_slice_get}
use Rattle.mcs_base.specs.Listings.{IsAmong}
use Rattle.mcs_base.proofs.Among.{among_get, any_get}
use Rattle.mcs_base.proofs.Clausal.{HasNoZero}
use Rattle.mcs_base.proofs.Each.{all_among, all_by_test, all_get, all_push}
use Rattle.mcs_base.proofs.Lists.{slice_get_below}
use Rattle.mcs_trace.specs.Clauses.{IsClause, IsUnsatisfiable, all_hold, clause_holds, literal_holds}
use Rattle.mcs_trace.specs.Traces.{IsChainResolvent, ResolvesTo, numbered_clause}
use Rattle.mcs_trace.proofs.ResolventLemmas.{IsResolvent-holds, IsResolvent-no_zero, clause-no_zero}
use Rattle.mcs_trace.proofs.TraceLemmas.{IsKnown}
use Rattle.mcs_engine.specs.declared.state.State.{State}
use Rattle.mcs_engine.specs.declared.trail.Entry.{Entry}
use Rattle.mcs_engine.specs.States.{AreChains, IsState}
use Rattle.mcs_engine.specs.Stores.{given, given_count}
use Rattle.mcs_engine.specs.Trails.{AreExplained, IsFalseAt, literal_at, reason_at}
use Rattle.mcs_engine.proofs.LevelLemmas.{implied-none}
use Rattle.mcs_engine.proofs.StoreLemmas.{given-at}

module _ (v : ℕ → Bool) where
  -- ---- clauses that are resolved from clauses that hold
  known-at : (known : List (List ℤ)) (n : ℕ) (c : List ℤ) → AllByRecursion (IsKnown v) known → numbered_clause known n ≡ Some c → IsKnown v c
  known-at known zero c all e = absurd (cc)
  known-at known (suc n) c all e = all_get (IsKnown v) known n c all e

  resolves-hold : (known : List (List ℤ)) (c : List ℤ) (ns : List ℕ) (last : List ℤ) → AllByRecursion (IsKnown v) known → IsKnown v c → ResolvesTo known c ns last → IsKnown v last
  resolves-hold known c [] last all is e = subst (IsKnown v) e is
  resolves-hold known c (n ∷ ns) last all is (d, e, (m, r, rest)) =
      let is' : IsKnown v d = known-at known n d all e in
      resolves-hold known m ns last all (IsResolvent-no_zero c d m is.0 is'.0 r, IsResolvent-holds v c d m is.0 r is.1 is'.1) rest

  chain-holds : (known : List (List ℤ)) (ns : List ℕ) (last : List ℤ) → AllByRecursion (IsKnown v) known → IsChainResolvent known ns last → IsKnown v last
  chain-holds known [] last all h = absurd h
  chain-holds known (n ∷ ns) last all (c, e, rest) = resolves-hold known c ns last all (known-at known n c all e) rest

  holds-at : (cs : List (List ℤ)) (i : ℕ) (c : List ℤ) → IsTrue (all_hold v cs) → slice_get cs i ≡ Some c → clause_holds v c ≡ true
  holds-at cs i c all at = all_get (λ (d : List ℤ). clause_holds v d ≡ true) cs i c ((all_by_test (λ (d : List ℤ). clause_holds v d ≡ true) (clause_holds v) cs (λ d _. (λ e. e, λ e. e))).1 all) at

  first-hold : (known : List (List ℤ)) (chains : List (List ℕ)) (i : ℕ) → AreChains known chains → AllByRecursion IsClause known → IsTrue (all_hold v (given known chains)) → AllByRecursion (IsKnown v) (take i known)
  first-hold known chains zero is clauses all = tt
  first-hold known chains (suc i) is clauses all = elim (cases_lt i (length known)) [
    | inl less ↦
        let before = first-hold known chains i is clauses all in
        let (c, at) = slice_get_below known i less in
        let (ns, at') = slice_get_below chains i (omega (arith, is.sized)) in
        let no_zero : HasNoZero c = clause-no_zero c (all_get IsClause known i c clauses at).0 in
        let here : IsKnown v c = elim (is.right i c ns at at') [
          | inl none ↦ (no_zero, holds-at (given known chains) (given_count (take i chains)) c all (given-at known chains i c at (at' ∙ ap Some none)))
          | inr right ↦ chain-holds (take i known) ns c before right
        ] in
        let next : take (suc i) known ≡ take i known ++ c ∷ [] = (let e : suc i ≡ i + 1 = omega arith in ap (λ (n : ℕ). take n known) e ∙ take_more known i c less ∙ ap (λ (x : List ℤ). take i known ++ x ∷ []) (get_or_from_slice_get known i c c at)) in
        subst (AllByRecursion (IsKnown v)) (sym next) (all_push (IsKnown v) (take i known) c before here)
    | inr past ↦ subst (AllByRecursion (IsKnown v)) (take_all i known past ∙ sym (take_all (suc i) known (omega arith))) (first-hold known chains i is clauses all)
  ]

  -- ---- literals
  not_both : (k : ℤ) → 0 < unsigned_abs k → literal_holds v k ≡ true → literal_holds v (neg_ℤ k) ≡ true → ⊥
  not_both (pos zero) is h h' = absurd (omega (arith, is))
  not_both (pos (suc n)) is h h' = at (v (suc n)) h (ap (λ m. not (v m)) (omega arith) ∙ h')
    where
      at : (b : Bool) → b ≡ true → not b ≡ true → ⊥
      at true e e' = true≢false (sym e')
      at false e e' = true≢false (sym e)
  not_both (negsuc n) is h h' = at (v (suc n)) (ap (λ m. not (v m)) (omega arith) ∙ h) h'
    where
      at : (b : Bool) → not b ≡ true → b ≡ true → ⊥
      at true e e' = true≢false (sym e)
      at false e e' = true≢false (sym e')

  -- a literal of a clause that holds
  holds-some : (c : List ℤ) → clause_holds v c ≡ true → (k : ℤ) × IsAmong k c × (literal_holds v k ≡ true)
  holds-some c h = let (i, k, is, holds) = any_get (literal_holds v) c h in (k, among_get k c i is, holds)

  entries-hold : (known : List (List ℤ)) (es : List Entry) (n i : ℕ) → AllByRecursion (IsKnown v) known → AreExplained known es → ((j : ℕ) → j < length es → reason_at es j ≡ 0 → ⊥) → i < n → i < length es → literal_holds v (literal_at es i) ≡ true
  entries-hold known es zero i all explained implied low less = absurd (omega arith)
  entries-hold known es (suc n) i all explained implied low less = elim (explained i less) [
    | inl none ↦ absurd (implied i less none)
    | inr (c, at, reason) ↦
        let (no_zero, holds) = known-at known (reason_at es i) c all at in
        let (k, among, on) = holds-some c holds in
        elim (reason.others k among) [
          | inl e ↦ subst (λ (l : ℤ). literal_holds v l ≡ true) e on
          | inr (p, before, e) ↦ absurd (not_both k (all_among (λ (l : ℤ). 0 < unsigned_abs l) c k no_zero among) on (subst (λ (l : ℤ). literal_holds v l ≡ true) e (entries-hold known es n p all explained implied (omega arith) (omega arith))))
        ]
  ]

-- where a clause is false though nothing was decided, what was given can't hold
pub refuted-given : (s : State) (i : ℕ) → IsState s → s.levels.items ≡ [] → IsFalseAt s.clauses s.trail.entries.items i → IsUnsatisfiable (given s.clauses s.chains)
refuted-given s i is base (c, at, off) v all =
    let es : List Entry = s.trail.entries.items in
    let known : AllByRecursion (IsKnown v) s.clauses = subst (AllByRecursion (IsKnown v)) (take_all (length s.clauses) s.clauses (omega arith)) (first-hold v s.clauses s.chains (length s.clauses) is.chains is.trail.clauses all) in
    let (no_zero, holds) = all_get (IsKnown v) s.clauses i c known at in
    let (k, among, on) = holds-some v c holds in
    let (p, less, e) = off k among in
    let implied = implied-none es (sym is.starts.count ∙ ap length base) in
    not_both v k (all_among (λ (l : ℤ). 0 < unsigned_abs l) c k no_zero among) on
    (subst (λ (l : ℤ). literal_holds v l ≡ true) e (entries-hold v s.clauses es (length es) p known is.trail.explained (λ j low none. let (a, b) = implied j low none in omega arith) less less))

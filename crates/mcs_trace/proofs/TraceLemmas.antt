-- Chains and traces, read step by step.
use Rattle.std.proofs.Common.{◌≡◌, ℕ, ◌+◌, ◌-◌, ◌<◌, ◌≤◌, zero, suc, Bool, true, List, [], ◌∷◌, ◌++◌, ◌↔◌, refl, sym, ap, ◌∙◌, subst, arith, ℤ, length, take, drop, map, get_or, Some, None, slice_get, true≢false, append_assoc}
use Rattle.std.specs.List.{AllByRecursion}
use Rattle.std.proofs.lemmas.List.{drop_more, drop_all, take_more, length-map, map_push}
use Rattle.std.proofs.lemmas.Option.{slice_get_past, slice_get_read, none-some, same_Some}
use Rattle.mcs_base.proofs.Lists.{slice_get-append_left, slice_get-append_right, slice_get-map_some}
use Rattle.mcs_base.proofs.Each.{all_push, all_both, all_by_test, all_weaker, all_get}
use Rattle.mcs_trace.specs.Clauses.{IsClause, clause_holds, IsUnsatisfiable}
use Rattle.mcs_trace.specs.Resolution.{IsResolvent}
use Rattle.mcs_trace.specs.Traces.{Inference, numbered_clause, ResolvesTo, IsChainResolvent, AreRightSteps, EndsEmpty, IsAcceptedTrace, inference_of, clauses_of}
use Rattle.mcs_trace.specs.declared.trace.Step.{Step}
use Rattle.mcs_base.proofs.Clausal.{HasNoZero, HaveNoZero}
use Rattle.mcs_trace.proofs.ResolventLemmas.{same_resolvent, clause-no_zero, IsResolvent-no_zero, IsResolvent-holds}

-- ---- numbered clauses
pub numbered-pred : (known : List (List ℤ)) (n : ℕ) → 0 < n → numbered_clause known n ≡ slice_get known (n - 1)
numbered-pred known zero some = absurd (omega arith)
numbered-pred known (suc n) some = let e : n ≡ suc n - 1 = omega arith in ap (slice_get known) e

pub numbered-clause : (clauses : List (List ℤ)) (steps : List Step) (n : ℕ) (c : List ℤ) → 0 < n → n - 1 < length clauses → c ≡ get_or clauses (n - 1) c → Some c ≡ numbered_clause (clauses ++ clauses_of steps) n
numbered-clause clauses steps n c some less e = sym (numbered-pred (clauses ++ clauses_of steps) n some ∙ slice_get-append_left clauses (clauses_of steps) (n - 1) less ∙ slice_get_read clauses (length clauses) (n - 1) c refl less e)

pub numbered-step : (clauses : List (List ℤ)) (steps : List Step) (n : ℕ) (s : Step) → 0 < n → length clauses ≤ n - 1 → n - 1 - length clauses < length steps → s ≡ get_or steps (n - 1 - length clauses) s → Some s.clause ≡ numbered_clause (clauses ++ clauses_of steps) n
numbered-step clauses steps n s some past less e =
    let at : n - 1 ≡ length clauses + (n - 1 - length clauses) = omega arith in
    sym (numbered-pred (clauses ++ clauses_of steps) n some ∙ ap (slice_get (clauses ++ clauses_of steps)) at ∙ slice_get-append_right clauses (clauses_of steps) (n - 1 - length clauses) ∙ slice_get-map_some (λ (t : Step). t.clause) steps (n - 1 - length clauses) s (slice_get_read steps (length steps) (n - 1 - length clauses) s refl less e))

pub numbered-none : (clauses : List (List ℤ)) (steps : List Step) (n : ℕ) → 0 < n → length clauses ≤ n - 1 → length steps ≤ n - 1 - length clauses → None ≡ numbered_clause (clauses ++ clauses_of steps) n
numbered-none clauses steps n some past past' =
    let at : n - 1 ≡ length clauses + (n - 1 - length clauses) = omega arith in
    sym (numbered-pred (clauses ++ clauses_of steps) n some ∙ ap (slice_get (clauses ++ clauses_of steps)) at ∙ slice_get-append_right clauses (clauses_of steps) (n - 1 - length clauses) ∙ slice_get_past (clauses_of steps) (n - 1 - length clauses) (omega (arith, length-map steps (λ (s : Step). s.clause))))

-- ---- chains
pub chain-missing : (known : List (List ℤ)) (c : List ℤ) (ns : List ℕ) (last : List ℤ) (i : ℕ) → i < length ns → numbered_clause known (get_or ns i 0) ≡ None → ResolvesTo known c (drop i ns) last → ⊥
chain-missing known c ns last i less none h =
    let (d, e, rest) = subst (λ (xs : List ℕ). ResolvesTo known c xs last) (drop_more ns i 0 less) h in none-some d (sym none ∙ e)

pub chain-stuck : (known : List (List ℤ)) (c : List ℤ) (ns : List ℕ) (last : List ℤ) (i : ℕ) (d : List ℤ) → i < length ns → numbered_clause known (get_or ns i 0) ≡ Some d → ((e : List ℤ) → IsResolvent c d e → ⊥) → ResolvesTo known c (drop i ns) last → ⊥
chain-stuck known c ns last i d less is not h =
    let (d', e, (m, r, rest)) = subst (λ (xs : List ℕ). ResolvesTo known c xs last) (drop_more ns i 0 less) h in
    not m (subst (λ (x : List ℤ). IsResolvent c x m) (same_Some d' d (sym e ∙ is)) r)

pub chain-more : (known : List (List ℤ)) (c : List ℤ) (ns : List ℕ) (last : List ℤ) (i : ℕ) (d m : List ℤ) → i < length ns → numbered_clause known (get_or ns i 0) ≡ Some d → IsResolvent c d m → ResolvesTo known c (drop i ns) last ↔ ResolvesTo known m (drop (i + 1) ns) last
chain-more known c ns last i d m less is r = (to, from)
  where
    to : ResolvesTo known c (drop i ns) last → ResolvesTo known m (drop (i + 1) ns) last
    to h =
        let (d', e, (m', r', rest)) = subst (λ (xs : List ℕ). ResolvesTo known c xs last) (drop_more ns i 0 less) h in
        let r'' : IsResolvent c d m' = subst (λ (x : List ℤ). IsResolvent c x m') (same_Some d' d (sym e ∙ is)) r' in
        subst (λ (x : List ℤ). ResolvesTo known x (drop (i + 1) ns) last) (same_resolvent c d m' m r'' r) rest

    from : ResolvesTo known m (drop (i + 1) ns) last → ResolvesTo known c (drop i ns) last
    from rest = subst (λ (xs : List ℕ). ResolvesTo known c xs last) (sym (drop_more ns i 0 less)) (d, is, (m, r, rest))

pub chain-end : (known : List (List ℤ)) (c : List ℤ) (ns : List ℕ) (last : List ℤ) (i : ℕ) → length ns ≤ i → ResolvesTo known c (drop i ns) last ↔ (c ≡ last)
chain-end known c ns last i past = (
  λ h. subst (λ (xs : List ℕ). ResolvesTo known c xs last) (drop_all i ns past) h,
  λ e. subst (λ (xs : List ℕ). ResolvesTo known c xs last) (sym (drop_all i ns past)) e,
)

pub chain-first : (known : List (List ℤ)) (ns : List ℕ) (n : ℕ) (rest : List ℕ) (c last : List ℤ) → ns ≡ n ∷ rest → numbered_clause known n ≡ Some c → IsChainResolvent known ns last ↔ ResolvesTo known c rest last
chain-first known ns n rest c last e is = (to, from)
  where
    to : IsChainResolvent known ns last → ResolvesTo known c rest last
    to h = let (d, is', h') = subst (λ (xs : List ℕ). IsChainResolvent known xs last) e h in
        subst (λ (x : List ℤ). ResolvesTo known x rest last) (same_Some d c (sym is' ∙ is)) h'

    from : ResolvesTo known c rest last → IsChainResolvent known ns last
    from h = subst (λ (xs : List ℕ). IsChainResolvent known xs last) (sym e) (c, is, h)

-- ---- traces
pub known-more : (clauses : List (List ℤ)) (steps : List Step) (i : ℕ) (s : Step) → i < length steps → clauses ++ clauses_of (take (i + 1) steps) ≡ (clauses ++ clauses_of (take i steps)) ++ (get_or steps i s).clause ∷ []
known-more clauses steps i s less =
    ap (λ xs. clauses ++ clauses_of xs) (take_more steps i s less) ∙ ap (λ cs. clauses ++ cs) (map_push (λ (s : Step). s.clause) (take i steps) (get_or steps i s)) ∙ sym (append_assoc clauses (clauses_of (take i steps)) ((get_or steps i s).clause ∷ []))

pub steps-more : (clauses : List (List ℤ)) (steps : List Step) (i : ℕ) (s : Step) → i < length steps → s ≡ get_or steps i s
    → AreRightSteps (clauses ++ clauses_of (take i steps)) (map inference_of (drop i steps)) ↔ (IsChainResolvent (clauses ++ clauses_of (take i steps)) s.chain.items s.clause × AreRightSteps (clauses ++ clauses_of (take (i + 1) steps)) (map inference_of (drop (i + 1) steps)))
steps-more clauses steps i s less e = (to, from)
  where
    known : clauses ++ clauses_of (take (i + 1) steps) ≡ (clauses ++ clauses_of (take i steps)) ++ s.clause ∷ []
    known = known-more clauses steps i s less ∙ ap (λ (t : Step). (clauses ++ clauses_of (take i steps)) ++ t.clause ∷ []) (sym e)

    rest : drop i steps ≡ s ∷ drop (i + 1) steps
    rest = drop_more steps i s less ∙ ap (λ (t : Step). t ∷ drop (i + 1) steps) (sym e)

    to : AreRightSteps (clauses ++ clauses_of (take i steps)) (map inference_of (drop i steps)) → IsChainResolvent (clauses ++ clauses_of (take i steps)) s.chain.items s.clause × AreRightSteps (clauses ++ clauses_of (take (i + 1) steps)) (map inference_of (drop (i + 1) steps))
    to h = let h' = subst (λ (xs : List Step). AreRightSteps (clauses ++ clauses_of (take i steps)) (map inference_of xs)) rest h in
        (h'.0, subst (λ (ks : List (List ℤ)). AreRightSteps ks (map inference_of (drop (i + 1) steps))) (sym known) h'.1)

    from : IsChainResolvent (clauses ++ clauses_of (take i steps)) s.chain.items s.clause × AreRightSteps (clauses ++ clauses_of (take (i + 1) steps)) (map inference_of (drop (i + 1) steps)) → AreRightSteps (clauses ++ clauses_of (take i steps)) (map inference_of (drop i steps))
    from h = subst (λ (xs : List Step). AreRightSteps (clauses ++ clauses_of (take i steps)) (map inference_of xs)) (sym rest)
        (h.0, subst (λ (ks : List (List ℤ)). AreRightSteps ks (map inference_of (drop (i + 1) steps))) known h.1)

pub steps-end : (clauses : List (List ℤ)) (steps : List Step) (i : ℕ) → length steps ≤ i → AreRightSteps (clauses ++ clauses_of (take i steps)) (map inference_of (drop i steps))
steps-end clauses steps i past = subst (λ (xs : List Step). AreRightSteps (clauses ++ clauses_of (take i steps)) (map inference_of xs)) (sym (drop_all i steps past)) tt

-- ---- the end of a trace
pub ends-last : (steps : List Step) (s : Step) → slice_get steps (length steps - 1) ≡ Some s → EndsEmpty (map inference_of steps) ↔ (s.clause ≡ [])
ends-last steps s e = (
  λ (t, is, empty). ap (λ (x : Inference). x.clause) (same_Some (inference_of s) t (sym at ∙ is)) ∙ empty,
  λ empty. (inference_of s, at, empty),
)
  where
    at : slice_get (map inference_of steps) (length (map inference_of steps) - 1) ≡ Some (inference_of s)
    at = ap (λ n. slice_get (map inference_of steps) (n - 1)) (length-map steps inference_of) ∙ slice_get-map_some inference_of steps (length steps - 1) s e

-- ---- an accepted trace refutes
-- a clause that holds
abbrev pub IsKnown : (ℕ → Bool) → List ℤ → Type 0
IsKnown v c = HasNoZero c × (clause_holds v c ≡ true)

known-at : (v : ℕ → Bool) (known : List (List ℤ)) (n : ℕ) (c : List ℤ) → AllByRecursion (IsKnown v) known → numbered_clause known n ≡ Some c → IsKnown v c
known-at v known zero c all e = absurd (cc)
known-at v known (suc n) c all e = all_get (IsKnown v) known n c all e

chain-holds : (v : ℕ → Bool) (known : List (List ℤ)) (c : List ℤ) (ns : List ℕ) (last : List ℤ) → AllByRecursion (IsKnown v) known → IsKnown v c → ResolvesTo known c ns last → IsKnown v last
chain-holds v known c [] last all is e = subst (IsKnown v) e is
chain-holds v known c (n ∷ ns) last all is (d, e, (m, r, rest)) =
    let is' : IsKnown v d = known-at v known n d all e in
    chain-holds v known m ns last all (IsResolvent-no_zero c d m is.0 is'.0 r, IsResolvent-holds v c d m is.0 r is.1 is'.1) rest

resolvent-holds : (v : ℕ → Bool) (known : List (List ℤ)) (ns : List ℕ) (last : List ℤ) → AllByRecursion (IsKnown v) known → IsChainResolvent known ns last → IsKnown v last
resolvent-holds v known [] last all h = absurd h
resolvent-holds v known (n ∷ ns) last all (c, e, rest) = chain-holds v known c ns last all (known-at v known n c all e) rest

step-holds : (v : ℕ → Bool) (known : List (List ℤ)) (steps : List Inference) (k : ℕ) (s : Inference) → AllByRecursion (IsKnown v) known → AreRightSteps known steps → slice_get steps k ≡ Some s → IsKnown v s.clause
step-holds v known [] k s all right e = absurd (cc)
step-holds v known (t ∷ steps) zero s all right e =
    let same : t ≡ s = cc in subst (λ (x : Inference). IsKnown v x.clause) same (resolvent-holds v known t.chain t.clause all right.0)
step-holds v known (t ∷ steps) (suc k) s all right e =
    step-holds v (known ++ t.clause ∷ []) steps k s (all_push (IsKnown v) known t.clause all (resolvent-holds v known t.chain t.clause all right.0)) right.1 e

-- this needs neither the order of the literals nor a bound on their size
pub refutes-any : (clauses : List (List ℤ)) (steps : List Inference) → HaveNoZero clauses → IsAcceptedTrace clauses steps → IsUnsatisfiable clauses
refutes-any clauses steps all (right, (s, e, empty)) v h =
    let is = step-holds v clauses steps (length steps - 1) s (all_both HasNoZero (λ c. clause_holds v c ≡ true) clauses all ((all_by_test (λ c. clause_holds v c ≡ true) (clause_holds v) clauses (λ c _. (λ e. e, λ e. e))).1 h)) right e in
    true≢false (sym is.1 ∙ ap (clause_holds v) empty)

pub refutes : (clauses : List (List ℤ)) (steps : List Inference) → AllByRecursion IsClause clauses → IsAcceptedTrace clauses steps → IsUnsatisfiable clauses
refutes clauses steps all accepted = refutes-any clauses steps (all_weaker IsClause HasNoZero (λ c is. clause-no_zero c is.0) clauses all) accepted

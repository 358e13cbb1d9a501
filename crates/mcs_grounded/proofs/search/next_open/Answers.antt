use Rattle.std.proofs.Common.{◌≡◌, ◌∙◌, ℕ, length, get_or, not, inl, inr, sym, ap, subst, arith, true≢false}
use Rattle.std.proofs.lemmas.Bool.{cases_lt, eq-eqb}
use Rattle.std.proofs.lemmas.List.{length-map, get_or_default}
use Rattle.mcs_sets.specs.Sets.{Within}
use Rattle.mcs_system.specs.Seen.{context_of}
use Rattle.mcs_grounded.specs.Derivations.{IsWhole}
use Rattle.mcs_grounded.specs.Searches.{IsKnown}
use Rattle.mcs_grounded.proofs.Candidates.{equal_from_not}
use Rattle.mcs_grounded.proofs.Telling.{own_is}
use Rattle.mcs_grounded.proofs.search.next_open.Goals.{else-not-within-via-then-not-within+else-ne, else-not-within-via-else-not-within}
use Rattle.mcs_grounded.proofs.search.next_open.Goals as goal

pub loop-context-init : goal.loop-context-init
loop-context-init c i less = absurd (omega (arith, less))

pub loop-context-preserved : goal.loop-context-preserved
loop-context-preserved c i less not =
    let n = c.loop-context.context in
    let certain = c.args.bounds.now.certain in
    let possible = c.args.bounds.now.possible in
    let long = ap length c.contexts.ensures.value in
    let seen = length-map c.contexts.result.now context_of in
    elim (cases_lt i n) [
      | inl earlier ↦ c.loop-context.invariant i earlier not
      | inr last ↦ (
          let same : i ≡ n = omega (arith, less, last) in
          elim c.else-not-within.branch [
            | else-not-within-via-then-not-within+else-ne w ↦ subst (IsKnown c.args.bounds.now) (sym same)
                (sym (get_or_default certain n w.index-bounds-place.result 0 (omega (arith, c.loop-context-test.true, long, seen, c.requires.certain)))
                ∙ equal_from_not (get_or certain n w.index-bounds-place.result) (get_or possible n w.index-bounds-place-then-not-within.result) (sym w.ne.ensures ∙ w.if-ne.false)
                ∙ (get_or_default possible n w.index-bounds-place-then-not-within.result 0 (omega (arith, c.loop-context-test.true, long, seen, c.requires.possible))))
            | else-not-within-via-else-not-within w ↦ absurd (not (subst (λ (k : ℕ). IsWhole c.args.derivation.now.system.now c.args.derivation.now.state c.args.rules k) (sym same)
                (subst (λ (x : ℕ). Within x c.args.rules) (own_is c.args.derivation.now c.loop-context.context c.common-own.result c.rules_of.result c.common-own.ensures c.rules_of.ensures) (c.within.ensures.0 w.if-not-within.false))))
          ])
    ]

pub returns-clause-none : goal.returns-clause-none
returns-clause-none c i less not = c.loop-context.invariant i (omega (arith, less, c.loop-context-test.false, ap length c.contexts.ensures.value, length-map c.contexts.result.now context_of)) not

pub returns-then-ne-clause-some : goal.returns-then-ne-clause-some
returns-then-ne-clause-some c =
    let n = c.loop-context.context in
    let certain = c.args.bounds.now.certain in
    let possible = c.args.bounds.now.possible in
    let long = ap length c.contexts.ensures.value in
    let seen = length-map c.contexts.result.now context_of in
    let first = get_or_default certain n c.index-bounds-place.result 0 (omega (arith, c.loop-context-test.true, long, seen, c.requires.certain)) in
    let second = get_or_default possible n c.index-bounds-place-then-not-within.result 0 (omega (arith, c.loop-context-test.true, long, seen, c.requires.possible)) in
    record {
      in_range = omega (arith, c.loop-context-test.true, long, seen);
      not_whole = λ whole. true≢false (sym (c.within.ensures.1 (subst (λ (x : ℕ). Within x c.args.rules) (sym (own_is c.args.derivation.now c.loop-context.context c.common-own.result c.rules_of.result c.common-own.ensures c.rules_of.ensures)) whole)) ∙ c.if-not-within.true);
      not_known = λ known. true≢false (sym c.if-ne.true ∙ c.ne.ensures ∙ ap not (eq-eqb (get_or certain n c.index-bounds-place.result) (get_or possible n c.index-bounds-place-then-not-within.result) (first ∙ known ∙ sym second)));
    }

pub overflow_cast-context-end : goal.overflow_cast-context-end
overflow_cast-context-end c = omega (arith, c.contexts.ensures.few)

pub rules_of-requires : goal.rules_of-requires
rules_of-requires c = omega (arith, c.loop-context-test.true, ap length c.contexts.ensures.value, length-map c.contexts.result.now context_of)

pub bounds-bounds-place : goal.bounds-bounds-place
bounds-bounds-place c = omega (arith, c.loop-context-test.true, ap length c.contexts.ensures.value, length-map c.contexts.result.now context_of, c.requires.certain)

pub bounds-bounds-place-then-not-within : goal.bounds-bounds-place-then-not-within
bounds-bounds-place-then-not-within c = omega (arith, c.loop-context-test.true, ap length c.contexts.ensures.value, length-map c.contexts.result.now context_of, c.requires.possible)

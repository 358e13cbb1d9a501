-- Chains that go on with the numbers of reasons, as they are seen.
use Rattle.std.proofs.Common.{◌≡◌, ℕ, ◌+◌, ◌<◌, List, [], ◌∷◌, ◌++◌, inl, inr, sym, ap, ◌∙◌, subst, arith, ℤ, pos, neg_ℤ, length, take, drop}
use Rattle.std.specs.List.{AllByRecursion}
use Rattle.std.proofs.lemmas.List.{map-append, take-append-drop, drop_more}
use Rattle.mcs_base.proofs.Each.{all_weaker}
use Rattle.mcs_engine.specs.declared.state.State.{State}
use Rattle.mcs_engine.specs.declared.trail.Entry.{Entry}
use Rattle.mcs_engine.specs.Learning.{GoesOnByReasons, IsReasonNumbered}
use Rattle.mcs_sat.specs.Solvers.{IsReasonNumber, SolverView, view_of}
use Rattle.mcs_engine.specs.Trails.{literal_at}
use Rattle.mcs_engine.proofs.TrailLemmas.{on-back}
use Rattle.mcs_sat.proofs.UnitRunLemmas.{flat-levels, literals, on-among}

literals-at : (es : List Entry) (p : ℕ) → p < length es → literals es ≡ literals (take p es) ++ literal_at es p ∷ literals (drop (p + 1) es)
literals-at es p less =
    sym (ap literals (take-append-drop p es))
    ∙ map-append (λ (e : Entry). e.literal) (take p es) (drop p es)
    ∙ ap (λ (x : List Entry). literals (take p es) ++ literals x) (drop_more es p (record { literal = pos 0; reason = 0; level = 0 }) less)

reason-seen : (s : State) (n : ℕ) → IsReasonNumbered s.clauses s.trail.entries.items n → IsReasonNumber (view_of s) n
reason-seen s n (p, less, (c, is, reason)) =
    let es : List Entry = s.trail.entries.items in
    record {
      clause = c;
      numbers = is;
      literal = literal_at es p;
      before = literals (take p es);
      after = literals (drop (p + 1) es);
      made = flat-levels es ∙ literals-at es p less;
      has = reason.has;
      others = λ k among. elim (reason.others k among) [
        | inl e ↦ inl e
        | inr below ↦ inr (on-among (take p es) (neg_ℤ k) (on-back es p (neg_ℤ k) (omega arith) below))
      ];
    }

pub rest-seen : (s : State) (v : SolverView) (n : ℕ) (ns : List ℕ) → view_of s ≡ v → GoesOnByReasons s.clauses s.trail.entries.items (n ∷ []) ns → AllByRecursion (IsReasonNumber v) (drop 1 ns)
rest-seen s v n ns is g =
    let known : List (List ℤ) = s.clauses in
    let es : List Entry = s.trail.entries.items in
    let rest : drop 1 ns ≡ g.more = ap (drop 1) g.is in
    subst (AllByRecursion (IsReasonNumber v)) (sym rest)
    (all_weaker (IsReasonNumbered known es) (IsReasonNumber v) (λ k r. subst (λ (x : SolverView). IsReasonNumber x k) is (reason-seen s k r)) g.more g.reasons)

-- Chains that go on with the numbers of reasons.
use Rattle.std.proofs.Common.{ℕ, List, [], ◌++◌, Bool, sym, ap, ◌∙◌, ℤ}
use Rattle.std.proofs.lemmas.List.{append-nil, append_assoc}
use Rattle.mcs_base.proofs.Each.{all_append}
use Rattle.mcs_engine.specs.declared.trail.Entry.{Entry}
use Rattle.mcs_engine.specs.Learning.{GoesOnByReasons, IsReasonNumbered}
use Rattle.mcs_engine.specs.Marking.{IsMarkedChain, IsResolvedOn}

pub reasons-more : (known : List (List ℤ)) (es : List Entry) (old between new : List ℕ) → GoesOnByReasons known es old between → GoesOnByReasons known es between new → GoesOnByReasons known es old new
reasons-more known es old between new g h = record {
  more = g.more ++ h.more;
  is = h.is ∙ ap (λ (ns : List ℕ). ns ++ h.more) g.is ∙ append_assoc old g.more h.more;
  reasons = all_append (IsReasonNumbered known es) g.more h.more g.reasons h.reasons;
}

pub resolved-none : (known : List (List ℤ)) (es : List Entry) (chain : List ℕ) (marks : List Bool) → IsMarkedChain known es chain marks → IsResolvedOn known es chain chain marks
resolved-none known es chain marks marked = record {
  marked = marked;
  reasons = record { more = []; is = sym (append-nil chain); reasons = tt };
}

pub resolved-more : (known : List (List ℤ)) (es : List Entry) (old between new : List ℕ) (marks marks' : List Bool) → IsResolvedOn known es old between marks → IsResolvedOn known es between new marks' → IsResolvedOn known es old new marks'
resolved-more known es old between new marks marks' g h = record { marked = h.marked; reasons = reasons-more known es old between new g.reasons h.reasons }

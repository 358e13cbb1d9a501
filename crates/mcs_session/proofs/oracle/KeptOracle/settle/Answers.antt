use Rattle.std.proofs.Common.{◌≡◌, ◌∙◌, ◌++◌, [], ℕ, List, Bool, false, map, take, drop, length, count_by, sym, ap, subst, arith}
use Rattle.std.specs.Arc.{arc_value}
use Rattle.std.proofs.lemmas.List.{length-map}
use Rattle.mcs_base.proofs.Written.{written_back}
use Rattle.mcs_session.specs.Journalled.{IsOracleOf}
use Rattle.mcs_session.proofs.OracleLemmas.{settled, told, none_set}
use Rattle.mcs_session.proofs.oracle.KeptOracle.settle.Goals as goal

all_seen : (g : _) (c : goal.After-replace-solved g) → c.len-self-inside.result ≡ length (g.A.Asker.journal c.self.inside.asker)
all_seen g c = c.len-self-inside.ensures ∙ c.self.inside.seen.ok.0 ∙ c.self.invariant.journalled.many

pub invariant_of-self : goal.invariant_of-self
invariant_of-self g c =
    let seen : List Bool = c.self.inside.seen.items in
    let off : List Bool = map (λ (_ : Bool). false) seen in
    let cleared : c.forget.new.flags ≡ off = c.forget.ensures ∙ ap (λ (s : List Bool). map (λ (_ : Bool). false) s) c.deref_mut.ensures.value in
    let back : take c.self.inside.seen.len (c.forget.new.flags ++ drop (length c.forget.new.flags) seen) ≡ off =
    written_back seen c.forget.new.flags c.self.inside.seen.len (ap length cleared ∙ length-map seen (λ (_ : Bool). false)) (omega (arith, c.self.inside.seen.ok)) ∙ cleared in
    rw (back, c.clear.ensures.items, c.replace-solved.ensures.after, c.new-none.ensures.items)
    (subst (λ (n : ℕ). IsOracleOf (arc_value c.self.inside.system) c.self.inside.context (g.A.Asker.journal c.self.inside.asker) c.self.inside.kept c.self.inside.words n off [] []) (sym (all_seen g c))
    (settled (arc_value c.self.inside.system) c.self.inside.context (g.A.Asker.journal c.self.inside.asker) c.self.inside.kept c.self.inside.words c.self.inside.origin seen off c.self.inside.journal.items c.self.inside.solved.items c.self.invariant (length-map seen (λ (_ : Bool). false)) (none_set seen)))

pub returns : goal.returns
returns g c =
    let counted : c.count_seen-kept.result ≡ count_by (λ b. b) (take c.self.inside.origin c.self.inside.seen.items) = c.count_seen-kept.ensures ∙ ap (λ (s : List Bool). count_by (λ b. b) (take c.self.inside.origin s)) c.deref.ensures.value in
    rw (← c.self.view_is, c.clear.ensures.items, all_seen g c, c.replace-solved.ensures.value)
    (told (arc_value c.self.inside.system) c.self.inside.context (g.A.Asker.journal c.self.inside.asker) c.self.inside.kept c.self.inside.words c.self.inside.origin c.self.inside.seen.items c.self.inside.journal.items c.self.inside.solved.items c.count_seen-kept.result c.self.invariant counted)

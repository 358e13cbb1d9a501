use Rattle.std.proofs.Common.{◌≡◌, ◌++◌, ℕ, List, length, map, take, sym, ap, ◌∙◌, subst, arith}
use Rattle.std.proofs.lemmas.Grind.{common_steps}
use Rattle.std.specs.List.{AllByRecursion}
use Rattle.mcs_base.proofs.Each.{all_push}
use Rattle.mcs_system.specs.Plain.{Formula}
use Rattle.mcs_system.specs.Logic.{Theory}
use Rattle.mcs_system.specs.Seen.{formula_of}
use Rattle.mcs_system.specs.Views.{Shows}
use Rattle.mcs_trace.specs.Clauses.{IsWithin}
use Rattle.mcs_cnf.proofs.GrowingLemmas.{grown_room, grown_within, cut_fewer}
use Rattle.mcs_meant.proofs.MeaningLemmas.{adds_formulas}
use Rattle.mcs_classical.specs.Assumptions.{assumed}
use Rattle.mcs_classical.specs.Consequences.{with_assumed, IsLowerConsequence}
use Rattle.mcs_classical.specs.declared.bounds.Lower.{Lower}
use Rattle.mcs_classical.proofs.ConsequenceLemmas.{assumed_common, assumed_over, told_none}
use Rattle.mcs_classical.proofs.consequences.Consequences.following.Goals as goal
use Rattle.mcs_classical.proofs.consequences.Consequences.following.Goals.{then-ne+in_ok-push, else-ne}

pub returns-then-eq-clause-exact : goal.returns-then-eq-clause-exact
returns-then-eq-clause-exact c = λ fs meant all.
    let xs = c.args.given.now.assumptions.now in
    let gs = map (λ g. formula_of g.now) c.args.given.now.asked.now.beliefs.now in
    let same = ap (λ (s : ℕ). assumed s xs) c.common-assumed.ensures ∙ assumed_common c.args.set c.numbers_of.result xs c.numbers_of.ensures in
    let none : c.told-told.result.left ≡ 0 = grind (arith, common_steps) in
    subst (λ (hs : List Formula). Shows (Theory (fs ++ hs)) gs c.told-told.result.entailed) same
    (told_none (with_assumed fs xs c.common-assumed.result) gs c.told-told.result none (c.told-told.ensures fs xs all))

pub ask_left-found-requires : goal.ask_left-found-requires
ask_left-found-requires c = grown_room c.args.given.now.asked.now.atoms.now c.args.known.now c.add_assumed.new.known (assumed c.common-assumed.result c.args.given.now.assumptions.now, c.in_ok-add_assumed.ensures.ok) c.requires

pub cut-requires-clause-fewer : goal.cut-requires-clause-fewer
cut-requires-clause-fewer c =
    cut_fewer c.args.given.now.asked.now.atoms.now c.args.known.now c.add_assumed.new.known (assumed c.common-assumed.result c.args.given.now.assumptions.now, c.in_ok-add_assumed.ensures.ok) c.ask_left-found.new.known c.vars-vars.result c.vars-vars.ensures.value c.ask_left-found.ensures.search.kept

pub cut-requires-clause-within : goal.cut-requires-clause-within
cut-requires-clause-within c =
    let pushed = c.ask_left-found.ensures.search.kept ∙ c.in_ok-add_assumed.ensures.ok in
    subst (λ (k : ℕ). AllByRecursion (IsWithin c.vars-vars.result) (take k c.ask_left-found.new.known.clauses)) (sym c.count-count.ensures)
    (subst (λ (n : ℕ). AllByRecursion (IsWithin n) (take (length c.args.known.now.clauses) c.ask_left-found.new.known.clauses)) (sym c.vars-vars.ensures.value)
    (grown_within c.args.given.now.asked.now.atoms.now c.args.known.now c.ask_left-found.new.known (assumed c.common-assumed.result c.args.given.now.assumptions.now, pushed) c.vars-vars.ensures.kept))

pub returns-in_err-entailed-clause-right : goal.returns-in_err-entailed-clause-right
returns-in_err-entailed-clause-right c = λ fs meant all.
    let xs = c.args.given.now.assumptions.now in
    let set = c.common-assumed.result in
    record {
      lower = all.lower;
      upper = c.ask_left-found.ensures.search.right fs set (adds_formulas c.args.given.now.asked.now.atoms.now (assumed set xs) c.args.known.now c.add_assumed.new.known c.vars-vars.ensures.kept (assumed_over c.args.given.now.asked.now.atoms.now set xs c.args.given.now.over) c.in_ok-add_assumed.ensures.ok fs meant) all.upper;
    }

pub returns-in_err-push-clause-right : goal.returns-in_err-push-clause-right
returns-in_err-push-clause-right c = λ fs meant all.
    let xs = c.args.given.now.assumptions.now in
    let gs = map (λ g. formula_of g.now) c.args.given.now.asked.now.beliefs.now in
    let set = c.common-assumed.result in
    record {
      lower = subst (λ (ls : List Lower). AllByRecursion (IsLowerConsequence fs xs gs) ls) (sym c.in_err-push.ensures.items) all.lower;
      upper = c.ask_left-found.ensures.search.right fs set (adds_formulas c.args.given.now.asked.now.atoms.now (assumed set xs) c.args.known.now c.add_assumed.new.known c.vars-vars.ensures.kept (assumed_over c.args.given.now.asked.now.atoms.now set xs c.args.given.now.over) c.in_ok-add_assumed.ensures.ok fs meant) all.upper;
    }

pub returns-clause-right : goal.returns-clause-right
returns-clause-right c = λ fs meant all.
    let xs = c.args.given.now.assumptions.now in
    let gs = map (λ g. formula_of g.now) c.args.given.now.asked.now.beliefs.now in
    let set = c.common-assumed.result in
    let told = adds_formulas c.args.given.now.asked.now.atoms.now (assumed set xs) c.args.known.now c.add_assumed.new.known c.vars-vars.ensures.kept (assumed_over c.args.given.now.asked.now.atoms.now set xs c.args.given.now.over) c.in_ok-add_assumed.ensures.ok fs meant in
    let upper = c.ask_left-found.ensures.search.right fs set told all.upper in
    let shows : Shows (Theory (with_assumed fs xs set)) gs c.in_ok-entailed.entailed =
    c.in_ok-entailed.ensures.exact (with_assumed fs xs set) told (c.told-told.ensures fs xs all) in
    let l : Lower = record { assumed = set; entailed = c.in_ok-entailed.entailed } in
    elim c.if-ne.branch [
      | then-ne+in_ok-push w ↦ rw w.self-is (record {
        lower = subst (λ (ls : List Lower). AllByRecursion (IsLowerConsequence fs xs gs) ls) (sym w.in_ok-push.ensures.items) (all_push (IsLowerConsequence fs xs gs) c.args.self.now.lower.items l all.lower (λ k is. (shows k).0 is));
        upper = upper;
      })
      | else-ne w ↦ rw w.self-is (record { lower = all.lower; upper = upper })
    ]

pub returns-clause-exact : goal.returns-clause-exact
returns-clause-exact c = λ fs meant all.
    let xs = c.args.given.now.assumptions.now in
    let gs = map (λ g. formula_of g.now) c.args.given.now.asked.now.beliefs.now in
    let set = c.common-assumed.result in
    let told = adds_formulas c.args.given.now.asked.now.atoms.now (assumed set xs) c.args.known.now c.add_assumed.new.known c.vars-vars.ensures.kept (assumed_over c.args.given.now.asked.now.atoms.now set xs c.args.given.now.over) c.in_ok-add_assumed.ensures.ok fs meant in
    let same = ap (λ (s : ℕ). assumed s xs) c.common-assumed.ensures ∙ assumed_common c.args.set c.numbers_of.result xs c.numbers_of.ensures in
    subst (λ (hs : List Formula). Shows (Theory (fs ++ hs)) gs c.in_ok-entailed.entailed) same
    (c.in_ok-entailed.ensures.exact (with_assumed fs xs set) told (c.told-told.ensures fs xs all))

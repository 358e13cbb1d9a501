use Rattle.std.proofs.Common.{◌≡◌, ◌∙◌, ◌<◌, [], ◌∷◌, ◌++◌, map, length, ap, sym, subst, inl, inr, arith}
use Rattle.std.proofs.lemmas.Option.{slice_get_within}
use Rattle.std.specs.Vec.{vec_capacity}
use Rattle.mcs_node.specs.declared.round.InRound as code
use Rattle.mcs_base.specs.Listings.{IsListing}
use Rattle.mcs_system.specs.Levels.{IsQuestionAt}
use Rattle.mcs_import.proofs.OrderLemmas.{import_order_exists}
use Rattle.mcs_node.specs.Letters.{Supply, content_of, shared_states}
use Rattle.mcs_node.specs.Keeping.{stage_with, told_with}
use Rattle.mcs_node.proofs.HandlingLemmas.{all_told, one_left}
use Rattle.mcs_node.proofs.receiving.take_in.Goals as goal

pub push_reserved-requires : goal.push_reserved-requires
push_reserved-requires c =
    let r = c.args.round.now in
    let less = one_left c.args.plan.now c.args.context r c.requires.had c.args.from c.requires.fits c.requires.new in
    let room = c.requires.had.room in
    let ok = r.had.ok.0 in
    omega (arith, less, room, ok)

pub keep-requires : goal.keep-requires
keep-requires c =
    let (order, ordered) = import_order_exists c.args.plan.now in
    let less = slice_get_within _ c.args.place c.args.from (c.requires.at_place order ordered) in
    let places = c.requires.had.places order ordered in
    omega (arith, less, places)

pub work_out-requires-clause-told : goal.work_out-requires-clause-told
work_out-requires-clause-told c many =
    let r = c.args.round.now in
    let its : content_of c.args.content ≡ Supply (shared_states c.in-Supply.states) = ap content_of c.in-Supply.is in
    let olds = map shared_states r.told.items in
    all_told c.args.plan.now c.args.context c.args.place c.args.from (content_of c.args.content) r c.keep.new.round c.requires (record {
      had_is = ap (λ (z : code.InRound). z.had.items) c.keep.ensures.rest ∙ c.push_reserved.ensures.items ∙ ap (λ b. r.had.items ++ record { from = c.args.from; stop = b } ∷ []) c.is_stop-stop.ensures;
      level_is = ap (λ (z : code.InRound). z.level) c.keep.ensures.rest;
      room = ap (λ (z : code.InRound). vec_capacity z.had) c.keep.ensures.rest ∙ c.push_reserved.ensures.capacity;
      told_is = c.keep.ensures.told ∙ sym (ap (λ ct. told_with ct r.stage c.args.place olds) its ∙ ap (λ st. told_with (Supply (shared_states c.in-Supply.states)) st c.args.place olds) c.in-Waits.is);
    }) (shared_states c.in-Supply.states) its c.in-Waits.is many

pub returns-in-Supply : goal.returns-in-Supply
returns-in-Supply c =
    let r = c.args.round.now in
    let its : content_of c.args.content ≡ Supply (shared_states c.in-Supply.states) = ap content_of c.in-Supply.is in
    let olds = map shared_states r.told.items in
    let same = c.work_out.ensures.same in
    let level : c.work_out.new.round.level ≡ c.keep.new.round.level = ap (λ (z : code.InRound). z.level) same in
    record {
      kept = record {
        had_is = ap (λ (z : code.InRound). z.had.items) same ∙ ap (λ (z : code.InRound). z.had.items) c.keep.ensures.rest ∙ c.push_reserved.ensures.items ∙ ap (λ b. r.had.items ++ record { from = c.args.from; stop = b } ∷ []) c.is_stop-stop.ensures;
        level_is = level ∙ ap (λ (z : code.InRound). z.level) c.keep.ensures.rest;
        room = ap (λ (z : code.InRound). vec_capacity z.had) same ∙ ap (λ (z : code.InRound). vec_capacity z.had) c.keep.ensures.rest ∙ c.push_reserved.ensures.capacity;
        told_is = ap (λ (z : code.InRound). map shared_states z.told.items) same ∙ c.keep.ensures.told ∙ sym (ap (λ ct. told_with ct r.stage c.args.place olds) its ∙ ap (λ st. told_with (Supply (shared_states c.in-Supply.states)) st c.args.place olds) c.in-Waits.is);
      };
      envelopes = ap (λ (z : code.InRound). z.envelopes) same ∙ ap (λ (z : code.InRound). z.envelopes) c.keep.ensures.rest;
      copies = ap (λ (z : code.InRound). z.copies) same ∙ ap (λ (z : code.InRound). z.copies) c.keep.ensures.rest;
      stage_is = elim c.work_out.ensures.stage_is [
        | inl e ↦ inl (e ∙ ap (λ (z : code.InRound). z.stage) c.keep.ensures.rest ∙ sym (ap (λ ct. stage_with ct r.stage) its))
        | inr e ↦ inr (shared_states c.in-Supply.states, its, c.in-Waits.is, e)
      ];
      questions = λ waits each. subst (λ n. IsListing (IsQuestionAt c.args.plan.now n c.args.context) (λ a b. a < b) c.work_out.new.round.questions.items) (sym level)
          (c.work_out.ensures.worked (waits ∙ sym (ap (λ (z : code.InRound). z.stage) c.keep.ensures.rest ∙ c.in-Waits.is))
          (ap (λ (z : code.InRound). length z.had.items) (sym same) ∙ each ∙ ap (λ (z : code.InRound). length z.told.items) same));
    }

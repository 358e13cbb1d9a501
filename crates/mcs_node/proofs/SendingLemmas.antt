-- The letters that a node hands out.
use Rattle.std.proofs.Common.{◌≡◌, ℕ, ◌+◌, ◌<◌, Bool, List, [], ◌∷◌, ◌++◌, map, take, length, get_or, Option, Some, None, MatchOption, refl, sym, ap, ◌∙◌, subst, arith}
use Rattle.std.proofs.lemmas.List.{length_push, map_push, same_from_push, take_more}
use Rattle.std.specs.List.{AllByRecursion}
use Rattle.std.specs.Arc.{arc_value}
use Rattle.mcs_base.specs.Listings.{IsListing}
use Rattle.mcs_base.proofs.Among.{among_at}
use Rattle.mcs_base.proofs.Each.{all_left, all_right}
use Rattle.mcs_base.proofs.Mapped.{map_push_as}
use Rattle.mcs_sets.specs.Orders.{StateBefore}
use Rattle.mcs_system.specs.Plain.{System}
use Rattle.mcs_system.specs.Levels.{MaySupply}
use Rattle.mcs_states.specs.Oracles.{OracleState}
use Rattle.mcs_states.specs.declared.halt.Halt.{Halt}
use Rattle.mcs_node.specs.Rounds.{Supplies}
use Rattle.mcs_node.specs.Nodes.{HandsOut, IsAbove, letters_to}
use Rattle.mcs_node.specs.Letters.{ContentData, LetterData, Supply, Stop, IsTrueHalt, shared_states}
use Rattle.mcs_node.specs.Known.{IsKnown, Knowledge}
use Rattle.mcs_node.specs.Keeping.{AreHad, AreTold, HandsOutLast, HandsOutNone, HasContent, HasStopCause, IsAtStage, IsInRound, IsNode, MayHandOut, letters_in, outbox_in}
use Rattle.mcs_node.specs.declared.round.Stage as stage_code
use Rattle.mcs_node.specs.declared.round.Stage.TheVariants.{Waits, Done, Stopped}
use Rattle.mcs_node.specs.declared.round.InRound as code
use Rattle.mcs_node.proofs.BeginLemmas.{node_in}
use Rattle.mcs_node.proofs.TakingLemmas.{node_now}

-- ---- the last of the envelopes is taken
module _ {E : Type 0} (value : E → System) (m : System) (es fs : List E) (e : E) (left : es ≡ fs ++ e ∷ []) where
  pub one_fewer : length fs + 1 ≡ length es
  one_fewer = sym (ap length left ∙ length_push fs e)

  both_plans : AllByRecursion (λ x. value x ≡ m) es → AllByRecursion (λ x. value x ≡ m) (fs ++ e ∷ [])
  both_plans all = subst (λ xs. AllByRecursion (λ x. value x ≡ m) xs) left all

  pub last_plan : AllByRecursion (λ x. value x ≡ m) es → value e ≡ m
  last_plan all = (all_right (λ x. value x ≡ m) fs (e ∷ []) (both_plans all)).0

  pub other_plans : AllByRecursion (λ x. value x ≡ m) es → AllByRecursion (λ x. value x ≡ m) fs
  other_plans all = all_left (λ x. value x ≡ m) fs (e ∷ []) (both_plans all)

-- for each envelope there is a copy of the supplies
module _ {E C : Type 0} (items : C → List ℕ) (supplies : List ℕ) (es : List E) (cs : List C) (same : map items cs ≡ map (λ (x : E). supplies) es) where
  pub last_copy : (fs : List E) (e : E) (ds : List C) (c : C) → es ≡ fs ++ e ∷ [] → cs ≡ ds ++ c ∷ [] → (map items ds ≡ map (λ (x : E). supplies) fs) × (items c ≡ supplies)
  last_copy fs e ds c left also =
      same_from_push (map items ds) (map (λ (x : E). supplies) fs) (items c) supplies (sym (map_push_as items ds cs c also) ∙ same ∙ map_push_as (λ (x : E). supplies) fs es e left)

-- ---- what is handed out
-- where the node waits, nothing is
pub waiting_out : (m : System) (i : ℕ) (receivers supplies : List ℕ) (r : code.InRound) → r.stage ≡ Waits → outbox_in m i receivers supplies (Some r) ≡ []
waiting_out m i receivers supplies r waits = ap (λ (st : stage_code.Stage). letters_in m r.level i (take (length r.envelopes.items) receivers) supplies st) waits

-- a letter, by its parts
abbrev pub letter_of : System → ℕ → ℕ → ℕ → ContentData → LetterData
letter_of m level i j content = record { plan = m; level = level; from = i; to = j; content = content }

pub same_letter : (m p : System) (level i j to : ℕ) (content said : ContentData) → p ≡ m → to ≡ j → said ≡ content → letter_of p level i to said ≡ letter_of m level i j content
same_letter m p level i j to content said a b c = ap (λ z. letter_of z level i to said) a ∙ ap (λ z. letter_of m level i z said) b ∙ ap (λ z. letter_of m level i j z) c

-- the receiver of the last letter, once so many envelopes are left
abbrev pub receiver_at : List ℕ → ℕ → ℕ
receiver_at receivers n = get_or receivers n 0

module _ (m : System) (i : ℕ) (receivers supplies : List ℕ) (r : code.InRound) (may : MayHandOut m i receivers supplies r) (n : ℕ) (fewer : n + 1 ≡ length r.envelopes.items) where
  pub receiver_there : n < length receivers
  receiver_there = let few = may.few in omega (arith, few, fewer)

  pub receiver_fits : Supplies m i (receiver_at receivers n)
  receiver_fits = may.fits (receiver_at receivers n) (among_at receivers n 0 receiver_there)

module _ (m : System) (i : ℕ) (receivers supplies : List ℕ) (r s : code.InRound) (may : MayHandOut m i receivers supplies r) (same : s ≡ record r { envelopes = s.envelopes; copies = s.copies })
    (fewer : length s.envelopes.items + 1 ≡ length r.envelopes.items) (plans : AllByRecursion (λ envelope. arc_value envelope ≡ m) s.envelopes.items) where
  abbrev others : List ℕ
  others = take (length s.envelopes.items) receivers

  abbrev last_receiver : ℕ
  last_receiver = receiver_at receivers (length s.envelopes.items)

  one_more : take (length r.envelopes.items) receivers ≡ others ++ last_receiver ∷ []
  one_more = ap (λ k. take k receivers) (sym fewer) ∙ take_more receivers (length s.envelopes.items) 0 (receiver_there m i receivers supplies r may (length s.envelopes.items) fewer)

  last_to : (content : ContentData) → letters_to m r.level i content (take (length r.envelopes.items) receivers) ≡ letters_to m r.level i content others ++ letter_of m r.level i last_receiver content ∷ []
  last_to content = ap (λ js. letters_to m r.level i content js) one_more ∙ map_push (λ j. letter_of m r.level i j content) others last_receiver

  same_stage : s.stage ≡ r.stage
  same_stage = ap (λ (z : code.InRound). z.stage) same

  same_level : s.level ≡ r.level
  same_level = ap (λ (z : code.InRound). z.level) same

  left_out : (st : stage_code.Stage) → r.stage ≡ st → letters_in m r.level i others supplies st ≡ outbox_in m i receivers supplies (Some s)
  left_out st e = sym (ap (λ k. letters_in m k i others supplies s.stage) same_level ∙ ap (λ z. letters_in m r.level i others supplies z) (same_stage ∙ e))

  still_may : HasContent m i supplies s s.stage → MayHandOut m i receivers supplies s
  still_may content = record { envelopes = plans; few = let few = may.few in omega (arith, few, fewer); fits = may.fits; content = content }

  pub supply_out : (total : ℕ) → r.stage ≡ Done total → (map shared_states s.copies.items ≡ map (λ envelope. supplies) s.envelopes.items) → IsListing (MaySupply m r.level i) StateBefore supplies
      → HandsOutLast m i receivers supplies r s (letter_of m r.level i last_receiver (Supply supplies))
  supply_out total done copies listing = record {
    last = ap (λ z. letters_in m r.level i (take (length r.envelopes.items) receivers) supplies z) done ∙ last_to (Supply supplies)
        ∙ ap (λ xs. xs ++ letter_of m r.level i last_receiver (Supply supplies) ∷ []) (left_out (Done total) done);
    same = same;
    still = still_may (subst (λ z. HasContent m i supplies s z) (sym (same_stage ∙ done)) (copies, subst (λ k. IsListing (MaySupply m k i) StateBefore supplies) (sym same_level) listing));
  }

  pub stop_out : (granted : Option ℕ) (halt : Halt) (by_itself : Bool) → r.stage ≡ Stopped granted halt by_itself → IsTrueHalt m r.level halt
      → HandsOutLast m i receivers supplies r s (letter_of m r.level i last_receiver (Stop halt))
  stop_out granted halt by_itself stopped right = record {
    last = ap (λ z. letters_in m r.level i (take (length r.envelopes.items) receivers) supplies z) stopped ∙ last_to (Stop halt)
        ∙ ap (λ xs. xs ++ letter_of m r.level i last_receiver (Stop halt) ∷ []) (left_out (Stopped granted halt by_itself) stopped);
    same = same;
    still = still_may (subst (λ z. HasContent m i supplies s z) (sym (same_stage ∙ stopped)) (subst (λ k. IsTrueHalt m k halt) (sym same_level) right));
  }

-- what is put into the envelopes
module _ (m : System) (i : ℕ) (receivers supplies : List ℕ) (r : code.InRound) (may : MayHandOut m i receivers supplies r) where
  pub content_done : (total : ℕ) → r.stage ≡ Done total → HasContent m i supplies r (Done total)
  content_done total done = subst (λ z. HasContent m i supplies r z) done may.content

  pub content_stopped : (granted : Option ℕ) (halt : Halt) (by_itself : Bool) → r.stage ≡ Stopped granted halt by_itself → IsTrueHalt m r.level halt
  content_stopped granted halt by_itself stopped = subst (λ z. HasContent m i supplies r z) stopped may.content

-- ---- the node after it
module _ (m : System) (i budget : ℕ) (o : OracleState) (receivers : List ℕ) (k : Knowledge) (before : Option ℕ) (r : code.InRound) where
  content_at : (st : stage_code.Stage) → IsAtStage m i budget o receivers k before r st → HasContent m i k.supplies r st
  content_at Waits w = tt
  content_at (Done total) w = (w.copies, w.known.supplies)
  content_at (Stopped granted halt by_itself) w = w.true_halt

  may_hand_out : IsListing (Supplies m i) (λ a b. a < b) receivers → IsInRound m i budget o receivers k before r → MayHandOut m i receivers k.supplies r
  may_hand_out listed was = record {
    envelopes = was.envelopes;
    few = was.few;
    fits = λ j among. (listed.exactly j).0 among;
    content = content_at r.stage was.stage;
  }

module _ (m : System) (i budget : ℕ) (o : OracleState) (receivers : List ℕ) (k : Knowledge) (before : Option ℕ) (r s : code.InRound) (was : IsInRound m i budget o receivers k before r) where
  module _ (l : LetterData) (h : HandsOutLast m i receivers k.supplies r s l) where
    same_had : AreHad m i s
    same_had = subst (λ (z : code.InRound). AreHad m i z) (sym h.same) (record { apart = was.had.apart; each_supplies = was.had.each_supplies; places = was.had.places; room = was.had.room })

    same_told : AreTold m i r → AreTold m i s
    same_told told = subst (λ (z : code.InRound). AreTold m i z) (sym h.same) (record { no_stop = told.no_stop; told = told.told })

    level_kept : s.level ≡ r.level
    level_kept = ap (λ (z : code.InRound). z.level) h.same

    stage_kept : s.stage ≡ r.stage
    stage_kept = ap (λ (z : code.InRound). z.stage) h.same

    -- the copies that are left are those of the envelopes that are left
    at_stage : (st : stage_code.Stage) → r.stage ≡ st → IsAtStage m i budget o receivers k before r st → HasContent m i k.supplies s st → IsAtStage m i budget o receivers k before s st
    at_stage Waits waits w content = absurd (nothing (sym (waiting_out m i receivers k.supplies r waits) ∙ h.last))
      where
        nothing : [] ≡ outbox_in m i receivers k.supplies (Some s) ++ l ∷ [] → ⊥
        nothing e = let many = ap length e in let more = length_push (outbox_in m i receivers k.supplies (Some s)) l in omega (arith, many, more)
    at_stage (Done total) done w content = record {
      told = same_told w.told;
      each = ap (λ (z : code.InRound). length z.had.items) h.same ∙ w.each ∙ sym (ap (λ (z : code.InRound). length z.told.items) h.same);
      within = w.within;
      known = subst (λ n. IsKnown m n i k) (sym level_kept) w.known;
      asked = w.asked;
      copies = content.0;
    }
    at_stage (Stopped granted halt by_itself) stopped w content = record {
      true_halt = subst (λ n. IsTrueHalt m n halt) (sym level_kept) w.true_halt;
      cause = subst (λ (z : code.InRound). HasStopCause (record { system = m; level = z.level; budget = budget; before = before }) i z.had.items granted halt by_itself) (sym h.same) w.cause;
    }

    round_left : IsInRound m i budget o receivers k before s
    round_left = record {
      higher = subst (λ n. IsAbove before n) (sym level_kept) was.higher;
      had = same_had;
      envelopes = h.still.envelopes;
      few = h.still.few;
      stage = subst (λ z. IsAtStage m i budget o receivers k before s z) (sym stage_kept) (at_stage r.stage refl was.stage (subst (λ z. HasContent m i k.supplies s z) stage_kept h.still.content));
    }

    handed_out : HandsOut (node_in m i budget o receivers k before (Some r)) (node_in m i budget o receivers k before (Some s)) l
    handed_out = record {
      last = h.last;
      rest = ap (λ (z : code.InRound). record (node_in m i budget o receivers k before (Some z)) { outbox = outbox_in m i receivers k.supplies (Some s) }) h.same;
    }

  round_after : (result : Option LetterData) → MatchOption result (HandsOutNone m i receivers k.supplies r s) (HandsOutLast m i receivers k.supplies r s) → IsInRound m i budget o receivers k before s
  round_after None h = subst (λ (z : code.InRound). IsInRound m i budget o receivers k before z) (sym h.1) was
  round_after (Some l) h = round_left l h

  seen_after : (result : Option LetterData) → MatchOption result (HandsOutNone m i receivers k.supplies r s) (HandsOutLast m i receivers k.supplies r s)
      → MatchOption result (((node_in m i budget o receivers k before (Some r)).outbox ≡ []) × (node_in m i budget o receivers k before (Some s) ≡ node_in m i budget o receivers k before (Some r)))
      (HandsOut (node_in m i budget o receivers k before (Some r)) (node_in m i budget o receivers k before (Some s)))
  seen_after None h = (h.0, ap (λ (z : code.InRound). node_in m i budget o receivers k before (Some z)) h.1)
  seen_after (Some l) h = handed_out l h

-- the node, whose round is r, once a letter was asked for
module _ (m : System) (i budget : ℕ) (o : OracleState) (there : Bool) (receivers : List ℕ) (k : Knowledge) (before : Option ℕ) (round : Option code.InRound) (n : IsNode m i budget o there receivers k before round)
    (r : code.InRound) (is : Some r ≡ round) (js : List ℕ) (those : js ≡ receivers) where
  here : IsNode m i budget o there receivers k before (Some r)
  here = subst (λ (z : Option code.InRound). IsNode m i budget o there receivers k before z) (sym is) n

  pub may_next : MayHandOut m i js k.supplies r
  may_next = subst (λ (xs : List ℕ). MayHandOut m i xs k.supplies r) (sym those) (may_hand_out m i budget o receivers k before r n.supplies here.playing)

  module _ (s : code.InRound) (result : Option LetterData) (handed : MatchOption result (HandsOutNone m i js k.supplies r s) (HandsOutLast m i js k.supplies r s)) where
    handed_by : MatchOption result (HandsOutNone m i receivers k.supplies r s) (HandsOutLast m i receivers k.supplies r s)
    handed_by = subst (λ (xs : List ℕ). MatchOption result (HandsOutNone m i xs k.supplies r s) (HandsOutLast m i xs k.supplies r s)) those handed

    pub node_next : IsNode m i budget o there receivers k before (Some s)
    node_next = node_now m i budget o receivers k before there r s here (round_after m i budget o receivers k before r s here.playing result handed_by)

    pub seen_next : MatchOption result (((node_in m i budget o receivers k before round).outbox ≡ []) × (node_in m i budget o receivers k before (Some s) ≡ node_in m i budget o receivers k before round))
        (HandsOut (node_in m i budget o receivers k before round) (node_in m i budget o receivers k before (Some s)))
    seen_next = subst (λ (z : Option code.InRound). MatchOption result (((node_in m i budget o receivers k before z).outbox ≡ []) × (node_in m i budget o receivers k before (Some s) ≡ node_in m i budget o receivers k before z))
        (HandsOut (node_in m i budget o receivers k before z) (node_in m i budget o receivers k before (Some s)))) is (seen_after m i budget o receivers k before r s here.playing result handed_by)

-- A letter that a node takes.
use Rattle.std.proofs.Common.{◌≡◌, ℕ, ◌<◌, ◌≤◌, Bool, true, false, List, [], ◌∷◌, ◌++◌, map, take, length, slice_get, slice_set, Option, Some, None, zero, suc, ◌⊎◌, refl, sym, ap, ◌∙◌, subst, inl, inr, arith}
use Rattle.std.proofs.lemmas.List.{length-map, map_push, take_all}
use Rattle.std.specs.List.{AllByRecursion}
use Rattle.std.specs.Arc.{arc_value}
use Rattle.mcs_base.specs.Listings.{IsAmong, AreApart, IsListing}
use Rattle.mcs_base.proofs.Among.{among_get, among_left, among_map, among_push, among_right, cases_among, map_among}
use Rattle.mcs_base.proofs.Distinct.{distinct_fits, distinct_push, one_place}
use Rattle.mcs_base.proofs.Written.{length-slice_set, slice_get-slice_set}
use Rattle.mcs_sets.specs.Orders.{StateBefore}
use Rattle.mcs_system.specs.Plain.{System}
use Rattle.mcs_system.specs.Imports.{IsImportOrder, supplied}
use Rattle.mcs_system.specs.Levels.{MaySupply}
use Rattle.mcs_system.proofs.ContextSets.{supplied_apart}
use Rattle.mcs_import.specs.Plans.{AreSupplies}
use Rattle.mcs_import.proofs.OrderLemmas.{import_order_exists, import_order_is_one}
use Rattle.mcs_states.specs.Oracles.{OracleState}
use Rattle.mcs_states.specs.declared.halt.Halt.{Halt}
use Rattle.mcs_states.specs.declared.halt.Halt.TheVariants.{Memory}
use Rattle.mcs_node.specs.Rounds.{Stamp, Supplies, stamp}
use Rattle.mcs_node.specs.Nodes.{HasTaken, IsAwaited, NodeData, letters_to, stamps_to, stopped_with, with_content, with_had}
use Rattle.mcs_node.specs.Letters.{ContentData, LetterData, Supply, Stop, IsTrueContent, IsTrueHalt, is_stop, shared_states, stamp_of}
use Rattle.mcs_node.specs.Known.{Knowledge}
use Rattle.mcs_node.specs.Keeping.{AreHad, AreTold, AreToldAll, HadIn, HasEach, HasStopCause, IsAtStage, IsForRound, IsInRound, MayTake, TookIn, by_itself_in, done_in, froms, granted_in, halt_in, letters_in, put_out_in, stage_with, stamps_had, told_with}
use Rattle.mcs_node.specs.declared.round.Had as had_code
use Rattle.mcs_node.specs.declared.round.Stage as stage_code
use Rattle.mcs_node.specs.declared.round.Stage.TheVariants.{Waits, Done, Stopped}
use Rattle.mcs_node.specs.declared.round.InRound as code

-- ---- no context supplies another twice
pub in_order : (m : System) (i : ℕ) (order : List ℕ) → IsImportOrder m order → (j : ℕ) → Supplies m j i → IsAmong j (supplied m order i)
in_order m i order ordered j (other, also, low, among) = subst (λ xs. IsAmong j (supplied m xs i)) (import_order_is_one m other order also ordered) among

-- ---- what was had

module _ (m : System) (i : ℕ) (r : code.InRound) (had : AreHad m i r) where
  -- there is room for the letter of a context of which none was had
  pub one_left : (j : ℕ) → Supplies m j i → ¬ IsAmong j (froms r.had.items) → length r.had.items < length r.told.items
  one_left j fits new =
      let (order, ordered, low, among) = fits in
      let most : length (j ∷ froms r.had.items) ≤ length (supplied m order i) = distinct_fits (j ∷ froms r.had.items) (supplied m order i) (new, had.apart)
      (λ x h. elim h [ inl e ↦ subst (λ y. IsAmong y (supplied m order i)) (sym e) among | inr later ↦ in_order m i order ordered x (had.each_supplies x later) ]) in
      let long = had.places order ordered in
      let same = length-map r.had.items (λ (h : had_code.Had). h.from) in
      omega (arith, most, long, same)

  pub heard : HasEach r → (j : ℕ) → Supplies m j i → IsAmong j (froms r.had.items)
  heard each j fits = elim (cases_among j (froms r.had.items)) [ inl there ↦ there | inr other ↦ let l = one_left j fits other in absurd (omega (arith, l, each)) ]

-- no more were had than there are places
few_had : (m : System) (i : ℕ) (r : code.InRound) → i < length m.contexts → AreHad m i r → length r.had.items ≤ length r.told.items
few_had m i r low had =
    let (order, ordered) = import_order_exists m in
    let most : length (froms r.had.items) ≤ length (supplied m order i) = distinct_fits (froms r.had.items) (supplied m order i) had.apart (λ j h. in_order m i order ordered j (had.each_supplies j h)) in
    let long = had.places order ordered in
    let same = length-map r.had.items (λ (h : had_code.Had). h.from) in
    omega (arith, most, long, same)

supplies_told : (m : System) (level : ℕ) (js : List ℕ) (xss : List (List ℕ)) → length xss ≡ length js
    → ((p j : ℕ) (xs : List ℕ) → slice_get js p ≡ Some j → slice_get xss p ≡ Some xs → IsListing (MaySupply m level j) StateBefore xs) → AreSupplies m level js xss
supplies_told m level [] [] e each = tt
supplies_told m level [] (xs ∷ xss) e each = absurd (omega (arith, e))
supplies_told m level (j ∷ js) [] e each = absurd (omega (arith, e))
supplies_told m level (j ∷ js) (xs ∷ xss) e each = (each zero j xs refl refl, supplies_told m level js xss (omega (arith, e)) (λ p l ys a b. each (suc p) l ys a b))

-- where every supply was had, all that is supplied is told
pub told_all : (m : System) (i : ℕ) (r : code.InRound) → i < length m.contexts → AreHad m i r → AreTold m i r → HasEach r → AreToldAll m i r
told_all m i r low had told each order ordered =
    supplies_told m r.level (supplied m order i) (map shared_states r.told.items) (length-map r.told.items shared_states ∙ had.places order ordered)
    (λ p j xs at_p at_told. told.told order p j xs ordered at_p at_told (heard m i r had each j (order, ordered, low, among_get j (supplied m order i) p at_p)))

-- ---- one letter more
module _ (m : System) (i : ℕ) (place from : ℕ) (content : ContentData) (r s : code.InRound) (may : MayTake m i place from content r) (t : HadIn place from content r s) where
  froms_now : froms s.had.items ≡ froms r.had.items ++ from ∷ []
  froms_now = ap froms t.had_is ∙ map_push (λ (h : had_code.Had). h.from) r.had.items (record { from = from; stop = is_stop content })

  from_or : (j : ℕ) → IsAmong j (froms s.had.items) → IsAmong j (froms r.had.items) ⊎ (j ≡ from)
  from_or j h = (among_push j (froms r.had.items) from).0 (subst (λ xs. IsAmong j xs) froms_now h)

  told_length : (c : ContentData) (st : stage_code.Stage) (xss : List (List ℕ)) → length (told_with c st place xss) ≡ length xss
  told_length (Supply states) Waits xss = length-slice_set xss place states
  told_length (Supply states) (Done total) xss = refl
  told_length (Supply states) (Stopped granted halt by_itself) xss = refl
  told_length (Stop halt) st xss = refl

  told_long : length s.told.items ≡ length r.told.items
  told_long = sym (length-map s.told.items shared_states) ∙ ap length t.told_is ∙ told_length content r.stage (map shared_states r.told.items) ∙ length-map r.told.items shared_states

  pub had_now : AreHad m i s
  had_now = record {
    apart = subst AreApart (sym froms_now) (distinct_push (froms r.had.items) from may.had.apart may.new);
    each_supplies = λ j h. elim (from_or j h) [ inl early ↦ may.had.each_supplies j early | inr e ↦ subst (λ x. Supplies m x i) (sym e) may.fits ];
    places = λ order ordered. told_long ∙ may.had.places order ordered;
    room = let e = told_long in let c = t.room in let w = may.had.room in omega (arith, e, c, w);
  }

  pub last_had : IsAmong (record { from = from; stop = is_stop content }) s.had.items
  last_had = subst (λ xs. IsAmong (record { from = from; stop = is_stop content }) xs) (sym t.had_is) (among_right (record { from = from; stop = is_stop content }) r.had.items (record { from = from; stop = is_stop content } ∷ []) (inl refl))

  pub early_had : (h : had_code.Had) → IsAmong h r.had.items → IsAmong h s.had.items
  early_had h early = subst (λ xs. IsAmong h xs) (sym t.had_is) (among_left h r.had.items (record { from = from; stop = is_stop content } ∷ []) early)

  pub told_now : (states : List ℕ) → content ≡ Supply states → r.stage ≡ Waits → AreTold m i r → AreTold m i s
  told_now states is waits told =
      let now : map shared_states s.told.items ≡ slice_set (map shared_states r.told.items) place states
      = t.told_is ∙ ap (λ c. told_with c r.stage place (map shared_states r.told.items)) is ∙ ap (λ st. told_with (Supply states) st place (map shared_states r.told.items)) waits in
      let true_now : IsListing (MaySupply m r.level from) StateBefore states = subst (λ c. IsTrueContent m r.level from c) is may.says in record {
        no_stop = λ h there. elim ((among_push h r.had.items (record { from = from; stop = is_stop content })).0 (subst (λ xs. IsAmong h xs) t.had_is there)) [
          | inl early ↦ told.no_stop h early
          | inr e ↦ ap (λ (x : had_code.Had). x.stop) e ∙ ap is_stop is
        ];
        told = λ order p j xs ordered at_p at_told there. subst (λ n. IsListing (MaySupply m n j) StateBefore xs) (sym t.level_is)
            (elim (slice_get-slice_set (map shared_states r.told.items) place p states xs (subst (λ xss. slice_get xss p ≡ Some xs) now at_told)) [
              | inl (here, same) ↦
                  let its : j ≡ from = let a : slice_get (supplied m order i) p ≡ Some j = at_p in let b : slice_get (supplied m order i) place ≡ Some from = may.at_place order ordered in cc in
                  subst (λ (ys : List ℕ). IsListing (MaySupply m r.level j) StateBefore ys) (sym same) (subst (λ (x : ℕ). IsListing (MaySupply m r.level x) StateBefore states) (sym its) true_now)
              | inr (other, at_old) ↦ elim (from_or j there) [
                | inl early ↦ told.told order p j xs ordered at_p at_old early
                | inr e ↦ absurd (other (one_place (supplied m order i) (supplied_apart m order i ordered) p place from (at_p ∙ ap (λ n. Some n) e) (may.at_place order ordered)))
              ]
            ]);
      }

  -- where every supply was had now, all that is supplied is told
  pub all_told : (states : List ℕ) → content ≡ Supply states → r.stage ≡ Waits → length s.told.items ≤ length s.had.items → AreToldAll m i s
  all_told states is waits many =
      let few : length s.had.items ≤ length s.told.items = few_had m i s may.low had_now in
      told_all m i s may.low had_now (told_now states is waits (may.told waits)) (omega (arith, many, few))

module _ (m : System) (i budget : ℕ) (o : OracleState) (receivers : List ℕ) (k : Knowledge) (before : Option ℕ) (place from : ℕ) (content : ContentData) (r s : code.InRound)
    (was : IsInRound m i budget o receivers k before r) (may : MayTake m i place from content r) (t : TookIn m i place from content r s) where
  now_had : AreHad m i s
  now_had = had_now m i place from content r s may t.kept

  abbrev MayEnd : stage_code.Stage → ContentData → Type 0
  MayEnd st c = (s.stage ≡ stage_with c st) ⊎ ((states : List ℕ) × (c ≡ Supply states) × (st ≡ Waits) × (s.stage ≡ Stopped None Memory true))

  -- memory ran out
  without_memory : s.stage ≡ Stopped None Memory true → IsAtStage m i budget o receivers k before s s.stage
  without_memory e = subst (λ z. IsAtStage m i budget o receivers k before s z) (sym e) (record { true_halt = tt; cause = tt })

  still_caused : (granted : Option ℕ) (halt : Halt) (by_itself : Bool) → HasStopCause (record { system = m; level = r.level; budget = budget; before = before }) i r.had.items granted halt by_itself
      → HasStopCause (record { system = m; level = s.level; budget = budget; before = before }) i s.had.items granted halt by_itself
  still_caused granted halt true cause = subst (λ n. HasStopCause (record { system = m; level = n; budget = budget; before = before }) i s.had.items granted halt true) (sym t.kept.level_is) cause
  still_caused granted halt false (none, h, among, stop) = (none, h, early_had m i place from content r s may t.kept h among, stop)

  stage_now : (st : stage_code.Stage) (c : ContentData) → r.stage ≡ st → content ≡ c → IsAtStage m i budget o receivers k before r st → MayEnd st c → IsAtStage m i budget o receivers k before s s.stage
  stage_now Waits (Stop halt) waits is w (inl e) = subst (λ z. IsAtStage m i budget o receivers k before s z) (sym e) (record {
    true_halt = subst (λ n. IsTrueHalt m n halt) (sym t.kept.level_is) (subst (λ c. IsTrueContent m r.level from c) is may.says);
    cause = (refl, record { from = from; stop = is_stop content }, last_had m i place from content r s may t.kept, ap is_stop is);
  })
  stage_now Waits (Supply states) waits is w (inl e) =
      let told = told_now m i place from content r s may t.kept states is waits w.told in subst (λ z. IsAtStage m i budget o receivers k before s z) (sym e) (record {
        told = told;
        known = w.known;
        asked = w.asked;
        whole = ap (λ envelopes. length envelopes.items) t.envelopes ∙ w.whole;
        questions = λ each. t.questions e each;
      })
  stage_now (Done total) c done is w e = let l = one_left m i r was.had from may.fits may.new in absurd (let each = w.each in omega (arith, l, each))
  stage_now (Stopped granted halt by_itself) (Stop also) stopped is w (inl e) = subst (λ z. IsAtStage m i budget o receivers k before s z) (sym e) (record {
    true_halt = subst (λ n. IsTrueHalt m n halt) (sym t.kept.level_is) w.true_halt;
    cause = still_caused granted halt by_itself w.cause;
  })
  stage_now (Stopped granted halt by_itself) (Supply states) stopped is w (inl e) = subst (λ z. IsAtStage m i budget o receivers k before s z) (sym e) (record {
    true_halt = subst (λ n. IsTrueHalt m n halt) (sym t.kept.level_is) w.true_halt;
    cause = still_caused granted halt by_itself w.cause;
  })
  stage_now st c at_st is w (inr (states, supply, waits, e)) = without_memory e

  pub round_now : IsInRound m i budget o receivers k before s
  round_now = record {
    higher = subst (λ n. Rattle.mcs_node.specs.Nodes.IsAbove before n) (sym t.kept.level_is) was.higher;
    had = now_had;
    envelopes = subst (λ envelopes. AllByRecursion (λ envelope. arc_value envelope ≡ m) envelopes.items) (sym t.envelopes) was.envelopes;
    few = subst (λ envelopes. length envelopes.items ≤ length receivers) (sym t.envelopes) was.few;
    stage = stage_now r.stage content refl refl was.stage t.stage_is;
  }

-- ---- what is seen of it
-- the node, where its stage is st and count envelopes are left
abbrev pub node_at : System → ℕ → ℕ → OracleState → List ℕ → Knowledge → Option ℕ → ℕ → List Stamp → stage_code.Stage → ℕ → NodeData
node_at m i budget o receivers k before n had st count = record {
  plan = m;
  context = i;
  budget = budget;
  oracle = o;
  before = before;
  level = Some n;
  state = record { begun = true; had = had; granted = granted_in st; put_out = put_out_in n i receivers st; done = done_in st; halt = halt_in st; by_itself = by_itself_in st };
  receivers = receivers;
  outbox = letters_in m n i (take count receivers) k.supplies st;
  known = k;
}

abbrev pub node_of : System → ℕ → ℕ → OracleState → List ℕ → Knowledge → Option ℕ → code.InRound → NodeData
node_of m i budget o receivers k before r = node_at m i budget o receivers k before r.level (stamps_had r.level i r.had.items) r.stage (length r.envelopes.items)

module _ (m : System) (i budget : ℕ) (o : OracleState) (receivers : List ℕ) (k : Knowledge) (before : Option ℕ) (r : code.InRound) (l : LetterData) where
  pub awaited_from : Supplies l.plan l.from l.to → IsForRound m i r l → IsAwaited l (node_of m i budget o receivers k before r)
  awaited_from fits mine = record {
    plan = mine.plan;
    level = ap (λ n. Some n) (sym mine.level_is);
    addressed = mine.addressed;
    supplies = subst (λ (n : System). Supplies n l.from i) mine.plan (subst (λ (j : ℕ). Supplies l.plan l.from j) mine.addressed fits);
    first = λ x there same. let (h, among, is) = map_among (λ (h : had_code.Had). stamp r.level h.from i h.stop) x r.had.items there in
        let its : h.from ≡ l.from = ap (λ (y : Stamp). y.from) (sym is) ∙ same in
        mine.first (subst (λ j. IsAmong j (froms r.had.items)) its (among_map (λ (h : had_code.Had). h.from) h r.had.items among));
  }

  pub awaited_back : IsAwaited l (node_of m i budget o receivers k before r) → IsForRound m i r l
  awaited_back a = record {
    plan = a.plan;
    level_is = let e = a.level in cc;
    addressed = a.addressed;
    first = λ there. let (h, among, is) = map_among (λ (h : had_code.Had). h.from) l.from r.had.items there in
        a.first (stamp r.level h.from i h.stop) (among_map (λ (h : had_code.Had). stamp r.level h.from i h.stop) h r.had.items among) (sym is);
  }

module _ (m : System) (i budget : ℕ) (o : OracleState) (receivers : List ℕ) (k : Knowledge) (before : Option ℕ) (place : ℕ) (r s : code.InRound) (l : LetterData)
    (was : IsInRound m i budget o receivers k before r) (mine : IsForRound m i r l) (t : TookIn m i place l.from l.content r s) (fits : Supplies m l.from i) where
  abbrev had_then : List Stamp
  had_then = stamps_had r.level i r.had.items

  abbrev had_then_now : List Stamp
  had_then_now = had_then ++ stamp_of l ∷ []

  abbrev at_stage : List Stamp → stage_code.Stage → NodeData
  at_stage had st = node_at m i budget o receivers k before r.level had st (length r.envelopes.items)

  same_stamp : stamp r.level l.from i (is_stop l.content) ≡ stamp_of l
  same_stamp = ap (λ n. stamp n l.from i (is_stop l.content)) (sym mine.level_is) ∙ ap (λ j. stamp l.level l.from j (is_stop l.content)) (sym mine.addressed)

  stamps_now : stamps_had r.level i s.had.items ≡ had_then_now
  stamps_now = ap (stamps_had r.level i) t.kept.had_is ∙ map_push (λ (h : had_code.Had). stamp r.level h.from i h.stop) r.had.items (record { from = l.from; stop = is_stop l.content }) ∙ ap (λ x. had_then ++ x ∷ []) same_stamp

  made : (st : stage_code.Stage) → s.stage ≡ st → node_of m i budget o receivers k before s ≡ at_stage had_then_now st
  made st e = ap (λ n. node_at m i budget o receivers k before n (stamps_had n i s.had.items) s.stage (length s.envelopes.items)) t.kept.level_is
      ∙ ap (λ xs. node_at m i budget o receivers k before r.level xs s.stage (length s.envelopes.items)) stamps_now
      ∙ ap (λ z. node_at m i budget o receivers k before r.level had_then_now z (length s.envelopes.items)) e
      ∙ ap (λ envelopes. node_at m i budget o receivers k before r.level had_then_now st (length envelopes.items)) t.envelopes

  -- it stops: a stop stands in the place of each letter
  to_stop : (halt : Halt) (by_itself : Bool) → length r.envelopes.items ≡ length receivers → at_stage had_then_now (Stopped None halt by_itself) ≡ stopped_with l.level halt by_itself (with_had l (at_stage had_then Waits))
  to_stop halt by_itself whole =
      let stopped : ℕ → List ℕ → NodeData = λ n js. record {
        plan = m;
        context = i;
        budget = budget;
        oracle = o;
        before = before;
        level = Some r.level;
        state = record { begun = true; had = had_then_now; granted = None; put_out = stamps_to n i true receivers; done = false; halt = Some halt; by_itself = by_itself };
        receivers = receivers;
        outbox = letters_to m n i (Stop halt) js;
        known = k;
      } in
      let all : take (length r.envelopes.items) receivers ≡ receivers = take_all (length r.envelopes.items) receivers (omega (arith, whole)) in
      ap (λ n. stopped n (take (length r.envelopes.items) receivers)) (sym mine.level_is) ∙ ap (λ js. stopped l.level js) all

  abbrev MayBe : stage_code.Stage → ContentData → NodeData → Type 0
  MayBe st c e = (e ≡ with_content l c (halt_in st) (at_stage had_then st))
      ⊎ ((states : List ℕ) × (c ≡ Supply states) × (halt_in st ≡ None) × (e ≡ stopped_with l.level Memory true (with_had l (at_stage had_then st))))

  abbrev HasEnded : stage_code.Stage → ContentData → Type 0
  HasEnded st c = (s.stage ≡ stage_with c st) ⊎ ((states : List ℕ) × (c ≡ Supply states) × (st ≡ Waits) × (s.stage ≡ Stopped None Memory true))

  taken_at : (st : stage_code.Stage) (c : ContentData) → IsAtStage m i budget o receivers k before r st → HasEnded st c → MayBe st c (node_of m i budget o receivers k before s)
  taken_at Waits (Stop halt) w (inl e) = inl (made (Stopped None halt false) e ∙ to_stop halt false w.whole)
  taken_at Waits (Stop halt) w (inr (states, supply, waits, e)) = absurd (cc)
  taken_at Waits (Supply states) w (inl e) = inl (made Waits e)
  taken_at Waits (Supply states) w (inr (others, supply, waits, e)) = inr (others, supply, refl, made (Stopped None Memory true) e ∙ to_stop Memory true w.whole)
  taken_at (Done total) c w e = let less = one_left m i r was.had l.from fits mine.first in let each = w.each in absurd (omega (arith, less, each))
  taken_at (Stopped granted halt by_itself) (Stop also) w (inl e) = inl (made (Stopped granted halt by_itself) e)
  taken_at (Stopped granted halt by_itself) (Supply states) w (inl e) = inl (made (Stopped granted halt by_itself) e)
  taken_at (Stopped granted halt by_itself) c w (inr (states, supply, waits, e)) = absurd (cc)

  pub taken_now : HasTaken l (node_of m i budget o receivers k before r) (node_of m i budget o receivers k before s)
  taken_now = taken_at r.stage l.content was.stage t.stage_is

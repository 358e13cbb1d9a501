-- The clauses that were given among those that were learnt, and what a state that comes later has in common with the one before.
use Rattle.std.proofs.Common.{◌≡◌, ◌≢◌, ℕ, ◌+◌, ◌<◌, ◌≤◌, zero, suc, List, [], ◌∷◌, ◌++◌, refl, sym, ap, ◌∙◌, subst, arith, ℤ, unsigned_abs, length, map, take, Some, slice_get}
use Rattle.std.specs.List.{AllByRecursion}
use Rattle.std.proofs.lemmas.List.{append-nil, append_assoc, map-append}
use Rattle.mcs_base.proofs.Each.{all_append, all_both, all_push, all_weaker}
use Rattle.mcs_trace.specs.Clauses.{ClauseList, IsClause, IsClauseList, IsWithin}
use Rattle.mcs_trace.specs.Traces.{Inference, IsChainResolvent}
use Rattle.mcs_engine.specs.declared.state.State.{State}
use Rattle.mcs_engine.specs.States.{IsState, IsWider, KeepsClauses, KeepsLevels, KeepsTrail}
use Rattle.mcs_engine.specs.Stores.{IsAdded, IsBase, IsGround, IsLater, IsLaterGround, SameStore, given, given_count, list_of}
use Rattle.mcs_engine.specs.Trails.{AreCovered}

-- ---- what comes later
pub later-same : (old new : State) → KeepsClauses old new → IsLater old new
later-same old new same = record {
  state = same.state;
  positions = same.positions;
  more = [];
  clauses = same.clauses ∙ sym (append-nil old.clauses);
  chains = same.chains ∙ sym (append-nil old.chains);
  learnt = tt;
}

pub keeps-store : (old new : State) → KeepsTrail old new → SameStore old new → new.watches.pairs ≡ old.watches.pairs → KeepsClauses old new
keeps-store old new kept same pairs = record {
  state = kept.state;
  clauses = same.clauses;
  chains = same.chains;
  positions = kept.positions;
  full = λ full. ap length pairs ∙ full ∙ sym (ap length same.clauses);
}

pub later-none : (s : State) → IsState s → IsLater s s
later-none s is = record { state = is; positions = refl; more = []; clauses = sym (append-nil s.clauses); chains = sym (append-nil s.chains); learnt = tt }

pub ground-none : (s : State) → IsGround s → IsLaterGround s s
ground-none s is = record { later = later-none s is.state; base = is.base }

pub ground-later : (old new : State) → IsLaterGround old new → IsGround new
ground-later old new is = record { state = is.later.state; base = is.base }

pub later-then : (a b c : State) → IsLater a b → IsLater b c → IsLater a c
later-then a b c ab bc = record {
  state = bc.state;
  positions = bc.positions ∙ ab.positions;
  more = ab.more ++ bc.more;
  clauses = bc.clauses ∙ ap (λ (xs : List (List ℤ)). xs ++ map (λ (i : Inference). i.clause) bc.more) ab.clauses ∙ append_assoc a.clauses (map (λ (i : Inference). i.clause) ab.more) (map (λ (i : Inference). i.clause) bc.more) ∙ ap (λ (xs : List (List ℤ)). a.clauses ++ xs) (sym (map-append (λ (i : Inference). i.clause) ab.more bc.more));
  chains = bc.chains ∙ ap (λ (xs : List (List ℕ)). xs ++ map (λ (i : Inference). i.chain) bc.more) ab.chains ∙ append_assoc a.chains (map (λ (i : Inference). i.chain) ab.more) (map (λ (i : Inference). i.chain) bc.more) ∙ ap (λ (xs : List (List ℕ)). a.chains ++ xs) (sym (map-append (λ (i : Inference). i.chain) ab.more bc.more));
  learnt = all_append (λ (i : Inference). i.chain ≢ []) ab.more bc.more ab.learnt bc.learnt;
}

pub later-ground : (a b c : State) → IsLater a b → IsLaterGround b c → IsLaterGround a c
later-ground a b c ab bc = record { later = later-then a b c ab bc.later; base = bc.base }

pub later-levels : (a b c : State) → IsLaterGround a b → KeepsLevels b c → IsLaterGround a c
later-levels a b c ab bc = record { later = later-then a b c ab.later (later-same b c bc.same); base = bc.levels ∙ ab.base }

pub later-learnt : (old new : State) (c : List ℤ) (ns : List ℕ) → IsState new → length new.trail.positions.items ≡ length old.trail.positions.items → new.clauses ≡ old.clauses ++ c ∷ [] → new.chains ≡ old.chains ++ ns ∷ [] → IsChainResolvent old.clauses ns c → IsLater old new
later-learnt old new c ns is positions clauses chains right = record {
  state = is;
  positions = positions;
  more = record { clause = c; chain = ns } ∷ [];
  clauses = clauses;
  chains = chains;
  learnt = (λ none. some old.clauses ns c right none, tt);
}
  where
    some : (known : List (List ℤ)) (ns : List ℕ) (c : List ℤ) → IsChainResolvent known ns c → ns ≡ [] → ⊥
    some known [] c h none = h
    some known (n ∷ ns) c h none = cc

-- ---- the clauses that were given
pub given-append : (known more : List (List ℤ)) (chains added : List (List ℕ)) → length chains ≡ length known → given (known ++ more) (chains ++ added) ≡ given known chains ++ given more added
given-append [] more [] added size = refl
given-append [] more (ns ∷ chains) added size = absurd (omega arith)
given-append (c ∷ known) more [] added size = absurd (omega arith)
given-append (c ∷ known) more ([] ∷ chains) added size = ap (λ (xs : List (List ℤ)). c ∷ xs) (given-append known more chains added (omega arith))
given-append (c ∷ known) more ((n ∷ ns) ∷ chains) added size = given-append known more chains added (omega arith)

pub given_count-append : (chains added : List (List ℕ)) → given_count (chains ++ added) ≡ given_count chains + given_count added
given_count-append [] added = omega arith
given_count-append ([] ∷ chains) added = let rest = given_count-append chains added in omega arith
given_count-append ((n ∷ ns) ∷ chains) added = given_count-append chains added

given-left : (c : List ℤ) (ns : List ℕ) (known : List (List ℤ)) (chains : List (List ℕ)) → ns ≢ [] → given (c ∷ known) (ns ∷ chains) ≡ given known chains
given-left c [] known chains none = absurd (none refl)
given-left c (n ∷ ns) known chains other = refl

pub given_count-left : (ns : List ℕ) (chains : List (List ℕ)) → ns ≢ [] → given_count (ns ∷ chains) ≡ given_count chains
given_count-left [] chains none = absurd (none refl)
given_count-left (n ∷ ns) chains other = refl

given-learnt : (more : List Inference) → AllByRecursion (λ (i : Inference). i.chain ≢ []) more → given (map (λ (i : Inference). i.clause) more) (map (λ (i : Inference). i.chain) more) ≡ []
given-learnt [] all = refl
given-learnt (i ∷ more) (some, all) = given-left i.clause i.chain (map (λ (i : Inference). i.clause) more) (map (λ (i : Inference). i.chain) more) some ∙ given-learnt more all

given_count-learnt : (more : List Inference) → AllByRecursion (λ (i : Inference). i.chain ≢ []) more → given_count (map (λ (i : Inference). i.chain) more) ≡ 0
given_count-learnt [] all = refl
given_count-learnt (i ∷ more) (some, all) = given_count-left i.chain (map (λ (i : Inference). i.chain) more) some ∙ given_count-learnt more all

-- of the first clauses of the store
pub given-take : (i : ℕ) (known : List (List ℤ)) (chains : List (List ℕ)) → length chains ≡ length known → given (take i known) (take i chains) ≡ take (given_count (take i chains)) (given known chains)
given-take zero known chains size = refl
given-take (suc i) [] [] size = refl
given-take (suc i) [] (ns ∷ chains) size = absurd (omega arith)
given-take (suc i) (c ∷ known) [] size = absurd (omega arith)
given-take (suc i) (c ∷ known) ([] ∷ chains) size =
    let e : suc (given_count (take i chains)) ≡ 1 + given_count (take i chains) = omega arith in
    ap (λ (xs : List (List ℤ)). c ∷ xs) (given-take i known chains (omega arith)) ∙ ap (λ (n : ℕ). take n (c ∷ given known chains)) e
given-take (suc i) (c ∷ known) ((n ∷ ns) ∷ chains) size = given-take i known chains (omega arith)

pub length-given : (known : List (List ℤ)) (chains : List (List ℕ)) → length chains ≡ length known → length (given known chains) ≡ given_count chains
length-given [] [] size = refl
length-given [] (ns ∷ chains) size = absurd (omega arith)
length-given (c ∷ known) [] size = absurd (omega arith)
length-given (c ∷ known) ([] ∷ chains) size = let rest = length-given known chains (omega arith) in omega arith
length-given (c ∷ known) ((n ∷ ns) ∷ chains) size = length-given known chains (omega arith)

pub given-all : (P : List ℤ → Type 0) (known : List (List ℤ)) (chains : List (List ℕ)) → AllByRecursion P known → AllByRecursion P (given known chains)
given-all P [] chains all = tt
given-all P (c ∷ known) [] all = tt
given-all P (c ∷ known) ([] ∷ chains) (here, rest) = (here, given-all P known chains rest)
given-all P (c ∷ known) ((n ∷ ns) ∷ chains) (here, rest) = given-all P known chains rest

-- where a clause that was given stands among these
pub given-at : (known : List (List ℤ)) (chains : List (List ℕ)) (i : ℕ) (c : List ℤ) → slice_get known i ≡ Some c → slice_get chains i ≡ Some [] → slice_get (given known chains) (given_count (take i chains)) ≡ Some c
given-at [] chains i c at none = cc
given-at (x ∷ known) [] i c at none = cc
given-at (x ∷ known) ([] ∷ chains) zero c at none = at
given-at (x ∷ known) ((n ∷ ns) ∷ chains) zero c at none = cc
given-at (x ∷ known) ([] ∷ chains) (suc i) c at none =
    let e : 1 + given_count (take i chains) ≡ suc (given_count (take i chains)) = omega arith in
    ap (slice_get (x ∷ given known chains)) e ∙ given-at known chains i c at none
given-at (x ∷ known) ((n ∷ ns) ∷ chains) (suc i) c at none = given-at known chains i c at none

-- ---- what is given stays
pub later-given : (old new : State) → IsState old → IsLater old new → given new.clauses new.chains ≡ given old.clauses old.chains
later-given old new is later =
    ap (λ (xs : List (List ℤ)). given xs new.chains) later.clauses ∙ ap (given (old.clauses ++ map (λ (i : Inference). i.clause) later.more)) later.chains
    ∙ given-append old.clauses (map (λ (i : Inference). i.clause) later.more) old.chains (map (λ (i : Inference). i.chain) later.more) is.chains.sized
    ∙ ap (λ (xs : List (List ℤ)). given old.clauses old.chains ++ xs) (given-learnt later.more later.learnt) ∙ append-nil (given old.clauses old.chains)

pub later-count : (old new : State) → IsLater old new → given_count new.chains ≡ given_count old.chains
later-count old new later = ap given_count later.chains ∙ given_count-append old.chains (map (λ (i : Inference). i.chain) later.more) ∙ omega (arith, given_count-learnt later.more later.learnt)

-- ---- one list of clauses for many searches
pub base-later : (old new : State) (vars : ℕ) → IsBase old vars → IsLaterGround old new → IsBase new vars
base-later old new vars is ground = record {
  state = ground.later.state;
  base = ground.base;
  room = (let r = is.room in omega (arith, ground.later.positions));
  within = subst (AllByRecursion (IsWithin vars)) (sym (later-given old new is.state ground.later)) is.within;
}

pub base-list : (old new : State) (vars : ℕ) → IsState old → IsLater old new → list_of new vars ≡ list_of old vars
base-list old new vars is later = ap (λ (cs : List (List ℤ)). (let f : ClauseList = record { vars = vars; clauses = cs } in f)) (later-given old new is later)

-- a clause is added
pub given-push : (known : List (List ℤ)) (chains : List (List ℕ)) (c : List ℤ) → length chains ≡ length known → given (known ++ c ∷ []) (chains ++ [] ∷ []) ≡ given known chains ++ c ∷ []
given-push known chains c size = given-append known (c ∷ []) chains ([] ∷ []) size

pub added-list : (old new : State) (c : List ℤ) → IsState old → IsAdded old new c [] → given new.clauses new.chains ≡ given old.clauses old.chains ++ c ∷ []
added-list old new c is added = ap (λ (cs : List (List ℤ)). given cs new.chains) added.clauses ∙ ap (given (old.clauses ++ c ∷ [])) added.chains ∙ given-push old.clauses old.chains c is.chains.sized

pub base-added : (old new : State) (vars : ℕ) (c : List ℤ) → IsBase old vars → KeepsTrail old new → IsAdded old new c [] → IsWithin vars c → IsBase new vars
base-added old new vars c is kept added within = record {
  state = kept.state;
  base = kept.levels ∙ is.base;
  room = (let r = is.room in omega (arith, kept.positions));
  within = subst (AllByRecursion (IsWithin vars)) (sym (added-list old new c is.state added)) (all_push (IsWithin vars) (given old.clauses old.chains) c is.within within);
}

pub base-same : (old new : State) (vars : ℕ) → IsBase old vars → KeepsTrail old new → SameStore old new → IsBase new vars
base-same old new vars is kept same = record {
  state = kept.state;
  base = kept.levels ∙ is.base;
  room = (let r = is.room in omega (arith, kept.positions));
  within = subst (λ (cs : List (List ℤ)). AllByRecursion (IsWithin vars) (given cs new.chains)) (sym same.clauses) (subst (λ (ms : List (List ℕ)). AllByRecursion (IsWithin vars) (given old.clauses ms)) (sym same.chains) is.within);
}

-- clauses are taken off
pub cut-list : (old new : State) (count i : ℕ) → IsState old → given_count (take i old.chains) ≡ count → new.clauses ≡ take i old.clauses → new.chains ≡ take i old.chains → given new.clauses new.chains ≡ take count (given old.clauses old.chains)
cut-list old new count i is number clauses chains =
    ap (λ (cs : List (List ℤ)). given cs new.chains) clauses ∙ ap (given (take i old.clauses)) chains ∙ given-take i old.clauses old.chains is.chains.sized
    ∙ ap (λ (n : ℕ). take n (given old.clauses old.chains)) number

-- other variables
pub base-vars : (s : State) (vars less : ℕ) → IsBase s vars → less < length s.trail.positions.items → AllByRecursion (IsWithin less) (given s.clauses s.chains) → IsBase s less
base-vars s vars less is room within = record { state = is.state; base = is.base; room = room; within = within }

pub within-more : (vars more : ℕ) (cs : List (List ℤ)) → vars ≤ more → AllByRecursion (IsWithin vars) cs → AllByRecursion (IsWithin more) cs
within-more vars more cs order all = all_weaker (IsWithin vars) (IsWithin more) (λ c within. all_weaker (λ (l : ℤ). unsigned_abs l ≤ vars) (λ (l : ℤ). unsigned_abs l ≤ more) (λ l low. omega arith) c within) cs all

pub base-widened : (old new : State) (vars : ℕ) → IsBase old vars → IsWider old new → IsBase new vars
base-widened old new vars is wider = record {
  state = wider.state;
  base = wider.levels ∙ is.base;
  room = (let r = is.room in let l = wider.longer in omega arith);
  within = subst (λ (cs : List (List ℤ)). AllByRecursion (IsWithin vars) (given cs new.chains)) (sym wider.clauses) (subst (λ (ms : List (List ℕ)). AllByRecursion (IsWithin vars) (given old.clauses ms)) (sym wider.chains) is.within);
}

pub base-clauses : (s : State) (vars : ℕ) → IsBase s vars → IsClauseList (list_of s vars)
base-clauses s vars is = ((let r = is.room in let f = s.trail.fits in omega arith), all_both IsClause (IsWithin vars) (given s.clauses s.chains) (given-all IsClause s.clauses s.chains is.state.trail.clauses) is.within)

pub base-count : (s : State) (vars : ℕ) → IsBase s vars → given_count s.chains ≡ length (given s.clauses s.chains)
base-count s vars is = sym (length-given s.clauses s.chains is.state.chains.sized)

-- a clause within the variables has places for them
pub covered-within : (vars : ℕ) (ps : List ℕ) (c : List ℤ) → vars < length ps → IsWithin vars c → AreCovered ps c
covered-within vars ps c room within = all_weaker (λ (l : ℤ). unsigned_abs l ≤ vars) (λ (l : ℤ). unsigned_abs l < length ps) (λ l low. omega arith) c within

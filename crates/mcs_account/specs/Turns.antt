-- What may come next in a text, as far as the order of its events tells: a read ends right after the last token of its
-- belief, where a formula is whole, and a token comes next; what is said of a context comes after a name of one.
use Rattle.std.specs.Prelude.{Bool, true, false, [], ◌∷◌}
use Rattle.mcs_syntax.specs.declared.part.Event.TheVariants.{Took, Told}
use Rattle.mcs_productions.specs.declared.class.Class.{Class}
use Rattle.mcs_productions.specs.declared.class.Class.TheVariants as class
use Rattle.mcs_productions.specs.declared.production.Action.{Action}
use Rattle.mcs_productions.specs.declared.production.Action.TheVariants as action
use Rattle.mcs_account.specs.Reading.{Events}

-- how many parentheses are open
pub data Depth : Type 0 where
  Top : Depth
  In : (d : Depth) → Depth

pub data Phase : Type 0 where
  -- a token may come
  Free : Phase
  -- the belief of a read has ended, so the read ends before anything else comes
  Due : Phase
  -- the read has ended, so a token comes next
  Over : Phase
  -- it came otherwise
  Broken : Phase

pub record Turn : Type 0 where
  -- the belief is one of a read
  pub reads : Bool
  pub depth : Depth
  -- a formula is whole
  pub formed : Bool
  -- a context was named
  pub named : Bool
  pub phase : Phase

abbrev pub turn : Bool → Depth → Bool → Bool → Phase → Turn
turn r d f n p = record { reads = r; depth = d; formed = f; named = n; phase = p }

-- outside of reads and parentheses
abbrev pub calm : Bool → Turn
calm f = turn false Top f true Free

-- between the parts of a text
abbrev pub between : Bool → Turn
between n = turn false Top false n Free

abbrev pub first_turn : Turn
first_turn = between false

-- ---- a token
abbrev pub at_top : Bool → Depth → Bool
at_top false d = false
at_top true Top = true
at_top true (In d) = false

abbrev pub one_in : Bool → Depth → Bool
one_in r Top = false
one_in r (In d) = at_top r d

-- the belief of a read ends with it
abbrev pub ends : Class → Bool → Depth → Bool
ends class.IsTrue r d = at_top r d
ends class.IsFalse r d = at_top r d
ends class.IsAtom r d = at_top r d
ends class.ClosesParenthesis r d = one_in r d
ends c r d = false

abbrev pub reads_after : Class → Bool → Bool
reads_after class.NamesSource r = true
reads_after class.EndsBridge r = false
reads_after c r = r

abbrev pub out : Depth → Depth
out Top = Top
out (In d) = d

abbrev pub depth_after : Class → Depth → Depth
depth_after class.OpensParenthesis d = In d
depth_after class.ClosesParenthesis d = out d
depth_after c d = d

abbrev pub formed_after : Class → Bool → Bool
formed_after class.IsTrue f = true
formed_after class.IsFalse f = true
formed_after class.IsAtom f = true
formed_after class.EndsItem f = false
formed_after class.EndsBridge f = false
formed_after c f = f

abbrev pub free_or_due : Bool → Phase
free_or_due true = Due
free_or_due false = Free

abbrev pub named_after : Class → Bool → Bool
named_after class.NamesContext n = true
named_after class.NamesTarget n = true
named_after c n = n

-- the token may come here
abbrev pub comes : Class → Bool → Bool
comes class.BeginsContext n = true
comes class.NamesContext n = true
comes class.BeginsBridge n = true
comes class.NamesBridge n = true
comes class.EndsBridgeName n = true
comes class.NamesTarget n = true
comes class.BeginsVersion n = true
comes class.NamesVersion n = true
comes class.EndsVersion n = true
comes class.Keeps n = true
comes class.Closes n = true
comes class.BeginsWeight n = true
comes class.Weighs n = true
comes class.WeighsTwo n = true
comes c n = n

abbrev pub phase_if : Bool → Phase → Phase
phase_if true p = p
phase_if false p = Broken

abbrev pub phase_after : Phase → Bool → Phase
phase_after Free e = free_or_due e
phase_after Over e = free_or_due e
phase_after Due e = Broken
phase_after Broken e = Broken

-- ---- an action
abbrev pub ended : Phase → Bool → Phase
ended Due true = Over
ended p f = Broken

abbrev pub joined : Phase → Phase
joined Over = Broken
joined p = p

abbrev pub phase_told : Action → Phase → Bool → Phase
phase_told action.EndsRead p f = ended p f
phase_told a p f = joined p

abbrev pub formed_told : Action → Bool → Bool
formed_told action.EndsRead f = false
formed_told a f = f

abbrev pub turn_took : Turn → Class → Turn
turn_took s c = turn (reads_after c s.reads) (depth_after c s.depth) (formed_after c s.formed) (named_after c s.named) (phase_if (comes c s.named) (phase_after s.phase (ends c s.reads s.depth)))

abbrev pub turn_told : Turn → Action → Turn
turn_told s a = turn s.reads s.depth (formed_told a s.formed) s.named (phase_told a s.phase s.formed)

abbrev pub passed : Turn → Events → Turn
passed s [] = s
passed s (Took c ∷ xs) = passed (turn_took s c) xs
passed s (Told a ∷ xs) = passed (turn_told s a) xs

-- Loads that are out with threads, or here.
use Rattle.std.specs.Prelude.{◌≡◌, List}
use Rattle.std.specs.List.{AllZip}
use Rattle.mcs_crew.specs.declared.load.Load.{Load}
use Rattle.mcs_crew.specs.declared.child.Child.{Child}
use Rattle.mcs_crew.specs.declared.child.Child.TheVariants.{Away, Here}
use Rattle.mcs_crew.specs.Calls.{load_of}
use Rattle.mcs_crew.specs.Loads.{CanWork, Worked}
use Rattle.atomic_table.specs.Seated.{TableId}

module _ {O : Type 0} where
  -- the load may be worked, and its seat is one of the word
  abbrev pub IsGiven : TableId → Load O → Type 0
  IsGiven word load = CanWork (load_of load) × (load.team.seat.word ≡ word)

  -- what went out with a thread is this load, or what is here came of it
  abbrev pub ComesBack : Load O → Child O → Type 0
  ComesBack was (Away thread) = thread.promise.was.value ≡ was
  ComesBack was (Here load) = Worked (load_of was) (load_of load)

  abbrev pub HasWorked : Load O → Load O → Type 0
  HasWorked was load = Worked (load_of was) (load_of load)

  -- the children are those of loads that may be worked
  pub record AreAtWork (word : TableId) (children : List (Child O)) : Type 0 where
    pub loads : List (Load O)
    pub given : AllZip (λ was child. IsGiven word was × ComesBack was child) loads children

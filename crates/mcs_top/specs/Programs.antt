-- The words that a program is given.
use Rattle.std.specs.Prelude.{◌≡◌, List, [], drop, Result, Ok, Err, String, IsErrAnd}
use Rattle.std.specs.Vec.Iter.{into_iter_items}
use Rattle.std.specs.declared.alloc.Global.{Global}
use Rattle.std.specs.declared.io.Error.{Error}
use Rattle.std.specs.declared.vec.IntoIter.{IntoIter}
use Rattle.std.specs.IoError.{error_kind}
use Rattle.std.specs.declared.io.ErrorKind.TheVariants.{OutOfMemory}
use Rattle.mcs_words.specs.Commands.{Word}
use Rattle.mcs_words.specs.Reading.{texts_of}

-- all that the system gives, the program's name first; none where it fails to give them
abbrev pub all_given : Result (IntoIter (String Global) Global) Error → List (String Global)
all_given (Ok words) = into_iter_items words
all_given (Err error) = []

-- those after the program's name
abbrev pub words_given : Result (IntoIter (String Global) Global) Error → List Word
words_given given = texts_of (drop 1 (all_given given))

-- it fails to give them for want of memory
abbrev pub LackedMemory : Result (IntoIter (String Global) Global) Error → Type 0
LackedMemory given = IsErrAnd given (λ error. error_kind error ≡ OutOfMemory)

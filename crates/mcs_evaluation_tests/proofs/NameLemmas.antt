-- Names are among themselves.
use Rattle.std.proofs.Common.{List, IsTrue}
use Rattle.std.specs.List.{AllByRecursion}
use Rattle.mcs_base.proofs.Each.{all_from_among}
use Rattle.mcs_system.specs.Plain.{Name}
use Rattle.mcs_system.specs.Logic.{is_in}
use Rattle.mcs_system.proofs.NameLemmas.{is_in-among}

pub own_names : (names : List Name) → AllByRecursion (λ n. IsTrue (is_in n names)) names
own_names names = all_from_among (λ n. IsTrue (is_in n names)) names (λ n among. (is_in-among n names).1 among)

-- The plain data that edits in code stand for.
use Rattle.mcs_system.specs.Seen.{bridge_of}
use Rattle.mcs_script.specs.declared.edit.Edit as code
use Rattle.mcs_script.specs.declared.edit.Edit.TheVariants as variants
use Rattle.mcs_script.specs.Edits.{Edit, Added, Dropped, Listed}

abbrev pub edit_of : code.Edit → Edit
edit_of (variants.Add b) = Added (bridge_of b)
edit_of (variants.Drop n) = Dropped n
edit_of variants.List = Listed

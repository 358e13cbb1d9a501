use Rattle.std.proofs.Common.{cond, [], codes, sym, ap, ◌∙◌}
use Rattle.std.specs.List.{list_any}
use Rattle.mcs_base.proofs.Lists.{any-map}
use Rattle.mcs_system.specs.Seen.{bridge_of}
use Rattle.mcs_writer.specs.Canonical.{is_marked}
use Rattle.mcs_writer.proofs.writer.version_line.Goals as goal

pub returns : goal.returns
returns c = c.text_if.ensures
    ∙ ap (λ v. cond v (codes "version 2.\n") []) (c.any_marked.ensures ∙ sym (any-map is_marked bridge_of c.bridges.result.now) ∙ ap (list_any is_marked) c.bridges.ensures.value)

use Rattle.std.proofs.Common.{◌≡◌, [], refl, inl, arith, rules}
use Rattle.mcs_ports.specs.PlainFiles.{bytes_at}
use Rattle.mcs_ports.proofs.FileLemmas.{bytes_at-past}
use Rattle.mcs_ports.proofs.memory_shelf.MemoryShelfShelf.open.Goals as goal

pub returns-then-names_call-clause-exactly : goal.returns-then-names_call-clause-exactly
returns-then-names_call-clause-exactly c =
    let found = rw (c.deref-2.ensures.value, c.saturating_add-call.ensures) at (c.if-names_call.ensures.0 refl) in
    let closed : bytes_at c.self.inside.files.items c.len-self-inside.result ≡ [] = bytes_at-past c.self.inside.files.items c.len-self-inside.result (omega (arith, c.len-self-inside.ensures, c.self.inside.files.ok.0)) in
    record {
      fails = (λ _. inl (rw (← c.self.view_is) found), λ _. refl);
      ok = tt;
      err = rw (← c.self.view_is, c.saturating_add-call.ensures, c.saturating_add-self-inside-then-names_call.ensures, c.saturating_add-self-inside-then-names_call-2.ensures, closed) refl;
      failed = search rules;
    }

-- The clauses of the denials that a formula begins with.
use Rattle.std.specs.Prelude.{ℕ, ◌+◌, ◌++◌}
use Rattle.mcs_system.specs.Plain.{Formula, Truth, Falsity, Atom, Not, Joined}
use Rattle.mcs_trace.specs.Clauses.{ClauseList}
use Rattle.mcs_cnf.specs.ClauseLists.{not_clauses}

-- the list after an occurrence of each of them, and the number of the last one; x is the number of what they deny
abbrev pub denials_added : Formula → ClauseList → ℕ → ClauseList × ℕ
denials_added Truth c x = (c, x)
denials_added Falsity c x = (c, x)
denials_added (Atom n) c x = (c, x)
denials_added (Not f) c x = denials_added f (record { vars = c.vars + 1; clauses = c.clauses ++ not_clauses (c.vars + 1) x }) (c.vars + 1)
denials_added (Joined _ f g) c x = (c, x)

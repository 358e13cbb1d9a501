-- What walks over bridge rules find: at least all that there is, unless that is too much.
use Rattle.std.specs.Prelude.{ℕ, ◌≤◌, nat_eq, cond, List, [], ◌++◌, map, length, slice_get}
use Rattle.std.specs.List.{flat_map}
use Rattle.mcs_base.specs.Listings.{IsAmong}
use Rattle.mcs_system.specs.Plain.{Name, Context, Read, Bridge}
use Rattle.mcs_system.specs.Seen.{read_of}
use Rattle.mcs_system.specs.Atoms.{own_atoms}
use Rattle.mcs_system.specs.Gathered.{head_atoms, belief_atoms}
use Rattle.mcs_system.specs.Faults.{reads_of}
use Rattle.mcs_script.specs.declared.share.Share.{Share}

module _ {A : Type 0} where
  -- all of the first list are in the second
  abbrev pub AreAmong : List A → List A → Type 0
  AreAmong xs ys = (x : A) → IsAmong x xs → IsAmong x ys

  -- all of them are found, unless more than 64 are
  abbrev pub AreFound : List A → List A → Type 0
  AreFound xs found = length found ≤ 64 → AreAmong xs found

  -- a walk found these too
  pub record Finds (before after xs : List A) : Type 0 where
    pub kept : AreAmong before after
    pub longer : length before ≤ length after
    pub all : AreFound xs after

-- ---- what a rule has for context i
-- its reads, if it goes there
abbrev pub inputs_by : ℕ → Bridge → List Read
inputs_by i b = cond (nat_eq b.target i) (reads_of b) []

-- the atoms of its head, if it goes there, and of the beliefs that it reads there
abbrev pub atoms_by : ℕ → Bridge → List Name
atoms_by i b = head_atoms i b ++ flat_map (belief_atoms i) (reads_of b)

-- what is found of a context, the rules being these
pub record IsShare (i : ℕ) (contexts : List Context) (rules : List Bridge) (s : Share) : Type 0 where
  pub inputs : AreFound (flat_map (inputs_by i) rules) (map read_of s.inputs.items)
  pub atoms : AreFound (own_atoms (slice_get contexts i) ++ flat_map (atoms_by i) rules) s.atoms.items

-- more is found, by these rules
pub record FindsMore (i : ℕ) (rules : List Bridge) (before after : Share) : Type 0 where
  pub inputs : Finds (map read_of before.inputs.items) (map read_of after.inputs.items) (flat_map (inputs_by i) rules)
  pub atoms : Finds before.atoms.items after.atoms.items (flat_map (atoms_by i) rules)

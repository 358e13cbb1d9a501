mod SolverLemmas
mod NameLemmas

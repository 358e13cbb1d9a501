pub mod Canonical

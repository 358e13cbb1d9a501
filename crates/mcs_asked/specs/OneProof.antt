-- That items and rules are over names has at most one proof, as a fact that a struct keeps must.
pub use Rattle.mcs_evidence.specs.OneProof.{AreOverItems-prop, AreOverDefaults-prop, SameDefaults-prop, AreNamesOf-prop, AreOverRules-prop}

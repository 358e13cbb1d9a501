-- What a certificate shows of a question.
use Rattle.std.specs.Prelude.{ℕ, List, map}
use Rattle.mcs_system.specs.Logic.{with_heads}
use Rattle.mcs_system.specs.Seen.{formula_of, kb_of}
use Rattle.mcs_asked.specs.Questions.{asked_beliefs}
use Rattle.mcs_asking.specs.Certificates.{Certificate, IsAcceptedFor}
use Rattle.mcs_certificate.specs.declared.question.Question as question

-- exactly these views
abbrev pub AreViewsShown : question.Question → List ℕ → Certificate → Type 0
AreViewsShown q views cert = IsAcceptedFor q.asked.now.atoms.now (with_heads (kb_of q.kb.now) (map (λ f. formula_of f.now) q.heads.now)) (asked_beliefs q.asked.now) views cert

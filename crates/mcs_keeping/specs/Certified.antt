-- Certificates where they are wanted.
use Rattle.std.specs.Prelude.{◌≡◌, Bool, true, false, Option, Some, None}
use Rattle.mcs_asking.specs.Certificates.{Certificate, plain_of}
use Rattle.mcs_asking.specs.declared.certificate.AnswerCert as code

-- there is a certificate exactly where one is wanted, and it is one of those that show something
abbrev pub IsCertified : Bool → (Certificate → Type 0) → Option code.AnswerCert → Type 0
IsCertified wanted Shows None = wanted ≡ false
IsCertified wanted Shows (Some cert) = (wanted ≡ true) × Shows (plain_of cert)

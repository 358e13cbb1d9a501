use Rattle.std.proofs.lemmas.Bool.Decides.{Decides-eqb}
use Rattle.std.proofs.lemmas.Slice.Eq.{starts_is}
use Rattle.mcs_tokens.proofs.sign.begins_with.Goals as goal

pub returns : goal.returns
returns c =
    let both = starts_is Decides-eqb c.args.text.now c.args.part.now _ c.starts_with.ensures.value in
    (λ h. (_, both.0 h), λ b. both.1 b.0 b.1)

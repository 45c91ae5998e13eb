use Rattle.std.proofs.Common.{Some}
use Rattle.std.proofs.lemmas.Slice.Eq.{strip_prefix_is}
use Rattle.std.proofs.lemmas.Bool.Decides.{Decides-eqb}
use Rattle.certificate.proofs.sources.Source.after_line.Goals as goal

pub returns-clause-bytes : goal.returns-clause-bytes
returns-clause-bytes c =
    strip_prefix_is Decides-eqb c.args.self.now.rest.now c.args.bytes.now (Some c.in_ok-rest.rest) c.in_ok-rest.ensures.cases

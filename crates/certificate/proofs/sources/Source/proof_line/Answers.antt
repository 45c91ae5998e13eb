use Rattle.std.proofs.Common.{refl}
use Rattle.certificate.specs.Places.{place}
use Rattle.certificate.specs.Proofs.{proof_tree}
use Rattle.certificate.specs.Reader.{line_at}
use Rattle.certificate.proofs.LineLemmas.{line_shortens}
use Rattle.certificate.proofs.sources.Source.proof_line.Goals as goal

pub returns-clause-less : goal.returns-clause-less
unfolding line_at
returns-clause-less c =
    line_shortens (place c.args.self.now) (proof_tree c.in_ok-proof.proof, place c.this.new.self) (rw (c.in_ok-proof.ensures, c.in_ok-this.ensures.read) refl)

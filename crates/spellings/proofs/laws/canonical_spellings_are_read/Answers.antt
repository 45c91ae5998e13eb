use Rattle.spellings.proofs.CanonicalSpelling.{spelled}
use Rattle.spellings.proofs.laws.canonical_spellings_are_read.Goals as goal

pub returns : goal.returns
returns c = spelled

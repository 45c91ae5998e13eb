use Rattle.std.proofs.Common.{◌≡◌}
use Rattle.certificate.specs.Places.{place, unread}
use Rattle.certificate.specs.Reader.{symbols_at, wire_at}
use Rattle.certificate.proofs.sources.Source.wire.Given as goal

-- what is left is read as all is
abbrev pub invariant-symbols : goal.invariant-symbols
invariant-symbols l = symbols_at l.wire.items l.self.line l.self.rest.now ≡ wire_at (place l.fn.self)

abbrev pub decreases-symbols : goal.decreases-symbols
decreases-symbols l = unread l.self

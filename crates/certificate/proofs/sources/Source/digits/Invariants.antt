use Rattle.std.proofs.Common.{◌≡◌}
use Rattle.certificate.specs.Places.{unread}
use Rattle.certificate.specs.Reader.{digits_at}
use Rattle.certificate.proofs.sources.Source.digits.Given as goal

-- what is left is read as all is
abbrev pub invariant-digits : goal.invariant-digits
invariant-digits l =
    digits_at l.number l.end l.self.line l.self.rest.now ≡ digits_at l.initial.number l.end l.initial.self.line l.initial.self.rest.now

abbrev pub decreases-digits : goal.decreases-digits
decreases-digits l = unread l.self

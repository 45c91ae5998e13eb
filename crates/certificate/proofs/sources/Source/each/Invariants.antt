use Rattle.std.proofs.Common.{◌≡◌, ◌≤◌, drop}
use Rattle.certificate.specs.Places.{place, unread}
use Rattle.certificate.specs.Reader.{each_at}
use Rattle.certificate.proofs.sources.Source.each.Given as goal

-- the bytes that are left are read as all are
abbrev pub invariant-loop-byte : goal.invariant-loop-byte
invariant-loop-byte l = record {
  reads : each_at (drop l.byte-index l.bytes) (place l.self) ≡ each_at l.bytes (place l.initial.self);
  left : unread l.self ≤ unread l.initial.self;
}

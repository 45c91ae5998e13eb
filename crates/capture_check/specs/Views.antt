-- What the values that go on from sample to sample, and from event to event, stand for.
use Rattle.std.specs.Prelude.{Option, Some, None}
use Rattle.capture_check.specs.declared.watching.Watch.{Watch}
use Rattle.capture_check.specs.declared.listening.Listener.{Listener}
use Rattle.capture_check.specs.declared.listening.Heard.{Heard}
use Rattle.capture_check.specs.declared.listening.Heard.TheVariants as heard
use Rattle.capture_check.specs.declared.listening.Transaction.{Transaction}
use Rattle.capture_check.specs.declared.following.Follower.{Follower}
use Rattle.capture_check.specs.Events.{Seen}
use Rattle.capture_check.specs.Following.{Place}
use Rattle.capture_check.specs.Transactions.{Bus, unknown, free, busy, Recorded}

abbrev pub seen_of : Watch → Seen
seen_of watch = record { lines = watch.lines; moved = watch.moved }

abbrev pub bus_in : Heard → Bus
bus_in heard.Unknown = unknown
bus_in heard.Free = free
bus_in (heard.Busy from marks) = busy from marks.items

abbrev pub bus_of : Listener → Bus
bus_of listener = bus_in listener.heard

abbrev pub place_of : Follower → Place
place_of follower = record { seen = seen_of follower.watch; bus = bus_of follower.listener }

abbrev pub recorded : Transaction → Recorded
recorded t = record { from = t.from; until = t.until; marks = t.marks.items }

abbrev pub recorded_option : Option Transaction → Option Recorded
recorded_option (Some t) = Some (recorded t)
recorded_option None = None

-- What a sink of transactions says of itself, and what calls to it have done.
use Rattle.std.specs.Prelude.{List, [], ◌++◌}
use Rattle.capture_check.specs.Transactions.{Recorded}
use Rattle.run_parts.specs.declared.errors.RunError.{RunError}

-- what is known of a sink of this type
pub record Sink (D : Type 0) : Type 1 where
  -- a call takes these transactions, and goes from the first state to the second
  pub takes : D → List Recorded → D → Type 0
  -- a call with these transactions answers an error, and goes from the first state to the second
  pub stops : D → List Recorded → RunError → D → Type 0

module _ {D : Type 0} (sink : Sink D) (start : D) where
  -- the calls from `start` on have taken these transactions, in order
  pub data HasTaken : List Recorded → D → Type 0 where
    no_call : HasTaken [] start
    next_call : {ts more : List Recorded} {before after : D} →
        HasTaken ts before →
        sink.takes before more after →
        HasTaken (ts ++ more) after

-- a sink of which nothing is known
abbrev pub any_sink : {D : Type 0} → Sink D
any_sink = record { takes = λ before ts after. Unit {0}; stops = λ before ts error after. Unit {0} }

-- What is known of a reader of one of two kinds: what is known of that kind.
use Rattle.std.specs.Prelude.{ℕ, Bool, List, Option}
use Rattle.run_parts.specs.declared.devices.opened.Opened.{Opened}
use Rattle.run_parts.specs.declared.devices.opened.Opened.TheVariants.{File, Standard}
use Rattle.run_parts.specs.Devices.{Reader}

module _ {F S : Type 0} (file : Reader F) (standard : Reader S) where
  abbrev pub opened_remaining : Opened F S → Option (List ℕ)
  opened_remaining (File f) = file.remaining f
  opened_remaining (Standard s) = standard.remaining s

  abbrev pub opened_has_failed : Opened F S → Bool
  opened_has_failed (File f) = file.has_failed f
  opened_has_failed (Standard s) = standard.has_failed s

  -- a read leaves the kind as it is
  abbrev pub opened_gives : Opened F S → ℕ → Option (List ℕ) → Opened F S → Type 0
  opened_gives (File before) room given (File after) = file.gives before room given after
  opened_gives (Standard before) room given (Standard after) = standard.gives before room given after
  opened_gives _ room given _ = ⊥

  abbrev pub opened_reader : Reader (Opened F S)
  opened_reader = record { remaining = opened_remaining; has_failed = opened_has_failed; gives = opened_gives }

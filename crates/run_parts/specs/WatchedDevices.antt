-- What is known of a device that remembers whether it failed.
use Rattle.std.specs.Prelude.{◌≡◌, ℕ, List, Option, is_none}
use Rattle.run_parts.specs.declared.devices.watched.Watched.{Watched}
use Rattle.run_parts.specs.Devices.{Reader, Writer}

-- the bytes are those of the device; a read that answers an error is remembered up to the next read
abbrev pub watched_reader : {R : Type 0} → (R → Option (List ℕ)) → Reader (Watched R)
watched_reader remaining = record {
  remaining = λ s. remaining s.device;
  has_failed = λ s. s.failed;
  gives = λ before room given after. after.failed ≡ is_none given;
}

abbrev pub watched_writer : {W : Type 0} → (W → Option (List ℕ)) → Writer (Watched W)
watched_writer contents = record {
  contents = λ s. contents s.device;
  has_failed = λ s. s.failed;
  takes = λ before bytes taken after. after.failed ≡ is_none taken;
}

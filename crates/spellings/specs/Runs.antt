-- Equal data bytes that are not written yet, as the writer keeps them. Only private contracts and proofs use this.
use Rattle.std.specs.Prelude.{Option}
use Rattle.std.specs.Option.{option_map}
use Rattle.spellings.specs.declared.writing.Run as kept
use Rattle.spellings.specs.Writing.{Run}

abbrev pub run_of : kept.Run → Run
run_of run = (run.bits, run.length)

abbrev pub run_before : Option kept.Run → Option Run
run_before run = option_map run_of run

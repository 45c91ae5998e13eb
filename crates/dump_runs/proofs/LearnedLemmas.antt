-- What is written of what was learned.
use Rattle.std.proofs.Common.{◌≡◌, Result, Ok, Err, IfOk, OnOk, string_bytes}
use Rattle.lessons.specs.declared.checking.Learned.{Learned}
use Rattle.run_parts.specs.Devices.{Writer}
use Rattle.run_parts.specs.Writing.{WritesAll}
use Rattle.run_parts.specs.declared.errors.RunError.{RunError}
use Rattle.run_parts.specs.declared.runs.Status.{Status}

pub wrote_learned : {O : Type 0} (writer : Writer O) (before now : O) (Holds : Learned → Type 0) (learned : Learned) (r : Result Status RunError) → Holds learned → IfOk r (λ it. it ≡ learned.status) → OnOk r (WritesAll writer before (string_bytes learned.brief) now) → IfOk r (λ it. (learned : Learned) × Holds learned × (it ≡ learned.status) × WritesAll writer before (string_bytes learned.brief) now)
wrote_learned writer before now Holds learned (Ok it) holds same written = (learned, holds, same, written)
wrote_learned writer before now Holds learned (Err e) holds same written = tt

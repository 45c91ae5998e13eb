use Rattle.std.proofs.Common.{◌≡◌, ◌++◌, map, take}
use Rattle.std.specs.Prelude.{string_bytes}
use Rattle.std.specs.List.{flat_map}
use Rattle.certificate.specs.Proofs.{proof_tree}
use Rattle.certificate.specs.Texts.{proof_line}
use Rattle.certificate.proofs.print.lines.Given as goal

abbrev pub invariant-loop-proof : goal.invariant-loop-proof
invariant-loop-proof l = string_bytes l.text ≡ string_bytes l.initial.text ++ flat_map proof_line (map proof_tree (take l.proof-index l.proofs))

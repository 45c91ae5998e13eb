use Rattle.std.proofs.Common.{◌≡◌, ◌++◌, drop, string_bytes}
use Rattle.byte_lines.specs.Bytes.{marks_text}
use Rattle.byte_lines.proofs.bytes.push_bytes.Given as goal

-- the text so far and that of what is left are all of it
abbrev pub invariant-loop-mark : goal.invariant-loop-mark
invariant-loop-mark l =
    string_bytes l.text ++ marks_text l.byte.is_address l.byte.bits.items (drop l.mark-index l.marks)
    ≡ string_bytes l.initial.text ++ marks_text l.initial.byte.is_address l.initial.byte.bits.items l.marks

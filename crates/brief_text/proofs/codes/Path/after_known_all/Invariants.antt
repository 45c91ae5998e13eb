use Rattle.std.proofs.Common.{◌≡◌, Some}
use Rattle.message_tree.specs.Patterns.{pattern_bits}
use Rattle.message_tree.specs.declared.bits.Pattern.{Pattern}
use Rattle.brief_text.specs.Codes.{times_after}
use Rattle.brief_text.specs.Words.{known_number}
use Rattle.brief_text.proofs.codes.Path.after_known_all.Given as goal

abbrev pub invariant-loop : goal.invariant-loop
invariant-loop l = (bits : Pattern) → known_number 0 (pattern_bits bits) ≡ Some l.byte → l.path ≡ times_after l.counter bits l.fn.self

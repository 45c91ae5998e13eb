use Rattle.std.proofs.Common.{◌≡◌, ◌++◌, drop}
use Rattle.verdicts.specs.Texts.{lines_after_head, text_of, joined}
use Rattle.verdicts.proofs.texts.CertificateLines.joined.Given as goal

-- the text so far and the lines of what is left are the whole
abbrev pub invariant-loop-k : goal.invariant-loop-k
invariant-loop-k l = l.text.items ++ joined (drop l.k (lines_after_head l.self)) ≡ text_of l.self

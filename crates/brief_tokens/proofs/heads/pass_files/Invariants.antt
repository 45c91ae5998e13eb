use Rattle.std.proofs.Common.{◌≡◌}
use Rattle.brief_tokens.specs.Heads.{after_files}
use Rattle.brief_tokens.specs.Reading.{left, letters_of, token_count}
use Rattle.brief_tokens.proofs.heads.pass_files.Given as goal

abbrev pub invariant-loop-tokens : goal.invariant-loop-tokens
invariant-loop-tokens l = (after_files (left l.initial.tokens) ≡ after_files (left l.tokens)) × (letters_of l.tokens ≡ letters_of l.initial.tokens)

abbrev pub decreases-loop-tokens : goal.decreases-loop-tokens
decreases-loop-tokens l = token_count (left l.tokens)

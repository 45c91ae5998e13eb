-- What a function of the reader says of what stands after `*`.
-- Only private contracts and proofs use this.
use Rattle.plan_text.specs.Words.{number}
use Rattle.brief_text.specs.declared.words.Repetition.{Repetition}
use Rattle.brief_text.specs.declared.words.Repetition.TheVariants as repetitions
use Rattle.brief_text.specs.Words as spoken

-- what stands after `*`, as its digits write it
abbrev pub repetition_said : Repetition → spoken.Repetition
repetition_said (repetitions.Number n) = spoken.so_often (number n.word.now)
repetition_said (repetitions.Range least greatest) = spoken.from_to (number least.word.now) (number greatest.word.now)

use Rattle.std.proofs.Common.{sym, ap, ◌∙◌, inr, ℕ}
use Rattle.std.specs.Prelude.{Result, Ok, Err}
use Rattle.plan_text.specs.declared.errors.PlanError.{PlanError}
use Rattle.plan_text.specs.Places.{place}
use Rattle.plan_text.specs.Reader.{Place, ◌>>=◌, known_address_in}
use Rattle.plan_text.proofs.StepLemmas.{word_found, word_missed}
use Rattle.plan_text.proofs.ValueLemmas.{known_found, known_none}
use Rattle.plan_text.proofs.sources.Source.interrupt_address.Goals as goal

pub returns-in_default-known_address-clause-read : goal.returns-in_default-known_address-clause-read
returns-in_default-known_address-clause-read c =
    inr (ap (λ (r : Result (ℕ × ℕ × Place) PlanError). r >>= λ x. Ok (x.0, x.2)) (word_missed c.next-token.result (place c.args.self.now) (place c.next-token.new.self) c.next-token.ensures c.in-Word.word c.in-Word.is known_address_in (known_none c.in-Word.word.now (sym c.in_default-known_address.ensures.form))) ∙ ap (λ (e : PlanError). Err e) (sym c.unexpected-in_default-known_address.ensures))

pub returns-clause-read : goal.returns-clause-read
returns-clause-read c =
    ap (λ (r : Result (ℕ × ℕ × Place) PlanError). r >>= λ x. Ok (x.0, x.2)) (word_found c.next-token.result (place c.args.self.now) (place c.next-token.new.self) c.next-token.ensures c.in-Word.word c.in-Word.is known_address_in c.in-Some.address (known_found c.in-Word.word.now c.in-Some.address c.in-Some.ensures.bits.1 c.in-Some.ensures.bits.0))

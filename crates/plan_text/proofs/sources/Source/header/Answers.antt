use Rattle.std.proofs.Common.{sym, ap, ◌∙◌, inr}
use Rattle.std.specs.Prelude.{Err}
use Rattle.plan_text.specs.declared.errors.PlanError.{PlanError}
use Rattle.plan_text.specs.Places.{place}
use Rattle.plan_text.specs.Reader.{address_in}
use Rattle.plan_text.proofs.StepLemmas.{word_found, word_missed}
use Rattle.plan_text.proofs.ValueLemmas.{address_found, address_none}
use Rattle.plan_text.proofs.sources.Source.header.Goals as goal

pub returns-in_default-address : goal.returns-in_default-address
returns-in_default-address c =
    inr (word_missed c.next-token.result (place c.args.self.now) (place c.next-token.new.self) c.next-token.ensures c.in-Word.word c.in-Word.is address_in (address_none c.in-Word.word.now (sym c.in_default-address.ensures.form)) ∙ ap (λ (e : PlanError). Err e) (sym c.unexpected-in_default-address.ensures))

pub returns : goal.returns
returns c =
    word_found c.next-token.result (place c.args.self.now) (place c.next-token.new.self) c.next-token.ensures c.in-Word.word c.in-Word.is address_in c.in-Some.address (address_found c.in-Word.word.now c.in-Some.address c.in-Some.ensures.bits)

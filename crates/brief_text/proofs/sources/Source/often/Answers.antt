use Rattle.std.proofs.Common.{rules, ◌≡◌, ◌∙◌, ℕ, Some, sym, ap, subst}
use Rattle.std.specs.Option.{option_map}
use Rattle.plan_text.specs.Words.{number}
use Rattle.brief_tokens.specs.declared.symbols.Sign.TheVariants as signs
use Rattle.brief_tokens.specs.declared.symbols.Symbol.TheVariants as symbols
use Rattle.brief_text.specs.declared.words.Repetition.TheVariants as repetitions
use Rattle.brief_text.specs.Places.{Reads}
use Rattle.brief_text.specs.Reading.{repetition_said}
use Rattle.brief_text.specs.Words.{so_often}
use Rattle.brief_text.specs.Standing.{place, around, times_of, Gives}
use Rattle.brief_text.specs.Trees.{Times}
use Rattle.brief_text.proofs.StepLemmas.{often_word}
use Rattle.brief_text.proofs.sources.Source.often.Goals as goal

pub returns-in-Some-Number-clause-read : goal.returns-in-Some-Number-clause-read
returns-in-Some-Number-clause-read c =
    let g = around c.args.within in
    let star : c.args.self.now.token.symbol ≡ symbols.Sign signs.Star = first_of (cc, search rules) in
    let is : c.repetition_of.result ≡ Some (repetitions.Number c.in-Some-Number.number) = first_of (cc, search rules) in
    let said = sym c.repetition_of.ensures ∙ ap (option_map repetition_said) is in
    let step = often_word g c.args.room.bytes c.args.room.copies c.next-token.result c.next-token-2.result (place c.args.self.now) (place c.next-token.new.self) (place c.next-token-2.new.self)
    c.next-token.ensures.place (ap (λ t. t.symbol) c.next-token.ensures.first ∙ star) c.next-token-2.ensures.place c.in-Word.word c.in-Word.is (so_often (number c.in-Some-Number.number.word.now)) said in
    subst (λ (given : Reads (Times × ℕ)). Gives (λ it. (times_of it.often, it.more)) c.so_often.result given (place c.so_often.new.self)) (sym step) (c.so_often.ensures.read g)

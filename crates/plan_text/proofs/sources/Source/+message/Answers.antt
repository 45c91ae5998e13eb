use Rattle.std.proofs.Common.{rules, ◌≡◌, refl, subst, sym, ap, ◌∙◌, inr}
use Rattle.std.specs.Prelude.{Err}
use Rattle.message_tree.specs.Trees.{FrameTree, PayloadTree, frame_tree, payload_tree}
use Rattle.plan_text.specs.declared.errors.PlanError.{PlanError}
use Rattle.plan_text.specs.declared.symbols.Keyword.TheVariants as keywords
use Rattle.plan_text.specs.declared.symbols.Symbol.TheVariants as symbols
use Rattle.plan_text.specs.Places.{place, Gives}
use Rattle.plan_text.specs.Reader.{Reads}
use Rattle.plan_text.proofs.StepLemmas.{frame_writes, frame_reads, payload_by_byte, payload_found, payload_missed}
use Rattle.plan_text.proofs.ValueLemmas.{pattern_found, pattern_none}
use Rattle.plan_text.proofs.sources.Source.+message.Goals as goal

pub frame-returns-in-Keyword-Write : goal.frame-returns-in-Keyword-Write
frame-returns-in-Keyword-Write t c =
    let is : c.next-token.result.symbol ≡ symbols.Keyword keywords.Write = first_of (cc, search rules) in
    subst (λ (given : Reads FrameTree). Gives frame_tree c.write.result given (place c.write.new.self)) (sym (frame_writes c.next-token.result (place c.args.self.now) (place c.next-token.new.self) c.next-token.ensures c.args.room is)) c.write.ensures

pub frame-returns-in-Keyword-Read : goal.frame-returns-in-Keyword-Read
frame-returns-in-Keyword-Read t c =
    let is : c.next-token.result.symbol ≡ symbols.Keyword keywords.Read = first_of (cc, search rules) in
    subst (λ (given : Reads FrameTree). Gives frame_tree c.read.result given (place c.read.new.self)) (sym (frame_reads c.next-token.result (place c.args.self.now) (place c.next-token.new.self) c.next-token.ensures c.args.room is)) c.read.ensures

pub payload-returns-in-Some : goal.payload-returns-in-Some
payload-returns-in-Some t c =
    subst (λ (given : Reads PayloadTree). Gives payload_tree c.byte.result given (place c.byte.new.self)) (sym (payload_by_byte c.args.room c.in-Some.byte.line c.in-Some.byte.bits (place c.args.self.now) _ c.in-Some.ensures refl)) c.byte.ensures

pub payload_by_token-returns-in_default-pattern : goal.payload_by_token-returns-in_default-pattern
payload_by_token-returns-in_default-pattern t c =
    inr (payload_missed c.next-token.result (place c.args.self.now) (place c.next-token.new.self) c.next-token.ensures c.in-Word.word c.in-Word.is c.args.room (pattern_none c.in-Word.word.now (sym c.in_default-pattern.ensures.form)) ∙ ap (λ (e : PlanError). Err e) (sym c.unexpected.ensures))

pub payload_by_token-returns-in-Some : goal.payload_by_token-returns-in-Some
payload_by_token-returns-in-Some t c =
    subst (λ (given : Reads PayloadTree). Gives payload_tree c.byte.result given (place c.byte.new.self)) (sym (payload_found c.next-token.result (place c.args.self.now) (place c.next-token.new.self) c.next-token.ensures c.in-Word.word c.in-Word.is c.args.room c.in-Some.bits (pattern_found c.in-Word.word.now c.in-Some.bits c.in-Some.ensures.bits))) c.byte.ensures

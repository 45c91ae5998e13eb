use Rattle.std.proofs.Common.{rules, ◌≡◌, ◌≢◌, ap, sym, ◌∙◌, subst, add-one}
use Rattle.std.specs.Prelude.{Ok}
use Rattle.std.proofs.lemmas.Result.{err_from_is_err_and}
use Rattle.plan_text.specs.Places.{Refuses}
use Rattle.plan_text.specs.Reader.{◌>>=◌}
use Rattle.brief_tokens.specs.declared.symbols.Keyword.TheVariants as keywords
use Rattle.brief_tokens.specs.declared.symbols.Symbol.TheVariants as symbols
use Rattle.message_tree.specs.declared.bits.Pattern.{Pattern}
use Rattle.brief_text.specs.Places.{Reads}
use Rattle.brief_tokens.specs.Reading.{left}
use Rattle.brief_text.specs.Standing.{place, around, said, made_of, opening_of, times_of, brief_frame, brief_bytes, brief_tail, Gives, byte_after}
use Rattle.brief_text.specs.Trees.{BriefFrame, BriefBytes, data_byte, made_byte, spelled}
use Rattle.brief_text.proofs.StepLemmas.{frames_write, frames_read, byte_steps, made_steps}
use Rattle.brief_text.proofs.FrontLemmas.{word_is_data, payload_data, payload_made, made_first, is_wr, is_rd, is_pec, is_sum, is_span, but_first, no_but_first, any_but, any_data}
use Rattle.brief_text.proofs.WordLemmas.{any_is}
use Rattle.brief_text.proofs.ValueLemmas.{refuses_on}
use Rattle.brief_text.proofs.sources.Source.+message.Goals as goal

pub frames-returns-in-Keyword-Write : goal.frames-returns-in-Keyword-Write
frames-returns-in-Keyword-Write t c =
    let is : c.next-token.result.symbol ≡ symbols.Keyword keywords.Write = first_of (cc, search rules) in
    subst (λ (given : Reads BriefFrame). Gives brief_frame c.write.result given (place c.write.new.self)) (sym (frames_write c.next-token.result (place c.args.self.now) (place c.next-token.new.self) c.next-token.ensures.place (around c.args.within) c.args.room.bytes c.args.room.copies is)) c.write.ensures

pub frames-returns-in-Keyword-Read : goal.frames-returns-in-Keyword-Read
frames-returns-in-Keyword-Read t c =
    let is : c.next-token.result.symbol ≡ symbols.Keyword keywords.Read = first_of (cc, search rules) in
    subst (λ (given : Reads BriefFrame). Gives brief_frame c.read.result given (place c.read.new.self)) (sym (frames_read c.next-token.result (place c.args.self.now) (place c.next-token.new.self) c.next-token.ensures.place (around c.args.within) c.args.room.bytes c.args.room.copies is)) c.read.ensures

pub byte-returns-in_err-acked : goal.byte-returns-in_err-acked
byte-returns-in_err-acked t c =
    let p = err_from_is_err_and c.from_residual-in_err-acked.result c.from_residual-in_err-acked.ensures.1 in
    let more = c.in_ok-repeated.repeated.more in
    let often = times_of c.in_ok-repeated.repeated.often in
    let bits = said c.args.«data».value in
    let refused = brief_tail c.in_ok-refused.refused in
    let steps = byte_steps (around c.args.within) c.args.room.bytes c.args.room.copies more often (place c.args.self.now) (place c.node.new.self) (place c.often.new.self) (place c.refused.new.self) bits c.args.«data».line c.in_ok-first.first.bytes refused
    c.in_ok-first.ensures.read c.in_ok-first.first.copies _ c.in_ok-first.ensures.copies.0 (add-one more) c.in_ok-repeated.ensures.read c.in_ok-refused.ensures in
    rw (p.1, p.2) (subst (λ (r : Reads BriefBytes). Refuses r c.in_err-acked.field-0.0) (sym steps) (refuses_on _ (λ acked. Ok (data_byte bits often refused acked.0, acked.1)) c.in_err-acked.field-0.0 c.in_err-acked.ensures))

pub byte-returns : goal.byte-returns
byte-returns t c =
    let more = c.in_ok-repeated.repeated.more in
    let often = times_of c.in_ok-repeated.repeated.often in
    let bits = said c.args.«data».value in
    let refused = brief_tail c.in_ok-refused.refused in
    let steps = byte_steps (around c.args.within) c.args.room.bytes c.args.room.copies more often (place c.args.self.now) (place c.node.new.self) (place c.often.new.self) (place c.refused.new.self) bits c.args.«data».line c.in_ok-first.first.bytes refused
    c.in_ok-first.ensures.read c.in_ok-first.first.copies _ c.in_ok-first.ensures.copies.0 (add-one more) c.in_ok-repeated.ensures.read c.in_ok-refused.ensures in
    let boxed : brief_bytes c.in_ok-new.field-0.value ≡ brief_bytes c.in_ok-acked.acked = ap brief_bytes (search rules) in
    steps ∙ ap (λ (r : Reads BriefBytes). r >>= λ acked. Ok (data_byte bits often refused acked.0, acked.1)) c.in_ok-acked.ensures ∙ ap (λ (p : BriefBytes). Ok (data_byte bits often refused p, place c.payload.new.self)) (sym boxed)

pub payload-returns-in-Word : goal.payload-returns-in-Word
payload-returns-in-Word t c =
    let token = c.args.self.now.token in
    let first = word_is_data token.line (left c.args.self.now.tokens) token.symbol c.in-Word.field-0 c.in-Word.is in
    subst (λ (given : Reads BriefBytes). Gives brief_bytes c.bytes.result given (place c.bytes.new.self)) (sym (payload_data (around c.args.within) c.args.room.bytes c.args.room.copies (place c.args.self.now) first.0 first.1)) c.bytes.ensures

pub made-returns-in_err-acked : goal.made-returns-in_err-acked
made-returns-in_err-acked t c =
    let p = err_from_is_err_and c.from_residual-in_err-acked.result c.from_residual-in_err-acked.ensures.1 in
    let made = made_of c.in_ok-made.made in
    let refused = brief_tail c.in_ok-refused.refused in
    let steps = made_steps (around c.args.within) c.args.room.bytes c.args.room.copies (place c.args.self.now) (place c.node.new.self) (place c.rest.new.self) (place c.refused.new.self) (opening_of c.args.opening.value) c.args.opening.line c.in_ok-below.below.bytes made refused
    c.in_ok-below.ensures.read c.in_ok-made.ensures c.in_ok-below.below.copies c.in_ok-below.ensures.copies.0 c.in_ok-refused.ensures in
    rw (p.1, p.2) (subst (λ (r : Reads BriefBytes). Refuses r c.in_err-acked.field-0.0) (sym steps) (refuses_on _ (λ acked. Ok (made_byte made refused acked.0, acked.1)) c.in_err-acked.field-0.0 c.in_err-acked.ensures))

pub made-returns : goal.made-returns
made-returns t c =
    let made = made_of c.in_ok-made.made in
    let refused = brief_tail c.in_ok-refused.refused in
    let steps = made_steps (around c.args.within) c.args.room.bytes c.args.room.copies (place c.args.self.now) (place c.node.new.self) (place c.rest.new.self) (place c.refused.new.self) (opening_of c.args.opening.value) c.args.opening.line c.in_ok-below.below.bytes made refused
    c.in_ok-below.ensures.read c.in_ok-made.ensures c.in_ok-below.below.copies c.in_ok-below.ensures.copies.0 c.in_ok-refused.ensures in
    let boxed : brief_bytes c.in_ok-new.field-0.value ≡ brief_bytes c.in_ok-acked.acked = ap brief_bytes (search rules) in
    steps ∙ ap (λ (r : Reads BriefBytes). r >>= λ acked. Ok (made_byte made refused acked.0, acked.1)) c.in_ok-acked.ensures ∙ ap (λ (p : BriefBytes). Ok (made_byte made refused p, place c.payload.new.self)) (sym boxed)

pub payload-returns-in-Keyword-Wr : goal.payload-returns-in-Keyword-Wr
payload-returns-in-Keyword-Wr t c =
    let token = c.args.self.now.token in
    let is : token.symbol ≡ symbols.Keyword keywords.Wr = first_of (cc, search rules) in
    let first = made_first token.line (left c.args.self.now.tokens) token.symbol (is_wr is) in
    subst (λ (given : Reads BriefBytes). Gives brief_bytes c.mades.result given (place c.mades.new.self)) (sym (payload_made (around c.args.within) c.args.room.bytes c.args.room.copies (place c.args.self.now) first)) c.mades.ensures

pub payload-returns-in-Keyword-Rd : goal.payload-returns-in-Keyword-Rd
payload-returns-in-Keyword-Rd t c =
    let token = c.args.self.now.token in
    let is : token.symbol ≡ symbols.Keyword keywords.Rd = first_of (cc, search rules) in
    let first = made_first token.line (left c.args.self.now.tokens) token.symbol (is_rd is) in
    subst (λ (given : Reads BriefBytes). Gives brief_bytes c.mades-in-Keyword-Rd.result given (place c.mades-in-Keyword-Rd.new.self)) (sym (payload_made (around c.args.within) c.args.room.bytes c.args.room.copies (place c.args.self.now) first)) c.mades-in-Keyword-Rd.ensures

pub payload-returns-in-Keyword-Pec : goal.payload-returns-in-Keyword-Pec
payload-returns-in-Keyword-Pec t c =
    let token = c.args.self.now.token in
    let is : token.symbol ≡ symbols.Keyword keywords.Pec = first_of (cc, search rules) in
    let first = made_first token.line (left c.args.self.now.tokens) token.symbol (is_pec is) in
    subst (λ (given : Reads BriefBytes). Gives brief_bytes c.mades-in-Keyword-Pec.result given (place c.mades-in-Keyword-Pec.new.self)) (sym (payload_made (around c.args.within) c.args.room.bytes c.args.room.copies (place c.args.self.now) first)) c.mades-in-Keyword-Pec.ensures

pub payload-returns-in-Keyword-Sum : goal.payload-returns-in-Keyword-Sum
payload-returns-in-Keyword-Sum t c =
    let token = c.args.self.now.token in
    let is : token.symbol ≡ symbols.Keyword keywords.Sum = first_of (cc, search rules) in
    let first = made_first token.line (left c.args.self.now.tokens) token.symbol (is_sum is) in
    subst (λ (given : Reads BriefBytes). Gives brief_bytes c.mades-in-Keyword-Sum.result given (place c.mades-in-Keyword-Sum.new.self)) (sym (payload_made (around c.args.within) c.args.room.bytes c.args.room.copies (place c.args.self.now) first)) c.mades-in-Keyword-Sum.ensures

pub payload-returns-in-Span : goal.payload-returns-in-Span
payload-returns-in-Span t c =
    let token = c.args.self.now.token in
    let first = made_first token.line (left c.args.self.now.tokens) token.symbol (is_span c.in-Span.least c.in-Span.greatest c.in-Span.is) in
    subst (λ (given : Reads BriefBytes). Gives brief_bytes c.mades-in-Span.result given (place c.mades-in-Span.new.self)) (sym (payload_made (around c.args.within) c.args.room.bytes c.args.room.copies (place c.args.self.now) first)) c.mades-in-Span.ensures

pub any-returns-in-Keyword-But : goal.any-returns-in-Keyword-But
any-returns-in-Keyword-But t c =
    let token = c.next-line.new.self.token in
    let any : c.next-line.result.symbol ≡ symbols.Keyword keywords.Any = ap (λ k. k.symbol) c.next-line.ensures.first ∙ c.requires in
    let is : token.symbol ≡ symbols.Keyword keywords.But = first_of (cc, search rules) in
    let but = but_first token.line (left c.next-line.new.self.tokens) token.symbol is in
    let steps = any_but c.next-line.result (place c.args.self.now) (place c.next-line.new.self) c.next-line.ensures.place (around c.args.within) c.args.room.bytes c.args.room.copies any but in
    subst (λ (given : Reads BriefBytes). Gives brief_bytes c.made.result given (place c.made.new.self)) (sym steps) c.made.ensures

pub any-returns-in_default : goal.any-returns-in_default
any-returns-in_default t c =
    let g = around c.args.within in
    let token = c.next-line.new.self.token in
    let after = place c.next-line.new.self in
    let any : c.next-line.result.symbol ≡ symbols.Keyword keywords.Any = ap (λ k. k.symbol) c.next-line.ensures.first ∙ c.requires in
    let is : token.symbol ≢ symbols.Keyword keywords.But = search rules in
    let none = no_but_first token.line (left c.next-line.new.self.tokens) token.symbol is in
    let steps = any_data c.next-line.result (place c.args.self.now) after c.next-line.ensures.place g c.args.room.bytes c.args.room.copies any none in
    let same = ap (λ (p : Pattern). byte_after g c.args.room.bytes c.args.room.copies (spelled p) c.next-line.result.line after) (any_is c.new.result c.new.ensures) in
    subst (λ (given : Reads BriefBytes). Gives brief_bytes c.byte.result given (place c.byte.new.self)) (sym (steps ∙ same)) c.byte.ensures

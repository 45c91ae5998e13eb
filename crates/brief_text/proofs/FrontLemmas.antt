-- What stands first by its symbol, and how the rest of a payload is read by it.
use Rattle.std.proofs.Common.{◌≡◌, ◌≢◌, ℕ, List, Bor, true, false, ◌⊎◌, inl, inr, refl, ap, ◌∙◌}
use Rattle.std.specs.Prelude.{Ok}
use Rattle.plan_text.proofs.StepLemmas.{same_after}
use Rattle.plan_text.specs.Reader.{◌>>=◌}
use Rattle.brief_tokens.specs.Reading.{with_symbol}
use Rattle.brief_tokens.specs.Tokens.{Tokens}
use Rattle.brief_tokens.specs.declared.symbols.Keyword.TheVariants as keywords
use Rattle.brief_tokens.specs.declared.symbols.Sign.TheVariants as signs
use Rattle.brief_tokens.specs.declared.symbols.Symbol.{Symbol}
use Rattle.brief_tokens.specs.declared.symbols.Symbol.TheVariants as symbols
use Rattle.brief_tokens.specs.declared.symbols.Token as seen
use Rattle.brief_text.specs.Drafts.{Draft}
use Rattle.brief_text.specs.Frames.{Around, Frames, frames_by, next_from, refused_from, often_from, begins_data, begins_but, begins_made, opens_but, opening_at, last_by, frame_in}
use Rattle.brief_text.specs.Places.{Place, data_at}
use Rattle.brief_text.specs.Standing.{before, payload_at, byte_after, bytes_at, made_after, mades_at}
use Rattle.brief_text.specs.Trees.{spelled, times, stop_here, go_on}
use Rattle.brief_text.specs.Words.{any_byte}
use Rattle.brief_text.proofs.StepLemmas.{byte_in_is, made_in_is, by_symbol}

-- ---- by the symbol that stands first, where it stays

module _ (g : Draft) (frames : Frames) (line : ℕ) (rest : Tokens) (at : Place) where
  pub no_frame : (s : Symbol) → s ≢ symbols.Keyword keywords.Write → s ≢ symbols.Keyword keywords.Read → next_from g frames (with_symbol s line rest) at ≡ Ok (stop_here, at)
  no_frame (symbols.Keyword keywords.Write) a b = absurd (a refl)
  no_frame (symbols.Keyword keywords.Read) a b = absurd (b refl)
  no_frame (symbols.Keyword k) a b = refl
  no_frame (symbols.Word w) a b = refl
  no_frame (symbols.Sign s) a b = refl
  no_frame (symbols.Quoted q) a b = refl
  no_frame (symbols.Span l u) a b = refl
  no_frame symbols.Stray a b = refl
  no_frame symbols.Foreign a b = refl
  no_frame symbols.End a b = refl

  pub further_frame : (s : Symbol) → (s ≡ symbols.Keyword keywords.Write) ⊎ (s ≡ symbols.Keyword keywords.Read) → next_from g frames (with_symbol s line rest) at ≡ (frames_by g frames at >>= λ frame. Ok (go_on frame.0, frame.1))
  further_frame s (inl e) = ap (λ (k : Symbol). next_from g frames (with_symbol k line rest) at) e
  further_frame s (inr e) = ap (λ (k : Symbol). next_from g frames (with_symbol k line rest) at) e

  pub no_else : (s : Symbol) → s ≢ symbols.Keyword keywords.Else → refused_from g frames (with_symbol s line rest) at ≡ Ok (stop_here, at)
  no_else (symbols.Keyword keywords.Else) a = absurd (a refl)
  no_else (symbols.Keyword k) a = refl
  no_else (symbols.Word w) a = refl
  no_else (symbols.Sign s) a = refl
  no_else (symbols.Quoted q) a = refl
  no_else (symbols.Span l u) a = refl
  no_else symbols.Stray a = refl
  no_else symbols.Foreign a = refl
  no_else symbols.End a = refl

pub no_star : (g : Around) (room copies line : ℕ) (rest : Tokens) (at : Place) (s : Symbol) → s ≢ symbols.Sign signs.Star → often_from g room copies (with_symbol s line rest) at ≡ Ok ((times 1, 0), at)
no_star g room copies line rest at (symbols.Sign signs.Star) a = absurd (a refl)
no_star g room copies line rest at (symbols.Sign s) a = refl
no_star g room copies line rest at (symbols.Keyword k) a = refl
no_star g room copies line rest at (symbols.Word w) a = refl
no_star g room copies line rest at (symbols.Quoted q) a = refl
no_star g room copies line rest at (symbols.Span l u) a = refl
no_star g room copies line rest at symbols.Stray a = refl
no_star g room copies line rest at symbols.Foreign a = refl
no_star g room copies line rest at symbols.End a = refl

pub no_data_first : (line : ℕ) (rest : Tokens) (s : Symbol) → ((w : Bor (List ℕ)) → s ≢ symbols.Word w) → s ≢ symbols.Keyword keywords.Any → begins_data (with_symbol s line rest) ≡ false
no_data_first line rest (symbols.Keyword keywords.Any) a b = absurd (b refl)
no_data_first line rest (symbols.Keyword k) a b = refl
no_data_first line rest (symbols.Word w) a b = absurd (a w refl)
no_data_first line rest (symbols.Sign s) a b = refl
no_data_first line rest (symbols.Quoted q) a b = refl
no_data_first line rest (symbols.Span l u) a b = refl
no_data_first line rest symbols.Stray a b = refl
no_data_first line rest symbols.Foreign a b = refl
no_data_first line rest symbols.End a b = refl

-- a payload begins with a byte that follows from others or is a choice, or with data, or it is what follows the last of them
pub payload_made : (g : Around) (room copies : ℕ) (at : Place) → begins_made at.tokens ≡ true → payload_at g room copies at ≡ mades_at g room copies at
payload_made g room copies at e = rw e (same_after (opening_at g at) _ _ (λ found. made_in_is g room copies found.1 found.0 found.2))

pub payload_data : (g : Around) (room copies : ℕ) (at : Place) → begins_made at.tokens ≡ false → begins_data at.tokens ≡ true → payload_at g room copies at ≡ bytes_at g room copies at
payload_data g room copies at e f = rw (e, f) (same_after (data_at g.draft at) _ _ (λ found. byte_in_is g room copies found.1 found.0 found.2))

pub payload_last : (g : Around) (room copies : ℕ) (at : Place) → begins_made at.tokens ≡ false → begins_data at.tokens ≡ false → payload_at g room copies at ≡ last_by g.draft (frame_in g room 0 copies) at
payload_last g room copies at e f = rw (e, f) refl

-- `wr`, `rd`, `pec`, `sum`, and a span
pub data Makes (s : Symbol) : Type 0 where
  is_wr : s ≡ symbols.Keyword keywords.Wr → Makes s
  is_rd : s ≡ symbols.Keyword keywords.Rd → Makes s
  is_pec : s ≡ symbols.Keyword keywords.Pec → Makes s
  is_sum : s ≡ symbols.Keyword keywords.Sum → Makes s
  is_span : (least greatest : ℕ) → s ≡ symbols.Span least greatest → Makes s

pub made_first : (line : ℕ) (rest : Tokens) (s : Symbol) → Makes s → begins_made (with_symbol s line rest) ≡ true
made_first line rest s (is_wr e) = ap (λ (k : Symbol). begins_made (with_symbol k line rest)) e
made_first line rest s (is_rd e) = ap (λ (k : Symbol). begins_made (with_symbol k line rest)) e
made_first line rest s (is_pec e) = ap (λ (k : Symbol). begins_made (with_symbol k line rest)) e
made_first line rest s (is_sum e) = ap (λ (k : Symbol). begins_made (with_symbol k line rest)) e
made_first line rest s (is_span l u e) = ap (λ (k : Symbol). begins_made (with_symbol k line rest)) e

pub no_made_first : (line : ℕ) (rest : Tokens) (s : Symbol) → s ≢ symbols.Keyword keywords.Any → s ≢ symbols.Keyword keywords.Wr → s ≢ symbols.Keyword keywords.Rd → s ≢ symbols.Keyword keywords.Pec → s ≢ symbols.Keyword keywords.Sum
    → ((l u : ℕ) → s ≢ symbols.Span l u) → begins_made (with_symbol s line rest) ≡ false
no_made_first line rest (symbols.Keyword keywords.Any) z a b c d e = absurd (z refl)
no_made_first line rest (symbols.Keyword keywords.Wr) z a b c d e = absurd (a refl)
no_made_first line rest (symbols.Keyword keywords.Rd) z a b c d e = absurd (b refl)
no_made_first line rest (symbols.Keyword keywords.Pec) z a b c d e = absurd (c refl)
no_made_first line rest (symbols.Keyword keywords.Sum) z a b c d e = absurd (d refl)
no_made_first line rest (symbols.Span l u) z a b c d e = absurd (e l u refl)
no_made_first line rest (symbols.Keyword k) z a b c d e = refl
no_made_first line rest (symbols.Word w) z a b c d e = refl
no_made_first line rest (symbols.Sign s) z a b c d e = refl
no_made_first line rest (symbols.Quoted q) z a b c d e = refl
no_made_first line rest symbols.Stray z a b c d e = refl
no_made_first line rest symbols.Foreign z a b c d e = refl
no_made_first line rest symbols.End z a b c d e = refl

pub word_is_data : (line : ℕ) (rest : Tokens) (s : Symbol) (w : Bor (List ℕ)) → s ≡ symbols.Word w → (begins_made (with_symbol s line rest) ≡ false) × (begins_data (with_symbol s line rest) ≡ true)
word_is_data line rest s w e = (ap (λ (k : Symbol). begins_made (with_symbol k line rest)) e, ap (λ (k : Symbol). begins_data (with_symbol k line rest)) e)

-- `any`, by the symbol behind it
pub but_first : (line : ℕ) (rest : Tokens) (s : Symbol) → s ≡ symbols.Keyword keywords.But → begins_but (with_symbol s line rest) ≡ true
but_first line rest s e = ap (λ (k : Symbol). begins_but (with_symbol k line rest)) e

pub no_but_first : (line : ℕ) (rest : Tokens) (s : Symbol) → s ≢ symbols.Keyword keywords.But → begins_but (with_symbol s line rest) ≡ false
no_but_first line rest (symbols.Keyword keywords.But) a = absurd (a refl)
no_but_first line rest (symbols.Keyword k) a = refl
no_but_first line rest (symbols.Word w) a = refl
no_but_first line rest (symbols.Sign s) a = refl
no_but_first line rest (symbols.Quoted q) a = refl
no_but_first line rest (symbols.Span l u) a = refl
no_but_first line rest symbols.Stray a = refl
no_but_first line rest symbols.Foreign a = refl
no_but_first line rest symbols.End a = refl

module _ (token : seen.Token) (at after : Place) (first : at ≡ before token after) (g : Around) (room copies : ℕ) (is : token.symbol ≡ symbols.Keyword keywords.Any) where
  pub any_but : begins_but after.tokens ≡ true → payload_at g room copies at ≡ made_after g room copies opens_but token.line after
  any_but e = payload_made g room copies at (by_symbol token at after first (λ p. begins_made p.tokens) _ is ∙ e) ∙ by_symbol token at after first (mades_at g room copies) _ is

  pub any_data : begins_but after.tokens ≡ false → payload_at g room copies at ≡ byte_after g room copies (spelled any_byte) token.line after
  any_data e =
      payload_data g room copies at (by_symbol token at after first (λ p. begins_made p.tokens) _ is ∙ e) (by_symbol token at after first (λ p. begins_data p.tokens) _ is)
      ∙ by_symbol token at after first (bytes_at g room copies) _ is

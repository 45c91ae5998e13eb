-- Addresses and data bytes that are spelled out or have names, names, and lists of names, by the symbol of the first token.
use Rattle.std.proofs.Common.{◌≡◌, ℕ, suc, ◌<◌, Bool, true, false, List, [], ◌∷◌, ◌++◌, Option, Some, None, is_some, Bor, refl, ap, sym, ◌∙◌, subst, arith, inl, inr}
use Rattle.std.specs.Prelude.{Result, Ok, Err, if◌then◌else◌}
use Rattle.std.specs.Map.{lookup}
use Rattle.std.specs.Str.{bytes_eq}
use Rattle.message_tree.specs.declared.bits.Address.{Address}
use Rattle.message_tree.specs.declared.bits.Pattern.{Pattern}
use Rattle.plan_core.specs.Names.{is_name}
use Rattle.plan_core.specs.declared.builder.BuildError.{BuildError}
use Rattle.plan_text.specs.Places.{Refuses}
use Rattle.plan_text.specs.Reader.{◌>>=◌, or_refused, unless_refused, refused_at}
use Rattle.plan_text.specs.declared.errors.PlanError.{PlanError}
use Rattle.plan_text.specs.declared.errors.PlanError.TheVariants.{Unexpected, Unknown}
use Rattle.plan_text.proofs.TakesLemmas.{bind_ok, ok_is}
use Rattle.brief_tokens.specs.declared.symbols.Keyword.TheVariants as keywords
use Rattle.brief_tokens.specs.declared.symbols.Sign.TheVariants as signs
use Rattle.brief_tokens.specs.declared.symbols.Symbol.{Symbol}
use Rattle.brief_tokens.specs.declared.symbols.Symbol.TheVariants as symbols
use Rattle.brief_tokens.specs.declared.symbols.Token as seen
use Rattle.brief_text.specs.Drafts.{Draft}
use Rattle.brief_text.specs.Items.{names_from}
use Rattle.brief_text.specs.Places.{Place, Reads, Finds, first_as, token_as, name_in, or_name, is_known, to_at, data_at}
use Rattle.brief_tokens.specs.Reading.{with_symbol}
use Rattle.brief_text.specs.Standing.{before}
use Rattle.brief_tokens.specs.Tokens.{Token, word, Tokens, next}
use Rattle.brief_tokens.specs.Tokens as tokens
use Rattle.brief_text.specs.Trees.{Said, spelled, named}
use Rattle.brief_text.specs.Words.{address_by, data_by, any_byte}
use Rattle.brief_text.proofs.StepLemmas.{by_symbol}

pub refuses_on : {A B : Type 0} (r : Result A PlanError) (f : A → Result B PlanError) (e : PlanError) → Refuses r e → Refuses (r >>= f) e
refuses_on r f e (inl memory) = inl memory
refuses_on r f e (inr is) = inr (ap (λ (x : Result _ PlanError). x >>= f) is)

-- ---- values

-- what a token says, on this line and before this place
abbrev said_step : {A : Type 0} → Option (Said A) → ℕ → Place → Finds (Said A)
said_step o line after = or_refused o (Unexpected line) >>= λ x. Ok (x, line, after)

abbrev name_found : Option (List ℕ) → ℕ → Place → Finds (List ℕ)
name_found o line after = or_refused o (Unexpected line) >>= λ x. Ok (x, line, after)

abbrev value_step : {A : Type 0} → Option (Said A) → List (List ℕ × A) → ℕ → Place → Finds (Said A)
value_step o entries line after = said_step o line after >>= λ said. if is_known entries said.0 then Ok said else Err (Unknown said.1)

-- what has a name
abbrev pub found_at : {A : Type 0} → List (List ℕ × A) → List ℕ × ℕ × Place → Finds (Said A)
found_at entries name = if is_some (lookup (bytes_eq name.0) entries) then Ok (named name.0, name.1, name.2) else Err (Unknown name.1)

module _ (g : Draft) (token : seen.Token) (at after : Place) (first : at ≡ before token after) (w : Bor (List ℕ)) (is : token.symbol ≡ symbols.Word w) where
  name_step : {A : Type 0} (entries : List (List ℕ × A)) → value_step (or_name None w.now) entries token.line after ≡ (token_as name_in (before token after) >>= found_at entries)
  name_step {A} entries = by_name (is_name w.now) ∙ ap (λ (s : Symbol). token_as name_in (record after { tokens = with_symbol s token.line after.tokens }) >>= found_at entries) (sym is)
    where
      by_name : (t : Bool) → value_step (if t then Some (named w.now) else None) entries token.line after
          ≡ (name_found (if t then Some w.now else None) token.line after >>= found_at entries)
      by_name true = refl
      by_name false = refl

  to_word : (o : Option Address) → address_by w.now ≡ o → to_at g at ≡ value_step (or_name o w.now) g.devices token.line after
  to_word o e = by_symbol token at after first (to_at g) _ is ∙ ap (λ (p : Option Address). value_step (or_name p w.now) g.devices token.line after) e

  pub to_spelled : (a : Address) → address_by w.now ≡ Some a → to_at g at ≡ Ok (spelled a, token.line, after)
  to_spelled a e = to_word (Some a) e

  pub to_named : address_by w.now ≡ None → to_at g at ≡ (token_as name_in (before token after) >>= found_at g.devices)
  to_named e = to_word None e ∙ name_step g.devices

  data_word : (o : Option Pattern) → data_by w.now ≡ o → data_at g at ≡ value_step (or_name o w.now) g.bytes token.line after
  data_word o e = by_symbol token at after first (data_at g) _ is ∙ ap (λ (p : Option Pattern). value_step (or_name p w.now) g.bytes token.line after) e

  pub data_spelled : (p : Pattern) → data_by w.now ≡ Some p → data_at g at ≡ Ok (spelled p, token.line, after)
  data_spelled p e = data_word (Some p) e

  pub data_named : data_by w.now ≡ None → data_at g at ≡ (token_as name_in (before token after) >>= found_at g.bytes)
  data_named e = data_word None e ∙ name_step g.bytes

pub data_any : (g : Draft) (token : seen.Token) (at after : Place) → at ≡ before token after → token.symbol ≡ symbols.Keyword keywords.Any → data_at g at ≡ Ok (spelled any_byte, token.line, after)
data_any g token at after first is = by_symbol token at after first (data_at g) _ is

module _ {A : Type 0} (r : Finds (List ℕ)) (entries : List (List ℕ × A)) (name : List ℕ) (line : ℕ) (after : Place) (got : r ≡ Ok (name, line, after)) where
  pub value_found : is_some (lookup (bytes_eq name) entries) ≡ true → (r >>= found_at entries) ≡ Ok (named name, line, after)
  value_found e = ap (λ (x : Finds (List ℕ)). x >>= found_at entries) got ∙ ap (λ (t : Bool). if t then Ok (named name, line, after) else Err (Unknown line)) e

  pub value_missing : is_some (lookup (bytes_eq name) entries) ≡ false → (r >>= found_at entries) ≡ Err (Unknown line)
  value_missing e = ap (λ (x : Finds (List ℕ)). x >>= found_at entries) got ∙ ap (λ (t : Bool). if t then Ok (named name, line, after) else Err (Unknown line)) e

-- ---- lists of names

-- the number of tokens
abbrev pub size : Tokens → ℕ
size (next token line rest) = suc (size rest)
size (tokens.last ending line) = 0

token_smaller : {A : Type 0} (what : Token → Option A) (at : Place) (x : A × ℕ × Place) → token_as what at ≡ Ok x → size at.tokens ≡ suc (size x.2.tokens)
token_smaller {A} what at x e = by_tokens at.tokens e
  where
    by_tokens : (from : Tokens) → first_as what from at ≡ Ok x → size from ≡ suc (size x.2.tokens)
    by_tokens (next token line rest) h =
        let y = bind_ok (or_refused (what token) (Unexpected line)) (λ y. Ok (y, line, record at { tokens = rest })) x h in
        ap (λ (z : A × ℕ × Place). suc (size z.2.tokens)) (ok_is (y.0, line, record at { tokens = rest }) x y.2)
    by_tokens (tokens.last ending line) h = absurd cc

module _ (refusal : List (List ℕ) → List ℕ → Option BuildError) (names : List (List ℕ)) (token : seen.Token) (at after : Place) (first : at ≡ before token after) where
  pub sendings_end : token.symbol ≡ symbols.Sign signs.Semicolon → names_from refusal names at.tokens at ≡ Ok (names, after)
  sendings_end is = by_symbol token at after first (λ p. names_from refusal names p.tokens p) _ is

  module _ (other : token.symbol ≡ symbols.Sign signs.Semicolon → ⊥) where
    abbrev allowed_then : Finds (List ℕ) → Reads (List (List ℕ))
    allowed_then r = r >>= λ name. unless_refused (refusal names name.0) name.1 name.0 >>= λ allowed. names_from refusal (names ++ allowed ∷ []) name.2.tokens name.2

    sendings_step : names_from refusal names at.tokens at ≡ allowed_then (token_as name_in (before token after))
    sendings_step = by_symbol token at after first (λ p. names_from refusal names p.tokens p) token.symbol refl ∙ by_case token.symbol other
      where
        by_option : (o : Option (List ℕ)) (line : ℕ) → (or_refused o (Unexpected line) >>= λ name. unless_refused (refusal names name) line name >>= λ allowed. names_from refusal (names ++ allowed ∷ []) after.tokens after)
            ≡ allowed_then (or_refused o (Unexpected line) >>= λ x. Ok (x, line, after))
        by_option (Some x) line = refl
        by_option None line = refl

        by_case : (s : Symbol) → (s ≡ symbols.Sign signs.Semicolon → ⊥) → names_from refusal names (with_symbol s token.line after.tokens) (record after { tokens = with_symbol s token.line after.tokens })
            ≡ allowed_then (token_as name_in (record after { tokens = with_symbol s token.line after.tokens }))
        by_case (symbols.Keyword k) h = refl
        by_case (symbols.Word w) h = by_option (name_in (word w.now)) token.line
        by_case (symbols.Sign signs.Semicolon) h = absurd (h refl)
        by_case (symbols.Sign s) h = refl
        by_case (symbols.Quoted q) h = refl
        by_case (symbols.Span l u) h = refl
        by_case symbols.Stray h = refl
        by_case symbols.Foreign h = refl
        by_case symbols.End h = refl

    pub no_sending : (e : PlanError) → Refuses (token_as name_in (before token after)) e → Refuses (names_from refusal names at.tokens at) e
    no_sending e h = subst (λ (r : Reads (List (List ℕ))). Refuses r e) (sym sendings_step) (refuses_on (token_as name_in (before token after)) _ e h)

    module _ (name : List ℕ) (found : token_as name_in (before token after) ≡ Ok (name, token.line, after)) where
      pub sending_refused : (e : PlanError) (cause : BuildError) → refusal names name ≡ Some cause → e ≡ refused_at cause token.line → Refuses (names_from refusal names at.tokens at) e
      sending_refused e cause h is = inr (sendings_step ∙ ap allowed_then found ∙ rw h (ap (λ (f : PlanError). Err f) (sym is)))

      pub sending_on : refusal names name ≡ None → names_from refusal names at.tokens at ≡ names_from refusal (names ++ name ∷ []) after.tokens after
      sending_on h = sendings_step ∙ ap allowed_then found ∙ rw h refl

      pub sending_smaller : size after.tokens < size at.tokens
      sending_smaller =
          let smaller = token_smaller name_in (before token after) (name, token.line, after) found in
          let same = ap (λ (p : Place). size p.tokens) first in
          omega (arith, same, smaller)

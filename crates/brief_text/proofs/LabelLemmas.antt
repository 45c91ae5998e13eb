-- What a word says in the place of what a `never` names.
use Rattle.std.proofs.Common.{◌≡◌, ℕ, ◌<◌, ◌≤◌, Bool, true, false, List, length, Option, Some, None, Bor, ◌⊎◌, inl, inr, refl, ap, sym, ◌∙◌, arith}
use Rattle.std.specs.Prelude.{Result, Ok, Err, nat_le, ◌&&◌, if◌then◌else◌}
use Rattle.std.proofs.lemmas.Bool.{lt-leb}
use Rattle.plan_core.specs.Names.{is_name}
use Rattle.plan_text.specs.Reader.{◌>>=◌, or_refused}
use Rattle.plan_text.specs.Places.{Refuses}
use Rattle.plan_text.specs.declared.errors.PlanError.{PlanError}
use Rattle.plan_text.specs.declared.errors.PlanError.TheVariants.{Unexpected, NoMemory}
use Rattle.lexer.specs.declared.lexemes.Letters.{Letters}
use Rattle.brief_tokens.specs.declared.symbols.Symbol.{Symbol}
use Rattle.brief_tokens.specs.declared.symbols.Symbol.TheVariants as symbols
use Rattle.brief_tokens.specs.declared.symbols.Token as seen
use Rattle.brief_text.specs.Items.{side_in}
use Rattle.brief_text.specs.Places.{Place, Finds, token_as, name_in}
use Rattle.brief_tokens.specs.Reading.{with_symbol, unexpected_at}
use Rattle.brief_text.specs.Standing.{before}
use Rattle.brief_text.specs.Trees.{Side}
use Rattle.brief_text.specs.Words.{around_slash, is_brief_name, whole_side, label_side, side_by}
use Rattle.brief_text.proofs.StepLemmas.{by_symbol, word_found, word_missed}

-- a controller by its name
abbrev pub whole_found : List ℕ × ℕ × Place → Finds Side
whole_found name = Ok (record { controller = name.0; label = None }, name.1, name.2)

-- a half that is refused, because it is no name
pub half_refused : {A : Type 0} (l : Letters) (given : Result A PlanError) (half : List ℕ) (e u : PlanError) → (e ≡ NoMemory) ⊎ ((is_brief_name l half ≡ false) × (e ≡ u)) → (is_brief_name l half ≡ false → given ≡ Err u) → Refuses given e
half_refused l given half e u (inl memory) f = inl memory
half_refused l given half e u (inr why) f = inr (f why.0 ∙ ap (λ (x : PlanError). Err x) (sym why.1))

abbrev labelled_side : List ℕ → List ℕ → Side
labelled_side a b = record { controller = a; label = Some b }

abbrev found_label : List ℕ → List ℕ → ℕ → Place → Finds Side
found_label a b line after = Ok (labelled_side a b, line, after)

pub same_names : (a b x y : List ℕ) (line : ℕ) (after : Place) → x ≡ a → y ≡ b → found_label a b line after ≡ found_label x y line after
same_names a b x y line after e f = ap (λ n. found_label n b line after) (sym e) ∙ ap (λ n. found_label x n line after) (sym f)

side_whole : (l : Letters) (w : List ℕ) → around_slash w ≡ None → side_by l w ≡ whole_side (is_name w) w
unfolding side_by
side_whole l w e = rw e refl

side_halves : (l : Letters) (w a b : List ℕ) (t u v : Bool) → around_slash w ≡ Some (a, b) → nat_le (length w) 32 ≡ t → is_brief_name l a ≡ u → is_brief_name l b ≡ v → side_by l w ≡ label_side (t && u && v) (a, b)
unfolding side_by
side_halves l w a b t u v e f g h = rw (e, f, g, h) refl

module _ (l : Letters) (token : seen.Token) (at after : Place) (first : at ≡ before token after) (w : Bor (List ℕ)) (is : token.symbol ≡ symbols.Word w) where
  pub whole_step : around_slash w.now ≡ None → token_as (side_in l) at ≡ (token_as name_in (before token after) >>= whole_found)
  whole_step e =
      by_symbol token at after first (token_as (side_in l)) _ is
      ∙ ap (λ (o : Option Side). or_refused o (Unexpected token.line) >>= λ x. Ok (x, token.line, after)) (side_whole l w.now e)
      ∙ by_name (is_name w.now)
      ∙ ap (λ (s : Symbol). token_as name_in (record after { tokens = with_symbol s token.line after.tokens }) >>= whole_found) (sym is)
    where
      by_name : (t : Bool) → (or_refused (whole_side t w.now) (Unexpected token.line) >>= λ x. Ok (x, token.line, after))
          ≡ ((or_refused (if t then Some w.now else None) (Unexpected token.line) >>= λ x. Ok (x, token.line, after)) >>= whole_found)
      by_name true = refl
      by_name false = refl

  module _ (a b : List ℕ) (e : around_slash w.now ≡ Some (a, b)) where
    pub label_found : length w.now ≤ 32 → is_brief_name l a ≡ true → is_brief_name l b ≡ true → token_as (side_in l) at ≡ Ok (record { controller = a; label = Some b }, token.line, after)
    label_found short g h =
        let fits : nat_le (length w.now) 32 ≡ true = grind arith in
        word_found token at after first w is (side_in l) (record { controller = a; label = Some b }) (side_halves l w.now a b true true true e fits g h)

    pub label_long : 32 < length w.now → token_as (side_in l) at ≡ Err (unexpected_at token)
    label_long long = word_missed token at after first w is (side_in l) (side_halves l w.now a b false _ _ e (lt-leb (length w.now) 32 long) refl refl)

    none_first : (t v : Bool) → label_side (t && false && v) (a, b) ≡ None
    none_first true v = refl
    none_first false v = refl

    none_second : (t u : Bool) → label_side (t && u && false) (a, b) ≡ None
    none_second true true = refl
    none_second true false = refl
    none_second false u = refl

    pub first_no_name : is_brief_name l a ≡ false → token_as (side_in l) at ≡ Err (unexpected_at token)
    first_no_name g = word_missed token at after first w is (side_in l) (side_halves l w.now a b _ false _ e refl g refl ∙ none_first (nat_le (length w.now) 32) (is_brief_name l b))

    pub second_no_name : is_brief_name l b ≡ false → token_as (side_in l) at ≡ Err (unexpected_at token)
    second_no_name g = word_missed token at after first w is (side_in l) (side_halves l w.now a b _ _ false e refl refl g ∙ none_second (nat_le (length w.now) 32) (is_brief_name l a))

-- Whole texts, item by item, and that a text has one reading.
use Rattle.std.proofs.Common.{◌≡◌, ℕ, suc, List, None, true, false, ◌⊎◌, inl, inr, refl, ap, sym, ◌∙◌, length}
use Rattle.std.specs.Prelude.{Result, Ok, Err, IfOk, IfErr, MatchResult}
use Rattle.plan_core.specs.Contents.{Contents}
use Rattle.plan_core.specs.PlanContents.{plan_contents}
use Rattle.plan_core.specs.declared.plans.Plan.{Plan}
use Rattle.plan_text.specs.Places.{Refuses}
use Rattle.plan_text.specs.Reader.{◌>>=◌}
use Rattle.plan_text.specs.declared.places.Refused.{Refused}
use Rattle.plan_text.specs.declared.errors.PlanError.{PlanError}
use Rattle.plan_text.specs.declared.errors.PlanError.TheVariants.{NoMemory}
use Rattle.plan_text.proofs.TakesLemmas.{ok_is}
use Rattle.lexer.specs.declared.lexemes.Letters.{Letters}
use Rattle.brief_tokens.specs.Heads.{opened}
use Rattle.brief_text.specs.Briefs.{is_end, unexpected, items_in, text_read, brief_read, Means, IsRefused}
use Rattle.brief_text.specs.Drafts.{Draft, no_items, with_item}
use Rattle.brief_text.specs.Items.{item_at}
use Rattle.brief_text.specs.Places.{Place, Reads}
use Rattle.brief_text.specs.Splitting.{plan_meant}
use Rattle.brief_text.specs.Standing.{adds}
use Rattle.brief_text.specs.Trees.{BriefItem}
use Rattle.brief_tokens.specs.Reading.{with_symbol, with_token, unexpected_symbol, unexpected_at}
use Rattle.brief_tokens.specs.declared.symbols.Symbol.{Symbol}
use Rattle.brief_tokens.specs.declared.symbols.Symbol.TheVariants as symbols
use Rattle.brief_tokens.specs.declared.symbols.Token as seen
use Rattle.brief_tokens.specs.Tokens.{Tokens}

module _ (l : Letters) (most : ℕ) (plan : Draft) (at : Place) where
  abbrev with_read : BriefItem × Place → Result (Draft × Place) PlanError
  with_read read = Ok (with_item plan read.0, read.1)

  then_items : (r : Reads BriefItem) → (r >>= λ item. items_in l most (with_item plan item.0) item.1) ≡ ((r >>= with_read) >>= λ more. items_in l most more.0 more.1)
  then_items (Ok x) = refl
  then_items (Err e) = refl

  step : is_end at.tokens ≡ false → items_in l (suc most) plan at ≡ (adds (item_at l) plan at >>= λ more. items_in l most more.0 more.1)
  unfolding items_in
  step e = rw e (then_items (item_at l plan at))

  pub items_after : (x : Draft × Place) → is_end at.tokens ≡ false → adds (item_at l) plan at ≡ Ok x → items_in l (suc most) plan at ≡ items_in l most x.0 x.1
  items_after x more e = step more ∙ ap (λ (r : Result (Draft × Place) PlanError). r >>= λ more. items_in l most more.0 more.1) e

  pub items_end : is_end at.tokens ≡ true → items_in l (suc most) plan at ≡ Ok plan
  unfolding items_in
  items_end e = rw e refl

  pub items_refuse : (e : PlanError) → is_end at.tokens ≡ false → Refuses (adds (item_at l) plan at) e → Refuses (items_in l (suc most) plan at) e
  items_refuse e more (inl memory) = inl memory
  items_refuse e more (inr h) = inr (step more ∙ ap (λ (r : Result (Draft × Place) PlanError). r >>= λ more. items_in l most more.0 more.1) h)

pub items_none : (l : Letters) (plan : Draft) (at : Place) → items_in l 0 plan at ≡ Err (unexpected at.tokens)
unfolding items_in
items_none l plan at = refl

pub unexpected_first : (token : seen.Token) (rest : Tokens) → unexpected (with_token token rest) ≡ unexpected_at token
unexpected_first token rest = by_symbol token.symbol
  where
    by_symbol : (s : Symbol) → unexpected (with_symbol s token.line rest) ≡ unexpected_symbol s token.line
    by_symbol (symbols.Keyword k) = refl
    by_symbol (symbols.Word w) = refl
    by_symbol (symbols.Sign s) = refl
    by_symbol (symbols.Quoted q) = refl
    by_symbol (symbols.Span l u) = refl
    by_symbol symbols.Stray = refl
    by_symbol symbols.Foreign = refl
    by_symbol symbols.End = refl

-- ---- from the head on

abbrev pub start : Tokens → Place
start rest = record { tokens = rest; nodes = 0; range = None }

module _ (text : List ℕ) where
  module _ (plan : Draft) where
    abbrev from_head : Result (Letters × Tokens) PlanError → Result Draft PlanError
    from_head head = head >>= λ head. items_in head.0 (length text) plan (start head.1)

    pub text_from : (head : Letters × Tokens) → opened text ≡ Ok head → text_read plan text ≡ items_in head.0 (length text) plan (start head.1)
    unfolding text_read
    text_from head e = ap from_head e

    pub text_refused : (e : PlanError) → opened text ≡ Err e → text_read plan text ≡ Err e
    unfolding text_read
    text_refused e h = ap from_head h

  pub brief_refused : (plan : Draft) (e : PlanError) → plan ≡ no_items → Refuses (text_read plan text) e → Refuses (brief_read text) e
  unfolding brief_read
  brief_refused plan e none (inl memory) = inl memory
  brief_refused plan e none (inr h) = inr (ap (λ (r : Result Draft PlanError). r >>= λ draft. Ok (plan_meant draft)) (ap (λ (d : Draft). text_read d text) (sym none) ∙ h))

  -- ---- one reading

  pub plans : (r : Result Plan Refused) → IfOk r (λ p. brief_read text ≡ Ok (plan_contents p)) → IfErr r (λ e. Refuses (brief_read text) e.error)
      → (plan : Contents) → Means text plan → MatchResult r (λ it. plan_contents it ≡ plan) (λ e. e.error ≡ NoMemory)
  plans (Ok p) read refused plan s = ok_is (plan_contents p) plan (sym read ∙ s)
  plans (Err e) read (inl memory) plan s = memory
  plans (Err e) read (inr first) plan s = let no = sym s ∙ first in absurd cc

  pub refusals : (r : Result Plan Refused) → IfOk r (λ p. brief_read text ≡ Ok (plan_contents p)) → IfErr r (λ e. Refuses (brief_read text) e.error)
      → (due : PlanError) → IsRefused text due → MatchResult r (λ it. ⊥) (λ e. (e.error ≡ NoMemory) ⊎ (e.error ≡ due))
  refusals (Ok p) read refused due f = let no = sym read ∙ f in absurd cc
  refusals (Err e) read (inl memory) due f = inl memory
  refusals (Err e) read (inr first) due f = inr (let same = sym first ∙ f in cc)

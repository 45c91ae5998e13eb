-- A text that is read says items that fit.
use Rattle.std.proofs.Common.{◌≡◌, ℕ, zero, suc, Bool, true, false, List, [], ◌∷◌, None, length, refl, sym}
use Rattle.std.specs.Prelude.{Ok, if◌then◌else◌}
use Rattle.plan_text.specs.Reader.{◌>>=◌}
use Rattle.lexer.specs.Lexemes.{text_end}
use Rattle.plan_text.proofs.TakesLemmas.{bind_ok, ok_is}
use Rattle.lexer.specs.declared.lexemes.Letters.{Letters}
use Rattle.brief_tokens.specs.Heads.{opened}
use Rattle.brief_text.specs.Briefs.{is_end, items_in, text_read}
use Rattle.brief_text.specs.Drafts.{Draft, with_item}
use Rattle.brief_text.specs.Fitting.{MakeUp, Says}
use Rattle.brief_text.specs.Grammar.{SpellsItems}
use Rattle.brief_text.specs.Items.{item_at}
use Rattle.brief_text.specs.Places.{Place}
use Rattle.brief_tokens.specs.Tokens.{keyword, word, Tokens, next, tokens_of}
use Rattle.brief_tokens.specs.Tokens as tokens
use Rattle.brief_text.specs.Trees.{BriefItem}
use Rattle.brief_text.proofs.ItemTakesLemmas.{item_takes}

-- items from a place up to the end
record Items (l : Letters) (draft : Draft) (from : Tokens) (after : Draft) : Type 0 where
  items : List BriefItem
  line : ℕ
  spelled : SpellsItems l items from (tokens.last text_end line)
  made : MakeUp draft items after

items_take : (l : Letters) (most : ℕ) (draft : Draft) (at : Place) (after : Draft) → items_in l most draft at ≡ Ok after → Items l draft at.tokens after
unfolding items_in
items_take l zero draft at after e = absurd cc
items_take l (suc most) draft at after e = by_end (is_end at.tokens) refl e (λ d place. items_take l most d place after)
  where
    at_end : (from : Tokens) → is_end from ≡ true → (line : ℕ) × (tokens.last text_end line ≡ from)
    at_end (tokens.last text_end line) h = (line, refl)
    at_end from h = absurd cc

    by_end : (t : Bool) → is_end at.tokens ≡ t → (if t then Ok draft else (item_at l draft at >>= λ item. items_in l most (with_item draft item.0) item.1)) ≡ Ok after
        → ((d : Draft) (place : Place) → items_in l most d place ≡ Ok after → Items l d place.tokens after) → Items l draft at.tokens after
    by_end true is h others =
        let end = at_end at.tokens is in
        record { items = []; line = end.0; spelled = end.1; made = sym (ok_is draft after h) }
    by_end false is h others =
        let x = bind_ok (item_at l draft at) (λ item. items_in l most (with_item draft item.0) item.1) after h in
        let t = item_takes l draft at x.0 x.1 in
        let rest = others (with_item draft x.0.0) x.0.1 x.2 in
        record { items = x.0.0 ∷ rest.items; line = rest.line; spelled = (x.0.1.tokens, t.spelled, rest.spelled); made = (t.fits, rest.made) }

abbrev pub start : Tokens → Place
start rest = record { tokens = rest; nodes = 0; range = None }

pub text_takes : (text : List ℕ) (draft after : Draft) → text_read draft text ≡ Ok after → Says text draft after
unfolding text_read
text_takes text draft after e =
    let head = bind_ok (opened text) (λ head. items_in head.0 (length text) draft (start head.1)) after e in
    let all = items_take head.0.0 (length text) draft (start head.0.1) after head.2 in
    record { items = all.items; spelled = record { letters = head.0.0; rest = head.0.1; line = all.line; head = head.1; whole = all.spelled }; made = all.made }

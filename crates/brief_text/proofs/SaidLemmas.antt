-- A text that says items that fit is read again.
use Rattle.std.proofs.Common.{◌≡◌, ℕ, zero, suc, ◌<◌, false, List, [], ◌∷◌, None, length, refl, ap, sym, arith, Option}
use Rattle.std.specs.Prelude.{Ok}
use Rattle.plan_core.specs.Contents.{Contents}
use Rattle.lexer.specs.Lexemes.{text_end}
use Rattle.plan_text.proofs.TakesLemmas.{bind_ok, ok_is}
use Rattle.brief_text.specs.declared.syntax.Lengths.{Lengths}
use Rattle.lexer.specs.declared.lexemes.Letters.{Letters}
use Rattle.brief_text.specs.Briefs.{is_end, items_in, text_read, brief_read, Means}
use Rattle.brief_text.specs.Drafts.{Draft, no_items, with_item}
use Rattle.brief_text.specs.Fitting.{MakeUp, Says}
use Rattle.brief_text.specs.Grammar.{SpellsItem, SpellsItems}
use Rattle.brief_text.specs.Splitting.{plan_meant}
use Rattle.brief_tokens.specs.Tokens.{Tokens}
use Rattle.brief_tokens.specs.Tokens as tokens
use Rattle.brief_text.specs.Trees.{BriefItem, device, byte, device_group, message, controller, extend, interrupt, never_both}
use Rattle.brief_text.proofs.AgainLemmas.{spot}
use Rattle.brief_text.proofs.ItemAgainLemmas.{item_again}
use Rattle.brief_text.proofs.ItemTakesLemmas.{item_takes}
use Rattle.brief_text.proofs.SaysLemmas.{text_takes}
use Rattle.brief_text.proofs.SizeLemmas.{opened_small}
use Rattle.brief_text.proofs.ValueLemmas.{size}

pub not_end : (l : Letters) (item : BriefItem) (from to : Tokens) → SpellsItem l item from to → is_end from ≡ false
not_end l (device name address) from to s = ap is_end s.1.1
not_end l (byte name bits) from to s = ap is_end s.1.1
not_end l (device_group name devices) from to s = ap is_end s.1.1
not_end l (message name range frame) from to s = ap is_end s.1.1
not_end l (controller name messages) from to s = ap is_end s.1.1
not_end l (extend name messages) from to s = ap is_end s.1.1
not_end l (interrupt name target) from to s = ap is_end s.1.1
not_end l (never_both first second) from to s = ap is_end s.1.1

-- there may be more items than there are tokens
items_again : (l : Letters) (items : List BriefItem) (most : ℕ) (draft after : Draft) (nodes : ℕ) (p : Option Lengths) (from : Tokens) (line : ℕ) → SpellsItems l items from (tokens.last text_end line) → MakeUp draft items after → size from < most → items_in l most draft (spot from nodes p) ≡ Ok after
unfolding items_in
items_again l items zero draft after nodes p from line s made some = absurd (omega arith)
items_again l [] (suc most) draft after nodes p from line s made some = rw (sym s, made) refl
items_again l (item ∷ items) (suc most) draft after nodes p from line s made some =
    let first = item_again l draft nodes p from s.0 item made.0 s.1 in
    let t = item_takes l draft (spot from nodes p) (item, spot s.0 first.later first.range) first.is in
    rw (not_end l item from s.0 s.1, first.is)
    (items_again l items most (with_item draft item) after first.later first.range s.0 line s.2 made.1 (omega (arith, t.fewer)))

pub text_again : (text : List ℕ) (draft after : Draft) → Says text draft after → text_read draft text ≡ Ok after
unfolding text_read
text_again text draft after said =
    let s = said.spelled in
    let small = opened_small text (s.letters, s.rest) s.head in
    rw s.head (items_again s.letters said.items (length text) draft after 0 None s.rest s.line s.whole said.made small)

pub said_meant : (text : List ℕ) (draft : Draft) → Says text no_items draft → Means text (plan_meant draft)
unfolding brief_read
said_meant text draft said = rw (text_again text no_items draft said) refl

pub meant_said : (text : List ℕ) (plan : Contents) → Means text plan → (draft : Draft) × Says text no_items draft × (plan ≡ plan_meant draft)
unfolding brief_read
meant_said text plan e =
    let x = bind_ok (text_read no_items text) (λ draft. Ok (plan_meant draft)) plan e in
    (x.0, text_takes text no_items x.0 x.1, sym (ok_is (plan_meant x.0) plan x.2))

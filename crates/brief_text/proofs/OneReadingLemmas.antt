-- A text says one list of items, or it is refused.
use Rattle.std.proofs.Common.{◌≡◌, ℕ, ◌⊎◌, inl, inr, List, [], ◌∷◌, None, refl, ap, sym, ◌∙◌, subst}
use Rattle.std.specs.Prelude.{Result, Ok, Err}
use Rattle.lexer.specs.declared.lexemes.Letters.{Letters}
use Rattle.lexer.specs.Lexemes.{text_end}
use Rattle.plan_text.specs.declared.errors.PlanError.{PlanError}
use Rattle.plan_text.proofs.TakesLemmas.{ok_is}
use Rattle.brief_text.specs.Briefs.{is_end, text_read}
use Rattle.brief_text.specs.Drafts.{Draft, with_item}
use Rattle.brief_text.specs.Fitting.{Fits, MakeUp, Says}
use Rattle.brief_text.specs.Grammar.{SpellsItem, SpellsItems}
use Rattle.brief_text.specs.Places.{Place}
use Rattle.brief_tokens.specs.Tokens.{Tokens}
use Rattle.brief_tokens.specs.Tokens as tokens
use Rattle.brief_text.specs.Trees.{BriefItem}
use Rattle.brief_text.proofs.AgainLemmas.{spot}
use Rattle.brief_text.proofs.ItemAgainLemmas.{item_again}
use Rattle.brief_text.proofs.SaidLemmas.{not_end, text_again}
use Rattle.brief_text.proofs.SaysLemmas.{text_takes}

-- ---- items

item_once : (l : Letters) (draft : Draft) (from one other : Tokens) (x y : BriefItem) → Fits draft x → SpellsItem l x from one → Fits draft y → SpellsItem l y from other → (x ≡ y) × (one ≡ other)
item_once l draft from one other x y fits s also t =
    let first = item_again l draft 0 None from one x fits s in
    let second = item_again l draft 0 None from other y also t in
    let same = ok_is (x, spot one first.later first.range) (y, spot other second.later second.range) (sym first.is ∙ second.is) in
    (ap (λ (read : BriefItem × Place). read.0) same, ap (λ (read : BriefItem × Place). read.1.tokens) same)

items_once : (l : Letters) (items others : List BriefItem) (draft after later : Draft) (from : Tokens) (line last : ℕ) → SpellsItems l items from (tokens.last text_end line) → MakeUp draft items after → SpellsItems l others from (tokens.last text_end last) → MakeUp draft others later → items ≡ others
items_once l [] [] draft after later from line last s made t also = refl
items_once l [] (y ∷ others) draft after later from line last s made t also =
    let end = ap is_end s in let more = not_end l y from t.0 t.1 in absurd cc
items_once l (x ∷ items) [] draft after later from line last s made t also =
    let end = ap is_end t in let more = not_end l x from s.0 s.1 in absurd cc
items_once l (x ∷ items) (y ∷ others) draft after later from line last s made t also =
    let first = item_once l draft from s.0 t.0 x y made.0 s.1 also.0 t.1 in
    let spelled = subst (λ (f : Tokens). SpellsItems l others f (tokens.last text_end last)) (sym first.1) t.2 in
    let fitting = subst (λ (i : BriefItem). MakeUp (with_item draft i) others later) (sym first.0) also.1 in
    let rest = items_once l items others (with_item draft x) after later s.0 line last s.2 made.1 spelled fitting in
    ap (λ (i : BriefItem). i ∷ items) first.0 ∙ ap (λ (is : List BriefItem). y ∷ is) rest

-- ---- texts

module _ (text : List ℕ) (draft : Draft) where
  pub one_tree : (P Q : Draft) (p : Says text draft P) (q : Says text draft Q) → p.items ≡ q.items
  one_tree P Q p q =
      let same = ok_is (q.spelled.letters, q.spelled.rest) (p.spelled.letters, p.spelled.rest) (sym q.spelled.head ∙ p.spelled.head) in
      let items = subst (λ (h : Letters × Tokens). SpellsItems h.0 q.items h.1 (tokens.last text_end q.spelled.line)) same q.spelled.whole in
      items_once p.spelled.letters p.items q.items draft P Q p.spelled.rest p.spelled.line q.spelled.line p.spelled.whole p.made items q.made

  pub one_draft : (P Q : Draft) → Says text draft P → Says text draft Q → P ≡ Q
  one_draft P Q p q = ok_is P Q (sym (text_again text draft P p) ∙ text_again text draft Q q)

  pub not_both : (after : Draft) (e : PlanError) → Says text draft after → text_read draft text ≡ Err e → ⊥
  not_both after e said refused = let no = sym (text_again text draft after said) ∙ refused in absurd cc

  pub one_of_both : ((after : Draft) × Says text draft after) ⊎ ((e : PlanError) × (text_read draft text ≡ Err e))
  one_of_both = by_result (text_read draft text) refl
    where
      by_result : (r : Result Draft PlanError) → text_read draft text ≡ r → ((after : Draft) × Says text draft after) ⊎ ((e : PlanError) × (text_read draft text ≡ Err e))
      by_result (Ok after) is = inl (after, text_takes text draft after is)
      by_result (Err e) is = inr (e, is)

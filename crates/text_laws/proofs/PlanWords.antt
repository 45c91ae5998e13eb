-- What the text of a plan spells does not depend on the lines of its tokens.
use Rattle.std.proofs.Common.{arith, ◌≡◌, ℕ, List, [], ◌∷◌, Option, Some, None, codes, refl, ap, sym, ◌∙◌, subst}
use Rattle.layout.specs.SameWords.{without_lines, SameWords}
use Rattle.lexer.specs.Lexemes.{Alphabet, no_dots, dots_after, Lexemes, text_end, stray, foreign, lexemes_of}
use Rattle.lexer.specs.Lexemes as lexemes
use Rattle.message_tree.specs.declared.counts.Count.{Count}
use Rattle.message_tree.specs.Trees.{FrameTree, write, read, PayloadTree, byte, TailTree, stop, again}
use Rattle.message_tree.specs.Trees as trees
use Rattle.plan_core.specs.Contents.{Contents, empty}
use Rattle.plan_text.specs.declared.errors.PlanError.{PlanError}
use Rattle.plan_text.specs.declared.errors.PlanError.TheVariants as errors
use Rattle.plan_text.specs.Grammar.{Phrase, one, ◌▸◌, SpellsName, SpellsCount, SpellsFrame, SpellsPayload, SpellsTail, SpellsNames, Item, message, controller, interrupt, never_both, SpellsItem, SpellsItems, with_item, version_word, dots_of, Spells}
use Rattle.plan_text.specs.Tokens.{Token, token_of_word, word, semicolon, Tokens, next, last, told, tokens_from, tokens_of}
use Rattle.text_laws.proofs.Phrases.{Respects, nothing_respects, ◌>>◌, also_respects, given_respects, some_respects}

-- these tokens, all of them on line 0
abbrev pub bare : Tokens → Tokens
bare (next token line rest) = next token 0 (bare rest)
bare (last ending line) = last ending 0

-- the refusal of what the tokens end with
abbrev pub end_of : Tokens → Option PlanError
end_of (next token line rest) = end_of rest
end_of (last text_end line) = None
end_of (last stray line) = Some (errors.Unexpected line)
end_of (last foreign line) = Some (errors.NotAscii line)

abbrev pub Keeps : Phrase → Type 0
Keeps phrase = Respects bare end_of phrase

token : (t : Token) → Keeps (one t)
token t = record { over = over; ends = λ from to s. ap end_of s.1 }
  where
    over : (from to other : Tokens) → one t from to → bare from ≡ bare other → (there : Tokens) × (bare to ≡ bare there) × one t other there
    over from to (next u line rest) s same = let first : next t 0 (bare to) ≡ next u 0 (bare rest) = sym (ap bare s.1) ∙ same in (rest, cc, (line, cc))
    over from to (last ending line) s same = let first : next t 0 (bare to) ≡ last ending 0 = sym (ap bare s.1) ∙ same in absurd cc

name_respects : (name : List ℕ) → Keeps (SpellsName name)
name_respects name = also_respects (token _)

count_respects : (count : Count) → Keeps (SpellsCount count)
count_respects count = some_respects (λ bytes. token _)

mutual
  frame_respects : (frame : FrameTree) → Keeps (SpellsFrame frame)
  frame_respects (write address acked refused) = token _ >> token _ >> payload_respects acked >> token _ >> tail_respects refused
  frame_respects (read address count after refused) = token _ >> token _ >> count_respects count >> tail_respects after >> token _ >> tail_respects refused

  payload_respects : (payload : PayloadTree) → Keeps (SpellsPayload payload)
  payload_respects (byte bits acked refused) = token _ >> payload_respects acked >> token _ >> tail_respects refused
  payload_respects (trees.last tail) = tail_respects tail

  tail_respects : (tail : TailTree) → Keeps (SpellsTail tail)
  tail_respects stop = token _
  tail_respects (again frame) = token _ >> frame_respects frame

names_respect : (names : List (List ℕ)) → Keeps (SpellsNames names)
names_respect [] = nothing_respects
names_respect (name ∷ names) = name_respects name >> names_respect names

-- in the first version there is no such item
by_version : (Q : Phrase → Type 0) (version : _) (first second : List ℕ) → Q (one (token_of_word (codes "never")) ▸ SpellsName first ▸ SpellsName second ▸ one semicolon) → Q (λ from to. ⊥) → Q (SpellsItem version (never_both first second))
unfolding token_of_word
by_version Q version first second some none = grind (arith, some, none)

never_respects : (version : _) (first second : List ℕ) → Keeps (SpellsItem version (never_both first second))
never_respects version first second = by_version Keeps version first second (token _ >> name_respects first >> name_respects second >> token _) (record { over = λ from to other s same. absurd s; ends = λ from to s. absurd s })

item_respects : (version : _) (item : Item) → Keeps (SpellsItem version item)
item_respects version (message name frame) = token _ >> name_respects name >> frame_respects frame >> token _
item_respects version (controller name messages) = token _ >> name_respects name >> names_respect messages >> token _
item_respects version (interrupt name address) = token _ >> name_respects name >> token _ >> token _
item_respects version (never_both first second) = never_respects version first second

pub items_respect : (version : _) (items : List Item) (plan whole : Contents) → Keeps (λ from to. SpellsItems version items plan from whole to)
items_respect version [] plan whole = given_respects nothing_respects
items_respect version (item ∷ items) plan whole = given_respects (item_respects version item >> items_respect version items (with_item plan item) whole)

-- the end of a text
end_is : (line : ℕ) (there : Tokens) → bare (last text_end line) ≡ bare there → (at : ℕ) × (there ≡ last text_end at)
end_is line (next token at rest) same = absurd cc
end_is line (last ending at) same = (at, cc)

-- ---- lexemes

bare_from : (all : Lexemes) → bare (tokens_from all) ≡ tokens_from (without_lines all)
bare_from (lexemes.next lexeme line rest) = ap (next (told lexeme) 0) (bare_from rest)
bare_from (lexemes.last ending line) = refl

bare_by : (a : Alphabet) (text other : List ℕ) → without_lines (lexemes_of a 1 text) ≡ without_lines (lexemes_of a 1 other) → bare (tokens_of a 1 text) ≡ bare (tokens_of a 1 other)
unfolding tokens_of
bare_by a text other same = bare_from (lexemes_of a 1 text) ∙ ap tokens_from same ∙ sym (bare_from (lexemes_of a 1 other))

bare_tokens : (version : _) (text other : List ℕ) → SameWords text other → bare (tokens_of (dots_of version) 1 text) ≡ bare (tokens_of (dots_of version) 1 other)
bare_tokens version text other same =
    let one_same = bare_by no_dots text other same.0 in
    let two_same = bare_by (dots_after 2) text other same.1 in
    grind (arith, one_same, two_same)

pub same_spells : (text other : List ℕ) (plan : Contents) → SameWords text other → Spells text plan → Spells other plan
unfolding token_of_word
same_spells text other plan same s =
    let begins = token (token_of_word (codes "plan")) >> token (word (version_word s.version)) in
    let items = items_respect s.version s.whole.items empty plan in
    let a = begins.over (tokens_of (dots_of s.version) 1 text) s.whole.start (tokens_of (dots_of s.version) 1 other) s.whole.begins (bare_tokens s.version text other same) in
    let b = items.over s.whole.start (last text_end s.line) a.0 s.whole.spelled a.1 in
    let at = end_is s.line b.0 b.1 in
    record {
      version = s.version;
      line = at.0;
      whole = record { items = s.whole.items; start = a.0; begins = a.2; spelled = subst (λ (to : Tokens). SpellsItems s.version s.whole.items empty a.0 plan to) at.1 b.2 };
    }

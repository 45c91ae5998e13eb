-- What a brief says does not depend on the lines of its tokens.
use Rattle.std.proofs.Common.{◌≡◌, ℕ, List, [], ◌∷◌, Option, Some, None, true, false, ap, sym, ◌∙◌, subst}
use Rattle.brief_text.specs.declared.syntax.Lengths.{Lengths}
use Rattle.brief_text.specs.Drafts.{Draft}
use Rattle.brief_text.specs.Fitting.{Says}
use Rattle.brief_text.specs.Grammar.{Phrase, one, SpellsName, SpellsAs, SpellsTo, SpellsData, SpellsExcepted, SpellsValues, SpellsChoice, SpellsMade, SpellsOften, SpellsFrame, SpellsBytes, SpellsNext, SpellsRefused, SpellsNames, SpellsSome, SpellsItem, SpellsItems, Spells}
use Rattle.brief_text.specs.Trees.{Said, spelled, named, Times, times, ranged, BriefFrame, write_to, read_from, BriefBytes, data_byte, made_byte, no_more, Made, header, packet_code, checksum, Choice, span, all_but, chosen, BriefTail, stop_here, go_on, BriefItem, device, byte, device_group, message, controller, extend, interrupt, never_both}
use Rattle.brief_text.specs.Words.{address_by, data_by, known_byte_by, repetition_by, so_often, from_to, side_by}
use Rattle.brief_tokens.specs.Tokens.{Token, Tokens, next, last}
use Rattle.layout.specs.SameWords.{SameWords}
use Rattle.lexer.specs.Lexemes.{text_end}
use Rattle.lexer.specs.declared.lexemes.Letters.{Letters}
use Rattle.text_laws.proofs.OpenedBriefs.{bare, end_of, same_opened}
use Rattle.text_laws.proofs.Phrases.{Respects, nothing_respects, ◌>>◌, or_respects, also_respects, some_respects}
use Rattle.message_tree.specs.declared.bits.Address.{Address}
use Rattle.message_tree.specs.declared.bits.Pattern.{Pattern}

abbrev Keeps : Phrase → Type 0
Keeps phrase = Respects bare end_of phrase

token : (t : Token) → Keeps (one t)
token t = record { over = over; ends = λ from to s. ap end_of s.1 }
  where
    over : (from to other : Tokens) → one t from to → bare from ≡ bare other → (there : Tokens) × (bare to ≡ bare there) × one t other there
    over from to (next u line rest) s same = let first : next t 0 (bare to) ≡ next u 0 (bare rest) = sym (ap bare s.1) ∙ same in (rest, cc, (line, cc))
    over from to (last ending line) s same = let first : next t 0 (bare to) ≡ last ending 0 = sym (ap bare s.1) ∙ same in absurd cc

-- ---- words

name_respects : (name : List ℕ) → Keeps (SpellsName name)
name_respects name = also_respects (token _)

as_respects : {A : Type 0} (reads : List ℕ → Option A) (value : A) → Keeps (SpellsAs reads value)
as_respects reads value = some_respects (λ bytes. token _)

to_respects : (to : Said Address) → Keeps (SpellsTo to)
to_respects (spelled address) = as_respects address_by address
to_respects (named name) = also_respects (name_respects name)

data_respects : (bits : Said Pattern) → Keeps (SpellsData bits)
data_respects (spelled bits) = or_respects (as_respects data_by bits) (also_respects (token _))
data_respects (named name) = also_respects (name_respects name)

often_respects : (range : Option Lengths) (often : Times) → Keeps (SpellsOften range often)
often_respects range (times n) = or_respects (also_respects nothing_respects) (also_respects (token _ >> as_respects repetition_by (so_often n)))
often_respects (Some range) ranged = also_respects (token _ >> as_respects repetition_by (from_to range.least range.greatest))
often_respects None ranged = record { over = λ from to other s same. absurd s; ends = λ from to s. absurd s }

excepted_respects : (least greatest : ℕ) → Keeps (SpellsExcepted least greatest)
excepted_respects least greatest = or_respects (token _) (also_respects (as_respects known_byte_by least))

values_respect : (choice : Choice) → Keeps (SpellsValues choice)
values_respect (span least greatest) = token _
values_respect (all_but least greatest) = token _ >> token _ >> excepted_respects least greatest

choice_respects : (range : Option Lengths) (choice : Choice) → Keeps (SpellsChoice range choice)
choice_respects range choice =
    let values = values_respect choice in
    record { over = λ from to other s same. let a = values.over from to other s.0 same in (a.0, a.1, (a.2, s.1, s.2)); ends = λ from to s. values.ends from to s.0 }

made_respects : (range : Option Lengths) (made : Made) → Keeps (SpellsMade range made)
made_respects range (header false to) = token _ >> token _ >> to_respects to >> token _
made_respects range (header true to) = token _ >> token _ >> to_respects to >> token _
made_respects range packet_code = token _
made_respects range checksum = token _
made_respects range (chosen choice) = choice_respects range choice

-- ---- messages

module _ (range : Option Lengths) where
  mutual
    frame_respects : (frame : BriefFrame) → Keeps (SpellsFrame range frame)
    frame_respects (write_to to refused acked) = token _ >> to_respects to >> refused_respects refused >> bytes_respect acked
    frame_respects (read_from to count refused after) = token _ >> to_respects to >> some_respects (λ bytes. token _) >> refused_respects refused >> next_respects after

    bytes_respect : (bytes : BriefBytes) → Keeps (SpellsBytes range bytes)
    bytes_respect (data_byte bits often refused acked) = data_respects bits >> often_respects range often >> refused_respects refused >> bytes_respect acked
    bytes_respect (made_byte made refused acked) = made_respects range made >> refused_respects refused >> bytes_respect acked
    bytes_respect (no_more tail) = next_respects tail

    next_respects : (tail : BriefTail) → Keeps (SpellsNext range tail)
    next_respects stop_here = nothing_respects
    next_respects (go_on frame) = frame_respects frame

    refused_respects : (tail : BriefTail) → Keeps (SpellsRefused range tail)
    refused_respects stop_here = or_respects nothing_respects (token _ >> token _)
    refused_respects (go_on frame) = token _ >> token _ >> frame_respects frame >> token _

-- ---- items

names_respect : (names : List (List ℕ)) → Keeps (SpellsNames names)
names_respect [] = nothing_respects
names_respect (name ∷ names) = name_respects name >> names_respect names

some_respect : (names : List (List ℕ)) → Keeps (SpellsSome names)
some_respect [] = record { over = λ from to other s same. absurd s; ends = λ from to s. absurd s }
some_respect (name ∷ names) = name_respects name >> names_respect names

module _ (letters : Letters) where
  item_respects : (item : BriefItem) → Keeps (SpellsItem letters item)
  item_respects (device name address) = token _ >> name_respects name >> as_respects address_by address >> token _
  item_respects (byte name bits) = token _ >> name_respects name >> as_respects data_by bits >> token _
  item_respects (device_group name devices) = token _ >> name_respects name >> some_respect devices >> token _
  item_respects (message name range frame) = token _ >> name_respects name >> frame_respects range frame >> token _
  item_respects (controller name messages) = token _ >> name_respects name >> names_respect messages >> token _
  item_respects (extend name messages) = token _ >> name_respects name >> names_respect messages >> token _
  item_respects (interrupt name to) = token _ >> name_respects name >> to_respects to >> token _
  item_respects (never_both first second) = token _ >> as_respects (side_by letters) first >> as_respects (side_by letters) second >> token _

  items_respect : (items : List BriefItem) → Keeps (SpellsItems letters items)
  items_respect [] = nothing_respects
  items_respect (item ∷ items) = item_respects item >> items_respect items

-- the end of a text
end_is : (line : ℕ) (there : Tokens) → bare (last text_end line) ≡ bare there → (at : ℕ) × (there ≡ last text_end at)
end_is line (next token at rest) same = absurd cc
end_is line (last ending at) same = (at, cc)

pub brief_ends : (text : List ℕ) (items : List BriefItem) (said : Spells text items) → end_of said.rest ≡ None
brief_ends text items said = (items_respect said.letters items).ends said.rest (last text_end said.line) said.whole

pub same_items : (text other : List ℕ) (items : List BriefItem) → SameWords text other → Spells text items → Spells other items
same_items text other items same said =
    let head = same_opened text other said.letters said.rest same said.head in
    let found = (items_respect said.letters items).over said.rest (last text_end said.line) head.0 said.whole head.2 in
    let at = end_is said.line found.0 found.1 in
    record {
      letters = said.letters;
      rest = head.0;
      line = at.0;
      head = head.1;
      whole = subst (λ (to : Tokens). SpellsItems said.letters items head.0 to) at.1 found.2;
    }

pub same_says : (text other : List ℕ) (draft after : Draft) → SameWords text other → Says text draft after → Says other draft after
same_says text other draft after same said =
    record { items = said.items; spelled = same_items text other said.items same said.spelled; made = said.made }

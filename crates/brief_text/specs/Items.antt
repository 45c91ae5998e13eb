-- The items of a brief: the tree of each, or its first refusal.
use Rattle.std.specs.Prelude.{ℕ, List, [], ◌∷◌, ◌++◌, Option, Some, None, Ok, Err}
use Rattle.message_tree.specs.declared.bits.Address.{Address}
use Rattle.message_tree.specs.declared.bits.Pattern.{Pattern}
use Rattle.message_tree.specs.Patterns.{address_bits}
use Rattle.plan_core.specs.Building.{interrupt_refusal}
use Rattle.plan_core.specs.declared.limits.TheConstants.{MOST_BYTES}
use Rattle.plan_core.specs.declared.builder.BuildError.{BuildError}
use Rattle.plan_text.specs.declared.errors.PlanError.TheVariants.{Unexpected}
use Rattle.plan_text.specs.Reader.{◌>>=◌, or_refused, unless_refused, ends_early}
use Rattle.lexer.specs.declared.lexemes.Letters.{Letters}
use Rattle.brief_tokens.specs.declared.symbols.Keyword.TheVariants as keywords
use Rattle.brief_tokens.specs.declared.symbols.Sign.TheVariants as signs
use Rattle.brief_text.specs.Drafts.{Draft, address_said, with_label}
use Rattle.brief_text.specs.Frames.{frames_at}
use Rattle.brief_text.specs.Judging.{named_refusal, device_refusal, grouped_refusal, message_refusal_of, controller_refusal_of, extend_refusal_of, listed_by}
use Rattle.brief_text.specs.Judging.{listing_refusal, all_of, first_refusal, second_refusal}
use Rattle.brief_text.specs.Places.{Place, Reads, token_as, name_in, name_at, end_in, past, to_at}
use Rattle.brief_tokens.specs.Tokens.{Token, keyword, word, sign, Tokens, next, last}
use Rattle.brief_text.specs.Trees.{Side, BriefItem, device, byte, device_group, message, controller, extend, interrupt, never_both}
use Rattle.brief_text.specs.Words.{address_by, data_by, known_number, side_by}

-- `device` and then a name, an address and `;`
abbrev pub address_in : Token → Option Address
address_in (word bytes) = address_by bytes
address_in token = None

unfoldable pub device_at : Draft → Place → Reads BriefItem
device_at draft at = do
  name ← name_at (named_refusal draft.devices) at
  address ← token_as address_in name.1
  after ← past end_in address.2
  Ok (device name.0 address.0, after)

-- `byte` and then a name, a data byte and `;`
abbrev pub pattern_in : Token → Option Pattern
pattern_in (word bytes) = data_by bytes
pattern_in token = None

unfoldable pub byte_at : Draft → Place → Reads BriefItem
byte_at draft at = do
  name ← name_at (named_refusal draft.bytes) at
  bits ← token_as pattern_in name.1
  after ← past end_in bits.2
  Ok (byte name.0 bits.0, after)

-- further names after these, each of which is not refused there, and `;`
abbrev pub names_from : (List (List ℕ) → List ℕ → Option BuildError) → List (List ℕ) → Tokens → Place → Reads (List (List ℕ))
names_from refusal before (next (sign signs.Semicolon) line rest) at = Ok (before, record at { tokens = rest })
names_from refusal before (next token line rest) at = do
  name ← or_refused (name_in token) (Unexpected line)
  allowed ← unless_refused (refusal before name) line name
  names_from refusal (before ++ allowed ∷ []) rest (record at { tokens = rest })
names_from refusal before (last ending line) at = Err (ends_early ending line)

-- `group` and then a name, one or more devices and `;`
unfoldable pub group_at : Draft → Place → Reads BriefItem
group_at draft at = do
  name ← name_at (named_refusal draft.devices) at
  first ← name_at (device_refusal draft []) name.1
  devices ← names_from (device_refusal draft) (first.0 ∷ []) first.1.tokens first.1
  Ok (device_group name.0 devices.0, devices.1)

-- `message` and then a name, frames and `;`, where what a group makes is judged
unfoldable pub message_at : Draft → Place → Reads BriefItem
message_at draft at = do
  name ← name_at (message_refusal_of draft) at
  frames ← frames_at (record { draft = draft; name = name.0 }) MOST_BYTES 1 (record name.1 { nodes = 0; range = None })
  end ← token_as end_in frames.1
  after ← grouped_refusal draft name.0 end.2.range frames.0 end.1 end.2
  Ok (message name.0 after.range frames.0, after)

-- a further name of a message or a family after these, in the list of a controller that has some messages already
abbrev pub listed_refusal : Draft → List (List ℕ) → List (List ℕ) → List ℕ → Option BuildError
listed_refusal draft has before name = listing_refusal draft has (all_of draft before) name

-- `controller` and then a name, names of messages and families, and `;`
unfoldable pub controller_at : Draft → Place → Reads BriefItem
controller_at draft at = do
  name ← name_at (controller_refusal_of draft) at
  messages ← names_from (listed_refusal draft []) [] name.1.tokens name.1
  Ok (controller name.0 messages.0, messages.1)

-- `extend` and then the name of a controller, names of further messages and families, and `;`
unfoldable pub extend_at : Draft → Place → Reads BriefItem
extend_at draft at = do
  name ← name_at (extend_refusal_of draft) at
  messages ← names_from (listed_refusal draft (listed_by draft name.0)) [] name.1.tokens name.1
  Ok (extend name.0 messages.0, messages.1)

-- `interrupt` and then a name, an address that is known in all bits, and `;`
unfoldable pub interrupt_at : Draft → Place → Reads BriefItem
interrupt_at draft at = do
  name ← name_at (interrupt_refusal draft.plan) at
  to ← to_at draft name.1
  known ← or_refused (known_number 0 (address_bits (address_said draft to.0))) (Unexpected to.1)
  after ← past end_in to.2
  Ok (interrupt name.0 to.0, after)

-- a controller by its name, or what it sends by a label
abbrev pub side_in : Letters → Token → Option Side
side_in letters (word bytes) = side_by letters bytes
side_in letters token = None

-- `never` and then two of these and `;`
unfoldable pub never_at : Letters → Draft → Place → Reads BriefItem
never_at letters draft at = do
  first ← token_as (side_in letters) at
  named ← unless_refused (first_refusal draft first.0) first.1 (with_label draft first.0)
  second ← token_as (side_in letters) first.2
  allowed ← unless_refused (second_refusal named first.0 second.0) second.1 second.2
  after ← past end_in allowed
  Ok (never_both first.0 second.0, after)

-- what follows the keyword of an item
abbrev pub item_in : Letters → Token → Option (Draft → Place → Reads BriefItem)
item_in letters (keyword keywords.Device) = Some device_at
item_in letters (keyword keywords.Byte) = Some byte_at
item_in letters (keyword keywords.Group) = Some group_at
item_in letters (keyword keywords.Message) = Some message_at
item_in letters (keyword keywords.Controller) = Some controller_at
item_in letters (keyword keywords.Extend) = Some extend_at
item_in letters (keyword keywords.Interrupt) = Some interrupt_at
item_in letters (keyword keywords.Never) = Some (never_at letters)
item_in letters token = None

-- an item of a text with these letters
unfoldable pub item_at : Letters → Draft → Place → Reads BriefItem
item_at letters draft at = do
  item ← token_as (item_in letters) at
  item.0 draft item.2

-- How a text is read, from byte to byte: what is read and the place after it, or the first refusal of its form. That is a
-- byte that cannot stand in its place, or that completes a token for which its path has no room. `CertFault` in
-- src/errors.rt has the codes.
use Rattle.std.specs.Prelude.{ℕ, zero, suc, ◌+◌, ◌-◌, ◌*◌, ◌^◌, Bool, ◌&&◌, true, false, nat_le, nat_lt, ◌==◌}
use Rattle.std.specs.Prelude.{List, [], ◌∷◌, ◌++◌, length, drop, Option, Some, None, Result, Ok, Err, codes, if◌then◌else◌}
use Rattle.std.specs.Char.{is_ascii_digit}
use Rattle.message_tree.specs.Codes.{code}
use Rattle.message_tree.specs.declared.items.Item.{Item}
use Rattle.message_tree.specs.declared.items.Item.TheVariants as item
use Rattle.message_tree.specs.declared.items.Kind.{Kind}
use Rattle.message_tree.specs.declared.items.Kind.TheVariants as kinds
use Rattle.message_tree.specs.Symbols.{kind_word}
use Rattle.certificate.specs.declared.proofs.Token.{Token}
use Rattle.certificate.specs.declared.proofs.Token.TheVariants as token
use Rattle.certificate.specs.Proofs.{ProofTree, part, short, byte, read, again, alike}

-- what a text is refused for by its form, and the line
pub data FormFault : Type 0 where
  misplaced : (line : ℕ) → FormFault
  too_deep : (line : ℕ) → FormFault

-- a place in a text: the bytes that are left, and the line on which the first of them stands
pub record Place : Type 0 where
  pub line : ℕ
  pub rest : List ℕ

-- what is read and the place after it, or the refusal
abbrev pub Reads : Type 0 → Type 0
Reads A = Result (A × Place) FormFault

-- one after the other, up to a refusal
infixl 10 ◌>>=◌
abbrev pub ◌>>=◌ : {A B : Type 0} → Result A FormFault → (A → Result B FormFault) → Result B FormFault
(Ok x) >>= f = f x
(Err fault) >>= f = Err fault

-- what stands for a byte, where it stands for something
abbrev pub known : {A B : Type 0} → ℕ → Option A → (A → Result B FormFault) → Result B FormFault
known line (Some x) f = f x
known line None f = Err (misplaced line)

-- ---- bytes

-- a line ends with its line feed
abbrev pub line_after : ℕ → ℕ → ℕ
line_after line b = if b == code "\n" then line + 1 else line

abbrev next : ℕ → List ℕ → Reads ℕ
next line [] = Err (misplaced line)
next line (b ∷ rest) = Ok (b, record { line = line_after line b; rest = rest })

abbrev pub byte_at : Place → Reads ℕ
byte_at at = next at.line at.rest

abbrev pub this_at : ℕ → Place → Result Place FormFault
this_at value at = do
  b ← byte_at at
  if b.0 == value then Ok b.1 else Err (misplaced at.line)

-- each of these bytes
abbrev pub each_at : List ℕ → Place → Result Place FormFault
each_at [] at = Ok at
each_at (b ∷ bytes) at = this_at b at >>= each_at bytes

-- ---- numbers: decimal, without leading zeros, below 2 to the power 32, up to the byte that ends them

-- the digits of this number go on
abbrev pub digits_at : ℕ → ℕ → ℕ → List ℕ → Reads ℕ
digits_at number end line [] = Err (misplaced line)
digits_at number end line (b ∷ rest) =
    if b == end then Ok (number, record { line = line_after line b; rest = rest })
    else if is_ascii_digit b && nat_lt (number * 10 + (b - code "0")) (2 ^ 32)
    then digits_at (number * 10 + (b - code "0")) end (line_after line b) rest
    else Err (misplaced line)

-- `0` stands alone
abbrev pub number_at : ℕ → Place → Reads ℕ
number_at end at = do
  b ← byte_at at
  if b.0 == code "0" then (this_at end b.1 >>= λ after. Ok (0, after))
      else if is_ascii_digit b.0 then digits_at (b.0 - code "0") end b.1.line b.1.rest
      else Err (misplaced at.line)

-- ---- wires and kinds

-- the item of a wire that a symbol stands for
abbrev pub item_of : ℕ → Option Item
item_of symbol =
    if symbol == code "0" then Some (item.Sent false)
    else if symbol == code "1" then Some (item.Sent true)
    else if symbol == code "l" then Some (item.Heard false)
    else if symbol == code "h" then Some (item.Heard true)
    else if symbol == code "r" then Some item.Again
    else None

-- further symbols after these items, and the space after them
abbrev pub symbols_at : List Item → ℕ → List ℕ → Reads (List Item)
symbols_at items line [] = Err (misplaced line)
symbols_at items line (b ∷ rest) =
    if b == code " " then Ok (items, record { line = line_after line b; rest = rest })
    else known line (item_of b) (λ it. symbols_at (items ++ it ∷ []) (line_after line b) rest)

abbrev pub wire_at : Place → Reads (List Item)
wire_at at = do
  b ← byte_at at
  known at.line (item_of b.0) (λ it. symbols_at (it ∷ []) b.1.line b.1.rest)

-- the kind whose word begins with a letter
abbrev pub kind_of_letter : ℕ → Option Kind
kind_of_letter letter =
    if letter == code "d" then Some kinds.Sent
    else if letter == code "a" then Some kinds.Heard
    else if letter == code "r" then Some kinds.Again
    else if letter == code "s" then Some kinds.Stop
    else if letter == code "c" then Some kinds.Claim
    else None

abbrev pub kind_at : Place → Reads Kind
kind_at at = do
  b ← byte_at at
  known at.line (kind_of_letter b.0) (λ kind. each_at (drop 1 (kind_word kind)) b.1 >>= λ after. Ok (kind, after))

-- a wire, two kinds and the end of the line
unfoldable pub fault_at : Place → Reads (List Item × Kind × Kind)
fault_at at = do
  wire ← wire_at at
  first ← kind_at wire.1
  space ← this_at (code " ") first.1
  second ← kind_at space
  after ← this_at (code "\n") second.1
  Ok ((wire.0, first.0, second.0), after)

-- ---- proofs

abbrev pub is_place : ℕ → Bool
is_place digit = nat_le (code "0") digit && nat_le digit (code "7")

abbrev pub bit_place_at : Place → Reads ℕ
bit_place_at at = do
  b ← byte_at at
  if is_place b.0 then Ok (b.0 - code "0", b.1) else Err (misplaced at.line)

-- the token that is one letter
abbrev pub token_of_letter : ℕ → Option Token
token_of_letter letter =
    if letter == code "R" then Some token.Short
    else if letter == code "." then Some token.Alike
    else if letter == code "S" then Some token.Again
    else if letter == code "B" then Some token.Byte
    else if letter == code "D" then Some token.Read
    else None

-- the token of a node, before the proofs below it
abbrev pub token_at : Place → Reads Token
token_at at = do
  b ← byte_at at
  if b.0 == code "P" then (bit_place_at b.1 >>= λ k. Ok (token.Part k.0, k.1))
      else known at.line (token_of_letter b.0) (λ letter. Ok (letter, b.1))

-- a node: of each proof below it this is read
abbrev pub node_at : (Place → Reads ProofTree) → Token → Place → Reads ProofTree
node_at below (token.Part k) at = Ok (part k, at)
node_at below token.Short at = Ok (short, at)
node_at below token.Alike at = Ok (alike, at)
node_at below token.Again at = do
  frames ← below at
  Ok (again frames.0, frames.1)
node_at below token.Byte at = do
  acked ← below at
  refused ← below acked.1
  Ok (byte acked.0 refused.0, refused.1)
node_at below token.Read at = do
  after ← below at
  refused ← below after.1
  Ok (read after.0 refused.0, refused.1)

-- a space, and a proof
abbrev pub spaced : (Place → Reads ProofTree) → Place → Reads ProofTree
spaced proof at = this_at (code " ") at >>= proof

-- a node with this token, where there is room for so many nodes on a path
unfoldable pub node_in : ℕ → Token → Place → Reads ProofTree
node_in zero letter at = Err (too_deep at.line)
node_in (suc room) letter at = node_at (spaced (λ below. token_at below >>= λ next. node_in room next.0 next.1)) letter at

abbrev pub proof_at : ℕ → Place → Reads ProofTree
proof_at room at = do
  letter ← token_at at
  node_in room letter.0 letter.1

-- a proof and the end of its line
unfoldable pub line_at : Place → Reads ProofTree
line_at at = do
  tree ← proof_at 512 at
  after ← this_at (code "\n") tree.1
  Ok (tree.0, after)

-- so many lines at most
unfoldable pub lines_in : ℕ → ℕ → List ℕ → Result (List ProofTree) FormFault
lines_in most line [] = Ok []
lines_in zero line (b ∷ rest) = Err (misplaced line)
lines_in (suc most) line (b ∷ rest) = do
  first ← line_at (record { line = line; rest = b ∷ rest })
  others ← lines_in most first.1.line first.1.rest
  Ok (first.0 ∷ others)

-- lines up to the end of the text, of which each takes a byte at least
abbrev pub lines_at : Place → Result (List ProofTree) FormFault
lines_at at = lines_in (length at.rest) at.line at.rest

-- ---- texts

-- what a text of this form says: as many proofs as it has, beside the number that it announces; or a fault of a pair
pub data Said : Type 0 where
  announced : (number : ℕ) (trees : List ProofTree) → Said
  faulty : (pair : ℕ) (wire : List Item) (first second : Kind) → Said

-- after `p`: the number of proofs
unfoldable pub pairs_at : Place → Reads ℕ
pairs_at at = do
  word ← each_at (codes "airs ") at
  number_at (code "\n") word

-- after `f`: the number of a pair, and where it clashes, which is the whole text
unfoldable pub flaw_at : Place → Result Said FormFault
flaw_at at = do
  word ← each_at (codes "ault ") at
  pair ← number_at (code " ") word
  fault ← fault_at pair.1
  if length fault.1.rest == 0 then Ok (faulty pair.0 fault.0.0 fault.0.1 fault.0.2) else Err (misplaced fault.1.line)

-- the first place of a text
abbrev pub start : List ℕ → Place
start text = record { line = 1; rest = text }

-- after `p`: the number of proofs, and the proofs
abbrev pub proofs_from : Place → Result Said FormFault
proofs_from at = do
  number ← pairs_at at
  trees ← lines_at number.1
  Ok (announced number.0 trees)

-- a whole text
unfoldable pub text_said : List ℕ → Result Said FormFault
text_said text = do
  version ← each_at (codes "cert 1\n") (start text)
  letter ← byte_at version
  if letter.0 == code "p" then proofs_from letter.1
      else if letter.0 == code "f" then flaw_at letter.1
      else Err (misplaced version.line)

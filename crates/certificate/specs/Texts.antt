-- The text of a certificate. Each value has one spelling: a line ends with one line feed, and between two tokens of a
-- line stands one space. The form is ours.
use Rattle.std.specs.Prelude.{◌≡◌, ◌≢◌, ℕ, ◌+◌, ◌<◌, ◌≤◌, ◌^◌, max, List, [], ◌++◌, length, codes, decimal, All}
use Rattle.std.specs.List.{flat_map}
use Rattle.message_tree.specs.declared.items.Item.{Item}
use Rattle.message_tree.specs.declared.items.Item.TheVariants as item
use Rattle.message_tree.specs.declared.items.Kind.{Kind}
use Rattle.message_tree.specs.Symbols.{wire_text, kind_word}
use Rattle.certificate.specs.Certificates.{Certificate, proofs, flaw}
use Rattle.certificate.specs.Proofs.{ProofTree, part, short, byte, read, again, alike}

-- a token for each node, before the nodes below it; what follows an acknowledge comes first
abbrev pub proof_text : ProofTree → List ℕ
proof_text (part place) = codes "P" ++ decimal place
proof_text short = codes "R"
proof_text (byte acked refused) = codes "B " ++ (proof_text acked ++ (codes " " ++ proof_text refused))
proof_text (read after refused) = codes "D " ++ (proof_text after ++ (codes " " ++ proof_text refused))
proof_text (again frames) = codes "S " ++ proof_text frames
proof_text alike = codes "."

abbrev pub proof_line : ProofTree → List ℕ
proof_line tree = proof_text tree ++ codes "\n"

-- the number of proofs as it is announced, and the proofs
abbrev pub proofs_text : ℕ → List ProofTree → List ℕ
proofs_text number trees = codes "pairs " ++ (decimal number ++ (codes "\n" ++ flat_map proof_line trees))

-- a wire, and the kinds that meet after it
abbrev pub fault_text : List Item → Kind → Kind → List ℕ
fault_text wire first second =
    wire_text wire ++ (codes " " ++ (kind_word first ++ (codes " " ++ (kind_word second ++ codes "\n"))))

abbrev pub flaw_text : ℕ → List Item → Kind → Kind → List ℕ
flaw_text pair wire first second = codes "fault " ++ (decimal pair ++ (codes " " ++ fault_text wire first second))

abbrev pub cert_text : Certificate → List ℕ
cert_text (proofs trees) = codes "cert 1\n" ++ proofs_text (length trees) trees
cert_text (flaw pair wire first second) = codes "cert 1\n" ++ flaw_text pair wire first second

-- each place of a known and different bit is one of a header or of a data byte
abbrev pub HasPlaces : ProofTree → Type 0
HasPlaces (part place) = place < 8
HasPlaces short = Unit {0}
HasPlaces (byte acked refused) = HasPlaces acked × HasPlaces refused
HasPlaces (read after refused) = HasPlaces after × HasPlaces refused
HasPlaces (again frames) = HasPlaces frames
HasPlaces alike = Unit {0}

-- the nodes on the longest path from the root
abbrev pub height : ProofTree → ℕ
height (part place) = 1
height short = 1
height (byte acked refused) = 1 + max (height acked) (height refused)
height (read after refused) = 1 + max (height after) (height refused)
height (again frames) = 1 + height frames
height alike = 1

-- a proof of at most so many nodes on a path
pub record IsPrintableProof (room : ℕ) (tree : ProofTree) : Type 0 where
  pub places : HasPlaces tree
  pub path : height tree ≤ room

-- the bytes are the line of a proof, with its line feed
pub record SpellsLine (bytes : List ℕ) (tree : ProofTree) : Type 0 where
  pub printable : IsPrintableProof 512 tree
  pub text_is : bytes ≡ proof_line tree

-- a wire goes on, so it has no STOP and no claim
abbrev pub GoesOn : Item → Type 0
GoesOn (item.Sent bit) = Unit {0}
GoesOn (item.Heard bit) = Unit {0}
GoesOn item.Again = Unit {0}
GoesOn item.Stop = ⊥
GoesOn item.Claim = ⊥

-- the values that a text can have
abbrev pub IsPrintable : Certificate → Type 0
IsPrintable (proofs trees) = All (IsPrintableProof 512) trees × (length trees < 2 ^ 32)
IsPrintable (flaw pair wire first second) = (pair < 2 ^ 32) × (wire ≢ []) × All GoesOn wire

pub record Spells (text : List ℕ) (value : Certificate) : Type 0 where
  pub printable : IsPrintable value
  pub text_is : text ≡ cert_text value

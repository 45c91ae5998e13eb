-- What is spelled so is read again, within the limits.
use Rattle.std.proofs.Common.{◌≡◌, ℕ, ◌+◌, ◌-◌, ◌<◌, ◌≤◌, List, [], ◌∷◌, ◌++◌, Option, Bool, true, Some, None, refl, ap, sym, ◌∙◌, arith, append_assoc, append-nil}
use Rattle.std.specs.Prelude.{Ok, Err, nat_le, nat_lt, if◌then◌else◌}
use Rattle.std.proofs.lemmas.Bool.{and_from, lt-ltb}
use Rattle.message_tree.specs.Counts.{greatest_of}
use Rattle.message_tree.specs.declared.counts.Count.{Count}
use Rattle.message_tree.specs.Sizes.{frame_bytes, payload_bytes, tail_bytes, frame_nodes, payload_nodes, tail_nodes}
use Rattle.message_tree.specs.Trees.{FrameTree, write, read, PayloadTree, byte, last, TailTree, stop, again}
use Rattle.plan_core.specs.Building.{message_name_refusal, controller_name_refusal, interrupt_refusal, list_refusal, never_refusal}
use Rattle.plan_core.specs.Contents.{Contents}
use Rattle.plan_core.specs.Names.{IsName}
use Rattle.plan_core.specs.declared.builder.BuildError.{BuildError}
use Rattle.plan_core.specs.declared.limits.TheConstants.{MOST_BYTES, MOST_NODES}
use Rattle.plan_core.proofs.BuildingLemmas.{message_parts, controller_parts, size_allowed}
use Rattle.plan_text.specs.Symbols.{address_word, pattern_word, interrupt_word}
use Rattle.plan_text.specs.declared.errors.PlanError.TheVariants.{Unexpected, TooLong}
use Rattle.plan_text.specs.declared.symbols.Keyword.TheVariants as keywords
use Rattle.plan_text.specs.declared.versions.Version.{Version}
use Rattle.plan_text.specs.declared.versions.Version.TheVariants as versions
use Rattle.plan_text.specs.Grammar.{one, SpellsName, SpellsCount, SpellsFrame, SpellsPayload, SpellsTail, SpellsNames, Item, message, controller, interrupt, never_both, SpellsItem, Fits, with_item}
use Rattle.plan_text.specs.Places.{node_at, tail_at, payload_at}
use Rattle.plan_text.specs.Reader.{Place, ◌>>=◌, or_refused, first_as, token_as, else_of, else_at, end_of, end_at, address_in, ends_in, count_at, writes, reads, form_in, frame_at, known_address_in, name_in, name_at, unknown_controller, sendings_from, message_at, controller_at, interrupt_at, never_at, item_in, item_at}
use Rattle.plan_text.specs.Tokens.{Token, keyword, word, semicolon, Tokens}
use Rattle.plan_text.proofs.NameLemmas.{list_taken, known_first}
use Rattle.plan_text.proofs.StepLemmas.{write_in_is, read_in_is, byte_in_is}
use Rattle.plan_text.proofs.ValueLemmas.{address_found, pattern_found, known_found, count_found}

abbrev pub spot : Tokens → ℕ → Place
spot tokens nodes = record { tokens = tokens; nodes = nodes }

-- ---- tokens

pub token_again : {A : Type 0} (what : Token → Option A) (token : Token) (x : A) (nodes : ℕ) (from rest : Tokens) (first : one token from rest) → what token ≡ Some x → token_as what (spot from nodes) ≡ Ok (x, first.0, spot rest nodes)
token_again what token x nodes from rest first known =
    ap (λ (t : Tokens). first_as what t nodes) first.1 ∙ ap (λ (o : Option _). or_refused o (Unexpected first.0) >>= λ y. Ok (y, first.0, spot rest nodes)) known

else_again : (nodes : ℕ) (from rest : Tokens) → one (keyword keywords.Else) from rest → else_at (spot from nodes) ≡ Ok (spot rest nodes)
else_again nodes from rest first = rw (token_again else_of (keyword keywords.Else) tt nodes from rest first refl) refl

end_again : (nodes : ℕ) (from rest : Tokens) → one semicolon from rest → end_at (spot from nodes) ≡ Ok (spot rest nodes)
end_again nodes from rest first = rw (token_again end_of semicolon tt nodes from rest first refl) refl

leb_is : (m n : ℕ) → m ≤ n → nat_le m n ≡ true
leb_is m n h = grind arith

count_again : (c : Count) (room nodes : ℕ) (from rest : Tokens) → SpellsCount c from rest → greatest_of c ≤ room → count_at room (spot from nodes) ≡ Ok (c, spot rest nodes)
count_again c room nodes from rest s fits =
    rw (token_again ends_in (word s.0) s.2.ends nodes from rest s.1 s.2.form, count_found s.2.ends c s.2.least s.2.greatest, leb_is (greatest_of c) room fits) refl

node_again : (room line nodes : ℕ) (tokens : Tokens) → 0 < room → nodes < MOST_NODES → node_at room line (spot tokens nodes) ≡ Ok (room - 1, spot tokens (nodes + 1))
node_again room line nodes tokens some fits =
    ap (λ (t : Bool). if t then Ok (room - 1, spot tokens (nodes + 1)) else Err (TooLong line)) (and_from (nat_lt 0 room) (nat_lt nodes MOST_NODES) (lt-ltb 0 room some) (lt-ltb nodes MOST_NODES fits))

-- ---- messages

mutual
  pub frame_again : (f : FrameTree) (room nodes : ℕ) (from to : Tokens) → SpellsFrame f from to → frame_bytes f ≤ room → nodes + frame_nodes f ≤ MOST_NODES → frame_at room (spot from nodes) ≡ Ok (f, spot to (nodes + frame_nodes f))
  frame_again (write a p t) room nodes from to s path fits =
      let form = token_again form_in (keyword keywords.Write) writes nodes from s.0 s.1 refl in
      let address = token_again address_in (word (address_word a)) a nodes s.0 s.2.0 s.2.1 (address_found (address_word a) a refl) in
      let node = node_again room s.2.1.0 nodes s.2.0 (omega arith) (omega arith) in
      let acked = payload_again p (room - 1) (nodes + 1) s.2.0 s.2.2.0 s.2.2.1 (omega arith) (omega arith) in
      let middle = else_again (nodes + 1 + payload_nodes p) s.2.2.0 s.2.2.2.0 s.2.2.2.1 in
      let refused = tail_again t (room - 1) (nodes + 1 + payload_nodes p) s.2.2.2.0 to s.2.2.2.2 (omega arith) (omega arith) in
      let sum : nodes + 1 + payload_nodes p + tail_nodes t ≡ nodes + (payload_nodes p + tail_nodes t + 1) = omega arith in
      rw (form, address, write_in_is room s.2.1.0 a (spot s.2.0 nodes), node, acked, middle, refused, sum) refl
  frame_again (read a c v t) room nodes from to s path fits =
      let form = token_again form_in (keyword keywords.Read) reads nodes from s.0 s.1 refl in
      let address = token_again address_in (word (address_word a)) a nodes s.0 s.2.0 s.2.1 (address_found (address_word a) a refl) in
      let node = node_again room s.2.1.0 nodes s.2.0 (omega arith) (omega arith) in
      let count = count_again c (room - 1) (nodes + 1) s.2.0 s.2.2.0 s.2.2.1 (omega arith) in
      let after = tail_again v (room - 1 - greatest_of c) (nodes + 1) s.2.2.0 s.2.2.2.0 s.2.2.2.1 (omega arith) (omega arith) in
      let middle = else_again (nodes + 1 + tail_nodes v) s.2.2.2.0 s.2.2.2.2.0 s.2.2.2.2.1 in
      let refused = tail_again t (room - 1) (nodes + 1 + tail_nodes v) s.2.2.2.2.0 to s.2.2.2.2.2 (omega arith) (omega arith) in
      let sum : nodes + 1 + tail_nodes v + tail_nodes t ≡ nodes + (tail_nodes v + tail_nodes t + 1) = omega arith in
      rw (form, address, read_in_is room s.2.1.0 a (spot s.2.0 nodes), node, count, after, middle, refused, sum) refl

  payload_again : (f : PayloadTree) (room nodes : ℕ) (from to : Tokens) → SpellsPayload f from to → payload_bytes f ≤ room → nodes + payload_nodes f ≤ MOST_NODES → payload_at room (spot from nodes) ≡ Ok (f, spot to (nodes + payload_nodes f))
  payload_again (byte b p t) room nodes from to s path fits =
      let node = node_again room s.1.0 nodes s.0 (omega arith) (omega arith) in
      let acked = payload_again p (room - 1) (nodes + 1) s.0 s.2.0 s.2.1 (omega arith) (omega arith) in
      let middle = else_again (nodes + 1 + payload_nodes p) s.2.0 s.2.2.0 s.2.2.1 in
      let refused = tail_again t (room - 1) (nodes + 1 + payload_nodes p) s.2.2.0 to s.2.2.2 (omega arith) (omega arith) in
      let sum : nodes + 1 + payload_nodes p + tail_nodes t ≡ nodes + (payload_nodes p + tail_nodes t + 1) = omega arith in
      rw (s.1.1, pattern_found (pattern_word b) b refl, byte_in_is room s.1.0 b (spot s.0 nodes), node, acked, middle, refused, sum) refl
  payload_again (last stop) room nodes from to s path fits =
      let none : nodes + 0 ≡ nodes = omega arith in
      rw (s.1, none) refl
  payload_again (last (again f)) room nodes from to s path fits = rw (s.1.1, frame_again f room nodes s.0 to s.2 path fits) refl

  tail_again : (f : TailTree) (room nodes : ℕ) (from to : Tokens) → SpellsTail f from to → tail_bytes f ≤ room → nodes + tail_nodes f ≤ MOST_NODES → tail_at room (spot from nodes) ≡ Ok (f, spot to (nodes + tail_nodes f))
  tail_again stop room nodes from to s path fits =
      let none : nodes + 0 ≡ nodes = omega arith in
      rw (s.1, none) refl
  tail_again (again f) room nodes from to s path fits = rw (s.1.1, frame_again f room nodes s.0 to s.2 path fits) refl

-- ---- items

name_found : (bytes : List ℕ) → IsName bytes → name_in (word bytes) ≡ Some bytes
name_found bytes is = rw is refl

name_again : (refusal : List ℕ → Option BuildError) (name : List ℕ) (nodes : ℕ) (from rest : Tokens) → SpellsName name from rest → refusal name ≡ None → name_at refusal (spot from nodes) ≡ Ok (name, spot rest nodes)
name_again refusal name nodes from rest s allowed = rw (token_again name_in (word name) name nodes from rest s.0 (name_found name s.1), allowed) refl

names_again : (names : List (List ℕ)) (plan : Contents) (before : List (List ℕ)) (nodes : ℕ) (from between to : Tokens) → list_refusal plan before names ≡ None → SpellsNames names from between → one semicolon between to → sendings_from plan before from nodes ≡ Ok (before ++ names, spot to nodes)
names_again [] plan before nodes from between to h s e = rw (sym s ∙ e.1, append-nil before) refl
names_again (n ∷ names) plan before nodes from between to h s e =
    let taken = list_taken plan before n names h in
    rw (s.1.0.1, s.1.1, taken.0) (names_again names plan (before ++ n ∷ []) nodes s.0 between to taken.1 s.2 e ∙ ap (λ (ns : List (List ℕ)). Ok (ns, spot to nodes)) (append_assoc before (n ∷ []) names))

-- an item is read again, whatever the nodes of the messages before it
pub item_again : (version : Version) (i : Item) (plan : Contents) (nodes : ℕ) (from to : Tokens) → Fits plan i → SpellsItem version i from to → (after : ℕ) × (item_at version plan (spot from nodes) ≡ Ok (with_item plan i, spot to after))
unfolding item_at message_at controller_at interrupt_at never_at
item_again version (message n f) plan nodes from to fits s =
    let taken = message_parts plan n f fits in
    let sized = size_allowed f taken.1 in
    let start = token_again (item_in version) (keyword keywords.Message) message_at nodes from s.0 s.1 refl in
    let name = name_again (message_name_refusal plan) n nodes s.0 s.2.0 s.2.1 taken.0 in
    let whole = frame_again f MOST_BYTES 0 s.2.0 s.2.2.0 s.2.2.1 sized.0 (let h = sized.1 in omega (arith, h)) in
    (0 + frame_nodes f, rw (start, name, whole, end_again (0 + frame_nodes f) s.2.2.0 to s.2.2.2) refl)
item_again version (controller n names) plan nodes from to fits s =
    let taken = controller_parts plan n names fits in
    let start = token_again (item_in version) (keyword keywords.Controller) controller_at nodes from s.0 s.1 refl in
    let name = name_again (controller_name_refusal plan) n nodes s.0 s.2.0 s.2.1 taken.0 in
    (nodes, rw (start, name, names_again names plan [] nodes s.2.0 s.2.2.0 to taken.1 s.2.2.1 s.2.2.2) refl)
item_again version (interrupt n address) plan nodes from to fits s =
    let start = token_again (item_in version) (keyword keywords.Interrupt) interrupt_at nodes from s.0 s.1 refl in
    let name = name_again (interrupt_refusal plan) n nodes s.0 s.2.0 s.2.1 fits.0 in
    let bits = token_again known_address_in (word (interrupt_word address)) address nodes s.2.0 s.2.2.0 s.2.2.1 (known_found (interrupt_word address) address fits.1 refl) in
    (nodes, rw (start, name, bits, end_again nodes s.2.2.0 to s.2.2.2) refl)
item_again versions.One (never_both first second) plan nodes from to fits s = absurd s
item_again versions.Two (never_both first second) plan nodes from to fits s =
    let start = token_again (item_in versions.Two) (keyword keywords.Never) never_at nodes from s.0 s.1 refl in
    let one_name = name_again (unknown_controller plan) first nodes s.0 s.2.0 s.2.1 (known_first plan first second fits) in
    let other = name_again (never_refusal plan first) second nodes s.2.0 s.2.2.0 s.2.2.1 fits in
    (nodes, rw (start, one_name, other, end_again nodes s.2.2.0 to s.2.2.2) refl)

-- The word of one slot: it counts who has put there, and what.
use Rattle.std.specs.Prelude.{ℕ, ◌+◌, ◌/◌, ◌%◌, Bool, true, false, if◌then◌else◌, ◌==◌, List, Option, Some, None, slice_get}
use Rattle.std.specs.List.{sum_by, count_by}
use Rattle.message_tree.specs.declared.items.Item.{Item}
use Rattle.message_tree.specs.declared.items.Item.TheVariants as item
use Rattle.plan_core.specs.Lawful.{Set}
use Rattle.plays.specs.declared.puts.Put.{Put}
use Rattle.plays.specs.declared.puts.Put.TheVariants.{Drive, Listen, Again, Stop, Claim}
use Rattle.plays.specs.declared.tally.TheConstants.{ARRIVED, ZERO, AGAIN, STOP, LISTEN, CLAIM, FIELD}
use Rattle.plays.specs.Plays.{Puts}

-- Fields of ten bits, from the low end on: who has put, and of them those who put a 0, a repeated START, a STOP, who
-- listen, and who claim. Each put counts once in the first, and once in that of its kind.
abbrev pub contribution : Put → ℕ
contribution (Drive true) = ARRIVED
contribution (Drive false) = ARRIVED + ZERO
contribution Again = ARRIVED + AGAIN
contribution Stop = ARRIVED + STOP
contribution Listen = ARRIVED + LISTEN
contribution Claim = ARRIVED + CLAIM

-- nothing, where there is no put
abbrev pub contribution_of : Option Put → ℕ
contribution_of None = 0
contribution_of (Some x) = contribution x

-- the word of slot k
abbrev pub word_of : List ℕ → Puts → ℕ → ℕ
word_of starters puts k = sum_by (λ p. contribution_of (slice_get (puts p) k)) starters

-- how many of a list are in a set
abbrev pub count_in : List ℕ → Set → ℕ
count_in xs s = count_by s xs

-- what the field counts in which this is one put
abbrev pub field : ℕ → ℕ → ℕ
field one n = n / one % FIELD

-- how many have put
abbrev pub arrivals_in : ℕ → ℕ
arrivals_in n = n % FIELD

abbrev pub zeros_in : ℕ → ℕ
zeros_in n = field ZERO n

-- the item that the wire shows in a slot with this word, in which all who are live have put and the targets' bit is b
abbrev pub shown_in : ℕ → Bool → Item
shown_in n b =
    if zeros_in n == 0 then
    if field AGAIN n == 0 then
    if field STOP n == 0 then
    if field LISTEN n == 0 then
    if field CLAIM n == 0 then item.Sent true else item.Claim
    else item.Heard b
    else item.Stop
    else item.Again
    else item.Sent false

-- how many stay live after such a slot, of so many before it: where somebody put a 0, those who did
abbrev pub left_in : ℕ → ℕ → ℕ
left_in n live = if zeros_in n == 0 then live else zeros_in n

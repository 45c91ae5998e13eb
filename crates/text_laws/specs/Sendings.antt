-- Which messages a controller of the briefs lists, and which of them a part of it sends.
use Rattle.std.specs.Prelude.{ℕ, Bool, List}
use Rattle.std.specs.List.{list_any}
use Rattle.std.specs.Str.{bytes_eq}
use Rattle.brief_text.specs.Splitting.{Part}

-- the message is one of those that the controller lists
abbrev pub lists : List ℕ × List (List ℕ) → List ℕ → Bool
lists controller message = list_any (λ other. bytes_eq other message) controller.1

-- the message is one of the part's
abbrev pub sends : List ℕ → Part → Bool
sends message part = list_any (λ other. bytes_eq other message) part.messages

-- What follows a part of a message is no token that would belong to it.
use Rattle.std.proofs.Common.{◌≡◌, ℕ, Bool, true, false, Option, Some, None, refl, ap, sym, ◌∙◌, inl, inr}
use Rattle.std.specs.Prelude.{Ok}
use Rattle.message_tree.specs.declared.bits.Pattern.{Pattern}
use Rattle.brief_tokens.specs.declared.symbols.Keyword.TheVariants as keywords
use Rattle.brief_tokens.specs.declared.symbols.Sign.TheVariants as signs
use Rattle.brief_text.specs.declared.syntax.Lengths.{Lengths}
use Rattle.brief_text.specs.Drafts.{Draft}
use Rattle.brief_text.specs.Frames.{Around, Frames, next_from, refused_from, often_from, begins_data, begins_but, begins_made}
use Rattle.brief_text.specs.Grammar.{SpellsData, SpellsMade, SpellsOften, SpellsBytes, SpellsNext, SpellsRefused}
use Rattle.brief_text.specs.Places.{Place}
use Rattle.brief_tokens.specs.Tokens.{keyword, sign, Tokens, next}
use Rattle.brief_text.specs.Trees.{Said, spelled, named, Times, times, ranged, write_to, read_from, BriefBytes, data_byte, made_byte, no_more, BriefTail, stop_here, go_on, Made, header, packet_code, checksum, chosen, span, all_but}

abbrev pub begins_frame : Tokens → Bool
begins_frame (next (keyword keywords.Write) line rest) = true
begins_frame (next (keyword keywords.Read) line rest) = true
begins_frame from = false

abbrev pub begins_else : Tokens → Bool
begins_else (next (keyword keywords.Else) line rest) = true
begins_else from = false

abbrev pub begins_star : Tokens → Bool
begins_star (next (sign signs.Star) line rest) = true
begins_star from = false

-- `;` or `)`, which end frames
abbrev pub closes : Tokens → Bool
closes (next (sign signs.Semicolon) line rest) = true
closes (next (sign signs.Close) line rest) = true
closes from = false

-- ---- where nothing is spelled, nothing is read

pub next_stays : (draft : Draft) (frames : Frames) (from : Tokens) (at : Place) → begins_frame from ≡ false → next_from draft frames from at ≡ Ok (stop_here, at)
next_stays draft frames (next (keyword keywords.Write) line rest) at e = absurd cc
next_stays draft frames (next (keyword keywords.Read) line rest) at e = absurd cc
next_stays draft frames from at e = refl

pub refused_stays : (draft : Draft) (frames : Frames) (from : Tokens) (at : Place) → begins_else from ≡ false → refused_from draft frames from at ≡ Ok (stop_here, at)
refused_stays draft frames (next (keyword keywords.Else) line rest) at e = absurd cc
refused_stays draft frames from at e = refl

pub often_stays : (g : Around) (room copies : ℕ) (from : Tokens) (at : Place) → begins_star from ≡ false → often_from g room copies from at ≡ Ok ((times 1, 0), at)
often_stays g room copies (next (sign signs.Star) line rest) at e = absurd cc
often_stays g room copies from at e = refl

-- ---- what stands first

pub record Closed (from : Tokens) : Type 0 where
  pub no_frame : begins_frame from ≡ false
  pub no_else : begins_else from ≡ false
  pub no_star : begins_star from ≡ false
  pub no_data : begins_data from ≡ false
  pub no_made : begins_made from ≡ false
  pub no_but : begins_but from ≡ false

pub closed : (from : Tokens) → closes from ≡ true → Closed from
closed (next (sign signs.Semicolon) line rest) e = record { no_frame = refl; no_else = refl; no_star = refl; no_data = refl; no_made = refl; no_but = refl }
closed (next (sign signs.Close) line rest) e = record { no_frame = refl; no_else = refl; no_star = refl; no_data = refl; no_made = refl; no_but = refl }
closed from e = absurd cc

-- neither an `else` nor a repetition, and no `but`
pub record Apart (from : Tokens) : Type 0 where
  pub no_else : begins_else from ≡ false
  pub no_star : begins_star from ≡ false
  pub no_but : begins_but from ≡ false

data_apart : (bits : Said Pattern) (from rest : Tokens) → SpellsData bits from rest → Apart from
data_apart (spelled bits) from rest (inl s) = record { no_else = ap begins_else s.1.1; no_star = ap begins_star s.1.1; no_but = ap begins_but s.1.1 }
data_apart (spelled bits) from rest (inr s) = record { no_else = ap begins_else s.0.1; no_star = ap begins_star s.0.1; no_but = ap begins_but s.0.1 }
data_apart (named name) from rest s = record { no_else = ap begins_else s.0.0.1; no_star = ap begins_star s.0.0.1; no_but = ap begins_but s.0.0.1 }

made_apart : (R : Option Lengths) (made : Made) (from rest : Tokens) → SpellsMade R made from rest → Apart from
made_apart R (header false to) from rest s = record { no_else = ap begins_else s.1.1; no_star = ap begins_star s.1.1; no_but = ap begins_but s.1.1 }
made_apart R (header true to) from rest s = record { no_else = ap begins_else s.1.1; no_star = ap begins_star s.1.1; no_but = ap begins_but s.1.1 }
made_apart R packet_code from rest s = record { no_else = ap begins_else s.1; no_star = ap begins_star s.1; no_but = ap begins_but s.1 }
made_apart R checksum from rest s = record { no_else = ap begins_else s.1; no_star = ap begins_star s.1; no_but = ap begins_but s.1 }
made_apart R (chosen (span least greatest)) from rest s = record { no_else = ap begins_else s.0.1; no_star = ap begins_star s.0.1; no_but = ap begins_but s.0.1 }
made_apart R (chosen (all_but least greatest)) from rest s = record { no_else = ap begins_else s.0.1.1; no_star = ap begins_star s.0.1.1; no_but = ap begins_but s.0.1.1 }

pub next_apart : (R : Option Lengths) (t : BriefTail) (from to : Tokens) → SpellsNext R t from to → closes to ≡ true → Apart from × (begins_data from ≡ false) × (begins_made from ≡ false)
next_apart R stop_here from to s e =
    let c = closed from (ap closes (sym s) ∙ e) in
    (record { no_else = c.no_else; no_star = c.no_star; no_but = c.no_but }, c.no_data, c.no_made)
next_apart R (go_on (write_to to refused acked)) from end s e = (record { no_else = ap begins_else s.1.1; no_star = ap begins_star s.1.1; no_but = ap begins_but s.1.1 }, ap begins_data s.1.1, ap begins_made s.1.1)
next_apart R (go_on (read_from to count refused after)) from end s e = (record { no_else = ap begins_else s.1.1; no_star = ap begins_star s.1.1; no_but = ap begins_but s.1.1 }, ap begins_data s.1.1, ap begins_made s.1.1)

pub bytes_apart : (R : Option Lengths) (b : BriefBytes) (from to : Tokens) → SpellsBytes R b from to → closes to ≡ true → Apart from
bytes_apart R (data_byte bits often refused acked) from to s e = data_apart bits from s.0 s.1
bytes_apart R (made_byte made refused acked) from to s e = made_apart R made from s.0 s.1
bytes_apart R (no_more tail) from to s e = (next_apart R tail from to s e).0

pub refused_apart : (R : Option Lengths) (t : BriefTail) (from mid : Tokens) → SpellsRefused R t from mid → begins_star mid ≡ false → begins_star from ≡ false
refused_apart R stop_here from mid (inl s) e = ap begins_star (sym s) ∙ e
refused_apart R stop_here from mid (inr s) e = ap begins_star s.1.1
refused_apart R (go_on frame) from mid s e = ap begins_star s.1.1

refused_no_but : (R : Option Lengths) (t : BriefTail) (from mid : Tokens) → SpellsRefused R t from mid → begins_but mid ≡ false → begins_but from ≡ false
refused_no_but R stop_here from mid (inl s) e = ap begins_but (sym s) ∙ e
refused_no_but R stop_here from mid (inr s) e = ap begins_but s.1.1
refused_no_but R (go_on frame) from mid s e = ap begins_but s.1.1

often_no_but : (R : Option Lengths) (often : Times) (from mid : Tokens) → SpellsOften R often from mid → begins_but mid ≡ false → begins_but from ≡ false
often_no_but R (times n) from mid (inl s) e = ap begins_but (sym s.0) ∙ e
often_no_but R (times n) from mid (inr s) e = ap begins_but s.0.1.1
often_no_but (Some range) ranged from mid s e = ap begins_but s.0.1.1
often_no_but None ranged from mid s e = absurd s

data_no_made : (bits : Said Pattern) (from rest : Tokens) → SpellsData bits from rest → begins_but rest ≡ false → begins_made from ≡ false
data_no_made (spelled bits) from rest (inl s) e = ap begins_made s.1.1
data_no_made (spelled bits) from rest (inr s) e = ap begins_made s.0.1 ∙ e
data_no_made (named name) from rest s e = ap begins_made s.0.0.1

-- behind a data byte no `but` follows: its `any` is a data byte
pub data_is_no_choice : (R : Option Lengths) (bits : Said Pattern) (often : Times) (refused : BriefTail) (from one two three : Tokens) → SpellsData bits from one → SpellsOften R often one two → SpellsRefused R refused two three → begins_but three ≡ false → begins_made from ≡ false
data_is_no_choice R bits often refused from one two three first second third e =
    data_no_made bits from one first (often_no_but R often one two second (refused_no_but R refused two three third e))

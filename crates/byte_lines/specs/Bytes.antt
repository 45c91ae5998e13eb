-- Transactions in bytes, as the documents of the Linux kernel write them. A byte is eight bits, the highest first, and its
-- acknowledge (UM10204, 3.1.5 and 3.1.6). The first one after a START or a repeated START is an address of seven bits and the
-- direction (3.1.10).
use Rattle.std.specs.Prelude.{ℕ, ◌+◌, ◌*◌, ◌/◌, ◌%◌, ◌==◌, Bool, true, false, List, [], ◌∷◌, ◌++◌, length, map, fold, codes, if◌then◌else◌}
use Rattle.capture_check.specs.declared.listening.Mark.{Mark}
use Rattle.capture_check.specs.declared.listening.Mark.TheVariants.{Level, Again, Stop}
use Rattle.growing_text.specs.Texts.{two_digits}

-- of LOW and HIGH levels, the number of which they are the digits
abbrev pub number : List Bool → ℕ
number bits = fold (λ n bit. 2 * n + (if bit then 1 else 0)) 0 bits

-- eight bits: `48 Wr` or `48 Rd` where they are an address and the direction, and else `d4`
unfoldable pub byte_text : Bool → List Bool → List ℕ
byte_text true bits = two_digits (number bits / 2) ++ (if number bits % 2 == 0 then codes " Wr" else codes " Rd")
byte_text false bits = two_digits (number bits)

-- each bit as 0 or 1
abbrev pub bits_text : List Bool → List ℕ
bits_text bits = map (λ bit. if bit then 49 else 48) bits

-- what came of a byte that ends before its acknowledge: `0b10(cut)`, or `d4(cut)` where all its bits came
unfoldable pub cut_text : Bool → List Bool → List ℕ
cut_text is_address [] = []
cut_text is_address (bit ∷ bits) =
    codes " " ++
    ((if length (bit ∷ bits) == 8 then byte_text is_address (bit ∷ bits) else codes "0b" ++ bits_text (bit ∷ bits))
    ++ codes "(cut)")

abbrev pub acknowledge : Bool → List ℕ
acknowledge false = codes " A"
acknowledge true = codes " NA"

-- what comes after these bits of a byte
abbrev pub marks_text : Bool → List Bool → List Mark → List ℕ
marks_text is_address bits [] = cut_text is_address bits
marks_text is_address bits (Again ∷ marks) = cut_text is_address bits ++ (codes " Sr" ++ marks_text true [] marks)
marks_text is_address bits (Stop ∷ marks) = cut_text is_address bits ++ (codes " P" ++ marks_text is_address [] marks)
marks_text is_address bits (Level level ∷ marks) =
    if length bits == 8
    then codes " " ++ (byte_text is_address bits ++ (acknowledge level ++ marks_text false [] marks))
    else marks_text is_address (bits ++ level ∷ []) marks

-- from a START on
abbrev pub bytes_text : List Mark → List ℕ
bytes_text marks = codes "S" ++ marks_text true [] marks

-- The lines of `decode`: one for each transaction, and one that counts.
use Rattle.std.specs.Prelude.{ℕ, Bool, true, false, List, ◌++◌, codes}
use Rattle.std.specs.Fmt.{decimal}
use Rattle.std.specs.List.{count_by, flat_map}
use Rattle.capture_check.specs.declared.listening.Until.{Until}
use Rattle.capture_check.specs.declared.listening.Until.TheVariants.{Stopped, Cut, Unfinished}
use Rattle.capture_check.specs.Transactions.{Recorded}
use Rattle.byte_lines.specs.Bytes.{bytes_text}

-- how it ended, and what stands before its bytes
abbrev pub until_text : Until → List ℕ
until_text (Stopped time) = decimal time ++ codes "  "
until_text (Cut time) = decimal time ++ codes " cut "
until_text Unfinished = codes " unfinished "

-- FROM-TO  BYTES, FROM-AT cut BYTES or FROM- unfinished BYTES
unfoldable pub decode_line : Recorded → List ℕ
decode_line t = decimal t.from ++ (codes "-" ++ (until_text t.until ++ (bytes_text t.marks ++ codes "\n")))

abbrev pub decode_lines : List Recorded → List ℕ
decode_lines ts = flat_map decode_line ts

abbrev pub is_stop : Until → Bool
is_stop (Stopped time) = true
is_stop _ = false

-- how many a STOP ended
abbrev pub stopped : List Recorded → ℕ
stopped ts = count_by (λ t. is_stop t.until) ts

-- N transactions
unfoldable pub count_line : ℕ → List ℕ
count_line n = decimal n ++ codes " transactions\n"

abbrev pub decode_report : List Recorded → List ℕ
decode_report ts = decode_lines ts ++ count_line (stopped ts)

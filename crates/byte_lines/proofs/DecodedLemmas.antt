-- What the lines say of some transactions and then of more.
use Rattle.std.proofs.Common.{◌≡◌, ◌+◌, List, [], ◌∷◌, ◌++◌, refl, ap, sym, ◌∙◌, append_assoc, cond}
use Rattle.std.proofs.lemmas.List.Sums.{sum_by-append}
use Rattle.byte_lines.specs.Lines.{decode_line, decode_lines, is_stop, stopped}
use Rattle.capture_check.specs.Transactions.{Recorded}

pub decode_lines-append : (ts us : List Recorded) → decode_lines (ts ++ us) ≡ decode_lines ts ++ decode_lines us
decode_lines-append [] us = refl
decode_lines-append (t ∷ ts) us =
    ap (λ lines. decode_line t ++ lines) (decode_lines-append ts us) ∙ sym (append_assoc (decode_line t) (decode_lines ts) (decode_lines us))

pub stopped-append : (ts us : List Recorded) → stopped (ts ++ us) ≡ stopped ts + stopped us
stopped-append ts us = sum_by-append (λ t. cond (is_stop t.until) 1 0) ts us

-- What a byte is written as.
use Rattle.std.proofs.Common.{◌≡◌, ◌<◌, ◌^◌, ◌-◌, ◌∙◌, ◌++◌, ℕ, false, List, Option, Some, OnOk, Result, Ok, Err, ap}
use Rattle.std.specs.Option.{option_map}
use Rattle.std.specs.Result.{is_err}
use Rattle.std.specs.Fmt.{AppendsText, radix_digits, format_spec, padded_integral, shown_prefix}
use Rattle.std.proofs.lemmas.Fmt.{hex_byte}
use Rattle.growing_text.specs.Texts.{two_digits}

written : {A E P : Type 0} → (result : Result A E) → is_err result ≡ false → OnOk result P → P
written (Ok x) e p = p
written (Err x) e p = cc

pub hex_written : {A E : Type 0} → (result : Result A E) (digits : Option (List ℕ)) (prefix : List ℕ) (old new : List ℕ) (n : ℕ) → n < 256 → is_err result ≡ false → digits ≡ Some (radix_digits 16 false n) → OnOk result (AppendsText old new (option_map (padded_integral (format_spec 32 0 4 2 (2 ^ 64 - 1)) false (shown_prefix (format_spec 32 0 4 2 (2 ^ 64 - 1)) prefix)) digits)) → new ≡ old ++ two_digits n
hex_written result digits prefix old new n lt ok e h =
    let appended = written result ok h in
    (rw e at appended) ∙ ap (λ (x : List ℕ). old ++ x) (hex_byte false n lt)

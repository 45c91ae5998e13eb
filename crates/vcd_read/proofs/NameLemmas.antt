-- The names of the signals of an accepted dump stand in it as references, and their codes as codes.
use Rattle.std.proofs.Common.{◌≡◌, ℕ, inl, inr, Bool, true, false, List, [], ◌∷◌, ◌++◌, refl, sym, ◌∙◌, subst, append_assoc, codes}
use Rattle.std.specs.Prelude.{not}
use Rattle.std.specs.Str.{bytes_eq}
use Rattle.std.proofs.lemmas.List.{append-nil}
use Rattle.std.proofs.lemmas.Slice.Eq.{bytes_eq-Decides}
use Rattle.vcd_read.specs.declared.samples.Sample.{Sample}
use Rattle.vcd_read.specs.Beginnings.{IsInVar, CanBe}
use Rattle.vcd_read.specs.Grammar.{without_end, Declaration, var, other, declaration_tokens, skipped_tokens, code_for, entries_tokens, stamps_tokens, declarations_tokens, AreDeclarations, Spells}
use Rattle.vcd_read.specs.Probes.{Finder, by_name, by_code, by_bit, declares}
use Rattle.vcd_read.specs.Runs.{AreRuns}
use Rattle.vcd_read.specs.Tokens.{Token, tokens_of}
use Rattle.vcd_read.specs.Words.{is_empty, is_end}
use Rattle.vcd_read.proofs.RunLemmas.{not_true, and_both}
use Rattle.vcd_read.proofs.RunsLemmas.{are_runs}
use Rattle.vcd_read.proofs.TextLemmas.{IsWord}

abbrev AreTokens : List Token → Type 0
AreTokens [] = Unit {0}
AreTokens (token ∷ tokens) = IsWord token.bytes × AreTokens tokens

are_tokens : (tokens : List Token) (line : ℕ) (bytes : List ℕ) → AreRuns line bytes tokens → AreTokens tokens
are_tokens [] line bytes runs = tt
are_tokens (token ∷ tokens) line bytes runs = (record { some = runs.4; one_token = runs.5 }, are_tokens tokens token.line runs.1 runs.8)

later_tokens : (front rest : List Token) → AreTokens (front ++ rest) → AreTokens rest
later_tokens [] rest are = are
later_tokens (token ∷ front) rest are = later_tokens front rest are.1

without_first : (first : List Token) (declarations : List Declaration) (rest : List Token) → AreTokens ((first ++ declarations_tokens declarations) ++ rest) → AreTokens (declarations_tokens declarations ++ rest)
without_first first declarations rest are =
    let P : List Token → Type 0 = λ tokens. AreTokens tokens in
    later_tokens first (declarations_tokens declarations ++ rest) (subst P (append_assoc first (declarations_tokens declarations) rest) are)

in_var : (token own : List ℕ) → IsWord token → is_end token ≡ false → bytes_eq token own ≡ true → IsInVar own
in_var token own word inner same =
    let P : List ℕ → Type 0 = λ n. IsInVar n in
    subst P ((bytes_eq-Decides token own).0 same) (record { some = word.some; one_token = word.one_token; no_end = inner })

can_be : (probe : Finder) (one_bit : Bool) (reference code : List ℕ) → IsWord reference → is_end reference ≡ false → IsWord code → is_end code ≡ false → declares probe one_bit reference code ≡ true → CanBe probe
can_be (by_name name) one_bit reference code word inner code_word code_inner same = in_var reference name word inner ((and_both one_bit (bytes_eq reference name) same).1)
can_be (by_code own) one_bit reference code word inner code_word code_inner same = in_var code own code_word code_inner ((and_both one_bit (bytes_eq code own) same).1)
can_be (by_bit own place) one_bit reference code word inner code_word code_inner same = in_var code own code_word code_inner same

abbrev Named : Finder → List Declaration → Type 0
Named probe declarations =
    (rest : List Token) → AreDeclarations declarations → AreTokens (declarations_tokens declarations ++ rest) → is_empty (code_for probe declarations) ≡ false → CanBe probe

named_by : (probe : Finder) (word type size code reference : Token) (more : List Token) (close : Token) (declarations : List Declaration) (test : Bool) →
    declares probe (bytes_eq size.bytes (codes "1")) reference.bytes code.bytes ≡ test → Named probe declarations → Named probe (var word type size code reference more close ∷ declarations)
named_by probe word type size code reference more close declarations true is each rest declaring are some =
    let of_type = and_both (not (is_end type.bytes)) _ declaring.0.1 in
    let of_size = and_both (not (is_end size.bytes)) _ of_type.1 in
    let of_code = and_both (not (is_end code.bytes)) _ of_size.1 in
    let of_reference = and_both (not (is_end reference.bytes)) (without_end more) of_code.1 in
    can_be probe (bytes_eq size.bytes (codes "1")) reference.bytes code.bytes are.1.1.1.1.0 (not_true (is_end reference.bytes) of_reference.0) are.1.1.1.0 (not_true (is_end code.bytes) of_code.0) is
named_by probe word type size code reference more close declarations false is each rest declaring are some =
    let later = rw is at some in
    each rest declaring.1 (without_first (declaration_tokens (var word type size code reference more close)) declarations rest are) later

named : (probe : Finder) (declarations : List Declaration) → Named probe declarations
named probe [] rest declaring are some = absurd cc
named probe (var word type size code reference more close ∷ declarations) rest declaring are some =
    named_by probe word type size code reference more close declarations (declares probe (bytes_eq size.bytes (codes "1")) reference.bytes code.bytes) refl (named probe declarations) rest declaring are some
named probe (other command ∷ declarations) rest declaring are some =
    named probe declarations rest declaring.1 (without_first (declaration_tokens (other command)) declarations rest are) some

spelled_tokens : (text : List ℕ) (tokens : List Token) → tokens_of 1 text ≡ tokens → AreTokens tokens
spelled_tokens text tokens is =
    let P : List Token → Type 0 = λ t. AreTokens t in
    subst P is (are_tokens (tokens_of 1 text) 1 text (are_runs text 1))

pub names : (scl sda : Finder) (text : List ℕ) (samples : List Sample) → Spells scl sda (tokens_of 1 text) samples → CanBe scl × CanBe sda
names scl sda text samples (inl d) =
    let rest = skipped_tokens d.0.definitions_end ++ (entries_tokens d.0.first ++ stamps_tokens d.0.stamps) in
    let are = spelled_tokens text (declarations_tokens d.0.declarations ++ rest) d.2 in
    (named scl d.0.declarations rest d.1.declarations are d.1.scl_named, named sda d.0.declarations rest d.1.declarations are d.1.sda_named)
names scl sda text samples (inr d) =
    let are = spelled_tokens text (declarations_tokens d.0 ++ []) (d.2 ∙ sym (append-nil (declarations_tokens d.0))) in
    (named scl d.0 [] d.1.are are d.1.scl_named, named sda d.0 [] d.1.are are d.1.sda_named)

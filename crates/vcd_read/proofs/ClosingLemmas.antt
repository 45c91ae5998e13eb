-- What no token has refused can go on to the end of a dump.
use Rattle.std.proofs.Common.{◌≡◌, ℕ, ◌⊎◌, inl, inr, Bool, true, false, List, [], ◌∷◌, Option, Some, None, Ok, refl, sym, subst, codes}
use Rattle.std.proofs.lemmas.Slice.Eq.{bytes_eq-Decides}
use Rattle.vcd_read.specs.declared.dumps.Context.{Context}
use Rattle.vcd_read.specs.declared.dumps.Context.TheVariants as inside
use Rattle.vcd_read.specs.declared.dumps.Levels.{Levels}
use Rattle.vcd_read.specs.declared.dumps.Seen.{Seen}
use Rattle.vcd_read.specs.declared.dumps.Seen.TheVariants as seen
use Rattle.vcd_read.specs.declared.samples.Level.{Level}
use Rattle.run_errors.specs.declared.dumps.Signal.TheVariants.{Scl, Sda}
use Rattle.vcd_read.specs.Beginnings.{IsInVar, CanBe}
use Rattle.vcd_read.specs.Changes.{changed}
use Rattle.vcd_read.specs.Definitions.{named_by}
use Rattle.vcd_read.specs.Dumps.{Run, step, run}
use Rattle.vcd_read.specs.Probes.{Finder, by_name, by_code, by_bit, declares}
use Rattle.vcd_read.specs.States.{Line, State}
use Rattle.vcd_read.specs.Words.{is_empty, is_end}
use Rattle.vcd_read.proofs.RunLemmas.{run_token}
use Rattle.vcd_read.proofs.SpelledChanges.{Accepts}
use Rattle.vcd_read.proofs.StepLemmas.{IsElsewhere, IsEnding, Lost, named-probe, changed-probe}
use Rattle.vcd_read.proofs.TextLemmas.{IsWord, AreWords, on_line}

-- what was said can go on by these words, on whatever line they stand
pub record Closes (s : ℕ → State) : Type 0 where
  pub words : List (List ℕ)
  pub are : AreWords words
  pub accepted : (line : ℕ) → Accepts (run (s line) (on_line line words))

-- one word more
abbrev pub with_word : (s next : ℕ → State) (word : List ℕ) → IsWord word → ((line : ℕ) → step (s line) word line ≡ Ok (next line, None)) → Closes next → Closes s
with_word s next word is steps c = record {
  words = word ∷ c.words;
  are = (is, c.are);
  accepted = λ line.
      let P : Run → Type 0 = λ said. Accepts said in
      subst P (sym (run_token (s line) (next line) (record { bytes = word; line = line }) (on_line line c.words) (steps line))) (c.accepted line);
}

abbrev end : List ℕ
end = codes "$end"

end_word : IsWord end
end_word = record { some = refl; one_token = refl }

abbrev blank : List ℕ
blank = codes "x"

filler : IsWord blank
filler = record { some = refl; one_token = refl }

abbrev code : List ℕ
code = codes "!"

-- ---- after the definitions

abbrev state : (scl sda : Line) → Context → Option ℕ → List ℕ → Bool → ℕ → State
state scl sda context block latest defined time =
    record { scl = scl; sda = sda; context = context; block = block; code = latest; defined = defined; time = time }

ends_block : (scl sda : Line) (began : ℕ) (latest : List ℕ) (time line : ℕ) →
    step (state scl sda inside.Nothing (Some began) latest true time) end line ≡ Ok (state scl sda inside.Nothing None latest true time, None)
unfolding step
ends_block scl sda began latest time line = refl

closes_unblocked : (scl sda : Line) (latest : List ℕ) (time : ℕ) → Closes (λ line. state scl sda inside.Nothing None latest true time)
closes_unblocked scl sda latest time = record { words = []; are = tt; accepted = λ line. (_, refl) }

closes_defined : (scl sda : Line) (block : Option ℕ) (latest : List ℕ) (time : ℕ) → Closes (λ line. state scl sda inside.Nothing block latest true time)
closes_defined scl sda None latest time = closes_unblocked scl sda latest time
closes_defined scl sda (Some began) latest time =
    with_word (λ line. state scl sda inside.Nothing (Some began) latest true time) (λ line. state scl sda inside.Nothing None latest true time) end end_word
    (ends_block scl sda began latest time) (closes_unblocked scl sda latest time)

-- ---- the end of the definitions

step_end : (scl sda : Line) (began : ℕ) (block : Option ℕ) (latest : List ℕ) (defined : Bool) (time line : ℕ) → is_empty scl.code ≡ false → is_empty sda.code ≡ false →
    step (state scl sda (inside.EndDefinitions began) block latest defined time) end line ≡ Ok (state scl sda inside.Nothing block latest true time, None)
unfolding step
step_end scl sda began block latest defined time line of_scl of_sda = rw (of_scl, of_sda) refl

closes_end : (scl sda : Line) (began : ℕ → ℕ) (block : Option ℕ) (latest : List ℕ) (defined : Bool) (time : ℕ) → is_empty scl.code ≡ false → is_empty sda.code ≡ false →
    Closes (λ line. state scl sda (inside.EndDefinitions (began line)) block latest defined time)
closes_end scl sda began block latest defined time of_scl of_sda =
    with_word (λ line. state scl sda (inside.EndDefinitions (began line)) block latest defined time) (λ line. state scl sda inside.Nothing block latest true time) end end_word
    (λ line. step_end scl sda (began line) block latest defined time line of_scl of_sda)
    (closes_defined scl sda block latest time)

step_definitions_end : (scl sda : Line) (block : Option ℕ) (latest : List ℕ) (time line : ℕ) →
    step (state scl sda inside.Nothing block latest false time) (codes "$enddefinitions") line ≡ Ok (state scl sda (inside.EndDefinitions line) block latest false time, None)
unfolding step
step_definitions_end scl sda block latest time line = refl

closes_named : (scl sda : Line) (block : Option ℕ) (latest : List ℕ) (time : ℕ) → is_empty scl.code ≡ false → is_empty sda.code ≡ false → Closes (λ line. state scl sda inside.Nothing block latest false time)
closes_named scl sda block latest time of_scl of_sda =
    with_word (λ line. state scl sda inside.Nothing block latest false time) (λ line. state scl sda (inside.EndDefinitions line) block latest false time) (codes "$enddefinitions")
    (record { some = refl; one_token = refl })
    (step_definitions_end scl sda block latest time)
    (closes_end scl sda (λ line. line) block latest false time of_scl of_sda)

-- ---- a `$var`

abbrev in_var : (scl sda : Line) → Seen → ℕ → Option ℕ → List ℕ → Bool → ℕ → State
in_var scl sda so_far began block latest defined time = state scl sda (inside.Var began so_far) block latest defined time

step_var_word : (scl sda : Line) (block : Option ℕ) (latest : List ℕ) (time line : ℕ) →
    step (state scl sda inside.Nothing block latest false time) (codes "$var") line ≡ Ok (in_var scl sda seen.Nothing line block latest false time, None)
unfolding step
step_var_word scl sda block latest time line = refl

step_type : (scl sda : Line) (began : ℕ) (block : Option ℕ) (latest : List ℕ) (defined : Bool) (time line : ℕ) →
    step (in_var scl sda seen.Nothing began block latest defined time) blank line ≡ Ok (in_var scl sda seen.Type began block latest defined time, None)
unfolding step
step_type scl sda began block latest defined time line = refl

step_size : (scl sda : Line) (began : ℕ) (block : Option ℕ) (latest : List ℕ) (defined : Bool) (time line : ℕ) →
    step (in_var scl sda seen.Type began block latest defined time) blank line ≡ Ok (in_var scl sda (seen.Size false) began block latest defined time, None)
unfolding step
step_size scl sda began block latest defined time line = refl

step_one_bit : (scl sda : Line) (began : ℕ) (block : Option ℕ) (latest : List ℕ) (defined : Bool) (time line : ℕ) →
    step (in_var scl sda seen.Type began block latest defined time) (codes "1") line ≡ Ok (in_var scl sda (seen.Size true) began block latest defined time, None)
unfolding step
step_one_bit scl sda began block latest defined time line = refl

step_code_word : (scl sda : Line) (one_bit : Bool) (began : ℕ) (block : Option ℕ) (latest : List ℕ) (defined : Bool) (time line : ℕ) (token : List ℕ) → is_end token ≡ false →
    step (in_var scl sda (seen.Size one_bit) began block latest defined time) token line ≡ Ok (in_var scl sda (seen.Code one_bit) began block token defined time, None)
unfolding step
step_code_word scl sda one_bit began block latest defined time line token inner = rw inner refl

step_reference : (scl sda : Line) (one_bit : Bool) (began : ℕ) (block : Option ℕ) (latest : List ℕ) (defined : Bool) (time line : ℕ) (reference : List ℕ) → is_end reference ≡ false →
    step (in_var scl sda (seen.Code one_bit) began block latest defined time) reference line
    ≡ Ok (in_var (named_by one_bit reference latest scl) (named_by one_bit reference latest sda) seen.Reference began block latest defined time, None)
unfolding step
step_reference scl sda one_bit began block latest defined time line reference inner = rw inner refl

step_var_close : (scl sda : Line) (began : ℕ) (block : Option ℕ) (latest : List ℕ) (defined : Bool) (time line : ℕ) →
    step (in_var scl sda seen.Reference began block latest defined time) end line ≡ Ok (state scl sda inside.Nothing block latest defined time, None)
unfolding step
step_var_close scl sda began block latest defined time line = refl

-- the reference and the code of a `$var` of this signal
abbrev name_in : Finder → List ℕ
name_in (by_name name) = name
name_in (by_code own) = blank
name_in (by_bit own place) = blank

abbrev code_in : Finder → List ℕ
code_in (by_name name) = code
code_in (by_code own) = own
code_in (by_bit own place) = own

name_in_var : (probe : Finder) → CanBe probe → IsInVar (name_in probe)
name_in_var (by_name name) is = is
name_in_var (by_code own) is = record { some = refl; one_token = refl; no_end = refl }
name_in_var (by_bit own place) is = record { some = refl; one_token = refl; no_end = refl }

code_in_var : (probe : Finder) → CanBe probe → IsInVar (code_in probe)
code_in_var (by_name name) is = record { some = refl; one_token = refl; no_end = refl }
code_in_var (by_code own) is = is
code_in_var (by_bit own place) is = is

is_own : (probe : Finder) → declares probe true (name_in probe) (code_in probe) ≡ true
is_own (by_name name) = (bytes_eq-Decides name name).1 refl
is_own (by_code own) = (bytes_eq-Decides own own).1 refl
is_own (by_bit own place) = (bytes_eq-Decides own own).1 refl

abbrev found : Finder → Line → Line
found probe line = named_by true (name_in probe) (code_in probe) line

gets_by : (line : Line) (test : Bool) → CanBe line.probe → is_empty line.code ≡ test → is_empty (found line.probe line).code ≡ false
gets_by line true can is = rw (is, is_own line.probe) ((code_in_var line.probe can).some)
gets_by line false can is = rw is is

-- the line has a code after its `$var`
gets_code : (line : Line) → CanBe line.probe → is_empty (found line.probe line).code ≡ false
gets_code line can = gets_by line (is_empty line.code) can refl

keeps_code : (probe : Finder) (line : Line) → is_empty line.code ≡ false → is_empty (found probe line).code ≡ false
keeps_code probe line some = rw some some

is_word : (word : List ℕ) → IsInVar word → IsWord word
is_word word is = record { some = is.some; one_token = is.one_token }

-- `$var x 1 CODE NAME $end`
closes_var : (own name : List ℕ) (scl sda : Line) (block : Option ℕ) (latest : List ℕ) (time : ℕ) → IsInVar own → IsInVar name →
    Closes (λ line. state (named_by true name own scl) (named_by true name own sda) inside.Nothing block own false time) → Closes (λ line. state scl sda inside.Nothing block latest false time)
closes_var own name scl sda block latest time is_code is_name c =
    with_word (λ line. state scl sda inside.Nothing block latest false time) (λ line. in_var scl sda seen.Nothing line block latest false time) (codes "$var")
    (record { some = refl; one_token = refl }) (step_var_word scl sda block latest time)
    (with_word (λ line. in_var scl sda seen.Nothing line block latest false time) (λ line. in_var scl sda seen.Type line block latest false time) blank filler
    (λ line. step_type scl sda line block latest false time line)
    (with_word (λ line. in_var scl sda seen.Type line block latest false time) (λ line. in_var scl sda (seen.Size true) line block latest false time) (codes "1")
    (record { some = refl; one_token = refl }) (λ line. step_one_bit scl sda line block latest false time line)
    (with_word (λ line. in_var scl sda (seen.Size true) line block latest false time) (λ line. in_var scl sda (seen.Code true) line block own false time) own
    (is_word own is_code) (λ line. step_code_word scl sda true line block latest false time line own is_code.no_end)
    (with_word (λ line. in_var scl sda (seen.Code true) line block own false time) (λ line. in_var (named_by true name own scl) (named_by true name own sda) seen.Reference line block own false time) name
    (is_word name is_name) (λ line. step_reference scl sda true line block own false time line name is_name.no_end)
    (with_word (λ line. in_var (named_by true name own scl) (named_by true name own sda) seen.Reference line block own false time)
    (λ line. state (named_by true name own scl) (named_by true name own sda) inside.Nothing block own false time) end end_word
    (λ line. step_var_close (named_by true name own scl) (named_by true name own sda) line block own false time line) c)))))

-- a `$var` of this signal
closes_found : (probe : Finder) (scl sda : Line) (block : Option ℕ) (latest : List ℕ) (time : ℕ) → CanBe probe →
    Closes (λ line. state (found probe scl) (found probe sda) inside.Nothing block (code_in probe) false time) → Closes (λ line. state scl sda inside.Nothing block latest false time)
closes_found probe scl sda block latest time can c =
    closes_var (code_in probe) (name_in probe) scl sda block latest time (code_in_var probe can) (name_in_var probe can) c

-- each signal gets a `$var`
closes_undefined : (scl sda : Line) (block : Option ℕ) (latest : List ℕ) (time : ℕ) → CanBe scl.probe → CanBe sda.probe → Closes (λ line. state scl sda inside.Nothing block latest false time)
closes_undefined scl sda block latest time of_scl of_sda =
    let scl_first = found scl.probe scl in
    let sda_first = found scl.probe sda in
    let same : sda_first.probe ≡ sda.probe = named-probe true (name_in scl.probe) (code_in scl.probe) sda in
    let of_second : CanBe sda_first.probe = (let P : Finder → Type 0 = λ probe. CanBe probe in subst P (sym same) of_sda) in
    closes_found scl.probe scl sda block latest time of_scl
    (closes_found sda_first.probe scl_first sda_first block (code_in scl.probe) time of_second
    (closes_named (found sda_first.probe scl_first) (found sda_first.probe sda_first) block (code_in sda_first.probe) time
    (keeps_code sda_first.probe scl_first (gets_code scl of_scl)) (gets_code sda_first of_second)))

closes_outside : (scl sda : Line) (block : Option ℕ) (latest : List ℕ) (defined : Bool) (time : ℕ) → CanBe scl.probe → CanBe sda.probe → Closes (λ line. state scl sda inside.Nothing block latest defined time)
closes_outside scl sda block latest true time of_scl of_sda = closes_defined scl sda block latest time
closes_outside scl sda block latest false time of_scl of_sda = closes_undefined scl sda block latest time of_scl of_sda

-- ---- what is open

closes_reference : (scl sda : Line) (began : ℕ) (block : Option ℕ) (latest : List ℕ) (defined : Bool) (time : ℕ) → CanBe scl.probe → CanBe sda.probe →
    Closes (λ line. in_var scl sda seen.Reference began block latest defined time)
closes_reference scl sda began block latest defined time of_scl of_sda =
    with_word (λ line. in_var scl sda seen.Reference began block latest defined time) (λ line. state scl sda inside.Nothing block latest defined time) end end_word
    (step_var_close scl sda began block latest defined time) (closes_outside scl sda block latest defined time of_scl of_sda)

still_reference : (one_bit : Bool) (reference latest : List ℕ) (line : Line) → CanBe line.probe → CanBe (named_by one_bit reference latest line).probe
still_reference one_bit reference latest line is = let P : Finder → Type 0 = λ probe. CanBe probe in subst P (sym (named-probe one_bit reference latest line)) is

closes_code : (scl sda : Line) (one_bit : Bool) (began : ℕ) (block : Option ℕ) (latest : List ℕ) (defined : Bool) (time : ℕ) → CanBe scl.probe → CanBe sda.probe →
    Closes (λ line. in_var scl sda (seen.Code one_bit) began block latest defined time)
closes_code scl sda one_bit began block latest defined time of_scl of_sda =
    with_word (λ line. in_var scl sda (seen.Code one_bit) began block latest defined time)
    (λ line. in_var (named_by one_bit blank latest scl) (named_by one_bit blank latest sda) seen.Reference began block latest defined time) blank filler
    (λ line. step_reference scl sda one_bit began block latest defined time line blank refl)
    (closes_reference (named_by one_bit blank latest scl) (named_by one_bit blank latest sda) began block latest defined time (still_reference one_bit blank latest scl of_scl) (still_reference one_bit blank latest sda of_sda))

closes_size : (scl sda : Line) (one_bit : Bool) (began : ℕ) (block : Option ℕ) (latest : List ℕ) (defined : Bool) (time : ℕ) → CanBe scl.probe → CanBe sda.probe →
    Closes (λ line. in_var scl sda (seen.Size one_bit) began block latest defined time)
closes_size scl sda one_bit began block latest defined time of_scl of_sda =
    with_word (λ line. in_var scl sda (seen.Size one_bit) began block latest defined time) (λ line. in_var scl sda (seen.Code one_bit) began block code defined time) code
    (record { some = refl; one_token = refl }) (λ line. step_code_word scl sda one_bit began block latest defined time line code refl) (closes_code scl sda one_bit began block code defined time of_scl of_sda)

closes_type : (scl sda : Line) (began : ℕ) (block : Option ℕ) (latest : List ℕ) (defined : Bool) (time : ℕ) → CanBe scl.probe → CanBe sda.probe →
    Closes (λ line. in_var scl sda seen.Type began block latest defined time)
closes_type scl sda began block latest defined time of_scl of_sda =
    with_word (λ line. in_var scl sda seen.Type began block latest defined time) (λ line. in_var scl sda (seen.Size false) began block latest defined time) blank filler
    (step_size scl sda began block latest defined time) (closes_size scl sda false began block latest defined time of_scl of_sda)

closes_in_var : (so_far : Seen) (scl sda : Line) (began : ℕ) (block : Option ℕ) (latest : List ℕ) (defined : Bool) (time : ℕ) → CanBe scl.probe → CanBe sda.probe →
    Closes (λ line. in_var scl sda so_far began block latest defined time)
closes_in_var seen.Nothing scl sda began block latest defined time of_scl of_sda =
    with_word (λ line. in_var scl sda seen.Nothing began block latest defined time) (λ line. in_var scl sda seen.Type began block latest defined time) blank filler
    (step_type scl sda began block latest defined time) (closes_type scl sda began block latest defined time of_scl of_sda)
closes_in_var seen.Type scl sda began block latest defined time of_scl of_sda = closes_type scl sda began block latest defined time of_scl of_sda
closes_in_var (seen.Size one_bit) scl sda began block latest defined time of_scl of_sda = closes_size scl sda one_bit began block latest defined time of_scl of_sda
closes_in_var (seen.Code one_bit) scl sda began block latest defined time of_scl of_sda = closes_code scl sda one_bit began block latest defined time of_scl of_sda
closes_in_var seen.Reference scl sda began block latest defined time of_scl of_sda = closes_reference scl sda began block latest defined time of_scl of_sda

step_skipped_close : (scl sda : Line) (began : ℕ) (block : Option ℕ) (latest : List ℕ) (defined : Bool) (time line : ℕ) →
    step (state scl sda (inside.Skipped began) block latest defined time) end line ≡ Ok (state scl sda inside.Nothing block latest defined time, None)
unfolding step
step_skipped_close scl sda began block latest defined time line = refl

step_change : (scl sda : Line) (began : ℕ) (to : Levels) (block : Option ℕ) (latest : List ℕ) (defined : Bool) (time line : ℕ) →
    step (state scl sda (inside.Change began (Some to)) block latest defined time) code line
    ≡ Ok (state (changed code to.scl scl) (changed code to.sda sda) inside.Nothing block latest defined time, None)
unfolding step
step_change scl sda began to block latest defined time line = refl

step_real : (scl sda : Line) (began : ℕ) (block : Option ℕ) (latest : List ℕ) (defined : Bool) (time line : ℕ) →
    step (state scl sda (inside.Change began None) block latest defined time) code line ≡ Ok (state scl sda inside.Nothing block latest defined time, None)
unfolding step
step_real scl sda began block latest defined time line = refl

still_named : (level : Level) (line : Line) → CanBe line.probe → CanBe (changed code level line).probe
still_named level line is = let P : Finder → Type 0 = λ probe. CanBe probe in subst P (sym (changed-probe code level line)) is

-- both signals have their codes
abbrev AreNamed : Line → Line → Type 0
AreNamed scl sda = (is_empty scl.code ≡ false) × (is_empty sda.code ≡ false)

closes_in : (context : Context) (scl sda : Line) (block : Option ℕ) (latest : List ℕ) (defined : Bool) (time : ℕ) → CanBe scl.probe → CanBe sda.probe →
    IsElsewhere context ⊎ AreNamed scl sda → Closes (λ line. state scl sda context block latest defined time)
closes_in inside.Nothing scl sda block latest defined time of_scl of_sda safe = closes_outside scl sda block latest defined time of_scl of_sda
closes_in (inside.Skipped began) scl sda block latest defined time of_scl of_sda safe =
    with_word (λ line. state scl sda (inside.Skipped began) block latest defined time) (λ line. state scl sda inside.Nothing block latest defined time) end end_word
    (step_skipped_close scl sda began block latest defined time) (closes_outside scl sda block latest defined time of_scl of_sda)
closes_in (inside.Var began so_far) scl sda block latest defined time of_scl of_sda safe = closes_in_var so_far scl sda began block latest defined time of_scl of_sda
closes_in (inside.EndDefinitions began) scl sda block latest defined time of_scl of_sda (inl elsewhere) = absurd elsewhere
closes_in (inside.EndDefinitions began) scl sda block latest defined time of_scl of_sda (inr named) = closes_end scl sda (λ line. began) block latest defined time named.0 named.1
closes_in (inside.Change began (Some to)) scl sda block latest defined time of_scl of_sda safe =
    with_word (λ line. state scl sda (inside.Change began (Some to)) block latest defined time)
    (λ line. state (changed code to.scl scl) (changed code to.sda sda) inside.Nothing block latest defined time) code (record { some = refl; one_token = refl })
    (step_change scl sda began to block latest defined time)
    (closes_outside (changed code to.scl scl) (changed code to.sda sda) block latest defined time (still_named to.scl scl of_scl) (still_named to.sda sda of_sda))
closes_in (inside.Change began None) scl sda block latest defined time of_scl of_sda safe =
    with_word (λ line. state scl sda (inside.Change began None) block latest defined time) (λ line. state scl sda inside.Nothing block latest defined time) code
    (record { some = refl; one_token = refl }) (step_real scl sda began block latest defined time) (closes_outside scl sda block latest defined time of_scl of_sda)

-- ---- every state

codes_or_lost : (s : State) (of_scl of_sda : Bool) → is_empty s.scl.code ≡ of_scl → is_empty s.sda.code ≡ of_sda → IsEnding s.context → AreNamed s.scl s.sda ⊎ Lost s
codes_or_lost s true of_sda is_scl is_sda ending = inr (record { ending = ending; signal = Scl; none = rw is_scl refl })
codes_or_lost s false true is_scl is_sda ending = inr (record { ending = ending; signal = Sda; none = rw (is_scl, is_sda) refl })
codes_or_lost s false false is_scl is_sda ending = inl (is_scl, is_sda)

elsewhere_or_ending : (context : Context) → IsElsewhere context ⊎ IsEnding context
elsewhere_or_ending inside.Nothing = inl tt
elsewhere_or_ending (inside.Skipped began) = inl tt
elsewhere_or_ending (inside.Var began so_far) = inl tt
elsewhere_or_ending (inside.EndDefinitions began) = inr tt
elsewhere_or_ending (inside.Change began level) = inl tt

-- what a state can do
closes_by : (s : State) → CanBe s.scl.probe → CanBe s.sda.probe → IsElsewhere s.context ⊎ AreNamed s.scl s.sda → Closes (λ line. s)
closes_by s of_scl of_sda safe = closes_in s.context s.scl s.sda s.block s.code s.defined s.time of_scl of_sda safe

lost_by : (s : State) → CanBe s.scl.probe → CanBe s.sda.probe → AreNamed s.scl s.sda ⊎ Lost s → Closes (λ line. s) ⊎ Lost s
lost_by s of_scl of_sda (inl named) = inl (closes_by s of_scl of_sda (inr named))
lost_by s of_scl of_sda (inr lost) = inr lost

closes_or_lost_by : (s : State) → CanBe s.scl.probe → CanBe s.sda.probe → IsElsewhere s.context ⊎ IsEnding s.context → Closes (λ line. s) ⊎ Lost s
closes_or_lost_by s of_scl of_sda (inl elsewhere) = inl (closes_by s of_scl of_sda (inl elsewhere))
closes_or_lost_by s of_scl of_sda (inr ending) =
    lost_by s of_scl of_sda (codes_or_lost s (is_empty s.scl.code) (is_empty s.sda.code) refl refl ending)

pub closes_or_lost : (s : State) → CanBe s.scl.probe → CanBe s.sda.probe → Closes (λ line. s) ⊎ Lost s
closes_or_lost s of_scl of_sda = closes_or_lost_by s of_scl of_sda (elsewhere_or_ending s.context)

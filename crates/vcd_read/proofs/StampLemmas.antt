-- The changes of a dump, entry by entry and stamp by stamp.
use Rattle.std.proofs.Common.{◌≡◌, ℕ, ◌<◌, ◌⊎◌, inl, inr, Bool, true, false, ◌&&◌, ◌==◌, nat_lt, List, [], ◌∷◌, ◌++◌, Option, Some, None, is_some, Result, Ok, Err, refl, ap, sym, ◌∙◌, append_assoc, arith}
use Rattle.std.specs.Prelude.{if◌then◌else◌, option_to_list}
use Rattle.std.specs.Str.{bytes_eq}
use Rattle.std.proofs.lemmas.Bool.{eq-eqb}
use Rattle.std.proofs.lemmas.Bool.Decides.{nat_tests}
use Rattle.std.proofs.lemmas.List.{append-nil}
use Rattle.vcd_read.specs.declared.dumps.Context.{Context}
use Rattle.vcd_read.specs.declared.dumps.Context.TheVariants as inside
use Rattle.vcd_read.specs.declared.dumps.Levels.{Levels}
use Rattle.vcd_read.specs.declared.errors.Refusal.{Refusal}
use Rattle.vcd_read.specs.declared.samples.Level.{Level}
use Rattle.vcd_read.specs.declared.samples.Sample.{Sample}
use Rattle.vcd_read.specs.declared.words.Command.{Command}
use Rattle.vcd_read.specs.declared.words.Command.TheVariants.{Var, EndDefinitions, Changes, End, Other}
use Rattle.vcd_read.specs.Changes.{stays, change, change_of_code, both_changed, on_both, time_change, time_reached, stamp_sample, same_level}
use Rattle.vcd_read.specs.Dumps.{Run, step, run, and_then, with_front, with_last, at_end, ended}
use Rattle.vcd_read.specs.Grammar.{Skipped, Entry, scalar, vector, real, command, opens, closes, again, entry_tokens, IsEntry, AreEntries, is_skipped, opened_by, Named, level_by, level_after, Stamp, entries_tokens, stamps_tokens, AreStamps, open_after, open_after_stamps, sample_at, stamp_samples}
use Rattle.vcd_read.specs.Probes.{Finder, place_of}
use Rattle.vcd_read.specs.States.{Line, State}
use Rattle.vcd_read.specs.Tokens.{Token}
use Rattle.vcd_read.specs.Words.{is_empty, command_of, is_vector, level_at, time_of}
use Rattle.vcd_read.proofs.RunLemmas.{run_token, run_skipped, change_command, change_scalar}

-- how the two signals are found, their codes, and the code of the latest `$var`
pub record Names : Type 0 where
  pub scl : Finder
  pub sda : Finder
  pub scl_code : List ℕ
  pub sda_code : List ℕ
  pub latest : List ℕ

-- after the definitions, in this context, at this time and with these levels before the stamp and now
abbrev pub state_in : Names → Context → ℕ → (x y a b : Level) → Option ℕ → State
state_in n context time x y a b block = record {
  scl = record { probe = n.scl; code = n.scl_code; before = x; level = a };
  sda = record { probe = n.sda; code = n.sda_code; before = y; level = b };
  context = context;
  block = block;
  code = n.latest;
  defined = true;
  time = time;
}

abbrev pub scl_line : Names → Named
scl_line n = record { probe = n.scl; code = n.scl_code }

abbrev pub sda_line : Names → Named
sda_line n = record { probe = n.sda; code = n.sda_code }

-- what the digits of a vector say of the two lines
abbrev pub levels_in : Names → List ℕ → Levels
levels_in n digits = record { scl = level_at (place_of n.scl) digits; sda = level_at (place_of n.sda) digits }

abbrev pub state_at : Names → ℕ → (x y a b : Level) → Option ℕ → State
state_at n time x y a b block = state_in n inside.Nothing time x y a b block

abbrev pub block_by : Entry → Option ℕ → Option ℕ
block_by (opens token) block = Some token.line
block_by (closes token) block = None
block_by _ block = block

abbrev RunsEntry : Names → ℕ → (x y a b : Level) → Option ℕ → Entry → List Token → Type 0
RunsEntry n time x y a b block entry rest =
    run (state_at n time x y a b block) (entry_tokens entry ++ rest)
    ≡ run (state_at n time x y (level_by (scl_line n) a entry) (level_by (sda_line n) b entry) (block_by entry block)) rest

-- ---- changes

changed-by : (test : Bool) (line : Line) (level : Level) → (if test then record line { level = level } else line) ≡ record line { level = if test then level else line.level }
changed-by true line level = refl
changed-by false line level = refl

pub both_changed-by : (n : Names) (time : ℕ) (x y a b : Level) (block : Option ℕ) (code : List ℕ) (to : Levels) →
    both_changed code to (state_at n time x y a b block)
    ≡ state_at n time x y (if bytes_eq code n.scl_code then to.scl else a) (if bytes_eq code n.sda_code then to.sda else b) block
both_changed-by n time x y a b block code to =
    ap (λ line. record (both_changed code to (state_at n time x y a b block)) { scl = line })
    (changed-by (bytes_eq code n.scl_code) (record { probe = n.scl; code = n.scl_code; before = x; level = a }) to.scl)
    ∙ ap (λ line. record (state_at n time x y (if bytes_eq code n.scl_code then to.scl else a) b block) { sda = line })
    (changed-by (bytes_eq code n.sda_code) (record { probe = n.sda; code = n.sda_code; before = y; level = b }) to.sda)

pub step_changes : (n : Names) (time : ℕ) (x y a b : Level) (block : Option ℕ) (token : List ℕ) (line : ℕ) →
    step (state_at n time x y a b block) token line ≡ change (state_at n time x y a b block) token line
unfolding step
step_changes n time x y a b block token line = refl

runs_scalar : (n : Names) (time : ℕ) (x y a b : Level) (block : Option ℕ) (token : Token) (value : ℕ) (code : List ℕ) (level : Level) (rest : List Token) →
    IsEntry time (scalar token value code level) → RunsEntry n time x y a b block (scalar token value code level) rest
runs_scalar n time x y a b block token value code level rest is =
    let s = state_at n time x y a b block in
    run_token s (both_changed code (on_both level) s) token rest
    (step_changes n time x y a b block token.bytes token.line ∙ ap (λ t. change s t token.line) is.0 ∙ change_scalar s value code level token.line is.1 is.2)
    ∙ ap (λ t. run t rest) (both_changed-by n time x y a b block code (on_both level))

pub step_code : (n : Names) (began time : ℕ) (x y a b : Level) (block : Option ℕ) (to : Option Levels) (code : List ℕ) (line : ℕ) →
    step (state_in n (inside.Change began to) time x y a b block) code line ≡ stays (change_of_code (state_at n time x y a b block) to code line)
unfolding step
step_code n began time x y a b block to code line = refl

vector_begins : (n : Names) (time : ℕ) (x y a b : Level) (block : Option ℕ) (token : List ℕ) (line : ℕ) (digits : List ℕ) →
    ((token ≡ 98 ∷ digits) ⊎ (token ≡ 66 ∷ digits)) → is_vector digits ≡ true →
    change (state_at n time x y a b block) token line ≡ Ok (state_in n (inside.Change line (Some (levels_in n digits))) time x y a b block, None)
vector_begins n time x y a b block token line digits (inl is) value =
    ap (λ t. change (state_at n time x y a b block) t line) is ∙ rw value refl
vector_begins n time x y a b block token line digits (inr is) value =
    ap (λ t. change (state_at n time x y a b block) t line) is ∙ rw value refl

runs_vector : (n : Names) (time : ℕ) (x y a b : Level) (block : Option ℕ) (token : Token) (digits : List ℕ) (code : Token) (rest : List Token) →
    IsEntry time (vector token digits code) → RunsEntry n time x y a b block (vector token digits code) rest
runs_vector n time x y a b block token digits code rest is =
    let s = state_at n time x y a b block in
    let to = levels_in n digits in
    run_token s (state_in n (inside.Change token.line (Some to)) time x y a b block) token (code ∷ rest)
    (step_changes n time x y a b block token.bytes token.line ∙ vector_begins n time x y a b block token.bytes token.line digits is.0 is.1)
    ∙ run_token (state_in n (inside.Change token.line (Some to)) time x y a b block) (both_changed code.bytes to s) code rest
    (step_code n token.line time x y a b block (Some to) code.bytes code.line ∙ rw is.2 refl)
    ∙ ap (λ t. run t rest) (both_changed-by n time x y a b block code.bytes to)

text_begins : (n : Names) (time : ℕ) (x y a b : Level) (block : Option ℕ) (token : List ℕ) (line : ℕ) (text : List ℕ) →
    (((token ≡ 114 ∷ text) ⊎ (token ≡ 82 ∷ text)) ⊎ ((token ≡ 115 ∷ text) ⊎ (token ≡ 83 ∷ text))) → is_empty text ≡ false →
    change (state_at n time x y a b block) token line ≡ Ok (state_in n (inside.Change line None) time x y a b block, None)
text_begins n time x y a b block token line text (inl (inl is)) some = ap (λ t. change (state_at n time x y a b block) t line) is ∙ rw some refl
text_begins n time x y a b block token line text (inl (inr is)) some = ap (λ t. change (state_at n time x y a b block) t line) is ∙ rw some refl
text_begins n time x y a b block token line text (inr (inl is)) some = ap (λ t. change (state_at n time x y a b block) t line) is ∙ rw some refl
text_begins n time x y a b block token line text (inr (inr is)) some = ap (λ t. change (state_at n time x y a b block) t line) is ∙ rw some refl

runs_real : (n : Names) (time : ℕ) (x y a b : Level) (block : Option ℕ) (token : Token) (text : List ℕ) (code : Token) (rest : List Token) →
    IsEntry time (real token text code) → RunsEntry n time x y a b block (real token text code) rest
runs_real n time x y a b block token text code rest is =
    let s = state_at n time x y a b block in
    run_token s (state_in n (inside.Change token.line None) time x y a b block) token (code ∷ rest)
    (step_changes n time x y a b block token.bytes token.line ∙ text_begins n time x y a b block token.bytes token.line text is.0 is.1)
    ∙ run_token (state_in n (inside.Change token.line None) time x y a b block) s code rest
    (step_code n token.line time x y a b block None code.bytes code.line ∙ rw is.2 refl)

-- ---- commands

begins_skipped : (s : State) (token : List ℕ) (line : ℕ) (k : Option Command) → command_of token ≡ k → is_skipped k ≡ true →
    change s token line ≡ Ok (record s { context = inside.Skipped line }, None)
begins_skipped s token line None is skipped = absurd cc
begins_skipped s token line (Some Var) is skipped = change_command s token Var line is
begins_skipped s token line (Some EndDefinitions) is skipped = change_command s token EndDefinitions line is
begins_skipped s token line (Some Changes) is skipped = absurd cc
begins_skipped s token line (Some End) is skipped = absurd cc
begins_skipped s token line (Some Other) is skipped = change_command s token Other line is

runs_command : (n : Names) (time : ℕ) (x y a b : Level) (block : Option ℕ) (skipped : Skipped) (rest : List Token) →
    IsEntry time (command skipped) → RunsEntry n time x y a b block (command skipped) rest
runs_command n time x y a b block skipped rest is =
    let s = state_at n time x y a b block in
    run_token s (record s { context = inside.Skipped skipped.word.line }) skipped.word ((skipped.body ++ (skipped.close ∷ [])) ++ rest)
    (step_changes n time x y a b block skipped.word.bytes skipped.word.line ∙ begins_skipped s skipped.word.bytes skipped.word.line (command_of skipped.word.bytes) refl is.0)
    ∙ run_skipped skipped.body skipped.close rest s skipped.word.line is.1.0 is.1.1

runs_opens : (n : Names) (time : ℕ) (x y a b : Level) (block : Option ℕ) (token : Token) (is_open : Bool) (rest : List Token) →
    IsEntry time (opens token) → opened_by (is_some block) (opens token) ≡ Some is_open → RunsEntry n time x y a b block (opens token) rest
runs_opens n time x y a b (Some line) token is_open rest is opened = absurd cc
runs_opens n time x y a b None token is_open rest is opened =
    run_token (state_at n time x y a b None) (state_at n time x y a b (Some token.line)) token rest
    (step_changes n time x y a b None token.bytes token.line ∙ change_command (state_at n time x y a b None) token.bytes Changes token.line is)

runs_closes : (n : Names) (time : ℕ) (x y a b : Level) (block : Option ℕ) (token : Token) (is_open : Bool) (rest : List Token) →
    IsEntry time (closes token) → opened_by (is_some block) (closes token) ≡ Some is_open → RunsEntry n time x y a b block (closes token) rest
runs_closes n time x y a b None token is_open rest is opened = absurd cc
runs_closes n time x y a b (Some line) token is_open rest is opened =
    run_token (state_at n time x y a b (Some line)) (state_at n time x y a b None) token rest
    (step_changes n time x y a b (Some line) token.bytes token.line ∙ change_command (state_at n time x y a b (Some line)) token.bytes End token.line is)

-- ---- times

pub same_time : (s : State) (line : ℕ) → time_reached s s.time line ≡ Ok (s, None)
same_time s line =
    let not_less : nat_lt s.time s.time ≡ false = grind (arith, nat_tests) in
    let equal : (s.time == s.time) ≡ true = eq-eqb s.time s.time refl in
    rw (not_less, equal) refl

runs_again : (n : Names) (time : ℕ) (x y a b : Level) (block : Option ℕ) (token : Token) (digits : List ℕ) (rest : List Token) →
    IsEntry time (again token digits) → RunsEntry n time x y a b block (again token digits) rest
runs_again n time x y a b block token digits rest is =
    let s = state_at n time x y a b block in
    run_token s s token rest
    (step_changes n time x y a b block token.bytes token.line ∙ ap (λ t. change s t token.line) is.0
    ∙ ap (λ o. time_change s o token.line) is.1 ∙ same_time s token.line)

pub runs_entry : (entry : Entry) (n : Names) (time : ℕ) (x y a b : Level) (block : Option ℕ) (is_open : Bool) (rest : List Token) →
    IsEntry time entry → opened_by (is_some block) entry ≡ Some is_open → RunsEntry n time x y a b block entry rest
runs_entry (scalar token value code level) n time x y a b block is_open rest is opened = runs_scalar n time x y a b block token value code level rest is
runs_entry (vector token digits code) n time x y a b block is_open rest is opened = runs_vector n time x y a b block token digits code rest is
runs_entry (real token text code) n time x y a b block is_open rest is opened = runs_real n time x y a b block token text code rest is
runs_entry (command skipped) n time x y a b block is_open rest is opened = runs_command n time x y a b block skipped rest is
runs_entry (opens token) n time x y a b block is_open rest is opened = runs_opens n time x y a b block token is_open rest is opened
runs_entry (closes token) n time x y a b block is_open rest is opened = runs_closes n time x y a b block token is_open rest is opened
runs_entry (again token digits) n time x y a b block is_open rest is opened = runs_again n time x y a b block token digits rest is

-- ---- entries

block_after : (entry : Entry) (block : Option ℕ) (is_open : Bool) → opened_by (is_some block) entry ≡ Some is_open → is_some (block_by entry block) ≡ is_open
block_after (scalar token value code level) None is_open opened = cc
block_after (scalar token value code level) (Some line) is_open opened = cc
block_after (vector token digits code) None is_open opened = cc
block_after (vector token digits code) (Some line) is_open opened = cc
block_after (real token text code) None is_open opened = cc
block_after (real token text code) (Some line) is_open opened = cc
block_after (command skipped) None is_open opened = cc
block_after (command skipped) (Some line) is_open opened = cc
block_after (opens token) None is_open opened = cc
block_after (opens token) (Some line) is_open opened = absurd cc
block_after (closes token) None is_open opened = absurd cc
block_after (closes token) (Some line) is_open opened = cc
block_after (again token digits) None is_open opened = cc
block_after (again token digits) (Some line) is_open opened = cc

abbrev pub blocks_by : List Entry → Option ℕ → Option ℕ
blocks_by [] block = block
blocks_by (entry ∷ entries) block = blocks_by entries (block_by entry block)

-- what the first entry leaves, where all of them keep to the rule of blocks
first_opened : (opened : Option Bool) (entries : List Entry) (is_open : Bool) → open_after opened entries ≡ Some is_open → (now : Bool) × (opened ≡ Some now)
first_opened None entries is_open after = absurd cc
first_opened (Some now) entries is_open after = (now, refl)

pub blocks_after : (entries : List Entry) (block : Option ℕ) (is_open : Bool) → open_after (Some (is_some block)) entries ≡ Some is_open →
    is_some (blocks_by entries block) ≡ is_open
blocks_after [] block is_open after = cc
blocks_after (entry ∷ entries) block is_open after =
    let first = first_opened (opened_by (is_some block) entry) entries is_open after in
    let now : is_some (block_by entry block) ≡ first.0 = block_after entry block first.0 first.1 in
    blocks_after entries (block_by entry block) is_open
    (ap (λ o. open_after (Some o) entries) now ∙ ap (λ o. open_after o entries) (sym first.1) ∙ after)

pub runs_entries : (entries : List Entry) (n : Names) (time : ℕ) (x y a b : Level) (block : Option ℕ) (is_open : Bool) (rest : List Token) →
    AreEntries time entries → open_after (Some (is_some block)) entries ≡ Some is_open →
    run (state_at n time x y a b block) (entries_tokens entries ++ rest)
    ≡ run (state_at n time x y (level_after (scl_line n) a entries) (level_after (sda_line n) b entries) (blocks_by entries block)) rest
runs_entries [] n time x y a b block is_open rest are after = refl
runs_entries (entry ∷ entries) n time x y a b block is_open rest are after =
    let first = first_opened (opened_by (is_some block) entry) entries is_open after in
    let now : is_some (block_by entry block) ≡ first.0 = block_after entry block first.0 first.1 in
    ap (run (state_at n time x y a b block)) (append_assoc (entry_tokens entry) (entries_tokens entries) rest)
    ∙ runs_entry entry n time x y a b block first.0 (entries_tokens entries ++ rest) are.0 first.1
    ∙ runs_entries entries n time x y (level_by (scl_line n) a entry) (level_by (sda_line n) b entry) (block_by entry block) is_open rest are.1
    (ap (λ o. open_after (Some o) entries) now ∙ ap (λ o. open_after o entries) (sym first.1) ∙ after)

-- ---- stamps

none_after : (stamps : List Stamp) (is_open : Bool) → open_after_stamps None stamps ≡ Some is_open → ⊥
none_after [] is_open after = cc
none_after (stamp ∷ stamps) is_open after = none_after stamps is_open after

stamps_open : (opened : Option Bool) (stamps : List Stamp) (is_open : Bool) → open_after_stamps opened stamps ≡ Some is_open → (now : Bool) × (opened ≡ Some now)
stamps_open (Some now) stamps is_open after = (now, refl)
stamps_open None [] is_open after = absurd cc
stamps_open None (stamp ∷ stamps) is_open after = absurd (none_after stamps is_open after)

later : (s : State) (time line : ℕ) → s.time < time → time_reached s time line
    ≡ Ok (record s { time = time; scl = record s.scl { before = s.scl.level }; sda = record s.sda { before = s.sda.level } }, stamp_sample s)
later s time line after =
    let not_less : nat_lt time s.time ≡ false = grind (arith, nat_tests) in
    let not_equal : (time == s.time) ≡ false = grind (arith, nat_tests) in
    rw (not_less, not_equal) refl

sample_by : (test : Bool) (sample : Sample) → option_to_list (if test then None else Some sample) ≡ (if test then [] else sample ∷ [])
sample_by true sample = refl
sample_by false sample = refl

sample_of-stamp : (n : Names) (time : ℕ) (x y a b : Level) (block : Option ℕ) →
    option_to_list (stamp_sample (state_at n time x y a b block)) ≡ sample_at time x y a b
sample_of-stamp n time x y a b block = sample_by (same_level x a && same_level y b) (record { time = time; scl = a; sda = b })

begins_stamp : (n : Names) (time : ℕ) (x y a b : Level) (block : Option ℕ) (stamp : Stamp) →
    stamp.mark.bytes ≡ 35 ∷ stamp.digits → time_of stamp.digits ≡ Some stamp.time → time < stamp.time →
    step (state_at n time x y a b block) stamp.mark.bytes stamp.mark.line
    ≡ Ok (state_at n stamp.time a b a b block, stamp_sample (state_at n time x y a b block))
begins_stamp n time x y a b block stamp is digits after =
    let s = state_at n time x y a b block in
    step_changes n time x y a b block stamp.mark.bytes stamp.mark.line
    ∙ ap (λ t. change s t stamp.mark.line) is
    ∙ ap (λ o. time_change s o stamp.mark.line) digits
    ∙ later s stamp.time stamp.mark.line after

abbrev pub in_front : List Sample → Result (List Sample) Refusal → Result (List Sample) Refusal
in_front samples (Ok more) = Ok (samples ++ more)
in_front samples (Err refusal) = Err refusal

last_in_front : (samples more : List Sample) (last : Result (Option Sample) Refusal) → with_last (samples ++ more) last ≡ in_front samples (with_last more last)
last_in_front samples more (Ok last) = ap Ok (append_assoc samples more (option_to_list last))
last_in_front samples more (Err refusal) = refl

pub ended-front : (samples : List Sample) (said : Run) → ended (with_front samples said) ≡ in_front samples (ended said)
ended-front samples (Ok p) = last_in_front samples p.1 (at_end p.0)
ended-front samples (Err refusal) = refl

-- the end, after the last stamp
ends_closed : (n : Names) (time : ℕ) (x y a b : Level) → at_end (state_at n time x y a b None) ≡ Ok (stamp_sample (state_at n time x y a b None))
ends_closed n time x y a b = refl

no_block : (block : Option ℕ) → is_some block ≡ false → block ≡ None
no_block None none = refl
no_block (Some line) none = absurd cc

pub ended_stamps : (stamps : List Stamp) (entries : List Entry) (n : Names) (time : ℕ) (x y a b : Level) (block : Option ℕ) →
    AreEntries time entries → AreStamps time stamps → open_after_stamps (open_after (Some (is_some block)) entries) stamps ≡ Some false →
    ended (run (state_at n time x y a b block) (entries_tokens entries ++ stamps_tokens stamps))
    ≡ Ok (sample_at time x y (level_after (scl_line n) a entries) (level_after (sda_line n) b entries)
    ++ stamp_samples (scl_line n) (sda_line n) (level_after (scl_line n) a entries) (level_after (sda_line n) b entries) stamps)
ended_stamps [] entries n time x y a b block are stamps_are closed =
    let scl = level_after (scl_line n) a entries in
    let sda = level_after (sda_line n) b entries in
    let none : blocks_by entries block ≡ None = no_block (blocks_by entries block) (blocks_after entries block false closed) in
    ap ended (runs_entries entries n time x y a b block false [] are closed)
    ∙ ap (λ o. ended (run (state_at n time x y scl sda o) [])) none
    ∙ ap Ok (sample_of-stamp n time x y scl sda None ∙ sym (append-nil (sample_at time x y scl sda)))
ended_stamps (stamp ∷ stamps) entries n time x y a b block are stamps_are closed =
    let scl = level_after (scl_line n) a entries in
    let sda = level_after (sda_line n) b entries in
    let first = stamps_open (open_after (Some (is_some block)) entries) (stamp ∷ stamps) false closed in
    let now : is_some (blocks_by entries block) ≡ first.0 = blocks_after entries block first.0 first.1 in
    let rest = entries_tokens stamp.entries ++ stamps_tokens stamps in
    let closed_then : open_after_stamps (open_after (Some (is_some (blocks_by entries block))) stamp.entries) stamps ≡ Some false =
    ap (λ o. open_after_stamps (open_after (Some o) stamp.entries) stamps) now
    ∙ ap (λ o. open_after_stamps (open_after o stamp.entries) stamps) (sym first.1) ∙ closed in
    ap ended (runs_entries entries n time x y a b block first.0 (stamp.mark ∷ rest) are first.1)
    ∙ ap (λ r. ended (and_then r (λ s. run s rest))) (begins_stamp n time x y scl sda (blocks_by entries block) stamp stamps_are.0 stamps_are.1 stamps_are.2)
    ∙ ended-front (option_to_list (stamp_sample (state_at n time x y scl sda (blocks_by entries block)))) (run (state_at n stamp.time scl sda scl sda (blocks_by entries block)) rest)
    ∙ ap (λ samples. in_front samples (ended (run (state_at n stamp.time scl sda scl sda (blocks_by entries block)) rest))) (sample_of-stamp n time x y scl sda (blocks_by entries block))
    ∙ ap (in_front (sample_at time x y scl sda)) (ended_stamps stamps stamp.entries n stamp.time scl sda scl sda (blocks_by entries block) stamps_are.3 stamps_are.4 closed_then)

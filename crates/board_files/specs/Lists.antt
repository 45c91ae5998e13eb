-- The list of the texts of a board: those that the heads of the given ones name, in order, each with what it names itself before it,
-- and last the text that names them. Each file stands once.
use Rattle.std.specs.Prelude.{◌≡◌, ℕ, ◌<◌, ◌≤◌, Bool, true, false, List, [], ◌∷◌, ◌++◌, length, ◌==◌, Result, Ok, Err, if◌then◌else◌}
use Rattle.std.specs.List.{list_any}
use Rattle.message_tree.specs.Codes.{code}
use Rattle.lexer.specs.Lexemes.{text_end}
use Rattle.lexer.specs.declared.lexemes.Letters.{Letters}
use Rattle.lexer.specs.declared.lexemes.Letters.TheVariants.{Board}
use Rattle.plan_text.specs.declared.errors.PlanError.{PlanError}
use Rattle.plan_text.specs.declared.errors.PlanError.TheVariants as errors
use Rattle.brief_tokens.specs.Tokens.{Tokens, last}
use Rattle.brief_tokens.specs.Heads.{begun, next_file, after_file, names, no_more, wrong}
use Rattle.board_files.specs.Files.{Files, is_known}
use Rattle.board_files.specs.declared.openers.FileId.{FileId}
use Rattle.run_parts.specs.declared.errors.RunError.{RunError}
use Rattle.run_parts.specs.declared.errors.RunError.TheVariants as error

-- a text of a list, and its path
pub record Listed : Type 0 where
  pub path : List ℕ
  pub text : List ℕ

-- one that was given: the folder from which it names files, and which file it is
pub record Given : Type 0 where
  pub listed : Listed
  pub folder : List ℕ
  pub id : FileId

-- ---- paths

abbrev pub has_stroke : List ℕ → Bool
has_stroke path = list_any (λ byte. byte == code "/") path

-- a path up to its last `/`
abbrev pub folder_of : List ℕ → List ℕ
folder_of [] = []
folder_of (byte ∷ path) = if has_stroke (byte ∷ path) then byte ∷ folder_of path else []

abbrev pub is_absolute : List ℕ → Bool
is_absolute [] = false
is_absolute (byte ∷ name) = byte == code "/"

-- the path of a file, by its name in a text which names files from this folder
abbrev pub path_from : List ℕ → List ℕ → List ℕ
path_from folder name = if is_absolute name then name else folder ++ name

-- ---- heads

-- where the files that a head names begin; a brief of the first version names none
abbrev pub files_begin : Result (Letters × Tokens) PlanError → Result Tokens PlanError
files_begin (Ok (Board, tokens)) = Ok tokens
files_begin (Ok (letters, tokens)) = Ok (last text_end 1)
files_begin (Err e) = Err e

abbrev pub files_of : List ℕ → Result Tokens PlanError
files_of text = files_begin (begun text)

-- the most texts of a list before a file that a head names
abbrev pub most_before : ℕ
most_before = 63

-- ---- what a list has

module _ {D : Type 0} (files : Files D) where
  mutual
    -- What the files add to a list that a head names from these tokens on, in a text with this folder, where the files are known that
    -- stand in the list or are being read; and which are known then.
    pub data Lists : (folder : List ℕ) (from : Tokens) (known : List FileId) (before : D) (texts : List Listed) (known_now : List FileId) (after : D) → Type 0 where
      no_file : {folder : List ℕ} {from rest : Tokens} {known : List FileId} {state : D} →
          next_file from ≡ no_more rest →
          Lists folder from known state [] known state
      one_file : {folder name : List ℕ} {from rest more : Tokens} {line : ℕ} {known between known_now : List FileId}
          {before middle after : D} {texts others : List Listed} →
          next_file from ≡ names name line rest →
          Adds (path_from folder name) known before texts between middle →
          after_file rest ≡ Ok more →
          Lists folder more between middle others known_now after →
          Lists folder from known before (texts ++ others) known_now after

    -- The same of one file. It is passed over where it is known. Else it is read; there have to be fewer than 64 texts before it.
    pub data Adds : (path : List ℕ) (known : List FileId) (before : D) (texts : List Listed) (known_now : List FileId) (after : D) → Type 0 where
      passed : {path : List ℕ} {id : FileId} {known : List FileId} {before after : D} →
          files.opens before path (Ok id) after →
          is_known id known ≡ true →
          Adds path known before [] known after
      read : {path text : List ℕ} {id : FileId} {known known_now : List FileId} {before opened begins after : D} {texts : List Listed} →
          files.opens before path (Ok id) opened →
          is_known id known ≡ false →
          length known ≤ most_before →
          files.gives opened (Ok text) begins →
          AddsText (record { path = path; text = text }) (folder_of path) (known ++ id ∷ []) begins texts known_now after →
          Adds path known before texts known_now after

    -- the same of a text: what its head names, and known_now the text
    pub data AddsText : (text : Listed) (folder : List ℕ) (known : List FileId) (before : D) (texts : List Listed) (known_now : List FileId) (after : D) → Type 0 where
      text_last : {text : Listed} {folder : List ℕ} {head : Tokens} {known known_now : List FileId} {before after : D} {texts : List Listed} →
          files_of text.text ≡ Ok head →
          Lists folder head known before texts known_now after →
          AddsText text folder known before (texts ++ text ∷ []) known_now after

  -- The list of these texts that were given: each after what its head names. One that stands there already is passed over.
  pub data ListsAll : (given : List Given) (known : List FileId) (before : D) (texts : List Listed) (after : D) → Type 0 where
    no_text : {known : List FileId} {state : D} → ListsAll [] known state [] state
    stands : {given : List Given} {text : Given} {known : List FileId} {before after : D} {texts : List Listed} →
        is_known text.id known ≡ true →
        ListsAll given known before texts after →
        ListsAll (text ∷ given) known before texts after
    one_text : {given : List Given} {text : Given} {known known_now : List FileId} {before middle after : D} {texts others : List Listed} →
        is_known text.id known ≡ false →
        AddsText text.listed text.folder (known ++ text.id ∷ []) before texts known_now middle →
        ListsAll given known_now middle others after →
        ListsAll (text ∷ given) known before (texts ++ others) after

-- ---- where there is none

-- at a token of this text, or at a file whose name stands in this text on this line
pub data Stop : Type 0 where
  refused : (text : Listed) (e : PlanError) → Stop
  unread : (text : Listed) (line : ℕ) (path : List ℕ) (e : RunError) → Stop

module _ {D : Type 0} (files : Files D) where
  mutual
    -- the files that the head of this text names from these tokens on stop there
    pub data Stops : (text : Listed) (folder : List ℕ) (from : Tokens) (known : List FileId) (before : D) (stop : Stop) (after : D) → Type 0 where
      no_name : {text : Listed} {folder : List ℕ} {from : Tokens} {known : List FileId} {state : D} {e : PlanError} →
          next_file from ≡ wrong e →
          Stops text folder from known state (refused text e) state
      at_file : {text : Listed} {folder name : List ℕ} {from rest : Tokens} {line : ℕ} {known : List FileId} {before after : D} {stop : Stop} →
          next_file from ≡ names name line rest →
          StopsAt text line (path_from folder name) known before stop after →
          Stops text folder from known before stop after
      no_end : {text : Listed} {folder name : List ℕ} {from rest : Tokens} {line : ℕ} {known known_now : List FileId} {before after : D} {texts : List Listed} {e : PlanError} →
          next_file from ≡ names name line rest →
          Adds files (path_from folder name) known before texts known_now after →
          after_file rest ≡ Err e →
          Stops text folder from known before (refused text e) after
      later : {text : Listed} {folder name : List ℕ} {from rest more : Tokens} {line : ℕ} {known known_now : List FileId} {before middle after : D} {texts : List Listed} {stop : Stop} →
          next_file from ≡ names name line rest →
          Adds files (path_from folder name) known before texts known_now middle →
          after_file rest ≡ Ok more →
          Stops text folder more known_now middle stop after →
          Stops text folder from known before stop after

    -- the file of this path, whose name stands in this text on this line
    pub data StopsAt : (text : Listed) (line : ℕ) (path : List ℕ) (known : List FileId) (before : D) (stop : Stop) (after : D) → Type 0 where
      unopened : {text : Listed} {line : ℕ} {path : List ℕ} {known : List FileId} {before after : D} {e : RunError} →
          files.opens before path (Err e) after →
          StopsAt text line path known before (unread text line path e) after
      too_many : {text : Listed} {line : ℕ} {path : List ℕ} {id : FileId} {known : List FileId} {before after : D} →
          files.opens before path (Ok id) after →
          is_known id known ≡ false →
          most_before < length known →
          StopsAt text line path known before (refused text (errors.TooMany line)) after
      not_given : {text : Listed} {line : ℕ} {path : List ℕ} {id : FileId} {known : List FileId} {before opened after : D} {e : RunError} →
          files.opens before path (Ok id) opened →
          is_known id known ≡ false →
          length known ≤ most_before →
          files.gives opened (Err e) after →
          StopsAt text line path known before (unread text line path e) after
      inside : {text : Listed} {line : ℕ} {path bytes : List ℕ} {id : FileId} {known : List FileId} {before opened begins after : D} {stop : Stop} →
          files.opens before path (Ok id) opened →
          is_known id known ≡ false →
          length known ≤ most_before →
          files.gives opened (Ok bytes) begins →
          StopsText (record { path = path; text = bytes }) (folder_of path) (known ++ id ∷ []) begins stop after →
          StopsAt text line path known before stop after

    -- a text: at `brief` and its version, or at the files that its head names
    pub data StopsText : (text : Listed) (folder : List ℕ) (known : List FileId) (before : D) (stop : Stop) (after : D) → Type 0 where
      no_head : {text : Listed} {folder : List ℕ} {known : List FileId} {state : D} {e : PlanError} →
          files_of text.text ≡ Err e →
          StopsText text folder known state (refused text e) state
      in_head : {text : Listed} {folder : List ℕ} {head : Tokens} {known : List FileId} {before after : D} {stop : Stop} →
          files_of text.text ≡ Ok head →
          Stops text folder head known before stop after →
          StopsText text folder known before stop after

  -- texts that were given
  pub data StopsAll : (given : List Given) (known : List FileId) (before : D) (stop : Stop) (after : D) → Type 0 where
    passed_over : {given : List Given} {text : Given} {known : List FileId} {before after : D} {stop : Stop} →
        is_known text.id known ≡ true →
        StopsAll given known before stop after →
        StopsAll (text ∷ given) known before stop after
    at_text : {given : List Given} {text : Given} {known : List FileId} {before after : D} {stop : Stop} →
        is_known text.id known ≡ false →
        StopsText text.listed text.folder (known ++ text.id ∷ []) before stop after →
        StopsAll (text ∷ given) known before stop after
    further : {given : List Given} {text : Given} {known known_now : List FileId} {before middle after : D} {texts : List Listed} {stop : Stop} →
        is_known text.id known ≡ false →
        AddsText files text.listed text.folder (known ++ text.id ∷ []) before texts known_now middle →
        StopsAll given known_now middle stop after →
        StopsAll (text ∷ given) known before stop after

-- What opens files says of itself, and which file is which.
use Rattle.std.specs.Prelude.{ℕ, Bool, ◌&&◌, ◌==◌, List, Result}
use Rattle.std.specs.List.{list_any}
use Rattle.board_files.specs.declared.openers.FileId.{FileId}
use Rattle.run_parts.specs.declared.errors.RunError.{RunError}

-- what is known of what opens files, of this type
pub record Files (D : Type 0) : Type 1 where
  -- asked for the file of this path, it says which file that is, or why it cannot be opened, and goes from the first state to the
  -- second
  pub opens : D → List ℕ → Result FileId RunError → D → Type 0
  -- asked for the file that it opened last, it gives all of its bytes, or says why it cannot
  pub gives : D → Result (List ℕ) RunError → D → Type 0

-- one file, whatever its paths
abbrev pub is_same_file : FileId → FileId → Bool
is_same_file a b = (a.device == b.device) && (a.inode == b.inode)

abbrev pub is_known : FileId → List FileId → Bool
is_known id known = list_any (is_same_file id) known

-- those of the system, of which nothing is known
abbrev pub any_files : {D : Type 0} → Files D
any_files = record {
  opens = λ before path answer after. Unit {0};
  gives = λ before answer after. Unit {0};
}

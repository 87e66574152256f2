-- Writing and reading undo each other: the statements. Assumes nothing.
use Rattle.std.specs.Prelude.{◌≡◌, List, ℕ, Ok}
use Rattle.waits.specs.Numbers.{check_of}
use Rattle.format.specs.Files.{read_of}
use Rattle.format.specs.Files.Said.{Graph}
use Rattle.format.specs.Written.{file_of, Plain}

pub record Undone : Type 0 where
  -- reading back what was written of an accepted graph gives that graph
  pub read_back : (n : ℕ) (rows : List ℕ) → check_of n rows ≡ Ok tt → read_of (file_of n rows) ≡ Graph n rows
  -- an accepted file with no leading zeros and no quotes, CR LF after every line, is written back byte for byte
  pub byte_for_byte : (bytes : List ℕ) (n : ℕ) (rows : List ℕ) → read_of bytes ≡ Graph n rows → Plain bytes → file_of n rows ≡ bytes
  -- every file that is written is of that kind, whatever the rows
  pub plain : (n : ℕ) (rows : List ℕ) → Plain (file_of n rows)
  -- and of that kind a graph has one file
  pub one_file : (bytes bytes' : List ℕ) (n : ℕ) (rows : List ℕ) → read_of bytes ≡ Graph n rows → read_of bytes' ≡ Graph n rows
      → Plain bytes → Plain bytes' → bytes ≡ bytes'

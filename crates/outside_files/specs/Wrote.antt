-- What a call has written: some files whole, then a front of at most one, and no other file. This project's own.
use Rattle.std.specs.Prelude.{ℕ, ◌≡◌, List, [], ◌∷◌, ◌++◌, Option, None, Some, option_map}
use Rattle.pet_base.specs.Seen.{Seen, Files, with_file}
use Rattle.outside_files.specs.Outputs.{IsPrefix}

-- the name and the bytes of a file
pub record File : Type 0 where
  pub name : List ℕ
  pub bytes : List ℕ

-- the same files, but these, of which a later one counts
abbrev pub with_files : List File → Files → Files
with_files [] files = files
with_files (file ∷ more) files = with_files more (with_file file.name file.bytes files)

-- Where the files are told, these were written one after the other, each whole, and then, where one is named, a front
-- of
-- it. No other file has changed.
abbrev pub Wrote : List File → Option File → Seen → Seen → Type 0
Wrote whole None old new = new.files ≡ option_map (with_files whole) old.files
Wrote whole (Some file) old new =
    (front : List ℕ) × IsPrefix front file.bytes
    × (new.files ≡ option_map (with_files (whole ++ record { name = file.name; bytes = front } ∷ [])) old.files)

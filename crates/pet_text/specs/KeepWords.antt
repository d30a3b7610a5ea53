-- The words of the program `pet-keep`. This project's own.
use Rattle.std.specs.Prelude.{ℕ, List, [], ◌∷◌, Option, None, Some, if◌then◌else◌}
use Rattle.pet_text.specs.Words.{end_of, session_of, receive_files}
use Rattle.pet_text.specs.declared.end.End.{End}
use Rattle.pet_text.specs.declared.keep_words.KeepWords.{KeepWords}

-- what the words name, where the two files that are written have names, each another than the other, and than a file
-- that is read
abbrev pub keep_of : Option End → Option (List ℕ) → List ℕ → List ℕ → Option KeepWords
keep_of None session journal store = None
keep_of (Some from) None journal store = None
keep_of (Some from) (Some session) journal store =
    if receive_files from journal store
    then Some (record { from = from; session = session; journal = journal; store = store }) else None

-- `FROM SESSION JOURNAL STORE`. Datagrams are received at any port, also at one that is to be found, which is port 0.
abbrev pub keep_words_of : List (List ℕ) → Option KeepWords
keep_words_of (from ∷ session ∷ journal ∷ store ∷ []) = keep_of (end_of 0 from) (session_of session) journal store
keep_words_of _ = None

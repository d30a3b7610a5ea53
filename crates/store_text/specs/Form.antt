-- The forms of stores. A form is a mark of four bytes, the bytes of a tag, and the format of its frames. This project's
-- own.
use Rattle.std.specs.Prelude.{◌≡◌, ℕ, ◌≤◌, false, List, length, take}
use Rattle.sha2.specs.Sha256.{sha256}
use Rattle.packet_frame.specs.Format.{IsFormat}
use Rattle.store_text.specs.declared.format.StoreForm.{StoreForm}

-- what is asked of a form
pub record IsStoreForm (t : StoreForm) : Type 0 where
  pub mark : length t.mark ≡ 4
  pub tag : t.tag ≤ 32
  pub frames : IsFormat t.frames
  pub word : t.frames.word ≡ 2
  pub plain : t.frames.bounds.doubled ≡ false

-- the tag of the bytes before it: the front of their SHA-256 digest
abbrev pub store_tag : StoreForm → List ℕ → List ℕ
store_tag t bytes = take t.tag (sha256 bytes)

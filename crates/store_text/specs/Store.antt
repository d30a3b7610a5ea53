-- The text of a store: all frames that are kept of one session. Numbers are big-endian, and the tag is the front of the
-- SHA-256 digest (FIPS 180-4) of all bytes before it. This project's own format. A store is of a form; names that tell
-- none
-- are of the stores that are written today.
use Rattle.std.specs.Prelude.{ℕ, List, ◌++◌, length}
use Rattle.std.specs.Int.{w32, to_be_bytes}
use Rattle.std.specs.List.{flat_map}
use Rattle.pet_base.specs.Entries.{entry_text}
use Rattle.packet_frame.specs.Frame.{Fields, text_in}
use Rattle.packet_verdicts.specs.KeptSet.{KeptSet}
use Rattle.packet_verdicts.specs.Union.{frames_in}
use Rattle.store_text.specs.declared.format.StoreForm.{StoreForm}
use Rattle.store_text.specs.declared.format.TheConstants.{STORE_FORM, OLD_STORE_FORM}
use Rattle.store_text.specs.Form.{store_tag}

-- the entries of some frames, on end
abbrev pub entries_in : StoreForm → List Fields → List ℕ
entries_in t frames = flat_map (λ f. entry_text (text_in t.frames f)) frames

-- all that is before the entries: the mark, the session number, and how many frames there are
abbrev pub head_in : StoreForm → List ℕ → ℕ → List ℕ
head_in t session count = t.mark ++ session ++ to_be_bytes w32 count

-- all that is before the tag
abbrev pub text_before_tag_in : StoreForm → List ℕ → List Fields → List ℕ
text_before_tag_in t session frames = head_in t session (length frames) ++ entries_in t frames

-- the store of these frames
unfoldable pub store_of_in : StoreForm → List ℕ → List Fields → List ℕ
store_of_in t session frames = text_before_tag_in t session frames ++ store_tag t (text_before_tag_in t session frames)

-- the stores that are written today
abbrev pub text_before_tag : List ℕ → List Fields → List ℕ
text_before_tag session frames = text_before_tag_in STORE_FORM session frames

abbrev pub store_of : List ℕ → List Fields → List ℕ
store_of session frames = store_of_in STORE_FORM session frames

-- the store of what is kept: its frames by group, then number. Equal sets have equal texts.
abbrev pub store_text : KeptSet → List ℕ
store_text set = store_of set.session (frames_in set)

-- the same as a store of the first version
abbrev pub old_store_text : KeptSet → List ℕ
old_store_text set = store_of_in OLD_STORE_FORM set.session (frames_in set)

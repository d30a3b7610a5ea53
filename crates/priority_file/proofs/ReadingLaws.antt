-- How a file of each size and encoding reads, and that the reading by stages is the table of refusals.
use Rattle.std.proofs.Common.{◌≡◌, ℕ, ◌<◌, ◌≤◌, Bool, true, false, nat_lt, List, length, Option, Some, None, Result, Ok}
use Rattle.std.proofs.Common.{Err, IfOk, IfErr, ◌≢◌, unwrap_or, is_none, [], ◌∷◌, ◌++◌, IsUtf8, arith, refl}
use Rattle.std.proofs.Common.{inl, inr}
use Rattle.std.proofs.lemmas.Bool.{cases_Bool}
use Rattle.std.proofs.lemmas.Bool.Decides.{nat_tests}
use Rattle.std.proofs.lemmas.Str.{is_utf8-from_IsUtf8, IsUtf8-from_is_utf8}
use Rattle.std.specs.Str.{is_utf8}
use Rattle.toml.specs.Data.{Members, no_members}
use Rattle.toml.specs.Parse.{parse_document}
use Rattle.pet_base.specs.declared.limits.TheConstants.{MAX_PRIORITY_FILE}
use Rattle.priority_file.specs.declared.fault.PriorityFault.{PriorityFault}
use Rattle.priority_file.specs.declared.fault.PriorityFault.TheVariants as fault
use Rattle.priority_file.specs.Priority.{Priorities}
use Rattle.priority_file.specs.Document.{document, has_unknown_key, misses_key}
use Rattle.priority_file.specs.Draft.{FileText, file_text, no_text}
use Rattle.priority_file.specs.Refusals.{first_of, number_rows, layer_rows, refusal_of, priorities_of}
use Rattle.priority_file.specs.Refusals.{priorities_of_text}
use Rattle.priority_file.specs.inside.Stages.{answer, read_typed, read_document, read_bytes, Reads}

is_long : (most n : ℕ) → most < n → nat_lt most n ≡ true
is_long most n h = grind (arith, nat_tests)

is_short : (most n : ℕ) → n ≤ most → nat_lt most n ≡ false
is_short most n h = grind (arith, nat_tests)

pub read_bytes-long : (bytes : List ℕ) → MAX_PRIORITY_FILE < length bytes → read_bytes bytes ≡ Err fault.Long
unfolding read_bytes
read_bytes-long bytes h = rw (is_long MAX_PRIORITY_FILE (length bytes) h)

pub read_bytes-text : (bytes : List ℕ) → length bytes ≤ MAX_PRIORITY_FILE → IsUtf8 bytes
    → read_bytes bytes ≡ read_document (parse_document bytes)
unfolding read_bytes
read_bytes-text bytes h u = rw (is_short MAX_PRIORITY_FILE (length bytes) h, is_utf8-from_IsUtf8 bytes u)

pub read_bytes-no_text : (bytes : List ℕ) → length bytes ≤ MAX_PRIORITY_FILE → (IsUtf8 bytes → ⊥)
    → read_bytes bytes ≡ Err fault.Text
unfolding read_bytes
read_bytes-no_text bytes h u =
    elim (cases_Bool (is_utf8 bytes)) [
      | inl text ↦ absurd (u (IsUtf8-from_is_utf8 bytes text))
      | inr other ↦ rw (is_short MAX_PRIORITY_FILE (length bytes) h, other)
    ]

-- the stages from the keys on ask the rows in their order
by_keys : (unknown missing : Bool) (file : Option FileText)
    → answer (first_of ((unknown, fault.UnknownKey) ∷ (missing, fault.MissingKey) ∷ [])) (read_typed file)
    ≡ answer (first_of ((unknown, fault.UnknownKey) ∷ (missing, fault.MissingKey) ∷ (is_none file, fault.WrongType)
    ∷ (number_rows (unwrap_or file no_text) ++ layer_rows (unwrap_or file no_text))))
    (Ok (priorities_of_text (unwrap_or file no_text)))
by_keys true missing file = refl
by_keys false true file = refl
by_keys false false None = refl
by_keys false false (Some file) = refl

by_document : (doc : Option Members) → read_document doc
    ≡ answer (first_of ((is_none doc, fault.Text) ∷ (has_unknown_key (unwrap_or doc no_members), fault.UnknownKey)
    ∷ (misses_key (unwrap_or doc no_members), fault.MissingKey)
    ∷ (is_none (file_text (unwrap_or doc no_members)), fault.WrongType)
    ∷ (number_rows (unwrap_or (file_text (unwrap_or doc no_members)) no_text)
    ++ layer_rows (unwrap_or (file_text (unwrap_or doc no_members)) no_text))))
    (Ok (priorities_of_text (unwrap_or (file_text (unwrap_or doc no_members)) no_text)))
by_document None = refl
by_document (Some doc) = by_keys (has_unknown_key doc) (misses_key doc) (file_text doc)

-- the reading by stages is the table of refusals
pub read_bytes-rows : (bytes : List ℕ) → read_bytes bytes ≡ answer (refusal_of bytes) (Ok (priorities_of bytes))
unfolding read_bytes refusal_of priorities_of
read_bytes-rows bytes =
    elim (cases_Bool (nat_lt MAX_PRIORITY_FILE (length bytes))) [
      | inl long ↦ rw long
      | inr short ↦ rw short (by_document (document bytes))
    ]

-- what was read is accepted, and what was refused is refused by this fault
pub record IsAnswer (refusal : Option PriorityFault) (stands_for : Priorities)
    (result : Result Priorities PriorityFault) : Type 0 where
  pub accepted : IfOk result (λ p. refusal ≡ None)
  pub meaning : IfOk result (λ p. p ≡ stands_for)
  pub refused : IfErr result (λ f. f ≢ fault.NoMemory → refusal ≡ Some f)

refused_as : (f : PriorityFault) (read : Result Priorities PriorityFault) → Reads (Err f) read → f ≢ fault.NoMemory
    → read ≡ Err f
refused_as f read =
    elim f as (λ f. Reads (Err f) read → f ≢ fault.NoMemory → read ≡ Err f) [
      | fault.Long ↦ λ h apart. h
      | fault.Text ↦ λ h apart. h
      | fault.UnknownKey ↦ λ h apart. h
      | fault.MissingKey ↦ λ h apart. h
      | fault.WrongType ↦ λ h apart. h
      | fault.PacketsRange ↦ λ h apart. h
      | fault.NeedRange ↦ λ h apart. h
      | fault.Name ↦ λ h apart. h
      | fault.KindTwice ↦ λ h apart. h
      | fault.KindMissing ↦ λ h apart. h
      | fault.HeadNotFirst ↦ λ h apart. h
      | fault.TooManyLayers ↦ λ h apart. h
      | fault.NoMemory ↦ λ h apart. absurd (apart refl)
    ]

same_answer : (refusal : Option PriorityFault) (p : Priorities) (f : PriorityFault) → answer refusal (Ok p) ≡ Err f
    → refusal ≡ Some f
same_answer None p f h = absurd (cc)
same_answer (Some g) p f h = cc

answered : (refusal : Option PriorityFault) (p : Priorities) (result : Result Priorities PriorityFault)
    → Reads result (answer refusal (Ok p)) → IsAnswer refusal p result
answered None p (Ok q) h = record { accepted = refl; meaning = cc; refused = tt }
answered (Some f) p (Ok q) h = absurd (cc)
answered refusal p (Err f) h =
    record {
      accepted = tt;
      meaning = tt;
      refused = λ apart. same_answer refusal p f (refused_as f (answer refusal (Ok p)) h apart);
    }

pub is_answer : (bytes : List ℕ) (result : Result Priorities PriorityFault) → Reads result (read_bytes bytes)
    → IsAnswer (refusal_of bytes) (priorities_of bytes) result
is_answer bytes result h =
    answered (refusal_of bytes) (priorities_of bytes) result (rw (← read_bytes-rows bytes) h)

-- What was written of a wrapped video, as seen from before its file was read.
use Rattle.std.proofs.Common.{◌≡◌, ◌⊎◌, ℕ, ◌≤◌, Bool, false, List, [], ◌∷◌, ◌++◌, length, Result, Ok, Err, ap, subst}
use Rattle.std.proofs.Common.{◌∙◌, inl, inr}
use Rattle.std.specs.Prelude.{None, Some, is_err, OnOk, option_map}
use Rattle.pet_base.specs.declared.limits.TheConstants.{MAX_STREAM}
use Rattle.pet_base.specs.Seen.{Seen, HadFault}
use Rattle.outside_files.specs.Inputs.{IsFrontOf}
use Rattle.outside_files.specs.Outputs.{IsPrefix}
use Rattle.outside_files.specs.Uses.{IsOneOf, writing}
use Rattle.outside_files.specs.Wrote.{File, Wrote, with_files}
use Rattle.outside_files.specs.laws.WroteLaws.{Wrote-nothing}
use Rattle.mpeg_system.specs.declared.wrap_files.WrapEnd.TheVariants.{Done, PlaceFault}
use Rattle.mpeg_system.specs.Wrapped.{wrapped}
use Rattle.mpeg_system.specs.Wraps.{Wraps}
use Rattle.mpeg_system.proofs.Whole.{written_failed}

pub ok_of : {T E P : Type 0} (result : Result T E) (failed : Bool) → failed ≡ is_err result → failed ≡ false
    → OnOk result P → P
ok_of (Ok x) failed is not p = p
ok_of (Err e) failed is not p = absurd cc

-- what was appended to an empty vector
pub form_is : (stream bytes empty items text : List ℕ) → stream ≡ bytes → empty ≡ [] → text ≡ items
    → items ≡ empty ++ wrapped stream → text ≡ wrapped bytes
form_is stream bytes empty items text of none is made =
    is ∙ (made ∙ (ap (λ l. l ++ wrapped stream) none ∙ ap wrapped of))

-- FILE was read, whose bytes are not too long, and this is their wrapped form
module _ (file out bytes text : List ℕ) (old mid new : Seen) (read : IsFrontOf MAX_STREAM bytes old.files file)
    (short : length bytes ≤ MAX_STREAM) (is : text ≡ wrapped bytes) (same : mid.files ≡ old.files) where
  abbrev made : List ℕ → File
  made content = record { name = out; bytes = content }

  pub wraps_done : (n : ℕ) → n ≡ length text → Wrote (record { name = out; bytes = text } ∷ []) None mid new
      → Wraps file out old new (Done n)
  wraps_done n count wrote = (
    record { bytes = bytes; read = read; short = short },
    count ∙ ap length is,
    subst (λ content. Wrote (made content ∷ []) None old new) is
        (wrote ∙ ap (option_map (with_files (made text ∷ []))) same),
  )

  pub wraps_fault : old.faults ≤ mid.faults
      → (new.files ≡ mid.files) ⊎ Wrote [] (Some (record { name = out; bytes = text })) mid new
      → HadFault mid new (IsOneOf (writing out ∷ [])) → Wraps file out old new PlaceFault
  wraps_fault later left fault =
      inr (record { bytes = bytes; read = read; short = short }, written_failed out old mid new later fault, leaves left)
    where
      leaves : (new.files ≡ mid.files) ⊎ Wrote [] (Some (record { name = out; bytes = text })) mid new
          → Wrote [] None old new ⊎ Wrote [] (Some (record { name = out; bytes = wrapped bytes })) old new
      leaves (inl kept) = inl (Wrote-nothing old new (kept ∙ same))
      leaves (inr part) =
          inr (part.0, subst (IsPrefix part.0) is part.1, part.2 ∙ ap (option_map (with_files (made part.0 ∷ []))) same)

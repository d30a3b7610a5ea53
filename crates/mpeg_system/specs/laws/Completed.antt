-- Every file is unwrapped or refused, and wrapped or too long, by what the loops do at each of their ends.
use Rattle.std.proofs.Common.{◌≡◌, ℕ, ◌<◌, ◌≤◌, List, [], ◌∷◌, ◌++◌, length, Option, None, Some, refl, sym, ap, subst}
use Rattle.std.proofs.Common.{◌∙◌, arith, inl, inr, length-append}
use Rattle.std.specs.Prelude.{option_map, IfSome}
use Rattle.std.proofs.lemmas.List.{append-nil}
use Rattle.std.proofs.lemmas.Bool.{cases_lt}
use Rattle.pet_base.specs.declared.limits.TheConstants.{MAX_STREAM}
use Rattle.pet_base.specs.Seen.{Seen, Files, with_file}
use Rattle.pet_base.specs.laws.SeenLaws.{HadFault-since}
use Rattle.outside_files.specs.Inputs.{IsFrontOf}
use Rattle.outside_files.specs.Uses.{Failed, reading, writing}
use Rattle.outside_files.specs.Wrote.{File, Wrote, with_files}
use Rattle.mpeg_system.specs.declared.refusal.System.{System}
use Rattle.mpeg_system.specs.declared.unwrap_files.UnwrapEnd.{UnwrapEnd}
use Rattle.mpeg_system.specs.declared.unwrap_files.UnwrapEnd.TheVariants as unwrap
use Rattle.mpeg_system.specs.declared.wrap_files.WrapEnd.{WrapEnd}
use Rattle.mpeg_system.specs.declared.wrap_files.WrapEnd.TheVariants as wrap
use Rattle.mpeg_system.specs.Videos.{refusal_of, video_of}
use Rattle.mpeg_system.specs.Wrapped.{wrapped}
use Rattle.mpeg_system.specs.Unwraps.{WritesVideo, Unwraps}
use Rattle.mpeg_system.specs.Wraps.{FailedInTurn, Wraps}
use Rattle.mpeg_system.specs.Completes.{HasFile, unwrap_end, UnwrapsStream, CompletesUnwrap, CompletesWrap}
use Rattle.mpeg_system.specs.laws.VideoLaws.{longer_refusal, longer_video}

some_same : (x y : List ℕ) → Some x ≡ Some y → x ≡ y
some_same x y e = cc

-- one file that was written
written : (file : File) (files : Files) (old new : Seen) → old.files ≡ Some files → Wrote (file ∷ []) None old new
    → new.files ≡ Some (with_file file.name file.bytes files)
written file files old new told wrote = wrote ∙ ap (option_map (with_files (file ∷ []))) told

unwritten : (files : Files) (old new : Seen) → old.files ≡ Some files → Wrote [] None old new → new.files ≡ Some files
unwritten files old new told wrote = wrote ∙ ap (option_map (with_files [])) told

-- FILE has these bytes, and those were read at its front
module _ (file bytes : List ℕ) (files : Files) (old : Seen) (given : HasFile file bytes files old) (front : List ℕ)
    (read : IsFrontOf MAX_STREAM front old.files file) where
  all : bytes ≡ front ++ read.more
  all =
      some_same _ _ (sym given.file_is
      ∙ subst (λ (f : Option Files). IfSome f (λ g. g file ≡ Some (front ++ read.more))) given.told read.told)

  pub whole_read : length front ≤ MAX_STREAM → bytes ≡ front
  whole_read short = all ∙ (ap (λ l. front ++ l) (read.whole short) ∙ append-nil front)

  pub long_read : MAX_STREAM < length front → length bytes ≤ MAX_STREAM → ⊥
  long_read long short = let e = ap length all in omega (arith, e, length-append front read.more)

  pub read_refusal : (id : ℕ) → refusal_of id bytes ≡ refusal_of id front
  read_refusal id = elim (cases_lt MAX_STREAM (length front)) [
    | inl long ↦ ap (refusal_of id) all ∙ longer_refusal id front read.more long
    | inr short ↦ ap (refusal_of id) (whole_read short)
  ]

  pub read_video : (id : ℕ) → video_of id bytes ≡ video_of id front
  read_video id = elim (cases_lt MAX_STREAM (length front)) [
    | inl long ↦ ap (video_of id) all ∙ longer_video id front read.more long
    | inr short ↦ ap (video_of id) (whole_read short)
  ]

-- what was written, and how it ended
unwrapped : (file : List ℕ) (id : ℕ) (out bytes : List ℕ) (files : Files) (old new : Seen)
    (given : HasFile file bytes files old) (refusal : Option System)
    (w : WritesVideo file id out old new) → refusal_of id w.bytes ≡ refusal
    → UnwrapsStream id out bytes files new (unwrap_end refusal (length (video_of id w.bytes)))
unwrapped file id out bytes files old new given refusal w is =
    let video = read_video file bytes files old given w.bytes w.read id in
    record {
      file =
          written (record { name = out; bytes = video_of id w.bytes }) files old new given.told w.written
          ∙ ap (λ (l : List ℕ). Some (with_file out l files)) (sym video);
      ended =
          ap (λ (r : Option System). unwrap_end r (length (video_of id w.bytes)))
          (sym (read_refusal file bytes files old given w.bytes w.read id ∙ is))
          ∙ ap (λ (l : List ℕ). unwrap_end (refusal_of id bytes) (length l)) (sym video);
    }

pub completes_unwrap : (file : List ℕ) (id : ℕ) (out : List ℕ) (old new : Seen) (end : UnwrapEnd)
    → Unwraps file id out old new end → CompletesUnwrap file id out old new end
completes_unwrap file id out old new (unwrap.Done n) u bytes files memory well given =
    subst (λ (k : ℕ). UnwrapsStream id out bytes files new (unwrap.Done k)) (sym u.2)
    (unwrapped file id out bytes files old new given None u.0 u.1)
completes_unwrap file id out old new (unwrap.BadSystem s) u bytes files memory well given =
    unwrapped file id out bytes files old new given (Some s) u.0 u.1
completes_unwrap file id out old new unwrap.NoMemory u bytes files memory well given = absurd (memory refl)
completes_unwrap file id out old new unwrap.PlaceFault u bytes files memory well given = absurd (well u.1)

-- either failure is one at FILE or at OUT
failed_in_turn : (file out : List ℕ) (old new : Seen) → FailedInTurn file out old new
    → Failed (reading file ∷ writing out ∷ []) old new
failed_in_turn file out old new (inl at) = HadFault-since old old new _ _ (omega arith) (λ b is. inl is) at.0
failed_in_turn file out old new (inr at) = HadFault-since old old new _ _ (omega arith) (λ b is. inr is) at.1

pub completes_wrap : (file out : List ℕ) (old new : Seen) (end : WrapEnd) → Wraps file out old new end
    → CompletesWrap file out old new end
completes_wrap file out old new (wrap.Done n) w bytes files memory well given =
    let v = w.0 in
    let same : bytes ≡ v.bytes = whole_read file bytes files old given v.bytes v.read v.short in
    record {
      short = λ short. (
        written (record { name = out; bytes = wrapped v.bytes }) files old new given.told w.2
            ∙ ap (λ (l : List ℕ). Some (with_file out (wrapped l) files)) (sym same),
        ap (λ (k : ℕ). wrap.Done k) w.1 ∙ ap (λ (l : List ℕ). wrap.Done (length (wrapped l))) (sym same),
      );
      long = λ long. absurd (let few = v.short in let e = ap length same in omega (arith, few, e, long));
    }
completes_wrap file out old new (wrap.BadSystem s) w bytes files memory well given = record {
  short = λ short. absurd (long_read file bytes files old given w.0.0 w.0.1 w.0.2 short);
  long = λ long. (unwritten files old new given.told w.2, ap (λ (x : System). wrap.BadSystem x) w.1);
}
completes_wrap file out old new wrap.NoMemory w bytes files memory well given = absurd (memory refl)
completes_wrap file out old new wrap.PlaceFault w bytes files memory well given =
    absurd (well (failed_in_turn file out old new w))

-- The files before and after, by what was taken and put.
use Rattle.std.proofs.Common.{◌≡◌, ℕ, ◌+◌, ◌≤◌, List, [], ◌∷◌, ◌++◌, length, refl, sym, ◌∙◌, ap, subst, arith}
use Rattle.std.proofs.Common.{append_assoc, inl, inr}
use Rattle.std.specs.Prelude.{Option, None, Some, option_map, IfSome, IsSome}
use Rattle.std.specs.Io.KnownBytes.{prepend_known, IsAtEnd}
use Rattle.pet_base.specs.declared.limits.TheConstants.{MAX_STREAM}
use Rattle.pet_base.specs.declared.faults.Stop.{Stop}
use Rattle.pet_base.specs.declared.faults.Stop.TheVariants as stops
use Rattle.pet_base.specs.declared.place.Side.TheVariants.{Read, Written}
use Rattle.pet_base.specs.Causes.{Blames}
use Rattle.pet_base.specs.laws.SeenLaws.{Blames-named, Blames-some, HadFault-since}
use Rattle.outside_files.specs.Uses.{Failed, IsOneOf, reading, writing}
use Rattle.pet_base.specs.Seen.{Seen, Blame, Files, Names, HadFault, bytes_at, with_file}
use Rattle.outside_files.specs.Inputs as inputs
use Rattle.outside_files.specs.Outputs.{Puts, PutsPart}
use Rattle.outside_files.specs.Wrote.{Wrote}
use Rattle.outside_files.specs.laws.WroteLaws.{Wrote-file, Wrote-nothing}
use Rattle.outside_files.specs.laws.PartLaws.{part_whole}
use Rattle.mpeg_system.specs.declared.unwrap_files.UnwrapEnd.{UnwrapEnd}
use Rattle.mpeg_system.specs.declared.unwrap_files.UnwrapEnd.TheVariants.{Done, NoMemory, PlaceFault, BadSystem}
use Rattle.mpeg_system.specs.Videos.{video_of}
use Rattle.mpeg_system.specs.Unwrapping.{IsFrontOf}
use Rattle.mpeg_system.specs.inside.Feeding.{Stands, HasUnwrapped, HasBegun, EndsSo, IsOfEither}
use Rattle.mpeg_system.specs.Unwraps.{WritesVideo, LeavesFront, Unwraps}

some_same : {A : Type 0} (x y : A) → Some x ≡ Some y → x ≡ y
some_same x y e = cc

file_at : (o : Option (List ℕ)) → IsSome o → (bytes : List ℕ) × (o ≡ Some bytes)
file_at None is = absurd cc
file_at (Some bytes) is = (bytes, refl)

front_at : (limit : ℕ) (bytes all : List ℕ) (now : Option (List ℕ)) → Some all ≡ prepend_known bytes now
    → (length bytes ≤ limit → IsAtEnd now)
    → (more : List ℕ) × ((all ≡ bytes ++ more) × (length bytes ≤ limit → more ≡ []))
front_at limit bytes all None e whole = absurd (let no : Some all ≡ None = e in cc)
front_at limit bytes all (Some more) e whole = (more, (some_same _ _ e, whole))

front_in : (limit : ℕ) (bytes name : List ℕ) (files : Option Files) (first now : Option (List ℕ))
    → first ≡ bytes_at files name
    → IfSome files (λ f. IsSome (f name)) → first ≡ prepend_known bytes now → (length bytes ≤ limit → IsAtEnd now)
    → length bytes ≤ limit + 1
    → inputs.IsFrontOf limit bytes files name
front_in limit bytes name None first now rest found taken whole few =
    record { more = []; told = tt; whole = λ _. refl; few = few }
front_in limit bytes name (Some f) first now rest found taken whole few =
    let file = file_at (f name) found in
    let at = front_at limit bytes file.0 now (sym file.1 ∙ sym rest ∙ taken) whole in
    record { more = at.0; told = file.1 ∙ ap (λ (b : List ℕ). Some b) at.1.0; whole = at.1.1; few = few }

-- the place that has FILE entered and OUT made, as seen from before
pub record IsOpen (file out : List ℕ) (old made : Seen) : Type 0 where
  pub found : IfSome old.files (λ f. IsSome (f file))
  pub rest : made.rest ≡ bytes_at old.files file
  pub files : made.files ≡ option_map (with_file out []) old.files
  pub target : Names old.files made.target out

wrote : (out bytes : List ℕ) (file : List ℕ) (old made new : Seen) → IsOpen file out old made → Puts bytes made new
    → Wrote (record { name = out; bytes = bytes } ∷ []) None old new
wrote out bytes file old made new o put =
    Wrote-file (record { name = out; bytes = bytes }) made.target old made new o.files o.target put

behind : (bytes all : List ℕ) (now : Option (List ℕ)) → Some all ≡ prepend_known bytes now
    → (more : List ℕ) × (all ≡ bytes ++ more)
behind bytes all None e = absurd (let no : Some all ≡ None = e in cc)
behind bytes all (Some more) e = (more, some_same _ _ e)

-- a front was put
begun_front : (file out : List ℕ) (id : ℕ) (old made new : Seen) (stream given : List ℕ) (left : Option (List ℕ))
    → IsOpen file out old made → made.rest ≡ prepend_known stream left
    → ((rest : List ℕ) → IsFrontOf id (stream ++ rest) given) → PutsPart given made new
    → LeavesFront file id out old new
begun_front file out id old made new stream given left o rest front part = inr (told old.files refl)
  where
    at_file : (f : Files) → old.files ≡ Some f → (bytes : List ℕ) → f file ≡ Some bytes
        → Wrote [] (Some (record { name = out; bytes = video_of id bytes })) old new
    at_file f is bytes e =
        let here : Some bytes ≡ prepend_known stream left =
        sym e ∙ (sym (ap (λ (x : Option Files). bytes_at x file) is) ∙ (sym o.rest ∙ rest)) in
        let at = behind stream bytes left here in
        let whole = front at.0 in (
          part.0,
          (
            part.1.0 ++ whole.0,
            ap (video_of id) at.1
                ∙ (whole.1 ∙ (ap (λ (l : List ℕ). l ++ whole.0) part.1.1 ∙ append_assoc part.0 part.1.0 whole.0)),
          ),
          wrote out part.0 file old made new o part.2,
        )

    told : (fs : Option Files) → old.files ≡ fs
        → IfSome fs
        (λ f. (bytes : List ℕ) × (f file ≡ Some bytes)
        × Wrote [] (Some (record { name = out; bytes = video_of id bytes })) old new)
    told None is = tt
    told (Some f) is =
        let found : IsSome (f file) = subst (λ (fs : Option Files). IfSome fs (λ g. IsSome (g file))) is o.found in
        let there = file_at (f file) found in
        (there.0, there.1, at_file f is there.0 there.1)

pub begun_at : (file out : List ℕ) (id : ℕ) (old made new : Seen) → IsOpen file out old made → HasBegun id made new
    → LeavesFront file id out old new
begun_at file out id old made new o h =
    begun_front file out id old made new h.stream h.given h.left o h.rest h.front h.put

pub unwraps_at : (file out : List ℕ) (id : ℕ) (old made new : Seen) (end : UnwrapEnd) → IsOpen file out old made
    → HasUnwrapped id made new end → Unwraps file id out old new end
unwraps_at file out id old made new end o h = by end h.ends
  where
    is_front : inputs.IsFrontOf MAX_STREAM h.stream old.files file
    is_front = front_in MAX_STREAM h.stream file old.files made.rest new.rest o.rest o.found h.stands.rest h.whole h.few

    all : Wrote (record { name = out; bytes = h.given } ∷ []) None old new
    all = wrote out h.given file old made new o h.stands.put

    wrote_video : video_of id h.stream ≡ h.given → WritesVideo file id out old new
    wrote_video is = record {
      bytes = h.stream;
      read = is_front;
      written = subst (λ l. Wrote (record { name = out; bytes = l } ∷ []) None old new) (sym is) all;
    }

    by : (e : UnwrapEnd) → EndsSo id h.stream h.given e → Unwraps file id out old new e
    by (Done n) is = (wrote_video is.1, is.0, is.2 ∙ ap length (sym is.1))
    by (BadSystem s) is = (wrote_video is.1, is.0)
    by NoMemory is =
        begun_front file out id old made new h.stream h.given new.rest o h.stands.rest h.front
        (part_whole h.given made new h.stands.put)
    by PlaceFault is = absurd is

pub nothing_begun : (file out : List ℕ) (id : ℕ) (old new : Seen) → new.files ≡ old.files
    → LeavesFront file id out old new
nothing_begun file out id old new same = inl (Wrote-nothing old new same)

-- FILE was entered and then OUT made
pub opened : (file out : List ℕ) (old entered made : Seen) → IfSome old.files (λ f. IsSome (f file))
    → entered.rest ≡ bytes_at old.files file → entered.files ≡ old.files
    → made.files ≡ option_map (with_file out []) entered.files → Names entered.files made.target out
    → made.rest ≡ entered.rest → IsOpen file out old made
opened file out old entered made found rest same files target kept = record {
  found = found;
  rest = kept ∙ rest;
  files = files ∙ ap (option_map (with_file out [])) same;
  target = subst (λ f. Names f made.target out) same target;
}

-- a failure of either is one at FILE or at OUT
failed_at : (file out : List ℕ) (old made new : Seen) → Names old.files made.source file
    → Names old.files made.target out → old.faults ≤ made.faults
    → HadFault made new (IsOfEither made.source made.target) → Failed (reading file ∷ writing out ∷ []) old new
failed_at file out old made new source target later h = HadFault-since old made new _ _ later at h
  where
    at : (b : Blame) → IsOfEither made.source made.target b → IsOneOf (reading file ∷ writing out ∷ []) b
    at b (inl is) = inl (Blames-named old.files made.source file Read b source is)
    at b (inr is) = inr (Blames-named old.files made.target out Written b target is)

pub failed_as : (file out : List ℕ) (old made new : Seen) (stop : Stop) → Names old.files made.source file
    → Names old.files made.target out → old.faults ≤ made.faults
    → inputs.Licensed (HadFault made new (IsOfEither made.source made.target)) stop
    → inputs.Licensed (Failed (reading file ∷ writing out ∷ []) old new) stop
failed_as file out old made new stops.NoMemory source target later h = tt
failed_as file out old made new stops.Failed source target later h =
    failed_at file out old made new source target later h

pub entering_failed : (file out : List ℕ) (old new : Seen) → HadFault old new (Blames Read (Some file))
    → Failed (reading file ∷ writing out ∷ []) old new
entering_failed file out old new h =
    HadFault-since old old new _ _ (omega arith) (λ b is. inl (Blames-some file Read b is)) h

-- a failure at OUT behind the reading of FILE is one at OUT
pub written_failed : (out : List ℕ) (old mid new : Seen) → old.faults ≤ mid.faults
    → HadFault mid new (IsOneOf (writing out ∷ [])) → Failed (writing out ∷ []) old new
written_failed out old mid new later h = HadFault-since old mid new _ _ later (λ b is. is) h

-- within the loop
pub read_failed : (first before after : Seen) (stream given : List ℕ) → Stands first before stream given
    → HadFault before after (Blames Read before.source) → HadFault first after (IsOfEither first.source first.target)
read_failed first before after stream given s h =
    HadFault-since first before after _ _ s.later (λ b is. inl (subst (λ n. Blames Read n b) s.names.source is)) h

pub put_failed : (first before after : Seen) (stream given : List ℕ) → Stands first before stream given
    → HadFault before after (Blames Written before.target) → HadFault first after (IsOfEither first.source first.target)
put_failed first before after stream given s h =
    HadFault-since first before after _ _ s.later (λ b is. inr (subst (λ n. Blames Written n b) s.names.target is)) h

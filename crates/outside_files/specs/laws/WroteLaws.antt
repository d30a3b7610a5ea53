-- Laws of what was written, for the proofs of callers.
use Rattle.std.proofs.Common.{◌≡◌, ℕ, Bool, true, false, take, drop, List, [], ◌∷◌, ◌++◌, Option, None, Some, refl, sym}
use Rattle.std.proofs.Common.{ap, subst, ◌∙◌, append_assoc}
use Rattle.std.proofs.lemmas.List.{take-append-drop}
use Rattle.std.specs.Prelude.{option_map, cond}
use Rattle.std.specs.Str.{bytes_eq}
use Rattle.pet_base.specs.Seen.{Seen, Files, with_file, appended, Grows, Names}
use Rattle.pet_base.specs.laws.SeenLaws.{Grows-named}
use Rattle.outside_files.specs.Wrote.{File, with_files, Wrote}

-- writing some files and then others
with_files-append : (a b : List File) (f : Files) → with_files (a ++ b) f ≡ with_files b (with_files a f)
with_files-append [] b f = refl
with_files-append (file ∷ a) b f = with_files-append a b (with_file file.name file.bytes f)

told-append : (a b : List File) (old mid new : Option Files) → mid ≡ option_map (with_files a) old
    → new ≡ option_map (with_files b) mid → new ≡ option_map (with_files (a ++ b)) old
told-append a b None mid new p q = q ∙ ap (option_map (with_files b)) p
told-append a b (Some f) mid new p q =
    q ∙ ap (option_map (with_files b)) p ∙ ap (λ (g : Files). Some g) (sym (with_files-append a b f))

told-nil : (o : Option Files) → option_map (with_files []) o ≡ o
told-nil None = refl
told-nil (Some f) = refl

-- where no file has changed
pub Wrote-nothing : (old new : Seen) → new.files ≡ old.files → Wrote [] None old new
Wrote-nothing old new same = same ∙ sym (told-nil old.files)

-- what a later part of a call has written comes behind what an earlier part has
pub Wrote-then : (whole more : List File) (front : Option File) (old mid new : Seen) → Wrote whole None old mid
    → Wrote more front mid new → Wrote (whole ++ more) front old new
Wrote-then whole more None old mid new p q = told-append whole more old.files mid.files new.files p q
Wrote-then whole more (Some file) old mid new p q =
    let last : File = record { name = file.name; bytes = q.0 } in
    let both = told-append whole (more ++ last ∷ []) old.files mid.files new.files p q.2 in (
      q.0,
      q.1,
      subst (λ (files : List File). new.files ≡ option_map (with_files files) old.files)
          (sym (append_files whole more (last ∷ []))) both,
    )
  where
    append_files : (a b c : List File) → (a ++ b) ++ c ≡ a ++ (b ++ c)
    append_files [] b c = refl
    append_files (x ∷ a) b c = ap (λ (l : List File). x ∷ l) (append_files a b c)

-- a file that was made and then put, whole
pub Wrote-file : (file : File) (target : Option (List ℕ)) (old made new : Seen)
    → made.files ≡ option_map (with_file file.name []) old.files → Names old.files target file.name
    → Grows target file.bytes made.files new.files → Wrote (file ∷ []) None old new
Wrote-file file target old made new create is put =
    Grows-named file.name file.bytes target old.files made.files new.files create is put

-- a file that was made, of which a front was put
pub Wrote-front : (file : File) (k : ℕ) (target : Option (List ℕ)) (old made new : Seen)
    → made.files ≡ option_map (with_file file.name []) old.files → Names old.files target file.name
    → Grows target (take k file.bytes) made.files new.files → Wrote [] (Some file) old new
Wrote-front file k target old made new create is put = (
  take k file.bytes,
  (drop k file.bytes, sym (take-append-drop k file.bytes)),
  Grows-named file.name (take k file.bytes) target old.files made.files new.files create is put,
)

-- putting behind a file's bytes
appended-with_file : (name a b : List ℕ) (f : Files) → appended name b (with_file name a f) ≡ with_file name (a ++ b) f
unfolding appended with_file
appended-with_file name a b f = λ i n. at (bytes_eq name n) (f n) i
  where
    at : (t : Bool) (o : Option (List ℕ))
        → cond t (option_map (λ x. x ++ b) (cond t (Some a) o)) (cond t (Some a) o) ≡ cond t (Some (a ++ b)) o
    at true o = refl
    at false o = refl

told-put : (whole : List File) (name bytes more : List ℕ) (target : Option (List ℕ)) (old made new : Option Files)
    → made ≡ option_map (with_files (whole ++ record { name = name; bytes = bytes } ∷ [])) old → Names old target name
    → Grows target more made new
    → new ≡ option_map (with_files (whole ++ record { name = name; bytes = bytes ++ more } ∷ [])) old
told-put whole name bytes more None None made new p is put = put ∙ p
told-put whole name bytes more (Some n) None made new p is put =
    put ∙ ap (λ (o : Option Files). option_map (appended n more) o) p
told-put whole name bytes more target (Some f) made new p is put =
    let grown : new ≡ option_map (appended name more) made =
    subst (λ (t : Option (List ℕ)). Grows t more made new) is put in
    grown ∙ ap (λ (o : Option Files). option_map (appended name more) o)
    (p ∙ ap (λ (g : Files). Some g) (with_files-append whole (record { name = name; bytes = bytes } ∷ []) f))
    ∙ ap (λ (g : Files). Some g) (appended-with_file name bytes more (with_files whole f)
    ∙ sym (with_files-append whole (record { name = name; bytes = bytes ++ more } ∷ []) f))

-- more was put to the file that was written last
pub Wrote-put : (whole : List File) (name bytes more : List ℕ) (target : Option (List ℕ)) (old made new : Seen)
    → Wrote (whole ++ record { name = name; bytes = bytes } ∷ []) None old made → Names old.files target name
    → Grows target more made.files new.files
    → Wrote (whole ++ record { name = name; bytes = bytes ++ more } ∷ []) None old new
Wrote-put whole name bytes more target old made new wrote is put =
    told-put whole name bytes more target old.files made.files new.files wrote is put

-- the put failed: a front of what the file was to have stands in it
pub Wrote-put_front : (whole : List File) (name bytes more rest : List ℕ) (k : ℕ) (target : Option (List ℕ))
    (old made new : Seen) → Wrote (whole ++ record { name = name; bytes = bytes } ∷ []) None old made
    → Names old.files target name
    → Grows target (take k more) made.files new.files
    → Wrote whole (Some (record { name = name; bytes = bytes ++ more ++ rest })) old new
Wrote-put_front whole name bytes more rest k target old made new wrote is put = (
  bytes ++ take k more,
  (drop k more ++ rest, ap (λ (t : List ℕ). bytes ++ t ++ rest) (sym (take-append-drop k more)) ∙ simp append_assoc),
  told-put whole name bytes (take k more) target old.files made.files new.files wrote is put,
)

-- the file that was written last has its bytes
pub with_files-last : (whole : List File) (file : File) (f : Files) → bytes_eq file.name file.name ≡ true
    → with_files (whole ++ file ∷ []) f file.name ≡ Some file.bytes
unfolding with_file
with_files-last whole file f same =
    ap (λ (g : Files). g file.name) (with_files-append whole (file ∷ []) f)
    ∙ ap (λ (t : Bool). cond t (Some file.bytes) (with_files whole f file.name)) same

-- For callers: a store that is put piece after piece. What was put so far, a front of it where a put fails, and what was
-- hashed.
use Rattle.std.specs.Prelude.{OnOk, OnErr, Result, Ok, Err}
use Rattle.std.proofs.Common.{◌≡◌, ◌≤◌, ℕ, List, [], ◌++◌, length, take, refl, sym, ap, ◌∙◌, subst, arith, append_assoc}
use Rattle.std.proofs.Common.{append-nil}
use Rattle.std.proofs.lemmas.Grind.{flat_map-append}
use Rattle.sha2.specs.Hashers.{Holds256}
use Rattle.sha2.specs.declared.Sha256.{Sha256}
use Rattle.pet_base.specs.Entries.{entry_text}
use Rattle.pet_base.specs.Seen.{Seen, OnlyWrites}
use Rattle.pet_base.specs.laws.SeenLaws.{OnlyWrites-then}
use Rattle.outside_files.specs.Outputs.{Puts, PutsPart}
use Rattle.outside_files.specs.laws.OutputLaws.{puts_then}
use Rattle.outside_files.specs.laws.PartLaws.{part_after, part_within, part_of_take}
use Rattle.packet_frame.specs.Frame.{Fields, text}
use Rattle.store_text.specs.Form.{store_tag}
use Rattle.store_text.specs.Store.{head_in, entries_in, store_of, store_of_in, text_before_tag}
use Rattle.store_text.specs.declared.format.TheConstants.{STORE_FORM}

-- ---- what was hashed

-- the hasher has taken in these bytes
abbrev pub Hashes : List ℕ → Sha256 → Sha256 → Type 0
Hashes bytes old new = (m : List ℕ) → Holds256 old m → Holds256 new (m ++ bytes)

pub hashes_nothing : (h : Sha256) → Hashes [] h h
hashes_nothing h m holds = subst (Holds256 h) (sym (append-nil m)) holds

pub hashes_then : (a b : List ℕ) (first before after : Sha256) → Hashes a first before → Hashes b before after
    → Hashes (a ++ b) first after
hashes_then a b first before after p q m holds = subst (Holds256 after) (append_assoc m a b) (q (m ++ a) (p m holds))

-- ---- what calls leave that only put to the output, where none fails

pub record PutsCalmly (old new : Seen) : Type 0 where
  pub others : OnlyWrites old new
  pub later : old.faults ≤ new.faults
  pub calm : new.faults ≡ old.faults
  pub blamed : new.blamed ≡ old.blamed

pub calmly_nothing : (s : Seen) → PutsCalmly s s
calmly_nothing s = record {
  others = record { rest = refl; source = refl; target = refl; has_input = refl; has_output = refl };
  later = omega arith;
  calm = refl;
  blamed = refl;
}

pub calmly_then : (old between new : Seen) → PutsCalmly old between → OnlyWrites between new
    → new.faults ≡ between.faults → new.blamed ≡ between.blamed → PutsCalmly old new
calmly_then old between new p others calm blamed = record {
  others = OnlyWrites-then old between new p.others others;
  later = omega (arith, p.later, calm);
  calm = calm ∙ p.calm;
  blamed = blamed ∙ p.blamed;
}

-- ---- further bytes

-- where they are put both are, and else a front of both
pub ends_then : {A E : Type 0} (r : Result A E) (a b : List ℕ) (first before after : Seen)
    → before.target ≡ first.target → Puts a first before → OnOk r (Puts b before after) → OnErr r (PutsPart b before after)
    → OnOk r (Puts (a ++ b) first after) × OnErr r (PutsPart (a ++ b) first after)
ends_then (Ok x) a b first before after same p puts part = (puts_then a b first before after same p puts, tt)
ends_then (Err e) a b first before after same p puts part = (tt, part_after a b first before after same p part)

-- ---- further frames

pub entries_append : (fs gs : List Fields)
    → entries_in STORE_FORM (fs ++ gs) ≡ entries_in STORE_FORM fs ++ entries_in STORE_FORM gs
entries_append fs gs = flat_map-append (λ (f : Fields). entry_text (text f)) fs gs

module _ (fs gs all : List Fields) (is : all ≡ fs ++ gs) where
  abbrev entries : List Fields → List ℕ
  entries l = entries_in STORE_FORM l

  both_is : entries fs ++ entries gs ≡ entries all
  both_is = sym (entries_append fs gs) ∙ ap entries (sym is)

  pub hashes_more : (first before after : Sha256) → Hashes (entries fs) first before → Hashes (entries gs) before after
      → Hashes (entries all) first after
  hashes_more first before after p q =
      subst (λ (t : List ℕ). Hashes t first after) both_is
      (hashes_then (entries fs) (entries gs) first before after p q)

  pub part_front : (first after : Seen) → PutsPart (entries fs) first after → PutsPart (entries all) first after
  part_front first after part = part_within (entries fs) (entries all) first after (entries gs, sym both_is) part

  module _ (first before after : Seen) (same : before.target ≡ first.target) (p : Puts (entries fs) first before) where
    pub puts_more : Puts (entries gs) before after → Puts (entries all) first after
    puts_more q =
        subst (λ (t : List ℕ). Puts t first after) both_is
        (puts_then (entries fs) (entries gs) first before after same p q)

    -- and of a call that puts the bytes of these frames
    pub ends_more : {A E : Type 0} (r : Result A E) (bytes : List ℕ) → bytes ≡ entries gs
        → OnOk r (Puts bytes before after) → OnErr r (PutsPart bytes before after)
        → OnOk r (Puts (entries all) first after) × OnErr r (PutsPart (entries all) first after)
    ends_more r bytes spelled puts part =
        subst (λ (t : List ℕ). OnOk r (Puts t first after) × OnErr r (PutsPart t first after))
        (ap (λ (t : List ℕ). entries fs ++ t) spelled ∙ both_is)
        (ends_then r (entries fs) bytes first before after same p puts part)

    pub part_more : PutsPart (entries gs) before after → PutsPart (entries all) first after
    part_more part =
        subst (λ (t : List ℕ). PutsPart t first after) both_is
        (part_after (entries fs) (entries gs) first before after same p part)

-- ---- the tag

pub tag_front : {A E : Type 0} (r : Result A E) (bytes : List ℕ) (old new : Seen) (h : Sha256)
    → ((m : List ℕ) → Holds256 h m → bytes ≡ store_tag STORE_FORM m)
    → OnErr r ((k : ℕ) × Puts (take k bytes) old new)
    → OnErr r ((m : List ℕ) → Holds256 h m → PutsPart (store_tag STORE_FORM m) old new)
tag_front (Ok x) bytes old new h is part = tt
tag_front (Err e) bytes old new h is part =
    λ m holds. subst (λ (t : List ℕ). PutsPart t old new) (is m holds) (part_of_take part.0 bytes old new part.1)

-- ---- the whole

module _ (session : List ℕ) (frames : List Fields) where
  abbrev before_tag : List ℕ
  before_tag = text_before_tag session frames

  abbrev head : List ℕ
  head = head_in STORE_FORM session (length frames)

  store_part : (first after : Seen) → PutsPart before_tag first after → PutsPart (store_of session frames) first after
  unfolding store_of_in
  store_part first after part =
      part_within before_tag (store_of session frames) first after (store_tag STORE_FORM before_tag, refl) part

  module _ (shown : List ℕ) (count : ℕ) (is : shown ≡ session) (many : count ≡ length frames) where
    head_is : head_in STORE_FORM shown count ≡ head
    head_is = ap (λ (s : List ℕ). head_in STORE_FORM s count) is ∙ ap (head_in STORE_FORM session) many

    pub head_part : (first after : Seen) → PutsPart (head_in STORE_FORM shown count) first after
        → PutsPart (store_of session frames) first after
    head_part first after part =
        store_part first after
        (part_within head before_tag first after (entries_in STORE_FORM frames, refl)
        (subst (λ (t : List ℕ). PutsPart t first after) head_is part))

    module _ (first before : Seen) (same : before.target ≡ first.target)
        (puts : Puts (head_in STORE_FORM shown count) first before) where
      head_puts : Puts head first before
      head_puts = subst (λ (t : List ℕ). Puts t first before) head_is puts

      pub entries_part : (after : Seen) → PutsPart (entries_in STORE_FORM frames) before after
          → PutsPart (store_of session frames) first after
      entries_part after part =
          store_part first after (part_after head (entries_in STORE_FORM frames) first before after same head_puts part)

      module _ (h0 h1 h2 : Sha256) (new : Holds256 h0 []) (hashed : Hashes (head_in STORE_FORM shown count) h0 h1)
          (more : Hashes (entries_in STORE_FORM frames) h1 h2) (last : Seen) (kept : last.target ≡ before.target)
          (entries : Puts (entries_in STORE_FORM frames) before last) where
        holds : Holds256 h2 before_tag
        holds = more head (subst (Holds256 h1) head_is (hashed [] new))

        so_far : Puts before_tag first last
        so_far = puts_then head (entries_in STORE_FORM frames) first before last same head_puts entries

        -- where the tag is put it is the store, and else a front of it
        pub tag_ends : {A E : Type 0} (r : Result A E) (after : Seen)
            → OnOk r ((m : List ℕ) → Holds256 h2 m → Puts (store_tag STORE_FORM m) last after)
            → OnErr r ((m : List ℕ) → Holds256 h2 m → PutsPart (store_tag STORE_FORM m) last after)
            → OnOk r (Puts (store_of session frames) first after) × OnErr r (PutsPart (store_of session frames) first after)
        unfolding store_of_in
        tag_ends (Ok x) after puts part = (
          puts_then before_tag (store_tag STORE_FORM before_tag) first last after (kept ∙ same) so_far (puts before_tag holds),
          tt,
        )
        tag_ends (Err e) after puts part = (
          tt,
          part_after before_tag (store_tag STORE_FORM before_tag) first last after (kept ∙ same) so_far
              (part before_tag holds),
        )

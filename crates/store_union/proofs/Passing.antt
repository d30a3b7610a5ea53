-- The frames of a store that come before another, one after the other.
use Rattle.std.specs.Prelude.{if◌then◌else◌}
use Rattle.std.proofs.Common.{◌≡◌, ℕ, suc, ◌+◌, ◌-◌, ◌<◌, true, false, List, [], ◌∷◌, ◌++◌, drop}
use Rattle.std.proofs.Common.{Option, None, Some, refl, sym, ap, ◌∙◌, arith, append-nil, append_assoc}
use Rattle.pet_base.specs.Entries.{entry_text}
use Rattle.packet_frame.specs.Frame.{Fields, text}
use Rattle.packet_frame.specs.Refusals.{first_fault}
use Rattle.store_text.specs.declared.format.TheConstants.{STORE_FORM}
use Rattle.store_text.specs.Refusals.{is_whole, datagram_in, entry_length}
use Rattle.store_text.specs.Store.{entries_in}
use Rattle.store_packets.specs.inside.Reading.{frame_of}
use Rattle.store_packets.specs.inside.Listed.{AreListed, frames_at}
use Rattle.store_union.specs.inside.Merging.{is_before, is_pair, passed, left_from, last_before, without}
use Rattle.store_packets.proofs.Listed.{Left, left_first, left_whole, left_fine, left_next, frames_none, frames_then}

-- ---- one frame more at the front

module _ (g f : Fields) (rest : List Fields) where
  pub passed_more : is_before f g ≡ true → passed g (f ∷ rest) ≡ f ∷ passed g rest
  unfolding passed
  passed_more e = ap (λ b. if b then f ∷ passed g rest else []) e

  pub passed_stop : is_before f g ≡ false → passed g (f ∷ rest) ≡ []
  unfolding passed
  passed_stop e = ap (λ b. if b then f ∷ passed g rest else []) e

  pub left_more : is_before f g ≡ true → left_from g (f ∷ rest) ≡ left_from g rest
  unfolding left_from
  left_more e = ap (λ b. if b then left_from g rest else f ∷ rest) e

  pub left_stop : is_before f g ≡ false → left_from g (f ∷ rest) ≡ f ∷ rest
  unfolding left_from
  left_stop e = ap (λ b. if b then left_from g rest else f ∷ rest) e

  pub last_more : (last : Option Fields) → is_before f g ≡ true
      → last_before g last (f ∷ rest) ≡ last_before g (Some f) rest
  unfolding last_before
  last_more last e = ap (λ b. if b then last_before g (Some f) rest else last) e

  pub last_stop : (last : Option Fields) → is_before f g ≡ false → last_before g last (f ∷ rest) ≡ last
  unfolding last_before
  last_stop last e = ap (λ b. if b then last_before g (Some f) rest else last) e

module _ (g : Fields) where
  pub passed_none : passed g [] ≡ []
  unfolding passed
  passed_none = refl

  pub left_none : left_from g [] ≡ []
  unfolding left_from
  left_none = refl

  pub last_none : (last : Option Fields) → last_before g last [] ≡ last
  unfolding last_before
  last_none last = refl

-- ---- so many were passed

-- what is passed of all is what was, and what is passed of the rest
pub record PassesOn (g : Fields) (count : ℕ) (last0 : Option Fields) (bytes : List ℕ) (done : ℕ) (last : Option Fields)
    (rest : List ℕ) : Type 0 where
  pub listed : Left STORE_FORM count done rest
  pub left : (many : ℕ) → many + done ≡ count
      → left_from g (frames_at STORE_FORM many rest) ≡ left_from g (frames_at STORE_FORM count bytes)
  pub before : (many : ℕ) → many + done ≡ count
      → last_before g last (frames_at STORE_FORM many rest) ≡ last_before g last0 (frames_at STORE_FORM count bytes)
  pub front : List ℕ
  pub is : bytes ≡ front ++ rest
  pub comes : (many : ℕ) → many + done ≡ count
      → entries_in STORE_FORM (passed g (frames_at STORE_FORM count bytes))
      ≡ front ++ entries_in STORE_FORM (passed g (frames_at STORE_FORM many rest))

module _ (g : Fields) (count : ℕ) (last0 : Option Fields) (bytes : List ℕ) where
  pub passes_first : AreListed STORE_FORM count bytes → PassesOn g count last0 bytes 0 last0 bytes
  passes_first stands = record {
    listed = left_first STORE_FORM count bytes stands;
    left = λ many e. let is : many ≡ count = omega (arith, e) in
        ap (λ n. left_from g (frames_at STORE_FORM n bytes)) is;
    before = λ many e. let is : many ≡ count = omega (arith, e) in
        ap (λ n. last_before g last0 (frames_at STORE_FORM n bytes)) is;
    front = [];
    is = refl;
    comes = λ many e. let is : many ≡ count = omega (arith, e) in
        ap (λ n. entries_in STORE_FORM (passed g (frames_at STORE_FORM n bytes))) (sym is);
  }

  module _ (done : ℕ) (last : Option Fields) (rest : List ℕ) (p : PassesOn g count last0 bytes done last rest) where
    module _ (datagram after : List ℕ) (low : done < count) (is : datagram ≡ datagram_in rest)
        (behind : after ≡ drop (entry_length rest) rest)
        (entry : rest ≡ entry_text (text (frame_of STORE_FORM datagram)) ++ after) where
      abbrev f : Fields
      f = frame_of STORE_FORM datagram

      pub passes_next : is_before f g ≡ true → PassesOn g count last0 bytes (done + 1) (Some f) after
      passes_next e = record {
        listed = left_next STORE_FORM count done rest p.listed low after behind;
        left = λ many m.
            sym (left_more g f (frames_at STORE_FORM many after) e) ∙ ap (left_from g) (sym (frames_then STORE_FORM rest is behind many))
            ∙ p.left (suc many) (omega (arith, m));
        before = λ many m.
            sym (last_more g f (frames_at STORE_FORM many after) last e)
            ∙ ap (last_before g last) (sym (frames_then STORE_FORM rest is behind many))
            ∙ p.before (suc many) (omega (arith, m));
        front = p.front ++ entry_text (text f);
        is = p.is ∙ ap (λ l. p.front ++ l) entry ∙ sym (append_assoc p.front (entry_text (text f)) after);
        comes = λ many m.
            p.comes (suc many) (omega (arith, m))
            ∙ ap (λ fs. p.front ++ entries_in STORE_FORM (passed g fs)) (frames_then STORE_FORM rest is behind many)
            ∙ ap (λ fs. p.front ++ entries_in STORE_FORM fs) (passed_more g f (frames_at STORE_FORM many after) e)
            ∙ sym (append_assoc p.front (entry_text (text f))
            (entries_in STORE_FORM (passed g (frames_at STORE_FORM many after))));
      }

      module _ (e : is_before f g ≡ false) (left : ℕ) (many : left + done ≡ count) where
        at : suc (left - 1) ≡ left
        at = omega (arith, low, many)

        frames_here : frames_at STORE_FORM left rest ≡ f ∷ frames_at STORE_FORM (left - 1) after
        frames_here = ap (λ n. frames_at STORE_FORM n rest) (sym at) ∙ frames_then STORE_FORM rest is behind (left - 1)

        pub stop_left : frames_at STORE_FORM left rest ≡ left_from g (frames_at STORE_FORM count bytes)
        stop_left =
            frames_here ∙ sym (left_stop g f (frames_at STORE_FORM (left - 1) after) e)
            ∙ ap (left_from g) (sym frames_here) ∙ p.left left many

        pub stop_last : last ≡ last_before g last0 (frames_at STORE_FORM count bytes)
        stop_last =
            sym (last_stop g f (frames_at STORE_FORM (left - 1) after) last e)
            ∙ ap (last_before g last) (sym frames_here) ∙ p.before left many

        pub stop_front : bytes ≡ entries_in STORE_FORM (passed g (frames_at STORE_FORM count bytes)) ++ rest
        stop_front =
            p.is ∙ ap (λ l. l ++ rest) (sym (p.comes left many
            ∙ ap (λ fs. p.front ++ entries_in STORE_FORM (passed g fs)) frames_here
            ∙ ap (λ fs. p.front ++ entries_in STORE_FORM fs)
            (passed_stop g f (frames_at STORE_FORM (left - 1) after) e)
            ∙ append-nil p.front))

    module _ (all : done ≡ count) where
      none : frames_at STORE_FORM 0 rest ≡ []
      none = frames_none STORE_FORM rest

      pub end_left : frames_at STORE_FORM 0 rest ≡ left_from g (frames_at STORE_FORM count bytes)
      end_left =
          none ∙ sym (left_none g) ∙ ap (left_from g) (sym none) ∙ p.left 0 (omega (arith, all))

      pub end_last : last ≡ last_before g last0 (frames_at STORE_FORM count bytes)
      end_last =
          sym (last_none g last) ∙ ap (last_before g last) (sym none) ∙ p.before 0 (omega (arith, all))

      pub end_front : bytes ≡ entries_in STORE_FORM (passed g (frames_at STORE_FORM count bytes)) ++ rest
      end_front =
          p.is ∙ ap (λ l. l ++ rest) (sym (p.comes 0 (omega (arith, all))
          ∙ ap (λ fs. p.front ++ entries_in STORE_FORM (passed g fs)) none
          ∙ ap (λ fs. p.front ++ entries_in STORE_FORM fs) (passed_none g)
          ∙ append-nil p.front))

-- ---- the first that stands there

module _ (count : ℕ) (bytes : List ℕ) (stands : AreListed STORE_FORM count bytes) (some : 0 < count) where
  pub first_whole : is_whole bytes ≡ true
  first_whole = left_whole STORE_FORM count 0 bytes (left_first STORE_FORM count bytes stands) some

  module _ (datagram : List ℕ) (is : datagram ≡ datagram_in bytes) where
    pub first_fine : first_fault datagram ≡ None
    first_fine = left_fine STORE_FORM count 0 bytes (left_first STORE_FORM count bytes stands) some datagram is

    module _ (after : List ℕ) (behind : after ≡ drop (entry_length bytes) bytes) where
      pub first_later : AreListed STORE_FORM (count - 1) after
      first_later =
          left_next STORE_FORM count 0 bytes (left_first STORE_FORM count bytes stands) some after behind (count - 1)
          (omega (arith, some))

      pub first_frames : frames_at STORE_FORM count bytes
          ≡ frame_of STORE_FORM datagram ∷ frames_at STORE_FORM (count - 1) after
      first_frames =
          let one : count ≡ suc (count - 1) = omega (arith, some) in
          ap (λ n. frames_at STORE_FORM n bytes) one ∙ frames_then STORE_FORM bytes is behind (count - 1)

pub none_stands : (count : ℕ) (bytes : List ℕ) → count ≡ 0 → frames_at STORE_FORM count bytes ≡ []
none_stands count bytes none = ap (λ n. frames_at STORE_FORM n bytes) none ∙ frames_none STORE_FORM bytes

-- without the first, where it is of the same group and number
module _ (g f : Fields) (rest all : List Fields) (is : all ≡ f ∷ rest) where
  pub without_same : is_pair f g ≡ true → rest ≡ without g all
  without_same e = sym (ap (without g) is ∙ ap (λ b. if b then rest else f ∷ rest) e)

  pub without_other : is_pair f g ≡ false → all ≡ without g all
  without_other e = is ∙ sym (ap (without g) is ∙ ap (λ b. if b then rest else f ∷ rest) e)

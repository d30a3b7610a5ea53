-- One step of each of the generator's loops: a byte, a picture, a group.
use Rattle.std.proofs.Common.{◌≡◌, ℕ, suc, ◌+◌, ◌-◌, ◌<◌, ◌≤◌, List, [], ◌∷◌, ◌++◌, drop, get_or, length, Result, Ok}
use Rattle.std.proofs.Common.{Err}
use Rattle.std.proofs.Common.{ap, ◌∙◌, sym, append_assoc, arith}
use Rattle.std.specs.Prelude.{OnOk}
use Rattle.std.proofs.lemmas.List.{drop_all}
use Rattle.std.proofs.Math.Seq.{drop-cons}
use Rattle.stream_sample.specs.declared.groups.Picture.{Picture}
use Rattle.stream_sample.specs.declared.groups.TheConstants.{HEADERS, PICTURES}
use Rattle.stream_sample.specs.Filler.{next_state, byte_of, bytes_from, state_after}
use Rattle.stream_sample.specs.SampleStream.{picture_head, filled_in, picture_text, state_behind_picture, pictures_text}
use Rattle.stream_sample.specs.SampleStream.{state_behind, group_text, state_behind_group, sample_text}

pub on_ok : {A X P Q : Type 0} (r : Result A X) → (P → Q) → OnOk r P → OnOk r Q
on_ok (Ok v) to p = to p
on_ok (Err x) to p = tt

module _ (now count made next : ℕ) (lt : made < count) where
  left : count - made ≡ suc (count - (made + 1))
  left = omega (arith, lt)

  -- a byte more
  pub byte_next : (byte : ℕ) → next ≡ next_state now → byte ≡ byte_of next
      → bytes_from now (count - made) ≡ (byte ∷ []) ++ bytes_from next (count - (made + 1))
  unfolding bytes_from
  byte_next byte next_is byte_is =
      let k = count - (made + 1) in
      ap (bytes_from now) left
      ∙ ap (λ (x : ℕ). (byte_of x ∷ []) ++ bytes_from x k) (sym next_is)
      ∙ ap (λ (b : ℕ). (b ∷ []) ++ bytes_from next k) (sym byte_is)

  pub state_next : next ≡ next_state now → state_after next (count - (made + 1)) ≡ state_after now (count - made)
  unfolding state_after
  state_next next_is = ap (λ (x : ℕ). state_after x (count - (made + 1))) next_is ∙ sym (ap (state_after now) left)

  -- a group more
  pub group_next : next ≡ state_behind_group now
      → sample_text now (count - made) ≡ group_text now ++ sample_text next (count - (made + 1))
  unfolding sample_text
  group_next next_is =
      ap (sample_text now) left ∙ ap (λ (x : ℕ). group_text now ++ sample_text x (count - (made + 1))) (sym next_is)

module _ (now count made : ℕ) (past : count ≤ made) where
  none_left : count - made ≡ 0
  none_left = omega (arith, past)

  pub bytes_end : bytes_from now (count - made) ≡ []
  unfolding bytes_from
  bytes_end = ap (bytes_from now) none_left

  pub state_end : state_after now (count - made) ≡ now
  unfolding state_after
  state_end = ap (state_after now) none_left

  pub groups_end : sample_text now (count - made) ≡ []
  unfolding sample_text
  groups_end = ap (sample_text now) none_left

module _ (now : ℕ) (pictures : List Picture) (i : ℕ) where
  -- a picture more
  module _ (d : Picture) (next : ℕ) (lt : i < length pictures)
      (next_is : next ≡ state_behind_picture now (get_or pictures i d)) where
    at : drop i pictures ≡ get_or pictures i d ∷ drop (i + 1) pictures
    at =
        let one : suc i ≡ i + 1 = omega arith in
        drop-cons pictures i d lt ∙ ap (λ (k : ℕ). get_or pictures i d ∷ drop k pictures) one

    pub picture_next : pictures_text now (drop i pictures)
        ≡ picture_text now (get_or pictures i d) ++ pictures_text next (drop (i + 1) pictures)
    unfolding pictures_text
    picture_next =
        ap (pictures_text now) at
        ∙ ap (λ (x : ℕ). picture_text now (get_or pictures i d) ++ pictures_text x (drop (i + 1) pictures))
        (sym next_is)

    pub behind_next : state_behind next (drop (i + 1) pictures) ≡ state_behind now (drop i pictures)
    unfolding state_behind
    behind_next =
        ap (λ (x : ℕ). state_behind x (drop (i + 1) pictures)) next_is ∙ sym (ap (state_behind now) at)

  module _ (past : length pictures ≤ i) where
    none : drop i pictures ≡ []
    none = drop_all i pictures past

    pub pictures_end : pictures_text now (drop i pictures) ≡ []
    unfolding pictures_text
    pictures_end = ap (pictures_text now) none

    pub behind_end : state_behind now (drop i pictures) ≡ now
    unfolding state_behind
    behind_end = ap (state_behind now) none

-- a picture is its head and its filling
pub picture_is : (x : ℕ) (p : Picture) (old mid new head : List ℕ) (count : ℕ) → mid ≡ old ++ head
    → head ≡ picture_head p.kind → count ≡ filled_in p → new ≡ mid ++ bytes_from x count → new ≡ old ++ picture_text x p
unfolding picture_text
picture_is x p old mid new head count mid_is head_is count_is is =
    is ∙ ap (λ (n : ℕ). mid ++ bytes_from x n) count_is
    ∙ ap (λ (t : List ℕ). t ++ bytes_from x (filled_in p)) (mid_is ∙ ap (λ (h : List ℕ). old ++ h) head_is)
    ∙ append_assoc old (picture_head p.kind) (bytes_from x (filled_in p))

pub behind_is : (x y count : ℕ) (p : Picture) → count ≡ filled_in p → y ≡ state_after x count
    → y ≡ state_behind_picture x p
unfolding state_behind_picture
behind_is x y count p count_is is = is ∙ ap (state_after x) count_is

-- a group is its headers and its pictures
pub group_is : (x : ℕ) (old mid new : List ℕ) → mid ≡ old ++ HEADERS → new ≡ mid ++ pictures_text x PICTURES
    → new ≡ old ++ group_text x
unfolding group_text
group_is x old mid new mid_is is =
    is ∙ ap (λ (t : List ℕ). t ++ pictures_text x PICTURES) mid_is ∙ append_assoc old HEADERS (pictures_text x PICTURES)

pub group_behind_is : (x y : ℕ) → y ≡ state_behind x PICTURES → y ≡ state_behind_group x
unfolding state_behind_group
group_behind_is x y is = is

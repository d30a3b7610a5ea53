-- One stripe of a message is written, and each other is left as it is.
use Rattle.std.specs.Prelude.{flat_map}
use Rattle.std.specs.Prelude.{max, min}
use Rattle.std.proofs.Common.{◌≡◌, ◌↔◌, ℕ, ◌+◌, ◌*◌, ◌<◌, ◌≤◌, List, ◌∷◌, ◌++◌, ◌⊎◌, length, get_or, take, drop}
use Rattle.std.proofs.Common.{All, refl, sym, ap, ◌∙◌, arith, subst, inl, inr}
use Rattle.std.proofs.lemmas.Bool.{cases_eq, cases_lt}
use Rattle.std.proofs.lemmas.List.Elements.{All-append, All-take, All-drop}
use Rattle.std.proofs.Math.Nat.{mul-le-mul_right}
use Rattle.field_elements.specs.Field.{Coding, AreSpellings}
use Rattle.pet_interp.specs.Progressive.{Held, stripe_of, lengths_of}
use Rattle.pet_poly.specs.Rows.{words}
use Rattle.stripe_plan.specs.declared.layer.LayerSize.{LayerSize}
use Rattle.stripe_plan.specs.Counts.{Meets}
use Rattle.stripe_plan.specs.Layers.{needs_of, plan_stripes, words_before}
use Rattle.packet_session.specs.Session.{IsMessage}
use Rattle.packet_group.specs.OpenGroup.{stripe_lengths}
use Rattle.packet_group.specs.Written.{HasStripe, filled, whole_message}
use Rattle.packet_group.specs.inside.Learning.{IsWrittenOn}
use Rattle.packet_group.proofs.Rows.{IsWritten, words_written, length-spellings, bytes_spellings}
use Rattle.packet_group.proofs.Filling.{IsPartWritten, part_written, length_filled}
use Rattle.packet_group.proofs.Cuts.{plan_on_end, next_from, sizes_are, cut_written, cut_other}

-- the plan's stripe `stripe` has `size` words of the message from `at` on
pub record IsHere (layers : List LayerSize) (stripe at size : ℕ) : Type 0 where
  pub inside : stripe < length (plan_stripes layers)
  pub here : get_or (plan_stripes layers) stripe (0, 0) ≡ (at, size)
  pub ended : at + size ≤ length (needs_of layers)

-- the next stripe of a walk over the plan
pub taken : (layers : List LayerSize) (count stripe at size : ℕ) (before left : List (ℕ × ℕ))
    → before ≡ drop count (plan_stripes layers) → before ≡ (at, size) ∷ left → stripe ≡ count
    → IsHere layers stripe at size × (left ≡ drop (stripe + 1) (plan_stripes layers))
taken layers count stripe at size before left rest first same =
    let plan = plan_stripes layers in
    let next = next_from plan count (0, 0) (at, size) left (sym rest ∙ first) in
    let inside : stripe < length plan = omega (arith, next.inside, same) in
    let here : get_or plan stripe (0, 0) ≡ (at, size) = ap (λ (i : ℕ). get_or plan i (0, 0)) same ∙ next.here in
    let start : (get_or plan stripe (0, 0)).0 ≡ at = ap (λ (p : ℕ × ℕ). p.0) here in
    let long : (get_or plan stripe (0, 0)).1 ≡ size = ap (λ (p : ℕ × ℕ). p.1) here in (
      record {
        inside = inside;
        here = here;
        ended = omega (arith, (plan_on_end layers).inside stripe inside, start, long);
      },
      sym next.rest ∙ ap (λ (i : ℕ). drop (i + 1) plan) (sym same),
    )

-- the bytes of the message are filled up to such a stripe's end, and its words are written
pub stripe_written : {E : Type 0} (P : E → Type 0) (c : Coding E) (laws : AreSpellings P c.width c.spelt c.spelling)
    (layers : List LayerSize) (stripe at size : ℕ) (cs : List E) (old new : List ℕ)
    → IsHere layers stripe at size → length cs ≡ size
    → All P cs × (new ≡ take (at * c.width) (filled ((at + size) * c.width) old) ++ flat_map c.spelling cs
    ++ drop ((at + size) * c.width) (filled ((at + size) * c.width) old))
    → IsPartWritten (length (needs_of layers) * c.width) (at * c.width) ((at + size) * c.width)
    (flat_map c.spelling cs) old new
stripe_written P c laws layers stripe at size cs old new here long is =
    let bytes : length (flat_map c.spelling cs) ≡ size * c.width =
    length-spellings P c.width c.spelt c.spelling laws cs is.0 ∙ ap (λ n. n * c.width) long in
    let split : (at + size) * c.width ≡ at * c.width + size * c.width = omega arith in
    part_written (length (needs_of layers) * c.width) (at * c.width) ((at + size) * c.width) (flat_map c.spelling cs)
    old new (omega (arith, split, bytes)) (mul-le-mul_right c.width here.ended) is.1

-- a stripe has a word of a stretch, or has none
pub meets_or : (first last at size : ℕ) → Meets first last (at, size) ⊎ (Meets first last (at, size) → ⊥)
meets_or first last at size =
    elim (cases_lt (max at first) (min (at + size) last)) [
      | inl some ↦ inl (max at first, omega arith, omega arith, omega arith, omega (arith, some))
      | inr none ↦ inr (λ m. absurd (omega (arith, none, m.1, m.2, m.3, m.4)))
    ]

meets_same : (first last first' last' : ℕ) (stripe stripe' : ℕ × ℕ) → first ≡ first' → last ≡ last'
    → stripe ≡ stripe' → Meets first last stripe → Meets first' last' stripe'
meets_same first last first' last' stripe stripe' begun ended same m =
    let at : stripe.0 ≡ stripe'.0 = ap (λ (p : ℕ × ℕ). p.0) same in
    let size : stripe.1 ≡ stripe'.1 = ap (λ (p : ℕ × ℕ). p.1) same in (
      m.0,
      omega (arith, m.1, at),
      omega (arith, m.2, at, size),
      omega (arith, m.3, begun),
      omega (arith, m.4, ended),
    )

-- the stretch that a layer's words are read to be has a word of such a stripe exactly where the layer has
pub met_layer : (rows layers : List LayerSize) (layer first last stripe at size : ℕ) → rows ≡ layers
    → first ≡ words_before rows layer → last ≡ words_before rows (layer + 1) → IsHere layers stripe at size
    → Meets first last (at, size)
    ↔ Meets (words_before layers layer) (words_before layers (layer + 1)) (get_or (plan_stripes layers) stripe (0, 0))
met_layer rows layers layer first last stripe at size same first_is last_is here =
    let from : first ≡ words_before layers layer =
    first_is ∙ ap (λ (l : List LayerSize). words_before l layer) same in
    let to : last ≡ words_before layers (layer + 1) =
    last_is ∙ ap (λ (l : List LayerSize). words_before l (layer + 1)) same in
    let found = get_or (plan_stripes layers) stripe (0, 0) in (
      meets_same first last (words_before layers layer) (words_before layers (layer + 1)) (at, size) found from to
          (sym here.here),
      meets_same (words_before layers layer) (words_before layers (layer + 1)) first last found (at, size) (sym from)
          (sym to) here.here,
    )

module _ {E : Type 0} (c : Coding E) (layers : List LayerSize) (held : Held E) where
  -- where nothing is written, what stood there still does
  pub on_same : (old new : List ℕ) → IsMessage c.width layers (whole_message c.width layers old) → new ≡ old
      → IsWrittenOn c layers held old new
  on_same old new message same =
      subst (IsWrittenOn c layers held old) (sym same) (record { message = message; kept = λ j l has. has })

  -- what is written on twice is written on
  pub on_then : (a b d : List ℕ) → IsWrittenOn c layers held a b → IsWrittenOn c layers held b d
      → IsWrittenOn c layers held a d
  on_then a b d first second =
      record { message = second.message; kept = λ j l has. second.kept j l (first.kept j l has) }

module _ {E : Type 0} (P : E → Type 0) (c : Coding E) (laws : AreSpellings P c.width c.spelt c.spelling)
    (layers : List LayerSize) (held : Held E) (lengths : lengths_of held ≡ stripe_lengths layers)
    (stripe at size : ℕ) (stands : IsHere layers stripe at size) (old new : List ℕ)
    (message : IsMessage c.width layers (whole_message c.width layers old))
    (done : All P (stripe_of held stripe)
    × (new ≡ take (at * c.width) (filled ((at + size) * c.width) old) ++ flat_map c.spelling (stripe_of held stripe)
    ++ drop ((at + size) * c.width) (filled ((at + size) * c.width) old))) where
  abbrev cs : List E
  cs = stripe_of held stripe

  abbrev before : List ℕ
  before = whole_message c.width layers old

  abbrev after : List ℕ
  after = whole_message c.width layers new

  long : length cs ≡ size
  long = (sizes_are held layers lengths).each stripe ∙ ap (λ (p : ℕ × ℕ). p.1) stands.here

  most : (at + size) * c.width ≤ length (needs_of layers) * c.width
  most = mul-le-mul_right c.width stands.ended

  written : IsPartWritten (length (needs_of layers) * c.width) (at * c.width) ((at + size) * c.width)
      (flat_map c.spelling cs) old new
  written = stripe_written P c laws layers stripe at size cs old new stands long done

  row_written : IsWritten (words c.spelt c.width (length (needs_of layers)) before)
      (words c.spelt c.width (length (needs_of layers)) after) (get_or (plan_stripes layers) stripe (0, 0)).0 cs
  row_written =
      let start : (get_or (plan_stripes layers) stripe (0, 0)).0 ≡ at = ap (λ (p : ℕ × ℕ). p.0) stands.here in
      let inside : at + size ≤ length (needs_of layers) = stands.ended in
      let top : (at + size) * c.width ≡ (at + length cs) * c.width = ap (λ n. (at + n) * c.width) (sym long) in
      let split : (at + length cs) * c.width ≡ at * c.width + length cs * c.width = omega arith in
      subst (λ a. IsWritten (words c.spelt c.width (length (needs_of layers)) before)
      (words c.spelt c.width (length (needs_of layers)) after) a cs) (sym start)
      (words_written P c.width c.spelt c.spelling laws (length (needs_of layers)) at (at * c.width)
      ((at + size) * c.width) cs before after done.0 (omega (arith, long, inside)) refl (top ∙ split) top
      (omega (arith, most, message.whole)) written.is)

  -- the message still has room for all words, and bytes alone
  message_after : IsMessage c.width layers after
  message_after =
      let n = length (needs_of layers) * c.width in
      let b = (at + size) * c.width in
      record {
        whole =
            omega (
              arith,
              length_filled n new,
              length_filled n old,
              length_filled b old,
              written.long,
              message.whole,
              most,
            );
        bytes =
            subst (All (λ b. b < 256)) (sym written.is)
            (All-append (λ b. b < 256)
            (take (at * c.width) before ++ flat_map c.spelling cs) (drop ((at + size) * c.width) before)
            (All-append (λ b. b < 256) (take (at * c.width) before) (flat_map c.spelling cs)
            (All-take (λ b. b < 256) (at * c.width) before message.bytes)
            (bytes_spellings P c.width c.spelt c.spelling laws cs done.0))
            (All-drop (λ b. b < 256) ((at + size) * c.width) before message.bytes));
      }

  -- the stripe stands there now
  pub stripe_here : HasStripe c layers held new stripe
  stripe_here =
      let end : ((get_or (plan_stripes layers) stripe (0, 0)).0 + (get_or (plan_stripes layers) stripe (0, 0)).1)
      * c.width ≡ (at + size) * c.width =
      ap (λ (p : ℕ × ℕ). (p.0 + p.1) * c.width) stands.here in
      record {
        reached = omega (arith, end, length_filled ((at + size) * c.width) old, written.long);
        words =
            cut_written layers (words c.spelt c.width (length (needs_of layers)) before)
            (words c.spelt c.width (length (needs_of layers)) after) stripe cs stands.inside
            ((sizes_are held layers lengths).each stripe) row_written;
      }

  -- and each other that stood there still does
  pub on_written : IsWrittenOn c layers held old new
  on_written = record {
    message = message_after;
    kept =
        λ j l has.
        elim (cases_eq j stripe) [
          | inl here ↦ subst (HasStripe c layers held new) (sym here) stripe_here
          | inr other ↦ record {
            reached = omega (arith, has.reached, length_filled ((at + size) * c.width) old, written.long);
            words =
                cut_other layers (words c.spelt c.width (length (needs_of layers)) before)
                (words c.spelt c.width (length (needs_of layers)) after) stripe cs stands.inside
                ((sizes_are held layers lengths).each stripe) row_written j l other
                ∙ has.words;
          }
        ];
  }

-- The message that a state tells, cut into the stripes of the plan again.
use Rattle.std.specs.Prelude.{flat_map, map, replicate}
use Rattle.std.proofs.Common.{◌≡◌, ℕ, zero, suc, ◌+◌, ◌-◌, ◌*◌, ◌<◌, ◌≤◌, List, [], ◌∷◌, ◌++◌, length, get_or, take}
use Rattle.std.proofs.Common.{drop, All, sym, ap, ◌∙◌, arith, append_assoc, subst, inl, inr}
use Rattle.std.proofs.lemmas.Bool.{cases_lt, lt-ltb, le-ltb}
use Rattle.std.proofs.lemmas.List.{length-append, length-replicate, drop_at}
use Rattle.std.proofs.lemmas.List.Elements.{All-nil, All-append, All-replicate, All-head, All-tail, All-from_get_or}
use Rattle.field_elements.specs.Field.{Coding, AreSpellings}
use Rattle.pet_interp.specs.Progressive.{Held, StandsFor, stripe_of, lengths_of}
use Rattle.pet_poly.specs.Rows.{words}
use Rattle.pet_poly.specs.laws.RowLaws.{words_of_spellings}
use Rattle.stripe_plan.specs.declared.layer.LayerSize.{LayerSize}
use Rattle.stripe_plan.specs.Layers.{needs_of, plan_ends, plan_stripes, stripe_lengths, stripes_from}
use Rattle.stripe_plan.specs.Stripes.{IsPlan, stripes_of}
use Rattle.packet_session.specs.Payload.{stripes_in}
use Rattle.packet_session.specs.Session.{IsMessage}
use Rattle.packet_group.specs.Stored.{told_stripe, told_message}
use Rattle.packet_group.proofs.Cuts.{sizes_are, cut_at, plan_on_end}
use Rattle.packet_group.proofs.Rows.{take_words, drop_words, words_front, length-spellings, bytes_spellings}

-- ---- stripes on end, each spelled by as many words as it has

module _ {E : Type 0} (w : ℕ) (spell : List E → List ℕ) (needs : List ℕ) where
  -- all of them, behind the words before them, are as long as the row
  long_on_end : (start : ℕ) (ends : List ℕ) (stripes : List (List E)) (before : List ℕ) → IsPlan needs start ends
      → map length stripes ≡ map (λ s. s.1) (stripes_of start ends)
      → All (λ s. length (spell s) ≡ length s * w) stripes → length before ≡ start * w
      → length (before ++ flat_map spell stripes) ≡ length needs * w
  long_on_end start [] [] before plan sizes wide long =
      length-append before [] ∙ omega (arith, long, ap (λ n. n * w) plan)
  long_on_end start [] (s ∷ stripes) before plan sizes wide long = absurd (cc)
  long_on_end start (end ∷ ends) [] before plan sizes wide long = absurd (cc)
  long_on_end start (end ∷ ends) (s ∷ stripes) before plan sizes wide long =
      let first : length s ≡ end - start = cc in
      let rest : map length stripes ≡ map (λ t. t.1) (stripes_of end ends) = cc in
      let here : length (spell s) ≡ length s * w = All-head (λ t. length (spell t) ≡ length t * w) s stripes wide in
      let upto : start + length s ≡ end = omega (arith, first, plan.0.respects.begun) in
      let end_is : start * w + length s * w ≡ end * w = omega (arith, ap (λ n. n * w) upto) in
      ap length (sym (append_assoc before (spell s) (flat_map spell stripes)))
      ∙ long_on_end end ends stripes (before ++ spell s) plan.1 rest
      (All-tail (λ t. length (spell t) ≡ length t * w) s stripes wide)
      (length-append before (spell s) ∙ omega (arith, long, here, end_is))

  -- one of them stands from its first word on
  found_on_end : (start : ℕ) (ends : List ℕ) (stripes : List (List E)) (before : List ℕ) → IsPlan needs start ends
      → map length stripes ≡ map (λ s. s.1) (stripes_of start ends)
      → All (λ s. length (spell s) ≡ length s * w) stripes → length before ≡ start * w
      → (j : ℕ) → j < length stripes → (rest : List ℕ)
      × (drop ((get_or (stripes_of start ends) j (0, 0)).0 * w) (before ++ flat_map spell stripes)
      ≡ spell (get_or stripes j []) ++ rest)
  found_on_end start ends [] before plan sizes wide long j l = absurd (omega arith)
  found_on_end start [] (s ∷ stripes) before plan sizes wide long j l = absurd (cc)
  found_on_end start (end ∷ ends) (s ∷ stripes) before plan sizes wide long zero l =
      (flat_map spell stripes, drop_at before (spell s ++ flat_map spell stripes) (start * w) long)
  found_on_end start (end ∷ ends) (s ∷ stripes) before plan sizes wide long (suc j) l =
      let first : length s ≡ end - start = cc in
      let rest : map length stripes ≡ map (λ t. t.1) (stripes_of end ends) = cc in
      let here : length (spell s) ≡ length s * w = All-head (λ t. length (spell t) ≡ length t * w) s stripes wide in
      let upto : start + length s ≡ end = omega (arith, first, plan.0.respects.begun) in
      let end_is : start * w + length s * w ≡ end * w = omega (arith, ap (λ n. n * w) upto) in
      let found = found_on_end end ends stripes (before ++ spell s) plan.1 rest
      (All-tail (λ t. length (spell t) ≡ length t * w) s stripes wide)
      (length-append before (spell s) ∙ omega (arith, long, here, end_is)) j (omega arith) in (
        found.0,
        ap (drop ((get_or (stripes_of end ends) j (0, 0)).0 * w))
            (sym (append_assoc before (spell s) (flat_map spell stripes)))
            ∙ found.1,
      )

bytes_on_end : {E : Type 0} (spell : List E → List ℕ) (stripes : List (List E))
    → All (λ s. All (λ b. b < 256) (spell s)) stripes → All (λ b. b < 256) (flat_map spell stripes)
bytes_on_end spell [] h = All-nil (λ b. b < 256)
bytes_on_end spell (s ∷ stripes) h =
    All-append (λ b. b < 256) (spell s) (flat_map spell stripes)
    (All-head (λ t. All (λ b. b < 256) (spell t)) s stripes h)
    (bytes_on_end spell stripes (All-tail (λ t. All (λ b. b < 256) (spell t)) s stripes h))

-- ---- what a state tells of one stripe

told_known : {E : Type 0} (c : Coding E) (met : ℕ) (s : List E) → length s ≤ met
    → told_stripe c met s ≡ flat_map c.spelling s
told_known c met s short = rw (le-ltb met (length s) short)

told_zeros : {E : Type 0} (c : Coding E) (met : ℕ) (s : List E) → met < length s
    → told_stripe c met s ≡ replicate (length s * c.width) 0
told_zeros c met s long = rw (lt-ltb met (length s) long)

module _ {E : Type 0} (P : E → Type 0) (c : Coding E) (laws : AreSpellings P c.width c.spelt c.spelling) (met : ℕ)
    (s : List E) (are : length s ≤ met → All P s) where
  told_wide : length (told_stripe c met s) ≡ length s * c.width
  told_wide =
      elim (cases_lt met (length s)) [
        | inl long ↦ ap length (told_zeros c met s long) ∙ length-replicate (length s * c.width) 0
        | inr short ↦
            ap length (told_known c met s short)
            ∙ length-spellings P c.width c.spelt c.spelling laws s (are short)
      ]

  told_bytes : All (λ b. b < 256) (told_stripe c met s)
  told_bytes =
      elim (cases_lt met (length s)) [
        | inl long ↦ subst (All (λ b. b < 256)) (sym (told_zeros c met s long))
            (All-replicate (λ b. b < 256) (length s * c.width) 0 (omega arith))
        | inr short ↦ subst (All (λ b. b < 256)) (sym (told_known c met s short))
            (bytes_spellings P c.width c.spelt c.spelling laws s (are short))
      ]

-- ---- and of all

module _ {E : Type 0} (P : E → Type 0) (c : Coding E) (laws : AreSpellings P c.width c.spelt c.spelling)
    (layers : List LayerSize) (plan : IsPlan (needs_of layers) 0 (plan_ends layers)) (held : Held E)
    (points : List (E × List E)) (lengths : lengths_of held ≡ stripe_lengths layers)
    (st : StandsFor P c.ops held points) where
  elements : (j : ℕ) → j < length held.stripes → length (stripe_of held j) ≤ held.met → All P (stripe_of held j)
  elements j l short = (st.others j l (omega (arith, short, st.met))).elements

  wide : All (λ s. length (told_stripe c held.met s) ≡ length s * c.width) held.stripes
  wide =
      All-from_get_or (λ s. length (told_stripe c held.met s) ≡ length s * c.width) held.stripes []
      (λ j l. told_wide P c laws held.met (stripe_of held j) (elements j l))

  -- it is a message
  pub told_is : IsMessage c.width layers (told_message c held)
  unfolding stripes_from
  told_is = record {
    whole =
        long_on_end c.width (told_stripe c held.met) (needs_of layers) 0 (plan_ends layers) held.stripes [] plan
        lengths wide (omega arith);
    bytes =
        bytes_on_end (told_stripe c held.met) held.stripes
        (All-from_get_or (λ s. All (λ b. b < 256) (told_stripe c held.met s)) held.stripes []
        (λ j l. told_bytes P c laws held.met (stripe_of held j) (elements j l)));
  }

  found : (j : ℕ) → j < length held.stripes → (rest : List ℕ)
      × (drop ((get_or (plan_stripes layers) j (0, 0)).0 * c.width) (told_message c held)
      ≡ told_stripe c held.met (stripe_of held j) ++ rest)
  unfolding stripes_from
  found = found_on_end c.width (told_stripe c held.met) (needs_of layers) 0 (plan_ends layers) held.stripes [] plan
      lengths wide (omega arith)

  -- and has the words of each stripe that is known
  pub told_words : (j : ℕ) → j < length held.stripes → length (stripe_of held j) ≤ held.met
      → get_or (stripes_in c layers (told_message c held)) j [] ≡ stripe_of held j
  told_words j l short =
      let w = c.width in
      let n = length (needs_of layers) in
      let message = told_message c held in
      let cs = stripe_of held j in
      let sizes = sizes_are held layers lengths in
      let s = get_or (plan_stripes layers) j (0, 0) in
      let inside : j < length (plan_stripes layers) = omega (arith, l, sizes.count) in
      let end : s.0 + s.1 ≤ n = (plan_on_end layers).inside j inside in
      let here = found j l in
      let spelt : drop (s.0 * w) message ≡ flat_map c.spelling cs ++ here.0 =
      here.1 ∙ ap (λ t. t ++ here.0) (told_known c held.met cs short) in
      let long : length (flat_map c.spelling cs) ≡ length cs * w =
      length-spellings P w c.spelt c.spelling laws cs (elements j l short) in
      let same : s.1 * w ≡ length cs * w = ap (λ k. k * w) (sym (sizes.each j)) in
      cut_at layers (words c.spelt w n message) j inside
      ∙ ap (take s.1) (drop_words c.spelt w n s.0 (n - s.0) message (omega (arith, end)))
      ∙ take_words c.spelt w (n - s.0) s.1 (drop (s.0 * w) message) (omega (arith, end))
      ∙ ap (words c.spelt w s.1) spelt
      ∙ words_front c.spelt w s.1 (flat_map c.spelling cs) here.0 (omega (arith, long, same))
      ∙ ap (λ k. words c.spelt w k (flat_map c.spelling cs)) (sym (sizes.each j))
      ∙ words_of_spellings P w c.spelt c.spelling laws cs (elements j l short)

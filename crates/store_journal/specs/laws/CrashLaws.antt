-- What a crash leaves of a journal, by the step that it cuts short.
use Rattle.std.proofs.Common.{◌≡◌, ◌⊎◌, inl, inr, ℕ, ◌+◌, ◌<◌, true, List, [], ◌∷◌, ◌++◌, length, take, drop, get_or}
use Rattle.std.proofs.Common.{refl, sym, ap, ◌∙◌, append_assoc, length-append, take-append-drop, arith}
use Rattle.std.proofs.lemmas.List.{append-nil, take_at, drop_at, take_all, drop_all, drop_more}
use Rattle.std.proofs.lemmas.Bool.{cases_eq}
use Rattle.std.proofs.lemmas.Bool.Decides.{nat_tests}
use Rattle.outside_disk.specs.Disk.{Torn, Cut, with_bytes}
use Rattle.store_journal.specs.Text.{HasFrames, mark_text, staged, open_entry, entries_text, front_text, journal_text}
use Rattle.store_journal.specs.Text.{is_end}
use Rattle.store_journal.specs.laws.TextLaws.{entries_push}

closed_ends : (gate : ℕ) (rest : List ℕ) → (gate ≡ 1 → ⊥) → is_end gate rest ≡ true
closed_ends gate [] shut = refl
closed_ends gate (b ∷ rest) shut = grind (arith, nat_tests)

-- bytes that go on as others did up to a place
pub goes_on : (n : ℕ) (front c : List ℕ) → take n c ≡ front → c ≡ front ++ drop n c
goes_on n front c is = sym (take-append-drop n c) ∙ ap (λ (l : List ℕ). l ++ drop n c) is

-- one byte and what is behind it
one_byte : (n : ℕ) (c : List ℕ) → n < length c → drop n c ≡ get_or c n 0 ∷ drop (n + 1) c
one_byte n c lt = drop_more c n 0 lt

module _ (session : List ℕ) (frames : List (List ℕ)) where
  abbrev front : List ℕ
  front = front_text session frames

  -- whatever stands behind a closed gate
  pub behind_closed : (gate : ℕ) (rest c : List ℕ) → (gate ≡ 1 → ⊥) → c ≡ front ++ gate ∷ rest
      → HasFrames session frames c
  behind_closed gate rest c shut is = record { gate = gate; rest = rest; is = is; ends = closed_ends gate rest shut }

  -- whichever the gate is, where it is the last byte
  pub last_gate : (gate : ℕ) (c : List ℕ) → c ≡ front ++ gate ∷ [] → HasFrames session frames c
  last_gate gate c is = record { gate = gate; rest = []; is = is; ends = refl }

  -- a write behind the closed gate that is cut short
  pub torn_behind : (at n gate : ℕ) (c : List ℕ) → (gate ≡ 1 → ⊥) → at ≡ length front + 1
      → Torn at n (front ++ gate ∷ []) c → HasFrames session frames c
  torn_behind at n gate c shut is torn =
      let stays : take at c ≡ front ++ gate ∷ [] = torn.before
      ∙ take_all at (front ++ gate ∷ []) (omega (arith, length-append front (gate ∷ []))) in
      behind_closed gate (drop at c) c shut (goes_on at (front ++ gate ∷ []) c stays
      ∙ append_assoc front (gate ∷ []) (drop at c))

  behind_gate : (at gate : ℕ) (rest : List ℕ) → at ≡ length front → drop (at + 1) (front ++ gate ∷ rest) ≡ rest
  behind_gate at gate rest is =
      ap (λ (l : List ℕ). drop (at + 1) l) (sym (append_assoc front (gate ∷ []) rest))
      ∙ drop_at (front ++ gate ∷ []) rest (at + 1) (omega (arith, length-append front (gate ∷ [])))

  -- a write of the gate that is cut short
  pub torn_gate : (at : ℕ) (gate : ℕ) (rest c : List ℕ) → at ≡ length front → Torn at 1 (front ++ gate ∷ rest) c
      → (g : ℕ) × (c ≡ front ++ g ∷ rest)
  torn_gate at gate rest c is torn =
      let g = get_or c at 0 in
      let stays : take at c ≡ front = torn.before ∙ take_at front (gate ∷ rest) at (sym is) in
      let long : at < length c = omega (arith, torn.no_shorter, length-append front (gate ∷ rest)) in (
        g,
        goes_on at front c stays
            ∙ ap (λ (l : List ℕ). front ++ l) (one_byte at c long
            ∙ ap (λ (l : List ℕ). g ∷ l) (torn.after ∙ behind_gate at gate rest is)),
      )

  -- one frame more, behind an open gate
  pub opened_is : (frame : List ℕ) → front ++ 1 ∷ staged frame ≡ journal_text session (frames ++ frame ∷ [])
  opened_is frame =
      sym (append_assoc front (open_entry frame) (0 ∷ []))
      ∙ ap (λ (l : List ℕ). l ++ 0 ∷ [])
      (append_assoc (mark_text ++ session) (entries_text frames) (open_entry frame))
      ∙ ap (λ (l : List ℕ). mark_text ++ session ++ l ++ 0 ∷ []) (sym (entries_push frames frame))

  -- the gate of a frame that is whole behind it, whatever its value
  pub any_gate : (frame : List ℕ) (gate : ℕ) (c : List ℕ) → c ≡ front ++ gate ∷ staged frame
      → HasFrames session frames c ⊎ HasFrames session (frames ++ frame ∷ []) c
  any_gate frame gate c is = elim (cases_eq gate 1) [
    | inl open_gate ↦ inr (record {
      gate = 0;
      rest = [];
      is = is ∙ ap (λ (g : ℕ). front ++ g ∷ staged frame) open_gate
          ∙ opened_is frame;
      ends = refl;
    })
    | inr shut ↦ inl (behind_closed gate (staged frame) c shut is)
  ]

  -- what is written behind the gate
  pub written_behind : (at gate : ℕ) (bytes : List ℕ) → at ≡ length front + 1
      → with_bytes at bytes (front ++ gate ∷ []) ≡ front ++ gate ∷ bytes
  written_behind at gate bytes is =
      ap (λ (l : List ℕ). l ++ bytes ++ drop (at + length bytes) (front ++ gate ∷ []))
      (take_all at (front ++ gate ∷ []) (omega (arith, length-append front (gate ∷ []))))
      ∙ ap (λ (l : List ℕ). front ++ gate ∷ [] ++ bytes ++ l)
      (drop_all (at + length bytes) (front ++ gate ∷ []) (omega (arith, length-append front (gate ∷ []))))
      ∙ append-nil (front ++ gate ∷ [] ++ bytes)
      ∙ append_assoc front (gate ∷ []) bytes

  -- what is written to the gate
  pub written_gate : (at gate value : ℕ) (rest : List ℕ) → at ≡ length front
      → with_bytes at (value ∷ []) (front ++ gate ∷ rest) ≡ front ++ value ∷ rest
  written_gate at gate value rest is =
      ap (λ (l : List ℕ). l ++ (value ∷ []) ++ drop (at + 1) (front ++ gate ∷ rest))
      (take_at front (gate ∷ rest) at (sym is))
      ∙ ap (λ (l : List ℕ). front ++ (value ∷ []) ++ l) (behind_gate at gate rest is)
      ∙ append_assoc front (value ∷ []) rest

  -- a cut behind a closed gate that is cut short
  pub torn_cut : (at gate : ℕ) (rest c : List ℕ) → (gate ≡ 1 → ⊥) → at ≡ length front + 1
      → Cut at (front ++ gate ∷ rest) c → HasFrames session frames c
  torn_cut at gate rest c shut is torn =
      let stays : take at c ≡ front ++ gate ∷ [] = torn.before
      ∙ ap (λ (l : List ℕ). take at l) (sym (append_assoc front (gate ∷ []) rest))
      ∙ take_at (front ++ gate ∷ []) rest at (omega (arith, length-append front (gate ∷ []))) in
      behind_closed gate (drop at c) c shut (goes_on at (front ++ gate ∷ []) c stays
      ∙ append_assoc front (gate ∷ []) (drop at c))

  pub cut_is : (at gate : ℕ) (rest : List ℕ) → at ≡ length front + 1
      → take at (front ++ gate ∷ rest) ≡ front ++ gate ∷ []
  cut_is at gate rest is =
      ap (λ (l : List ℕ). take at l) (sym (append_assoc front (gate ∷ []) rest))
      ∙ take_at (front ++ gate ∷ []) rest at (omega (arith, length-append front (gate ∷ [])))

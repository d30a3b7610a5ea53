-- A search for the first frame of a group that passes a test, number by number.
use Rattle.std.specs.Prelude.{option_map}
use Rattle.std.proofs.Common.{◌≡◌, ℕ, ◌+◌, ◌-◌, ◌<◌, cond, Bool, true, false, suc, List, length, Option, None, Some}
use Rattle.std.proofs.Common.{refl, sym, ap, ◌∙◌, arith}
use Rattle.std.specs.List.{find, filter_map, cons_option, range_with_len}
use Rattle.std.specs.Option.{option_map_or}
use Rattle.packet_frame.specs.Frame.{Fields}
use Rattle.packet_frame.specs.View.{fields_with}
use Rattle.packet_set.specs.Packets.{Packets, slot_at}
use Rattle.packet_verdicts.specs.Union.{frames_in_group}

module _ (test : Fields → Bool) (p : Packets) where
  abbrev frames_from : ℕ → ℕ → List Fields
  frames_from n k =
      filter_map (λ number. option_map (fields_with p.header number) (slot_at p number)) (range_with_len n k)

  -- the frame of a number passes the test
  abbrev pub hits : ℕ → Bool
  hits n = option_map_or (λ payload. test (fields_with p.header n payload)) (slot_at p n) false

  -- no frame below the number passes
  abbrev pub Searched : ℕ → Type 0
  Searched n = (k : ℕ) → n + k ≡ length p.slots → find test (frames_from n k) ≡ find test (frames_in_group p)

  pub searched_start : Searched 0
  searched_start k e = let same : k ≡ length p.slots = omega (arith, e) in ap (λ n. find test (frames_from 0 n)) same

  miss_by : (n : ℕ) (rest : List Fields) (o : Option (List ℕ))
      → option_map_or (λ payload. test (fields_with p.header n payload)) o false ≡ false
      → find test (cons_option (option_map (fields_with p.header n) o) rest) ≡ find test rest
  miss_by n rest None e = refl
  miss_by n rest (Some payload) e = ap (λ b. cond b (Some (fields_with p.header n payload)) (find test rest)) e

  hit_by : (n : ℕ) (rest : List Fields) (o : Option (List ℕ))
      → option_map_or (λ payload. test (fields_with p.header n payload)) o false ≡ true
      → option_map (λ f. f.number) (find test (cons_option (option_map (fields_with p.header n) o) rest)) ≡ Some n
  hit_by n rest None e = absurd (cc)
  hit_by n rest (Some payload) e =
      ap (λ b. option_map (λ (f : Fields). f.number) (cond b (Some (fields_with p.header n payload)) (find test rest)))
      e

  pub searched_next : (n : ℕ) → hits n ≡ false → Searched n → Searched (n + 1)
  searched_next n miss s k e =
      sym (miss_by n (frames_from (n + 1) k) (slot_at p n) miss) ∙ s (suc k) (omega (arith, e))

  pub searched_hit : (n : ℕ) → n < length p.slots → hits n ≡ true → Searched n
      → Some n ≡ option_map (λ f. f.number) (find test (frames_in_group p))
  searched_hit n l hit s =
      let k : ℕ = length p.slots - (n + 1) in
      let e : n + suc k ≡ length p.slots = omega (arith, l) in
      sym (sym (ap (option_map (λ (f : Fields). f.number)) (s (suc k) e))
      ∙ hit_by n (frames_from (n + 1) k) (slot_at p n) hit)

  pub searched_end : (n : ℕ) → n ≡ length p.slots → Searched n
      → None ≡ option_map (λ f. f.number) (find test (frames_in_group p))
  searched_end n all s = ap (option_map (λ (f : Fields). f.number)) (s 0 (omega (arith, all)))

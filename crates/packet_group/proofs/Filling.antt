-- Bytes that are filled up with zeros, and a part of them that is written.
use Rattle.std.specs.Prelude.{replicate}
use Rattle.std.proofs.Common.{◌≡◌, ℕ, ◌+◌, ◌-◌, ◌<◌, ◌≤◌, List, ◌++◌, length, take, drop, All, sym, ap, ap₂, ◌∙◌}
use Rattle.std.proofs.Common.{arith, append_assoc}
use Rattle.std.proofs.lemmas.List.{length-append, length-replicate, length-drop, length-take-le, take-append-le}
use Rattle.std.proofs.lemmas.List.{drop-append-le, replicate-append-replicate}
use Rattle.std.proofs.lemmas.List.Elements.{All-append, All-replicate}
use Rattle.packet_group.specs.Written.{filled}

-- filled bytes are as many as they were, or as they were filled up to
pub length_filled : (n : ℕ) (xs : List ℕ) → length (filled n xs) ≡ length xs + (n - length xs)
length_filled n xs =
    length-append xs (replicate (n - length xs) 0)
    ∙ ap (λ k. length xs + k) (length-replicate (n - length xs) 0)

pub filled_bytes : (n : ℕ) (xs : List ℕ) → All (λ b. b < 256) xs → All (λ b. b < 256) (filled n xs)
filled_bytes n xs h =
    All-append (λ b. b < 256) xs (replicate (n - length xs) 0) h
    (All-replicate (λ b. b < 256) (n - length xs) 0 (omega arith))

-- a part of the bytes themselves is the same in the filled ones
pub filled_part : (n start size : ℕ) (xs : List ℕ) → start + size ≤ length xs
    → take size (drop start (filled n xs)) ≡ take size (drop start xs)
filled_part n start size xs l =
    let zeros : List ℕ = replicate (n - length xs) 0 in
    ap (take size) (drop-append-le start xs zeros (omega arith))
    ∙ take-append-le size (drop start xs) zeros (omega (arith, length-drop start xs))

-- bytes that are filled up, and then further
filled_further : (n b : ℕ) (xs : List ℕ) → b ≤ n → filled n (filled b xs) ≡ filled n xs
filled_further n b xs l =
    let first = b - length xs in
    let more = n - length (filled b xs) in
    let both : first + more ≡ n - length xs = omega (arith, length_filled b xs) in
    append_assoc xs (replicate first 0) (replicate more 0)
    ∙ ap (λ (t : List ℕ). xs ++ t) (replicate-append-replicate first more 0 ∙ ap (λ k. replicate k 0) both)

-- bytes that are filled up to b, and then have `part` from a up to b
pub record IsPartWritten (n a b : ℕ) (part old new : List ℕ) : Type 0 where
  pub long : length new ≡ length (filled b old)
  pub is : filled n new ≡ take a (filled n old) ++ part ++ drop b (filled n old)

pub part_written : (n a b : ℕ) (part old new : List ℕ) → b ≡ a + length part → b ≤ n
    → new ≡ take a (filled b old) ++ part ++ drop b (filled b old)
    → IsPartWritten n a b part old new
part_written n a b part old new end inside is =
    let now = filled b old in
    let room : b ≤ length now = omega (arith, length_filled b old) in
    let long : length new ≡ length now =
    ap length is ∙ length-append (take a now ++ part) (drop b now)
    ∙ omega (
      arith,
      length-append (take a now) part,
      length-take-le a now (omega arith),
      length-drop b now,
      end,
      room,
    ) in
    let zeros : List ℕ = replicate (n - length now) 0 in
    let whole : now ++ zeros ≡ filled n old = filled_further n b old inside in
    record {
      long = long;
      is =
          ap₂ (λ (t : List ℕ) (k : ℕ). t ++ replicate (n - k) 0) is long
          ∙ append_assoc (take a now ++ part) (drop b now) zeros
          ∙ ap₂ (λ (s t : List ℕ). s ++ part ++ t)
          (sym (take-append-le a now zeros (omega arith)) ∙ ap (take a) whole)
          (sym (drop-append-le b now zeros room) ∙ ap (drop b) whole);
    }

-- How many layers an event can show: no more than the session has.
use Rattle.std.proofs.Common.{◌≡◌, ℕ, ◌+◌, ◌≤◌, List, [], ◌∷◌, length, map, refl, arith, length-append}
use Rattle.std.specs.Prelude.{sum_by, filter, flat_map, not, ◌&&◌}
use Rattle.std.specs.List.{enumerate_from, range_with_len}
use Rattle.std.proofs.lemmas.List.Sums.{sum_by-cons, length-filter, count_by-le-length}
use Rattle.std.proofs.lemmas.List.{length-map}
use Rattle.std.proofs.lemmas.List.FromFn.{length-range_with_len}
use Rattle.packet_session.specs.Session.{Session, SessionGroup}
use Rattle.packet_session.specs.Encoding.{Encoding}
use Rattle.packet_met.specs.Met.{Pair, shows, newly_shown_by, newly_shown_in}
use Rattle.packet_met.specs.EncodedSession.{encoded_group, encoded_session}

flat_few : (f : ℕ × SessionGroup → List (ℕ × ℕ)) (xs : List SessionGroup) (k : ℕ)
    → ((n : ℕ) (g : SessionGroup) → length (f (n, g)) ≤ length g.layers)
    → length (flat_map f (enumerate_from k xs)) ≤ sum_by (λ g. length g.layers) xs
flat_few f [] k few = omega arith
flat_few f (x ∷ xs) k few =
    let rest : length (flat_map f (enumerate_from (k + 1) xs)) ≤ sum_by (λ g. length g.layers) xs =
    flat_few f xs (k + 1) few in
    omega (
      arith,
      length-append (f (k, x)) (flat_map f (enumerate_from (k + 1) xs)),
      few k x,
      rest,
      sum_by-cons (λ (g : SessionGroup). length g.layers) x xs,
    )

pub few_shown : (s : Session) (a b : List Pair) → length (newly_shown_in s a b) ≤ sum_by (λ g. length g.layers) s.groups
few_shown s a b =
    flat_few (λ (e : ℕ × SessionGroup). map (λ layer. (e.0, layer)) (newly_shown_by a b e.0 e.1)) s.groups 0
    (λ n g.
    let p = λ (layer : ℕ). shows b n g layer && not (shows a n g layer) in
    let xs = range_with_len 0 (length g.layers) in
    let pair : ℕ → ℕ × ℕ = λ layer. (n, layer) in
    omega (
      arith,
      length-map (filter p xs) pair,
      length-filter p xs,
      count_by-le-length p xs,
      length-range_with_len 0 (length g.layers),
    ))

-- the same, over the encoders
pub layers_in_all : (es : List Encoding)
    → sum_by (λ e. length e.header.table.layers) es ≡ sum_by (λ g. length g.layers) (encoded_session es).groups
layers_in_all [] = refl
layers_in_all (e ∷ es) =
    omega (
      arith,
      sum_by-cons (λ (x : Encoding). length x.header.table.layers) e es,
      sum_by-cons (λ (g : SessionGroup). length g.layers) (encoded_group e) (map encoded_group es),
      layers_in_all es,
    )

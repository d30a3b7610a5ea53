-- How many frames a kept set has: fewer than four bytes can number.
use Rattle.std.proofs.Common.{◌≡◌, ℕ, ◌+◌, ◌*◌, ◌^◌, ◌<◌, ◌≤◌, suc, cond, List, [], ◌∷◌, length, get_or, All, Option}
use Rattle.std.proofs.Common.{None, Some, nat_cmp, Less, refl, ap, ◌∙◌, arith, flat_map}
use Rattle.std.specs.Prelude.{is_some}
use Rattle.std.specs.Map.{keys_of}
use Rattle.std.specs.List.Sorted.{IsStrictlySortedBy}
use Rattle.std.proofs.lemmas.List.{length-append}
use Rattle.std.proofs.lemmas.List.Elements.{All-from_recursion}
use Rattle.std.proofs.lemmas.List.Sums.{sum_by-cons, count_by-le-length}
use Rattle.std.proofs.lemmas.Map.Keys.{sorted_tail}
use Rattle.pet_base.specs.declared.limits.TheConstants.{MAX_GROUPS, MAX_PACKETS}
use Rattle.packet_frame.specs.Frame.{IsFrame}
use Rattle.packet_frame.specs.View.{fields_with}
use Rattle.packet_frame.specs.declared.frame.Header.{Header}
use Rattle.packet_set.specs.Packets.{Packets, count_held, count_in}
use Rattle.packet_verdicts.specs.KeptSet.{KeptSet, IsKeptSet, IsKeptGroup}
use Rattle.packet_verdicts.specs.Union.{frames_in_group, frames_in}
use Rattle.packet_verdicts.specs.laws.EntryLaws.{all_found, cmp_says_less}
use Rattle.packet_verdicts.specs.laws.FramesInOrder.{frames_from, group_from}

-- as many frames are kept of a group as slots hold a payload
from_many : (h : Header) (at : ℕ) (slots : List (Option (List ℕ))) → length (frames_from h at slots) ≡ count_held slots
from_many h at [] = refl
from_many h at (None ∷ rest) =
    omega (arith, from_many h (at + 1) rest, sum_by-cons (λ (x : Option (List ℕ)). cond (is_some x) 1 0) None rest)
from_many h at (Some payload ∷ rest) =
    omega (
      arith,
      from_many h (at + 1) rest,
      sum_by-cons (λ (x : Option (List ℕ)). cond (is_some x) 1 0) (Some payload) rest,
    )

pub group_many : (p : Packets) → length (frames_in_group p) ≡ count_in p
group_many p = ap length (group_from p) ∙ from_many p.header 0 p.slots

record Held (slots : List (Option (List ℕ))) : Type 0 where
  number : ℕ
  payload : List ℕ
  there : get_or slots number None ≡ Some payload

first_held : (slots : List (Option (List ℕ))) → 0 < count_held slots → Held slots
first_held [] some = absurd (omega (arith, some))
first_held (None ∷ rest) some =
    let later = first_held rest
    (omega (arith, some, sum_by-cons (λ (x : Option (List ℕ)). cond (is_some x) 1 0) None rest)) in
    record { number = suc later.number; payload = later.payload; there = later.there }
first_held (Some payload ∷ rest) some = record { number = 0; payload = payload; there = refl }

-- the header of a kept group is that of a frame
pub record HasFrame (p : Packets) : Type 0 where
  pub number : ℕ
  pub payload : List ℕ
  pub frame : IsFrame (fields_with p.header number payload)

pub group_frame : (session : List ℕ) (group : ℕ) (p : Packets) → IsKeptGroup session group p → HasFrame p
group_frame session group p kept =
    let held = first_held p.slots kept.some in
    record { number = held.number; payload = held.payload; frame = kept.frames held.number held.payload held.there }

-- a group has at most so many frames, and its number is below so many
few_in_group : (session : List ℕ) (group : ℕ) (p : Packets) → IsKeptGroup session group p
    → (length (frames_in_group p) ≤ MAX_PACKETS) × (group < MAX_GROUPS)
few_in_group session group p kept =
    let has = group_frame session group p kept in
    let one = has.frame in (
      omega (arith, group_many p, count_by-le-length (is_some {T = List ℕ}) p.slots, kept.slots, one.table.few_packets),
      omega (arith, kept.same_group, one.group, one.few_groups),
    )

all_few : (session : List ℕ) (es : List (ℕ × Packets)) (low : ℕ) → All (λ e. IsKeptGroup session e.0 e.1) es
    → IsStrictlySortedBy nat_cmp (keys_of es) → All (λ k. low ≤ k) (keys_of es) → low ≤ MAX_GROUPS
    → length (flat_map (λ e. frames_in_group e.1) es) + MAX_PACKETS * low ≤ MAX_PACKETS * MAX_GROUPS
unfolding IsStrictlySortedBy
all_few session [] low kept rising from le = omega (arith, le)
all_few session (e ∷ es) low kept rising from le =
    let few = few_in_group session e.0 e.1 (kept 0 e (omega arith)) in
    let first : low ≤ e.0 = from 0 low (omega arith) in
    let later = all_few session es (e.0 + 1) (λ i d lt. kept (suc i) d (omega (arith, lt)))
    (sorted_tail nat_cmp e.0 (keys_of es) rising)
    (λ i d lt. let at = cmp_says_less e.0 (get_or (keys_of es) i d)
    (All-from_recursion (λ y. nat_cmp e.0 y ≡ Less) (keys_of es) rising.0 i d lt) in omega (arith, at))
    (omega (arith, few.1)) in
    omega (
      arith,
      few.0,
      first,
      later,
      length-append (frames_in_group e.1) (flat_map (λ (d : ℕ × Packets). frames_in_group d.1) es),
    )

-- each entry of a kept set is a kept group
pub each_kept : (set : KeptSet) → IsKeptSet set → All (λ e. IsKeptGroup set.session e.0 e.1) set.groups
each_kept set sound = λ i d lt. sound.groups (get_or set.groups i d).0 (get_or set.groups i d).1
    (all_found set.groups sound.rising i d lt)

pub few_frames : (set : KeptSet) → IsKeptSet set → length (frames_in set) < 2 ^ 32
few_frames set sound =
    omega (
      arith,
      all_few set.session set.groups 0 (each_kept set sound) sound.rising (λ i d lt. omega arith) (omega arith),
    )

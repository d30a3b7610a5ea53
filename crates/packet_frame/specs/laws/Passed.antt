-- What holds of bytes and fields at which no row of the table of refusals holds, and back.
use Rattle.std.proofs.Common.{◌≡◌, ℕ, ◌-◌, ◌<◌, ◌≤◌, Bool, true, false, not, eqb, ltb, cond, ◌||◌, List, [], ◌∷◌}
use Rattle.std.proofs.Common.{length, take, drop, Option, None, Some, refl, arith}
use Rattle.std.specs.List.{list_any, All}
use Rattle.std.specs.Str.{bytes_eq}
use Rattle.std.proofs.lemmas.Bool.Decides.{nat_tests}
use Rattle.std.proofs.lemmas.List.Elements.{All-nil, All-cons}
use Rattle.std.proofs.lemmas.List.Folds.{list_any_none}
use Rattle.std.proofs.lemmas.Slice.Eq.{bytes_eq-Decides}
use Rattle.stripe_plan.specs.declared.layer.LayerSize.{LayerSize}
use Rattle.pet_base.specs.declared.limits.TheConstants.{MAX_DATAGRAM, MAX_GROUPS}
use Rattle.stripe_plan.specs.Sizes.{bytes_of, length_over, planned}
use Rattle.packet_frame.specs.declared.format.Format.{Format}
use Rattle.packet_frame.specs.declared.format.TheConstants.{FORMAT}
use Rattle.packet_frame.specs.Format.{bare_length, frame_length_in}
use Rattle.packet_frame.specs.declared.fault.FrameFault.{FrameFault}
use Rattle.packet_frame.specs.Frame.{Fields, tag_of}
use Rattle.packet_frame.specs.Refusals.{Row, first_of, rows, count_of}

-- no row's test holds
abbrev AllFalse : List Row → Type 0
AllFalse [] = Unit {0}
AllFalse (row ∷ rows) = (row.0 ≡ false) × AllFalse rows

none_row : (b : Bool) (fault : FrameFault) (rest : Option FrameFault) → cond b (Some fault) rest ≡ None
    → (b ≡ false) × (rest ≡ None)
none_row true fault rest h = absurd cc
none_row false fault rest h = (refl, h)

all_false : (rows : List Row) → first_of rows ≡ None → AllFalse rows
all_false [] h = tt
all_false (row ∷ rows) h = let p = none_row row.0 row.1 (first_of rows) h in (p.0, all_false rows p.1)

none_holds : (rows : List Row) → AllFalse rows → first_of rows ≡ None
none_holds [] h = refl
none_holds (row ∷ rows) h = rw h.0 (none_holds rows h.1)

-- what each row leaves, row by row
pub record PassesIn (t : Format) (bytes : List ℕ) (f : Fields) : Type 0 where
  pub long : bare_length t 1 ≤ length bytes
  pub magic : take 4 bytes ≡ t.mark
  pub some_groups : 0 < f.groups
  pub few_groups : f.groups ≤ MAX_GROUPS
  pub group : f.group < f.groups
  pub some_packets : 0 < f.packets
  pub few_packets : f.packets ≤ t.bounds.packets
  pub number : f.number < f.packets
  pub some_layers : 0 < count_of bytes
  pub few_layers : count_of bytes ≤ t.bounds.layers
  pub room : bare_length t (count_of bytes) ≤ length bytes
  pub needs : list_any (λ (layer : LayerSize). eqb layer.need 0 || ltb f.packets layer.need) f.layers ≡ false
  pub lengths : bytes_of f.layers ≤ t.bounds.bytes
  pub whole : length bytes ≡ frame_length_in t f.layers
  pub narrow : length_over t.bounds.bare (planned t.bounds f.layers) ≤ MAX_DATAGRAM
  pub tag : drop (length bytes - t.tag) bytes ≡ tag_of t (take (length bytes - t.tag) bytes)

same_bytes : (x y : List ℕ) → not (bytes_eq x y) ≡ false → x ≡ y
same_bytes x y h = (bytes_eq-Decides x y).0 (not_false (bytes_eq x y) h)
  where
    not_false : (b : Bool) → not b ≡ false → b ≡ true
    not_false true h = refl
    not_false false h = absurd cc

equal_bytes : (x y : List ℕ) → x ≡ y → not (bytes_eq x y) ≡ false
equal_bytes x y e = rw ((bytes_eq-Decides x y).1 e) refl

in_range : (n high : ℕ) → (eqb n 0 || ltb high n) ≡ false → (0 < n) × (n ≤ high)
in_range n high h = (grind (arith, nat_tests), grind (arith, nat_tests))

out_of_range : (n high : ℕ) → 0 < n → n ≤ high → (eqb n 0 || ltb high n) ≡ false
out_of_range n high p q = grind (arith, nat_tests)

below : (a b : ℕ) → not (ltb a b) ≡ false → a < b
below a b h = grind (arith, nat_tests)

not_below : (a b : ℕ) → a < b → not (ltb a b) ≡ false
not_below a b p = grind (arith, nat_tests)

at_most : (a b : ℕ) → ltb a b ≡ false → b ≤ a
at_most a b h = grind (arith, nat_tests)

not_above : (a b : ℕ) → b ≤ a → ltb a b ≡ false
not_above a b p = grind (arith, nat_tests)

fits : (size wanted most bound : ℕ) → (not (eqb size wanted) || ltb most bound) ≡ false
    → (size ≡ wanted) × (bound ≤ most)
fits size wanted most bound h = (grind (arith, nat_tests), grind (arith, nat_tests))

not_unfit : (size wanted most bound : ℕ) → size ≡ wanted → bound ≤ most
    → (not (eqb size wanted) || ltb most bound) ≡ false
not_unfit size wanted most bound p q = grind (arith, nat_tests)

neither : (a b : Bool) → (a || b) ≡ false → (a ≡ false) × (b ≡ false)
neither true b h = absurd cc
neither false b h = (refl, h)

pub passes_in : (t : Format) (bytes : List ℕ) (f : Fields) → first_of (rows t bytes f) ≡ None → PassesIn t bytes f
passes_in t bytes f h =
    let r = all_false (rows t bytes f) h in
    let groups = in_range f.groups MAX_GROUPS r.1.1.0 in
    let packets = in_range f.packets t.bounds.packets r.1.1.1.1.0 in
    let count = in_range (count_of bytes) t.bounds.layers r.1.1.1.1.1.1.0 in
    let size = fits (length bytes) (frame_length_in t f.layers) MAX_DATAGRAM
    (length_over t.bounds.bare (planned t.bounds f.layers)) r.1.1.1.1.1.1.1.1.1.1.0 in
    record {
      long = at_most _ _ r.0;
      magic = same_bytes (take 4 bytes) t.mark r.1.0;
      some_groups = groups.0;
      few_groups = groups.1;
      group = below _ _ r.1.1.1.0;
      some_packets = packets.0;
      few_packets = packets.1;
      number = below _ _ r.1.1.1.1.1.0;
      some_layers = count.0;
      few_layers = count.1;
      room = at_most _ _ r.1.1.1.1.1.1.1.0;
      needs = r.1.1.1.1.1.1.1.1.0;
      lengths = at_most _ _ r.1.1.1.1.1.1.1.1.1.0;
      whole = size.0;
      narrow = size.1;
      tag = same_bytes _ _ r.1.1.1.1.1.1.1.1.1.1.1.0;
    }

-- the same of the frames that are written today
abbrev pub Passes : List ℕ → Fields → Type 0
Passes bytes f = PassesIn FORMAT bytes f

pub passes : (bytes : List ℕ) (f : Fields) → first_of (rows FORMAT bytes f) ≡ None → Passes bytes f
passes bytes f h = passes_in FORMAT bytes f h

pub not_refused : (t : Format) (bytes : List ℕ) (f : Fields) → PassesIn t bytes f → first_of (rows t bytes f) ≡ None
not_refused t bytes f p = none_holds (rows t bytes f) (
  not_above _ _ p.long,
  (
    equal_bytes (take 4 bytes) t.mark p.magic,
    (
      out_of_range f.groups MAX_GROUPS p.some_groups p.few_groups,
      (
        not_below f.group f.groups p.group,
        (
          out_of_range f.packets t.bounds.packets p.some_packets p.few_packets,
          (
            not_below f.number f.packets p.number,
            (
              out_of_range (count_of bytes) t.bounds.layers p.some_layers p.few_layers,
              (
                not_above _ _ p.room,
                (
                  p.needs,
                  (
                    not_above _ _ p.lengths,
                    (
                      not_unfit (length bytes) (frame_length_in t f.layers) MAX_DATAGRAM
                          (length_over t.bounds.bare (planned t.bounds f.layers)) p.whole p.narrow,
                      (
                        equal_bytes _ _ p.tag,
                        tt,
                      ),
                    ),
                  ),
                ),
              ),
            ),
          ),
        ),
      ),
    ),
  ),
)

none_passes : {X : Type 0} (p : X → Bool) (xs : List X) → list_any p xs ≡ false → All (λ x. p x ≡ false) xs
none_passes p [] h = All-nil (λ x. p x ≡ false)
none_passes p (x ∷ xs) h =
    let k = neither (p x) (list_any p xs) h in
    All-cons (λ x. p x ≡ false) x xs k.0 (none_passes p xs k.1)

-- no need is wrong exactly where each is in its range
pub needs_are : (packets : ℕ) (layers : List LayerSize)
    → list_any (λ (layer : LayerSize). eqb layer.need 0 || ltb packets layer.need) layers ≡ false
    → All (λ (layer : LayerSize). 0 < layer.need) layers × All (λ (layer : LayerSize). layer.need ≤ packets) layers
needs_are packets layers h =
    let each = none_passes (λ (layer : LayerSize). eqb layer.need 0 || ltb packets layer.need) layers h in
    (λ k d lt. (in_range _ packets (each k d lt)).0, λ k d lt. (in_range _ packets (each k d lt)).1)

pub no_wrong_need : (packets : ℕ) (layers : List LayerSize) → All (λ (layer : LayerSize). 0 < layer.need) layers
    → All (λ (layer : LayerSize). layer.need ≤ packets) layers
    → list_any (λ (layer : LayerSize). eqb layer.need 0 || ltb packets layer.need) layers ≡ false
no_wrong_need packets layers some few =
    list_any_none (λ (layer : LayerSize). eqb layer.need 0 || ltb packets layer.need) layers
    (λ k d lt. out_of_range _ packets (some k d lt) (few k d lt))

-- The videos of groups on end, and how long they may be.
use Rattle.std.proofs.Common.{◌≡◌, ℕ, ◌+◌, ◌*◌, ◌<◌, ◌≤◌, true, List, [], ◌∷◌, ◌++◌, length, drop, get_or, Some, All}
use Rattle.std.proofs.Common.{refl, sym, ap, subst, ◌∙◌, arith, inl, inr}
use Rattle.std.proofs.Math.ListN.{get_or-eq_default}
use Rattle.std.proofs.Math.Nat.{mul-le-mul_right}
use Rattle.std.proofs.lemmas.Bool.{cases_lt, cases_eq, and_parts, leb-true}
use Rattle.std.proofs.lemmas.List.{append-nil, length-take, length-drop, length_push, get_or_append_left, get_or_push}
use Rattle.std.proofs.lemmas.List.{get_or-map}
use Rattle.std.proofs.lemmas.List.Concat.{length-flat_map}
use Rattle.std.proofs.lemmas.List.Folds.{concat-append}
use Rattle.std.proofs.lemmas.List.FromFn.{length-range_with_len}
use Rattle.std.proofs.lemmas.List.Sums.{sum_by-le, get_or-le-sum_by}
use Rattle.std.specs.Prelude.{unwrap_or, option_map, slice_get, nat_le, sum_by}
use Rattle.std.specs.List.{concat, range_with_len}
use Rattle.pet_base.specs.declared.limits.TheConstants.{MAX_GROUPS, MAX_GROUP_BYTES}
use Rattle.field_elements.specs.Gf16.{gf16_coding}
use Rattle.packet_set.specs.Packets.{Packets}
use Rattle.layer_split.specs.Layers.{run_table_size}
use Rattle.layer_split.specs.RunTable.{has_table, are_of, named_runs, named_run, run_count, fits}
use Rattle.stripe_plan.specs.declared.layer.LayerSize.{LayerSize}
use Rattle.pet_receive.specs.Arrivals.{layers_of}
use Rattle.packet_verdicts.specs.KeptSet.{KeptSet, IsKeptSet, IsKeptGroup, open_group}
use Rattle.pet_receive.specs.ShownBytes.{groups_told}
use Rattle.reassemble.specs.Leading.{lengths_in}
use Rattle.reassemble.specs.Video.{run_bytes, start_of, group_video}
use Rattle.reassemble.proofs.Layers.{shown_in, shown_length}
use Rattle.store_text.specs.laws.ManyFrames.{group_frame, each_kept}
use Rattle.command_video.specs.StoreVideo.{AreVideos, IsGroupVideo, numbers_in}

-- ---- one group more

pub no_groups : (set : KeptSet) → AreVideos set 0 []
no_groups set =
    record { videos = []; one_each = refl; each = λ group below. absurd (omega (arith, below)); on_end = refl }

pub group_more : (set : KeptSet) (many : ℕ) (bytes video : List ℕ) → AreVideos set many bytes
    → IsGroupVideo set many video → AreVideos set (many + 1) (bytes ++ video)
group_more set many bytes video so_far is = record {
  videos = so_far.videos ++ video ∷ [];
  one_each = length_push so_far.videos video ∙ omega (arith, so_far.one_each);
  each =
      λ group below.
      elim (cases_eq group many) [
        | inl here ↦
            subst (λ k. IsGroupVideo set k (get_or (so_far.videos ++ video ∷ []) k [])) (sym here)
            (subst (IsGroupVideo set many) (sym (get_or_push so_far.videos video [] many so_far.one_each)) is)
        | inr other ↦
            (let before : group < many = omega (arith, below, other) in
            subst (IsGroupVideo set group) (sym (get_or_append_left so_far.videos (video ∷ []) [] group
            (omega (arith, before, so_far.one_each)))) (so_far.each group before))
      ];
  on_end =
      ap (λ (front : List ℕ). front ++ video) so_far.on_end
      ∙ ap (λ (last : List ℕ). concat so_far.videos ++ last) (sym (append-nil video))
      ∙ sym (concat-append so_far.videos (video ∷ []));
}

-- ---- how long the video of a group may be

-- a layer of a frame's table has at most so many bytes
layer_short : (set : KeptSet) (group : ℕ) (p : Packets) → IsKeptSet set → open_group set group ≡ Some p → (layer : ℕ)
    → layer < length (layers_of p) → get_or (lengths_in p) layer 0 ≤ MAX_GROUP_BYTES
layer_short set group p sound here layer inside =
    let table = (group_frame set.session group p (sound.groups group p here)).frame.table in
    let d : LayerSize = record { length = 0; need = 0 } in
    omega (
      arith,
      get_or-le-sum_by (λ (l : LayerSize). l.length) (layers_of p) layer d inside,
      table.few_bytes,
      get_or-map (λ (l : LayerSize). l.length) (layers_of p) layer d 0 inside,
    )

few_runs : (first lengths : List ℕ) → fits first lengths ≡ true → run_count first ≤ length first
few_runs first lengths fit =
    let parts = and_parts (has_table first) (are_of (length first) lengths (named_runs first)) fit in
    let sizes = and_parts (nat_le 4 (length first))
    (nat_le (run_table_size (run_count first)) (length first)) parts.0 in
    omega (arith, leb-true (run_table_size (run_count first)) (length first) sizes.1)

-- each run of some layers is no longer than a layer
run_short : (layers : List (List ℕ)) (first : List ℕ) (most i : ℕ)
    → ((layer : ℕ) → length (get_or layers layer []) ≤ most) → length (run_bytes layers first i) ≤ most
run_short layers first most i short =
    let run = named_run first i in
    let layer = get_or layers run.layer [] in
    omega (
      arith,
      length-take run.len (drop (start_of first i) layer),
      length-drop (start_of first i) layer,
      short run.layer,
    )

all_short : (layers : List (List ℕ)) (most : ℕ)
    → ((layer : ℕ) → layer < length layers → length (get_or layers layer []) ≤ most) → (layer : ℕ)
    → length (get_or layers layer []) ≤ most
all_short layers most short layer = elim (cases_lt layer (length layers)) [
  | inl inside ↦ short layer inside
  | inr beyond ↦ subst (λ (bytes : List ℕ). length bytes ≤ most) (sym (get_or-eq_default layers [] beyond))
      (omega arith)
]

video_within : (layers : List (List ℕ)) (lengths : List ℕ) (most : ℕ)
    → ((layer : ℕ) → layer < length layers → length (get_or layers layer []) ≤ most)
    → fits (get_or layers 0 []) lengths ≡ true
    → length (group_video layers) ≤ most * most
unfolding group_video
video_within [] lengths most short fit = omega arith
video_within (first ∷ more) lengths most short fit =
    let layers = first ∷ more in
    let all = all_short layers most short in
    let each : All (λ i. length (run_bytes layers first i) ≤ most)
    (range_with_len 0 (run_count first)) = λ k d inside. run_short layers first most _ all in
    let runs = range_with_len 0 (run_count first) in
    let few : run_count first ≤ most = omega (arith, few_runs first lengths fit, all 0) in
    let long : length (group_video layers) ≡ sum_by (λ i. length (run_bytes layers first i)) runs =
    length-flat_map (run_bytes layers first) runs in
    let sum : sum_by (λ i. length (run_bytes layers first i)) runs ≤ length runs * most =
    sum_by-le (λ i. length (run_bytes layers first i)) most runs each in
    let within : length runs * most ≤ most * most =
    mul-le-mul_right most (subst (λ (n : ℕ). n ≤ most) (sym (length-range_with_len 0 (run_count first))) few) in
    omega (arith, long, sum, within)

pub group_short : (set : KeptSet) (group : ℕ) (video : List ℕ) → IsKeptSet set → IsGroupVideo set group video
    → length video ≤ MAX_GROUP_BYTES * MAX_GROUP_BYTES
group_short set group video sound (inl none) = omega (arith, ap length none.1)
group_short set group video sound (inr is) =
    let p = is.packets in
    let a = is.assembled in
    let most : length (group_video a.layers) ≤ MAX_GROUP_BYTES * MAX_GROUP_BYTES =
    video_within a.layers (lengths_in p) MAX_GROUP_BYTES short a.fits_them in
    omega (arith, ap length a.appended, most)
  where
    short : (layer : ℕ) → layer < length is.assembled.layers
        → length (get_or is.assembled.layers layer []) ≤ MAX_GROUP_BYTES
    short layer inside =
        let a = is.assembled in
        let p = is.packets in
        let below : layer < is.many = omega (arith, inside, a.many) in
        let known = (shown_in set group layer p is.is_open (is.leading.shown layer below)).0 in
        let long = shown_length (λ a. a < 65536) gf16_coding p (numbers_in set group) layer (get_or a.layers layer [])
        (omega arith) known (a.bytes layer inside) in
        omega (arith, long, layer_short set group p sound is.is_open layer known)

-- the number of groups that a kept set tells
pub few_told : (set : KeptSet) → IsKeptSet set → groups_told set ≤ MAX_GROUPS
few_told set sound = by set.groups (each_kept set sound)
  where
    by : (es : List (ℕ × Packets)) → All (λ e. IsKeptGroup set.session e.0 e.1) es
        → unwrap_or (option_map (λ e. e.1.header.groups) (slice_get es 0)) 0 ≤ MAX_GROUPS
    by [] kept = omega arith
    by (one ∷ more) kept = (group_frame set.session one.0 one.1 (kept 0 one (omega arith))).frame.few_groups

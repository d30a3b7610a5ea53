-- Laws of the steps that all kept frames may take: what one frame more adds.
use Rattle.std.specs.Prelude.{option_map}
use Rattle.std.proofs.Common.{◌≡◌, ℕ, ◌+◌, List, [], ◌∷◌, Option, None, Some, sum_by, unwrap_or, refl, ap, ◌∙◌, arith}
use Rattle.std.specs.List.{range_with_len}
use Rattle.std.proofs.lemmas.List.Sums.{sum_by-cons, sum_by-append}
use Rattle.packet_frame.specs.Frame.{Fields, IsFrameBy}
use Rattle.packet_frame.specs.declared.frame.Header.{Header}
use Rattle.packet_set.specs.Packets.{Packets, count_in}
use Rattle.pet_interp.specs.Progressive.{step_bound}
use Rattle.packet_verdicts.specs.KeptSet.{KeptSet, IsKeptSetBy, open_group, count_kept, group_with_by, keep_by}
use Rattle.packet_receiver.specs.Arrivals.{layers_of, stripe_lengths}
use Rattle.packet_receiver.specs.UnionSteps.{steps_after}
use Rattle.packet_verdicts.specs.laws.EntryLaws.{weight, sum_insert}
use Rattle.packet_verdicts.specs.laws.LayerSetLaws.{range_more}
use Rattle.packet_verdicts.specs.laws.KeptSetLaws.{IsKeepableBy, same_header, header_with, count_with}

-- one packet more of a group
pub steps_more : (lengths : List ℕ) (n : ℕ)
    → steps_after 0 lengths (n + 1) ≡ steps_after 0 lengths n + step_bound n lengths
steps_more lengths n =
    ap (sum_by (λ r. step_bound r lengths)) (range_more n)
    ∙ sum_by-append (λ r. step_bound r lengths) (range_with_len 0 n) (n ∷ [])
    ∙ ap (λ t. steps_after 0 lengths n + t)
    (one_more (step_bound n lengths) (sum_by (λ r. step_bound r lengths) (n ∷ []))
    (sum_by-cons (λ r. step_bound r lengths) n []))
  where
    one_more : (a b : ℕ) → b ≡ a + 0 → b ≡ a
    one_more a b e = omega arith

-- what the packets of a group may take
abbrev pub group_steps : Packets → ℕ
group_steps p = steps_after 0 (stripe_lengths (layers_of p)) (count_in p)

module _ {word : ℕ} (set : KeptSet) (sound : IsKeptSetBy word set) (f : Fields) (frame : IsFrameBy word f)
    (k : IsKeepableBy word set f) where
  steps_by : (o : Option Packets) → open_group set f.group ≡ o
      → weight group_steps o ≡ steps_after 0 (stripe_lengths f.layers) (unwrap_or (option_map count_in o) 0)
  steps_by None opened = refl
  steps_by (Some p) opened =
      ap (λ (h : Header). steps_after 0 (stripe_lengths h.table.layers) (count_in p))
      (same_header set sound f frame k p opened)

  steps_with : group_steps (group_with_by word set f)
      ≡ steps_after 0 (stripe_lengths f.layers) (count_kept set f.group)
      + step_bound (count_kept set f.group) (stripe_lengths f.layers)
  steps_with =
      ap (λ (h : Header). steps_after 0 (stripe_lengths h.table.layers) (count_in (group_with_by word set f)))
      (header_with set sound f frame k)
      ∙ ap (steps_after 0 (stripe_lengths f.layers)) (count_with set sound f frame k)
      ∙ steps_more (stripe_lengths f.layers) (count_kept set f.group)

  -- one frame more takes so many steps more
  pub steps_keep : sum_by (λ (e : ℕ × Packets). group_steps e.1) (keep_by word set f).groups
      ≡ sum_by (λ (e : ℕ × Packets). group_steps e.1) set.groups
      + step_bound (count_kept set f.group) (stripe_lengths f.layers)
  unfolding keep_by
  steps_keep =
      omega (
        arith,
        sum_insert group_steps set.groups f.group (group_with_by word set f) sound.rising,
        steps_by (open_group set f.group) refl,
        steps_with,
      )

-- The video of all groups of a session of `sample`: the stream again.
use Rattle.std.proofs.Common.{◌≡◌, ℕ, zero, suc, ◌+◌, ◌-◌, ◌*◌, ◌<◌, ◌≤◌, true, List, [], ◌∷◌, ◌++◌, length, take, drop}
use Rattle.std.proofs.Common.{refl, sym, ap, ap₂, subst, ◌∙◌, arith, rules, take-add, drop-drop}
use Rattle.std.specs.List.{flat_map}
use Rattle.std.proofs.lemmas.List.{take_all}
use Rattle.pet_base.specs.declared.kind.Kind.{Kind}
use Rattle.mpeg_scan.specs.Pieces.{StandOnEnd}
use Rattle.stripe_plan.specs.declared.layer.LayerSize.{LayerSize}
use Rattle.priority_file.specs.Priority.{is_priority}
use Rattle.priority_file.specs.laws.PriorityLaws.{layer_of-within}
use Rattle.layer_split.specs.declared.cut.Run.{Run}
use Rattle.reassemble.specs.laws.MessageLayers.{video_of_message}
use Rattle.reassemble.specs.laws.RunsOnEnd.{on_end_bytes, runs_on_end}
use Rattle.reassemble.specs.laws.TableFits.{CanBeNamed}
use Rattle.reassemble.specs.laws.WholeVideo.{group_named}
use Rattle.stream_sample.specs.SampleStream.{sample_text}
use Rattle.stream_sample.specs.laws.SampleLaws.{sample_length}
use Rattle.stream_session.specs.Accepted.{group_of, session_of}
use Rattle.stream_session.specs.laws.SessionOfLaws.{accepted_lawful}
use Rattle.command_sample.specs.SamplePriority.{sample_priority}
use Rattle.command_sample.specs.SampleSession.{whole_group_video, whole_session_video}
use Rattle.command_sample.specs.laws.GroupLaws.{group_from, span}
use Rattle.command_sample.specs.laws.PieceLaws.{Shape, group_shapes, pieces_on}
use Rattle.command_sample.specs.laws.SessionLaws.{cut_from, cuts_on, groups_are, groups_with, layer_by}
use Rattle.command_sample.specs.laws.SamplePriorityLaws.{priorities_are, priority_accepted, sample_rules}

abbrev AreSome : List Shape → Type 0
AreSome [] = Unit {0}
AreSome (x ∷ xs) = (0 < x.2) × AreSome xs

stand : (from : ℕ) (xs : List Shape) → AreSome xs → StandOnEnd from (pieces_on from xs) (from + span xs)
stand from [] some = omega arith
stand from (x ∷ xs) some = (
  refl,
  some.0,
  subst (StandOnEnd (from + x.2) (pieces_on (from + x.2) xs))
      (let e : (from + x.2) + span xs ≡ from + (x.2 + span xs) = omega arith in e) (stand (from + x.2) xs some.1),
)

group_stands : (from : ℕ) → StandOnEnd from (group_from from) (from + 71961)
group_stands from = stand from group_shapes (search rules)

lawful : is_priority sample_rules ≡ true
lawful = ap is_priority (sym priorities_are) ∙ accepted_lawful sample_priority priority_accepted

within : (kind : Kind) (place : ℕ) → layer_by kind place < 3
within = layer_of-within sample_rules lawful

module _ (stream : List ℕ) where
  pub runs_named : (from : ℕ) → from + 71961 ≤ length stream → CanBeNamed stream (cut_from from).runs 3
  runs_named from inside =
      group_named stream layer_by 3 from (from + 71961) (group_from from) (omega arith) within (group_stands from) inside
      (omega arith)

  group_video : (from : ℕ) → from + 71961 ≤ length stream
      → whole_group_video (group_of sample_rules stream (cut_from from)) ≡ take 71961 (drop from stream)
  group_video from inside =
      let to : ℕ = from + 71961 in
      let runs : List Run = (cut_from from).runs in
      let layers : List LayerSize = (group_of sample_rules stream (cut_from from)).layers in
      video_of_message stream runs 3 3 layers (runs_named from inside) refl (omega arith) (omega arith)
      ∙ on_end_bytes stream from to runs (runs_on_end layer_by from to (group_from from) (group_stands from))
      ∙ ap (λ (n : ℕ). take n (drop from stream)) (let e : to - from ≡ 71961 = omega arith in e)

  all_videos : (from groups : ℕ) → from + groups * 71961 ≤ length stream
      → flat_map whole_group_video (groups_with stream (cuts_on from groups))
      ≡ take (groups * 71961) (drop from stream)
  all_videos from zero room = ap (λ (n : ℕ). take n (drop from stream)) (let e : 0 ≡ 0 * 71961 = omega arith in e)
  all_videos from (suc groups) room =
      ap₂ (λ (a b : List ℕ). a ++ b) (group_video from (omega arith)) (all_videos (from + 71961) groups (omega arith))
      ∙ ap (λ (l : List ℕ). take 71961 (drop from stream) ++ take (groups * 71961) l)
      (sym (drop-drop 71961 from stream))
      ∙ sym (take-add 71961 (groups * 71961) (drop from stream))
      ∙ ap (λ (n : ℕ). take n (drop from stream)) (let e : 71961 + groups * 71961 ≡ suc groups * 71961 = omega arith in e)

pub video_is_stream : (x groups : ℕ)
    → whole_session_video (session_of sample_priority (sample_text x (suc groups))) ≡ sample_text x (suc groups)
unfolding whole_session_video
video_is_stream x groups =
    let stream : List ℕ = sample_text x (suc groups) in
    let long = sample_length x (suc groups) in
    ap (flat_map whole_group_video) (groups_are x groups)
    ∙ all_videos stream 0 (suc groups) (omega (arith, long))
    ∙ take_all (suc groups * 71961) stream (omega (arith, long))

-- The video of a group of the session of a stream: the bytes of the stream of its runs in the layers that lead.
use Rattle.std.proofs.Common.{◌≡◌, cond, ℕ, zero, suc, ◌<◌, ◌≤◌, ◌^◌, true, false, Bool, List, [], ◌∷◌, length, get_or}
use Rattle.std.proofs.Common.{map, Some, All, refl, sym, ap, subst, ◌∙◌, arith, inl, inr}
use Rattle.std.specs.Prelude.{nat_lt, slice_get, option_map}
use Rattle.std.specs.List.{filter, flat_map, range_with_len}
use Rattle.std.proofs.lemmas.Bool.{le-ltb}
use Rattle.std.proofs.lemmas.Bool.Decides.{nat_tests}
use Rattle.std.proofs.lemmas.List.{length-map, same_lists}
use Rattle.std.proofs.lemmas.List.Elements.{All-map, All-get_or}
use Rattle.std.proofs.lemmas.List.FromFn.{length-map-range_with_len, get_or-map-range_with_len}
use Rattle.std.proofs.lemmas.Option.{slice_get-map, slice_get_within, get_or_from_slice_get}
use Rattle.pet_base.specs.declared.limits.TheConstants.{MAX_SESSION}
use Rattle.mpeg_scan.specs.declared.refusal.Scan.TheVariants.{TooLong}
use Rattle.mpeg_scan.specs.Pieces.{pieces_of}
use Rattle.mpeg_scan.specs.Refusals.{max_stream}
use Rattle.priority_file.specs.Priority.{Rule, Priorities, layer_of}
use Rattle.priority_file.specs.Refusals.{priorities_of}
use Rattle.priority_file.specs.laws.PriorityLaws.{layer_of-within}
use Rattle.stripe_plan.specs.declared.layer.LayerSize.{LayerSize}
use Rattle.layer_split.specs.declared.cut.Run.{Run}
use Rattle.layer_split.specs.Groups.{groups_of}
use Rattle.layer_split.specs.Layers.{Cut, cut_of, lengths_of, layer_length, bytes_of_run}
use Rattle.layer_split.specs.RunTable.{fits}
use Rattle.stream_groups.specs.laws.StandingLaws.{groups_stand}
use Rattle.field_elements.specs.Gf16.{gf16_coding}
use Rattle.packet_set.specs.Packets.{Packets}
use Rattle.packet_session.specs.Session.{Session, SessionGroup, IsSession, bytes_of_layer}
use Rattle.packet_verdicts.specs.KeptSet.{KeptSet, open_group}
use Rattle.packet_met.specs.Met.{Pair}
use Rattle.packet_met.specs.laws.SetOfPairs.{IsMetSet}
use Rattle.reassemble.specs.Leading.{AreShownBytes}
use Rattle.reassemble.specs.Video.{group_video}
use Rattle.reassemble.specs.laws.TableFits.{CanBeNamed}
use Rattle.reassemble.specs.laws.WholeVideo.{group_named}
use Rattle.reassemble.specs.laws.MessageLayers.{message_fits, video_of_message}
use Rattle.stream_session.specs.Accepted.{IsAcceptedSession, group_of, session_of}
use Rattle.stream_session.specs.Tables.{sizes_with, cuts_of_stream}
use Rattle.stream_session.specs.laws.SessionLaws.{layers_named}
use Rattle.stream_session.specs.laws.SessionOfLaws.{accepted_lawful, is_session}
use Rattle.command_video.specs.StoreVideo.{IsGroupVideo, HasBadTable, numbers_in}
use Rattle.command_video.specs.StreamVideo.{leading_shown, cut_video}
use Rattle.command_video.specs.laws.MetGroups.{shown_to, leading_is, none_leading, layers_are, shown_bytes_are}

-- no layer, no bytes
pub nothing_cut : (stream : List ℕ) (cut : Cut) → cut_video stream 0 cut ≡ []
nothing_cut stream cut = by cut.runs
  where
    by : (runs : List Run) → flat_map (bytes_of_run stream) (filter (λ run. nat_lt run.layer 0) runs) ≡ []
    by [] = refl
    by (r ∷ runs) =
        let rest = filter (λ (run : Run). nat_lt run.layer 0) runs in
        ap (λ (b : Bool). flat_map (bytes_of_run stream) (cond b (r ∷ rest) rest)) (le-ltb r.layer 0 (omega arith))
        ∙ by runs

lengths_with : (lengths : List ℕ) (rules : List Rule) → length lengths ≡ length rules
    → map (λ (l : LayerSize). l.length) (sizes_with lengths rules) ≡ lengths
lengths_with [] rules same = refl
lengths_with (n ∷ lengths) [] same = absurd (omega (arith, same))
lengths_with (n ∷ lengths) (rule ∷ rules) same =
    ap (λ (l : List ℕ). n ∷ l) (lengths_with lengths rules (omega (arith, same)))

short_stream : (stream : List ℕ) → nat_lt max_stream (length stream) ≡ false → length stream < 2 ^ 32
short_stream stream e = grind (arith, nat_tests)

get_or_given : (xs : List (List ℕ)) (k : ℕ) (d : List ℕ) → k < length xs → get_or xs k d ≡ get_or xs k []
get_or_given [] k d below = absurd (omega (arith, below))
get_or_given (x ∷ xs) zero d below = refl
get_or_given (x ∷ xs) (suc k) d below = get_or_given xs k d (omega (arith, below))

module _ (priority stream : List ℕ) (small : All (λ b. b < 256) stream)
    (accepted : IsAcceptedSession priority stream) where
  abbrev p : Priorities
  p = priorities_of priority

  abbrev n : ℕ
  n = length p.layers

  abbrev s : Session
  s = session_of priority stream

  -- what is known of each cut
  record IsOfStream (cut : Cut) : Type 0 where
    pub named : CanBeNamed stream cut.runs n
    pub lengths : cut.lengths ≡ lengths_of cut.runs n

  cuts_named : All IsOfStream (cuts_of_stream p stream)
  cuts_named = All-map IsOfStream (cut_of (layer_of p) n) (groups_of (pieces_of stream)) each
    where
      each : All (λ group. IsOfStream (cut_of (layer_of p) n group)) (groups_of (pieces_of stream))
      each k d lt =
          let group = get_or (groups_of (pieces_of stream)) k d in
          let stands = groups_stand stream k d lt in
          let few = (layers_named priority accepted.priority_read).few in
          let to = stands.within in
          let long = short_stream stream (accepted.stream_read TooLong) in
          record {
            named =
                group_named stream (layer_of p) n stands.from stands.to group (omega (arith, few))
                (layer_of-within p (accepted_lawful priority accepted.priority_read)) stands.stand to
                (omega (arith, to, long));
            lengths = refl;
          }

  module _ (i : ℕ) (cut : Cut) (at : slice_get (cuts_of_stream p stream) i ≡ Some cut) where
    abbrev g : SessionGroup
    g = group_of p stream cut

    of_stream : IsOfStream cut
    of_stream =
        subst IsOfStream (get_or_from_slice_get (cuts_of_stream p stream) i cut cut at)
        (All-get_or IsOfStream (cuts_of_stream p stream) i cut
        (slice_get_within (cuts_of_stream p stream) i cut at) cuts_named)

    there : slice_get s.groups i ≡ Some g
    there = slice_get-map (group_of p stream) (cuts_of_stream p stream) i ∙ ap (option_map (group_of p stream)) at

    lengths_are : map (λ (l : LayerSize). l.length) g.layers ≡ lengths_of cut.runs n
    lengths_are =
        lengths_with cut.lengths p.layers (ap (λ (l : List ℕ). length l) of_stream.lengths
        ∙ length-map-range_with_len (layer_length cut.runs) 0 n) ∙ of_stream.lengths

    as_many : length g.layers ≡ n
    as_many =
        sym (length-map g.layers (λ (l : LayerSize). l.length)) ∙ ap (λ (l : List ℕ). length l) lengths_are
        ∙ length-map-range_with_len (layer_length cut.runs) 0 n

    module _ (pairs : List Pair) (set : KeptSet) (is : IsMetSet gf16_coding s MAX_SESSION pairs set) where
      session : IsSession 2 s
      session = is_session priority stream small accepted

      -- the bytes of the leading layers by the packets, as the message has them
      layers_told : (packets : Packets) → open_group set i ≡ Some packets → (layers : List (List ℕ)) → length layers ≤ n
          → AreShownBytes (λ a. a < 65536) gf16_coding packets (numbers_in set i) layers
          → layers ≡ map (bytes_of_layer 2 g.layers g.message) (range_with_len 0 (length layers))
      layers_told packets here layers few shown =
          let f = bytes_of_layer 2 g.layers g.message in
          let many = length layers in
          same_lists layers (map f (range_with_len 0 many)) (sym (length-map-range_with_len f 0 many))
          (λ k d below.
          get_or_given layers k d below
          ∙ shown_bytes_are s pairs set session is i g there packets here k (get_or layers k [])
          (omega (arith, below, few, as_many)) (shown k below)
          ∙ sym (get_or-map-range_with_len f 0 many k k d below (omega arith)))

      -- the video of the group
      pub video_is : (video : List ℕ) → IsGroupVideo set i video
          → video ≡ cut_video stream (leading_shown pairs i g) cut
      video_is video (inl none) =
          none.1 ∙ sym (ap (λ (k : ℕ). cut_video stream k cut) (none_leading s pairs set session is i g there none.0)
          ∙ nothing_cut stream cut)
      video_is video (inr has) =
          let a = has.assembled in
          let leading = leading_is s pairs set session is i g there has.many has.shown has.leading in
          let few : has.many ≤ n = omega (arith, leading.1, as_many) in
          let told = layers_told has.packets has.is_open a.layers (omega (arith, a.many, few)) a.bytes in
          a.appended
          ∙ ap group_video told
          ∙ ap (λ (k : ℕ). group_video (map (bytes_of_layer 2 g.layers g.message) (range_with_len 0 k))) a.many
          ∙ video_of_message stream cut.runs n has.many g.layers of_stream.named lengths_are leading.0 few
          ∙ ap (λ (k : ℕ). cut_video stream k cut) (sym leading.2)

      -- and its table is not bad
      pub no_bad_table : HasBadTable set i → ⊥
      no_bad_table bad =
          let layers = layers_are s pairs set session is i g there bad.packets bad.is_open in
          let inside = (shown_to s pairs set session is i g there 0 bad.shown).0 in
          let first = shown_bytes_are s pairs set session is i g there bad.packets bad.is_open 0 bad.unfit.first inside
          bad.unfit.bytes in
          let fit = message_fits stream cut.runs n g.layers of_stream.named lengths_are
          (omega (arith, inside, as_many)) in
          no_truth (sym fit ∙ ap (λ (b : List ℕ). fits b (map (λ (l : LayerSize). l.length) g.layers)) (sym first)
          ∙ ap (λ (l : List LayerSize). fits bad.unfit.first (map (λ (x : LayerSize). x.length) l)) (sym layers)
          ∙ bad.unfit.unfit)
        where
          no_truth : true ≡ false → ⊥
          no_truth e = cc

-- The videos of all groups of the store of a session of a stream: the bytes of the stream that are shown, and no bad
-- table.
use Rattle.std.proofs.Common.{◌≡◌, ℕ, suc, ◌+◌, ◌<◌, List, [], ◌∷◌, ◌++◌, length, get_or, Some, All, refl, sym, ap}
use Rattle.std.proofs.Common.{subst, ◌∙◌, arith}
use Rattle.std.specs.Prelude.{slice_get, unwrap_or, option_map, MatchOption}
use Rattle.std.specs.List.{concat, flat_map, enumerate_from}
use Rattle.std.specs.Ordering.{nat_cmp}
use Rattle.std.specs.BTreeMap.{is_at}
use Rattle.std.specs.Map.{lookup}
use Rattle.std.proofs.lemmas.List.{length-map}
use Rattle.std.proofs.lemmas.List.Concat.{concat_is}
use Rattle.std.proofs.lemmas.Option.{slice_get-map, slice_get_within, slice_get-get_or}
use Rattle.pet_base.specs.declared.limits.TheConstants.{MAX_SESSION}
use Rattle.priority_file.specs.Priority.{Priorities}
use Rattle.priority_file.specs.Refusals.{priorities_of}
use Rattle.layer_split.specs.Layers.{Cut}
use Rattle.field_elements.specs.Gf16.{gf16_coding}
use Rattle.packet_set.specs.Packets.{Packets}
use Rattle.packet_session.specs.Session.{Session, IsSession}
use Rattle.packet_verdicts.specs.KeptSet.{KeptSet}
use Rattle.pet_receive.specs.ShownBytes.{IsShown, IsShownIn, groups_told}
use Rattle.packet_met.specs.Met.{Pair}
use Rattle.packet_met.specs.laws.CountsAreMet.{told_is}
use Rattle.packet_met.specs.laws.DatagramMore.{made}
use Rattle.packet_met.specs.laws.SetOfPairs.{IsMetSet}
use Rattle.stream_session.specs.Accepted.{IsAcceptedSession, group_of, session_of}
use Rattle.stream_session.specs.Tables.{cuts_of_stream}
use Rattle.stream_session.specs.laws.SessionOfLaws.{is_session}
use Rattle.command_video.specs.StoreVideo.{AreVideos, HasBadTable}
use Rattle.command_video.specs.StreamVideo.{cut_video, shown_video, stream_video}
use Rattle.command_video.specs.laws.MetGroups.{none_leading}
use Rattle.command_video.specs.laws.GroupOfStream.{nothing_cut, video_is, no_bad_table}

-- a video for each cut, on end
videos_joined : (F : ℕ × Cut → List ℕ) (cuts : List Cut) (videos : List (List ℕ)) (k : ℕ) → length videos ≡ length cuts
    → ((i : ℕ) (cut : Cut) → slice_get cuts i ≡ Some cut → get_or videos i [] ≡ F (k + i, cut))
    → flat_map (λ x. x) videos ≡ flat_map F (enumerate_from k cuts)
videos_joined F [] [] k many each = refl
videos_joined F [] (v ∷ videos) k many each = absurd (omega (arith, many))
videos_joined F (cut ∷ cuts) [] k many each = absurd (omega (arith, many))
videos_joined F (cut ∷ cuts) (v ∷ videos) k many each =
    ap (λ (l : List ℕ). l ++ flat_map (λ x. x) videos)
    (each 0 cut refl ∙ ap (λ (m : ℕ). F (m, cut)) (let e : k + 0 ≡ k = omega arith in e))
    ∙ ap (λ (l : List ℕ). F (k, cut) ++ l)
    (videos_joined F cuts videos (k + 1) (omega (arith, many))
    (λ i x at. each (suc i) x at ∙ ap (λ (m : ℕ). F (m, x)) (let e : k + suc i ≡ (k + 1) + i = omega arith in e)))

-- no video of any cut
none_joined : (F : ℕ × Cut → List ℕ) (cuts : List Cut) (k : ℕ)
    → ((i : ℕ) (cut : Cut) → slice_get cuts i ≡ Some cut → F (k + i, cut) ≡ [])
    → flat_map F (enumerate_from k cuts) ≡ []
none_joined F [] k each = refl
none_joined F (cut ∷ cuts) k each =
    ap (λ (l : List ℕ). l ++ flat_map F (enumerate_from (k + 1) cuts))
    (ap (λ (m : ℕ). F (m, cut)) (let e : k ≡ k + 0 = omega arith in e) ∙ each 0 cut refl)
    ∙ none_joined F cuts (k + 1)
    (λ i x at. ap (λ (m : ℕ). F (m, x)) (let e : (k + 1) + i ≡ k + suc i = omega arith in e) ∙ each (suc i) x at)

no_list : (videos : List (List ℕ)) → length videos ≡ 0 → concat videos ≡ []
no_list [] none = refl
no_list (v ∷ videos) none = absurd (omega (arith, none))

module _ (priority stream : List ℕ) (small : All (λ b. b < 256) stream) (accepted : IsAcceptedSession priority stream)
    (pairs : List Pair) (set : KeptSet)
    (is : IsMetSet gf16_coding (session_of priority stream) MAX_SESSION pairs set) where
  abbrev p : Priorities
  p = priorities_of priority

  abbrev s : Session
  s = session_of priority stream

  abbrev cuts : List Cut
  cuts = cuts_of_stream p stream

  session : IsSession 2 s
  session = is_session priority stream small accepted

  many_groups : length s.groups ≡ length cuts
  many_groups = length-map cuts (group_of p stream)

  -- as many groups as the stream has, or none
  told_some : 0 < length set.groups → groups_told set ≡ length cuts
  told_some some = told_is (made gf16_coding) s MAX_SESSION is.met set session is.follows some ∙ many_groups

  told_none : set.groups ≡ [] → groups_told set ≡ 0
  told_none none =
      ap (λ (es : List (ℕ × Packets)). unwrap_or
      (option_map (λ (e : ℕ × Packets). e.1.header.groups) (slice_get es 0)) 0) none

  -- of a store without packets nothing is shown
  nothing_shown : set.groups ≡ [] → stream_video priority stream pairs ≡ []
  nothing_shown none = none_joined (shown_video p stream pairs) cuts 0 each
    where
      not_shown : (group : ℕ) → IsShown set group 0 → ⊥
      not_shown group shown =
          subst (λ (es : List (ℕ × Packets)). MatchOption (lookup (is_at (nat_cmp group)) es) ⊥ (λ x. IsShownIn x 0))
          none shown

      each : (i : ℕ) (cut : Cut) → slice_get cuts i ≡ Some cut → shown_video p stream pairs (0 + i, cut) ≡ []
      each i cut at =
          let there : slice_get s.groups i ≡ Some (group_of p stream cut) =
          slice_get-map (group_of p stream) cuts i ∙ ap (option_map (group_of p stream)) at in
          ap (λ (m : ℕ). shown_video p stream pairs (m, cut)) (let e : 0 + i ≡ i = omega arith in e)
          ∙ ap (λ (k : ℕ). cut_video stream k cut)
          (none_leading s pairs set session is i (group_of p stream cut) there (not_shown i))
          ∙ nothing_cut stream cut

  pub videos_are : (video : List ℕ) → AreVideos set (groups_told set) video → video ≡ stream_video priority stream pairs
  videos_are video are = by set.groups refl
    where
      by : (es : List (ℕ × Packets)) → set.groups ≡ es → video ≡ stream_video priority stream pairs
      by [] none = are.on_end ∙ no_list are.videos (are.one_each ∙ told_none none) ∙ sym (nothing_shown none)
      by (e ∷ more) some =
          let told : groups_told set ≡ length cuts =
          told_some (subst (λ (es : List (ℕ × Packets)). 0 < length es) (sym some) (omega arith)) in
          are.on_end ∙ concat_is are.videos
          ∙ videos_joined (shown_video p stream pairs) cuts are.videos 0 (are.one_each ∙ told)
          (λ i cut at.
          video_is priority stream small accepted i cut at pairs set is (get_or are.videos i [])
          (are.each i (omega (arith, told, slice_get_within cuts i cut at)))
          ∙ ap (λ (m : ℕ). shown_video p stream pairs (m, cut)) (let e : i ≡ 0 + i = omega arith in e))

  pub no_table_bad : (group : ℕ) → group < groups_told set → HasBadTable set group → ⊥
  no_table_bad group inside bad = by set.groups refl
    where
      by : (es : List (ℕ × Packets)) → set.groups ≡ es → ⊥
      by [] none = absurd (omega (arith, inside, told_none none))
      by (e ∷ more) some =
          let told : groups_told set ≡ length cuts =
          told_some (subst (λ (es : List (ℕ × Packets)). 0 < length es) (sym some) (omega arith)) in
          let d : Cut = record { runs = []; lengths = [] } in
          no_bad_table priority stream small accepted group (get_or cuts group d)
          (slice_get-get_or cuts group d (omega (arith, inside, told))) pairs set is bad

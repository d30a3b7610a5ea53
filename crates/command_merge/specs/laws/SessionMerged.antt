-- Stores of one session are merged, from what each end tells.
use Rattle.std.proofs.Common.{◌≡◌, ℕ, List, [], ◌∷◌, ◌++◌, length, Option, None, Some, refl, sym, ap, ◌∙◌, inl, inr}
use Rattle.std.proofs.Common.{arith}
use Rattle.std.specs.Prelude.{option_map}
use Rattle.pet_base.specs.declared.limits.TheConstants.{MAX_SESSION}
use Rattle.pet_base.specs.Seen.{Seen, Files, Blame, HadFault, with_file}
use Rattle.pet_base.specs.laws.SeenLaws.{HadFault-since}
use Rattle.outside_files.specs.Uses.{reading, writing, Failed}
use Rattle.outside_files.specs.Wrote.{with_files}
use Rattle.packet_session.specs.Session.{Session}
use Rattle.field_elements.specs.Gf16.{gf16_coding}
use Rattle.packet_frame.specs.Frame.{Fields}
use Rattle.packet_verdicts.specs.KeptSet.{KeptSet, kept_in_all}
use Rattle.packet_verdicts.specs.laws.FramesLaws.{frames_many}
use Rattle.packet_verdicts.specs.Union.{union, absorb_fault}
use Rattle.packet_verdicts.specs.declared.union.Absorb.{Absorb}
use Rattle.packet_verdicts.specs.declared.union.Absorb.TheVariants as absorb
use Rattle.store_text.specs.Files.{store_file}
use Rattle.store_text.specs.Store.{store_text}
use Rattle.store_text.specs.declared.fault.BadStore.TheVariants.{At}
use Rattle.packet_met.specs.Gf16.{met_frames}
use Rattle.packet_met.specs.Met.{Pair}
use Rattle.packet_met.specs.MetStore.{pairs_store}
use Rattle.packet_met.specs.laws.SetOfPairs.{IsMetSet, its_frames, met_sets_fit, met_sets_join}
use Rattle.packet_met.specs.laws.StoreRead.{IsStoreOf, text_is, store_is, read_so, not_refused}
use Rattle.command_merge.specs.Merges.{HasStores, FailedInTurn, WritesUnion, union_of, Merges}
use Rattle.command_merge.specs.MergesSession.{HasStoresOf, CanMerge, MergesSession, CompletesMerge}
use Rattle.command_merge.specs.declared.command.MergeEnd.{MergeEnd}
use Rattle.command_merge.specs.declared.command.MergeEnd.TheVariants.{Done, NoMemory, PlaceFault, BadFirst, BadSecond}
use Rattle.command_merge.specs.declared.command.MergeEnd.TheVariants.{OtherSession, Clash, Full}

wider : (blame : Blame) {P : Blame → Type 0} → ((b : Blame) → b ≡ blame → P b) → (old new : Seen)
    → Failed (blame ∷ []) old new → HadFault old new P
wider blame {P} to old new f = HadFault-since old old new _ P (omega arith) to f

-- a fault of one of the files in its turn is a fault of the command's
in_turn : (first second out : List ℕ) (old new : Seen) → FailedInTurn first second out old new
    → Failed (reading first ∷ reading second ∷ writing out ∷ []) old new
in_turn first second out old new (inl f) = wider (reading first) (λ b is. inl is) old new f
in_turn first second out old new (inr (inl f)) = wider (reading second) (λ b is. inr (inl is)) old new f.1
in_turn first second out old new (inr (inr f)) = wider (writing out) (λ b is. inr (inr is)) old new f.1

none_some : {P : Type 0} (fault : Absorb) → None ≡ Some fault → P
none_some fault e = cc

module _ (s : Session) (first second out : List ℕ) (files : Files) (a b : List Pair) (old new : Seen)
    (given : HasStoresOf s first second files a b old) where
  one : (set : KeptSet) × IsStoreOf s a set
  one = store_is s a given.session given.fits

  other : (set : KeptSet) × IsStoreOf s b set
  other = store_is s b given.session given.fits

  joined : absorb_fault one.0 other.0 ≡ None
  joined = met_sets_fit gf16_coding s MAX_SESSION MAX_SESSION a b one.0 other.0 one.1.is_met other.1.is_met given.fits

  together : IsMetSet gf16_coding s MAX_SESSION (a ++ b) (union one.0 other.0)
  together =
      met_sets_join gf16_coding s MAX_SESSION MAX_SESSION a b one.0 other.0 one.1.is_met other.1.is_met given.fits

  first_so : (st : HasStores first second old) → st.a ≡ one.0
  first_so st = read_so s files old.files first a one.0 st.a given.told given.first_is one.1 st.first_is

  second_so : (st : HasStores first second old) → st.b ≡ other.0
  second_so st = read_so s files old.files second b other.0 st.b given.told given.second_is other.1 st.second_is

  union_so : (st : HasStores first second old) → union st.a st.b ≡ union one.0 other.0
  union_so st = ap (λ (x : KeptSet). union x st.b) (first_so st) ∙ ap (union one.0) (second_so st)

  joins : (st : HasStores first second old) → absorb_fault st.a st.b ≡ None
  joins st = ap (λ (x : KeptSet). absorb_fault x st.b) (first_so st) ∙ ap (absorb_fault one.0) (second_so st) ∙ joined

  not_joined : {P : Type 0} (st : HasStores first second old) (fault : Absorb) → absorb_fault st.a st.b ≡ Some fault → P
  not_joined st fault is = none_some fault (sym (joins st) ∙ is)

  -- what was written
  session_merged : (w : WritesUnion first second out old new) (n : ℕ) → n ≡ kept_in_all (union_of w.joins)
      → MergesSession s out files (a ++ b) new (Done n)
  session_merged w n is =
      let u = union one.0 other.0 in
      let text : store_text (union_of w.joins) ≡ pairs_store s (a ++ b) =
      ap store_text (union_so w.joins.stores) ∙ text_is s (a ++ b) u together in
      let many : kept_in_all (union_of w.joins) ≡ length (met_frames s (a ++ b)) =
      ap kept_in_all (union_so w.joins.stores) ∙ sym (frames_many u)
      ∙ ap (λ (l : List Fields). length l) (its_frames gf16_coding s MAX_SESSION (a ++ b) u together) in
      record {
        file =
            w.file ∙ ap
            (λ (o : Option Files). option_map (with_files (store_file out (union_of w.joins) ∷ [])) o) given.told
            ∙ ap (λ (t : List ℕ). Some (with_file out t files)) text;
        ended = ap (λ (k : ℕ). Done k) (is ∙ many);
      }

  -- by the end
  pub ends_merged : (end : MergeEnd) → CanMerge s first second out files a b old new end
      → Merges first second out old new end → MergesSession s out files (a ++ b) new end
  ends_merged (Done n) can merges = session_merged merges.0 n merges.1
  ends_merged NoMemory can merges = absurd (can.memory refl)
  ends_merged PlaceFault can merges = absurd (can.well (in_turn first second out old new merges.0))
  ends_merged (BadFirst at kind) can merges =
      not_refused s files old.files first a one.0 (At at kind) given.told given.first_is one.1 merges.0
  ends_merged (BadSecond at kind) can merges =
      not_refused s files old.files second b other.0 (At at kind) given.told given.second_is other.1 merges.1
  ends_merged OtherSession can merges = not_joined merges.0 absorb.OtherSession merges.1
  ends_merged (Clash group number) can merges = not_joined merges.0 (absorb.Clash group number) merges.1
  ends_merged (Full group) can merges = not_joined merges.0 (absorb.Full group) merges.1

-- stores of one session are merged, by what `merge` does
pub completes_merge : (first second out : List ℕ) (old new : Seen) (end : MergeEnd)
    → Merges first second out old new end → CompletesMerge first second out old new end
completes_merge first second out old new end merges = λ s files a b can. ends_merged s first second out files a b old
    new can.given end can merges

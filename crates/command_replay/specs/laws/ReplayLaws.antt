-- Laws of `replay`, for the proofs of callers: where no cause of another end holds it is done.
use Rattle.std.proofs.Common.{◌≡◌, ◌≢◌, ℕ, List, [], ◌∷◌, refl, ap, ◌∙◌, arith, inl, inr}
use Rattle.std.specs.Prelude.{Result, Ok, Err}
use Rattle.pet_base.specs.declared.event.Event.{Event}
use Rattle.pet_base.specs.Seen.{Seen}
use Rattle.pet_base.specs.laws.SeenLaws.{HadFault-since}
use Rattle.outside_files.specs.Uses.{Failed, reading}
use Rattle.stream_session.specs.Accepted.{session_of}
use Rattle.session_source.specs.declared.source.SourceFault.{SourceFault}
use Rattle.session_source.specs.declared.source.SourceFault.TheVariants as source
use Rattle.session_source.specs.laws.SourceLaws.{file_is, priority_is, stream_is, no_fault}
use Rattle.command_replay.specs.declared.command.ReplayEnd.{ReplayEnd}
use Rattle.command_replay.specs.declared.command.ReplayEnd.TheVariants.{Done, NoMemory, PlaceFault, BadPriority}
use Rattle.command_replay.specs.declared.command.ReplayEnd.TheVariants.{BadStream, BadPlan, BadScript}
use Rattle.command_replay.specs.ReplayText.{replay_text}
use Rattle.command_replay.specs.Replayed.{CanReplay, HasReplayed, ReplaysSession}
use Rattle.command_replay.specs.Replays.{HasSession, HasScript, IsFaulty, Replays, script_in, script_read}

same_ok : {A B : Type 0} (r : Result A B) (x y : A) → r ≡ Ok x → r ≡ Ok y → x ≡ y
same_ok r x y p q = cc

no_err : {A B : Type 0} (r : Result A B) (x : A) (y : B) → r ≡ Ok x → r ≡ Err y → ⊥
no_err r x y p q = cc

module _ (stream priority script : List ℕ) (old new : Seen) where
  module _ (p b t : List ℕ) (events : List Event) (end : ReplayEnd)
      (can : CanReplay stream priority script p b t events old new end) where
    priority_read : (h : HasSession old stream priority) → h.priority_bytes ≡ p
    priority_read h = priority_is old new stream priority p b can.given h.priority_bytes h.priority_file

    stream_read : (h : HasSession old stream priority) → h.stream_bytes ≡ b
    stream_read h = stream_is old new stream priority p b can.given h.stream_bytes h.stream_file

    -- what is read of the script
    read_is : (h : HasScript old stream priority script) → script_read h ≡ Ok events
    read_is h =
        ap (λ (x : List ℕ). script_in x h.session.stream_bytes h.script_bytes) (priority_read h.session)
        ∙ ap (λ (x : List ℕ). script_in p x h.script_bytes) (stream_read h.session)
        ∙ ap (script_in p b)
        (file_is old.files can.given.files script h.script_bytes t can.given.told can.script_there h.script_file)
        ∙ can.read

    text_is : (h : HasScript old stream priority script) (read : List Event) → script_read h ≡ Ok read
        → replay_text (session_of h.session.priority_bytes h.session.stream_bytes) read
        ≡ replay_text (session_of p b) events
    text_is h read e =
        ap (λ (x : List ℕ). replay_text (session_of x h.session.stream_bytes) read) (priority_read h.session)
        ∙ ap (λ (x : List ℕ). replay_text (session_of p x) read) (stream_read h.session)
        ∙ ap (replay_text (session_of p b)) (same_ok (script_read h) read events e (read_is h))

    source_well : Failed (reading stream ∷ reading priority ∷ []) old new → ⊥
    source_well had =
        can.well (HadFault-since old old new _ _ (omega arith)
        (λ b is. elim is [ inl s ↦ inl s | inr f ↦ inr (inl f) ]) had)

    script_well : Failed (reading script ∷ []) old new → ⊥
    script_well had = can.well (HadFault-since old old new _ _ (omega arith) (λ b is. inr (inr is)) had)

    none_is : (fault : SourceFault) → fault ≢ source.NoMemory → IsFaulty old new stream priority fault → ⊥
    none_is fault memory is = no_fault old new stream priority p b can.given fault memory source_well is

    done : (told : ReplayEnd) → end ≡ told → Replays old new stream priority script told
        → HasReplayed (replay_text (session_of p b) events) told
    done (Done text) same ends =
        record { made = text; ended = refl; is = ends.3 ∙ text_is ends.0 ends.1 ends.2 }
    done NoMemory same ends = absurd (can.memory same)
    done PlaceFault same ends = absurd (elim ends [
      | inl failed ↦ none_is source.Failed (λ is. cc) failed
      | inr failed ↦ script_well failed.1
    ])
    done (BadPriority fault) same ends = absurd (none_is (source.Priority fault) (λ is. cc) ends)
    done (BadStream scan) same ends = absurd (none_is (source.Stream scan) (λ is. cc) ends)
    done (BadPlan fault) same ends = absurd (none_is (source.Plan fault) (λ is. cc) ends)
    done (BadScript line) same ends = absurd (no_err (script_read ends.0) events line (read_is ends.0) ends.1)

  pub replays_session : (end : ReplayEnd) → Replays old new stream priority script end
      → ReplaysSession stream priority script old new end
  replays_session end ends p b t events can = done p b t events end can end refl ends

use Rattle.std.proofs.Common.{◌≡◌, ℕ, ◌<◌, List, All, sym, subst, ap, ◌∙◌}
use Rattle.std.proofs.lemmas.Result.{IfOk-weaker}
use Rattle.packet_session.specs.Datagrams.{AreEncoders}
use Rattle.packet_session.specs.Encoding.{Encoding}
use Rattle.packet_session.specs.Session.{Session, IsSession, Fits}
use Rattle.packet_met.specs.EncodedSession.{encoded_session}
use Rattle.packet_met.specs.laws.EncodedSessionLaws.{session_is}
use Rattle.pet_base.specs.declared.limits.TheConstants.{MAX_REPLAY_SESSION}
use Rattle.session_source.specs.declared.whole.WholeSource.{WholeSource}
use Rattle.command_replay.specs.inside.Held.{IsHeld, held_session}
use Rattle.command_replay.proofs.HeldSession.{lawful, fits}
use Rattle.command_replay.proofs.playing.world_of.Goals as goal

module _ (whole : WholeSource) (h : IsHeld whole) (bytes : List ℕ) (es : List Encoding)
    (lent : bytes ≡ whole.bytes.items) (small : All (λ b. b < 256) bytes) (are : AreEncoders (held_session whole) es) where
  is_lawful : IsSession 2 (held_session whole)
  is_lawful = lawful whole h (subst (λ (s : List ℕ). All (λ b. b < 256) s) lent small)

  encoded : encoded_session es ≡ held_session whole
  encoded = session_is (held_session whole) es is_lawful.some are

  lawful_session : IsSession 2 (encoded_session es)
  lawful_session = subst (λ (s : Session). IsSession 2 s) (sym encoded) is_lawful

  its_encoders : AreEncoders (encoded_session es) es
  its_encoders = subst (λ (s : Session). AreEncoders s es) (sym encoded) are

  session_fits : Fits (encoded_session es) MAX_REPLAY_SESSION
  session_fits = subst (λ (s : Session). Fits s MAX_REPLAY_SESSION) (sym encoded) (fits whole h)

pub new-requires-clause-session : goal.new-requires-clause-session
new-requires-clause-session c =
    lawful_session c.args.whole c.requires.held c.deref.result.now c.in_ok-encoders.encoders.items
    c.deref.ensures.value c.are_bytes.ensures c.in_ok-encoders.ensures.encoders

pub new-requires-clause-encoders : goal.new-requires-clause-encoders
new-requires-clause-encoders c =
    its_encoders c.args.whole c.requires.held c.deref.result.now c.in_ok-encoders.encoders.items
    c.deref.ensures.value c.are_bytes.ensures c.in_ok-encoders.ensures.encoders

pub new-requires-clause-fits : goal.new-requires-clause-fits
new-requires-clause-fits c =
    session_fits c.args.whole c.requires.held c.deref.result.now c.in_ok-encoders.encoders.items
    c.deref.ensures.value c.are_bytes.ensures c.in_ok-encoders.ensures.encoders

pub returns-clause-session : goal.returns-clause-session
returns-clause-session c =
    IfOk-weaker c.new.result _ _
    (λ world is.
    ap (λ (es : List Encoding). encoded_session es) is
    ∙ encoded c.args.whole c.requires.held c.deref.result.now c.in_ok-encoders.encoders.items c.deref.ensures.value
    c.are_bytes.ensures c.in_ok-encoders.ensures.encoders)
    c.new.ensures.encoders

pub returns-clause-lawful : goal.returns-clause-lawful
returns-clause-lawful c =
    IfOk-weaker c.new.result _ _
    (λ world is.
    subst (λ (es : List Encoding). IsSession 2 (encoded_session es)) (sym is)
    (lawful_session c.args.whole c.requires.held c.deref.result.now c.in_ok-encoders.encoders.items
    c.deref.ensures.value c.are_bytes.ensures c.in_ok-encoders.ensures.encoders))
    c.new.ensures.encoders

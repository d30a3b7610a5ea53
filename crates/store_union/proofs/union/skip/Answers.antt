use Rattle.std.proofs.Common.{ap, sym, refl, ◌∙◌, arith}
use Rattle.store_text.specs.declared.format.TheConstants.{STORE_FORM}
use Rattle.store_packets.specs.inside.Reading.{frame_of}
use Rattle.store_union.specs.inside.Merging.{without}
use Rattle.store_union.proofs.Passing.{first_whole, first_fine, first_later, first_frames, none_stands, without_same}
use Rattle.store_union.proofs.Passing.{without_other}
use Rattle.store_union.proofs.Putting.{next_spelled}
use Rattle.store_union.proofs.union.skip.Goals as goal

pub returns-then-at-eq0-clause-left : goal.returns-then-at-eq0-clause-left
returns-then-at-eq0-clause-left c =
    let none = none_stands c.args.at.count c.args.at.rest.now c.if-at-eq0.true in
    none ∙ ap (without (frame_of STORE_FORM c.args.next.now)) (sym none)

pub first_frame-requires : goal.first_frame-requires
first_frame-requires c = record {
  whole =
      first_whole c.args.at.count c.args.at.rest.now c.requires.place.listed (omega (arith, c.if-at-eq0.false));
  fine =
      first_fine c.args.at.count c.args.at.rest.now c.requires.place.listed (omega (arith, c.if-at-eq0.false)) _ refl;
}

pub returns-then-not-has_pair-clause-left : goal.returns-then-not-has_pair-clause-left
returns-then-not-has_pair-clause-left c =
    without_other (frame_of STORE_FORM c.args.next.now) _ _ _
    (first_frames c.args.at.count c.args.at.rest.now c.requires.place.listed (omega (arith, c.if-at-eq0.false))
    c.first_frame.result.0.now c.first_frame.ensures.datagram c.first_frame.result.1.now c.first_frame.ensures.after)
    (sym c.has_pair.ensures ∙ c.if-not-has_pair.true)

pub returns-clause-place : goal.returns-clause-place
returns-clause-place c = record {
  listed =
      first_later c.args.at.count c.args.at.rest.now c.requires.place.listed (omega (arith, c.if-at-eq0.false))
      c.first_frame.result.0.now c.first_frame.ensures.datagram c.first_frame.result.1.now c.first_frame.ensures.after;
  fine = c.first_frame.ensures.frame;
}

pub returns-clause-left : goal.returns-clause-left
returns-clause-left c =
    without_same (frame_of STORE_FORM c.args.next.now) _ _ _
    (first_frames c.args.at.count c.args.at.rest.now c.requires.place.listed (omega (arith, c.if-at-eq0.false))
    c.first_frame.result.0.now c.first_frame.ensures.datagram c.first_frame.result.1.now c.first_frame.ensures.after)
    (sym c.has_pair.ensures ∙ c.if-not-has_pair.false)

pub returns-clause-spelled : goal.returns-clause-spelled
returns-clause-spelled c spelled =
    next_spelled _ _ _ c.args.at.rest.now c.first_frame.result.1.now
    (first_frames c.args.at.count c.args.at.rest.now c.requires.place.listed (omega (arith, c.if-at-eq0.false))
    c.first_frame.result.0.now c.first_frame.ensures.datagram c.first_frame.result.1.now c.first_frame.ensures.after)
    c.first_frame.ensures.entry spelled

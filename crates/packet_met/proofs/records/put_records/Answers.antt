use Rattle.std.proofs.Common.{refl, arith, ◌∙◌}
use Rattle.pet_base.specs.laws.SeenLaws.{OnlyWrites-then}
use Rattle.pet_base.specs.laws.Through.{on_any_err}
use Rattle.outside_files.specs.laws.OutputLaws.{puts_nothing}
use Rattle.packet_met.proofs.RecordByRecord.{puts_here, part_here}
use Rattle.packet_met.proofs.records.put_records.Goals as goal

pub loop-shown-init : goal.loop-shown-init
loop-shown-init g c =
    let s = g.P.Place.seen c.args.place.now in
    record {
      puts = puts_nothing s s refl;
      others = record { rest = refl; source = refl; target = refl; has_input = refl; has_output = refl };
      later = omega arith;
      calm = refl;
      blamed = refl;
    }

pub returns-in_err-put_record-clause-part : goal.returns-in_err-put_record-clause-part
returns-in_err-put_record-clause-part g c =
    on_any_err c.from_residual.result
    (part_here c.args.arrival c.args.group c.args.layers.now c.loop-shown.shown-index _
    (g.P.Place.seen c.args.place.now) (g.P.Place.seen c.loop-shown.place) (g.P.Place.seen c.put_record.new.place)
    c.loop-shown-test.true c.loop-shown.invariant.others.target c.loop-shown.invariant.puts
    c.in_err-put_record.ensures.part)

pub loop-shown-preserved : goal.loop-shown-preserved
loop-shown-preserved g c =
    let first = g.P.Place.seen c.args.place.now in
    let before = g.P.Place.seen c.loop-shown.place in
    let after = g.P.Place.seen c.put_record.new.place in
    record {
      puts =
          puts_here c.args.arrival c.args.group c.args.layers.now c.loop-shown.shown-index _ first before after
          c.loop-shown-test.true c.loop-shown.invariant.others.target c.loop-shown.invariant.puts
          c.in_ok-put_record.ensures.files;
      others = OnlyWrites-then first before after c.loop-shown.invariant.others c.put_record.ensures.others;
      later = omega (arith, c.loop-shown.invariant.later, c.put_record.ensures.cause.later);
      calm = c.in_ok-put_record.ensures.once ∙ c.loop-shown.invariant.calm;
      blamed = c.in_ok-put_record.ensures.cause.kept ∙ c.loop-shown.invariant.blamed;
    }

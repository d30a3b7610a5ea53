use Rattle.std.proofs.Common.{◌≡◌, ◌≤◌, false}
use Rattle.packet_reading.specs.Begun.{LinkReceives}
use Rattle.outside_disk.specs.Disk.{Between, LeavesOnly}
use Rattle.outside_routes.specs.Coming.{coming, HasInput}
use Rattle.outside_routes.specs.Way.{way_of}
use Rattle.pet_base.specs.Seen.{OnlyReads}
use Rattle.pet_receive.specs.Arrivals.{kept_set}
use Rattle.pet_keep.specs.inside.SoFar.{AllStand, CameTo, StandsAfterFirst}
use Rattle.pet_keep.proofs.keeping.keep_all.Given as goal

abbrev pub invariant-loop-turn : goal.invariant-loop-turn
invariant-loop-turn g l = record {
  so_far : CameTo (kept_set l.initial.keeper.receiver) l.turn
      (coming (way_of l.from) (g.P.Place.seen l.initial.place) (g.K.Link.seen l.initial.link))
      (coming (way_of l.from) (g.P.Place.seen l.place) (g.K.Link.seen l.link)) (kept_set l.keeper.receiver);
  going : l.keeper.stopped ≡ false;
  stands : AllStand (kept_set l.keeper.receiver) (g.D.Disk.seen l.keeper.disk);
  images : Between (LeavesOnly (StandsAfterFirst (kept_set l.initial.keeper.receiver)
      (coming (way_of l.from) (g.P.Place.seen l.initial.place) (g.K.Link.seen l.initial.link))))
      (g.D.Disk.seen l.initial.keeper.disk) (g.D.Disk.seen l.keeper.disk);
  disk_later : g.D.Disk.faults l.initial.keeper.disk ≤ g.D.Disk.faults l.keeper.disk;
  input : HasInput (way_of l.from) (g.P.Place.seen l.place);
  reads : OnlyReads (g.P.Place.seen l.initial.place) (g.P.Place.seen l.place);
  receives : LinkReceives (way_of l.from) (g.K.Link.seen l.initial.link) (g.K.Link.seen l.link);
  calm_place : (g.P.Place.seen l.place).faults ≡ (g.P.Place.seen l.initial.place).faults;
  calm_link : (g.K.Link.seen l.link).faults ≡ (g.K.Link.seen l.initial.link).faults;
  place_later : (g.P.Place.seen l.initial.place).faults ≤ (g.P.Place.seen l.place).faults;
  link_later : (g.K.Link.seen l.initial.link).faults ≤ (g.K.Link.seen l.link).faults;
}

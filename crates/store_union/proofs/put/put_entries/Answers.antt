use Rattle.std.specs.Prelude.{OnOk, OnErr}
use Rattle.std.proofs.Common.{◌≡◌, ◌++◌, ◌∙◌, List, ℕ, refl, sym, ap, subst, arith}
use Rattle.pet_base.specs.laws.Through.{on_any_err}
use Rattle.outside_files.specs.Outputs.{Puts, PutsPart}
use Rattle.outside_files.specs.laws.OutputLaws.{puts_nothing}
use Rattle.store_text.specs.declared.format.TheConstants.{STORE_FORM}
use Rattle.store_text.specs.Store.{entries_in}
use Rattle.store_union.specs.inside.Merging.{left_at, frames_of, merged}
use Rattle.store_packets.proofs.Listed.{left_first, left_whole, left_fine, left_next}
use Rattle.store_text.specs.laws.PuttingLaws.{Hashes, hashes_nothing, hashes_more, puts_more, part_more, part_front}
use Rattle.store_text.specs.laws.PuttingLaws.{ends_more, calmly_nothing, calmly_then}
use Rattle.store_union.proofs.Putting.{merged_to_first, merged_to_next, merged_to_all, merged_to_end, up_to, on_ok_all}
use Rattle.store_union.proofs.put.put_entries.Given.{Over}
use Rattle.store_union.proofs.put.put_entries.Goals as goal
use Rattle.store_union.proofs.put.put_entries.Goals.{After-put_hashed}

pub loop-init : goal.loop-init
loop-init g c =
    let s = g.P.Place.seen c.args.place.now in
    record {
      place = c.begin-at.ensures.place;
      spelled = c.begin-at.ensures.rest ∙ c.requires.spelled ∙ ap (entries_in STORE_FORM) (sym c.begin-at.ensures.left);
      listed = left_first STORE_FORM c.args.theirs.now.count c.args.theirs.now.entries.now c.requires.theirs;
      walk =
          merged_to_first (frames_of c.args.mine.now) (left_at c.begin-at.result) c.args.theirs.now.count
          c.args.theirs.now.entries.now c.begin-at.ensures.left;
      puts = puts_nothing s s refl;
      hashed = hashes_nothing c.args.hasher.now;
      calmly = calmly_nothing s;
    }

pub first_frame-requires-clause-whole : goal.first_frame-requires-clause-whole
first_frame-requires-clause-whole g c =
    left_whole STORE_FORM c.args.theirs.now.count c.loop.counter c.loop.rest.now c.loop.invariant.listed
    c.loop-test.true

pub first_frame-requires-clause-fine : goal.first_frame-requires-clause-fine
first_frame-requires-clause-fine g c =
    left_fine STORE_FORM c.args.theirs.now.count c.loop.counter c.loop.rest.now c.loop.invariant.listed
    c.loop-test.true _ refl

pub put_up_to-requires-clause-entry : goal.put_up_to-requires-clause-entry
put_up_to-requires-clause-entry g c = c.before-in-loop.ensures _ c.first_frame.ensures.entry

pub returns-in_err-at-clause-part : goal.returns-in_err-at-clause-part
returns-in_err-at-clause-part g c =
    let w = c.loop.invariant.walk in
    let more = up_to w c.first_frame.ensures.datagram c.first_frame.ensures.after refl in
    let first = g.P.Place.seen c.args.place.now in
    let before = g.P.Place.seen c.loop.place in
    let now = g.P.Place.seen c.put_up_to.new.place in
    on_any_err c.from_residual.result
    (part_front (w.front ++ more) _ (merged (frames_of c.args.mine.now) (frames_of c.args.theirs.now))
    (merged_to_all w c.first_frame.ensures.datagram c.first_frame.ensures.after refl c.loop-test.true) first now
    (part_more w.front more (w.front ++ more) refl first before now c.loop.invariant.calmly.others.target
    c.loop.invariant.puts c.in_err-at.ensures.part))

pub loop-preserved : goal.loop-preserved
loop-preserved g c =
    let w = c.loop.invariant.walk in
    let next = c.first_frame.ensures in
    let more = up_to w next.datagram next.after c.in_ok-at.ensures.left in
    let first = g.P.Place.seen c.args.place.now in
    let before = g.P.Place.seen c.loop.place in
    let now = g.P.Place.seen c.put_up_to.new.place in
    record {
      place = c.in_ok-at.ensures.place;
      spelled = c.in_ok-at.ensures.spelled;
      listed =
          left_next STORE_FORM c.args.theirs.now.count c.loop.counter c.loop.rest.now c.loop.invariant.listed
          c.loop-test.true c.first_frame.result.1.now next.after;
      walk = merged_to_next w next.datagram next.after c.in_ok-at.ensures.left;
      puts =
          puts_more w.front more (w.front ++ more) refl first before now c.loop.invariant.calmly.others.target
          c.loop.invariant.puts c.in_ok-at.ensures.puts;
      hashed =
          hashes_more w.front more (w.front ++ more) refl c.args.hasher.now c.loop.hasher c.put_up_to.new.hasher
          c.loop.invariant.hashed c.in_ok-at.ensures.hashed;
      calmly =
          calmly_then first before now c.loop.invariant.calmly c.put_up_to.ensures.others c.in_ok-at.ensures.once
          c.in_ok-at.ensures.cause.kept;
    }

-- all that was merged is what was put and what is left
all : (g : Over) (c : After-put_hashed g)
    → merged (frames_of c.args.mine.now) (frames_of c.args.theirs.now) ≡ c.loop.invariant.walk.front ++ left_at c.loop.at
all g c = merged_to_end c.loop.invariant.walk (omega (arith, c.loop-test.false, c.loop.auto.counter-end))

ended : (g : Over) (c : After-put_hashed g)
    → OnOk c.put_hashed.result
    (Puts (entries_in STORE_FORM (merged (frames_of c.args.mine.now) (frames_of c.args.theirs.now)))
    (g.P.Place.seen c.args.place.now) (g.P.Place.seen c.put_hashed.new.place))
    × OnErr c.put_hashed.result
    (PutsPart (entries_in STORE_FORM (merged (frames_of c.args.mine.now) (frames_of c.args.theirs.now)))
    (g.P.Place.seen c.args.place.now) (g.P.Place.seen c.put_hashed.new.place))
ended g c =
    ends_more c.loop.invariant.walk.front (left_at c.loop.at) _ (all g c) (g.P.Place.seen c.args.place.now)
    (g.P.Place.seen c.loop.place) (g.P.Place.seen c.put_hashed.new.place) c.loop.invariant.calmly.others.target
    c.loop.invariant.puts c.put_hashed.result c.loop.at.rest.now c.loop.invariant.spelled c.put_hashed.ensures.puts
    c.put_hashed.ensures.part

pub returns-clause-puts : goal.returns-clause-puts
returns-clause-puts g c = (ended g (goal.at.returns-clause-puts g c).After-put_hashed).0

pub returns-clause-part : goal.returns-clause-part
returns-clause-part g c = (ended g (goal.at.returns-clause-part g c).After-put_hashed).1

pub returns-clause-hashed : goal.returns-clause-hashed
returns-clause-hashed g c =
    on_ok_all c.put_hashed.result
    (hashes_more c.loop.invariant.walk.front (left_at c.loop.at) _
    (all g (goal.at.returns-clause-hashed g c).After-put_hashed) c.args.hasher.now c.loop.hasher c.put_hashed.new.hasher
    c.loop.invariant.hashed
    (subst (λ (t : List ℕ). Hashes t c.loop.hasher c.put_hashed.new.hasher) c.loop.invariant.spelled
    c.put_hashed.ensures.hashed))

use Rattle.std.proofs.Common.{List, ℕ, refl, sym, subst}
use Rattle.std.specs.Prelude.{OnOk, OnErr}
use Rattle.outside_files.specs.Outputs.{Puts, PutsPart}
use Rattle.outside_files.specs.laws.OutputLaws.{puts_nothing}
use Rattle.packet_frame.specs.Frame.{Fields}
use Rattle.packet_session.specs.Datagrams.{entries_text}
use Rattle.packet_verdicts.specs.KeptSet.{open_group}
use Rattle.pet_receive.specs.Arrivals.{kept_set}
use Rattle.store_text.specs.laws.PuttingLaws.{Hashes, hashes_nothing}
use Rattle.store_merge.proofs.Putting.{none_here, some_here}
use Rattle.store_merge.proofs.Tagged.{told_tag}
use Rattle.store_merge.proofs.put.put_if_kept.Goals as goal

pub put_entry-requires-clause-tag : goal.put_entry-requires-clause-tag
put_entry-requires-clause-tag g c =
    told_tag (open_group (kept_set c.args.receiver.now) c.args.group) c.args.header.now c.args.number
    c.in-Some.payload.now c.tag-tag.result c.requires.header c.in-Some.ensures c.tag-tag.ensures

pub returns-in-None-clause-puts : goal.returns-in-None-clause-puts
returns-in-None-clause-puts g c p opened =
    let s = g.P.Place.seen c.args.place.now in
    subst (λ (fs : List Fields). Puts (entries_text fs) s s)
    (sym (none_here (open_group (kept_set c.args.receiver.now) c.args.group) p c.args.number opened c.in-None.ensures))
    (puts_nothing s s refl)

pub returns-in-None-clause-hashed : goal.returns-in-None-clause-hashed
returns-in-None-clause-hashed g c p opened =
    subst (λ (fs : List Fields). Hashes (entries_text fs) c.args.hasher.now c.args.hasher.now)
    (sym (none_here (open_group (kept_set c.args.receiver.now) c.args.group) p c.args.number opened c.in-None.ensures))
    (hashes_nothing c.args.hasher.now)

pub returns-in-Some-clause-puts : goal.returns-in-Some-clause-puts
returns-in-Some-clause-puts g c p opened =
    let old = g.P.Place.seen c.args.place.now in
    let new = g.P.Place.seen c.put_entry.new.place in
    subst (λ (t : List ℕ). OnOk c.put_entry.result (Puts t old new))
    (sym (some_here (open_group (kept_set c.args.receiver.now) c.args.group) p c.args.number opened
    c.args.header.now c.in-Some.payload.now c.requires.header c.in-Some.ensures)) c.put_entry.ensures.puts

pub returns-in-Some-clause-part : goal.returns-in-Some-clause-part
returns-in-Some-clause-part g c p opened =
    let old = g.P.Place.seen c.args.place.now in
    let new = g.P.Place.seen c.put_entry.new.place in
    subst (λ (t : List ℕ). OnErr c.put_entry.result (PutsPart t old new))
    (sym (some_here (open_group (kept_set c.args.receiver.now) c.args.group) p c.args.number opened
    c.args.header.now c.in-Some.payload.now c.requires.header c.in-Some.ensures)) c.put_entry.ensures.part

pub returns-in-Some-clause-hashed : goal.returns-in-Some-clause-hashed
returns-in-Some-clause-hashed g c p opened =
    subst (λ (t : List ℕ). OnOk c.put_entry.result (Hashes t c.args.hasher.now c.put_entry.new.hasher))
    (sym (some_here (open_group (kept_set c.args.receiver.now) c.args.group) p c.args.number opened
    c.args.header.now c.in-Some.payload.now c.requires.header c.in-Some.ensures)) c.put_entry.ensures.hashed

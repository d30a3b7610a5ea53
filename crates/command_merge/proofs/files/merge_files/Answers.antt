use Rattle.std.proofs.Common.{◌≡◌, Ok, [], ◌∷◌, refl, arith, rules, ◌∙◌}
use Rattle.pet_base.specs.laws.SeenLaws.{HadFault-err}
use Rattle.pet_base.specs.laws.Through.{at_ok}
use Rattle.outside_files.specs.Uses.{writing, IsOneOf}
use Rattle.packet_verdicts.specs.KeptSet.{KeptSet}
use Rattle.store_text.specs.Files.{HasStore, store_in}
use Rattle.store_packets.specs.Packets.{HasPackets}
use Rattle.store_merge.specs.laws.StoreFiles.{store_of_file}
use Rattle.command_merge.proofs.Causes.{end_is, unread_is, stores_of, joins_of, not_joined, not_written, written}
use Rattle.command_merge.proofs.Causes.{of_two}
use Rattle.command_merge.proofs.Causes.{Refuses, first_refused, second_refused, second_failed}
use Rattle.command_merge.specs.Merges.{CanJoin, Merges}
use Rattle.command_merge.specs.declared.files.Which.TheVariants.{First, Second}
use Rattle.command_merge.proofs.files.merge_files.Goals as goal

pub returns-in_err-mine-clause-cause : goal.returns-in_err-mine-clause-cause
returns-in_err-mine-clause-cause g c =
    let old = g.P.Place.seen c.args.place.now in
    let new = g.P.Place.seen c.read_file.new.place in
    unread_is (Merges c.args.first.now c.args.second.now c.args.out.now old new) (Refuses c.as_slice.result.now) _ First
    c.packets_of-read.result c.map_err.result c.in_err-mine.field-0.0 c.from_residual-in_err-mine.result
    (λ s e is. search rules) c.map_err.ensures.cases c.in_err-mine.was c.from_residual-in_err-mine.ensures.1
    (first_refused c.args.first.now c.args.second.now c.args.out.now old new c.as_slice.result.now
    c.in_ok-bytes.bytes.items c.read_file.ensures.others.files c.as_slice.ensures.value c.in_ok-bytes.ensures.read)
    c.packets_of-read.ensures.refused

pub returns-in_err-bytes-2-clause-cause : goal.returns-in_err-bytes-2-clause-cause
returns-in_err-bytes-2-clause-cause g c =
    let old = g.P.Place.seen c.args.place.now in
    let mid = g.P.Place.seen c.read_file.new.place in
    let new = g.P.Place.seen c.read_file-2.new.place in
    let mine = at_ok (λ p. (set : KeptSet) × (store_in c.as_slice.result.now ≡ Ok set) × HasPackets p set) _ _ _ _ _
    c.map_err.ensures.cases c.in_ok-mine.was refl c.packets_of-read.ensures.read in
    let first : HasStore old.files c.args.first.now mine.0 =
    store_of_file old.files c.args.first.now c.as_slice.result.now c.in_ok-bytes.bytes.items (Ok mine.0)
    c.as_slice.ensures.value c.in_ok-bytes.ensures.read mine.1 in
    end_is (Merges c.args.first.now c.args.second.now c.args.out.now old new) c.from_residual-in_err-bytes-2.result _
    c.from_residual-in_err-bytes-2.ensures.1
    (second_failed c.args.first.now c.args.second.now c.args.out.now old mid new mine.0 first
    c.read_file.ensures.others.files c.read_file.ensures.later c.read_file-2.ensures.others.files
    c.in_err-bytes-2.field-0.0 c.in_err-bytes-2.ensures.cause)

pub returns-in_err-theirs-clause-cause : goal.returns-in_err-theirs-clause-cause
returns-in_err-theirs-clause-cause g c =
    let old = g.P.Place.seen c.args.place.now in
    let mid = g.P.Place.seen c.read_file.new.place in
    let new = g.P.Place.seen c.read_file-2.new.place in
    let mine = at_ok (λ p. (set : KeptSet) × (store_in c.as_slice.result.now ≡ Ok set) × HasPackets p set) _ _ _ _ _
    c.map_err.ensures.cases c.in_ok-mine.was refl c.packets_of-read.ensures.read in
    let first : HasStore old.files c.args.first.now mine.0 =
    store_of_file old.files c.args.first.now c.as_slice.result.now c.in_ok-bytes.bytes.items (Ok mine.0)
    c.as_slice.ensures.value c.in_ok-bytes.ensures.read mine.1 in
    unread_is (Merges c.args.first.now c.args.second.now c.args.out.now old new) (Refuses c.as_slice-2.result.now) _
    Second c.packets_of-read-2.result c.map_err-2.result c.in_err-theirs.field-0.0
    c.from_residual-in_err-theirs.result (λ s e is. search rules) c.map_err-2.ensures.cases c.in_err-theirs.was
    c.from_residual-in_err-theirs.ensures.1
    (second_refused c.args.first.now c.args.second.now c.args.out.now old mid new mine.0 first
    c.read_file.ensures.others.files c.read_file.ensures.later c.read_file-2.ensures.others.files
    c.as_slice-2.result.now c.in_ok-bytes-2.bytes.items c.as_slice-2.ensures.value c.in_ok-bytes-2.ensures.read)
    c.packets_of-read-2.ensures.refused

pub returns-in_err-count-clause-cause : goal.returns-in_err-count-clause-cause
returns-in_err-count-clause-cause g c =
    let old = g.P.Place.seen c.args.place.now in
    let mid = g.P.Place.seen c.read_file.new.place in
    let new = g.P.Place.seen c.read_file-2.new.place in
    let before = c.read_file.ensures.others.files in
    let mine = at_ok (λ p. (set : KeptSet) × (store_in c.as_slice.result.now ≡ Ok set) × HasPackets p set) _ _ _ _ _
    c.map_err.ensures.cases c.in_ok-mine.was refl c.packets_of-read.ensures.read in
    let first : HasStore old.files c.args.first.now mine.0 =
    store_of_file old.files c.args.first.now c.as_slice.result.now c.in_ok-bytes.bytes.items (Ok mine.0)
    c.as_slice.ensures.value c.in_ok-bytes.ensures.read mine.1 in
    let theirs = at_ok (λ p. (set : KeptSet) × (store_in c.as_slice-2.result.now ≡ Ok set) × HasPackets p set) _ _ _ _ _
    c.map_err-2.ensures.cases c.in_ok-theirs.was refl c.packets_of-read-2.ensures.read in
    let second : HasStore mid.files c.args.second.now theirs.0 =
    store_of_file mid.files c.args.second.now c.as_slice-2.result.now c.in_ok-bytes-2.bytes.items (Ok theirs.0)
    c.as_slice-2.ensures.value c.in_ok-bytes-2.ensures.read theirs.1 in
    end_is (Merges c.args.first.now c.args.second.now c.args.out.now old new) c.from_residual-in_err-count.result _
    c.from_residual-in_err-count.ensures.1
    (not_joined c.args.first.now c.args.second.now c.args.out.now old new
    (stores_of c.args.first.now c.args.second.now old mid.files mine.0 theirs.0 first before second)
    c.in_err-count.field-0.0 (c.read_file-2.ensures.others.files ∙ before)
    (λ some. c.in_err-count.ensures.refused mine.0 theirs.0 mine.2 theirs.2))

pub returns-in_err-write_union_file-clause-cause : goal.returns-in_err-write_union_file-clause-cause
returns-in_err-write_union_file-clause-cause g c =
    let old = g.P.Place.seen c.args.place.now in
    let mid = g.P.Place.seen c.read_file.new.place in
    let last = g.P.Place.seen c.read_file-2.new.place in
    let new = g.P.Place.seen c.write_union_file.new.place in
    let before = c.read_file.ensures.others.files in
    let mine = at_ok (λ p. (set : KeptSet) × (store_in c.as_slice.result.now ≡ Ok set) × HasPackets p set) _ _ _ _ _
    c.map_err.ensures.cases c.in_ok-mine.was refl c.packets_of-read.ensures.read in
    let first : HasStore old.files c.args.first.now mine.0 =
    store_of_file old.files c.args.first.now c.as_slice.result.now c.in_ok-bytes.bytes.items (Ok mine.0)
    c.as_slice.ensures.value c.in_ok-bytes.ensures.read mine.1 in
    let theirs = at_ok (λ p. (set : KeptSet) × (store_in c.as_slice-2.result.now ≡ Ok set) × HasPackets p set) _ _ _ _ _
    c.map_err-2.ensures.cases c.in_ok-theirs.was refl c.packets_of-read-2.ensures.read in
    let second : HasStore mid.files c.args.second.now theirs.0 =
    store_of_file mid.files c.args.second.now c.as_slice-2.result.now c.in_ok-bytes-2.bytes.items (Ok theirs.0)
    c.as_slice-2.ensures.value c.in_ok-bytes-2.ensures.read theirs.1 in
    let fits = c.in_ok-count.ensures.joined mine.0 theirs.0 mine.2 theirs.2 in
    let joins : CanJoin c.args.first.now c.args.second.now old =
    joins_of c.args.first.now c.args.second.now old mid.files mine.0 theirs.0 first before second fits.0 in
    end_is (Merges c.args.first.now c.args.second.now c.args.out.now old new)
    c.from_residual-in_err-write_union_file.result _ c.from_residual-in_err-write_union_file.ensures.1
    (not_written c.args.first.now c.args.second.now c.args.out.now old last new joins
    (c.read_file-2.ensures.others.files ∙ before)
    (omega (arith, c.read_file.ensures.later, c.read_file-2.ensures.later))
    (of_two c.args.out.now c.in_ok-mine.mine c.in_ok-theirs.theirs last new mine.0 theirs.0
    (record { mine_is = mine.2; theirs_is = theirs.2; fits = fits.0 }) c.in_err-write_union_file.ensures.front)
    (HadFault-err last new c.in_err-write_union_file.field-0.0 (IsOneOf (writing c.args.out.now ∷ []))
    c.in_err-write_union_file.ensures.cause))

pub returns-clause-done : goal.returns-clause-done
returns-clause-done g c =
    let old = g.P.Place.seen c.args.place.now in
    let mid = g.P.Place.seen c.read_file.new.place in
    let before = c.read_file.ensures.others.files in
    let mine = at_ok (λ p. (set : KeptSet) × (store_in c.as_slice.result.now ≡ Ok set) × HasPackets p set) _ _ _ _ _
    c.map_err.ensures.cases c.in_ok-mine.was refl c.packets_of-read.ensures.read in
    let first : HasStore old.files c.args.first.now mine.0 =
    store_of_file old.files c.args.first.now c.as_slice.result.now c.in_ok-bytes.bytes.items (Ok mine.0)
    c.as_slice.ensures.value c.in_ok-bytes.ensures.read mine.1 in
    let theirs = at_ok (λ p. (set : KeptSet) × (store_in c.as_slice-2.result.now ≡ Ok set) × HasPackets p set) _ _ _ _ _
    c.map_err-2.ensures.cases c.in_ok-theirs.was refl c.packets_of-read-2.ensures.read in
    let second : HasStore mid.files c.args.second.now theirs.0 =
    store_of_file mid.files c.args.second.now c.as_slice-2.result.now c.in_ok-bytes-2.bytes.items (Ok theirs.0)
    c.as_slice-2.ensures.value c.in_ok-bytes-2.ensures.read theirs.1 in
    let fits = c.in_ok-count.ensures.joined mine.0 theirs.0 mine.2 theirs.2 in
    let joins : CanJoin c.args.first.now c.args.second.now old =
    joins_of c.args.first.now c.args.second.now old mid.files mine.0 theirs.0 first before second fits.0 in
    written c.args.first.now c.args.second.now c.args.out.now old (g.P.Place.seen c.read_file-2.new.place)
    (g.P.Place.seen c.write_union_file.new.place) joins (c.read_file-2.ensures.others.files ∙ before)
    c.in_ok-count.count fits.1
    (c.in_ok-write_union_file.ensures.written mine.0 theirs.0
    (record { mine_is = mine.2; theirs_is = theirs.2; fits = fits.0 }))

use Rattle.std.proofs.Common.{◌≡◌, ℕ, List, [], ◌∷◌, ◌++◌, Ok, ap, ◌∙◌}
use Rattle.pet_base.specs.laws.SeenLaws.{HadFault-err}
use Rattle.outside_files.specs.Uses.{writing, IsOneOf}
use Rattle.packet_verdicts.specs.KeptSet.{KeptSet}
use Rattle.store_text.specs.Store.{store_text}
use Rattle.command_migrate.specs.Migrates.{Migrates}
use Rattle.command_migrate.specs.laws.OldStoreLaws.{file_is}
use Rattle.command_migrate.proofs.Causes.{end_is, refused, not_written, written}
use Rattle.command_migrate.proofs.files.migrate_file.Goals as goal

pub returns-in_err-packets-clause-cause : goal.returns-in_err-packets-clause-cause
returns-in_err-packets-clause-cause g c =
    let old = g.P.Place.seen c.args.place.now in
    let new = g.P.Place.seen c.read_file.new.place in
    end_is (Migrates c.args.store.now c.args.out.now old new) c.from_residual-in_err-packets.result _
    c.from_residual-in_err-packets.ensures.1
    (refused c.args.store.now c.args.out.now old new c.as_slice.result.now c.in_ok-bytes.bytes.items
    c.in_err-packets.field-0.0 c.read_file.ensures.others.files c.as_slice.ensures.value c.in_ok-bytes.ensures.read
    c.in_err-packets.ensures.refused)

-- the text that was lent is the store's
text_is : (set : KeptSet) {lent made begun : List ℕ} → lent ≡ made → made ≡ begun ++ store_text set → begun ≡ []
    → lent ≡ store_text set
text_is set same made_is none = same ∙ made_is ∙ ap (λ (l : List ℕ). l ++ store_text set) none

pub returns-in_err-put_file-clause-cause : goal.returns-in_err-put_file-clause-cause
returns-in_err-put_file-clause-cause g c =
    let old = g.P.Place.seen c.args.place.now in
    let mid = g.P.Place.seen c.read_file.new.place in
    let new = g.P.Place.seen c.put_file.new.place in
    let came = c.in_ok-packets.ensures.migrated in
    end_is (Migrates c.args.store.now c.args.out.now old new) c.from_residual-in_err-put_file.result _
    c.from_residual-in_err-put_file.ensures.1
    (not_written c.args.store.now c.args.out.now old mid new came.0 c.as_slice-2.result.now
    (text_is came.0 c.as_slice-2.ensures.value came.3 c.new-text.ensures.items)
    (file_is old.files c.args.store.now c.as_slice.result.now c.in_ok-bytes.bytes.items (Ok came.0)
    c.as_slice.ensures.value c.in_ok-bytes.ensures.read came.1) c.read_file.ensures.others.files
    c.read_file.ensures.later c.in_err-put_file.ensures.front
    (HadFault-err mid new c.in_err-put_file.field-0.0 (IsOneOf (writing c.args.out.now ∷ []))
    c.in_err-put_file.ensures.cause))

pub returns-clause-done : goal.returns-clause-done
returns-clause-done g c =
    let came = c.in_ok-packets.ensures.migrated in
    written c.args.store.now c.args.out.now (g.P.Place.seen c.args.place.now) (g.P.Place.seen c.read_file.new.place)
    (g.P.Place.seen c.put_file.new.place) came.0 c.as_slice-2.result.now
    (text_is came.0 c.as_slice-2.ensures.value came.3 c.new-text.ensures.items)
    (file_is (g.P.Place.seen c.args.place.now).files c.args.store.now c.as_slice.result.now
    c.in_ok-bytes.bytes.items (Ok came.0) c.as_slice.ensures.value c.in_ok-bytes.ensures.read came.1)
    c.read_file.ensures.others.files c.in_ok-packets.packets came.2 c.in_ok-put_file.ensures.written

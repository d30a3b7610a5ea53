use Rattle.std.proofs.Common.{Err, sym, ap, ◌∙◌}
use Rattle.std.proofs.lemmas.Result.{IfOk-weaker, IfErr-weaker}
use Rattle.store_packets.specs.declared.fault.MigrateFault.{MigrateFault}
use Rattle.command_migrate.specs.laws.OldStoreLaws.{short_file, long_file}
use Rattle.command_migrate.proofs.files.migrate_bytes.Goals as goal

pub returns-then-bytes-le-MAX_STORE-clause-migrated : goal.returns-then-bytes-le-MAX_STORE-clause-migrated
returns-then-bytes-le-MAX_STORE-clause-migrated c =
    IfOk-weaker c.migrate_store.result _ _
    (λ n m. (m.0, short_file c.args.bytes.now c.if-bytes-le-MAX_STORE.true ∙ m.1, m.3, m.2))
    c.migrate_store.ensures.migrated

pub returns-then-bytes-le-MAX_STORE-clause-refused : goal.returns-then-bytes-le-MAX_STORE-clause-refused
returns-then-bytes-le-MAX_STORE-clause-refused c =
    IfErr-weaker c.migrate_store.result _ _
    (λ fault is some. short_file c.args.bytes.now c.if-bytes-le-MAX_STORE.true ∙ is some)
    c.migrate_store.ensures.refused

pub returns-clause-refused : goal.returns-clause-refused
returns-clause-refused c some =
    long_file c.args.bytes.now c.if-bytes-le-MAX_STORE.false
    ∙ ap (λ (f : MigrateFault). Err f) (sym c.fault_of_long.ensures)

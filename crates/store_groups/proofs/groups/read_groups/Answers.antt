use Rattle.std.proofs.Common.{◌<◌, arith}
use Rattle.std.proofs.lemmas.List.Elements.{All-from_get_or}
use Rattle.store_groups.proofs.KeptPackets.{of_file}
use Rattle.store_groups.proofs.groups.read_groups.Goals as goal

pub returns-clause-packets : goal.returns-clause-packets
returns-clause-packets c =
    let ok = c.in_ok-packets.ensures in
    let bytes = c.args.bytes.now in (
      ok.read.0,
      ok.read.1,
      of_file bytes _ ok.read.0 (All-from_get_or (λ byte. byte < 256) bytes 0 (λ i l. omega (arith, c.type_inv.bytes i)))
          ok.read.1 ok.session ok.count ok.entries,
    )

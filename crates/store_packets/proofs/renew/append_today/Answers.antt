use Rattle.std.proofs.Common.{rules, sym}
use Rattle.store_text.specs.declared.format.TheConstants.{OLD_STORE_FORM}
use Rattle.store_packets.specs.inside.Listed.{frames_at}
use Rattle.store_packets.proofs.Listed.{frames_many}
use Rattle.store_packets.proofs.OldFrames.{stored}
use Rattle.store_packets.proofs.renew.append_today.Goals as goal

pub returns-clause-text : goal.returns-clause-text
returns-clause-text c =
    let p = c.args.packets.now in
    stored p.session (frames_at OLD_STORE_FORM p.count p.entries.now) p.count c.len-start.result c.args.into.now.items
    c.append_head.new.into.items c.append_entries.new.into.items c.append_tag.new.into.items c.append_tag.result
    (sym (frames_many OLD_STORE_FORM p.count p.entries.now))
    (search rules) c.in_ok-append_head.ensures.text c.in_ok-append_entries.ensures.text c.append_tag.ensures.text

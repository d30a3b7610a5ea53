use Rattle.std.proofs.Common.{rules, ◌≡◌, ◌∙◌, ◌++◌, ap, sym, List, ℕ}
use Rattle.std.specs.Int.{w32, to_be_bytes}
use Rattle.pet_receive.specs.Arrivals.{kept_set}
use Rattle.packet_verdicts.specs.Union.{frames_in}
use Rattle.packet_verdicts.specs.laws.FramesLaws.{frames_many}
use Rattle.store_merge.proofs.Appended.{stored}
use Rattle.store_text.specs.declared.format.TheConstants.{MARK}
use Rattle.store_merge.proofs.write.append_parts.Goals as goal

pub returns-clause-text : goal.returns-clause-text
returns-clause-text g c =
    let set = kept_set c.args.receiver.now in
    let head : c.append_head.new.into.items
    ≡ c.args.into.now.items ++ (MARK ++ set.session ++ to_be_bytes w32 c.kept.result) =
    c.in_ok-append_head.ensures.text
    ∙ ap (λ (s : List ℕ). c.args.into.now.items ++ (MARK ++ s ++ to_be_bytes w32 c.kept.result)) c.session.ensures in
    stored set.session (frames_in set) c.kept.result c.len-start.result c.args.into.now.items
    c.append_head.new.into.items c.append_groups.new.into.items c.append_tag.new.into.items c.append_tag.result
    (c.kept.ensures ∙ sym (frames_many set))
    (search rules) head c.in_ok-append_groups.ensures.text c.append_tag.ensures.text

use Rattle.std.proofs.Common.{◌≡◌, ◌<◌, ◌++◌, ◌∙◌, ℕ, Bool, true, false, length, ap, arith}
use Rattle.std.specs.Prelude.{if◌then◌else◌}
use Rattle.layer_split.specs.Layers.{message_by}
use Rattle.stream_groups.specs.CutGroups.{CutGroup}
use Rattle.command_send.proofs.sent_group.message_of.Goals as goal

-- a word has a byte
some_bytes : (n : ℕ) (doubled : Bool) → n ≡ (if doubled then 1 else 2) → 0 < n
some_bytes n true e = omega (arith, e)
some_bytes n false e = omega (arith, e)

pub message_by-requires-clause-word : goal.message_by-requires-clause-word
message_by-requires-clause-word c =
    some_bytes c.args.format.now.word c.args.format.now.bounds.doubled c.requires.format.word

pub returns : goal.returns
returns c =
    let word = c.args.format.now.word in
    let runs = c.group.inside.cut.runs in
    let n = length c.group.inside.cut.lengths in
    c.in_ok-message_by.ensures.ok
    ∙ ap (λ l. l ++ message_by word c.deref.result.now runs n) c.in_ok-bytes.ensures.items
    ∙ ap (λ b. message_by word b runs n) c.deref.ensures.value
    ∙ ap (λ (x : CutGroup). message_by word x.bytes x.cut.runs (length x.cut.lengths)) c.group.view_is

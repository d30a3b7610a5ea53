-- The layers so far, and one more.
use Rattle.std.proofs.Common.{◌++◌, ◌∙◌, sym, ap, append_assoc}
use Rattle.layer_split.specs.Layers.{layer_bytes, padded_by, message_by}
use Rattle.layer_split.proofs.Beginning.{begins_after, length_at, message_more}
use Rattle.layer_split.proofs.bytes.append_layers.Goals as goal

pub append_padded-requires-clause-len : goal.append_padded-requires-clause-len
append_padded-requires-clause-len c =
    length_at c.args.runs.now c.args.lengths.now c.loop-layer.layer c.requires.lengths c.loop-layer-test.true

pub returns-in_err-append_padded-clause-begins : goal.returns-in_err-append_padded-clause-begins
returns-in_err-append_padded-clause-begins c =
    begins_after c.args.into.now.items c.loop-layer.into.items c.append_padded.new.into.items
    (message_by c.args.word c.args.stream.now c.args.runs.now c.loop-layer.layer) c.loop-layer.invariant c.append_padded.ensures.begins

pub loop-layer-preserved : goal.loop-layer-preserved
loop-layer-preserved c =
    let so_far = message_by c.args.word c.args.stream.now c.args.runs.now c.loop-layer.layer in
    let more = padded_by c.args.word (layer_bytes c.args.stream.now c.args.runs.now c.loop-layer.layer) in
    c.in_ok-append_padded.ensures.ok
    ∙ (ap (λ l. l ++ more) c.loop-layer.invariant
    ∙ (append_assoc c.args.into.now.items so_far more
    ∙ ap (λ l. c.args.into.now.items ++ l) (sym (message_more c.args.word c.args.stream.now c.args.runs.now c.loop-layer.layer))))

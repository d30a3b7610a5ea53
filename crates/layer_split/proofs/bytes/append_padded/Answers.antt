-- The layer's bytes, and a byte 0 behind an odd end.
use Rattle.std.proofs.Common.{◌++◌, ◌∷◌, [], ◌∙◌, sym, ap, append_assoc}
use Rattle.layer_split.specs.Layers.{layer_bytes}
use Rattle.layer_split.proofs.Beginning.{layer_size, padded_odd, padded_even}
use Rattle.layer_split.proofs.bytes.append_padded.Goals as goal

pub returns-in_ok-push-clause-ok : goal.returns-in_ok-push-clause-ok
returns-in_ok-push-clause-ok c =
    let bytes = layer_bytes c.args.stream.now c.args.runs.now c.args.layer in
    c.in_ok-push.ensures.items
    ∙ (ap (λ l. l ++ 0 ∷ []) c.in_ok-append_layer.ensures.ok
    ∙ (append_assoc c.args.into.now.items bytes (0 ∷ [])
    ∙ ap (λ l. c.args.into.now.items ++ l) (sym
    (padded_odd c.args.word bytes c.args.len (c.requires.len
    ∙ sym (layer_size c.args.stream.now c.args.runs.now c.args.layer c.requires.inside)) c.if-len-word-eq1.true))))

pub returns-else-len-word-eq1-clause-ok : goal.returns-else-len-word-eq1-clause-ok
returns-else-len-word-eq1-clause-ok c =
    let bytes = layer_bytes c.args.stream.now c.args.runs.now c.args.layer in
    c.in_ok-append_layer.ensures.ok
    ∙ ap (λ l. c.args.into.now.items ++ l) (sym
    (padded_even c.args.word bytes c.args.len (c.requires.len
    ∙ sym (layer_size c.args.stream.now c.args.runs.now c.args.layer c.requires.inside)) c.if-len-word-eq1.false))

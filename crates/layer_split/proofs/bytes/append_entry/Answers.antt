-- The layer, and behind it the length.
use Rattle.std.proofs.Common.{◌++◌, ◌∷◌, [], ap, ◌∙◌, append_assoc}
use Rattle.layer_split.proofs.Beginning.{begins_more}
use Rattle.layer_split.proofs.bytes.append_entry.Goals as goal

pub returns-in_err-extend_from_slice-clause-begins : goal.returns-in_err-extend_from_slice-clause-begins
returns-in_err-extend_from_slice-clause-begins c =
    begins_more c.args.into.now.items c.extend_from_slice.new.self.items (c.args.run.layer ∷ [])
    (c.in_err-extend_from_slice.ensures.items ∙ c.in_ok-push.ensures.items)

pub returns-clause-ok : goal.returns-clause-ok
returns-clause-ok c =
    let into = c.args.into.now.items in
    c.in_ok-extend_from_slice.ensures.items
    ∙ (ap (λ l. l ++ c.to_be_bytes.result) c.in_ok-push.ensures.items
    ∙ (append_assoc into (c.args.run.layer ∷ []) c.to_be_bytes.result
    ∙ ap (λ l. into ++ c.args.run.layer ∷ l) c.to_be_bytes.ensures))

pub returns-clause-begins : goal.returns-clause-begins
returns-clause-begins c =
    let into = c.args.into.now.items in
    begins_more into c.extend_from_slice.new.self.items (c.args.run.layer ∷ c.to_be_bytes.result)
    (c.in_ok-extend_from_slice.ensures.items
    ∙ (ap (λ l. l ++ c.to_be_bytes.result) c.in_ok-push.ensures.items
    ∙ append_assoc into (c.args.run.layer ∷ []) c.to_be_bytes.result))

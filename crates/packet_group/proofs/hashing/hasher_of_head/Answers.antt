use Rattle.std.proofs.Common.{ℕ, List, [], ◌∷◌, ◌++◌, length, subst, ap, ◌∙◌}
use Rattle.std.specs.Int.{w16, to_be_bytes}
use Rattle.stripe_plan.specs.declared.layer.LayerSize.{LayerSize}
use Rattle.sha2.specs.Hashers.{Holds256}
use Rattle.packet_frame.specs.declared.format.TheConstants.{FORMAT}
use Rattle.packet_group.proofs.HashedFrames.{parts_meant}
use Rattle.packet_group.proofs.hashing.hasher_of_head.Goals as goal

pub returns : goal.returns
returns c =
    let h = c.args.header.now in
    subst (λ (m : List ℕ). Holds256 c.update-7.new.self m)
    (parts_meant (FORMAT.mark ++ h.session) c.to_be_bytes.result c.to_be_bytes-2.result c.to_be_bytes-3.result
    c.to_be_bytes-4.result (length c.layers-layers.result.now ∷ []) _ _ _ _ _ c.to_be_bytes.ensures c.to_be_bytes-2.ensures
    (c.to_be_bytes-3.ensures ∙ ap (to_be_bytes w16) c.packets.ensures.value) c.to_be_bytes-4.ensures
    (ap (λ (l : List LayerSize). length l ∷ []) c.layers-layers.ensures.value))
    (c.update-7.ensures _ (c.update-6.ensures _ (c.update-5.ensures _ (c.update-4.ensures _ (c.update-3.ensures _
    (c.update-2.ensures _ (c.update.ensures [] c.new-hasher.ensures)))))))

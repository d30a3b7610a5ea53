use Rattle.std.proofs.Common.{◌≡◌, ◌≢◌, List, Option, None, Some, length, refl, sym, ap, ◌∙◌}
use Rattle.std.proofs.lemmas.Option.{none-some}
use Rattle.mpeg_scan.specs.declared.piece.Piece.{Piece}
use Rattle.mpeg_scan.specs.Pieces.{pieces_of}
use Rattle.priority_file.specs.Priority.{layer_of}
use Rattle.layer_split.specs.declared.fault.SplitFault.{SplitFault}
use Rattle.layer_split.specs.declared.fault.SplitFault.TheVariants.{GroupTooLong, TooManyGroups, NoMemory}
use Rattle.layer_split.specs.Faults.{fault_of}
use Rattle.layer_split.specs.Groups.{groups_of}
use Rattle.command_replay.proofs.HeldSession.{no_split_fault}
use Rattle.command_replay.proofs.encoders.group_cuts.Goals as goal

only_memory : (fault : SplitFault) (o : Option SplitFault) → o ≡ None → (fault ≢ NoMemory → o ≡ Some fault)
    → fault ≡ NoMemory
only_memory NoMemory o none told = refl
only_memory (GroupTooLong group) o none told =
    absurd (none-some (GroupTooLong group) (sym none ∙ told (λ same. cc)))
only_memory TooManyGroups o none told = absurd (none-some TooManyGroups (sym none ∙ told (λ same. cc)))

pub not_split-requires : goal.not_split-requires
not_split-requires c =
    let whole = c.args.whole.now in
    let rules = whole.source.priority in
    let pieces : c.deref-2.result.now ≡ pieces_of whole.bytes.items =
    c.deref-2.ensures.value ∙ c.in_ok-pieces.ensures.pieces ∙ ap pieces_of c.deref.ensures.value in
    only_memory c.in-Err.fault (fault_of (layer_of rules) (length rules.layers) (groups_of c.deref-2.result.now))
    (ap (λ (ps : List Piece). fault_of (layer_of rules) (length rules.layers) (groups_of ps)) pieces
    ∙ no_split_fault whole c.requires.held)
    c.in-Err.ensures.fault

use Rattle.std.proofs.Common.{◌≡◌, ℕ, true, false, List, Some, length, ap, arith}
use Rattle.command_replay.proofs.LinesOfWorld.{is_lent, lent_bytes, few_bytes}
use Rattle.command_replay.proofs.lines.layer_bytes.Goals as goal

pub returns-clause-bytes : goal.returns-clause-bytes
returns-clause-bytes c =
    lent_bytes c.args.world.now c.args.shown c.requires.shown c.requires.session c.receiver_of.result.now
    c.receiver_of.ensures.receiver (λ (t : List ℕ). t) (Some c.in-Some.bytes.now)
    (λ p m opened is agrees. c.in-Some.ensures.agreed p m opened is agrees)

pub returns-clause-few : goal.returns-clause-few
returns-clause-few c =
    omega (
      arith,
      few_bytes c.args.world.now c.args.shown c.requires.shown c.requires.session c.receiver_of.result.now
          c.receiver_of.ensures.receiver,
      ap (λ (t : List ℕ). length t) (returns-clause-bytes c),
    )

never : false ≡ true → ⊥
never e = cc

pub unreachable-requires : goal.unreachable-requires
unreachable-requires c =
    never (c.in-None.ensures.shown.1
    (is_lent c.args.world.now c.args.shown c.requires.shown c.requires.session c.receiver_of.result.now
    c.receiver_of.ensures.receiver))

use Rattle.std.proofs.Common.{◌≡◌, ℕ, get_or, None}
use Rattle.packet_group.proofs.tags.no_tags.Given as goal

abbrev pub invariant-loop : goal.invariant-loop
invariant-loop l = record {
  none : (number : ℕ) → get_or l.tags.items number None ≡ None;
}

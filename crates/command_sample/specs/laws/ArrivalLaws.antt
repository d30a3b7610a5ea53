-- What callers know of the packets that arrive: how many they are.
use Rattle.std.proofs.Common.{◌≡◌, length, refl}
use Rattle.command_sample.specs.Arrivals.{arriving, arrivals_of_group}

pub arrivals_many : length arrivals_of_group ≡ 96
unfolding arriving
arrivals_many = refl

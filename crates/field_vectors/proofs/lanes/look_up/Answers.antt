use Rattle.std.proofs.Common.{ℕ, ◌%◌, ◌/◌, get_or, bit_xor}
use Rattle.std.proofs.lemmas.Simd.{zip2_of_maps}
use Rattle.field_vectors.proofs.LaneMaps.{through}
use Rattle.field_vectors.proofs.lanes.look_up.Goals as goal

pub returns : goal.returns
returns c =
    λ e0 e1 e2 e3 v s0 s1 s2 s3 lo hi.
    let l0 : ℕ → ℕ = λ a. get_or e0 (a % 256 % 16) 0 in
    let l1 : ℕ → ℕ = λ a. get_or e1 (a % 256 / 16) 0 in
    let l2 : ℕ → ℕ = λ a. get_or e2 (a / 256 % 16) 0 in
    let l3 : ℕ → ℕ = λ a. get_or e3 (a / 256 / 16) 0 in
    let r0 = through e0 v c.args.low c.at_low.result (λ a. a % 16) (λ a. a % 256) lo (c.at_low.ensures e0 s0) in
    let r1 = through e1 v c.args.low c.at_high.result (λ a. a / 16) (λ a. a % 256) lo (c.at_high.ensures e1 s1) in
    let r2 = through e2 v c.args.high c.at_low-2.result (λ a. a % 16) (λ a. a / 256) hi (c.at_low-2.ensures e2 s2) in
    let r3 = through e3 v c.args.high c.at_high-2.result (λ a. a / 16) (λ a. a / 256) hi (c.at_high-2.ensures e3 s3) in
    let x1 = zip2_of_maps bit_xor l0 l1 v r0 r1 in
    let x2 = zip2_of_maps bit_xor (λ a. bit_xor (l0 a) (l1 a)) l2 v x1 r2 in
    zip2_of_maps bit_xor (λ a. bit_xor (bit_xor (l0 a) (l1 a)) (l2 a)) l3 v x2 r3

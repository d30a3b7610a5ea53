use Rattle.std.proofs.Common.{length, ap, refl, arith}
use Rattle.std.proofs.lemmas.List.{length-append}
use Rattle.store_union.proofs.Putting.{before_is}
use Rattle.store_union.proofs.put.before.Goals as goal

pub overflow_sub-bytes : goal.overflow_sub-bytes
overflow_sub-bytes c =
    omega (arith, ap length c.requires.1, length-append c.requires.0 c.args.rest.now)

pub returns : goal.returns
returns c front is =
    before_is c.args.bytes.now c.args.rest.now front c.split_at.result.0.now _ is refl c.split_at.ensures.front

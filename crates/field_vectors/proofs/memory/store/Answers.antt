use Rattle.std.proofs.Common.{◌∙◌, arith, ap, length}
use Rattle.std.proofs.lemmas.List.{take_rest, length-drop}
use Rattle.field_vectors.proofs.Written.{written, vector_inside, vector_behind}
use Rattle.field_vectors.proofs.memory.store.Goals as goal

pub returns-then-rows-at-ge32-clause-inside : goal.returns-then-rows-at-ge32-clause-inside
returns-then-rows-at-ge32-clause-inside g c k d l m =
    vector_inside d c.args.at c.args.rows.now c.write.new.into c.requires.place c.write.auto.into c.args.v
    c.requires.long c.if-rows-at-ge32.true c.write.ensures k l m

pub returns-then-rows-at-ge32-clause-behind : goal.returns-then-rows-at-ge32-clause-behind
returns-then-rows-at-ge32-clause-behind g c i d l =
    vector_behind d c.args.at c.args.rows.now c.write.new.into c.requires.place c.write.auto.into c.args.v
    c.requires.long c.if-rows-at-ge32.true c.write.ensures i l

pub returns-else-rows-at-ge32-clause-inside : goal.returns-else-rows-at-ge32-clause-inside
returns-else-rows-at-ge32-clause-inside g c k d l m =
    let rows = c.args.rows.now in
    written d c.args.at rows c.unload.new.into c.requires.place c.unload.auto.into k m
    ∙ c.unload.ensures k d (omega (arith, ap length (take_rest rows c.args.at), length-drop c.args.at rows))

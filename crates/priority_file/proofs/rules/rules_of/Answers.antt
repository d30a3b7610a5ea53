use Rattle.std.proofs.Common.{◌∙◌, not}
use Rattle.priority_file.specs.Bounds.{is_need_out_of_range, is_name}
use Rattle.priority_file.specs.Refusals.{rule_of}
use Rattle.priority_file.proofs.ListWalks.{fails_at, made_more}
use Rattle.priority_file.proofs.Accepted.{from_not_false}
use Rattle.priority_file.proofs.rules.rules_of.Goals as goal

pub loop-layer-preserved : goal.loop-layer-preserved
loop-layer-preserved c =
    c.push.ensures.items
    ∙ made_more (rule_of c.args.packets c.args.d_is_listed) c.args.layers.now c.loop-layer.layer-index
    c.layer-item.result c.loop-layer.rules.items c.rule_of.result c.loop-layer-test.true c.layer-item.is
    c.rule_of.ensures c.loop-layer.invariant

pub rule_of-requires : goal.rule_of-requires
rule_of-requires c =
    let fits = fails_at (λ l. is_need_out_of_range c.args.packets l.need) c.args.layers.now c.loop-layer.layer-index
    c.layer-item.result c.loop-layer-test.true c.layer-item.is c.requires.needs in
    let named = fails_at (λ l. not (is_name l.name)) c.args.layers.now c.loop-layer.layer-index c.layer-item.result
    c.loop-layer-test.true c.layer-item.is c.requires.names in
    record { packets = c.requires.packets; need = fits; name = from_not_false (is_name c.layer-item.result.name) named }

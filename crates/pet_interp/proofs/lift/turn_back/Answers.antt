use Rattle.std.proofs.Common.{◌≡◌, ◌∙◌, ◌+◌, ◌-◌, ◌<◌, ◌++◌, All, [], ◌∷◌, length, get_or, set, take, refl, ap, ap₂}
use Rattle.std.proofs.Common.{sym, arith, subst}
use Rattle.std.proofs.lemmas.List.{length-set, take_all, take_more_set}
use Rattle.std.proofs.lemmas.List.Elements.{All-push, All-same}
use Rattle.pet_interp.specs.Blocks.{HeldBlock, IsBlock, no_block}
use Rattle.pet_interp.proofs.Passes.{turned, block_ahead, stripes_more, stripes_more_set, rest_more, all_stripes}
use Rattle.pet_interp.proofs.lift.turn_back.Goals as goal

pub turn_back-requires-clause-waits : goal.turn_back-requires-clause-waits
turn_back-requires-clause-waits g c =
    rw (block_ahead c.loop-i.blocks c.args.blocks.now c.loop-i.i c.index-blocks-i.result no_block
    (omega (arith, c.loop-i.invariant.long)) c.loop-i.invariant.rest)
    (c.requires.blocks c.loop-i.i no_block c.loop-i-test.true).waits

pub turn_back-requires-clause-room : goal.turn_back-requires-clause-room
turn_back-requires-clause-room g c =
    rw (block_ahead c.loop-i.blocks c.args.blocks.now c.loop-i.i c.index-blocks-i.result no_block
    (omega (arith, c.loop-i.invariant.long)) c.loop-i.invariant.rest)
    (rw c.loop-i.invariant.room (c.requires.blocks c.loop-i.i no_block c.loop-i-test.true).fits)

pub loop-i-preserved : goal.loop-i-preserved
loop-i-preserved g c =
    let P = g.F.Field.is_element in
    let met = c.args.met in
    let old = c.args.blocks.now in
    let now = c.loop-i.blocks in
    let i = c.loop-i.i in
    let b = c.index-blocks-i.result in
    let new = c.turn_back.new.self in
    let inv = c.loop-i.invariant in
    let did = c.turn_back.ensures in
    let few0 : i < length old = c.loop-i-test.true in
    let few : i < length now = omega (arith, inv.long) in
    let same = block_ahead now old i b no_block few inv.rest in
    let room : length c.turn_back.new.spare ≡ length c.loop-i.spare = c.turn_back.auto.spare in
    let was : IsBlock P (met - 1) (length c.loop-i.spare) (get_or now i b) =
    rw same (subst (λ n. IsBlock P (met - 1) n (get_or old i no_block)) (sym inv.room)
    (c.requires.blocks i no_block few0)) in
    let is : IsBlock P met (length c.loop-i.spare) new =
    turned P (met - 1) met (length c.loop-i.spare) (get_or now i b) new was did.size did.waits did.stripes in
    record {
      long = length-set now i new ∙ inv.long;
      room = room ∙ inv.room;
      turned =
          subst (λ n. All (IsBlock P met n) (take (i + 1) (set now i new))) (sym room)
          (All-same (IsBlock P met (length c.loop-i.spare)) (take (i + 1) (set now i new)) (take i now ++ (new ∷ []))
          (take_more_set now i new few)
          (All-push (IsBlock P met (length c.loop-i.spare)) (take i now) new inv.turned is));
      done =
          stripes_more_set now i new few
          ∙ ap₂ ◌++◌ inv.done (did.stripes ∙ ap (λ (v : HeldBlock g.row.F-Elem.Denot). v.stripes) same)
          ∙ sym (stripes_more old i few0);
      rest = rest_more now old i new inv.rest;
    }

pub loop-i-init : goal.loop-i-init
loop-i-init g c = record { long = refl; room = refl; turned = λ k d l. absurd (omega arith); done = refl; rest = refl }

pub returns-clause-blocks : goal.returns-clause-blocks
returns-clause-blocks g c =
    let P = IsBlock g.F.Field.is_element c.args.met (length c.loop-i.spare) in
    All-same P c.loop-i.blocks (take c.loop-i.i c.loop-i.blocks)
    (sym (take_all c.loop-i.i c.loop-i.blocks (omega (arith, c.loop-i.invariant.long)))) c.loop-i.invariant.turned

pub returns-clause-stripes : goal.returns-clause-stripes
returns-clause-stripes g c =
    all_stripes (λ ss. ss) c.loop-i.blocks c.args.blocks.now c.loop-i.i c.loop-i.invariant.long c.loop-i-test.false
    c.loop-i.invariant.done

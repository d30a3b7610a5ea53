use Rattle.std.specs.Prelude.{option_copied, option_map}
use Rattle.std.proofs.Common.{◌≡◌, ◌<◌, ◌||◌, ℕ, Bool, Option, length, sym, ap, ◌∙◌, arith}
use Rattle.std.specs.List.{find}
use Rattle.packet_frame.specs.Frame.{Fields}
use Rattle.packet_frame.specs.declared.frame.Header.{Header}
use Rattle.packet_set.specs.Packets.{Packets}
use Rattle.packet_verdicts.specs.Union.{frames_in_group}
use Rattle.packet_verdicts.specs.GroupClash.{is_other_group, is_other_payload, first_clash_in}
use Rattle.packet_verdicts.proofs.Searched.{searched_start, searched_next, searched_hit, searched_end}
use Rattle.packet_verdicts.proofs.clash.clash_in.Goals as goal

pub loop-number-init : goal.loop-number-init
loop-number-init c = record {
  few = omega arith;
  searched =
      searched_start (λ f. c.contradicts-other.result || is_other_payload
      (option_copied c.args.mine) f.number f.payload) c.args.theirs.now;
}

pub loop-number-preserved : goal.loop-number-preserved
loop-number-preserved c =
    let test : Fields
    → Bool = λ f. c.contradicts-other.result || is_other_payload (option_copied c.args.mine) f.number f.payload in
    let all = ap (λ (h : Header). h.table.packets) c.header-header.ensures.value in
    record {
      few = omega (arith, c.loop-number-test.true, c.packets-number-end.ensures.value, all);
      searched =
          searched_next test c.args.theirs.now c.loop-number.number
          (sym c.clashes_at.ensures ∙ c.if-clashes_at.false) c.loop-number.invariant.searched;
    }

-- the first that the search finds, where it goes by all that the header tells
by_header : (told : Option ℕ) (mine : Option Packets) (theirs : Packets) (other : Bool)
    → other ≡ is_other_group told mine theirs.header
    → option_map (λ f. f.number) (find (λ f. other || is_other_payload mine f.number f.payload)
    (frames_in_group theirs)) ≡ first_clash_in told mine theirs
by_header told mine theirs other is =
    ap (λ b. option_map (λ (f : Fields). f.number)
    (find (λ (f : Fields). b || is_other_payload mine f.number f.payload) (frames_in_group theirs))) is

pub returns-then-clashes_at : goal.returns-then-clashes_at
returns-then-clashes_at c =
    let test : Fields
    → Bool = λ f. c.contradicts-other.result || is_other_payload (option_copied c.args.mine) f.number f.payload in
    let all = ap (λ (h : Header). h.table.packets) c.header-header.ensures.value in
    let header = ap (is_other_group c.args.told (option_copied c.args.mine)) c.header-header.ensures.value in
    let inside : c.loop-number.number < length c.args.theirs.now.slots =
    omega (
      arith,
      c.loop-number-test.true,
      c.packets-number-end.ensures.value,
      all,
      c.header-header.ensures.bounds.slots,
    ) in
    searched_hit test c.args.theirs.now c.loop-number.number inside
    (sym c.clashes_at.ensures ∙ c.if-clashes_at.true) c.loop-number.invariant.searched
    ∙ by_header c.args.told (option_copied c.args.mine) c.args.theirs.now c.contradicts-other.result
    (c.contradicts-other.ensures ∙ header)

pub returns : goal.returns
returns c =
    let test : Fields
    → Bool = λ f. c.contradicts-other.result || is_other_payload (option_copied c.args.mine) f.number f.payload in
    let all = ap (λ (h : Header). h.table.packets) c.header-header.ensures.value in
    let header = ap (is_other_group c.args.told (option_copied c.args.mine)) c.header-header.ensures.value in
    let done : c.loop-number.number ≡ length c.args.theirs.now.slots =
    omega (
      arith,
      c.loop-number-test.false,
      c.loop-number.invariant.few,
      c.packets-number-end.ensures.value,
      all,
      c.header-header.ensures.bounds.slots,
    ) in
    searched_end test c.args.theirs.now c.loop-number.number done c.loop-number.invariant.searched
    ∙ by_header c.args.told (option_copied c.args.mine) c.args.theirs.now c.contradicts-other.result
    (c.contradicts-other.ensures ∙ header)

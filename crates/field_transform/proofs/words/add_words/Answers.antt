use Rattle.std.proofs.Common.{◌≡◌, ◌<◌, length, get_or, inl, inr, refl, ap, ap₂, sym, ◌∙◌, arith}
use Rattle.std.proofs.lemmas.Bool.{cases_lt}
use Rattle.std.proofs.lemmas.List.{length-set, get_or-set_other, get_or_default}
use Rattle.field_rows.specs.laws.PlaceLaws.{filled}
use Rattle.field_transform.proofs.Made.{sums_are}
use Rattle.field_transform.proofs.words.add_words.Goals as goal

pub loop-i-preserved : goal.loop-i-preserved
loop-i-preserved g c =
    let o = g.F.Field.coding.ops in
    let z = o.nought in
    let old = c.args.into.now in
    let other = c.args.other.now in
    let into = c.loop-i.into in
    let n = c.loop-i.i in
    let e = c.index-into-i.result in
    let d = c.index-other-i.result in
    let read : e ≡ get_or old n z = c.index-into-i.is
    ∙ get_or_default into n e z (omega (arith, c.loop-i.invariant.long)) ∙ c.loop-i.invariant.rest n (omega arith) in
    let read2 : d ≡ get_or other n z = c.index-other-i.is ∙ get_or_default other n d z (omega arith) in
    record {
      long = length-set into n c.add.result ∙ c.loop-i.invariant.long;
      done =
          filled (λ k. o.plus (get_or old k z) (get_or other k z)) z into n c.add.result
          (omega (arith, c.loop-i.invariant.long)) c.loop-i.invariant.done
          (c.add.ensures ∙ ap₂ o.plus read read2);
      rest = λ k l. get_or-set_other into n k c.add.result z (λ q. absurd (omega arith))
          ∙ c.loop-i.invariant.rest k (omega arith);
    }

pub returns-clause-sums : goal.returns-clause-sums
returns-clause-sums g c i l =
    let F = g.F.Field in
    let o = F.coding.ops in
    let z = o.nought in
    let old = c.args.into.now in
    elim (cases_lt i c.loop-i.i) [
      | inl s ↦ c.loop-i.invariant.done i s
      | inr s ↦
          let m : i < length old = omega (arith, c.requires.same) in
          c.loop-i.invariant.rest i s
          ∙ sym (ap (o.plus (get_or old i z)) (c.requires.zeros i (omega arith))
          ∙ g.met.F.Field.lawful.field.plus-zero (get_or old i z) (c.requires.first i z m))
    ]

pub returns-clause-elements : goal.returns-clause-elements
returns-clause-elements g c =
    sums_are g.F.Field.is_element g.F.Field.coding.ops g.met.F.Field.lawful.field c.args.into.now c.args.other.now
    c.loop-i.into c.requires.first c.requires.second
    c.loop-i.invariant.long c.requires.same (returns-clause-sums g c)

pub loop-i-init : goal.loop-i-init
loop-i-init g c = record { long = refl; done = λ k l. absurd (omega arith); rest = λ k l. refl }

pub add-requires : goal.add-requires
add-requires g c =
    let F = g.F.Field in
    let z = F.coding.ops.nought in
    let into = c.loop-i.into in
    let n = c.loop-i.i in
    let e = c.index-into-i.result in
    let d = c.index-other-i.result in
    let l : n < length c.args.other.now = omega arith in
    let m : n < length c.args.into.now = omega (arith, c.requires.same) in
    record {
      first =
          rw (c.index-into-i.is ∙ get_or_default into n e z (omega (arith, c.loop-i.invariant.long))
          ∙ c.loop-i.invariant.rest n (omega arith)) (c.requires.first n z m);
      second = rw c.index-other-i.is (c.requires.second n d l);
    }

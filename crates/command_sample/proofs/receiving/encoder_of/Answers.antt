use Rattle.std.proofs.Common.{◌≡◌, ◌*◌, ◌<◌, ◌++◌, length, get_or, List, ℕ, Some, Result, Ok, refl, ap, ap₂, sym, ◌∙◌}
use Rattle.std.proofs.Common.{arith}
use Rattle.std.specs.Prelude.{slice_get}
use Rattle.std.proofs.lemmas.Option.{slice_get-get_or}
use Rattle.stripe_plan.specs.Layers.{needs_of}
use Rattle.stripe_plan.specs.Sizes.{Sizes}
use Rattle.layer_split.specs.Layers.{message}
use Rattle.command_sample.specs.declared.made.Made.{Made}
use Rattle.command_sample.specs.inside.Making.{IsMade}
use Rattle.command_sample.proofs.Encoders.{as_many_tables, cuts_few, lengths_so, message_whole, packets_so, runs_inside}
use Rattle.command_sample.proofs.Encoders.{same_ok, source_so, table_is}
use Rattle.command_sample.proofs.receiving.encoder_of.Goals as goal

-- the element at a place
found : {A : Type 0} (xs : List A) (i : ℕ) (x : A) → i < length xs → x ≡ get_or xs i x
    → slice_get xs i ≡ Some x
found xs i x low is = slice_get-get_or xs i x low ∙ ap Some (sym is)

-- the table of a group is what was cloned of it
cloned : {E : Type 0} (made : Made) (is : IsMade made) (group : ℕ) (table clone : Sizes) → group < length made.cuts.items
    → table ≡ get_or made.plan.tables.items group table → ◌≡◌ {A = Result Sizes E} (Ok clone) (Ok table)
    → slice_get made.plan.tables.items group ≡ Some clone
cloned made is group table clone low there same =
    found made.plan.tables.items group table (omega (arith, low, as_many_tables made is)) there
    ∙ ap Some (sym (same_ok clone table same))

pub message-requires-clause-inside : goal.message-requires-clause-inside
message-requires-clause-inside c =
    let made = c.args.made.now in
    let cut = c.index.result.now in
    λ k d low.
    omega (
      arith,
      runs_inside made c.requires.made c.args.group cut
          (found made.cuts.items c.args.group cut c.requires.group c.index.ensures) k d low,
      ap (λ (l : List ℕ). length l) c.deref.ensures.value,
    )

pub message-requires-clause-lengths : goal.message-requires-clause-lengths
message-requires-clause-lengths c =
    let made = c.args.made.now in
    let cut = c.index.result.now in
    lengths_so made c.requires.made c.args.group cut
    (found made.cuts.items c.args.group cut c.requires.group c.index.ensures)

pub overflow_cast-header : goal.overflow_cast-header
overflow_cast-header c = omega (arith, cuts_few c.args.made.now c.requires.made, c.len.ensures)

pub overflow_cast-header-2 : goal.overflow_cast-header-2
overflow_cast-header-2 c = omega (arith, cuts_few c.args.made.now c.requires.made, c.requires.group)

pub new-requires-clause-groups : goal.new-requires-clause-groups
new-requires-clause-groups c = omega (arith, cuts_few c.args.made.now c.requires.made, c.len.ensures)

pub new-requires-clause-message : goal.new-requires-clause-message
new-requires-clause-message c =
    let made = c.args.made.now in
    let cut = c.index.result.now in
    let table = c.index-2.result.now in
    let there = found made.cuts.items c.args.group cut c.requires.group c.index.ensures in
    let low = c.requires.group in
    let is_table = table_is made c.requires.made c.args.group cut there table
    (found made.plan.tables.items c.args.group table (omega (arith, low, as_many_tables made c.requires.made))
    c.index-2.ensures) in
    message_whole made c.requires.made c.args.group cut there c.deref-2.result.now
    (c.deref-2.ensures.value ∙ c.in_ok-message.ensures.ok
    ∙ ap₂ (λ (l m : List ℕ). l ++ message m cut.runs (length cut.lengths)) c.new-bytes.ensures.items
    c.deref.ensures.value)
    ∙ ap (λ (t : Sizes). length (needs_of t.layers) * 2)
    (sym (same_ok c.in_ok-clone.field-0 table c.in_ok-clone.ensures ∙ is_table))

pub returns-clause-source : goal.returns-clause-source
returns-clause-source c =
    let made = c.args.made.now in
    let cut = c.index.result.now in
    source_so made c.requires.made c.args.group cut
    (found made.cuts.items c.args.group cut c.requires.group c.index.ensures) c.new.result _ c.deref-2.result.now
    c.new.ensures.header c.new.ensures.message
    (cloned made c.requires.made c.args.group _ _ c.requires.group c.index-2.ensures c.in_ok-clone.ensures)
    refl (omega (arith, c.len.ensures)) refl
    (c.deref-2.ensures.value ∙ c.in_ok-message.ensures.ok
    ∙ ap₂ (λ (l m : List ℕ). l ++ message m cut.runs (length cut.lengths)) c.new-bytes.ensures.items
    c.deref.ensures.value)

pub returns-clause-packets : goal.returns-clause-packets
returns-clause-packets c =
    packets_so c.args.made.now c.requires.made c.args.group _
    (found c.args.made.now.cuts.items c.args.group _ c.requires.group c.index.ensures) c.new.result _ _
    c.new.ensures.header c.new.ensures.message
    (cloned _ c.requires.made c.args.group _ _ c.requires.group c.index-2.ensures c.in_ok-clone.ensures)

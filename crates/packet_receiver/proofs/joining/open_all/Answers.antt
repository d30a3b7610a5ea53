use Rattle.std.specs.Prelude.{nat_lt, OnErr}
use Rattle.std.proofs.Common.{◌≡◌, ◌∙◌, Result, Ok, Err}
use Rattle.packet_set.specs.Packets.{count_in}
use Rattle.packet_receiver.proofs.Opened.{filter_all}
use Rattle.packet_receiver.proofs.joining.open_all.Goals as goal

on_err : {A B : Type 0} (r : Result A B) (P : Type 0) → P → OnErr r P
on_err (Ok x) P p = tt
on_err (Err x) P p = p

pub returns-then-is_err-clause-err : goal.returns-then-is_err-clause-err
returns-then-is_err-clause-err g c =
    on_err c.open_each-opened.result (c.close_empty.new.groups.entries ≡ c.args.groups.now.entries)
    (c.close_empty.ensures ∙ c.open_each-opened.ensures.same
    ∙ filter_all (λ e. nat_lt 0 (count_in e.1.packets)) c.args.groups.now.entries c.requires.some)

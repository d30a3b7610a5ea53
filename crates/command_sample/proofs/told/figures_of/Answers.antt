use Rattle.std.proofs.Common.{◌≡◌, ◌*◌, length, ap, sym, ◌∙◌, arith}
use Rattle.stripe_plan.specs.Sizes.{Sizes, datagram_length_of}
use Rattle.command_sample.specs.Arrivals.{arrivals_of}
use Rattle.command_sample.specs.Samples.{contents_of, showing_of}
use Rattle.command_sample.specs.inside.Making.{session_made}
use Rattle.command_sample.specs.laws.SessionLaws.{sample_layers}
use Rattle.command_sample.proofs.Arrived.{arrivals_count}
use Rattle.command_sample.proofs.Encoders.{as_many_tables, cuts_few, cuts_some}
use Rattle.command_sample.proofs.Telling.{first_layers, same_figures, table_so}
use Rattle.command_sample.proofs.told.figures_of.Goals as goal

pub index-requires : goal.index-requires
index-requires c =
    let made = c.args.made.now in
    omega (arith, cuts_some made c.requires.made, as_many_tables made c.requires.made)

pub overflow_cast-result : goal.overflow_cast-result
overflow_cast-result c = omega (arith, cuts_few c.args.made.now c.requires.made, c.len.ensures)

pub overflow_mul-result : goal.overflow_mul-result
overflow_mul-result c = omega (arith, cuts_few c.args.made.now c.requires.made, c.len.ensures)

pub returns : goal.returns
returns c =
    let made = c.args.made.now in
    let n = length made.cuts.items in
    let s = session_made made in
    let table_is : c.index.result.now ≡ record { packets = 100; layers = sample_layers } =
    table_so made c.requires.made 0 c.index.result.now
    (omega (arith, cuts_some made c.requires.made, as_many_tables made c.requires.made)) c.index.ensures in
    let many : 96 * c.len.result ≡ length (arrivals_of n) = omega (arith, arrivals_count n, c.len.ensures) in
    λ first last ends.
    same_figures c.contents_of.result (contents_of made.stream.items) made.plan.number s.number
    c.datagram_length.result (datagram_length_of first.layers) (96 * c.len.result) (length (arrivals_of n))
    c.showing.result (showing_of n first last 0) c.showing-2.result (showing_of n first last 1)
    c.showing-3.result (showing_of n first last 2) c.args.store c.args.video
    (c.contents_of.ensures ∙ ap contents_of c.deref.ensures.value) c.requires.made.number
    (c.datagram_length.ensures.length ∙ ap (λ (t : Sizes). datagram_length_of t.layers) table_is
    ∙ sym (ap datagram_length_of (first_layers made c.requires.made first last ends)))
    many (c.showing.ensures first last ends) (c.showing-2.ensures first last ends) (c.showing-3.ensures first last ends)

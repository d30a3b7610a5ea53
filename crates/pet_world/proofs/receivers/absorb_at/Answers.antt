use Rattle.std.proofs.Common.{◌≡◌, ℕ, ◌<◌, List, length, map, Vec, Global, set, get_or, Some, sym, ap, ◌∙◌, arith}
use Rattle.std.specs.Prelude.{slice_get}
use Rattle.std.proofs.lemmas.List.{length-set}
use Rattle.std.proofs.lemmas.Option.{slice_get-get_or}
use Rattle.pet_receive.specs.Arrivals.{ReceiverState}
use Rattle.pet_world.proofs.OneReceiver.{taken, not_taken, put_back, if_err}
use Rattle.pet_world.proofs.receivers.absorb_at.Goals as goal

-- the other, as it stands beside the empty one
theirs_found : {A : Type 0} (old mid : List A) (here there : ℕ) (empty d : A) → there < length old
    → mid ≡ set old here empty → slice_get (set old here empty) there ≡ Some (get_or mid there d)
theirs_found old mid here there empty d lt put =
    ap (λ (xs : List _). slice_get xs there) (sym put)
    ∙ slice_get-get_or mid there d (omega (arith, lt, ap (λ (xs : List _). length xs) put, length-set old here empty))

pub returns-clause-takes : goal.returns-clause-takes
returns-clause-takes g c =
    let old = c.args.receivers.now in
    let mid = c.exchange-mine.new.items in
    let d = c.index-receivers-there.result in
    taken old c.args.here c.args.there c.exchange-mine.result
    (get_or mid c.args.there d) c.args.empty c.requires.apart c.exchange-mine.ensures.found
    (theirs_found old mid c.args.here c.args.there c.args.empty d c.requires.there c.exchange-mine.ensures.put)
    (λ (shown : Vec (ℕ × ℕ) Global). map (λ s. (s.0, s.1)) shown.items) c.absorb-taken.new.self c.exchange.new.items
    c.args.steps.now c.absorb-taken.new.steps c.absorb-taken.result
    (c.exchange.ensures.put
    ∙ ap (λ (xs : List (ReceiverState g.row.F-Elem.Denot)). set xs c.args.here c.absorb-taken.new.self)
    c.exchange-mine.ensures.put)
    c.absorb-taken.ensures.kept c.absorb-taken.ensures.shown c.absorb-taken.ensures.cost

pub returns-clause-refused : goal.returns-clause-refused
returns-clause-refused g c =
    let old = c.args.receivers.now in
    let mid = c.exchange-mine.new.items in
    let d = c.index-receivers-there.result in
    not_taken old c.args.here c.args.there c.exchange-mine.result
    (get_or mid c.args.there d) c.args.empty c.requires.apart c.exchange-mine.ensures.found
    (theirs_found old mid c.args.here c.args.there c.args.empty d c.requires.there c.exchange-mine.ensures.put)
    c.absorb-taken.result c.absorb-taken.ensures.refused

pub returns-clause-err : goal.returns-clause-err
returns-clause-err g c =
    let old = c.args.receivers.now in
    let mid = c.exchange-mine.new.items in
    let d = c.index-receivers-there.result in
    let put = c.exchange.ensures.put
    ∙ ap (λ (xs : List (ReceiverState g.row.F-Elem.Denot)). set xs c.args.here c.absorb-taken.new.self)
    c.exchange-mine.ensures.put in
    if_err c.absorb-taken.result
    (λ m. put ∙ put_back old c.args.here c.args.there c.exchange-mine.result
    (get_or mid c.args.there d) c.args.empty c.requires.apart c.exchange-mine.ensures.found
    (theirs_found old mid c.args.here c.args.there c.args.empty d c.requires.there c.exchange-mine.ensures.put)
    c.absorb-taken.new.self m.0) c.absorb-taken.ensures.unchanged

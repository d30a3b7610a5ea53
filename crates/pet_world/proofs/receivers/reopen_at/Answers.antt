use Rattle.std.proofs.Common.{◌++◌, ℕ, List, get_or, ap, ◌∙◌}
use Rattle.std.proofs.lemmas.Option.{slice_get-get_or}
use Rattle.pet_receive.specs.Arrivals.{kept_set}
use Rattle.store_text.specs.Store.{store_text}
use Rattle.pet_world.proofs.OneReceiver.{reopened_one}
use Rattle.pet_world.proofs.receivers.reopen_at.Goals as goal

pub returns-in-Ok-clause-reopens : goal.returns-in-Ok-clause-reopens
returns-in-Ok-clause-reopens g c =
    let old = c.args.receivers.now in
    let mine = get_or old c.args.here c.index-receivers-here.result in
    reopened_one old c.args.here mine (slice_get-get_or old c.args.here c.index-receivers-here.result c.requires.here)
    c.in-Ok.again c.args.limit c.deref.result.now c.exchange.new.items c.args.steps.now c.read_store.new.steps
    (c.deref.ensures.value ∙ c.in_default.ensures.text
    ∙ ap (λ (t : List ℕ). t ++ store_text (kept_set mine)) c.new-text.ensures.items) c.in-Ok.ensures.read
    c.exchange.ensures.put c.in-Ok.ensures.cost

pub returns-in-Err-clause-refused : goal.returns-in-Err-clause-refused
returns-in-Err-clause-refused g c = λ no. absurd (no c.from.ensures)

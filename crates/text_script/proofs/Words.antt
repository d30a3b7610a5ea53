-- The words of a line, and the lines of a script.
use Rattle.std.proofs.Common.{◌≡◌, ℕ, List, [], ◌∷◌, ◌++◌, append_assoc, refl, sym, ap, ◌∙◌}
use Rattle.std.specs.Prelude.{Some, None, Result, Ok, Err}
use Rattle.text_cuts.specs.Cuts.{split_at, lines_of}
use Rattle.text_cuts.specs.laws.CutLaws.{parts_some}
use Rattle.pet_base.specs.declared.event.Event.{Event}
use Rattle.text_script.specs.Script.{give_in, join_in, reopen_in, then_events, events_from, script_of, behind_events}

-- more words than an event has
pub give_long : (groups packets : ℕ) (words receiver behind group later number more : List ℕ)
    → split_at 32 words ≡ receiver ∷ split_at 32 behind → split_at 32 behind ≡ group ∷ split_at 32 later
    → split_at 32 later ≡ number ∷ split_at 32 more
    → None ≡ give_in groups packets (split_at 32 words)
give_long groups packets words receiver behind group later number more first second third =
    let last = parts_some 32 [] more in
    sym (ap (give_in groups packets) (first
    ∙ ap (λ (p : List (List ℕ)). receiver ∷ p)
    (second ∙ ap (λ (p : List (List ℕ)). group ∷ p) (third ∙ ap (λ (p : List (List ℕ)). number ∷ p) last.2))))

pub join_long : (words receiver behind other more : List ℕ) → split_at 32 words ≡ receiver ∷ split_at 32 behind
    → split_at 32 behind ≡ other ∷ split_at 32 more → None ≡ join_in (split_at 32 words)
join_long words receiver behind other more first second =
    let last = parts_some 32 [] more in
    sym (ap join_in
    (first ∙ ap (λ (p : List (List ℕ)). receiver ∷ p) (second ∙ ap (λ (p : List (List ℕ)). other ∷ p) last.2)))

pub reopen_long : (words receiver more : List ℕ) → split_at 32 words ≡ receiver ∷ split_at 32 more
    → None ≡ reopen_in (split_at 32 words)
reopen_long words receiver more first =
    let last = parts_some 32 [] more in
    sym (ap reopen_in (first ∙ ap (λ (p : List (List ℕ)). receiver ∷ p) last.2))

behind_none : (r : Result (List Event) ℕ) → r ≡ behind_events [] r
behind_none (Ok events) = refl
behind_none (Err line) = refl

-- nothing is read yet
pub begun : (groups packets : ℕ) (bytes : List ℕ) (events : List Event) → events ≡ []
    → script_of groups packets bytes ≡ behind_events events (events_from groups packets 1 (lines_of bytes))
unfolding script_of
begun groups packets bytes events none =
    behind_none (events_from groups packets 1 (lines_of bytes))
    ∙ ap (λ (l : List Event). behind_events l (events_from groups packets 1 (lines_of bytes))) (sym none)

-- one event more
pub one_event : (events : List Event) (event : Event) (number : ℕ) (later : Result (List Event) ℕ)
    → behind_events events (then_events number (Some event) later) ≡ behind_events (events ++ event ∷ []) later
one_event events event number (Ok later) = ap Ok (sym (append_assoc events (event ∷ []) later))
one_event events event number (Err line) = refl

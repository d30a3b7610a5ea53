use Rattle.std.proofs.Common.{◌≡◌, ◌++◌, ◌∷◌, [], List, ℕ, length, take, subst, ◌∙◌}
use Rattle.std.specs.Int.{w32, to_be_bytes}
use Rattle.pet_base.specs.laws.Through.{on_any_err}
use Rattle.outside_files.specs.Outputs.{Puts}
use Rattle.outside_files.specs.laws.OutputLaws.{on_ok, on_err, puts_then, part_of_front, part_of_back}
use Rattle.packet_met.proofs.records.put_record.Goals as goal

pub returns-in_err-put-clause-part : goal.returns-in_err-put-clause-part
returns-in_err-put-clause-part g c =
    let old = g.P.Place.seen c.args.place.now in
    let new = g.P.Place.seen c.put.new.self in
    let head = to_be_bytes w32 c.args.arrival ++ to_be_bytes w32 c.args.group ++ (c.args.layer ∷ [])
    ++ to_be_bytes w32 (length c.args.bytes.now) in
    let is : c.as_slice.result.now ≡ head = c.as_slice.ensures.value ∙ c.record_head.ensures in
    let put = c.in_err-put.ensures.part in
    on_any_err c.from_residual.result
    (part_of_front put.0 head c.args.bytes.now old new (subst (λ (h : List ℕ). Puts (take put.0 h) old new) is put.1))

pub returns-clause-files : goal.returns-clause-files
returns-clause-files g c =
    let old = g.P.Place.seen c.args.place.now in
    let between = g.P.Place.seen c.put.new.self in
    let new = g.P.Place.seen c.put-2.new.self in
    let head = to_be_bytes w32 c.args.arrival ++ to_be_bytes w32 c.args.group ++ (c.args.layer ∷ [])
    ++ to_be_bytes w32 (length c.args.bytes.now) in
    let is : c.as_slice.result.now ≡ head = c.as_slice.ensures.value ∙ c.record_head.ensures in
    on_ok c.put-2.result (puts_then head c.args.bytes.now old between new c.in_ok-put.ensures.target
    (subst (λ (h : List ℕ). Puts h old between) is c.in_ok-put.ensures.files)) c.put-2.ensures.files

pub returns-clause-part : goal.returns-clause-part
returns-clause-part g c =
    let old = g.P.Place.seen c.args.place.now in
    let between = g.P.Place.seen c.put.new.self in
    let new = g.P.Place.seen c.put-2.new.self in
    let head = to_be_bytes w32 c.args.arrival ++ to_be_bytes w32 c.args.group ++ (c.args.layer ∷ [])
    ++ to_be_bytes w32 (length c.args.bytes.now) in
    let is : c.as_slice.result.now ≡ head = c.as_slice.ensures.value ∙ c.record_head.ensures in
    on_err c.put-2.result
    (λ (part : (k : ℕ) × Puts (take k c.args.bytes.now) between new).
    part_of_back part.0 head c.args.bytes.now old between new c.in_ok-put.ensures.target
    (subst (λ (h : List ℕ). Puts h old between) is c.in_ok-put.ensures.files) part.1)
    c.put-2.ensures.part

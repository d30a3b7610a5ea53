use Rattle.std.proofs.Common.{◌≡◌, ℕ, ◌-◌, List, [], ◌∷◌, length, take, drop, Bor, refl, sym, ap, subst, ◌∙◌}
use Rattle.std.proofs.lemmas.List.{append-nil, length-drop}
use Rattle.std.proofs.Math.Seq.{take-length}
use Rattle.pet_base.specs.LinkSeen.{LinkSeen}
use Rattle.outside_files.specs.Outputs.{Puts, PutsPart}
use Rattle.outside_files.specs.laws.PartLaws.{part_of_take}
use Rattle.outside_routes.specs.declared.route.Route.{Route}
use Rattle.outside_routes.specs.declared.route.Route.TheVariants.{File}
use Rattle.outside_routes.specs.Sending.{Routes, routes, Sends, SendsPart, Sent}
use Rattle.pet_base.specs.Entries.{entry_text}
use Rattle.outside_routes.specs.Way.{way_of}
use Rattle.outside_routes.proofs.sending.put_entry.Goals as goal

part_of_file : (to : Route) (name : Bor (List ℕ)) (k : ℕ) (entry datagram : List ℕ) (old new : Routes) → to ≡ File name
    → entry ≡ entry_text datagram → Puts (take k entry) old.place new.place → new.link ≡ old.link
    → SendsPart (way_of to) (datagram ∷ []) old new
part_of_file to name k entry datagram old new is text put link =
    subst (λ (r : Route). SendsPart (way_of r) (datagram ∷ []) old new) (sym is) (
      subst (λ (t : List ℕ). PutsPart t old.place new.place) (text ∙ sym (append-nil (entry_text datagram)))
          (part_of_take k entry old.place new.place put),
      link,
    )

pub returns-in-Err-clause-part : goal.returns-in-Err-clause-part
returns-in-Err-clause-part g c =
    let part = c.in-Err.ensures.part in
    part_of_file c.args.to c.in-File.field-0 part.0 c.args.entry.now
    (drop 2 c.args.entry.now) _ _ c.in-File.is c.requires.entry part.1 refl

-- what stands behind so many bytes, as it is cut out of the entry
sent_behind : (k : ℕ) (entry : List ℕ) (old new : LinkSeen)
    → Sent (take (length entry - k) (drop k entry) ∷ []) old new → Sent (drop k entry ∷ []) old new
sent_behind k entry old new sent =
    subst (λ (d : List ℕ). Sent (d ∷ []) old new)
    (ap (λ (n : ℕ). take n (drop k entry)) (sym (length-drop k entry)) ∙ take-length (drop k entry)) sent

pub returns-in-Ok-send-clause-sends : goal.returns-in-Ok-send-clause-sends
returns-in-Ok-send-clause-sends g c =
    let datagram = drop 2 c.args.entry.now in
    let old = routes g.P.Place g.K.Link c.args.place.now c.args.link.now in
    let new = routes g.P.Place g.K.Link c.args.place.now c.send.new.self in
    subst (λ (r : Route). Sends (way_of r) (datagram ∷ []) old new) (sym c.in-Udp.is)
    (sent_behind 2 c.args.entry.now old.link new.link c.in-Ok-send.ensures.sent, refl)

-- Where no fault holds of the next frame: in a group that is not open, above all that are; and in the last of the open
-- groups.
use Rattle.std.proofs.Common.{◌≡◌, ℕ, ◌+◌, ◌*◌, ◌<◌, ◌≤◌, Bool, true, false, not, ◌&&◌, ◌||◌, ◌==◌, nat_lt, List, []}
use Rattle.std.proofs.Common.{◌∷◌, ◌++◌, set, replicate, All, Option, None, Some, nat_cmp, unwrap_or, is_none, refl, ap}
use Rattle.std.proofs.Common.{◌∙◌, arith, sum_by}
use Rattle.std.specs.Prelude.{if◌then◌else◌}
use Rattle.std.specs.List.{list_any}
use Rattle.std.specs.Option.{option_map_or}
use Rattle.std.specs.Str.{bytes_eq}
use Rattle.std.specs.BTreeMap.{insert_entry}
use Rattle.std.specs.Map.{keys_of}
use Rattle.std.proofs.lemmas.Bool.{le-ltb}
use Rattle.std.proofs.lemmas.Bool.Decides.{nat_tests}
use Rattle.std.proofs.lemmas.List.Folds.{list_any-append}
use Rattle.std.proofs.lemmas.Slice.Eq.{bytes_eq-Decides}
use Rattle.stripe_plan.specs.Same.{same_table}
use Rattle.stripe_plan.specs.laws.SameLaws.{same_table-exact}
use Rattle.packet_frame.specs.Frame.{Fields}
use Rattle.packet_frame.specs.View.{fields_with}
use Rattle.packet_frame.specs.declared.frame.Header.{Header}
use Rattle.packet_set.specs.Packets.{Packets, with_packet, no_packets}
use Rattle.stripe_plan.specs.Sizes.{length_by}
use Rattle.packet_verdicts.specs.KeptSet.{KeptSet, open_group, keep, keep_by}
use Rattle.packet_verdicts.specs.Verdicts.{tells_other_count, tells_other_table}
use Rattle.packet_verdicts.specs.laws.FramesInOrder.{lookup_past}
use Rattle.packet_verdicts.specs.laws.LastEntry.{insert_end, insert_at_end, lookup_end}
use Rattle.store_text.specs.declared.format.StoreForm.{StoreForm}
use Rattle.store_text.specs.declared.fault.StoreKind.TheVariants.{Session, Order, Clash, Full}
use Rattle.store_text.specs.Form.{IsStoreForm}
use Rattle.store_text.specs.Refusals.{Last, is_above, cost_in_form, costs_in, cost_of_frame, is_past, frame_fault_in}

record MayFollow (t : StoreForm) (set : KeptSet) (last : Last) (f : Fields) : Type 0 where
  session : f.session ≡ set.session
  above : is_above last f ≡ true
  count : tells_other_count set f ≡ false
  table : tells_other_table set f ≡ false
  room : is_past t set f ≡ false

none_by : (a b c d e : Bool) → a ≡ true → b ≡ true → c ≡ false → d ≡ false → e ≡ false
    → (if not a then Some Session else if not b then Some Order else if c || d then Some Clash else if e then Some Full
    else None) ≡ None
none_by a b c d e ea eb ec ed ee = rw (ea, eb, ec, ed, ee) refl

no_fault : (t : StoreForm) (set : KeptSet) (last : Last) (f : Fields) → MayFollow t set last f
    → frame_fault_in t set last f ≡ None
no_fault t set last f m =
    none_by (bytes_eq f.session set.session) (is_above last f) (tells_other_count set f) (tells_other_table set f)
    (is_past t set f)
    ((bytes_eq-Decides f.session set.session).1 m.session) m.above m.count m.table m.room

second_false : (a b : Bool) → b ≡ false → (a && b) ≡ false
second_false true b e = e
second_false false b e = refl

pub both_false : (a b : Bool) → a ≡ false → b ≡ false → (a || b) ≡ false
both_false a b ea eb = rw (ea, eb) refl

pub same_itself : (n : ℕ) → not (n == n) ≡ false
same_itself n = grind (arith, nat_tests)

pub above_in : (group a b : ℕ) → a < b → (nat_lt group group || ((group == group) && nat_lt a b)) ≡ true
above_in group a b lt = grind (arith, nat_tests)

-- what the group of a header costs in a form
abbrev pub header_cost : StoreForm → Header → ℕ
header_cost t h = h.table.packets * length_by 2 t.frames.bounds.bare h.table.layers

-- the group of this header comes after these groups, and there is room for it
pub record IsNextGroup (t : StoreForm) (session : List ℕ) (most : ℕ) (gs : List (ℕ × Packets))
    (h : Header) : Type 0 where
  pub below : All (λ x. x < h.group) (keys_of gs)
  pub same_session : h.session ≡ session
  pub same_count : list_any (λ e. not (e.1.header.groups == h.groups)) gs ≡ false
  pub room : sum_by (λ e. cost_in_form t e.1) gs + header_cost t h ≤ most

module _ (t : StoreForm) (form : IsStoreForm t) (session : List ℕ) (limit : ℕ) (gs : List (ℕ × Packets)) (h : Header)
    (next : IsNextGroup t session limit gs h) where
  -- the set of the groups before, and with so many slots of this one
  abbrev pub before : KeptSet
  before = record { session = session; limit = limit; groups = gs }

  abbrev pub opened : List (Option (List ℕ)) → KeptSet
  opened slots =
      record {
        session = session;
        limit = limit;
        groups = gs ++ ((h.group, record { header = h; word = 2; slots = slots }) ∷ []);
      }

  not_open : open_group before h.group ≡ None
  not_open = lookup_past gs h.group next.below

  is_open : (slots : List (Option (List ℕ)))
      → open_group (opened slots) h.group ≡ Some (record { header = h; word = 2; slots = slots })
  is_open slots = lookup_end gs h.group (record { header = h; word = 2; slots = slots }) next.below

  pub none_opens : (last : Last) (n : ℕ) (payload : List ℕ) → is_above last (fields_with h n payload) ≡ true
      → frame_fault_in t before last (fields_with h n payload) ≡ None
  none_opens last n payload above =
      let fits : costs_in t before + cost_of_frame t (fields_with h n payload) ≤ limit =
      omega (
        arith,
        next.room,
        ap (λ (w : ℕ). h.table.packets * length_by w t.frames.bounds.bare h.table.layers) form.word,
      ) in
      no_fault t before last (fields_with h n payload) (record {
        session = next.same_session;
        above = above;
        count = next.same_count;
        table =
            ap (λ (o : Option Packets). option_map_or (λ p. not (same_table p.header.table h.table)) o false) not_open;
        room =
            second_false (is_none (open_group before h.group))
            (nat_lt limit (costs_in t before + cost_of_frame t (fields_with h n payload)))
            (le-ltb limit (costs_in t before + cost_of_frame t (fields_with h n payload)) fits);
      })

  pub keep_opens : (n : ℕ) (payload : List ℕ)
      → keep before (fields_with h n payload) ≡ opened (set (replicate h.table.packets None) n (Some payload))
  unfolding keep_by
  keep_opens n payload =
      ap (λ (o : Option Packets). record before {
        groups = insert_entry nat_cmp gs h.group
            (with_packet (unwrap_or o (no_packets h)) n payload);
      }) not_open
      ∙ ap (λ es. record before { groups = es })
      (insert_end gs h.group (with_packet (no_packets h) n payload) next.below)

  pub none_goes_on : (slots : List (Option (List ℕ))) (last : Last) (n : ℕ) (payload : List ℕ)
      → is_above last (fields_with h n payload) ≡ true
      → frame_fault_in t (opened slots) last (fields_with h n payload) ≡ None
  none_goes_on slots last n payload above =
      let p : Packets = record { header = h; word = 2; slots = slots } in
      no_fault t (opened slots) last (fields_with h n payload) (record {
        session = next.same_session;
        above = above;
        count =
            list_any-append (λ (e : ℕ × Packets). not (e.1.header.groups == h.groups)) gs ((h.group, p) ∷ [])
            ∙ both_false (list_any (λ (e : ℕ × Packets). not (e.1.header.groups == h.groups)) gs)
            (not (h.groups == h.groups) || false) next.same_count
            (both_false (not (h.groups == h.groups)) false (same_itself h.groups) refl);
        table =
            ap (λ (o : Option Packets). option_map_or (λ q. not (same_table q.header.table h.table)) o false)
            (is_open slots)
            ∙ ap not ((same_table-exact h.table h.table).1 refl);
        room =
            ap (λ (o : Option Packets). is_none o
            && nat_lt limit (costs_in t (opened slots) + cost_of_frame t (fields_with h n payload))) (is_open slots);
      })

  pub keep_goes_on : (slots : List (Option (List ℕ))) (n : ℕ) (payload : List ℕ)
      → keep (opened slots) (fields_with h n payload) ≡ opened (set slots n (Some payload))
  unfolding keep_by
  keep_goes_on slots n payload =
      let p : Packets = record { header = h; word = 2; slots = slots } in
      ap (λ (o : Option Packets). record before {
        groups = insert_entry nat_cmp (gs ++ ((h.group, p) ∷ [])) h.group
            (with_packet (unwrap_or o (no_packets h)) n payload);
      }) (is_open slots)
      ∙ ap (λ es. record before { groups = es }) (insert_at_end gs h.group p (with_packet p n payload) next.below)

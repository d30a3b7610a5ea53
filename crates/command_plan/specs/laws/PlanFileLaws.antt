-- The plan that `plan` prints is read again as one list for each group, and each is that of a certificate.
use Rattle.std.proofs.Common.{◌≡◌, ℕ, zero, suc, ◌+◌, ◌-◌, ◌<◌, ◌≤◌, true, List, [], ◌∷◌, ◌++◌, length, map, get_or}
use Rattle.std.proofs.Common.{replicate, refl, sym, ap, subst, ◌∙◌, arith}
use Rattle.std.specs.Prelude.{All, Ok, sum}
use Rattle.std.specs.List.{flat_map}
use Rattle.std.proofs.lemmas.List.{length-map}
use Rattle.std.proofs.lemmas.List.Elements.{All-head, All-tail}
use Rattle.pet_base.specs.declared.Kind.TheVariants.{Head}
use Rattle.pet_base.specs.declared.limits.TheConstants.{MAX_PLAN_FILE}
use Rattle.mpeg_scan.specs.Pieces.{pieces_of}
use Rattle.priority_file.specs.Priority.{Rule, Priorities}
use Rattle.priority_file.specs.laws.PriorityLaws.{packets-in_range, layer_of-within}
use Rattle.priority_file.specs.Refusals.{priorities_of}
use Rattle.layer_split.specs.Groups.{groups_of}
use Rattle.stripe_plan.specs.declared.layer.LayerSize.{LayerSize}
use Rattle.stripe_plan.specs.Layers.{needs_of, AllNeeded, plan_ends, stripes_from}
use Rattle.stripe_plan.specs.Sizes.{Sizes, IsTable}
use Rattle.stripe_plan.specs.Stripes.{IsPartition, stripes_of}
use Rattle.stripe_plan.specs.laws.StripeLaws.{plan_partition}
use Rattle.stripe_plan.proofs.PlanLemmas.{plan_ends_plan}
use Rattle.plan_cert.specs.Certificates.{IsCertificate, starts_of}
use Rattle.plan_cert.specs.laws.CertificateLaws.{plan_certificate, plan_sum}
use Rattle.stream_session.specs.Accepted.{IsAcceptedSession}
use Rattle.stream_session.specs.laws.FitLaws.{IsWithinBounds, tables_stand}
use Rattle.stream_session.specs.Number.{session_number}
use Rattle.stream_session.specs.laws.SessionOfLaws.{accepted_lawful}
use Rattle.stream_session.specs.laws.SessionLaws.{number_short, tables_few, tables_some, AreNamed, layers_named}
use Rattle.text_plan.specs.declared.plan_file.Repeat.{Repeat}
use Rattle.text_plan.specs.PlanFile.{lists_of}
use Rattle.text_plan.specs.laws.PlanFileLaws.{name_plain, name_short, printed_lists}
use Rattle.text_plan.specs.laws.PlanLengthLaws.{printed_short}
use Rattle.text_plan.specs.PlanLines.{rows_of, plan_lengths}
use Rattle.text_plan.specs.PlanText.{repeat_of_row, plan_lists}
use Rattle.text_plan.specs.laws.ReadingLaws.{lacks}
use Rattle.text_plan.specs.laws.RowLaws.{rows_back}
use Rattle.command_plan.specs.Certified.{IsLeastAt, AreLeast}
use Rattle.command_plan.specs.Least.{IsLeast, lengths_in, starts_by}
use Rattle.command_plan.specs.SessionPlan.{session_plan}
use Rattle.stream_session.specs.Sessions.{tables_in}

-- the starts of stripes on end are those that their lengths make
starts_same : (needs : List ℕ) (at : ℕ) (ends : List ℕ) → IsPartition needs at ends
    → starts_by at (map (λ stripe. stripe.1) (stripes_of at ends)) ≡ starts_of at ends
starts_same needs at [] part = refl
starts_same needs at (end ∷ ends) part =
    let along : at + (end - at) ≡ end = omega (arith, part.0.begun) in
    ap (◌∷◌ at)
    (ap (λ n. starts_by n (map (λ stripe. stripe.1) (stripes_of end ends))) along ∙ starts_same needs end ends part.1)

-- rows list the lengths that they list in the plan file
lengths_of_rows : (rows : List (ℕ × ℕ))
    → lengths_in (map repeat_of_row rows) ≡ flat_map (λ row. replicate row.1 row.0) rows
lengths_of_rows [] = refl
lengths_of_rows (row ∷ rows) = ap (◌++◌ (replicate row.1 row.0)) (lengths_of_rows rows)

-- what the plan file lists for a group
abbrev list_of : List LayerSize → List Repeat
list_of layers = map repeat_of_row (rows_of (plan_lengths layers))

lengths_again : (layers : List LayerSize) → lengths_in (list_of layers) ≡ plan_lengths layers
lengths_again layers = lengths_of_rows (rows_of (plan_lengths layers)) ∙ rows_back (plan_lengths layers)

plan_starts : (layers : List LayerSize) → AllNeeded layers
    → starts_by 0 (plan_lengths layers) ≡ starts_of 0 (plan_ends layers)
unfolding stripes_from
plan_starts layers needed =
    starts_same (needs_of layers) 0 (plan_ends layers)
    (plan_partition (needs_of layers) 0 (plan_ends layers) (plan_ends_plan layers needed))

-- it is that of a certificate
list_least : (layers : List LayerSize) → AllNeeded layers → IsLeast layers (list_of layers)
list_least layers needed = record {
  sums = ap sum (lengths_again layers) ∙ plan_sum layers needed;
  certificate =
      subst (IsCertificate (needs_of layers))
      (sym (ap (starts_by 0) (lengths_again layers) ∙ plan_starts layers needed)) (plan_certificate layers needed);
}

each_least : (tables : List Sizes) → All IsWithinBounds tables → (group : ℕ) → group < length tables
    → IsLeastAt tables (plan_lists tables) group
each_least [] stand group lt = absurd (omega (arith, lt))
each_least (table ∷ tables) stand zero lt =
    let own : IsTable table.packets table.layers = All-head IsWithinBounds table tables stand in
    record {
      table = table;
      list = list_of table.layers;
      table_there = refl;
      list_there = refl;
      least = list_least table.layers own.needed;
    }
each_least (table ∷ tables) stand (suc group) lt =
    let later = each_least tables (All-tail IsWithinBounds table tables stand) group (omega (arith, lt)) in
    record {
      table = later.table;
      list = later.list;
      table_there = later.table_there;
      list_there = later.list_there;
      least = later.least;
    }

-- so for each group
lists_least : (tables : List Sizes) → All IsWithinBounds tables → AreLeast tables (plan_lists tables)
lists_least tables stand =
    record { many = length-map tables (λ table. list_of table.layers); each = each_least tables stand }

-- A plan text as a plan file: it is short enough, and lists a certificate for each group.
pub record IsReadAgain (p b : List ℕ) : Type 0 where
  pub short : length (session_plan p b) ≤ MAX_PLAN_FILE
  pub read : lists_of (session_plan p b) ≡ Ok (plan_lists (tables_in p b))
  pub least : AreLeast (tables_in p b) (plan_lists (tables_in p b))

-- that of an accepted session is
pub read_again : (p b : List ℕ) → IsAcceptedSession p b → IsReadAgain p b
read_again p b accepted =
    let lawful = accepted_lawful p accepted.priority_read in
    let rules : Priorities = priorities_of p in
    let tables : List Sizes = tables_in p b in
    let named : AreNamed rules.layers = layers_named p accepted.priority_read in
    let stand : All IsWithinBounds tables = tables_stand rules (pieces_of b) lawful named.few accepted.fits in
    let few = tables_few rules (pieces_of b) accepted.fits in
    let packets = (packets-in_range rules lawful).1 in
    let layers : 0 < length rules.layers = omega (arith, layer_of-within rules lawful Head) in
    let plain : All (λ (rule : Rule). lacks 10 rule.name ≡ true) rules.layers = λ k d lt. name_plain
    (get_or rules.layers k d).name (named.names k d lt) in
    let sized : All (λ (rule : Rule). length rule.name ≤ 16) rules.layers = λ k d lt. name_short
    (get_or rules.layers k d).name (named.names k d lt) in
    record {
      short = printed_short (session_number p b) rules tables (number_short p b) packets sized few stand;
      read =
          printed_lists (session_number p b) rules tables plain packets few
          (record { bounds = stand; some_words = tables_some rules (groups_of (pieces_of b)) layers });
      least = lists_least tables stand;
    }

-- That the lengths that a plan file lists for the groups of a session are certificates of fewest
-- stripes. This project's own.
use Rattle.std.specs.Prelude.{◌≡◌, ℕ, ◌<◌, ◌≤◌, List, length, slice_get, Some, Ok}
use Rattle.pet_base.specs.declared.limits.TheConstants.{MAX_PLAN_FILE}
use Rattle.pet_base.specs.Seen.{Seen}
use Rattle.stripe_plan.specs.Sizes.{Sizes}
use Rattle.outside_files.specs.Inputs.{IsFile}
use Rattle.text_plan.specs.declared.plan_file.Repeat.{Repeat}
use Rattle.text_plan.specs.PlanFile.{lists_of}
use Rattle.command_plan.specs.Least.{IsLeast}
use Rattle.stream_session.specs.Sessions.{HasSession, tables_in}

-- the lengths that are listed for this group are those of a certificate
pub record IsLeastAt (tables : List Sizes) (lists : List (List Repeat)) (group : ℕ) : Type 0 where
  pub table : Sizes
  pub list : List Repeat
  pub table_there : slice_get tables group ≡ Some table
  pub list_there : slice_get lists group ≡ Some list
  pub least : IsLeast table.layers list

-- so for each group, and there is one list for each
pub record AreLeast (tables : List Sizes) (lists : List (List Repeat)) : Type 0 where
  pub many : length lists ≡ length tables
  pub each : (group : ℕ) → group < length tables → IsLeastAt tables lists group

-- the first group of which that does not hold
pub record IsFirstNotLeast (tables : List Sizes) (lists : List (List Repeat)) (group : ℕ) : Type 0 where
  pub many : length lists ≡ length tables
  pub within : group < length tables
  pub before : (earlier : ℕ) → earlier < group → IsLeastAt tables lists earlier
  pub not_least : IsLeastAt tables lists group → ⊥

-- the three files: a session, and a plan file
pub record HasPlanFile (old : Seen) (stream priority plan : List ℕ) : Type 0 where
  pub session : HasSession old stream priority
  pub plan_bytes : List ℕ
  pub plan_file : IsFile old.files plan plan_bytes

-- the tables of the session's groups
abbrev pub tables_of_files : {old : Seen} {stream priority plan : List ℕ}
    → HasPlanFile old stream priority plan → List Sizes
tables_of_files files = tables_in files.session.priority_bytes files.session.stream_bytes

-- the plan file, of no more than its limit, lists these lengths
pub record Lists (old : Seen) (stream priority plan : List ℕ) (lists : List (List Repeat)) : Type 0 where
  pub files : HasPlanFile old stream priority plan
  pub short : length files.plan_bytes ≤ MAX_PLAN_FILE
  pub read : lists_of files.plan_bytes ≡ Ok lists

-- the lists are certificates of the session's groups
pub record IsCertified (old : Seen) (stream priority plan : List ℕ) : Type 0 where
  pub lists : List (List Repeat)
  pub listed : Lists old stream priority plan lists
  pub least : AreLeast (tables_of_files listed.files) lists

-- What an end tells of failures, as its status does, and so that the first failure ended the run.
use Rattle.std.proofs.Common.{◌≡◌, ◌≤◌, ◌+◌, ℕ, Bool, false, List, [], refl, sym, subst, ◌∙◌, ◌≢◌}
use Rattle.pet_base.specs.OutsideSeen.{OutsideSeen}
use Rattle.pet_base.specs.LinkSeen.{LinkSeen, LinkStops}
use Rattle.pet_base.specs.Seen.{Seen, PlaceStops}
use Rattle.text_status.specs.declared.status.Status.{Status}
use Rattle.text_status.specs.Statuses.{fault_text}
use Rattle.text_status.specs.declared.status.Status.TheVariants.{Done, OutFault}
use Rattle.pet_tool.specs.Runs.{Runs, OnFiles, OnMemory}
use Rattle.stream_session.specs.declared.fault.SessionFault.{SessionFault}
use Rattle.stream_session.specs.declared.fault.SessionFault.TheVariants as session
use Rattle.pet_tool.specs.Statuses.{of_place, of_link, status_of_session}
use Rattle.pet_tool.specs.Told.{Tells}
use Rattle.pet_text.specs.laws.ToldLaws.{strikes}

-- The status tells of a failure of the place, or of the link, where the end does; and an end that has a line tells of
-- none.
pub record Agrees (failed_place failed_link : Bool) (line : List ℕ) (status : Status) : Type 0 where
  pub place : of_place status ≡ failed_place
  pub link : of_link status ≡ failed_link
  pub lined : line ≢ [] → (failed_place ≡ false) × (failed_link ≡ false)

pub lined_as : {status : Status} (line : List ℕ) → of_place status ≡ false → of_link status ≡ false
    → Agrees false false line status
lined_as line place link = record { place = place; link = link; lined = λ some. (refl, refl) }

pub lined : (line : List ℕ) → Agrees false false line Done
lined line = lined_as line refl refl

pub unlined : {failed_place failed_link : Bool} {status : Status} → of_place status ≡ failed_place
    → of_link status ≡ failed_link → Agrees failed_place failed_link [] status
unlined place link = record { place = place; link = link; lined = λ some. absurd (some refl) }

pub of_session : (fault : SessionFault) → Agrees false false [] (status_of_session fault)
of_session (session.ManyPackets packets) = unlined refl refl
of_session (session.GroupTooLong group) = unlined refl refl
of_session session.TooManyGroups = unlined refl refl
of_session (session.ByteLong group) = unlined refl refl
of_session (session.TooWide group) = unlined refl refl
of_session (session.TooLarge group) = unlined refl refl
of_session session.NoMemory = unlined refl refl

-- A command ended so: it was handed these two values, which are those of its words, did this with them, and the first
-- failure ended it. Whatever is then told of its end, it has done so what it does.
pub runs_so : {E A B : Type 0} {place link : E → Bool} (line_of : E → List ℕ) (status_of : E → Status)
    (agrees : (e : E) → Agrees (place e) (link e) (line_of e) (status_of e))
    (Did : A → B → OutsideSeen → OutsideSeen → E → Type 0) {a x : A} {b y : B} (before between : OutsideSeen) (e : E)
    → a ≡ x → b ≡ y → Did a b before between e → PlaceStops (place e) before.place between.place
    → LinkStops (link e) before.link between.link
    → (told : OutsideSeen) (status : Status) → Tells (line_of e) (status_of e) between told status
    → Runs line_of status_of (Did x y) before told status
runs_so line_of status_of agrees Did {a} {x} {b} {y} before between e a_is b_is did placed linked told status tells =
    let its = agrees e in
    record {
      between = between;
      end = e;
      did = subst (λ v. Did x v before between e) b_is (subst (λ u. Did u b before between e) a_is did);
      tells = tells;
      once =
          strikes fault_text OutFault of_place of_link refl refl (line_of e) (status_of e) before between told status tells
          (λ some. let none = its.lined some in (its.place ∙ none.0, its.link ∙ none.1))
          (record {
            place = subst (λ (f : Bool). PlaceStops f before.place between.place) (sym its.place) placed;
            link = subst (λ (f : Bool). LinkStops f before.link between.link) (sym its.link) linked;
          });
    }

-- or it was handed three
pub runs_of_three : {E A B C : Type 0} {place link : E → Bool} (line_of : E → List ℕ) (status_of : E → Status)
    (agrees : (e : E) → Agrees (place e) (link e) (line_of e) (status_of e))
    (Did : A → B → C → OutsideSeen → OutsideSeen → E → Type 0) {a x : A} {b y : B} {c z : C} (before between : OutsideSeen)
    (e : E) → a ≡ x → b ≡ y → c ≡ z → Did a b c before between e → PlaceStops (place e) before.place between.place
    → LinkStops (link e) before.link between.link
    → (told : OutsideSeen) (status : Status) → Tells (line_of e) (status_of e) between told status
    → Runs line_of status_of (Did x y z) before told status
runs_of_three line_of status_of agrees Did {a} {x} {b} {y} {c} {z} before between e a_is b_is c_is did =
    runs_so line_of status_of agrees (λ u v. Did u v z) before between e a_is b_is
    (subst (λ w. Did a b w before between e) c_is did)

-- what it did was with files alone
pub with_files : {E : Type 0} {Did : Seen → Seen → E → Type 0} {before after : OutsideSeen} {e : E}
    → after.link ≡ before.link → after.written ≡ before.written → after.out_faults ≡ before.out_faults
    → Did before.place after.place e → OnFiles Did before after e
with_files link written faults did = record { link = link; written = written; out_faults = faults; did = did }

-- or with memory alone
pub with_memory : {E : Type 0} {Did : E → Type 0} {most : ℕ} {before after : OutsideSeen} {e : E}
    → after.place ≡ before.place → after.link ≡ before.link → after.written ≡ before.written
    → after.out_faults ≡ before.out_faults → after.steps ≤ before.steps + most → Did e
    → OnMemory Did most before after e
with_memory place link written faults cost did = record {
  place = place;
  link = link;
  written = written;
  out_faults = faults;
  cost = cost;
  did = did;
}

-- so ended a command on files alone
pub files_so : {E A B : Type 0} {failed : E → Bool} (line_of : E → List ℕ) (status_of : E → Status)
    (agrees : (e : E) → Agrees (failed e) false (line_of e) (status_of e)) (Did : A → B → Seen → Seen → E → Type 0)
    {a x : A} {b y : B} (before between : OutsideSeen) (e : E)
    → a ≡ x → b ≡ y → between.link ≡ before.link → between.written ≡ before.written
    → between.out_faults ≡ before.out_faults → Did a b before.place between.place e
    → PlaceStops (failed e) before.place between.place
    → (told : OutsideSeen) (status : Status) → Tells (line_of e) (status_of e) between told status
    → Runs line_of status_of (OnFiles (Did x y)) before told status
files_so line_of status_of agrees Did before between e a_is b_is link written faults did placed =
    runs_so line_of status_of agrees (λ u v. OnFiles (Did u v)) before between e a_is b_is
    (with_files link written faults did) placed (subst (λ (l : LinkSeen). LinkStops false before.link l) (sym link) refl)

-- or one that was handed three values
pub files_of_three : {E A B C : Type 0} {failed : E → Bool} (line_of : E → List ℕ) (status_of : E → Status)
    (agrees : (e : E) → Agrees (failed e) false (line_of e) (status_of e)) (Did : A → B → C → Seen → Seen → E → Type 0)
    {a x : A} {b y : B} {c z : C} (before between : OutsideSeen) (e : E)
    → a ≡ x → b ≡ y → c ≡ z → between.link ≡ before.link → between.written ≡ before.written
    → between.out_faults ≡ before.out_faults → Did a b c before.place between.place e
    → PlaceStops (failed e) before.place between.place
    → (told : OutsideSeen) (status : Status) → Tells (line_of e) (status_of e) between told status
    → Runs line_of status_of (OnFiles (Did x y z)) before told status
files_of_three line_of status_of agrees Did {a} {x} {b} {y} {c} {z} before between e a_is b_is c_is link written faults did =
    files_so line_of status_of agrees (λ u v. Did u v z) before between e a_is b_is link written faults
    (subst (λ w. Did a b w before.place between.place e) c_is did)

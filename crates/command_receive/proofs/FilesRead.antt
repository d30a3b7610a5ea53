-- What stands in LAYERS and STORE, from what was read and what stands in STORE then.
use Rattle.std.proofs.Common.{◌≡◌, ◌⊎◌, ◌<◌, ℕ, List, [], ◌∷◌, None, Some, ap, subst, ◌∙◌, arith, inl, inr}
use Rattle.pet_base.specs.OutsideSeen.{OutsideSeen}
use Rattle.outside_files.specs.Wrote.{File, Wrote}
use Rattle.outside_files.specs.laws.WroteLaws.{Wrote-then}
use Rattle.outside_routes.specs.Way.{Way}
use Rattle.field_elements.specs.Gf16.{gf16_coding}
use Rattle.packet_frame.specs.declared.format.TheConstants.{FORMAT}
use Rattle.packet_verdicts.specs.KeptSet.{KeptSet}
use Rattle.packet_met.specs.Kept.{kept_of}
use Rattle.packet_reading.specs.Layers.{ReadsLayersIn}
use Rattle.packet_reading.specs.laws.ReadLaws.{read_still}
use Rattle.store_text.specs.Files.{store_file}
use Rattle.command_receive.specs.Receives.{IsRead, layers_file, kept_file, Reads, StoresFront}

module _ (from : Way) (session layers store : List ℕ) (before new stored : OutsideSeen) (kept : KeptSet)
    (r : ReadsLayersIn FORMAT (λ a. a < 65536) gf16_coding from session layers before new)
    (same : kept ≡ kept_of session r.read) (link : stored.link ≡ new.link) where
  pub input_read : IsRead from r.read before stored
  input_read = read_still from r.read before new stored link r.input

  -- the store of what the receiver has kept is that of what was read
  pub kept_is : store_file store kept ≡ kept_file store session r.read
  kept_is = ap (store_file store) same

  -- the whole reading, and the store
  abbrev pub reads_all : stored.steps ≡ new.steps → Wrote (store_file store kept ∷ []) None new.place stored.place
      → Reads from session layers store before stored
  reads_all counted written =
      let whole : Wrote (kept_file store session r.read ∷ []) None new.place stored.place =
      subst (λ (f : File). Wrote (f ∷ []) None new.place stored.place) kept_is written in
      record {
        read = r.read;
        text = r.text;
        few = r.few;
        input = input_read;
        is_text = r.is_text;
        files =
            Wrote-then (layers_file layers r.text ∷ [])
            (kept_file store session r.read ∷ []) None before.place new.place stored.place r.file whole;
        steps = omega (arith, r.steps, counted);
      }

  -- the store could not be written
  pub store_leaves : (stored.place.files ≡ new.place.files)
      ⊎ Wrote [] (Some (store_file store kept)) new.place stored.place
      → StoresFront from session layers store before stored
  store_leaves front = record {
    read = r.read;
    text = r.text;
    few = r.few;
    input = input_read;
    is_text = r.is_text;
    files = by front;
  }
    where
      by : (stored.place.files ≡ new.place.files) ⊎ Wrote [] (Some (store_file store kept)) new.place stored.place
          → Wrote (layers_file layers r.text ∷ []) None before.place stored.place
          ⊎ Wrote (layers_file layers r.text ∷ []) (Some (kept_file store session r.read)) before.place stored.place
      by (inl same_files) = inl (same_files ∙ r.file)
      by (inr part) =
          inr (Wrote-then (layers_file layers r.text ∷ []) [] (Some (kept_file store session r.read)) before.place
          new.place stored.place r.file
          (subst (λ (f : File). Wrote [] (Some f) new.place stored.place) kept_is part))

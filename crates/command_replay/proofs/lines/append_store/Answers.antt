use Rattle.std.proofs.Common.{◌≡◌, ℕ, List, ◌++◌, sym, ap, ◌∙◌}
use Rattle.std.proofs.lemmas.List.{append-nil}
use Rattle.outside_files.specs.laws.OutputLaws.{on_ok}
use Rattle.pet_receive.specs.Arrivals.{kept_set}
use Rattle.store_text.specs.Store.{store_text}
use Rattle.text_world.specs.ReplayLines.{kept_text}
use Rattle.command_replay.specs.ReplayText.{digest_of}
use Rattle.command_replay.proofs.LinesOfWorld.{no_line, its_line}
use Rattle.command_replay.proofs.lines.append_store.Goals as goal

pub returns-then-kept-eq0 : goal.returns-then-kept-eq0
returns-then-kept-eq0 c = record {
  line =
      λ s limit pairs lawful is.
      let old = c.args.text.now.items in
      sym (append-nil old)
      ∙ ap (λ (t : List ℕ). old ++ t)
      (sym (no_line s limit pairs (kept_set c.args.receiver.now) lawful is c.args.number c.kept-kept.result
      c.kept-kept.ensures c.if-kept-eq0.true));
}

pub returns : goal.returns
returns c = record {
  line =
      on_ok c.store_line.result
      (λ grown s limit pairs lawful is.
      let text : c.deref.result.now ≡ store_text (kept_set c.args.receiver.now) =
      c.deref.ensures.value ∙ c.in_ok-write_store.ensures.text
      ∙ ap (λ (t : List ℕ). t ++ store_text (kept_set c.args.receiver.now)) c.new-store.ensures.items in
      grown
      ∙ ap (λ (d : List ℕ). c.args.text.now.items ++ kept_text c.args.number c.kept-kept.result d)
      (c.digest_begin.ensures ∙ ap digest_of text)
      ∙ ap (λ (t : List ℕ). c.args.text.now.items ++ t)
      (sym (its_line s limit pairs (kept_set c.args.receiver.now) lawful is c.args.number c.kept-kept.result
      c.kept-kept.ensures c.if-kept-eq0.false)))
      c.store_line.ensures.ok;
}

use Rattle.std.proofs.Common.{◌≡◌, ℕ, zero, suc, ◌≤◌, List, [], ◌∷◌, ◌++◌, length, sym, ap, subst, ◌∙◌, arith, rules}
use Rattle.std.specs.Prelude.{slice_get, Some}
use Rattle.std.proofs.lemmas.List.{length_push, length-map}
use Rattle.std.proofs.lemmas.Option.{none-some, same_Some}
use Rattle.layer_split.specs.Layers.{Cut}
use Rattle.packet_session.specs.Encoding.{Encoding}
use Rattle.stream_session.specs.Accepted.{group_of}
use Rattle.stream_session.specs.Tables.{cuts_of_stream}
use Rattle.command_replay.specs.inside.Held.{IsEncoderAt, held_session}
use Rattle.command_replay.proofs.encoders.session_encoders.Goals as goal

-- what holds of each and of one more
each_more : {A : Type 0} (xs : List A) (x : A) (P : ℕ → A → Type 0)
    → ((i : ℕ) (e : A) → slice_get xs i ≡ Some e → P i e) → P (length xs) x → (i : ℕ) (e : A)
    → slice_get (xs ++ x ∷ []) i ≡ Some e → P i e
each_more [] x P each last zero e is = subst (P 0) (same_Some x e is) last
each_more [] x P each last (suc i) e is = absurd (none-some e is)
each_more (y ∷ ys) x P each last zero e is = each zero e is
each_more (y ∷ ys) x P each last (suc i) e is =
    each_more ys x (λ j. P (suc j)) (λ j. each (suc j)) last i e is

pub loop-group-preserved : goal.loop-group-preserved
loop-group-preserved c =
    let s = held_session c.args.whole.now in
    let before = c.loop-group.encoders.items in
    let encoder = c.in_ok-encoder.encoder in
    let pushed : c.push.new.self.items ≡ before ++ encoder ∷ [] = search rules in
    let its : IsEncoderAt s (length before) encoder =
    subst (λ n. IsEncoderAt s n encoder) (sym c.loop-group.invariant.many) c.in_ok-encoder.ensures.encoder in
    record {
      many = ap length pushed ∙ omega (arith, length_push before encoder, c.loop-group.invariant.many);
      few = search rules;
      each =
          λ i e is.
          each_more before encoder (IsEncoderAt s) c.loop-group.invariant.each its i e
          (ap (λ (es : List Encoding). slice_get es i) (sym pushed) ∙ is);
    }

pub returns : goal.returns
returns c =
    let whole = c.args.whole.now in
    let end : length c.in_ok-cuts.cuts.items ≤ c.loop-group.group = search rules in
    let cuts : List Cut = cuts_of_stream whole.source.priority whole.bytes.items in
    record {
      encoders =
          record {
            many =
                omega (
                  arith,
                  c.loop-group.invariant.many,
                  c.loop-group.invariant.few,
                  end,
                  ap (λ (l : List Cut). length l) c.in_ok-cuts.ensures.cuts,
                  length-map cuts (group_of whole.source.priority whole.bytes.items),
                );
            each = c.loop-group.invariant.each;
          };
    }

-- What follows from the laws of a commutative field, for the callers of any field. Textbook algebra.
use Rattle.std.proofs.Common.{◌≡◌, ◌≢◌, sym, ap, ap₂, ◌∙◌}
use Rattle.field_elements.specs.Field.{Operations, IsField}

module _ {E : Type 0} (P : E → Type 0) (o : Operations E) (f : IsField P o) where
  pub zero-plus : (a : E) → P a → o.plus o.nought a ≡ a
  zero-plus a h = f.plus_comm o.nought a f.zero_is h ∙ f.plus-zero a h

  pub plus_swap : (a b c d : E) → P a → P b → P c → P d
      → o.plus (o.plus a b) (o.plus c d) ≡ o.plus (o.plus a c) (o.plus b d)
  plus_swap a b c d ha hb hc hd =
      f.plus_assoc a b (o.plus c d) ha hb (f.plus_is c d hc hd)
      ∙ ap (o.plus a)
      (sym (f.plus_assoc b c d hb hc hd) ∙ ap (λ x. o.plus x d) (f.plus_comm b c hb hc) ∙ f.plus_assoc c b d hc hb hd)
      ∙ sym (f.plus_assoc a c (o.plus b d) ha hc (f.plus_is b d hb hd))

  -- what is added to both sides goes
  plus_undo : (a c : E) → P a → P c → o.plus (o.plus a c) (o.minus o.nought c) ≡ a
  plus_undo a c ha hc =
      let n = f.minus_is o.nought c f.zero_is hc in
      f.plus_assoc a c (o.minus o.nought c) ha hc n
      ∙ ap (o.plus a) (f.plus_comm c (o.minus o.nought c) hc n ∙ f.minus-plus o.nought c f.zero_is hc)
      ∙ f.plus-zero a ha

  pub plus_cancel : (a b c : E) → P a → P b → P c → o.plus a c ≡ o.plus b c → a ≡ b
  plus_cancel a b c ha hb hc e =
      sym (plus_undo a c ha hc) ∙ ap (λ x. o.plus x (o.minus o.nought c)) e ∙ plus_undo b c hb hc

  pub times-zero : (a : E) → P a → o.times a o.nought ≡ o.nought
  times-zero a h =
      let z = f.times_is a o.nought h f.zero_is in
      plus_cancel (o.times a o.nought) o.nought (o.times a o.nought) z f.zero_is z
      (sym (f.times-plus a o.nought o.nought h f.zero_is f.zero_is) ∙ ap (o.times a) (f.plus-zero o.nought f.zero_is)
      ∙ sym (zero-plus (o.times a o.nought) z))

  pub no_zero_divisors : (a b : E) → P a → P b → a ≢ o.nought → o.times a b ≡ o.nought → b ≡ o.nought
  no_zero_divisors a b ha hb ne e =
      let i = f.inverse a ha ne in
      let one : o.times i.0 a ≡ o.unit = f.times_comm i.0 a i.1 ha ∙ i.2 in
      sym (f.times-one b hb) ∙ f.times_comm b o.unit hb f.one_is ∙ ap (λ x. o.times x b) (sym one)
      ∙ f.times_assoc i.0 a b i.1 ha hb ∙ ap (o.times i.0) e
      ∙ times-zero i.0 i.1

  pub minus-zero : (a b : E) → P a → P b → o.minus a b ≡ o.nought → a ≡ b
  minus-zero a b ha hb e = sym (f.minus-plus a b ha hb) ∙ ap (λ x. o.plus x b) e ∙ zero-plus b hb

  pub plus-times : (a b c : E) → P a → P b → P c → o.times (o.plus a b) c ≡ o.plus (o.times a c) (o.times b c)
  plus-times a b c ha hb hc =
      f.times_comm (o.plus a b) c (f.plus_is a b ha hb) hc ∙ f.times-plus c a b hc ha hb
      ∙ ap₂ o.plus (f.times_comm c a hc ha) (f.times_comm c b hc hb)

  pub times_left_comm : (a b c : E) → P a → P b → P c → o.times a (o.times b c) ≡ o.times b (o.times a c)
  times_left_comm a b c ha hb hc =
      sym (f.times_assoc a b c ha hb hc) ∙ ap (λ x. o.times x c) (f.times_comm a b ha hb) ∙ f.times_assoc b a c hb ha hc

  -- an element has one inverse
  pub inverse_unique : (a b c : E) → P a → P b → P c → o.times a b ≡ o.unit → o.times a c ≡ o.unit → b ≡ c
  inverse_unique a b c ha hb hc e g =
      sym (f.times-one b hb) ∙ ap (o.times b) (sym g) ∙ times_left_comm b a c hb ha hc
      ∙ sym (f.times_assoc a b c ha hb hc) ∙ ap (λ x. o.times x c) e
      ∙ f.times_comm o.unit c f.one_is hc ∙ f.times-one c hc

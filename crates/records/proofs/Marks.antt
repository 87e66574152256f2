-- Who was had: nobody in a blank record, and what marking a sender adds and leaves. Assumes nothing.
use mathlib.Core.Path.{◌≡◌, refl, sym, subst}
use mathlib.Core.Logic.{◌⊎◌, inl, inr, ⊎_elim, ◌↔◌}
use Prim.Native.Nat.{ℕ}
use Rattle.nodes.specs.Sets.{In, with}
use Rattle.nodes.proofs.Operations.{in_with}
use Rattle.records.specs.declared.messages.Kind.{Kind}
use Rattle.records.specs.declared.messages.Kind.TheVariants.{Notify, Grant, Ack, Done}
use Rattle.records.specs.Records.{State, blank_of, had_of, mark_of}

-- in a blank record nobody was had
pub blank_had : (k : Kind) (round : ℕ) → had_of k (blank_of round) ≡ 0
blank_had Notify round = refl
blank_had Grant round = refl
blank_had Ack round = refl
blank_had Done round = refl

module _ (from : ℕ) (s : State) where
  pub mark_round : (kind : Kind) → (mark_of kind from s).round ≡ s.round
  mark_round Notify = refl
  mark_round Grant = refl
  mark_round Ack = refl
  mark_round Done = refl

  pub mark_call : (kind : Kind) → (mark_of kind from s).call ≡ s.call
  mark_call Notify = refl
  mark_call Grant = refl
  mark_call Ack = refl
  mark_call Done = refl

  pub mark_freed : (kind : Kind) → (mark_of kind from s).freed ≡ s.freed
  mark_freed Notify = refl
  mark_freed Grant = refl
  mark_freed Ack = refl
  mark_freed Done = refl

  marked_one : (kind : Kind) → had_of kind (mark_of kind from s) ≡ with (had_of kind s) from
  marked_one Notify = refl
  marked_one Grant = refl
  marked_one Ack = refl
  marked_one Done = refl

  -- one kind is marked, and the others stay
  one_kind : (kind k : Kind) → (k ≡ kind) ⊎ (had_of k (mark_of kind from s) ≡ had_of k s)
  one_kind Notify Notify = inl refl
  one_kind Notify Grant = inr refl
  one_kind Notify Ack = inr refl
  one_kind Notify Done = inr refl
  one_kind Grant Notify = inr refl
  one_kind Grant Grant = inl refl
  one_kind Grant Ack = inr refl
  one_kind Grant Done = inr refl
  one_kind Ack Notify = inr refl
  one_kind Ack Grant = inr refl
  one_kind Ack Ack = inl refl
  one_kind Ack Done = inr refl
  one_kind Done Notify = inr refl
  one_kind Done Grant = inr refl
  one_kind Done Ack = inr refl
  one_kind Done Done = inl refl

  had_same : (kind : Kind) (a : ℕ) → In a (had_of kind (mark_of kind from s)) ↔ (In a (had_of kind s) ⊎ (a ≡ from))
  had_same kind a = rw (marked_one kind) (in_with (had_of kind s) from a)

  -- Theorem: those had are those had before, and the sender for its kind.
  pub had_marked : (kind k : Kind) (a : ℕ) → In a (had_of k (mark_of kind from s)) ↔ (In a (had_of k s) ⊎ ((k ≡ kind) × (a ≡ from)))
  had_marked kind k a = elim (one_kind kind k) [
    | inl e ↦ rw e (
      λ m. ⊎_elim (λ (h : In a (had_of kind s)). inl h) (λ (h : a ≡ from). inr (refl, h)) ((had_same kind a).0 m),
      λ h. (had_same kind a).1 (⊎_elim (λ (g : In a (had_of kind s)). inl g) (λ (g : (kind ≡ kind) × (a ≡ from)). inr g.1) h),
    )
    | inr e ↦ (
      λ m. inl (subst (λ (x : ℕ). In a x) e m),
      λ h. ⊎_elim (λ (g : In a (had_of k s)). subst (λ (x : ℕ). In a x) (sym e) g) (λ (g : (k ≡ kind) × (a ≡ from)). rw g.0 ((had_same kind a).1 (inr g.1))) h,
    )
  ]

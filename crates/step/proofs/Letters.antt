-- The messages of one step: how many and which they are, and that none stands there twice. Assumes nothing.
use mathlib.Core.Path.{◌≡◌, refl, sym, ap, ap₂, ◌∙◌, subst}
use mathlib.Core.Logic.{inl, inr, ◌↔◌}
use mathlib.Core.List.Memᴰ
use mathlib.Core.List.{List, ◌++◌, Memᴰ}
use Prim.Native.Nat.{ℕ, ◌+◌}
use lib.ListN.{length, length-map, length-append}
use Rattle.lemmas.specs.Lists.{Once}
use Rattle.lemmas.proofs.Once.{once_append, once_map, mapped, mapped_from}
use Rattle.nodes.specs.Sets.{In, members_from, members, size}
use Rattle.nodes.proofs.Inside.{none_in}
use Rattle.nodes.proofs.Members.{members_in, members_once}
use Rattle.nodes.proofs.Size.{size_members}
use Rattle.records.specs.declared.messages.Kind.{Kind}
use Rattle.records.specs.declared.messages.Kind.TheVariants.{Notify, Grant, Ack, Done}
use Rattle.records.specs.Messages.{Letter}
use Rattle.step.specs.Step.{Receivers}
use Rattle.step.specs.Letters.{letter, letters, letters_of, how_many}
use Rattle.step.specs.Sent.{to_whom}

-- ---- how many
pub letters_length : (kind : Kind) (from round s : ℕ) → length (letters kind from round s) ≡ size s
letters_length kind from round s = length-map (members s) _ ∙ sym (size_members s)

pub letters_count : (from round : ℕ) (r : Receivers) → length (letters_of from round r) ≡ how_many r
unfolding letters_of
letters_count from round r =
    length-append (letters Notify from round r.notify) _
    ∙ ap₂ ◌+◌ (letters_length Notify from round r.notify)
    (length-append (letters Grant from round r.grant) _
    ∙ ap₂ ◌+◌ (letters_length Grant from round r.grant)
    (length-append (letters Ack from round r.ack) _
    ∙ ap₂ ◌+◌ (letters_length Ack from round r.ack) (letters_length Done from round r.done)))

module _ (from round : ℕ) where
  -- ---- those of one kind
  kind_in : (kind : Kind) (s : ℕ) (m : Letter)
      → Memᴰ m (letters kind from round s) ↔ ((m.kind ≡ kind) × (m.from ≡ from) × (m.round ≡ round) × In m.to s)
  kind_in kind s m = (
    λ i. let x = mapped_from (λ k. letter kind from k round) (members s) m i in
        let e : m ≡ letter kind from x.0 round = x.2 in
        (λ j. (e j).kind, λ j. (e j).from, λ j. (e j).round, subst (λ (k : ℕ). In k s) (λ j. (sym e j).to) ((members_in s x.0).0 x.1)),
    λ h. let e : m ≡ letter kind from m.to round = λ j. record { kind = h.0 j; from = h.1 j; to = m.to; round = h.2 j } in
        subst (λ (x : Letter). Memᴰ x (letters kind from round s)) (sym e)
        (mapped (λ k. letter kind from k round) (members s) m.to ((members_in s m.to).1 h.3)),
  )

  kind_once : (kind : Kind) (s : ℕ) → Once (letters kind from round s)
  kind_once kind s = once_map (λ k. letter kind from k round) (members s) (λ x y m n e. ap (λ (l : Letter). l.to) e) (members_once s)

  -- ---- which they are
  module _ (r : Receivers) (m : Letter) where
    abbrev part : Kind → List Letter
    part k = letters k from round (to_whom r k)

    from_part : (k : Kind) → Memᴰ m (part k) → Memᴰ m (letters_of from round r)
    unfolding letters_of
    from_part Notify i = Memᴰ.append_left _ i
    from_part Grant i = Memᴰ.append_right (part Notify) (Memᴰ.append_left _ i)
    from_part Ack i = Memᴰ.append_right (part Notify) (Memᴰ.append_right (part Grant) (Memᴰ.append_left _ i))
    from_part Done i = Memᴰ.append_right (part Notify) (Memᴰ.append_right (part Grant) (Memᴰ.append_right (part Ack) i))

    some_part : Memᴰ m (letters_of from round r) → (k : Kind) × Memᴰ m (part k)
    unfolding letters_of
    some_part i = elim (Memᴰ.append_cases (part Notify) i) [
      | inl n ↦ (Notify, n)
      | inr j ↦ elim (Memᴰ.append_cases (part Grant) j) [
        | inl g ↦ (Grant, g)
        | inr k ↦ elim (Memᴰ.append_cases (part Ack) k) [
          | inl a ↦ (Ack, a)
          | inr d ↦ (Done, d)
        ]
      ]
    ]

    pub letter_in : Memᴰ m (letters_of from round r) ↔ ((m.from ≡ from) × (m.round ≡ round) × In m.to (to_whom r m.kind))
    letter_in = (
      λ i. let x = some_part i in
          let h = (kind_in x.0 (to_whom r x.0) m).0 x.1 in
          (h.1, h.2, subst (λ (k : Kind). In m.to (to_whom r k)) (sym h.0) h.3),
      λ h. from_part m.kind ((kind_in m.kind (to_whom r m.kind) m).1 (refl, h.0, h.1, h.2)),
    )

  -- ---- that none stands there twice: what follows the messages of a kind is what a step sends that sends nobody that kind
  in_front_lem : (kind : Kind) (s : ℕ) (rest : Receivers) → to_whom rest kind ≡ 0 → Once (letters_of from round rest)
      → Once (letters kind from round s ++ letters_of from round rest)
  in_front_lem kind s rest none o =
      once_append (letters kind from round s) (letters_of from round rest) (kind_once kind s) o
      (λ m i j. none_in (to_whom rest m.kind) m.to (ap (to_whom rest) ((kind_in kind s m).0 i).0 ∙ none) ((letter_in rest m).0 j).2)

  pub letters_once : (r : Receivers) → Once (letters_of from round r)
  unfolding letters_of members members_from
  letters_once r =
      in_front_lem Notify r.notify (record { notify = 0; grant = r.grant; ack = r.ack; done = r.done }) refl
      (in_front_lem Grant r.grant (record { notify = 0; grant = 0; ack = r.ack; done = r.done }) refl
      (in_front_lem Ack r.ack (record { notify = 0; grant = 0; ack = 0; done = r.done }) refl (kind_once Done r.done)))

-- `send_kind` meets its contract. Assumes nothing.
use Rattle.std.proofs.Common.{◌∙◌, ap, refl, sym, ℕ, ◌+◌, ◌<◌, length, arith}
use Rattle.std.proofs.lemmas.List.Edits.{sets}
use Rattle.nodes.specs.Words.{num, places}
use Rattle.nodes.proofs.Size.{size_members}
use Rattle.lent.proofs.Letters.{letters_numbers}
use Rattle.lent.proofs.Places.{numbers, sending_first, sending_ended, sending_member, sending_next, sending_room}
use Rattle.lent.proofs.sending.send_kind.Goals as goal

pub loop-k-init : goal.loop-k-init
loop-k-init c = record {
  first = c.base-first.ensures.1;
  sending = sending_first _ _ _ _ c.requires.1 (rw c.into_iter-k-iterator.ensures.into_iter_gives c.members-k-items.ensures);
}

pub overflow_add-messages : goal.overflow_add-messages
overflow_add-messages c =
    let l : c.in-Some.k.0 < places = sending_member _ _ _ _ _ _ _ c.loop-k.invariant.sending _ _ c.in-Some.ensures.steps in
    omega (arith, c.loop-k.invariant.first)

pub bounds-messages-place : goal.bounds-messages-place
bounds-messages-place c = sending_room _ _ _ _ _ _ _ c.loop-k.invariant.sending _ _ c.in-Some.ensures.steps (rw (← size_members) c.requires.0)

pub offset_bounds-messages-place : goal.offset_bounds-messages-place
offset_bounds-messages-place c = let l : c.loop-k.place < length c.loop-k.messages = sending_room _ _ _ _ _ _ _ c.loop-k.invariant.sending _ _ c.in-Some.ensures.steps (rw (← size_members) c.requires.0) in omega arith

pub overflow_add-place : goal.overflow_add-place
overflow_add-place c = let l : c.loop-k.place < length c.loop-k.messages = sending_room _ _ _ _ _ _ _ c.loop-k.invariant.sending _ _ c.in-Some.ensures.steps (rw (← size_members) c.requires.0) in omega arith

pub loop-k-preserved : goal.loop-k-preserved
loop-k-preserved c = record {
  first = c.loop-k.invariant.first;
  sending = sending_next _ _ _ _ _ _ _ c.loop-k.invariant.sending _ _ c.in-Some.ensures.steps refl refl;
}

pub returns : goal.returns
returns c =
    let e = sending_ended _ _ _ _ _ _ _ c.loop-k.invariant.sending c.in-None.ensures.steps.0 in (
      e.0 ∙ ap (λ (n : ℕ). c.args.at + n) (sym (size_members _)),
      e.1
          ∙ ap (λ (b : ℕ). sets c.args.messages.now c.args.at (numbers b (num c.args.to))) c.base-first.ensures.0
          ∙ ap (sets c.args.messages.now c.args.at) (letters_numbers _ _ _ _),
    )

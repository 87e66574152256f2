-- What is written answers what was read. Assumes nothing.
use Rattle.std.proofs.Common.{ℕ, ◌≤◌, List, Option, length, take, refl, sym, ap, subst, length-take-le, le_refl, inr, Ok}
use lib.Seq.{take-take}
use Rattle.std.specs.Io.KnownBytes.{Appends}
use Rattle.streams.specs.Streams.{Took}
use Rattle.streams.proofs.answer_input.Goals as goal

took_all : (old new : Option (List ℕ)) (room : List ℕ) (n : ℕ) → n ≤ length room → Took old new room (Ok n) → Took old new room (Ok (length (take n room)))
took_all old new room n within h = subst (λ k. Took old new room (Ok k)) (sym (length-take-le n room within)) h

wrote_all : (old new : Option (List ℕ)) (text : List ℕ) (n : ℕ) → Appends old new (take n text) → Appends old new (take n (take n text))
wrote_all old new text n h = subst (Appends old new) (sym (take-take n n text (le_refl n))) h

pub returns-in-Ok-write_all-clause-wrote : goal.returns-in-Ok-write_all-clause-wrote
returns-in-Ok-write_all-clause-wrote g c =
    let within = c.in-Ok.ensures.within in
    inr (
      _,
      _,
      c.answer-end.result,
      _,
      c.answer-end.ensures,
      took_all _ _ _ _ within c.in-Ok.ensures.took,
      ap (λ n. take n c.read_all.new.room) (sym (length-take-le _ _ within)),
      refl,
      refl,
      (c.answer-end.result, wrote_all _ _ _ _ c.in-Ok-write_all.ensures.whole),
    )

-- What is said of a list of steps, by whether it was taken, and the lines of messages. Assumes nothing.
use mathlib.Core.Path.{◌≡◌, sym, ap, ap₂, ◌∙◌}
use mathlib.Core.List.{List, [], ◌++◌}
use Prim.Native.Nat.{ℕ, ◌+◌, ◌≤◌, ◌<◌}
use native.Mathlib.Numerals.{add-one}
use lib.ListN.{length, get_or, drop}
use Rattle.std.specs.Prelude.{Result, Ok, Err}
use Rattle.std.proofs.lemmas.List.{at_drop_more, at_drop_all}
use Rattle.records.specs.declared.messages.Message.{Message}
use Rattle.waits.specs.declared.refusals.Refusal.{Refusal}
use Rattle.waits.specs.Numbers.{reason_number}
use Rattle.lent.specs.Coded.{message_of}
use Rattle.lines.specs.Lines.{answer_lines, refused_line}
use Rattle.transcript.specs.Transcript.{line_of, message_lines, told_of}

module _ {c : Result Unit Refusal} (answers sent : List ℕ) where
  pub told_refused : {r : Refusal} {n : ℕ} → c ≡ Err r → n ≡ reason_number r.reason → refused_line n 0 ≡ told_of c answers sent
  unfolding told_of
  told_refused e f = ap (λ (n : ℕ). refused_line n 0) f ∙ ap (λ (x : Result Unit Refusal). told_of x answers sent) (sym e)

  pub told_accepted : c ≡ Ok tt → answer_lines answers ++ message_lines 0 sent ≡ told_of c answers sent
  unfolding told_of
  told_accepted e = ap (λ (x : Result Unit Refusal). told_of x answers sent) (sym e)

-- ---- the messages of a list: what is left of their lines from message k on
module _ (list : List ℕ) (k : ℕ) where
  pub message_next : k < length list → {m : Message} → m ≡ message_of (get_or list k 0)
      → message_lines k (drop k list) ≡ line_of k m ++ message_lines (k + 1) (drop (k + 1) list)
  unfolding message_lines
  message_next h e =
      at_drop_more (message_lines k) list k 0 h
      ∙ sym (ap₂ (λ (m : Message) (j : ℕ). line_of k m ++ message_lines j (drop (k + 1) list)) e (add-one k))

  pub message_none : length list ≤ k → message_lines k (drop k list) ≡ []
  unfolding message_lines
  message_none h = at_drop_all (message_lines k) list k h

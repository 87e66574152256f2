-- What a controller's last line says, once the lines before it say nothing; and what they say, if they do. Assumes nothing.
use mathlib.Core.Path.{◌≡◌, sym, ap, ◌∙◌}
use mathlib.Core.List.{List, [], ◌∷◌}
use Prim.Native.Nat.{ℕ}
use Rattle.std.specs.Prelude.{Result, Ok, Err}
use Rattle.records.specs.declared.messages.Message.{Message}
use Rattle.records.specs.Rounds.{cannot_open}
use Rattle.records.specs.Messages.{strange_message}
use Rattle.records.specs.Records.{State}
use Rattle.waits.specs.declared.refusals.Refusal.{Refusal}
use Rattle.waits.specs.Numbers.{Line, line, first_said}
use Rattle.waits.proofs.Table.{or_else}
use Rattle.waits.proofs.Next.{Next}
use Rattle.node.specs.Refusals.{strange_kept, check_own_of, check_kept_of, check_open_of, check_deliver_of}
use Rattle.node.proofs.Refused.{kept_next, kept_refused, open_next, open_refused, deliver_next, deliver_refused}
use Rattle.waits.specs.declared.refusals.Reason.TheVariants.{CannotOpen, StrangeState}

last_line : {a s : Result Unit Refusal} (l : Line) → Next a l s → a ≡ Ok tt → s ≡ first_said (l ∷ [])
last_line l follows e = follows ∙ ap (λ (x : Result Unit Refusal). or_else x (first_said (l ∷ []))) e

module _ (n me : ℕ) (row : List ℕ) (ins : ℕ) (s : State) where
  pub kept_own : (r : Refusal) → check_own_of n me row ≡ Err r → check_kept_of n me row ins s ≡ Err r
  kept_own r e = sym (kept_refused n me row ins s e)

  pub kept_line : check_own_of n me row ≡ Ok tt → check_kept_of n me row ins s ≡ first_said (line StrangeState 0 (strange_kept n s ins) ∷ [])
  kept_line e = last_line (line StrangeState 0 (strange_kept n s ins)) (kept_next n me row ins s) e

  pub open_kept : (round : ℕ) (r : Refusal) → check_kept_of n me row ins s ≡ Err r → check_open_of n me row ins s round ≡ Err r
  open_kept round r e = sym (open_refused n me row ins s round e)

  pub open_line : (round : ℕ) → check_kept_of n me row ins s ≡ Ok tt → check_open_of n me row ins s round ≡ first_said (line CannotOpen 0 (cannot_open s.round round) ∷ [])
  open_line round e = last_line (line CannotOpen 0 (cannot_open s.round round)) (open_next n me row ins s round) e

  pub deliver_kept : (m : Message) (r : Refusal) → check_kept_of n me row ins s ≡ Err r → check_deliver_of n me row ins s m ≡ Err r
  deliver_kept m r e = sym (deliver_refused n me row ins s m e)

  pub deliver_line : (m : Message) → check_kept_of n me row ins s ≡ Ok tt → check_deliver_of n me row ins s m ≡ first_said (line StrangeState 0 (strange_message n m) ∷ [])
  deliver_line m e = last_line (line StrangeState 0 (strange_message n m)) (deliver_next n me row ins s m) e

-- `put_record` meets its contract. Assumes nothing.
use Rattle.std.proofs.Common.{◌≡◌, ℕ, List, ◌+◌, ◌≤◌, length, append_assoc, arith, refl, sym, ◌∙◌}
use Rattle.std.proofs.lemmas.List.Edits.{sets, sets-eq, paste_all}
use Rattle.std.proofs.lemmas.Slice.{put_mid-paste}
use borrow.Rule.Slice.PartMut.{put_mid}
use Rattle.lent.specs.Kept.{put_state, state_numbers}
use Rattle.nodes.specs.Words.{num}
use Rattle.records.specs.Records.{state_of}
use Rattle.records.proofs.Unique.{numbered}
use Rattle.lent.proofs.kept.put_record.Goals as goal

placed : (l vs ys : List ℕ) (i k : ℕ) → ys ≡ vs → length vs ≡ k → i + k ≤ length l → put_mid i k l ys ≡ sets l i vs
placed l vs ys i k e n h =
    put_mid-paste i k l ys vs (length vs) e n refl ∙ paste_all l i vs (length vs) refl ∙ sym (sets-eq vs l i (omega arith) ∙ append_assoc _ vs _)

pub returns : goal.returns
unfolding put_state num
returns c =
    placed _ (state_numbers (state_of c.args.r)) _ _ _ (c.copy_from_slice.ensures.after ∙ simp numbered) (omega arith) (omega arith)

-- `write_all` meets its contract. Assumes nothing.
use Rattle.std.proofs.Common.{◌≡◌, ℕ, ◌+◌, ◌-◌, List, ◌++◌, length, take, drop, rules, sym, ap, ◌∙◌, subst}
use Rattle.std.proofs.lemmas.List.{take_rest}
use lib.Seq.{take-add}
use Rattle.std.specs.Io.KnownBytes.{Appends}
use Rattle.std.proofs.KnownBytes.{Appends-trans}
use Rattle.streams.proofs.write_all.Goals as goal

-- what a write took of the rest of a text
written_behind : (done n : ℕ) (text : List ℕ) → take done text ++ take n (take (length text - done) (drop done text)) ≡ take (done + n) text
written_behind done n text = ap (λ l. take done text ++ take n l) (take_rest text done) ∙ sym (take-add done n text)

pub loop-done-preserved-in-Ok : goal.loop-done-preserved-in-Ok
loop-done-preserved-in-Ok g c =
    (search rules, subst (Appends _ _) (written_behind _ _ _) (Appends-trans _ _ _ _ _ c.loop-done.invariant.1 c.in-Ok.ensures.bytes))

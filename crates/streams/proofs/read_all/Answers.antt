-- `read_all` meets its contract. Assumes nothing.
use Rattle.std.proofs.Common.{◌≡◌, ℕ, ◌+◌, ◌≤◌, List, ◌++◌, length, take, drop, rules, sym, ap, ◌∙◌, subst, length-take-le}
use lib.Seq.{take-add, take-append-le, take_at, drop_at}
use borrow.Rule.Slice.PartMut.{put_mid, post_of}
use Rattle.std.specs.Io.KnownBytes.{Consumes}
use Rattle.std.proofs.KnownBytes.{Consumes-trans}
use Rattle.streams.proofs.read_all.Goals as goal

-- the bytes that a read put behind those that were there
read_behind : (done rest n : ℕ) (before part : List ℕ) → done ≤ length before → n ≤ length part
    → take done before ++ take n part ≡ take (done + n) (put_mid done rest before part)
read_behind done rest n before part within fits =
    let left = post_of done rest before in
    let long = length-take-le done before within in
    sym (take-add done n (put_mid done rest before part) ∙ ap (λ l. l ++ take n (drop done (put_mid done rest before part))) (take_at (take done before) (part ++ left) done long)
    ∙ ap (λ l. take done before ++ take n l) (drop_at (take done before) (part ++ left) done long) ∙ ap (λ l. take done before ++ l) (take-append-le n part left fits))

pub loop-done-preserved-in-Ok : goal.loop-done-preserved-in-Ok
loop-done-preserved-in-Ok g c =
    (search rules, subst (Consumes _ _) (read_behind _ _ _ _ _ c.loop-done.invariant.0 c.in-Ok.ensures.bound.0) (Consumes-trans _ _ _ _ _ c.loop-done.invariant.1 c.in-Ok.ensures.bytes.0))

-- `set_flaw` meets its contract. Assumes nothing.
use mathlib.Core.Path.{sym, subst}
use Prim.Native.Nat.{◌+◌}
use Rattle.std.proofs.Common.{rules}
use Rattle.std.proofs.lemmas.Iterator.Splits.{YieldsList-from_slice_split}
use Rattle.std.proofs.lemmas.Iterator.Consumers.{YieldsList-turn, YieldsList-end}
use Rattle.std.proofs.lemmas.List.{length_push}
use Rattle.std.proofs.lemmas.Result.{err_from_is_err_and}
use Rattle.lemmas.proofs.Cases.{flag}
use Rattle.fields.proofs.Finding.{split_turn, split_end}
use Rattle.faults.proofs.Walking.{MembersLeft, set_empty, members_start, member_wrong, member_next, members_all}
use Rattle.faults.proofs.flaws.set_flaw.Goals as goal

pub returns-then-is_empty : goal.returns-then-is_empty
returns-then-is_empty c = set_empty _ (flag c.is_empty.ensures c.if-is_empty.true)

pub loop-piece-init : goal.loop-piece-init
loop-piece-init c = members_start _ (flag c.is_empty.ensures c.if-is_empty.false)

pub returns-in_err-m : goal.returns-in_err-m
returns-in_err-m c =
    let t = YieldsList-turn (YieldsList-from_slice_split _ _ c.args.w.now (cc) (cc) (cc) (λ x r q k. search rules)) c.loop-piece.yielded _ c.loop-piece.yielded_by _ _ c.in-Some.piece c.in-Some.is c.next.ensures.steps in
    let p = err_from_is_err_and c.from_residual.result c.from_residual.ensures.1 in
    rw (p.1, p.2) (member_wrong _ _ _ c.loop-piece.invariant (split_turn 32 _ t) c.in_err-m.ensures.is)

pub loop-piece-preserved : goal.loop-piece-preserved
loop-piece-preserved c =
    let t = YieldsList-turn (YieldsList-from_slice_split _ _ c.args.w.now (cc) (cc) (cc) (λ x r q k. search rules)) c.loop-piece.yielded _ c.loop-piece.yielded_by _ _ c.in-Some.piece c.in-Some.is c.next.ensures.steps in
    subst (MembersLeft c.args.w.now (c.in_ok-m.m + 1)) (sym (length_push c.loop-piece.yielded c.in-Some.piece))
    (member_next _ _ _ c.loop-piece.invariant (split_turn 32 _ t) c.in_ok-m.ensures.is)

pub returns : goal.returns
returns c =
    let t = YieldsList-end (YieldsList-from_slice_split _ _ c.args.w.now (cc) (cc) (cc) (λ x r q k. search rules)) c.loop-piece.yielded _ c.loop-piece.yielded_by _ _ c.in-None.is c.next.ensures.steps in
    members_all _ _ _ c.loop-piece.invariant (split_end 32 _ t.1)

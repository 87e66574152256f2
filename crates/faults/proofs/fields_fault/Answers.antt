-- `fields_fault` meets its contract. Assumes nothing.
use mathlib.Core.Path.{sym, subst}
use Prim.Native.Nat.{ℕ, ◌+◌}
use Rattle.std.proofs.Common.{rules}
use Rattle.std.proofs.lemmas.Iterator.Splits.{YieldsList-from_slice_split}
use Rattle.std.proofs.lemmas.Iterator.Consumers.{YieldsList-turn, YieldsList-end}
use Rattle.std.proofs.lemmas.List.{length_push}
use Rattle.fields.proofs.Finding.{split_turn, split_end}
use Rattle.faults.proofs.Walking.{FieldsLeft, fields_more, fields_wrong, fields_next, fields_missing, fields_all}
use Rattle.faults.proofs.fields_fault.Goals as goal

pub returns-then-column-ge-COLUMNS : goal.returns-then-column-ge-COLUMNS
returns-then-column-ge-COLUMNS c =
    let t = YieldsList-turn (YieldsList-from_slice_split _ _ c.args.line.now (cc) (cc) (cc) (λ x r q k. search rules)) c.loop-field.yielded _ c.loop-field.yielded_by _ _ c.in-Some.field c.in-Some.is c.next.ensures.steps in
    fields_more _ _ _ c.loop-field.invariant (split_turn 44 _ t) c.if-column-ge-COLUMNS.true

pub returns-in-Err : goal.returns-in-Err
returns-in-Err c =
    let t = YieldsList-turn (YieldsList-from_slice_split _ _ c.args.line.now (cc) (cc) (cc) (λ x r q k. search rules)) c.loop-field.yielded _ c.loop-field.yielded_by _ _ c.in-Some.field c.in-Some.is c.next.ensures.steps in
    fields_wrong _ _ _ c.loop-field.invariant (split_turn 44 _ t) c.if-column-ge-COLUMNS.false c.in-Err.ensures

pub loop-field-preserved : goal.loop-field-preserved
loop-field-preserved c =
    let t = YieldsList-turn (YieldsList-from_slice_split _ _ c.args.line.now (cc) (cc) (cc) (λ x r q k. search rules)) c.loop-field.yielded _ c.loop-field.yielded_by _ _ c.in-Some.field c.in-Some.is c.next.ensures.steps in
    subst (λ (n : ℕ). FieldsLeft c.args.line.now n (c.loop-field.column + 1)) (sym (length_push c.loop-field.yielded c.in-Some.field))
    (fields_next _ _ _ c.loop-field.invariant (split_turn 44 _ t) c.if-column-ge-COLUMNS.false c.in_default.ensures)

pub returns-then-column-lt-COLUMNS : goal.returns-then-column-lt-COLUMNS
returns-then-column-lt-COLUMNS c =
    let t = YieldsList-end (YieldsList-from_slice_split _ _ c.args.line.now (cc) (cc) (cc) (λ x r q k. search rules)) c.loop-field.yielded _ c.loop-field.yielded_by _ _ c.in-None.is c.next.ensures.steps in
    fields_missing _ _ _ c.loop-field.invariant (split_end 44 _ t.1) c.if-column-lt-COLUMNS.true

pub returns : goal.returns
returns c =
    let t = YieldsList-end (YieldsList-from_slice_split _ _ c.args.line.now (cc) (cc) (cc) (λ x r q k. search rules)) c.loop-field.yielded _ c.loop-field.yielded_by _ _ c.in-None.is c.next.ensures.steps in
    fields_all _ _ _ c.loop-field.invariant (split_end 44 _ t.1) c.if-column-lt-COLUMNS.false

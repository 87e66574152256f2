-- `judge` meets its contract. Assumes nothing.
use mathlib.Core.Path.{refl, ap}
use borrow.Author.Tests.{lt-ltb, le-ltb}
use Rattle.std.proofs.lemmas.Result.{err_from_is_err_and}
use Rattle.lemmas.proofs.Cases.{at_true, at_false}
use Rattle.reader.specs.Answers.{no_graph, graph_judged, checked_as}
use Rattle.reader.proofs.files.judge.Goals as goal

pub returns-then-nodes-gt-PLACES : goal.returns-then-nodes-gt-PLACES
unfolding no_graph graph_judged
returns-then-nodes-gt-PLACES c = at_true _ (lt-ltb _ _ c.if-nodes-gt-PLACES.true) refl

pub returns-in_err-check : goal.returns-in_err-check
unfolding no_graph graph_judged
returns-in_err-check c =
    let p = err_from_is_err_and c.from_residual.result c.from_residual.ensures.1 in
    rw (p.1, p.2) (at_false _ (le-ltb _ _ c.if-nodes-gt-PLACES.false) (ap (checked_as _ _) c.in_err-check.ensures))

pub returns : goal.returns
unfolding graph_judged
returns c = at_false _ (le-ltb _ _ c.if-nodes-gt-PLACES.false) (ap (checked_as _ _) c.in_ok-check.ensures)

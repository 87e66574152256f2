-- `read_file` meets its contract. Assumes nothing.
use mathlib.Core.Path.{◌∙◌}
use Rattle.reader.proofs.Storing.{file_broken, file_rows}
use Rattle.reader.specs.Answers.{no_graph, file_said}
use Rattle.reader.proofs.files.read_file.Goals as goal

pub returns-in-Err : goal.returns-in-Err
unfolding no_graph file_said
returns-in-Err c = file_broken _ _ c.read_lines.ensures _ c.in-Err.is

pub returns-in-Ok : goal.returns-in-Ok
returns-in-Ok c = c.judge.ensures ∙ file_rows _ _ c.read_lines.ensures _ c.in-Ok.is

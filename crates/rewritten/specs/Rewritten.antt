-- A file of waits as it is written back, or the line that refuses it. Assumes nothing.
use Rattle.std.specs.Prelude.{List, ℕ}
use Rattle.format.specs.Files.Said.{Line, Refused, Graph}
use Rattle.format.specs.Written.{file_of}
use Rattle.reader.specs.declared.files.Wrong.TheVariants.{Line as Wrong-as-Line, Refused as Wrong-as-Refused}
use Rattle.report.specs.Report.{Input, input_of, refusal_line, long_line}
use Rattle.report.specs.Report.Input.{TooLong, Says}

-- the text for an input: of a graph its file, else the line of its refusal
unfoldable pub written_back : Input → List ℕ
written_back TooLong = long_line
written_back (Says (Line line)) = refusal_line (Wrong-as-Line line)
written_back (Says (Refused r)) = refusal_line (Wrong-as-Refused r)
written_back (Says (Graph n rows)) = file_of n rows

unfoldable pub rewritten_of : List ℕ → List ℕ
rewritten_of bytes = written_back (input_of bytes)

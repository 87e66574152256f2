-- Small cases, computed. Assumes nothing.
use mathlib.Core.Path.{◌≡◌, refl}
use Prim.Native.Nat.{◌+◌, ◌*◌}
use Rattle.text.specs.Words.{word, digits, decimal}
use Rattle.lines.specs.Lines.{field, name_of, answer_line, kind_name, message_line, refused_line, no_script_line}

refused_10 : answer_line (4 * 65536 + 10) ≡ word "refused 10 4\n"
unfolding word digits decimal field name_of answer_line
refused_10 = refl

taken : answer_line (12 * 65536 + 112) ≡ word "taken not-deadlocked 12\n"
unfolding word digits decimal field name_of answer_line
taken = refl

opened : answer_line (1 * 65536 + 120) ≡ word "opened 1\n"
unfolding word digits decimal field name_of answer_line
opened = refl

message : message_line 0 0 0 1 1 ≡ word "message 0 NOTIFY 0 1 1\n"
unfolding word digits decimal field kind_name message_line
message = refl

whole : refused_line 13 0 ≡ word "refused 13 0\n"
unfolding word digits decimal field refused_line
whole = refl

nothing : no_script_line ≡ word "refused script\n"
unfolding no_script_line
nothing = refl

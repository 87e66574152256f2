-- Each line once, computed. Assumes nothing.
use mathlib.Core.Path.{◌≡◌, refl, sym, ap}
use mathlib.Core.List.{List, []}
use Prim.Native.Nat.{ℕ, ◌<◌}
use Prim.Native.String.{String}
use lib.ListN.{length}
use Rattle.text.specs.Words.{word, digits, decimal}
use Rattle.text.specs.Digits.{is_digit, grown}
use Rattle.script.specs.Numbers.{blank, numbers_from, numbers_of}
use Rattle.script.specs.Stops.{line_after, stop_at, stop_from, stop_of}
use Rattle.script.specs.Script.{longest}
use Rattle.snags.specs.Snags.{step_snag, numbers_snag, snag_of, words_for}
use Rattle.snags.proofs.Found.{too_long}

-- the definitions that are computed with
unfoldable open_snags : Unit {0}
unfolding word digits decimal is_digit grown blank numbers_from numbers_of line_after stop_at stop_from stop_of step_snag numbers_snag snag_of words_for
open_snags = tt

abbrev said : String → List ℕ
said script = words_for (snag_of (word script))

-- one node, two row numbers, room for 16 messages, two steps
a_script : said "1 2 30 40 16 2 0 5 6 1 7 0\n" ≡ []
unfolding open_snags
a_script = refl

long : (bytes : List ℕ) → longest < length bytes → words_for (snag_of bytes) ≡ word "the script has more than 1048576 bytes\n"
unfolding words_for
long bytes h = ap words_for (sym (too_long bytes h))

-- a minus belongs to no number
a_letter : said "1 0\n16 1\n0 -1 0\n" ≡ word "line 3: a character that is neither a digit nor a blank\n"
unfolding open_snags
a_letter = refl

past_64_bits : said "1\r\n18446744073709551616\r\n" ≡ word "line 2: a number past 64 bits\n"
unfolding open_snags
past_64_bits = refl

nothing_there : said "" ≡ word "the count of numbers is 0, and at least 4 are wanted\n"
unfolding open_snags
nothing_there = refl

rows_missing : said "1 6 0 0 0" ≡ word "the count of numbers is 5, and at least 10 are wanted\n"
unfolding open_snags
rows_missing = refl

many_rows : said "1 8193 0 0" ≡ word "the count of row numbers is above 8192\n"
unfolding open_snags
many_rows = refl

wide_room : said "1 0 8193 0" ≡ word "the room is above 8192\n"
unfolding open_snags
wide_room = refl

many_steps : said "1 0 16 8193" ≡ word "the count of steps is above 8192\n"
unfolding open_snags
many_steps = refl

one_short : said "1 2 30 40 16 2 0 5 6 1 7\n" ≡ word "the count of numbers is 11, and 12 are wanted\n"
unfolding open_snags
one_short = refl

one_more : said "1 2 30 40 16 2 0 5 6 1 7 0 0\n" ≡ word "the count of numbers is 13, and 12 are wanted\n"
unfolding open_snags
one_more = refl

large_kind : said "1 0 16 2 0 0 0 65536 0 0" ≡ word "step 1: its kind is above 65535\n"
unfolding open_snags
large_kind = refl

large_a : said "1 0 16 1 0 16777216 16777216" ≡ word "step 0: a is above 16777215\n"
unfolding open_snags
large_a = refl

large_b : said "1 0 16 1 0 16777215 16777216" ≡ word "step 0: b is above 16777215\n"
unfolding open_snags
large_b = refl

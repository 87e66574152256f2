-- The definitions of this crate, and of those below, opened together, for what is computed with them. Assumes nothing.
use Rattle.waits.proofs.Open.{open_waits}
use Rattle.text.specs.Words.{word, digits, decimal}
use Rattle.text.specs.Digits.{is_digit}
use Rattle.format.specs.Cut.{line_end, pieces, lines_of, behind, joined, ended}
use Rattle.format.specs.Fields.{quoted, bare, no_digit, value_from, no_number, number_of, numbers_of, members_of, no_set, set_in, same, word_in, next}
use Rattle.format.specs.Files.{is_header, row_of, rows_from, meant_by, read_of}
use Rattle.format.specs.Written.{set_text, row_text, row_texts, header_text, file_of, zero_in_front}

unfoldable pub open_format : Unit {0}
unfolding open_waits word digits decimal is_digit line_end pieces lines_of behind joined ended quoted bare no_digit value_from no_number number_of numbers_of members_of no_set set_in same word_in next is_header row_of rows_from meant_by read_of set_text row_text row_texts header_text file_of zero_in_front
open_format = tt

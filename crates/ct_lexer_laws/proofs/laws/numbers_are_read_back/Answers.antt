use Rattle.ct_lexer_laws.proofs.Numbers.{numbers_are_read_back, numbers_were_written}
use Rattle.ct_lexer_laws.proofs.Numerals.{digits_count_by_place, too_large_overflows}
use Rattle.ct_lexer_laws.proofs.laws.numbers_are_read_back.Goals as goal

pub returns : goal.returns
returns c = record { back = numbers_are_read_back; written = numbers_were_written; places = digits_count_by_place; large = too_large_overflows }

use Rattle.ct_lexer_laws.proofs.HexBytes.{bytes_are_read_back, bytes_were_written}
use Rattle.ct_lexer_laws.proofs.laws.bytes_are_read_back.Goals as goal

pub returns : goal.returns
returns c = record { back = bytes_are_read_back; written = bytes_were_written }

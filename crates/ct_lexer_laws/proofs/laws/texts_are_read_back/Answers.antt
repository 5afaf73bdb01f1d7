use Rattle.ct_lexer_laws.proofs.Texts.{texts_are_read_back, texts_were_written}
use Rattle.ct_lexer_laws.proofs.laws.texts_are_read_back.Goals as goal

pub returns : goal.returns
returns c = record { back = texts_are_read_back; written = texts_were_written }

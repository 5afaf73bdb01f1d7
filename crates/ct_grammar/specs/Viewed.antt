-- What contracts see of a cursor: the lexemes that are left.
use Rattle.std.specs.Prelude.{List}
use Rattle.ct_grammar.specs.declared.cursor.Cursor.TheInside.{Inside}
use Rattle.ct_grammar.specs.Told.{AllCut, told}
use Rattle.ct_grammar.specs.Lexemes.{Lexeme}

abbrev pub left_of : Inside → List Lexeme
left_of c = told c.text.now c.tokens.now

abbrev pub IsWithin : Inside → Type 0
IsWithin c = AllCut c.text.now c.tokens.now

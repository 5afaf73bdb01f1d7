-- The classes of bytes that the forms of tokens tell apart. All but that of comments are ASCII.
use Rattle.std.specs.Prelude.{◌≡◌, ℕ, Bool, false, not, ◌&&◌, ◌||◌, ◌==◌, nat_le, List, [], ◌∷◌, codes}
use Rattle.std.specs.List.{list_any, AllPass}
use Rattle.std.specs.Char.{is_ascii_digit, is_ascii_hexdigit, is_ascii_alphabetic, is_ascii_alphanumeric}
use Rattle.ct_lexer.specs.declared.byte.ByteClass.{ByteClass}
use Rattle.ct_lexer.specs.declared.byte.ByteClass.TheVariants.{Blank, Comment, Letter, Name, Digit, HexDigit, Bracketed, CloseBracket, Quote, TextMark, BytesMark, Sign}

-- a byte is of a class
abbrev pub belongs : ByteClass → ℕ → Bool
belongs Blank byte = byte == 32 || byte == 9 || byte == 13 || byte == 10  -- space, tab, CR, LF
belongs Comment byte = not (byte == 10)  -- all but LF
belongs Letter byte = is_ascii_alphabetic byte || byte == 95  -- letters and _
belongs Name byte = is_ascii_alphanumeric byte || byte == 95  -- letters, digits and _
belongs Digit byte = is_ascii_digit byte
belongs HexDigit byte = is_ascii_hexdigit byte
belongs Bracketed byte = nat_le 32 byte && nat_le byte 126 && not (byte == 93)  -- from space to ~, but ]
belongs CloseBracket byte = byte == 93  -- ]
belongs Quote byte = byte == 39  -- '
belongs TextMark byte = byte == 78 || byte == 110  -- N, n
belongs BytesMark byte = byte == 120 || byte == 88  -- x, X
belongs Sign byte = list_any (λ sign. sign == byte) (codes "(),.;=<>+-*")

-- the first byte, if there is one, is of the class
abbrev pub starts : ByteClass → List ℕ → Bool
starts class [] = false
starts class (byte ∷ bytes) = belongs class byte

-- each byte is of the class
abbrev pub AllOf : ByteClass → List ℕ → Type 0
AllOf class bytes = AllPass (belongs class) bytes

-- none of the class follows: another byte does, or the text ends
abbrev pub Stops : ByteClass → List ℕ → Type 0
Stops class more = starts class more ≡ false

-- What the tokens of texts, bytes and numbers mean, told of how a value is written: what is written is read back, and what is
-- read was written so. That a quote is written twice, `N` and `0x` are T-SQL's; nothing here says how a word is gone through.
use Rattle.std.specs.Prelude.{◌≡◌, ◌⊎◌, ℕ, ◌+◌, ◌-◌, ◌*◌, ◌/◌, ◌%◌, ◌^◌, ◌<◌, ◌≤◌, pos, codes, List, [], ◌∷◌, ◌++◌, length, replicate, slice_get, Some, Ok, Err}
use Rattle.std.specs.Fmt.{decimal}
use Rattle.std.specs.Str.{IsUtf8}
use Rattle.ct_types.specs.declared.refusal.Refusal.TheVariants.{Overflow}
use Rattle.ct_lexer.specs.declared.byte.ByteClass.{ByteClass}
use Rattle.ct_lexer.specs.declared.byte.ByteClass.TheVariants as byte
use Rattle.ct_lexer.specs.declared.token.Token.{Token}
use Rattle.ct_lexer.specs.declared.token.TokenKind.{TokenKind}
use Rattle.ct_lexer.specs.declared.token.TokenKind.TheVariants as kind
use Rattle.ct_lexer.specs.Bytes.{Stops}
use Rattle.ct_lexer.specs.Cutting.{IsCut}
use Rattle.ct_lexer.specs.Tokens.{spelling, IsToken}
use Rattle.ct_grammar.specs.Words.{text_in, bytes_in}
use Rattle.ct_bind_names.specs.Numbers.{number_of, literal}

-- ---- one token

-- the token that is the whole of a text
abbrev pub whole : TokenKind → List ℕ → Token
whole kind text = record { kind = kind; from = 0; to = length text }

-- The word is a token of the kind wherever no byte of the class follows it; and a text that is the word alone has this one token
-- and no others.
pub record IsReadAs (kind : TokenKind) (class : ByteClass) (word : List ℕ) : Type 0 where
  pub token : (more : List ℕ) → Stops class more → IsToken kind word more
  pub cut : IsCut word (whole kind word ∷ [])
  pub only : (tokens : List Token) → IsCut word tokens → tokens ≡ whole kind word ∷ []

-- ---- texts

-- a text between quotes, with each quote of its own twice
abbrev pub quoted : List ℕ → List ℕ
quoted text = codes "'" ++ (spelling text ++ codes "'")

-- the word is the text so, or behind a mark
abbrev pub IsWrittenText : List ℕ → List ℕ → Type 0
IsWrittenText word text = (word ≡ quoted text) ⊎ ((word ≡ codes "N" ++ quoted text) ⊎ (word ≡ codes "n" ++ quoted text))

-- a text that is written is one token, and is read back
abbrev pub TextsAreReadBack : Type 0
TextsAreReadBack = (text word : List ℕ) → IsUtf8 text → IsWrittenText word text → IsReadAs kind.Text byte.Quote word × (text_in word ≡ text)

-- a token of a text is what it stands for, written so
abbrev pub TextsWereWritten : Type 0
TextsWereWritten = (word more : List ℕ) → IsUtf8 word → IsToken kind.Text word more → IsWrittenText word (text_in word)

-- ---- bytes

-- the hexadecimal digit of a number, of either case
abbrev pub IsDigitOf : ℕ → ℕ → Type 0
IsDigitOf n digit = (slice_get (codes "0123456789abcdef") n ≡ Some digit) ⊎ (slice_get (codes "0123456789ABCDEF") n ≡ Some digit)

-- two digits for each byte, that of its higher half first
abbrev pub ArePairs : List ℕ → List ℕ → Type 0
ArePairs [] [] = Unit {0}
ArePairs [] (high ∷ digits) = ⊥
ArePairs (b ∷ bytes) [] = ⊥
ArePairs (b ∷ bytes) (high ∷ []) = ⊥
ArePairs (b ∷ bytes) (high ∷ low ∷ digits) = IsDigitOf (b / 16) high × IsDigitOf (b % 16) low × ArePairs bytes digits

-- the word is the bytes so
abbrev pub AreWrittenBytes : List ℕ → List ℕ → Type 0
AreWrittenBytes word bytes = (digits : List ℕ) × ArePairs bytes digits × ((word ≡ codes "0x" ++ digits) ⊎ (word ≡ codes "0X" ++ digits))

-- bytes that are written are one token, and are read back
abbrev pub BytesAreReadBack : Type 0
BytesAreReadBack = (bytes word : List ℕ) → AreWrittenBytes word bytes → IsReadAs kind.Bytes byte.HexDigit word × (bytes_in word ≡ bytes)

-- a token of bytes is what it stands for, written so
abbrev pub BytesWereWritten : Type 0
BytesWereWritten = (word more : List ℕ) → IsToken kind.Bytes word more → AreWrittenBytes word (bytes_in word)

-- ---- numbers

-- a number in decimal, behind so many zeros
abbrev pub with_zeros : ℕ → ℕ → List ℕ
with_zeros count n = replicate count 48 ++ decimal n

-- a number of 63 bits that is written is one token, and is read back
abbrev pub NumbersAreReadBack : Type 0
NumbersAreReadBack = (count n : ℕ) → n < 2 ^ 63 → IsReadAs kind.Number byte.Name (with_zeros count n) × (literal (with_zeros count n) ≡ Ok (pos n))

-- a token of such a number is what it stands for, written so
abbrev pub NumbersWereWritten : Type 0
NumbersWereWritten = (word more : List ℕ) → IsToken kind.Number word more → number_of word < 2 ^ 63 → (count : ℕ) × (word ≡ with_zeros count (number_of word))

-- digits of any number count by their places: the first counts as often as there are numbers of the digits behind it
abbrev pub DigitsCountByPlace : Type 0
DigitsCountByPlace = (number_of [] ≡ 0) × ((digit : ℕ) (digits : List ℕ) → number_of (digit ∷ digits) ≡ (digit - 48) * 10 ^ length digits + number_of digits)

-- a larger number is refused
abbrev pub TooLargeOverflows : Type 0
TooLargeOverflows = (digits : List ℕ) → 2 ^ 63 ≤ number_of digits → literal digits ≡ Err Overflow

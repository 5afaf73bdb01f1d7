-- The forms of tokens, and of what separates them: that `word`, with `more` behind it, is one. What follows is looked
-- at since a word is as long as it can be.
use Rattle.std.specs.Prelude.{◌≡◌, ℕ, ◌%◌, ◌<◌, ◌≤◌, ◌⊎◌, Bool, true, false, ◌&&◌, ◌||◌, ◌==◌, if◌then◌else◌, List, [], ◌∷◌, ◌++◌, length}
use Rattle.ct_lexer.specs.declared.byte.ByteClass.TheVariants as byte
use Rattle.ct_lexer.specs.declared.token.TokenKind.{TokenKind}
use Rattle.ct_lexer.specs.declared.token.TokenKind.TheVariants as kind
use Rattle.ct_lexer.specs.Bytes.{belongs, starts, AllOf, Stops}

-- ---- names, variables and numbers

-- a letter or `_`, then letters, digits and `_`, and no more of them behind it; at most 128 bytes
pub record IsBareName (word more : List ℕ) : Type 0 where
  pub first : starts byte.Letter word ≡ true
  pub bytes : AllOf byte.Name word
  pub whole : Stops byte.Name more
  pub short : length word ≤ 128

-- `[`, one to 128 bytes that may stand in brackets, `]`
pub record IsBracketed (word more : List ℕ) : Type 0 where
  pub inside : List ℕ
  pub spelled : word ≡ 91 ∷ (inside ++ 93 ∷ [])
  pub bytes : AllOf byte.Bracketed inside
  pub some : 0 < length inside
  pub short : length inside ≤ 128

-- `@` and a bare name
pub record IsVariable (word more : List ℕ) : Type 0 where
  pub name : List ℕ
  pub spelled : word ≡ 64 ∷ name
  pub named : IsBareName name more

-- digits, one at least, and no more of them behind it
pub record IsNumber (word more : List ℕ) : Type 0 where
  pub some : 0 < length word
  pub bytes : AllOf byte.Digit word
  pub whole : Stops byte.Digit more

-- ---- texts and bytes

-- how the characters of a text are written: each quote twice
abbrev pub spelling : List ℕ → List ℕ
spelling [] = []
spelling (b ∷ value) = if belongs byte.Quote b then 39 ∷ 39 ∷ spelling value else (b ∷ spelling value)

-- a quote, some characters and a quote. No further quote follows: two quotes are always one inside.
pub record IsQuoted (word more : List ℕ) : Type 0 where
  pub value : List ℕ
  pub spelled : word ≡ 39 ∷ (spelling value ++ 39 ∷ [])
  pub closed : Stops byte.Quote more

-- the same behind an `N` or an `n`
pub record IsMarked (word more : List ℕ) : Type 0 where
  pub mark : ℕ
  pub quoted : List ℕ
  pub spelled : word ≡ mark ∷ quoted
  pub marks : belongs byte.TextMark mark ≡ true
  pub text : IsQuoted quoted more

abbrev pub IsText : List ℕ → List ℕ → Type 0
IsText word more = IsQuoted word more ⊎ IsMarked word more

-- `0x` or `0X` and an even number of hexadecimal digits, and no more of them behind it
pub record IsBytes (word more : List ℕ) : Type 0 where
  pub mark : ℕ
  pub digits : List ℕ
  pub spelled : word ≡ 48 ∷ mark ∷ digits
  pub marks : belongs byte.BytesMark mark ≡ true
  pub bytes : AllOf byte.HexDigit digits
  pub even : length digits % 2 ≡ 0
  pub whole : Stops byte.HexDigit more

-- what begins a text, or bytes, is no name and no number, also where the text or the bytes are wrong further on
abbrev pub begins_text : List ℕ → Bool
begins_text [] = false
begins_text (b ∷ more) = belongs byte.Quote b || (belongs byte.TextMark b && starts byte.Quote more)

abbrev pub begins_bytes : List ℕ → Bool
begins_bytes [] = false
begins_bytes (b ∷ more) = b == 48 && starts byte.BytesMark more

-- ---- signs

-- <> <= >= !=
abbrev pub is_pair : ℕ → ℕ → Bool
is_pair b c = (b == 60 && (c == 62 || c == 61)) || ((b == 62 || b == 33) && c == 61)

-- b and the next byte are a sign of two
abbrev pub begins_pair : ℕ → List ℕ → Bool
begins_pair b [] = false
begins_pair b (c ∷ more) = is_pair b c

-- b and the next byte are `--`
abbrev pub begins_comment : ℕ → List ℕ → Bool
begins_comment b [] = false
begins_comment b (c ∷ more) = b == 45 && c == 45

-- a sign of two bytes, or one of one byte with which neither a longer sign nor a comment begins
abbrev pub IsSign : List ℕ → List ℕ → Type 0
IsSign [] more = ⊥
IsSign (b ∷ []) more = (belongs byte.Sign b ≡ true) × (begins_pair b more ≡ false) × (begins_comment b more ≡ false)
IsSign (b ∷ c ∷ []) more = is_pair b c ≡ true
IsSign (b ∷ c ∷ d ∷ bs) more = ⊥

-- ---- tokens and gaps

-- the word is a token of this kind
abbrev pub IsToken : TokenKind → List ℕ → List ℕ → Type 0
IsToken kind.Name word more = IsBareName word more × (begins_text (word ++ more) ≡ false)
IsToken kind.Bracketed word more = IsBracketed word more
IsToken kind.Variable word more = IsVariable word more
IsToken kind.Number word more = IsNumber word more × (begins_bytes (word ++ more) ≡ false)
IsToken kind.Text word more = IsText word more
IsToken kind.Bytes word more = IsBytes word more
IsToken kind.Sign word more = IsSign word more

-- a space, a tab, CR or LF
pub record IsBlank (word more : List ℕ) : Type 0 where
  pub blank : ℕ
  pub spelled : word ≡ blank ∷ []
  pub separates : belongs byte.Blank blank ≡ true

-- `--` and all up to LF or the end. The LF is a blank of its own.
pub record IsComment (word more : List ℕ) : Type 0 where
  pub said : List ℕ
  pub spelled : word ≡ 45 ∷ 45 ∷ said
  pub bytes : AllOf byte.Comment said
  pub whole : Stops byte.Comment more

-- what separates tokens: a blank or a comment
abbrev pub IsGap : List ℕ → List ℕ → Type 0
IsGap word more = IsBlank word more ⊎ IsComment word more

-- What the scanners of the lexer find at the front of some bytes.
use Rattle.std.specs.Prelude.{◌≡◌, ℕ, Bool, not, ◌&&◌, ◌||◌, ◌==◌, if◌then◌else◌, List, [], ◌∷◌, ◌++◌, length, Option, Some, None}
use Rattle.ct_lexer.specs.declared.byte.ByteClass.TheVariants as byte
use Rattle.ct_lexer.specs.declared.token.TokenKind.{TokenKind}
use Rattle.ct_lexer.specs.declared.token.TokenKind.TheVariants as kind
use Rattle.ct_lexer.specs.Bytes.{belongs}
use Rattle.ct_lexer.specs.Tokens.{begins_text, begins_bytes, begins_pair, begins_comment}

-- the front of this length is one of these
pub record Begins (Is : List ℕ → List ℕ → Type 0) (bytes : List ℕ) (size : ℕ) : Type 0 where
  pub word : List ℕ
  pub more : List ℕ
  pub cut : bytes ≡ word ++ more
  pub long : length word ≡ size
  pub is : Is word more

-- a sign, and no comment, begins with this byte
abbrev pub begins_sign : ℕ → List ℕ → Bool
begins_sign b more = begins_pair b more || (belongs byte.Sign b && not (begins_comment b more))

-- The first two bytes tell the only kind that a token at the front of these bytes may have.
abbrev pub kind_at : List ℕ → Option TokenKind
kind_at [] = None
kind_at (b ∷ more) =
    if begins_text (b ∷ more) then Some kind.Text
    else if begins_bytes (b ∷ more) then Some kind.Bytes
    else if belongs byte.Letter b then Some kind.Name
    else if belongs byte.Digit b then Some kind.Number
    else if b == 64 then Some kind.Variable
    else if b == 91 then Some kind.Bracketed
    else if begins_sign b more then Some kind.Sign
    else None

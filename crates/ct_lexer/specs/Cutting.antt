-- How a text is cut: tokens, and gaps between them, one after another.
use Rattle.std.specs.Prelude.{◌≡◌, ◌⊎◌, ℕ, ◌+◌, ◌<◌, List, [], ◌∷◌, ◌++◌, length}
use Rattle.ct_lexer.specs.declared.token.Token.{Token}
use Rattle.ct_lexer.specs.declared.token.TokenKind.{TokenKind}
use Rattle.ct_lexer.specs.declared.token.LexError.{LexError}
use Rattle.ct_lexer.specs.declared.token.LexError.TheVariants as errors
use Rattle.ct_lexer.specs.Tokens.{IsToken, IsGap}

-- The bytes from the place `at` on are these tokens, with gaps before, between and behind them, up to the place `end`,
-- where `rest` is left.
pub data Cuts : ℕ → List ℕ → List Token → ℕ → List ℕ → Type 0 where
  here : {at : ℕ} {bytes : List ℕ} → Cuts at bytes [] at bytes
  gap : {at end : ℕ} {tokens : List Token} {rest : List ℕ} (word more : List ℕ)
      → IsGap word more
      → Cuts (at + length word) more tokens end rest
      → Cuts at (word ++ more) tokens end rest
  token : {at end : ℕ} {tokens : List Token} {rest : List ℕ} (kind : TokenKind) (word more : List ℕ)
      → IsToken kind word more
      → Cuts (at + length word) more tokens end rest
      → Cuts at (word ++ more) (record { kind = kind; from = at; to = at + length word } ∷ tokens) end rest

-- the whole text is these tokens
abbrev pub IsCut : List ℕ → List Token → Type 0
IsCut text tokens = Cuts 0 text tokens (length text) []

-- no front of the bytes is one of these
abbrev pub Never : (List ℕ → List ℕ → Type 0) → List ℕ → Type 0
Never Is bytes = (word more : List ℕ) → bytes ≡ word ++ more → Is word more → ⊥

-- the text is cut up to the place `at`, which is before its end, and neither a gap nor a token begins there
pub record IsStuck (text : List ℕ) (at : ℕ) : Type 0 where
  pub within : at < length text
  pub tokens : List Token
  pub rest : List ℕ
  pub cut : Cuts 0 text tokens at rest
  pub no_gap : Never IsGap rest
  pub no_token : (kind : TokenKind) → Never (IsToken kind) rest

-- a fault is the place where the text is stuck; want of memory says nothing of the text
abbrev pub IsWrong : List ℕ → LexError → Type 0
IsWrong text (errors.Syntax at) = IsStuck text at
IsWrong text errors.Memory = Unit {0}

-- the text has tokens, or is stuck at a place; each text is one or the other, in one way
abbrev pub IsCutOrStuck : List ℕ → Type 0
IsCutOrStuck text = ((tokens : List Token) × IsCut text tokens) ⊎ ((at : ℕ) × IsStuck text at)

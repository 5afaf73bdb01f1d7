-- What the spans of a text's tokens say of the text.
use Rattle.std.specs.Prelude.{ℕ, ◌-◌, ◌<◌, ◌≤◌, List, [], ◌∷◌, length, drop, slice_range, get_or}
use Rattle.ct_lexer.specs.declared.token.Token.{Token}
use Rattle.ct_lexer.specs.Tokens.{IsToken}

-- the spans rise: each begins at the end of the one before it or later and has a byte at least, and all end by `end`
abbrev pub Rises : ℕ → List Token → ℕ → Type 0
Rises from [] end = from ≤ end
Rises from (token ∷ tokens) end = (from ≤ token.from) × (token.from < token.to) × Rises token.to tokens end

-- the bytes of the span are a token of its kind, with what stands behind them
abbrev pub Stands : List ℕ → Token → Type 0
Stands text token = IsToken token.kind (slice_range text token.from token.to) (drop token.to text)

-- the span lies within the text, and begins and ends with an ASCII character: the text may be cut at both ends
pub record Fits (text : List ℕ) (token : Token) : Type 0 where
  pub rises : token.from < token.to
  pub ends : token.to ≤ length text
  pub first : get_or text token.from 0 < 128
  pub last : get_or text (token.to - 1) 0 < 128

abbrev pub AllFit : List ℕ → List Token → Type 0
AllFit text [] = Unit {0}
AllFit text (token ∷ tokens) = Fits text token × AllFit text tokens

-- Tokens with their kinds beside them.
use Rattle.std.specs.Prelude.{◌≡◌, ℕ, List, [], ◌∷◌, slice_range}
use Rattle.ct_lexer.specs.declared.token.Token.{Token}
use Rattle.ct_lexer.specs.Spans.{Fits}
use Rattle.ct_grammar.specs.declared.kinded.Kinded.{Kinded}
use Rattle.ct_grammar.specs.Lexemes.{Lexeme, lexeme, lexemes}

abbrev pub with_kind : List ℕ → Token → Kinded
with_kind text token = record { kind = (lexeme text token).kind; token = token }

-- the lexemes, by the kinds that are told
abbrev pub told : List ℕ → List Kinded → List Lexeme
told text [] = []
told text (x ∷ xs) = record { kind = x.kind; word = slice_range text x.token.from x.token.to } ∷ told text xs

-- the text may be cut at the ends of each
abbrev pub AllCut : List ℕ → List Kinded → Type 0
AllCut text [] = Unit {0}
AllCut text (x ∷ xs) = Fits text x.token × AllCut text xs

-- the kinds are those of these tokens
pub record AreKinded (text : List ℕ) (tokens : List Token) (xs : List Kinded) : Type 0 where
  pub cut : AllCut text xs
  pub told : told text xs ≡ lexemes text tokens

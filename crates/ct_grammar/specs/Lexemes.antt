-- What rules see of a text: the kind and the word of each token.
use Rattle.std.specs.Prelude.{ℕ, ◌-◌, ◌<◌, Bool, true, false, ◌&&◌, List, [], ◌∷◌, length, slice_range, get_or}
use Rattle.ct_lexer.specs.declared.token.Token.{Token}
use Rattle.ct_grammar.specs.declared.kind.Kind.{Kind}
use Rattle.ct_grammar.specs.Kinds.{Set, has, kind_of}

pub record Lexeme : Type 0 where
  pub kind : Kind
  pub word : List ℕ

abbrev pub lexeme : List ℕ → Token → Lexeme
lexeme text token = record { kind = kind_of token.kind (slice_range text token.from token.to); word = slice_range text token.from token.to }

abbrev pub lexemes : List ℕ → List Token → List Lexeme
lexemes text [] = []
lexemes text (token ∷ tokens) = lexeme text token ∷ lexemes text tokens

-- a word that begins and ends with an ASCII character
pub record Ends (word : List ℕ) : Type 0 where
  pub some : 0 < length word
  pub first : get_or word 0 0 < 128
  pub last : get_or word (length word - 1) 0 < 128

-- the next lexeme is one of the set
unfoldable pub sees : Set → List Lexeme → Bool
sees s [] = false
sees s (x ∷ xs) = has s x.kind

-- the next lexemes are of these sets, one after another
unfoldable pub matches : List Set → List Lexeme → Bool
matches [] xs = true
matches (s ∷ ss) [] = false
matches (s ∷ ss) (x ∷ xs) = has s x.kind && matches ss xs

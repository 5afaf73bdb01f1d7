-- A word that is a token with nothing behind it is the only token of a text that is the word alone.
use Rattle.std.proofs.Common.{◌≡◌, ℕ, ◌+◌, List, [], ◌∷◌, ◌++◌, length, refl, subst, append-nil, arith}
use Rattle.ct_lexer.specs.declared.byte.ByteClass.{ByteClass}
use Rattle.ct_lexer.specs.declared.token.TokenKind.{TokenKind}
use Rattle.ct_lexer.specs.Bytes.{Stops}
use Rattle.ct_lexer.specs.Cutting.{Cuts, here, token, IsCut}
use Rattle.ct_lexer.specs.Tokens.{IsToken}
use Rattle.ct_lexer.proofs.Cutting.{one_tokens}
use Rattle.ct_lexer_laws.specs.Laws.{whole, IsReadAs}

whole_cut : (kind : TokenKind) (word : List ℕ) → IsToken kind word [] → IsCut word (whole kind word ∷ [])
whole_cut kind word is =
    let made : Cuts 0 (word ++ []) (record { kind = kind; from = 0; to = 0 + length word } ∷ []) (0 + length word) [] = token kind word [] is here in
    let end : 0 + length word ≡ length word = omega arith in
    subst (λ (n : ℕ). Cuts 0 word (record { kind = kind; from = 0; to = n } ∷ []) n []) end
    (subst (λ (text : List ℕ). Cuts 0 text (record { kind = kind; from = 0; to = 0 + length word } ∷ []) (0 + length word) []) (append-nil word) made)

pub read_as : (kind : TokenKind) (class : ByteClass) (word : List ℕ) → ((more : List ℕ) → Stops class more → IsToken kind word more) → IsReadAs kind class word
read_as kind class word is =
    let cut : IsCut word (whole kind word ∷ []) = whole_cut kind word (is [] refl) in
    record { token = is; cut = cut; only = λ tokens other. one_tokens word tokens (whole kind word ∷ []) other cut }

-- A word is sought among those of its length alone.
use Rattle.std.proofs.Common.{◌≡◌, ℕ, Bool, true, false, if◌then◌else◌, List, [], ◌∷◌, ◌++◌, length, refl, sym, ap, ◌∙◌, subst}
use Rattle.std.specs.Str.{str_to_ascii_lowercase}
use Rattle.std.specs.Char.{to_ascii_lowercase}
use Rattle.std.specs.List.{filter}
use Rattle.std.proofs.lemmas.List.{length-map}
use Rattle.std.proofs.lemmas.Bool.Decides.{Decides-eqb}
use Rattle.std.proofs.lemmas.Slice.Eq.{bytes_eq-Decides}
use Rattle.ct_lexer.specs.declared.token.TokenKind.{TokenKind}
use Rattle.ct_lexer.specs.declared.token.TokenKind.TheVariants as forms
use Rattle.ct_grammar.specs.declared.kind.Kind.{Kind}
use Rattle.ct_grammar.specs.declared.kind.Kind.TheVariants as k
use Rattle.ct_grammar.specs.Kinds.{reserved, unreserved, signs, spelling, spells, kind_in, kind_of}
use Rattle.ct_grammar.specs.Lengths.{is_spelled_in}

-- what is spelled so has this length
spells_length : (kind : Kind) (word : List ℕ) → spells kind word ≡ true → is_spelled_in (length word) kind ≡ true
unfolding spells
spells_length kind word h =
    let same : str_to_ascii_lowercase word ≡ str_to_ascii_lowercase (spelling kind) = (bytes_eq-Decides (str_to_ascii_lowercase word) (str_to_ascii_lowercase (spelling kind))).0 h in
    (Decides-eqb (length (spelling kind)) (length word)).1 (sym (length-map (spelling kind) to_ascii_lowercase) ∙ ap length (sym same) ∙ length-map word to_ascii_lowercase)

kind_in_filter : (kinds : List Kind) (word : List ℕ) (otherwise : Kind)
    → kind_in (filter (is_spelled_in (length word)) kinds) word otherwise ≡ kind_in kinds word otherwise
unfolding kind_in
kind_in_filter [] word otherwise = refl
kind_in_filter (kind ∷ kinds) word otherwise = by (kind_in_filter kinds word otherwise) (is_spelled_in (length word) kind) refl (spells kind word) refl
  where
    by : kind_in (filter (is_spelled_in (length word)) kinds) word otherwise ≡ kind_in kinds word otherwise
        → (same : Bool) → is_spelled_in (length word) kind ≡ same → (hit : Bool) → spells kind word ≡ hit
        → kind_in (filter (is_spelled_in (length word)) (kind ∷ kinds)) word otherwise ≡ kind_in (kind ∷ kinds) word otherwise
    by rest true e true f = rw (e, f) refl
    by rest true e false f = rw (e, f) rest
    by rest false e true f = let g : is_spelled_in (length word) kind ≡ true = spells_length kind word f in absurd cc
    by rest false e false f = rw (e, f) rest

-- ---- the kind of a token

sought : (all kinds : List Kind) (word : List ℕ) (otherwise kind : Kind)
    → kinds ≡ filter (is_spelled_in (length word)) all → kind ≡ kind_in kinds word otherwise → kind ≡ kind_in all word otherwise
sought all kinds word otherwise kind those is = is ∙ ap (λ l. kind_in l word otherwise) those ∙ kind_in_filter all word otherwise

pub as_word : (form : TokenKind) (kinds : List Kind) (word : List ℕ) (kind : Kind) → form ≡ forms.Name
    → kinds ≡ filter (is_spelled_in (length word)) (reserved ++ unreserved) → kind ≡ kind_in kinds word k.Unlisted → kind ≡ kind_of form word
as_word form kinds word kind e those is = subst (λ f. kind ≡ kind_of f word) (sym e) (sought (reserved ++ unreserved) kinds word k.Unlisted kind those is)

pub as_sign : (form : TokenKind) (kinds : List Kind) (word : List ℕ) (kind : Kind) → form ≡ forms.Sign
    → kinds ≡ filter (is_spelled_in (length word)) signs → kind ≡ kind_in kinds word k.Other → kind ≡ kind_of form word
as_sign form kinds word kind e those is = subst (λ f. kind ≡ kind_of f word) (sym e) (sought signs kinds word k.Other kind those is)

number_kind : (word : List ℕ) (zero : Bool) → spells k.Zero word ≡ zero → (if zero then k.Zero else k.Number) ≡ kind_in (k.Zero ∷ []) word k.Number
unfolding kind_in
number_kind word zero e = sym (ap (λ b. if b then k.Zero else k.Number) e)

pub as_number : (form : TokenKind) (word : List ℕ) (zero : Bool) → form ≡ forms.Number → spells k.Zero word ≡ zero → (if zero then k.Zero else k.Number) ≡ kind_of form word
as_number form word zero e hit = subst (λ f. (if zero then k.Zero else k.Number) ≡ kind_of f word) (sym e) (number_kind word zero hit)

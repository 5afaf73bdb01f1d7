-- The lexemes of a text that may be names stand for names.
use Rattle.std.proofs.Common.{◌≡◌, ℕ, Bool, true, false, not, if◌then◌else◌, List, [], ◌∷◌, ◌++◌, refl, sym, subst}
use Rattle.std.specs.List.{AllByRecursion, list_all}
use Rattle.std.specs.Prelude.{drop, slice_range}
use Rattle.std.proofs.lemmas.Bool.{both_ways, and_parts, not-true}
use Rattle.std.proofs.lemmas.List.Elements.{recursion_from_All}
use Rattle.ct_model.specs.Names.{IsName}
use Rattle.ct_lexer.specs.declared.token.Token.{Token}
use Rattle.ct_lexer.specs.declared.token.TokenKind.{TokenKind}
use Rattle.ct_lexer.specs.declared.token.TokenKind.TheVariants as form
use Rattle.ct_lexer.specs.Tokens.{IsToken}
use Rattle.ct_lexer.specs.Cutting.{IsCut}
use Rattle.ct_lexer.specs.Spans.{Stands}
use Rattle.ct_lexer.proofs.Spans.{tokens_stand}
use Rattle.ct_grammar.specs.declared.kind.Kind.{Kind}
use Rattle.ct_grammar.specs.declared.kind.Kind.TheVariants as k
use Rattle.ct_grammar.specs.Kinds.{same, has, names, signs, reserved, unreserved, spells, kind_in, kind_of}
use Rattle.ct_grammar.specs.Lexemes.{Lexeme, lexemes}
use Rattle.ct_grammar.specs.Words.{name_in}
use Rattle.ct_machine_laws.proofs.Names.{bare_name, bracketed_name}

-- where a rule takes the lexeme for a name, it stands for one
abbrev pub StandsForName : Lexeme → Type 0
StandsForName x = has names x.kind ≡ true → IsName (name_in x.kind x.word)

-- each of the lexemes does
abbrev pub AllStand : List Lexeme → Type 0
AllStand xs = AllByRecursion StandsForName xs

-- ---- the kind of a word

-- the kind of a word passes a test that each kind that is tried passes, and the one that is left
kind_in_passes : (test : Kind → Bool) (kinds : List Kind) (word : List ℕ) (otherwise : Kind) → list_all test kinds ≡ true → test otherwise ≡ true → test (kind_in kinds word otherwise) ≡ true
unfolding kind_in
kind_in_passes test [] word otherwise all last = last
kind_in_passes test (kind ∷ kinds) word otherwise all last =
    let parts = and_parts (test kind) (list_all test kinds) all in
    elim (spells kind word) as (λ b. test (if b then kind else kind_in kinds word otherwise) ≡ true)
    [ true ↦ parts.0 | false ↦ kind_in_passes test kinds word otherwise parts.1 last ]

-- a word of this kind has no brackets
abbrev is_bare : Kind → Bool
is_bare k.Bracketed = false
is_bare _ = true

bare_word : (kind : Kind) (word : List ℕ) → is_bare kind ≡ true → name_in kind word ≡ word
unfolding name_in
bare_word k.Bracketed word bare = absurd (both_ways false refl bare)
bare_word _ word bare = refl

word_is_bare : (word : List ℕ) → is_bare (kind_in (reserved ++ unreserved) word k.Unlisted) ≡ true
word_is_bare word = kind_in_passes is_bare (reserved ++ unreserved) word k.Unlisted refl refl

-- no rule takes this kind for a name
abbrev is_no_name : Kind → Bool
is_no_name kind = not (has names kind)

no_name : (kind : Kind) (word : List ℕ) → is_no_name kind ≡ true → StandsForName (record { kind = kind; word = word })
no_name kind word none named = absurd (both_ways (has names kind) (not-true (has names kind) none) named)

-- ---- tokens

token_stands : (kind : TokenKind) (word more : List ℕ) → IsToken kind word more → StandsForName (record { kind = kind_of kind word; word = word })
unfolding has same name_in
token_stands form.Name word more t named = subst IsName (sym (bare_word (kind_of form.Name word) word (word_is_bare word))) (bare_name word more t.0)
token_stands form.Bracketed word more t named = bracketed_name word more t
token_stands form.Variable word more t named = no_name k.Variable word refl named
token_stands form.Number word more t named = no_name (kind_of form.Number word) word (kind_in_passes is_no_name (k.Zero ∷ []) word k.Number refl refl) named
token_stands form.Text word more t named = no_name k.Text word refl named
token_stands form.Bytes word more t named = no_name k.Bytes word refl named
token_stands form.Sign word more t named = no_name (kind_of form.Sign word) word (kind_in_passes is_no_name signs word k.Other refl refl) named

all_stand : (text : List ℕ) (tokens : List Token) → AllByRecursion (Stands text) tokens → AllStand (lexemes text tokens)
all_stand text [] all = tt
all_stand text (token ∷ tokens) all =
    (token_stands token.kind (slice_range text token.from token.to) (drop token.to text) all.0, all_stand text tokens all.1)

pub lexemes_stand : (text : List ℕ) (tokens : List Token) → IsCut text tokens → AllStand (lexemes text tokens)
lexemes_stand text tokens cut = all_stand text tokens (recursion_from_All (Stands text) tokens (tokens_stand text tokens cut))

-- Tokens with their kinds beside them.
use Rattle.std.proofs.Common.{◌≡◌, false, ◌∙◌, sym, subst, ℕ, zero, suc, ◌<◌, ◌≤◌, List, take, [], ◌∷◌, length, get_or, map, refl, ap, arith}
use Rattle.std.proofs.lemmas.List.{take_all}
use Rattle.ct_lexer.specs.declared.token.Token.{Token}
use Rattle.ct_lexer.specs.Spans.{Fits, AllFit}
use Rattle.ct_grammar.specs.Kinds.{Set}
use Rattle.ct_grammar.specs.Lexemes.{Lexeme, lexeme, lexemes, matches}
use Rattle.ct_grammar.specs.declared.kinded.Kinded.{Kinded}
use Rattle.ct_grammar.specs.Told.{with_kind, told, AllCut, AreKinded}
use Rattle.ct_grammar.proofs.Spans.{matches_short}

pub length_told : (text : List ℕ) (xs : List Kinded) → length (told text xs) ≡ length xs
length_told text [] = refl
length_told text (x ∷ xs) = ap suc (length_told text xs)

-- there are too few
pub too_few : (text : List ℕ) (xs : List Kinded) (ss : List Set) (all : List Lexeme) → told text xs ≡ all → length xs < length ss → false ≡ matches ss all
too_few text xs ss all e h = sym (matches_short ss all (omega (arith, length_told text xs, ap length e)))

pub fits_at : (text : List ℕ) (tokens : List Token) (i : ℕ) (d : Token) → i < length tokens → AllFit text tokens → Fits text (get_or tokens i d)
fits_at text [] i d h fit = absurd (omega arith)
fits_at text (token ∷ tokens) zero d h fit = fit.0
fits_at text (token ∷ tokens) (suc i) d h fit = fits_at text tokens i d (omega arith) fit.1

all_cut : (text : List ℕ) (tokens : List Token) → AllFit text tokens → AllCut text (map (with_kind text) tokens)
all_cut text [] fit = tt
all_cut text (token ∷ tokens) fit = (fit.0, all_cut text tokens fit.1)

all_told : (text : List ℕ) (tokens : List Token) → told text (map (with_kind text) tokens) ≡ lexemes text tokens
all_told text [] = refl
all_told text (token ∷ tokens) = ap (λ xs. lexeme text token ∷ xs) (all_told text tokens)

all_kinded : (text : List ℕ) (tokens : List Token) → AllFit text tokens → AreKinded text tokens (map (with_kind text) tokens)
all_kinded text tokens fit = record { cut = all_cut text tokens fit; told = all_told text tokens }

pub kinded_so_far : (text : List ℕ) (tokens : List Token) (xs : List Kinded) (i : ℕ) → AllFit text tokens → xs ≡ map (with_kind text) (take i tokens) → length tokens ≤ i → AreKinded text tokens xs
kinded_so_far text tokens xs i fit is end =
    let all : xs ≡ map (with_kind text) tokens = is ∙ ap (map (with_kind text)) (take_all i tokens end) in
    subst (AreKinded text tokens) (sym all) (all_kinded text tokens fit)

-- Pieces that stand in the same bytes.
use Rattle.std.proofs.Common.{◌≡◌, ◌⊎◌, inl, inr, ⊎_elim, ℕ, List, [], ◌∷◌, ◌++◌, refl, sym, ◌∙◌, append_assoc}
use Rattle.std.specs.List.{AllByRecursion}
use Rattle.ct_types.specs.declared.piece.Piece.{Piece}
use Rattle.ct_codec.specs.Codes.{BeginsNoOther}
use Rattle.ct_codec.specs.Spellings.{spell_piece, PieceFits}
use Rattle.ct_codec.proofs.Combined.{law_begins_no_other}
use Rattle.ct_codec.proofs.PieceLaws.{law_piece}
use Rattle.ct_found.specs.Pieces.{pieces_of, spell_pieces}
use Rattle.ct_found.specs.Laws.{OneCheckpoint}
use Rattle.ct_found.proofs.Gathering.{one_database}

-- the spelling of a piece begins that of no other
piece_once : BeginsNoOther spell_piece PieceFits
piece_once = law_begins_no_other law_piece

-- a list begins with another one, and this stands behind that one
pub record Goes (short long : List Piece) (behind rest : List ℕ) : Type 0 where
  pub more : List Piece
  pub is : long ≡ short ++ more
  pub fit : AllByRecursion PieceFits more
  pub behind_is : behind ≡ spell_pieces more ++ rest

goes_on : (p q : Piece) (short long : List Piece) (behind rest : List ℕ) → p ≡ q → Goes short long behind rest → Goes (p ∷ short) (q ∷ long) behind rest
goes_on p q short long behind rest same goes = record { more = goes.more; is = λ i. sym same i ∷ goes.is i; fit = goes.fit; behind_is = goes.behind_is }

-- of two lists of pieces that begin the same bytes, the one begins the other
pub meet : (ps qs : List Piece) (r s : List ℕ) → AllByRecursion PieceFits ps → AllByRecursion PieceFits qs → spell_pieces ps ++ r ≡ spell_pieces qs ++ s → Goes ps qs r s ⊎ Goes qs ps s r
meet [] qs r s fit fit_too e = inl (record { more = qs; is = refl; fit = fit_too; behind_is = e })
meet (p ∷ ps) [] r s fit fit_too e = inr (record { more = p ∷ ps; is = refl; fit = fit; behind_is = sym e })
meet (p ∷ ps) (q ∷ qs) r s fit fit_too e =
    let parts = piece_once p q (spell_pieces ps ++ r) (spell_pieces qs ++ s) fit.0 fit_too.0
    (sym (append_assoc (spell_piece p) (spell_pieces ps) r) ∙ e ∙ append_assoc (spell_piece q) (spell_pieces qs) s) in
    ⊎_elim
    (λ goes. inl (goes_on p q ps qs r s parts.0 goes))
    (λ goes. inr (goes_on q p qs ps s r (sym parts.0) goes))
    (meet ps qs r s fit.1 fit_too.1 parts.1)

pub one_checkpoint : OneCheckpoint
one_checkpoint bytes size a b x y =
    ⊎_elim
    (λ goes. sym (one_database b a goes.more goes.is))
    (λ goes. one_database a b goes.more goes.is)
    (meet (pieces_of a) (pieces_of b) x.ignored y.ignored x.fit y.fit (sym x.split ∙ y.split))

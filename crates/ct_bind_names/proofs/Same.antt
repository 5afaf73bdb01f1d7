-- Names that are the same: those that are one with ASCII letters folded.
use Rattle.std.proofs.Common.{◌≡◌, ℕ, true, List, ap}
use Rattle.std.specs.Str.{bytes_eq}
use Rattle.std.proofs.lemmas.Slice.Eq.{bytes_eq-Decides}
use Rattle.ct_model.specs.Names.{folded}
use Rattle.ct_bind_names.specs.Names.{same}

pub same_folded : (a b : List ℕ) → same a b ≡ true → folded a ≡ folded b
unfolding same
same_folded a b e = (bytes_eq-Decides (folded a) (folded b)).0 e

pub folded_same : (a b : List ℕ) → folded a ≡ folded b → same a b ≡ true
unfolding same
folded_same a b e = (bytes_eq-Decides (folded a) (folded b)).1 e

-- what is the same as one of two such names is the same as the other
pub same_first : (a b c : List ℕ) → same a b ≡ true → same a c ≡ same b c
unfolding same
same_first a b c alike = ap (λ name. bytes_eq name (folded c)) (same_folded a b alike)

pub same_second : (a b c : List ℕ) → same a b ≡ true → same c a ≡ same c b
unfolding same
same_second a b c alike = ap (bytes_eq (folded c)) (same_folded a b alike)

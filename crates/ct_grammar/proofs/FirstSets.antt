-- Sets of kinds, and the lexeme that comes next.
use Rattle.std.proofs.Common.{◌≡◌, ◌⊎◌, inl, inr, Bool, true, false, not, ◌&&◌, ◌||◌, List, [], ◌∷◌, ◌++◌, refl, ap, sym, ◌∙◌, rules}
use Rattle.std.proofs.Math.Bool.{or_assoc, or-true}
use denote.Enum.Bare.{same_true}
use Rattle.ct_grammar.specs.declared.kind.Kind.{Kind}
use Rattle.ct_grammar.specs.contracts.kind.Kind.{the_type}
use Rattle.ct_grammar.specs.Kinds.{same, Set, has, apart, within}
use Rattle.ct_grammar.specs.Lexemes.{Lexeme, sees}

-- ---- truth values

pub true_or_false : (a : Bool) → (a ≡ true) ⊎ (a ≡ false)
true_or_false true = inl refl
true_or_false false = inr refl

pub both_true : (a b : Bool) → a && b ≡ true → (a ≡ true) × (b ≡ true)
both_true false b h = cc
both_true true b h = (refl, h)

both_false : (a b : Bool) → a || b ≡ false → (a ≡ false) × (b ≡ false)
both_false false b h = (refl, h)
both_false true b h = cc

false_of_not : (a : Bool) → not a ≡ true → a ≡ false
false_of_not false h = refl
false_of_not true h = cc

-- ---- sets

same_kind : (x y : Kind) → same x y ≡ true → x ≡ y
unfolding same
same_kind x y h = same_true the_type (search rules) x y h

-- kinds differ, if a set holds one of them and not the other
told_apart : (set : Set) (x y : Kind) → (has set x ≡ has set y → ⊥) → same x y ≡ false
told_apart set x y differ = elim (true_or_false (same x y)) [ inl h ↦ absurd (differ (ap (has set) (same_kind x y h))) | inr h ↦ h ]

pub has_either : (left right : Set) (kind : Kind) → has (left ++ right) kind ≡ has left kind || has right kind
unfolding has
has_either [] right kind = refl
has_either (x ∷ left) right kind = ap (λ b. same x kind || b) (has_either left right kind) ∙ sym (or_assoc (same x kind) (has left kind) (has right kind))

-- what one of two sets that are apart holds, the other doesn't
pub apart_excludes : (left right : Set) (kind : Kind) → apart left right ≡ true → has right kind ≡ true → has left kind ≡ false
unfolding apart has
apart_excludes [] right kind clear held = refl
apart_excludes (x ∷ left) right kind clear held =
    let two = both_true (not (has right x)) (apart left right) clear in
    let absent : has right x ≡ false = false_of_not (has right x) two.0 in
    let head : same x kind ≡ false = told_apart right x kind (λ e. (let f : false ≡ true = sym absent ∙ e ∙ held in cc)) in
    rw (head, apart_excludes left right kind two.1 held) refl

-- what a set doesn't hold, no smaller set holds
outside_smaller : (small large : Set) (kind : Kind) → within small large ≡ true → has large kind ≡ false → has small kind ≡ false
unfolding within has
outside_smaller [] large kind inside out = refl
outside_smaller (x ∷ small) large kind inside out =
    let two = both_true (has large x) (within small large) inside in
    let head : same x kind ≡ false = told_apart large x kind (λ e. (let f : true ≡ false = sym two.0 ∙ e ∙ out in cc)) in
    rw (head, outside_smaller small large kind two.1 out) refl

pub has_larger : (small large : Set) (kind : Kind) → within small large ≡ true → has small kind ≡ true → has large kind ≡ true
has_larger small large kind inside held = elim (true_or_false (has large kind)) [
  | inl h ↦ h
  | inr out ↦ (let f : true ≡ false = sym held ∙ outside_smaller small large kind inside out in cc)
]

-- ---- the lexeme that comes next

-- both are at their end, or the same lexeme comes next
abbrev pub SameNext : List Lexeme → List Lexeme → Type 0
SameNext [] [] = Unit {0}
SameNext (x ∷ xs) (y ∷ ys) = x ≡ y
SameNext _ _ = ⊥

pub same_next : (xs : List Lexeme) → SameNext xs xs
same_next [] = tt
same_next (x ∷ xs) = refl

pub same_next_behind : (used xs ys : List Lexeme) → SameNext xs ys → SameNext (used ++ xs) (used ++ ys)
same_next_behind [] xs ys same = same
same_next_behind (u ∷ used) xs ys same = refl

pub sees_alike : (set : Set) (xs ys : List Lexeme) → SameNext xs ys → sees set xs ≡ sees set ys
unfolding sees
sees_alike set [] [] same = refl
sees_alike set [] (y ∷ ys) same = absurd same
sees_alike set (x ∷ xs) [] same = absurd same
sees_alike set (x ∷ xs) (y ∷ ys) same = ap (λ (t : Lexeme). has set t.kind) same

-- the first lexeme is one of the set; `empty` tells whether there may be none
abbrev pub BeginsIn : Set → Bool → List Lexeme → Type 0
BeginsIn set empty [] = empty ≡ true
BeginsIn set empty (x ∷ xs) = has set x.kind ≡ true

-- the next lexeme, if there is one, is not of the set
abbrev pub NotNext : Set → List Lexeme → Type 0
NotNext set xs = sees set xs ≡ false

sees_either : (left right : Set) (xs : List Lexeme) → sees (left ++ right) xs ≡ sees left xs || sees right xs
unfolding sees
sees_either left right [] = refl
sees_either left right (x ∷ xs) = has_either left right x.kind

pub neither_next : (left right : Set) (xs : List Lexeme) → NotNext (left ++ right) xs → NotNext left xs × NotNext right xs
neither_next left right xs h = both_false (sees left xs) (sees right xs) (sym (sees_either left right xs) ∙ h)

pub smaller_not_next : (small large : Set) (xs : List Lexeme) → within small large ≡ true → NotNext large xs → NotNext small xs
unfolding sees
smaller_not_next small large [] inside h = refl
smaller_not_next small large (x ∷ xs) inside h = outside_smaller small large x.kind inside h

pub end_not_next : (set : Set) → NotNext set []
unfolding sees
end_not_next set = refl

pub begins_left : (left right : Set) (xs : List Lexeme) → BeginsIn left false xs → BeginsIn (left ++ right) false xs
begins_left left right [] h = cc
begins_left left right (x ∷ xs) h = has_either left right x.kind ∙ rw h refl

pub begins_right : (left right : Set) (xs : List Lexeme) → BeginsIn right false xs → BeginsIn (left ++ right) false xs
begins_right left right [] h = cc
begins_right left right (x ∷ xs) h = has_either left right x.kind ∙ rw h (or-true (has left x.kind))

pub begins_sees : (set : Set) (xs rest : List Lexeme) → BeginsIn set false xs → sees set (xs ++ rest) ≡ true
unfolding sees
begins_sees set [] rest h = absurd cc
begins_sees set (x ∷ xs) rest h = h

pub begins_elsewhere : (set other : Set) (xs rest : List Lexeme) → apart set other ≡ true → BeginsIn other false xs → NotNext set (xs ++ rest)
unfolding sees
begins_elsewhere set other [] rest clear h = absurd cc
begins_elsewhere set other (x ∷ xs) rest clear h = apart_excludes set other x.kind clear h

-- the same where there may be none, if what follows isn't of the set either
pub elsewhere_or_behind : (set other : Set) (xs rest : List Lexeme) → apart set other ≡ true → BeginsIn other true xs → NotNext (set ++ other) rest → NotNext set (xs ++ rest)
unfolding sees
elsewhere_or_behind set other [] rest clear h behind = (neither_next set other rest behind).0
elsewhere_or_behind set other (x ∷ xs) rest clear h behind = apart_excludes set other x.kind clear h

pub begins_or_empty : (set : Set) (xs more : List Lexeme) → BeginsIn set false xs → BeginsIn set true (xs ++ more)
begins_or_empty set [] more h = absurd cc
begins_or_empty set (x ∷ xs) more h = h

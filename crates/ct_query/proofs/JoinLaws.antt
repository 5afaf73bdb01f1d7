-- The laws of joins and of WHERE.
use Rattle.std.proofs.Common.{◌≡◌, Bool, true, false, cond, List, [], ◌∷◌, ◌++◌, map, Ok, Err, refl, ap, subst, ◌∙◌, append_assoc}
use Rattle.std.proofs.lemmas.List.{map-append}
use Rattle.std.proofs.lemmas.List.Elements.{filter-append}
use Rattle.std.proofs.lemmas.List.Sorted.{IsPermutation-refl, IsPermutation-cons, IsPermutation-trans, IsPermutation-append_comm, IsPermutation-append_left, IsPermutation-append_right}
use Rattle.std.specs.List.{AllByRecursion, filter, flat_map}
use Rattle.std.specs.List.Sorted.{IsPermutation}
use Rattle.ct_types.specs.declared.value.Row.{Row}
use Rattle.ct_types.specs.Answers.{Answer, ◌>>=◌}
use Rattle.ct_expr.specs.Meaning.{holds}
use Rattle.ct_query.specs.Joins.{Joined, pair, left_only, right_only, with_right, with_left, or_else, is_pair, turned}
use Rattle.ct_query.specs.Laws.{InnerIsLeftPaired, RightMirrorsLeft, SamePairs, TrueKeepsAll}
use Rattle.ct_expr.specs.Conditions.{only}
use Rattle.ct_scan.specs.Lists.{all_of}
use Rattle.ct_query.proofs.Through.{all_of-through, only-through}

-- ---- INNER and LEFT

paired_at : (one : Joined) (o : Answer Bool) (m : Answer (List Joined)) → is_pair one ≡ true → m ≡ (m >>= (λ a. Ok (filter is_pair a)))
    → (o >>= (λ b. m >>= (λ rest. Ok (cond b (one ∷ rest) rest)))) ≡ ((o >>= (λ b. m >>= (λ rest. Ok (cond b (one ∷ rest) rest)))) >>= (λ a. Ok (filter is_pair a)))
paired_at one (Err r) m is e = refl
paired_at one (Ok b) (Err r) is e = refl
paired_at one (Ok false) (Ok a) is e = e
paired_at one (Ok true) (Ok a) is e = let same : a ≡ filter is_pair a = cc in rw (is, ← same)

-- what is found are pairs
found_pairs : (on : Joined → Answer Bool) (f : Row → Joined) → ((row : Row) → is_pair (f row) ≡ true) → (rows : List Row)
    → only on (map f rows) ≡ (only on (map f rows) >>= (λ a. Ok (filter is_pair a)))
found_pairs on f is [] = refl
found_pairs on f is (row ∷ rows) = paired_at (f row) (on (f row)) (only on (map f rows)) (is row) (found_pairs on f is rows)

or_else-pairs : (other : Joined) (o : Answer (List Joined)) → is_pair other ≡ false → o ≡ (o >>= (λ a. Ok (filter is_pair a)))
    → o ≡ ((o >>= (λ found. Ok (or_else other found))) >>= (λ a. Ok (filter is_pair a)))
or_else-pairs other (Err r) is e = refl
or_else-pairs other (Ok []) is e = rw is
or_else-pairs other (Ok (a ∷ more)) is e = e

-- what pairs there are, of a left row
pairs_right : (on : Joined → Answer Bool) (rights : List Row) (left : Row)
    → with_right on rights left ≡ ((with_right on rights left >>= (λ found. Ok (or_else (left_only left) found))) >>= (λ a. Ok (filter is_pair a)))
pairs_right on rights left = or_else-pairs (left_only left) (with_right on rights left) refl (found_pairs on (pair left) (λ row. refl) rights)

pairs_left : (on : Joined → Answer Bool) (lefts : List Row) (right : Row)
    → with_left on lefts right ≡ ((with_left on lefts right >>= (λ found. Ok (or_else (right_only right) found))) >>= (λ a. Ok (filter is_pair a)))
pairs_left on lefts right = or_else-pairs (right_only right) (with_left on lefts right) refl (found_pairs on (λ left. pair left right) (λ row. refl) lefts)

pub inner_is_left_paired : InnerIsLeftPaired
inner_is_left_paired columns on lefts rights =
    all_of-through (filter is_pair) refl (filter-append is_pair) (with_right on rights) (λ left. with_right on rights left >>= (λ found. Ok (or_else (left_only left) found))) (pairs_right on rights) lefts

-- ---- RIGHT and LEFT

or_else-turned : (right : Row) (o p : Answer (List Joined)) → p ≡ (o >>= (λ a. Ok (map turned a)))
    → (p >>= (λ found. Ok (or_else (right_only right) found))) ≡ ((o >>= (λ found. Ok (or_else (left_only right) found))) >>= (λ a. Ok (map turned a)))
or_else-turned right (Err r) p e = rw e
or_else-turned right (Ok []) p e = rw e
or_else-turned right (Ok (a ∷ more)) p e = rw e

pub right_mirrors_left : RightMirrorsLeft
right_mirrors_left columns on lefts rights =
    all_of-through (map turned) refl (map-append turned)
    (λ right. with_left on lefts right >>= (λ found. Ok (or_else (right_only right) found)))
    (λ left. with_right (λ one. on (turned one)) lefts left >>= (λ found. Ok (or_else (left_only left) found)))
    (λ right. or_else-turned right (with_right (λ one. on (turned one)) lefts right) (with_left on lefts right) (only-through on turned (pair right) lefts)) rights

-- ---- the pairs of both

abbrev passes : Answer Bool → Bool
passes (Ok b) = b
passes (Err r) = false

kept_at : (one : Joined) (o : Answer Bool) (m : Answer (List Joined)) (found rest : List Joined) → ((some : List Joined) → m ≡ Ok some → some ≡ rest)
    → (o >>= (λ b. m >>= (λ more. Ok (cond b (one ∷ more) more)))) ≡ Ok found → found ≡ cond (passes o) (one ∷ rest) rest
kept_at one (Err r) m found rest more e = cc
kept_at one (Ok b) (Err r) found rest more e = cc
kept_at one (Ok true) (Ok a) found rest more e = let same : a ≡ rest = more a refl in cc
kept_at one (Ok false) (Ok a) found rest more e = let same : a ≡ rest = more a refl in cc

only-filter : (on : Joined → Answer Bool) (ones found : List Joined) → only on ones ≡ Ok found → found ≡ filter (λ one. passes (on one)) ones
only-filter on [] found e = cc
only-filter on (one ∷ ones) found e = kept_at one (on one) (only on ones) found (filter (λ one. passes (on one)) ones) (only-filter on ones) e

joined_at : (o m : Answer (List Joined)) (found first rest : List Joined) → ((some : List Joined) → o ≡ Ok some → some ≡ first) → ((some : List Joined) → m ≡ Ok some → some ≡ rest)
    → (o >>= (λ some. m >>= (λ more. Ok (some ++ more)))) ≡ Ok found → found ≡ first ++ rest
joined_at (Err r) m found first rest here more e = cc
joined_at (Ok a) (Err r) found first rest here more e = cc
joined_at (Ok a) (Ok b) found first rest here more e = let p : a ≡ first = here a refl in let q : b ≡ rest = more b refl in cc

all_of-flat_map : (f : Row → Answer (List Joined)) (h : Row → List Joined) → ((row : Row) (some : List Joined) → f row ≡ Ok some → some ≡ h row)
    → (rows : List Row) (found : List Joined) → all_of f rows ≡ Ok found → found ≡ flat_map h rows
all_of-flat_map f h here [] found e = cc
all_of-flat_map f h here (row ∷ rows) found e = joined_at (f row) (all_of f rows) found (h row) (flat_map h rows) (here row) (all_of-flat_map f h here rows) e

moved : (first some rest all : List Joined) → IsPermutation (first ++ rest) all → IsPermutation (first ++ (some ++ rest)) (some ++ all)
moved first some rest all same =
    let over : IsPermutation (first ++ (some ++ rest)) (some ++ (first ++ rest)) = simp append_assoc at (IsPermutation-append_left rest (first ++ some) (some ++ first) (IsPermutation-append_comm first some)) in
    IsPermutation-trans (first ++ (some ++ rest)) (some ++ (first ++ rest)) (some ++ all) over (IsPermutation-append_right some (first ++ rest) all same)

spread_at : (b : Bool) (one : Joined) (first some rest all : List Joined) → IsPermutation (first ++ rest) all
    → IsPermutation (cond b (one ∷ first) first ++ (some ++ rest)) (cond b (one ∷ some) some ++ all)
spread_at true one first some rest all same = IsPermutation-cons one (first ++ (some ++ rest)) (some ++ all) (moved first some rest all same)
spread_at false one first some rest all same = moved first some rest all same

spread : (test : Joined → Bool) (f : Row → Joined) (h : Row → List Joined) (rows : List Row)
    → IsPermutation (filter test (map f rows) ++ flat_map h rows) (flat_map (λ row. cond (test (f row)) (f row ∷ h row) (h row)) rows)
spread test f h [] = IsPermutation-refl []
spread test f h (row ∷ rows) =
    spread_at (test (f row)) (f row) (filter test (map f rows)) (h row) (flat_map h rows) (flat_map (λ row. cond (test (f row)) (f row ∷ h row) (h row)) rows) (spread test f h rows)

abbrev by_left : (Joined → Bool) → List Row → List Row → List Joined
by_left test lefts rights = flat_map (λ left. filter test (map (pair left) rights)) lefts

abbrev by_right : (Joined → Bool) → List Row → List Row → List Joined
by_right test lefts rights = flat_map (λ right. filter test (map (λ left. pair left right) lefts)) rights

by_right-none : (test : Joined → Bool) (rights : List Row) → [] ≡ by_right test [] rights
by_right-none test [] = refl
by_right-none test (right ∷ rights) = by_right-none test rights

exchanged : (test : Joined → Bool) (lefts rights : List Row) → IsPermutation (by_left test lefts rights) (by_right test lefts rights)
exchanged test [] rights = subst (λ (all : List Joined). IsPermutation [] all) (by_right-none test rights) (IsPermutation-refl [])
exchanged test (left ∷ lefts) rights =
    let first = filter test (map (pair left) rights) in
    IsPermutation-trans (first ++ by_left test lefts rights) (first ++ by_right test lefts rights) (by_right test (left ∷ lefts) rights)
    (IsPermutation-append_right first (by_left test lefts rights) (by_right test lefts rights) (exchanged test lefts rights))
    (spread test (pair left) (λ right. filter test (map (λ left. pair left right) lefts)) rights)

pub same_pairs : SamePairs
same_pairs columns on lefts rights lefted righted is_left is_right =
    let test : Joined → Bool = λ one. passes (on one) in
    let from_left : all_of (with_right on rights) lefts ≡ Ok (filter is_pair lefted) = inner_is_left_paired columns on lefts rights ∙ ap (λ o. o >>= (λ a. Ok (filter is_pair a))) is_left in
    let from_right : all_of (with_left on lefts) rights ≡ Ok (filter is_pair righted) =
    all_of-through (filter is_pair) refl (filter-append is_pair) (with_left on lefts) (λ right. with_left on lefts right >>= (λ found. Ok (or_else (right_only right) found))) (pairs_left on lefts) rights
    ∙ ap (λ o. o >>= (λ a. Ok (filter is_pair a))) is_right in
    let p : filter is_pair lefted ≡ by_left test lefts rights =
    all_of-flat_map (with_right on rights) (λ left. filter test (map (pair left) rights)) (λ left some e. only-filter on (map (pair left) rights) some e) lefts (filter is_pair lefted) from_left in
    let q : filter is_pair righted ≡ by_right test lefts rights =
    all_of-flat_map (with_left on lefts) (λ right. filter test (map (λ left. pair left right) lefts)) (λ right some e. only-filter on (map (λ left. pair left right) lefts) some e) rights (filter is_pair righted) from_right in
    rw (p, q) (exchanged test lefts rights)

-- ---- WHERE

only-all : {A : Type 0} (test : A → Answer Bool) (ones : List A) → AllByRecursion (λ one. test one ≡ Ok true) ones → only test ones ≡ Ok ones
only-all test [] all = refl
only-all test (one ∷ ones) all = rw (all.0, only-all test ones all.1)

pub true_keeps_all : TrueKeepsAll
true_keeps_all world condition rows all = only-all (holds world condition) rows all

-- The last version at or before a view, found from the end of a list of versions.
use Rattle.std.proofs.Common.{◌≡◌, ℕ, zero, suc, ◌+◌, ◌<◌, ◌≤◌, Bool, true, false, ◌||◌, cond, List, [], ◌∷◌, ◌++◌, take, drop, length, get_or, filter, Option, None, Some, refl, sym, ap, ◌∙◌, subst, arith}
use Rattle.std.specs.List.{list_any, last_or}
use Rattle.std.specs.declared.sync.Arc.{Arc}
use Rattle.std.proofs.lemmas.Bool.Decides.{nat_tests}
use Rattle.std.proofs.lemmas.Grind.{common_steps}
use Rattle.std.proofs.lemmas.List.{map-append, get_or_read}
use Rattle.std.proofs.lemmas.List.Elements.{filter-append}
use Rattle.std.proofs.lemmas.List.Folds.{list_any-append}
use Rattle.ct_ptree.proofs.Lists.{split_at, drop_at}
use Rattle.ct_rows.specs.declared.version.Version.{Version}
use Rattle.ct_rows.specs.Versions.{versions_of, is_seen, version_at, IsSeenAt}
use Rattle.ct_rows.specs.Prunes.{behind}

-- a version that is read through its pointer
pub at_seen : (view : ℕ) (v w : Version) → v ≡ w → v.at ≤ view → is_seen view w ≡ true
at_seen view v w same before = subst (λ (u : Version). is_seen view u ≡ true) same (grind (arith, nat_tests, before))

-- none of the versions is seen
pub none_seen : (view : ℕ) (vs : List Version) → list_any (is_seen view) vs ≡ false → filter (is_seen view) vs ≡ []
none_seen view [] none = refl
none_seen view (v ∷ vs) none =
    let step : (b : Bool) → (b || list_any (is_seen view) vs) ≡ false → cond b (v ∷ filter (is_seen view) vs) (filter (is_seen view) vs) ≡ [] =
    elim [ true ↦ (λ e. cc) | false ↦ (λ e. none_seen view vs e) ] in
    step (is_seen view v) none

pub none_at : (view : ℕ) (vs : List Version) → list_any (is_seen view) vs ≡ false → version_at vs view ≡ None
none_at view vs none = ap (last_or None) (none_seen view vs none)

pub none_behind : (view : ℕ) (vs : List Version) → list_any (is_seen view) vs ≡ false → behind vs view ≡ vs
none_behind view [] none = refl
none_behind view (v ∷ vs) none = rw none refl

pub last_after : {X : Type 0} (o : Option X) (xs : List X) (x : X) → last_or o (xs ++ x ∷ []) ≡ Some x
last_after o [] x = refl
last_after o (y ∷ xs) x = last_after (Some y) xs x

one_seen : (view : ℕ) (v : Version) → is_seen view v ≡ true → filter (is_seen view) (v ∷ []) ≡ v ∷ []
one_seen view v seen = rw seen refl

found_at : (view : ℕ) (front : List Version) (v : Version) (rest : List Version) → is_seen view v ≡ true → list_any (is_seen view) rest ≡ false
    → version_at (front ++ v ∷ rest) view ≡ Some v
found_at view front v rest seen none =
    ap (last_or None)
    (filter-append (is_seen view) front (v ∷ rest)
    ∙ ap (λ r. filter (is_seen view) front ++ r) (filter-append (is_seen view) (v ∷ []) rest ∙ ap (λ r. filter (is_seen view) (v ∷ []) ++ r) (none_seen view rest none) ∙ ap (λ r. r ++ []) (one_seen view v seen)))
    ∙ last_after None (filter (is_seen view) front) v

either : (a b : Bool) → (a || (b || true)) ≡ true
either true b = refl
either false true = refl
either false false = refl

found_behind : (view : ℕ) (front : List Version) (v : Version) (rest : List Version) → is_seen view v ≡ true → list_any (is_seen view) rest ≡ false
    → behind (front ++ v ∷ rest) view ≡ rest
found_behind view [] v rest seen none = rw seen (none_behind view rest none)
found_behind view (f ∷ front) v rest seen none =
    let any : list_any (is_seen view) (f ∷ (front ++ v ∷ rest)) ≡ true = rw (list_any-append (is_seen view) front (v ∷ rest), seen) (either (is_seen view f) (list_any (is_seen view) front)) in
    rw any (found_behind view front v rest seen none)

module _ {Z : Type 0} where
  versions_split : (xs : List (Arc Version Z)) (i : ℕ) (it : Arc Version Z) → i < length xs → it ≡ get_or xs i it
      → versions_of xs ≡ versions_of (take i xs) ++ it.value ∷ versions_of (drop (i + 1) xs)
  versions_split xs i it within is = ap versions_of (split_at xs i it within is) ∙ map-append (λ (a : Arc Version Z). a.value) (take i xs) (it ∷ drop (i + 1) xs)

  pub versions_drop : (xs : List (Arc Version Z)) (n : ℕ) → versions_of (drop n xs) ≡ drop n (versions_of xs)
  versions_drop xs zero = refl
  versions_drop [] (suc n) = refl
  versions_drop (x ∷ xs) (suc n) = versions_drop xs n

  -- the last of a list is the one at its last place
  pub last_place : (xs : List (Arc Version Z)) (i : ℕ) (it : Arc Version Z) → i + 1 ≡ length xs → it ≡ get_or xs i it → last_or None (versions_of xs) ≡ Some it.value
  last_place xs i it end is =
      let over : drop (i + 1) xs ≡ [] = grind (arith, common_steps) in
      ap (last_or None) (versions_split xs i it (omega arith) is ∙ ap (λ r. versions_of (take i xs) ++ it.value ∷ versions_of r) over)
      ∙ last_after None (versions_of (take i xs)) it.value

  pub last_here : (view : ℕ) (xs : List (Arc Version Z)) (i : ℕ) (it : Arc Version Z) → i < length xs → it ≡ get_or xs i it
      → is_seen view it.value ≡ true → list_any (is_seen view) (versions_of (drop (i + 1) xs)) ≡ false → IsSeenAt xs view i
  last_here view xs i it within is seen none = λ other same.
      ap (λ vs. version_at vs view) (versions_split xs i it within is)
      ∙ found_at view (versions_of (take i xs)) it.value (versions_of (drop (i + 1) xs)) seen none
      ∙ ap (λ (a : Arc Version Z). Some a.value) (get_or_read xs i it within is other ∙ sym same)

  pub behind_here : (view : ℕ) (xs : List (Arc Version Z)) (i : ℕ) (it : Arc Version Z) → i < length xs → it ≡ get_or xs i it
      → is_seen view it.value ≡ true → list_any (is_seen view) (versions_of (drop (i + 1) xs)) ≡ false → behind (versions_of xs) view ≡ versions_of (drop (i + 1) xs)
  behind_here view xs i it within is seen none =
      ap (λ vs. behind vs view) (versions_split xs i it within is) ∙ found_behind view (versions_of (take i xs)) it.value (versions_of (drop (i + 1) xs)) seen none

  -- a version that is not seen, before some of which none is
  pub none_from : (view : ℕ) (xs : List (Arc Version Z)) (i : ℕ) (it : Arc Version Z) → i < length xs → it ≡ get_or xs i it
      → is_seen view it.value ≡ false → list_any (is_seen view) (versions_of (drop (i + 1) xs)) ≡ false → list_any (is_seen view) (versions_of (drop i xs)) ≡ false
  none_from view xs i it within is unseen none = ap (λ r. list_any (is_seen view) (versions_of r)) (drop_at xs i it within is) ∙ rw unseen none

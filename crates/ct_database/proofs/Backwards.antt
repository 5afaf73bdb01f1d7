-- The last change of a key, sought from the end.
use Rattle.std.proofs.Common.{◌≡◌, ℕ, ◌-◌, ◌<◌, ◌≤◌, Bool, true, false, cond, ◌==◌, ◌&&◌, List, [], ◌∷◌, ◌++◌, length, take, get_or, map, filter, Option, None, Some, if◌then◌else◌, refl, ap, ◌∙◌, arith}
use Rattle.std.specs.Ordering.{is_eq}
use Rattle.std.proofs.lemmas.List.{map-append}
use Rattle.std.proofs.lemmas.List.Elements.{filter-append}
use Rattle.ct_types.specs.Order.{key_cmp}
use Rattle.ct_types.specs.declared.value.Key.{Key}
use Rattle.ct_types.specs.declared.entry.Change.{Change}
use Rattle.ct_model.specs.declared.db.Dated.{Dated}
use Rattle.ct_model.specs.Net.{last_of, window}
use Rattle.ct_ptree.proofs.Lists.{take_at}
use Rattle.ct_database.specs.Steps.{dated, is_of, last_here, or_first}

pub first_or_none : (last : Option Dated) → last ≡ or_first None last
first_or_none None = refl
first_or_none (Some one) = refl

last_decides : (first : Option Dated) (x : Dated) (xs : List Dated) → last_of (x ∷ xs) ≡ or_first first (last_of (x ∷ xs))
last_decides first x [] = refl
last_decides first x (y ∷ ys) = last_decides first y ys

pub last_joined : (xs ys : List Dated) → last_of (xs ++ ys) ≡ or_first (last_of xs) (last_of ys)
last_joined [] ys = first_or_none (last_of ys)
last_joined (x ∷ []) [] = refl
last_joined (x ∷ []) (y ∷ ys) = last_decides (Some x) y ys
last_joined (x ∷ z ∷ xs) ys = last_joined (z ∷ xs) ys

-- ---- one more change

one_here : (table version : ℕ) (key : Key) (change : Change) (before : Option Dated)
    → or_first before (last_here table version key (change ∷ [])) ≡ (if is_of table key change then Some (dated version change) else before)
one_here table version key change before =
    let of_key : (b : Bool) → or_first before (last_of (cond b (dated version change ∷ []) [])) ≡ (if b then Some (dated version change) else before) = elim [ true ↦ refl | false ↦ refl ] in
    let of_table : (b : Bool)
    → or_first before (last_of (window (map (dated version) (cond b (change ∷ []) [])) key)) ≡ (if b && is_eq (key_cmp change.key key) then Some (dated version change) else before) =
    elim [ true ↦ of_key (is_eq (key_cmp change.key key)) | false ↦ refl ] in
    of_table (change.table == table)

-- the last change is the one at the end, if it is of the table and key, and else that of the changes in front of it
pub last_pushed : (table version : ℕ) (key : Key) (changes : List Change) (change : Change)
    → last_here table version key (changes ++ change ∷ []) ≡ (if is_of table key change then Some (dated version change) else last_here table version key changes)
last_pushed table version key changes change =
    let test = λ (one : Change). one.table == table in
    let hit = λ (one : Dated). is_eq (key_cmp one.change.key key) in
    ap (λ (all : List Change). last_of (window (map (dated version) all) key)) (filter-append test changes (change ∷ []))
    ∙ ap (λ (all : List Dated). last_of (window all key)) (map-append (dated version) (filter test changes) (filter test (change ∷ [])))
    ∙ ap (λ (all : List Dated). last_of all) (filter-append hit (map (dated version) (filter test changes)) (map (dated version) (filter test (change ∷ []))))
    ∙ last_joined (window (map (dated version) (filter test changes)) key) (window (map (dated version) (filter test (change ∷ []))) key)
    ∙ one_here table version key change (last_here table version key changes)

-- ---- a search that has come to a place

-- the change in front of the place is the last one, if it is of the table and key
pub found_at : (table version : ℕ) (key : Key) (changes : List Change) (at : ℕ) (change : Change) → 0 < at → at ≤ length changes → change ≡ get_or changes (at - 1) change → is_of table key change ≡ true
    → last_here table version key (take at changes) ≡ Some (dated version change)
found_at table version key changes at change some within is hit =
    ap (λ (n : ℕ). last_here table version key (take n changes)) (omega arith)
    ∙ ap (λ (front : List Change). last_here table version key front) (take_at changes (at - 1) change (omega arith) is)
    ∙ last_pushed table version key (take (at - 1) changes) change
    ∙ ap (λ (b : Bool). if b then Some (dated version change) else last_here table version key (take (at - 1) changes)) hit

-- The last change of a key among commits that rise by version, by the version that it is noted with.
use Rattle.std.proofs.Common.{◌≡◌, ℕ, ◌-◌, ◌<◌, ◌≤◌, nat_lt, Bool, true, false, cond, ◌==◌, ◌⊎◌, inl, inr, List, [], ◌∷◌, ◌++◌, length, take, get_or, map, filter, find, Option, None, Some, if◌then◌else◌, refl, sym, ap, ap₂, ◌∙◌, subst, eq-eqb, arith, tests}
use Rattle.std.specs.List.{AllByRecursion, list_any}
use Rattle.std.specs.Ordering.{is_eq}
use Rattle.std.proofs.lemmas.List.{map-append}
use Rattle.std.proofs.lemmas.List.Elements.{filter-append}
use denote.Ref.{Bor}
use Rattle.ct_types.specs.Order.{key_cmp}
use Rattle.ct_types.proofs.Lists.{all_back, all_found}
use Rattle.ct_types.specs.declared.value.Key.{Key}
use Rattle.ct_types.specs.declared.entry.Change.{Change}
use Rattle.ct_types.specs.declared.entry.Kept.{Kept}
use Rattle.ct_model.specs.declared.db.Dated.{Dated}
use Rattle.ct_model.specs.Net.{changes_above, dated_in, last_of, window}
use Rattle.ct_model.proofs.Members.{all_weaken}
use Rattle.ct_ptree.specs.declared.pair.Pair.{Pair}
use Rattle.ct_ptree.specs.Pairs.{value_at}
use Rattle.ct_ptree.proofs.Lists.{take_at}
use Rattle.ct_source.specs.Rows.{lent}
use Rattle.ct_database.specs.Steps.{dated, last_here, is_of, is_later, is_version, or_first, last_in, own_key, AreNewest, Rise, IsNoted, AreNoted}
use Rattle.ct_database.proofs.Backwards.{last_joined}
use Rattle.ct_database.proofs.Notes.{none_of_last, some_of_last}
use Rattle.ct_database.proofs.Numbered.{not_equal}
use Rattle.ct_database.proofs.Rising.{all_gone}

-- ---- the last change that is above a version

none_first : (last : Option Dated) → or_first None last ≡ last
none_first None = refl
none_first (Some last) = refl

pub last_above : (table floor : ℕ) (key : Key) (kept : List Kept) → last_of (window (changes_above table floor kept) key) ≡ last_in table key (filter (is_later floor) kept)
last_above table floor key [] = refl
last_above table floor key (one ∷ kept) =
    let hit = λ (it : Dated). is_eq (key_cmp it.change.key key) in
    let own : List Dated = map (dated one.version) (filter (λ change. change.table == table) one.changes) in
    let more : last_of (window (changes_above table floor kept) key) ≡ last_in table key (filter (is_later floor) kept) = last_above table floor key kept in
    let step : (b : Bool) → or_first (last_of (window (if b then own else []) key)) (last_in table key (filter (is_later floor) kept))
    ≡ last_in table key (cond b (one ∷ filter (is_later floor) kept) (filter (is_later floor) kept)) =
    elim [ true ↦ refl | false ↦ none_first (last_in table key (filter (is_later floor) kept)) ] in
    ap (λ (all : List Dated). last_of all) (filter-append hit (dated_in table floor one) (changes_above table floor kept))
    ∙ last_joined (window (dated_in table floor one) key) (window (changes_above table floor kept) key)
    ∙ ap (or_first (last_of (window (dated_in table floor one) key))) more
    ∙ step (nat_lt floor one.version)

-- ---- commits one after another

or_assoc : (a b c : Option Dated) → or_first (or_first a b) c ≡ or_first a (or_first b c)
or_assoc a b None = refl
or_assoc a b (Some last) = refl

pub last_in_joined : (table : ℕ) (key : Key) (xs ys : List Kept) → last_in table key (xs ++ ys) ≡ or_first (last_in table key xs) (last_in table key ys)
last_in_joined table key [] ys = sym (none_first (last_in table key ys))
last_in_joined table key (one ∷ xs) ys =
    ap (or_first (last_here table one.version key one.changes)) (last_in_joined table key xs ys)
    ∙ sym (or_assoc (last_here table one.version key one.changes) (last_in table key xs) (last_in table key ys))

-- no commit has a change of the key
abbrev NoneHas : ℕ → Key → List Kept → Type 0
NoneHas table key = AllByRecursion (λ (one : Kept). last_here table one.version key one.changes ≡ None)

both_none : (a b : Option Dated) → or_first a b ≡ None → (a ≡ None) × (b ≡ None)
both_none a None e = (e, refl)
both_none a (Some last) e = absurd cc

none_has : (table : ℕ) (key : Key) (kept : List Kept) → last_in table key kept ≡ None → NoneHas table key kept
none_has table key [] e = tt
none_has table key (one ∷ kept) e =
    let both = both_none (last_here table one.version key one.changes) (last_in table key kept) e in
    (both.0, none_has table key kept both.1)

pub none_left : (table floor : ℕ) (key : Key) (kept : List Kept) → NoneHas table key kept → last_in table key (filter (is_later floor) kept) ≡ None
none_left table floor key [] none = refl
none_left table floor key (one ∷ kept) none =
    let more : last_in table key (filter (is_later floor) kept) ≡ None = none_left table floor key kept none.1 in
    let step : (b : Bool) → last_in table key (cond b (one ∷ filter (is_later floor) kept) (filter (is_later floor) kept)) ≡ None =
    elim [ true ↦ ap₂ or_first none.0 more | false ↦ more ] in
    step (is_later floor one)

-- ---- the version of the last change

dated_at : (version : ℕ) (changes : List Change) (key : Key) → AllByRecursion (λ (it : Dated). it.version ≡ version) (window (map (dated version) changes) key)
dated_at version [] key = tt
dated_at version (change ∷ changes) key =
    let more = dated_at version changes key in
    let step : (b : Bool) → AllByRecursion (λ (it : Dated). it.version ≡ version) (cond b (dated version change ∷ window (map (dated version) changes) key) (window (map (dated version) changes) key)) =
    elim [ true ↦ (refl, more) | false ↦ more ] in
    step (is_eq (key_cmp change.key key))

last_member : (P : Dated → Type 0) (all : List Dated) (last : Dated) → AllByRecursion P all → last_of all ≡ Some last → P last
last_member P [] last each e = absurd cc
last_member P (it ∷ []) last each e = let same : it ≡ last = cc in subst P same each.0
last_member P (it ∷ next ∷ more) last each e = last_member P (next ∷ more) last each.1 e

pub version_here : (table version : ℕ) (key : Key) (changes : List Change) (last : Dated) → last_here table version key changes ≡ Some last → last.version ≡ version
version_here table version key changes last e =
    last_member (λ (it : Dated). it.version ≡ version) (window (map (dated version) (filter (λ change. change.table == table) changes)) key) last (dated_at version (filter (λ change. change.table == table) changes) key) e

-- ---- where the last change stands

-- a commit has the last change of the key among these, and is found by its version
abbrev pub IsLastOf : ℕ → Key → List Kept → Dated → Type 0
IsLastOf table key kept last = (one : Kept) × (find (is_version last.version) kept ≡ Some one) × (last_here table one.version key one.changes ≡ Some last)

one_last : (here more : Option Dated) (last : Dated) → or_first here more ≡ Some last → (more ≡ Some last) ⊎ ((more ≡ None) × (here ≡ Some last))
one_last here None last e = inr (refl, e)
one_last here (Some it) last e = inl e

above_last : (table low : ℕ) (key : Key) (kept : List Kept) (last : Dated) → AllByRecursion (λ (one : Kept). low < one.version) kept → last_in table key kept ≡ Some last → low < last.version
above_last table low key [] last above e = absurd cc
above_last table low key (one ∷ kept) last above e = elim (one_last (last_here table one.version key one.changes) (last_in table key kept) last e) [
  | inl more ↦ above_last table low key kept last above.1 more
  | inr here ↦ let is : last.version ≡ one.version = version_here table one.version key one.changes last here.1 in let high : low < one.version = above.0 in omega arith
]

-- a last change above the version is the last one of those above it
pub high_last : (table floor : ℕ) (key : Key) (kept : List Kept) (last : Dated) → floor < last.version → last_in table key kept ≡ Some last → last_in table key (filter (is_later floor) kept) ≡ Some last
high_last table floor key [] last high e = e
high_last table floor key (one ∷ kept) last high e =
    let here = last_here table one.version key one.changes in
    elim (one_last (last_here table one.version key one.changes) (last_in table key kept) last e) [
      | inl more ↦
          (let rest : last_in table key (filter (is_later floor) kept) ≡ Some last = high_last table floor key kept last high more in
          let step : (b : Bool) → last_in table key (cond b (one ∷ filter (is_later floor) kept) (filter (is_later floor) kept)) ≡ Some last = elim [ true ↦ ap (or_first here) rest | false ↦ rest ] in
          step (is_later floor one))
      | inr own ↦
          (let is : last.version ≡ one.version = version_here table one.version key one.changes last own.1 in
          let later : is_later floor one ≡ true = search (tests, arith) in
          let rest : last_in table key (filter (is_later floor) kept) ≡ None = none_left table floor key kept (none_has table key kept own.0) in
          ap (λ (b : Bool). last_in table key (cond b (one ∷ filter (is_later floor) kept) (filter (is_later floor) kept))) later ∙ ap₂ or_first own.1 rest)
    ]

-- where the last change is not above the version, none is
pub low_last : (table floor : ℕ) (key : Key) (kept : List Kept) (last : Dated) → Rise kept → last.version ≤ floor → last_in table key kept ≡ Some last → last_in table key (filter (is_later floor) kept) ≡ None
low_last table floor key [] last rising low e = refl
low_last table floor key (one ∷ kept) last rising low e =
    elim (one_last (last_here table one.version key one.changes) (last_in table key kept) last e) [
      | inl more ↦
          (let before : one.version < last.version = above_last table one.version key kept last rising.0 more in
          let gone : is_later floor one ≡ false = search (tests, arith) in
          ap (λ (b : Bool). last_in table key (cond b (one ∷ filter (is_later floor) kept) (filter (is_later floor) kept))) gone ∙ low_last table floor key kept last rising.1 low more)
      | inr own ↦
          (let is : last.version ≡ one.version = version_here table one.version key one.changes last own.1 in
          let gone : is_later floor one ≡ false = search (tests, arith) in
          ap (λ (b : Bool). last_in table key (cond b (one ∷ filter (is_later floor) kept) (filter (is_later floor) kept))) gone ∙ none_left table floor key kept (none_has table key kept own.0))
    ]

pub where_last : (table : ℕ) (key : Key) (kept : List Kept) (last : Dated) → Rise kept → last_in table key kept ≡ Some last → IsLastOf table key kept last
where_last table key [] last rising e = absurd cc
where_last table key (one ∷ kept) last rising e =
    elim (one_last (last_here table one.version key one.changes) (last_in table key kept) last e) [
      | inl more ↦
          (let found = where_last table key kept last rising.1 more in
          let before : one.version < last.version = above_last table one.version key kept last rising.0 more in
          let other : is_version last.version one ≡ false = not_equal one.version last.version (λ same. absurd (omega (arith, same))) in
          (found.0, rw other found.1, found.2))
      | inr own ↦
          (let is : one.version ≡ last.version = sym (version_here table one.version key one.changes last own.1) in
          let here : is_version last.version one ≡ true = eq-eqb one.version last.version is in
          (one, rw here refl, own.1))
    ]

left_of_none : (table floor : ℕ) (key : Key) (kept : List Kept) → ((last : Dated) → last_in table key kept ≡ Some last → ⊥) → last_in table key (filter (is_later floor) kept) ≡ None
left_of_none table floor key kept never =
    let step : (o : Option Dated) → last_in table key kept ≡ o → last_in table key (filter (is_later floor) kept) ≡ None =
    elim [ None ↦ (λ e. none_left table floor key kept (none_has table key kept e)) | Some last ↦ (λ e. absurd (never last e)) ] in
    step (last_in table key kept) refl

pub not_noted : (table floor : ℕ) (key : Key) (kept : List Kept) → IsNoted table key kept None → last_in table key (filter (is_later floor) kept) ≡ None
not_noted table floor key kept noted = left_of_none table floor key kept (λ last e. let bad = noted last e in cc)

pub noted_low : (table floor : ℕ) (key : Key) (kept : List Kept) (version : ℕ) → Rise kept → IsNoted table key kept (Some version) → version ≤ floor
    → last_in table key (filter (is_later floor) kept) ≡ None
noted_low table floor key kept version rising noted low =
    let step : (o : Option Dated) → last_in table key kept ≡ o → last_in table key (filter (is_later floor) kept) ≡ None =
    elim [
      | None ↦ (λ e. none_left table floor key kept (none_has table key kept e))
      | Some last ↦ (λ e. let is : version ≡ last.version = (let same = noted last e in cc) in low_last table floor key kept last rising (omega arith) e)
    ] in
    step (last_in table key kept) refl

pub noted_gone : (table floor : ℕ) (key : Key) (kept : List Kept) (version : ℕ) → Rise kept → IsNoted table key kept (Some version) → find (is_version version) kept ≡ None
    → last_in table key (filter (is_later floor) kept) ≡ None
noted_gone table floor key kept version rising noted gone =
    left_of_none table floor key kept
    (λ last e. let is : version ≡ last.version = (let same = noted last e in cc) in
    let found = where_last table key kept last rising e in
    let bad : None ≡ Some found.0 = sym (ap (λ (v : ℕ). find (is_version v) kept) (sym is) ∙ gone) ∙ found.1 in
    cc)

pub noted_there : (table floor : ℕ) (key : Key) (kept : List Kept) (version : ℕ) (one : Kept) → Rise kept → IsNoted table key kept (Some version) → floor < version → find (is_version version) kept ≡ Some one
    → last_in table key (filter (is_later floor) kept) ≡ last_here table one.version key one.changes
noted_there table floor key kept version one rising noted high there =
    let step : (o : Option Dated) → last_in table key kept ≡ o → last_in table key (filter (is_later floor) kept) ≡ last_here table one.version key one.changes =
    elim [
      | None ↦
          (λ e. let none = none_has table key kept e in
          none_left table floor key kept none ∙ sym (all_found (λ (it : Kept). last_here table it.version key it.changes ≡ None) (is_version version) kept one none there))
      | Some last ↦
          (λ e. let is : version ≡ last.version = (let same = noted last e in cc) in
          let found = where_last table key kept last rising e in
          let same : one ≡ found.0 = (let both : Some one ≡ Some found.0 = sym there ∙ ap (λ (v : ℕ). find (is_version v) kept) is ∙ found.1 in cc) in
          high_last table floor key kept last (omega arith) e ∙ sym (ap (λ (that : Kept). last_here table that.version key that.changes) same ∙ found.2))
    ] in
    step (last_in table key kept) refl

-- ---- with the newest commit

last_with : (table floor : ℕ) (key : Key) (older newest : List Kept) → last_of (window (changes_above table floor (older ++ newest)) key)
    ≡ or_first (last_in table key (filter (is_later floor) older)) (last_in table key (filter (is_later floor) newest))
last_with table floor key older newest =
    last_above table floor key (older ++ newest) ∙ ap (last_in table key) (filter-append (is_later floor) older newest)
    ∙ last_in_joined table key (filter (is_later floor) older) (filter (is_later floor) newest)

-- where the newest commit changes the key, that is the last change, if it is above the version
pub newest_has : (table floor : ℕ) (key : Key) (older : List Kept) (one : Kept) (last : Dated) → AreNewest older (one ∷ []) → last_here table one.version key one.changes ≡ Some last
    → last_of (window (changes_above table floor (older ++ one ∷ [])) key) ≡ (if nat_lt floor one.version then Some last else None)
newest_has table floor key older one last above has =
    let rest : Option Dated = last_in table key (filter (is_later floor) older) in
    let own : last_in table key (one ∷ []) ≡ Some last = has in
    let low : nat_lt floor one.version ≡ false → last_in table key (filter (is_later floor) older) ≡ None =
    (λ no. let le : one.version ≤ floor = search (tests, arith) in
    ap (last_in table key) (all_gone floor older (all_weaken (λ (old : Kept). old.version < one.version) (λ (old : Kept). old.version ≤ floor) (λ old less. omega arith) older above.0))) in
    let step : (b : Bool) → nat_lt floor one.version ≡ b → or_first rest (last_in table key (cond b (one ∷ []) [])) ≡ (if b then Some last else None) =
    elim [ true ↦ (λ e. ap (or_first rest) own) | false ↦ (λ e. low e) ] in
    last_with table floor key older (one ∷ []) ∙ step (nat_lt floor one.version) refl

-- where it does not, the last change is that of the older ones
pub newest_has_none : (table floor : ℕ) (key : Key) (older newest : List Kept) → last_in table key newest ≡ None
    → last_of (window (changes_above table floor (older ++ newest)) key) ≡ last_in table key (filter (is_later floor) older)
newest_has_none table floor key older newest none =
    last_with table floor key older newest ∙ ap (or_first (last_in table key (filter (is_later floor) older))) (none_left table floor key newest (none_has table key newest none))

-- ---- a walk from the end

-- one more commit at the end
pub last_behind : (table : ℕ) (key : Key) (front : List Kept) (one : Kept) → last_in table key (front ++ one ∷ []) ≡ or_first (last_in table key front) (last_here table one.version key one.changes)
last_behind table key front one = last_in_joined table key front (one ∷ [])

-- the last change in commits up to a place is that of the commit in front of it, or else that of those before
pub walked_at : (table : ℕ) (key : Key) (commits : List (Bor Kept)) (at : ℕ) (one : Bor Kept) → 0 < at → at ≤ length commits → one ≡ get_or commits (at - 1) one
    → last_in table key (lent (take at commits)) ≡ or_first (last_in table key (lent (take (at - 1) commits))) (last_here table one.now.version key one.now.changes)
walked_at table key commits at one some within is =
    ap (λ (n : ℕ). last_in table key (lent (take n commits))) (omega arith)
    ∙ ap (λ (front : List (Bor Kept)). last_in table key (lent front)) (take_at commits (at - 1) one (omega arith) is)
    ∙ ap (last_in table key) (map-append (λ (it : Bor Kept). it.now) (take (at - 1) commits) (one ∷ []))
    ∙ last_behind table key (lent (take (at - 1) commits)) one.now

-- ---- notes stay right

-- notes on what the newest commit changes spoil none
pub noted_others : (older : List Kept) (one : Kept) (changes : List Change) (notes made : List (Pair ℕ)) → changes ≡ one.changes → AreNoted older (one ∷ []) notes
    → ((table : ℕ) (key : Key) → list_any (is_of table key) changes ≡ false → value_at made (own_key table key) ≡ value_at notes (own_key table key)) → AreNoted older (one ∷ []) made
noted_others older one changes notes made same noted others =
    λ table key none last e.
    others table key (ap (list_any (is_of table key)) same ∙ none_of_last table one.version key one.changes none) ∙ noted table key none last e

-- once all that it changes is noted, it may go to the older ones
pub noted_settled : (older : List Kept) (one : Kept) (changes : List Change) (version : ℕ) (made : List (Pair ℕ)) → changes ≡ one.changes → version ≡ one.version → AreNoted older (one ∷ []) made
    → ((table : ℕ) (key : Key) → list_any (is_of table key) changes ≡ true → value_at made (own_key table key) ≡ Some version) → AreNoted (older ++ one ∷ []) [] made
noted_settled older one changes version made same at noted own =
    λ table key none last e.
    elim (one_last (last_in table key older) (last_here table one.version key one.changes) last (sym (last_behind table key older one) ∙ e)) [
      | inl has ↦
          (own table key (ap (list_any (is_of table key)) same ∙ some_of_last table one.version key one.changes last has)
          ∙ ap Some (at ∙ sym (version_here table one.version key one.changes last has)))
      | inr before ↦ noted table key before.0 last before.1
    ]

-- what a further commit changes is noted no less
pub noted_wider : (older newest : List Kept) (notes : List (Pair ℕ)) → AreNoted older [] notes → AreNoted older newest notes
noted_wider older newest notes noted = λ table key none. noted table key refl

-- the version of the last change in commits behind others is above those
all_before : (table : ℕ) (key : Key) (gone left : List Kept) (last : Dated) → Rise (gone ++ left) → last_in table key left ≡ Some last → AllByRecursion (λ (one : Kept). one.version < last.version) gone
all_before table key [] left last rising e = tt
all_before table key (one ∷ gone) left last rising e =
    (above_last table one.version key left last (all_back (λ (later : Kept). one.version < later.version) gone left rising.0) e, all_before table key gone left last rising.1 e)

-- notes on what is left stay, where those stay whose versions are above what is gone
pub noted_left : (gone left newest : List Kept) (notes made : List (Pair ℕ)) → Rise (gone ++ left) → AreNoted (gone ++ left) newest notes
    → ((noted : ℕ) → AllByRecursion (λ (one : Kept). one.version < noted) gone → (key : Key) → value_at notes key ≡ Some noted → value_at made key ≡ Some noted) → AreNoted left newest made
noted_left gone left newest notes made rising noted stay =
    λ table key none last e.
    stay last.version (all_before table key gone left last rising e) (own_key table key)
    (noted table key none last (last_in_joined table key gone left ∙ ap (or_first (last_in table key gone)) e))

-- What a view sees of the versions of a key that stay.
use Rattle.std.proofs.Common.{◌≡◌, ℕ, ◌+◌, ◌<◌, ◌≤◌, nat_lt, length, drop, get_or, Bool, true, false, ◌||◌, List, [], ◌∷◌, ◌++◌, filter, Option, None, Some, refl, sym, ap, ap₂, ◌∙◌, subst, arith}
use Rattle.std.specs.Prelude.{is_some, option_to_list}
use Rattle.std.specs.List.{list_any, last_or}
use Rattle.std.specs.Option.{option_or}
use Rattle.std.specs.declared.sync.Arc.{Arc}
use Rattle.ct_ptree.proofs.Lists.{drop_at}
use Rattle.std.proofs.lemmas.Bool.Decides.{nat_tests}
use Rattle.ct_types.specs.declared.value.Row.{Row}
use Rattle.ct_rows.specs.declared.version.Version.{Version}
use Rattle.ct_rows.specs.Versions.{versions_of, is_seen, version_at, row_of, row_seen, written_later, later_xdes}
use Rattle.ct_rows.specs.Prunes.{behind, has_row, kept}
use Rattle.ct_rows.proofs.Seen.{none_at, none_behind, versions_drop}

or_none : {X : Type 0} (o : Option X) → option_or o None ≡ o
or_none None = refl
or_none (Some x) = refl

or_some : {X : Type 0} (o p : Option X) → is_some o ≡ true → option_or o p ≡ o
or_some None p some = cc
or_some (Some x) p some = refl

some_or : {X : Type 0} (o : Option X) (x : X) → is_some (option_or o (Some x)) ≡ true
some_or None x = refl
some_or (Some y) x = refl

last_else : {X : Type 0} (x : X) (xs : List X) → last_or (Some x) xs ≡ option_or (last_or None xs) (Some x)
last_else x [] = refl
last_else x (y ∷ xs) = last_else y xs ∙ sym (or_some (option_or (last_or None xs) (Some y)) (Some x) (some_or (last_or None xs) y)) ∙ ap (λ o. option_or o (Some x)) (sym (last_else y xs))

or_true : (b : Bool) → (b || true) ≡ true
or_true true = refl
or_true false = refl

-- a version before others is the last at a view where none of them is
at_seen_first : (view : ℕ) (v : Version) (vs : List Version) → is_seen view v ≡ true → version_at (v ∷ vs) view ≡ option_or (version_at vs view) (Some v)
at_seen_first view v vs seen = rw seen (last_else v (filter (is_seen view) vs))

at_unseen_first : (view : ℕ) (v : Version) (vs : List Version) → is_seen view v ≡ false → version_at (v ∷ vs) view ≡ version_at vs view
at_unseen_first view v vs unseen = rw unseen refl

-- where a later one is seen, a first one makes no difference
at_any : (view : ℕ) (vs : List Version) → list_any (is_seen view) vs ≡ true → is_some (version_at vs view) ≡ true
at_any view [] any = cc
at_any view (v ∷ vs) any =
    let step : (b : Bool) → is_seen view v ≡ b → (b || list_any (is_seen view) vs) ≡ true → is_some (version_at (v ∷ vs) view) ≡ true =
    elim [
      | true ↦ (λ e h. ap is_some (at_seen_first view v vs e) ∙ some_or (version_at vs view) v)
      | false ↦ (λ e h. ap is_some (at_unseen_first view v vs e) ∙ at_any view vs h)
    ] in
    step (is_seen view v) refl any

at_later : (view : ℕ) (v : Version) (vs : List Version) → list_any (is_seen view) vs ≡ true → version_at (v ∷ vs) view ≡ version_at vs view
at_later view v vs any =
    let step : (b : Bool) → is_seen view v ≡ b → version_at (v ∷ vs) view ≡ version_at vs view =
    elim [
      | true ↦ (λ e. at_seen_first view v vs e ∙ or_some (version_at vs view) (Some v) (at_any view vs any))
      | false ↦ (λ e. at_unseen_first view v vs e)
    ] in
    step (is_seen view v) refl

-- a later view sees what an earlier one saw
seen_later : (least view : ℕ) (v : Version) → least ≤ view → is_seen least v ≡ true → is_seen view v ≡ true
seen_later least view v order seen = grind (arith, nat_tests, order, seen)

any_later : (least view : ℕ) (vs : List Version) → least ≤ view → list_any (is_seen least) vs ≡ true → list_any (is_seen view) vs ≡ true
any_later least view [] order any = any
any_later least view (v ∷ vs) order any =
    let step : (b : Bool) → is_seen least v ≡ b → (b || list_any (is_seen least) vs) ≡ true → (is_seen view v || list_any (is_seen view) vs) ≡ true =
    elim [
      | true ↦ (λ e h. rw (seen_later least view v order e) refl)
      | false ↦ (λ e h. rw (any_later least view vs order h) (or_true (is_seen view v)))
    ] in
    step (is_seen least v) refl any

-- the ways of a first version
kept_later : (least : ℕ) (v : Version) (vs : List Version) → list_any (is_seen least) vs ≡ true → kept (v ∷ vs) least ≡ kept vs least
kept_later least v vs any =
    let both : list_any (is_seen least) (v ∷ vs) ≡ true = rw any (or_true (is_seen least v)) in
    let rest : behind (v ∷ vs) least ≡ behind vs least = rw both refl in
    ap₂ (λ a b. filter has_row (option_to_list a) ++ b) (at_later least v vs any) rest

kept_first : (least : ℕ) (v : Version) (vs : List Version) → list_any (is_seen least) vs ≡ false → is_seen least v ≡ true
    → kept (v ∷ vs) least ≡ filter has_row (v ∷ []) ++ vs
kept_first least v vs none seen =
    let here : version_at (v ∷ vs) least ≡ Some v = at_seen_first least v vs seen ∙ ap (λ o. option_or o (Some v)) (none_at least vs none) in
    let rest : behind (v ∷ vs) least ≡ vs = rw seen (none_behind least vs none) in
    ap₂ (λ a b. filter has_row (option_to_list a) ++ b) here rest

kept_all : (least : ℕ) (vs : List Version) → list_any (is_seen least) vs ≡ false → kept vs least ≡ vs
kept_all least vs none = ap₂ (λ a b. filter has_row (option_to_list a) ++ b) (none_at least vs none) (none_behind least vs none)

-- a fact on what stays, from each of those ways
kept_here : (P : List Version → List Version → Type 0) (least : ℕ) (v : Version) (vs : List Version) → list_any (is_seen least) vs ≡ false
    → (is_seen least v ≡ true → has_row v ≡ false → P vs (v ∷ vs)) → P (v ∷ vs) (v ∷ vs) → P (kept (v ∷ vs) least) (v ∷ vs)
kept_here P least v vs none gone stays =
    let row : (b : Bool) → has_row v ≡ b → is_seen least v ≡ true → P (filter has_row (v ∷ []) ++ vs) (v ∷ vs) =
    elim [ true ↦ (λ e seen. rw e stays) | false ↦ (λ e seen. rw e (gone seen e)) ] in
    let seen : (b : Bool) → is_seen least v ≡ b → P (kept (v ∷ vs) least) (v ∷ vs) =
    elim [
      | true ↦ (λ e. subst (λ k. P k (v ∷ vs)) (sym (kept_first least v vs none e)) (row (has_row v) refl e))
      | false ↦ (λ e. subst (λ k. P k (v ∷ vs)) (sym (kept_all least (v ∷ vs) (rw e none))) stays)
    ] in
    seen (is_seen least v) refl

kept_cases : (P : List Version → List Version → Type 0) (least : ℕ)
    → ((v : Version) (vs : List Version) → list_any (is_seen least) vs ≡ true → P (kept vs least) vs → P (kept vs least) (v ∷ vs))
    → ((v : Version) (vs : List Version) → is_seen least v ≡ true → has_row v ≡ false → P vs (v ∷ vs))
    → ((vs : List Version) → P vs vs)
    → (vs : List Version) → P (kept vs least) vs
kept_cases P least later gone stays [] = stays []
kept_cases P least later gone stays (v ∷ vs) =
    let step : (b : Bool) → list_any (is_seen least) vs ≡ b → P (kept (v ∷ vs) least) (v ∷ vs) =
    elim [
      | true ↦ (λ e. subst (λ k. P k (v ∷ vs)) (sym (kept_later least v vs e)) (later v vs e (kept_cases P least later gone stays vs)))
      | false ↦ (λ e. kept_here P least v vs e (gone v vs) (stays (v ∷ vs)))
    ] in
    step (list_any (is_seen least) vs) refl

no_row : (v : Version) → has_row v ≡ false → v.row ≡ None
no_row v none = let step : (o : Option Row) → is_some o ≡ false → o ≡ None = elim [ None ↦ (λ e. refl) | Some r ↦ (λ e. cc) ] in step v.row none

row_or : (o : Option Version) (v : Version) → has_row v ≡ false → row_of (option_or o (Some v)) ≡ row_of o
row_or None v none = no_row v none
row_or (Some w) v none = refl

-- a view from the least one on sees the same row
pub row_kept : (least view : ℕ) → least ≤ view → (vs : List Version) → row_seen view (kept vs least) ≡ row_seen view vs
row_kept least view order =
    kept_cases (λ new old. row_seen view new ≡ row_seen view old) least
    (λ v vs any same. same ∙ ap row_of (sym (at_later view v vs (any_later least view vs order any))))
    (λ v vs seen none. sym (ap row_of (at_seen_first view v vs (seen_later least view v order seen)) ∙ row_or (version_at vs view) v none))
    (λ vs. refl)

last_later : (view : ℕ) (p : Version → Bool) (v : Version) (vs : List Version) → list_any p vs ≡ true → last_or None (v ∷ vs) ≡ last_or None vs
last_later view p v [] any = cc
last_later view p v (w ∷ vs) any = refl

not_later : (least view : ℕ) (v : Version) → least ≤ view → is_seen least v ≡ true → later_xdes view (Some v) ≡ None
not_later least view v order seen =
    let no : nat_lt view v.at ≡ false = grind (arith, nat_tests, order, seen) in
    rw no refl

written_gone : (least view : ℕ) (v : Version) (vs : List Version) → least ≤ view → is_seen least v ≡ true → written_later view vs ≡ written_later view (v ∷ vs)
written_gone least view v [] order seen = sym (not_later least view v order seen)
written_gone least view v (w ∷ vs) order seen = refl

-- and learns the same of later writes
pub written_kept : (least view : ℕ) → least ≤ view → (vs : List Version) → written_later view (kept vs least) ≡ written_later view vs
written_kept least view order =
    kept_cases (λ new old. written_later view new ≡ written_later view old) least
    (λ v vs any same. same ∙ ap (later_xdes view) (sym (last_later view (is_seen least) v vs any)))
    (λ v vs seen none. written_gone least view v vs order seen)
    (λ vs. refl)

-- the last version, where it is after the view, and where it is not
pub later_yes : (view : ℕ) (v : Version) → view < v.at → later_xdes view (Some v) ≡ Some v.xdes
later_yes view v after = let yes : nat_lt view v.at ≡ true = grind (arith, nat_tests, after) in rw yes refl

pub later_no : (view : ℕ) (v : Version) → v.at ≤ view → later_xdes view (Some v) ≡ None
later_no view v before = let no : nat_lt view v.at ≡ false = grind (arith, nat_tests, before) in rw no refl

pub written_yes : (view : ℕ) (vs : List Version) (v tested read : Version) → last_or None vs ≡ Some v → tested ≡ v → read ≡ v → view < tested.at → Some read.xdes ≡ written_later view vs
written_yes view vs v tested read last same also after =
    sym (ap (later_xdes view) last ∙ later_yes view v (subst (λ (u : Version). view < u.at) same after) ∙ ap (λ (u : Version). Some u.xdes) (sym also))

pub written_no : (view : ℕ) (vs : List Version) (v tested : Version) → last_or None vs ≡ Some v → tested ≡ v → tested.at ≤ view → None ≡ written_later view vs
written_no view vs v tested last same before = sym (ap (later_xdes view) last ∙ later_no view v (subst (λ (u : Version). u.at ≤ view) same before))

-- a version that is read through its pointer
pub row_is : (v w : Version) (b x : Bool) → v ≡ w → b ≡ is_some v.row → b ≡ x → has_row w ≡ x
row_is v w b x same is answer = subst (λ (u : Version). has_row u ≡ x) same (sym is ∙ answer)

module _ {Z : Type 0} where
  -- what stays where the version that the least view sees has a row, and where it has none
  pub kept_with : (least : ℕ) (xs : List (Arc Version Z)) (i : ℕ) (it : Arc Version Z) → i < length xs → it ≡ get_or xs i it → version_at (versions_of xs) least ≡ Some it.value
      → behind (versions_of xs) least ≡ versions_of (drop (i + 1) xs) → has_row it.value ≡ true → kept (versions_of xs) least ≡ drop i (versions_of xs)
  kept_with least xs i it within is at rest row =
      let one : filter has_row (it.value ∷ []) ≡ it.value ∷ [] = rw row refl in
      ap₂ (λ a b. filter has_row (option_to_list a) ++ b) at rest ∙ ap (λ a. a ++ versions_of (drop (i + 1) xs)) one
      ∙ sym (ap versions_of (drop_at xs i it within is)) ∙ versions_drop xs i

  pub kept_without : (least : ℕ) (xs : List (Arc Version Z)) (n : ℕ) (v : Version) → version_at (versions_of xs) least ≡ Some v
      → behind (versions_of xs) least ≡ versions_of (drop n xs) → has_row v ≡ false → kept (versions_of xs) least ≡ drop n (versions_of xs)
  kept_without least xs n v at rest row =
      let none : filter has_row (v ∷ []) ≡ [] = rw row refl in
      ap₂ (λ a b. filter has_row (option_to_list a) ++ b) at rest ∙ ap (λ a. a ++ versions_of (drop n xs)) none ∙ versions_drop xs n

-- The version of a creation is that of the last insert.
use Rattle.std.proofs.Common.{◌≡◌, inl, inr, ℕ, Bool, true, false, cond, List, [], ◌∷◌, ◌++◌, Option, None, Some, option_map, refl, sym, ap, ◌∙◌, subst}
use Rattle.ct_types.specs.declared.schema.Schema.{Schema}
use Rattle.ct_types.specs.declared.entry.Op.TheVariants.{Insert}
use Rattle.ct_model.specs.declared.db.Dated.{Dated}
use Rattle.ct_model.specs.Net.{inserts_of, is_insert, last_of, row_of}
use Rattle.ct_model_laws.specs.Rows.{IsLastInsert, IsCreatedBy}
use Rattle.ct_model_laws.specs.Tells.{HasInsert}
use Rattle.ct_model_laws.proofs.NetTelling.{any_from_some, some_from_any, inserts_are}
use Rattle.ct_model_laws.proofs.Somewhere.{Somewhere, some_filter}

abbrev IsInsert : Dated → Type 0
IsInsert dated = dated.change.op ≡ Insert

-- a last one stays where another goes before
pub last_cons : (x one : Dated) (changes : List Dated) → last_of changes ≡ Some one → last_of (x ∷ changes) ≡ Some one
last_cons x one [] is = cc
last_cons x one (y ∷ changes) is = is

none_inserted : (changes : List Dated) → (Somewhere IsInsert changes → ⊥) → inserts_of changes ≡ []
none_inserted [] none = refl
none_inserted (x ∷ xs) none =
    let step : (b : Bool) → b ≡ is_insert x.change.op → cond b (x ∷ inserts_of xs) (inserts_of xs) ≡ [] =
    elim [ true ↦ (λ e. absurd (none (inl ((inserts_are x.change.op).0 (sym e))))) | false ↦ (λ e. none_inserted xs (λ some. none (inr some))) ] in
    step (is_insert x.change.op) refl

inserted_some : (changes : List Dated) → Somewhere IsInsert changes → Somewhere IsInsert (inserts_of changes)
inserted_some changes some = some_filter IsInsert (λ dated. is_insert dated.change.op) (λ dated is. (inserts_are dated.change.op).1 is) changes some

-- an insert that no other follows is the last
last_is : (before : List Dated) (one : Dated) (after : List Dated) → IsInsert one → (Somewhere IsInsert after → ⊥)
    → last_of (inserts_of (before ++ one ∷ after)) ≡ Some one
last_is [] one after is none = rw ((inserts_are one.change.op).1 is, none_inserted after none) refl
last_is (x ∷ before) one after is none =
    let later = last_is before one after is none in
    elim (is_insert x.change.op) as (λ b. last_of (cond b (x ∷ inserts_of (before ++ one ∷ after)) (inserts_of (before ++ one ∷ after))) ≡ Some one)
    [ true ↦ last_cons x one (inserts_of (before ++ one ∷ after)) later | false ↦ later ]

-- where the last insert stands

abbrev StandsLast : List Dated → Dated → Type 0
StandsLast changes one = (before : List Dated) × (after : List Dated) × (changes ≡ before ++ one ∷ after) × IsInsert one × (Somewhere IsInsert after → ⊥)

stands_later : (x one : Dated) (changes : List Dated) → StandsLast changes one → StandsLast (x ∷ changes) one
stands_later x one changes stands = (x ∷ stands.0, stands.1, ap (λ rest. x ∷ rest) stands.2, stands.3, stands.4)

stands_last : (changes : List Dated) (one : Dated) → last_of (inserts_of changes) ≡ Some one → StandsLast changes one
stands_last [] one is = cc
stands_last (x ∷ xs) one is = step (is_insert x.change.op) refl is (stands_last xs one)
  where
    here : IsInsert x → (inserts : List Dated) → inserts ≡ inserts_of xs → last_of (x ∷ inserts) ≡ Some one
        → (last_of (inserts_of xs) ≡ Some one → StandsLast xs one) → StandsLast (x ∷ xs) one
    here inserted [] e is later =
        let same : x ≡ one = cc in
        subst (StandsLast (x ∷ xs)) same ([], xs, refl, inserted, λ some. subst (Somewhere IsInsert) (sym e) (inserted_some xs some))
    here inserted (y ∷ ys) e is later = stands_later x one xs (later (ap last_of (sym e) ∙ is))

    step : (b : Bool) → b ≡ is_insert x.change.op → last_of (cond b (x ∷ inserts_of xs) (inserts_of xs)) ≡ Some one
        → (last_of (inserts_of xs) ≡ Some one → StandsLast xs one) → StandsLast (x ∷ xs) one
    step true e is later = here ((inserts_are x.change.op).0 (sym e)) (inserts_of xs) refl is later
    step false e is later = stands_later x one xs (later is)

version_is : (changes : List Dated) (version : ℕ) → option_map (λ dated. dated.version) (last_of (inserts_of changes)) ≡ Some version → IsLastInsert changes version
version_is changes version is = step (last_of (inserts_of changes)) refl is
  where
    step : (o : Option Dated) → o ≡ last_of (inserts_of changes) → option_map (λ dated. dated.version) o ≡ Some version → IsLastInsert changes version
    step None e is = cc
    step (Some one) e is =
        let stands = stands_last changes one (sym e) in
        let same : one.version ≡ version = cc in
        (stands.0, one, stands.1, stands.2, stands.3, same, λ any. stands.4 (some_from_any IsInsert stands.1 any))

is_version : (changes : List Dated) (version : ℕ) → IsLastInsert changes version → option_map (λ dated. dated.version) (last_of (inserts_of changes)) ≡ Some version
is_version changes version is =
    let last : last_of (inserts_of changes) ≡ Some is.1 = ap (λ c. last_of (inserts_of c)) is.3 ∙ last_is is.0 is.1 is.2 is.4 (λ some. is.6 (any_from_some IsInsert is.2 some)) in
    rw last (ap (λ v. Some v) is.5)

none_is : (changes : List Dated) → option_map (λ dated. dated.version) (last_of (inserts_of changes)) ≡ None → ¬ HasInsert changes
none_is changes is any = step (inserts_of changes) (inserted_some changes (some_from_any IsInsert changes any)) is
  where
    later : (x : Dated) (xs : List Dated) → option_map (λ dated. dated.version) (last_of (x ∷ xs)) ≡ None → ⊥
    later x [] is = cc
    later x (y ∷ ys) is = later y ys is

    step : (inserts : List Dated) → Somewhere IsInsert inserts → option_map (λ dated. dated.version) (last_of inserts) ≡ None → ⊥
    step [] some is = elim some [ ]
    step (x ∷ xs) some is = later x xs is

is_none : (changes : List Dated) → (¬ HasInsert changes) → option_map (λ dated. dated.version) (last_of (inserts_of changes)) ≡ None
is_none changes none = rw (none_inserted changes (λ some. none (any_from_some IsInsert changes some))) refl

pub created : (schema : Schema) (masks : Bool) (changes : List Dated) (last : Dated) → IsCreatedBy changes (row_of schema masks changes last)
created schema masks changes last = record {
  version = λ version. (version_is changes version, is_version changes version);
  none = (none_is changes, is_none changes);
}

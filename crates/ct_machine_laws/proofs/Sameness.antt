-- Names that are the same, with ASCII letters folded, and the names of tables.
use Rattle.std.proofs.Common.{◌≡◌, ◌≢◌, ◌<◌, ℕ, Bool, true, false, not, ◌&&◌, ◌||◌, cond, nat_lt, codes, List, [], ◌∷◌, ◌++◌, length, take, find, Option, Some, None, IfSome, is_some, if◌then◌else◌, inl, inr, refl, sym, ap, ◌∙◌, arith, ltb-true}
use Rattle.std.specs.Char.{to_ascii_lowercase}
use Rattle.std.specs.List.{AllByRecursion, list_any}
use Rattle.std.proofs.lemmas.Bool.Decides.{nat_tests}
use Rattle.std.proofs.lemmas.List.{length-map}
use Rattle.std.proofs.lemmas.Slice.Eq.{bytes_eq-Decides}
use Rattle.ct_types.specs.declared.catalogue.Catalogued.{Catalogued}
use Rattle.ct_types.specs.declared.expr.ObjectName.{ObjectName}
use Rattle.ct_model.specs.Names.{folded, IsName, IsTableName, IsInSys}
use Rattle.ct_model.proofs.InSys.{in_sys}
use Rattle.ct_bind_names.specs.Catalogue.{table_named}
use Rattle.ct_bind_names.specs.Names.{same, is_among, joined, table_name}
use Rattle.ct_bind_definition.specs.Definitions.{is_in_sys}

pub both : (a b : Bool) → (a && b) ≡ true → (a ≡ true) × (b ≡ true)
both true b e = (refl, e)
both false b e = absurd cc

pub same_folded : (a b : List ℕ) → same a b ≡ true → folded a ≡ folded b
unfolding same
same_folded a b e = (bytes_eq-Decides (folded a) (folded b)).0 e

pub folded_same : (a b : List ℕ) → folded a ≡ folded b → same a b ≡ true
unfolding same
folded_same a b e = (bytes_eq-Decides (folded a) (folded b)).1 e

pub not_and : (b : Bool) → b ≡ true → not b ≡ true → ⊥
not_and true e f = cc
not_and false e f = cc

neither : (a b : Bool) → not (a || b) ≡ true → (a ≡ false) × (not b ≡ true)
neither true b e = absurd cc
neither false b e = (refl, e)

-- what a failed test tells of each, where no member passes it
pub none_of : {X : Type 0} (test : X → Bool) (P : X → Type 0) → ((x : X) → test x ≡ false → P x) → (xs : List X) → not (list_any test xs) ≡ true → AllByRecursion P xs
none_of test P told [] none = tt
none_of test P told (x ∷ xs) none = let it = neither (test x) (list_any test xs) none in (told x it.0, none_of test P told xs it.1)

no_first : {X : Type 0} (a : Bool) (x : X) (rest : Option X) → not (is_some (cond a (Some x) rest)) ≡ true → (a ≡ false) × (not (is_some rest) ≡ true)
no_first true x rest e = absurd cc
no_first false x rest e = (refl, e)

none_found : {X : Type 0} (test : X → Bool) (P : X → Type 0) → ((x : X) → test x ≡ false → P x) → (xs : List X) → not (is_some (find test xs)) ≡ true → AllByRecursion P xs
none_found test P told [] none = tt
none_found test P told (x ∷ xs) none = let it = no_first (test x) x (find test xs) none in (told x it.0, none_found test P told xs it.1)

pub unlike : (a b : List ℕ) → same a b ≡ false → folded a ≢ folded b
unlike a b other alike = let told = folded_same a b alike in cc

-- a name that is none of these is none of them however it is written
pub not_among : (name other : List ℕ) (names : List (List ℕ)) → folded other ≡ folded name → not (is_among name names) ≡ true
    → AllByRecursion (λ n. folded other ≢ folded n) names
unfolding is_among
not_among name other names is free = none_of (same name) (λ n. folded other ≢ folded n) (λ n no alike. unlike name n no (sym is ∙ alike)) names free

-- ---- the name of a table

joined_is : (first : List ℕ) (second : Option (List ℕ)) → IsName first → IfSome second IsName → IsTableName (joined first second)
joined_is first None one two = inl one
joined_is first (Some second) one two =
    elim (same first (codes "dbo")) as (λ b. IsTableName (if b then second else first ++ codes "." ++ second)) [ true ↦ inl two | false ↦ inr (first, second, refl, one, two) ]

pub is_table_name : (name : ObjectName) → IsName name.first → IfSome name.second IsName → IsTableName (table_name name)
unfolding table_name
is_table_name name one two = joined_is name.first name.second one two

pub not_in_sys : (name : List ℕ) → not (is_in_sys name) ≡ true → ¬ IsInSys name
unfolding is_in_sys
not_in_sys name free sys = step (nat_lt 4 (length name)) refl free
  where
    step : (b : Bool) → b ≡ nat_lt 4 (length name) → not (b && same (take 4 name) (codes "sys.")) ≡ true → ⊥
    step true e free =
        let long : 4 < length name = ltb-true 4 (length name) (sym e) in
        let told = (in_sys name (same (take 4 name) (codes "sys.")) long (same_folded (take 4 name) (codes "sys."), folded_same (take 4 name) (codes "sys."))).1 sys in
        cc
    step false e free = grind (arith, nat_tests, ap length sys.1, sys.2, length-map name to_ascii_lowercase)

-- no table has a name that is not found
pub new_name : (tables : List Catalogued) (name : List ℕ) → not (is_some (table_named tables name)) ≡ true
    → AllByRecursion (λ table. folded table.schema.name ≢ folded name) tables
unfolding table_named
new_name tables name new = none_found (λ table. same table.schema.name name) (λ table. folded table.schema.name ≢ folded name) (λ table no. unlike table.schema.name name no) tables new

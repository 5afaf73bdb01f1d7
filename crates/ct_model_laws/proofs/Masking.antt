-- A row has a mask where its columns are told, with the columns that some change set.
use Rattle.std.proofs.Common.{◌≡◌, ◌↔◌, ◌≤◌, ◌<◌, ◌+◌, ◌-◌, ◌⊎◌, inl, inr, ℕ, zero, suc, max, Bool, true, false, not, cond, eqb-true, eq-eqb, ◌&&◌, ◌||◌, ◌==◌, List, [], ◌∷◌, fold, length, Contains, None, Some, IsSome, IfSome, refl, sym, ◌∙◌, subst, arith}
use Rattle.std.specs.Prelude.{bit_or}
use Rattle.std.specs.Int.{bit_at}
use Rattle.std.specs.List.{Any, list_any}
use Rattle.std.proofs.lemmas.Bool.{cases_lt}
use Rattle.std.proofs.lemmas.Nat.Bits.{bit_at_or, bit_at-lt, bit_at-zero}
use Rattle.std.proofs.lemmas.List.Folds.{Any-from_list_any, list_any-from_Any}
use Rattle.ct_types.specs.declared.schema.Column.{Column}
use Rattle.ct_types.specs.declared.schema.Schema.{Schema}
use Rattle.ct_types.specs.declared.entry.Op.{Op}
use Rattle.ct_types.specs.declared.entry.Op.TheVariants.{Insert, Update, Delete}
use Rattle.ct_model.specs.declared.db.Dated.{Dated}
use Rattle.ct_model.specs.Net.{has_insert, has_others, is_whole, mask_of, op_after, row_of, union_of}
use Rattle.ct_model_laws.specs.Rows.{HasColumn, SetsAllOthers, IsMaskedBy}
use Rattle.ct_model_laws.proofs.NetTelling.{any_from_some, some_from_any}
use Rattle.ct_model_laws.proofs.Somewhere.{Somewhere, some_weaken, contains_from_some, some_from_contains}

-- ---- the key

in_key : (key : List ℕ) (id : ℕ) → list_any (λ k. k == id) key ≡ true → Contains key id
in_key key id e =
    contains_from_some id key
    (some_weaken (λ (k : ℕ). (k == id) ≡ true) (λ k. k ≡ id) (λ k e. eqb-true k id e) key (some_from_any (λ (k : ℕ). (k == id) ≡ true) key (Any-from_list_any (λ (k : ℕ). k == id) key e)))

of_key : (key : List ℕ) (id : ℕ) → Contains key id → list_any (λ k. k == id) key ≡ true
of_key key id contains =
    list_any-from_Any (λ (k : ℕ). k == id) key
    (any_from_some (λ (k : ℕ). (k == id) ≡ true) key (some_weaken (λ (k : ℕ). k ≡ id) (λ k. (k == id) ≡ true) (λ k e. eq-eqb k id e) key (some_from_contains id key contains)))

-- ---- the columns outside the key

-- each of these columns, numbered from this id on, is of the key or set
abbrev HasEach : List ℕ → ℕ → ℕ → ℕ → Type 0
HasEach key mask first count = (id : ℕ) → first ≤ id → id < first + count → (¬ Contains key id) → HasColumn mask id

one_of : (key : List ℕ) (mask id : ℕ) (b : Bool) → b ≡ list_any (λ k. k == id) key → (b || bit_at mask (id - 1) == 1) ≡ true → (¬ Contains key id) → HasColumn mask id
one_of key mask id true e is other = absurd (other (in_key key id (sym e)))
one_of key mask id false e is other = eqb-true (bit_at mask (id - 1)) 1 is

one_is : (key : List ℕ) (mask id : ℕ) (b : Bool) → b ≡ list_any (λ k. k == id) key → ((¬ Contains key id) → HasColumn mask id) → (b || bit_at mask (id - 1) == 1) ≡ true
one_is key mask id true e has = refl
one_is key mask id false e has = eq-eqb (bit_at mask (id - 1)) 1 (has (λ contains. cc (e, of_key key id contains)))

and_first : (a b : Bool) → (a && b) ≡ true → a ≡ true
and_first true b e = refl
and_first false b e = cc

and_second : (a b : Bool) → (a && b) ≡ true → b ≡ true
and_second true b e = e
and_second false b e = cc

others_each : (key : List ℕ) (mask first : ℕ) (columns : List Column) → has_others key mask first columns ≡ true → HasEach key mask first (length columns)
others_each key mask first [] is id low high other = absurd (omega arith)
others_each key mask first (column ∷ columns) is id low high other =
    let here : Bool = list_any (λ k. k == first) key || bit_at mask (first - 1) == 1 in
    elim (cases_lt first id) [
      | inr least ↦ subst (λ n. (¬ Contains key n) → HasColumn mask n) (let same : first ≡ id = omega arith in same) (one_of key mask first (list_any (λ k. k == first) key) refl (and_first here (has_others key mask (first + 1) columns) is)) other
      | inl later ↦ others_each key mask (first + 1) columns (and_second here (has_others key mask (first + 1) columns) is) id (omega arith) (omega arith) other
    ]

each_others : (key : List ℕ) (mask first : ℕ) (columns : List Column) → HasEach key mask first (length columns) → has_others key mask first columns ≡ true
each_others key mask first [] has = refl
each_others key mask first (column ∷ columns) has =
    rw (one_is key mask first (list_any (λ k. k == first) key) refl (has first (omega arith) (omega arith)))
    (each_others key mask (first + 1) columns (λ id low high other. has id (omega arith) (omega arith) other))

whole_sets : (schema : Schema) (dated : Dated) → is_whole schema dated.change.mask ≡ true → SetsAllOthers schema dated
whole_sets schema dated is id other = others_each schema.key dated.change.mask 1 schema.columns is id other.0 (omega (arith, other.1)) other.2

sets_whole : (schema : Schema) (dated : Dated) → SetsAllOthers schema dated → is_whole schema dated.change.mask ≡ true
sets_whole schema dated sets = each_others schema.key dated.change.mask 1 schema.columns (λ id low high other. sets id (low, omega (arith, high), other))

some_whole : (schema : Schema) (changes : List Dated) → list_any (λ dated. is_whole schema dated.change.mask) changes ≡ true → Any (SetsAllOthers schema) changes
some_whole schema changes e =
    let any = Any-from_list_any (λ (dated : Dated). is_whole schema dated.change.mask) changes e in
    (any.0, any.1, any.2, any.3, whole_sets schema any.1 any.4)

whole_some : (schema : Schema) (changes : List Dated) → Any (SetsAllOthers schema) changes → list_any (λ dated. is_whole schema dated.change.mask) changes ≡ true
whole_some schema changes any =
    list_any-from_Any (λ (dated : Dated). is_whole schema dated.change.mask) changes (any.0, any.1, any.2, any.3, sets_whole schema any.1 any.4)

-- ---- the union

abbrev SetsBit : ℕ → Dated → Type 0
SetsBit place dated = bit_at dated.change.mask place ≡ 1

either_bit : (mask more place : ℕ) → bit_at (bit_or mask more) place ≡ 1 → (bit_at mask place ≡ 1) ⊎ (bit_at more place ≡ 1)
either_bit mask more place is =
    let max_is : max (bit_at mask place) (bit_at more place) ≡ 1 = sym (bit_at_or mask more place) ∙ is in
    choose (bit_at mask place) (bit_at more place) (bit_at-lt mask place) (bit_at-lt more place) max_is
  where
    choose : (a b : ℕ) → a < 2 → b < 2 → max a b ≡ 1 → (a ≡ 1) ⊎ (b ≡ 1)
    choose zero b la lb e = inr (omega arith)
    choose (suc a) b la lb e = inl (omega arith)

bit_either : (mask more place : ℕ) → (bit_at mask place ≡ 1) ⊎ (bit_at more place ≡ 1) → bit_at (bit_or mask more) place ≡ 1
bit_either mask more place some = bit_at_or mask more place ∙ choose (bit_at mask place) (bit_at more place) (bit_at-lt mask place) (bit_at-lt more place) some
  where
    choose : (a b : ℕ) → a < 2 → b < 2 → (a ≡ 1) ⊎ (b ≡ 1) → max a b ≡ 1
    choose a b la lb (inl e) = omega arith
    choose a b la lb (inr e) = omega arith

union_some : (place mask : ℕ) (changes : List Dated) → bit_at (fold (λ mask dated. bit_or mask dated.change.mask) mask changes) place ≡ 1
    → (bit_at mask place ≡ 1) ⊎ Somewhere (SetsBit place) changes
union_some place mask [] is = inl is
union_some place mask (x ∷ xs) is = join (union_some place (bit_or mask x.change.mask) xs is)
  where
    join : (bit_at (bit_or mask x.change.mask) place ≡ 1) ⊎ Somewhere (SetsBit place) xs → (bit_at mask place ≡ 1) ⊎ (SetsBit place x ⊎ Somewhere (SetsBit place) xs)
    join (inr some) = inr (inr some)
    join (inl is) = elim (either_bit mask x.change.mask place is) [ inl e ↦ inl e | inr e ↦ inr (inl e) ]

some_union : (place mask : ℕ) (changes : List Dated) → (bit_at mask place ≡ 1) ⊎ Somewhere (SetsBit place) changes
    → bit_at (fold (λ mask dated. bit_or mask dated.change.mask) mask changes) place ≡ 1
some_union place mask [] (inl is) = is
some_union place mask [] (inr some) = elim some [ ]
some_union place mask (x ∷ xs) (inl is) = some_union place (bit_or mask x.change.mask) xs (inl (bit_either mask x.change.mask place (inl is)))
some_union place mask (x ∷ xs) (inr (inl is)) = some_union place (bit_or mask x.change.mask) xs (inl (bit_either mask x.change.mask place (inr is)))
some_union place mask (x ∷ xs) (inr (inr some)) = some_union place (bit_or mask x.change.mask) xs (inr some)

union_has : (changes : List Dated) (id : ℕ) → HasColumn (union_of changes) id ↔ Any (λ dated. HasColumn dated.change.mask id) changes
union_has changes id = (
  λ is. any_from_some (SetsBit (id - 1)) changes (later (union_some (id - 1) 0 changes is)),
  λ any. some_union (id - 1) 0 changes (inr (some_from_any (SetsBit (id - 1)) changes any)),
)
  where
    later : (bit_at 0 (id - 1) ≡ 1) ⊎ Somewhere (SetsBit (id - 1)) changes → Somewhere (SetsBit (id - 1)) changes
    later (inl is) = absurd (let none : bit_at 0 (id - 1) ≡ 0 = bit_at-zero (id - 1) in omega (arith, none, is))
    later (inr some) = some

-- ---- the mask

-- the columns are told, of a row with this operation
abbrev AreTold : Schema → Bool → Op → List Dated → Type 0
AreTold schema masks op changes = (op ≡ Update) × (masks ≡ true) × (¬ Any (SetsAllOthers schema) changes)

mask_given : (schema : Schema) (masks : Bool) (op : Op) (changes : List Dated) → IsSome (mask_of schema masks op changes) ↔ AreTold schema masks op changes
mask_given schema masks Insert changes = (λ e. cc, λ told. let wrong : Insert ≡ Update = told.0 in cc)
mask_given schema masks Delete changes = (λ e. cc, λ told. let wrong : Delete ≡ Update = told.0 in cc)
mask_given schema false Update changes = (λ e. cc, λ told. let wrong : false ≡ true = told.1 in cc)
mask_given schema true Update changes = step (list_any (λ dated. is_whole schema dated.change.mask) changes) refl
  where
    step : (b : Bool) → b ≡ list_any (λ dated. is_whole schema dated.change.mask) changes
        → IsSome (cond (not b) (Some (union_of changes)) None) ↔ AreTold schema true Update changes
    step true e = (λ is. cc, λ told. absurd (told.2 (some_whole schema changes (sym e))))
    step false e = (λ is. (refl, refl, λ any. cc (e, whole_some schema changes any)), λ told. refl)

mask_columns : (schema : Schema) (masks : Bool) (op : Op) (changes : List Dated)
    → IfSome (mask_of schema masks op changes) (λ mask. (id : ℕ) → HasColumn mask id ↔ Any (λ dated. HasColumn dated.change.mask id) changes)
mask_columns schema masks Insert changes = tt
mask_columns schema masks Delete changes = tt
mask_columns schema masks Update changes =
    elim (masks && not (list_any (λ dated. is_whole schema dated.change.mask) changes)) as
    (λ b. IfSome (cond b (Some (union_of changes)) None) (λ mask. (id : ℕ) → HasColumn mask id ↔ Any (λ dated. HasColumn dated.change.mask id) changes))
    [ true ↦ union_has changes | false ↦ tt ]

pub masked : (schema : Schema) (masks : Bool) (changes : List Dated) (last : Dated) → IsMaskedBy schema masks changes (row_of schema masks changes last)
masked schema masks changes last =
    let op : Op = op_after last.change.op (has_insert changes) in
    record { given = mask_given schema masks op changes; columns = mask_columns schema masks op changes }

-- The order that ORDER BY gives, as T-SQL documents it: NULL comes first, DESC turns the comparison round. That rows which tie
-- keep the order that they had is this project's own.
use Rattle.std.specs.Prelude.{Bool, true, false, List, [], ◌∷◌, if◌then◌else◌}
use Rattle.std.specs.declared.cmp.Ordering.{Ordering}
use Rattle.std.specs.declared.cmp.Ordering.TheVariants.{Less, Equal, Greater}
use Rattle.std.specs.Ordering.{ordering_then, ordering_reverse}
use Rattle.ct_types.specs.declared.bound.OrderBy.{OrderBy}
use Rattle.ct_types.specs.declared.value.Value.{Value}
use Rattle.ct_types.specs.Order.{value_cmp}

-- ---- a list in order

-- a member goes before the first that is not less, so before those that tie with it
abbrev pub put : {A : Type 0} → (A → A → Bool) → A → List A → List A
put less a [] = a ∷ []
put less a (b ∷ more) = if less b a then b ∷ put less a more else (a ∷ b ∷ more)

abbrev pub in_order : {A : Type 0} → (A → A → Bool) → List A → List A
in_order less [] = []
in_order less (a ∷ more) = put less a (in_order less more)

-- ---- the comparison of ORDER BY

-- two values by one part
abbrev pub part_cmp : Bool → Value → Value → Ordering
part_cmp false a b = value_cmp a b
part_cmp true a b = ordering_reverse (value_cmp a b)

-- The values of all parts: the first part that tells them apart decides. Each list has a value for each part; where one
-- were shorter, it would come first.
abbrev pub keys_cmp : List OrderBy → List Value → List Value → Ordering
keys_cmp [] xs ys = Equal
keys_cmp (part ∷ parts) [] [] = Equal
keys_cmp (part ∷ parts) [] (y ∷ ys) = Less
keys_cmp (part ∷ parts) (x ∷ xs) [] = Greater
keys_cmp (part ∷ parts) (x ∷ xs) (y ∷ ys) = ordering_then (part_cmp part.down x y) (keys_cmp parts xs ys)

-- An ordered map as the list of its pairs, in rising order of keys: its look-ups and changes. This project's own.
use Rattle.std.specs.Prelude.{◌≡◌, ℕ, ◌<◌, Bool, not, List, [], ◌∷◌, ◌++◌, length, filter, Option, None, Some, slice_index_or}
use Rattle.std.specs.List.{AllByRecursion, flat_map, find}
use Rattle.std.specs.Option.{option_map}
use Rattle.std.specs.declared.cmp.Ordering.{Ordering}
use Rattle.std.specs.declared.cmp.Ordering.TheVariants.{Less, Greater}
use Rattle.std.specs.Ordering.{is_lt, is_eq, is_gt}
use Rattle.ct_types.specs.Order.{key_cmp}
use Rattle.ct_types.specs.declared.value.Key.{Key}
use Rattle.ct_ptree.specs.declared.pair.Pair.{Pair}

module _ {V : Type 0} where
  -- each key is below all that come after it
  abbrev pub Ascends : List (Pair V) → Type 0
  Ascends [] = Unit {0}
  Ascends (first ∷ rest) = AllByRecursion (λ pair. key_cmp first.key pair.key ≡ Less) rest × Ascends rest

  -- how a pair stands to a key
  abbrev pub is_below : Key → Pair V → Bool
  is_below key pair = is_lt (key_cmp pair.key key)

  abbrev pub is_at : Key → Pair V → Bool
  is_at key pair = is_eq (key_cmp pair.key key)

  abbrev pub is_above : Key → Pair V → Bool
  is_above key pair = is_gt (key_cmp pair.key key)

  -- the value of a key, where there is one
  abbrev pub value_at : List (Pair V) → Key → Option V
  value_at pairs key = option_map (λ (pair : Pair V). pair.value) (find (is_at key) pairs)

  -- the pairs below a key, then those above it: no pair of that key is left
  abbrev pub without : List (Pair V) → Key → List (Pair V)
  without pairs key = filter (is_below key) pairs ++ filter (is_above key) pairs

  -- the same with one pair in the place of its key
  abbrev pub with_pair : List (Pair V) → Pair V → List (Pair V)
  with_pair pairs pair = filter (is_below pair.key) pairs ++ pair ∷ filter (is_above pair.key) pairs

  -- with this value at a key, in place of the value that the key had
  abbrev pub set_pair : List (Pair V) → Key → V → List (Pair V)
  set_pair pairs key value = with_pair pairs (record { key = key; value = value })

  -- the pairs from a key on
  abbrev pub from_key : List (Pair V) → Key → List (Pair V)
  from_key pairs key = filter (λ pair. not (is_below key pair)) pairs

  -- all stand below a key, all stand above it
  abbrev pub AllBelow : Key → List (Pair V) → Type 0
  AllBelow key = AllByRecursion (λ pair. key_cmp pair.key key ≡ Less)

  abbrev pub AllAbove : Key → List (Pair V) → Type 0
  AllAbove key = AllByRecursion (λ pair. key_cmp pair.key key ≡ Greater)

  -- how the first key stands to a key; of no pairs it is below
  abbrev pub start_cmp : List (Pair V) → Key → Ordering
  start_cmp [] key = Less
  start_cmp (first ∷ rest) key = key_cmp first.key key

  -- where there are pairs, the first one has this key
  abbrev pub BeginsAt : Key → List (Pair V) → Type 0
  BeginsAt key [] = Unit {0}
  BeginsAt key (first ∷ rest) = first.key ≡ key

  -- two lists, none of them empty, that together are this one
  abbrev pub AreHalves : List (Pair V) → List (Pair V) → List (Pair V) → Type 0
  AreHalves pairs front back = (front ++ back ≡ pairs) × (0 < length front) × (0 < length back)

  -- the lists of a level, one after another
  abbrev pub joined : List (List (Pair V)) → List (Pair V)
  joined = flat_map (λ pairs. pairs)

  -- none of the lists of a level is empty
  abbrev pub AreFilled : List (List (Pair V)) → Type 0
  AreFilled = AllByRecursion (λ pairs. 0 < length pairs)

  -- the pairs of a root, none without a root; a root has some
  abbrev pub content : Option (List (Pair V)) → List (Pair V)
  content None = []
  content (Some pairs) = pairs

  abbrev pub IsFilled : Option (List (Pair V)) → Type 0
  IsFilled None = Unit {0}
  IsFilled (Some pairs) = 0 < length pairs

  -- the value of a key is that of the pair at this place
  abbrev pub IsFoundAt : List (Pair V) → Key → ℕ → Type 0
  IsFoundAt pairs key place = (it : Pair V) → it ≡ slice_index_or pairs place it → value_at pairs key ≡ Some it.value

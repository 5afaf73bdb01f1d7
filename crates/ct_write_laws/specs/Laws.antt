-- The law of the keys that an INSERT repeats, told of places among the writes: nothing here says how they are gone through.
use Rattle.std.specs.Prelude.{◌≡◌, ℕ, ◌<◌, ◌⊎◌, ◌↔◌, List, slice_get, Some, None}
use Rattle.std.specs.List.{Contains}
use Rattle.ct_types.specs.declared.entry.Op.TheVariants.{Insert}
use Rattle.ct_types.specs.declared.entry.Write.{Write}
use Rattle.ct_types.specs.declared.schema.Schema.{Schema}
use Rattle.ct_types.specs.declared.value.Key.{Key}
use Rattle.ct_types.specs.declared.value.Row.{Row}
use Rattle.ct_model.specs.Tables.{key_of}
use Rattle.ct_write.specs.Duplicates.{duplicate}

-- one of the rows has the key
abbrev pub HasKey : Schema → List Row → Key → Type 0
HasKey schema rows key = (row : Row) × Contains rows row × (key_of schema row ≡ key)

-- the write at the place is an insert of the key
abbrev pub InsertsAt : List Write → ℕ → Key → Type 0
InsertsAt writes place key = (write : Write) × (slice_get writes place ≡ Some write) × (write.op ≡ Insert) × (write.key ≡ key)

-- so is a write before the place
abbrev pub InsertsBefore : List Write → ℕ → Key → Type 0
InsertsBefore writes place key = (earlier : ℕ) × (earlier < place) × InsertsAt writes earlier key

-- the write at the place is an insert of a key that a row has, or that an insert before it has
abbrev pub RepeatsAt : Schema → List Row → List Write → ℕ → Type 0
RepeatsAt schema rows writes place = (key : Key) × InsertsAt writes place key × (HasKey schema rows key ⊎ InsertsBefore writes place key)

-- the place is the first of these
pub record IsFirstRepeat (schema : Schema) (rows : List Row) (writes : List Write) (place : ℕ) : Type 0 where
  pub here : RepeatsAt schema rows writes place
  pub none_before : (earlier : ℕ) → earlier < place → ¬ RepeatsAt schema rows writes earlier

-- a place is answered exactly where it is the first
abbrev pub FirstIsAnswered : Type 0
FirstIsAnswered =
    (schema : Schema) (rows : List Row) (writes : List Write) (place : ℕ)
    → (duplicate schema rows writes ≡ Some place) ↔ IsFirstRepeat schema rows writes place

-- and none exactly where there is none
abbrev pub NoneIsAnswered : Type 0
NoneIsAnswered =
    (schema : Schema) (rows : List Row) (writes : List Write)
    → (duplicate schema rows writes ≡ None) ↔ ((place : ℕ) → ¬ RepeatsAt schema rows writes place)

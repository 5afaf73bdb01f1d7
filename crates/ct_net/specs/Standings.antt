-- What the changes of each key of a table come to: all that the net row of the key needs of them. This project's own.
use Rattle.std.specs.Prelude.{ℕ, Bool, is_some, List, Option, None}
use Rattle.std.specs.Option.{option_map}
use Rattle.std.specs.List.{filter_map}
use Rattle.ct_types.specs.declared.schema.Schema.{Schema}
use Rattle.ct_types.specs.declared.tracked.NetRow.{NetRow}
use Rattle.ct_types.specs.declared.entry.Op.{Op}
use Rattle.ct_types.specs.declared.entry.Op.TheVariants.{Insert, Update, Delete}
use Rattle.ct_model.specs.declared.db.Dated.{Dated}
use Rattle.ct_model.specs.Net.{window, keys_of, last_of, inserts_of, op_after, mask_of}
use Rattle.ct_ptree.specs.declared.pair.Pair.{Pair}

-- the last change, the version of the last insert, and the columns that a U would tell
pub record Standing : Type 0 where
  pub last : Dated
  pub creation : Option ℕ
  pub columns : Option ℕ

-- the version of the last insert among changes
abbrev pub creation_of : List Dated → Option ℕ
creation_of changes = option_map (λ dated. dated.version) (last_of (inserts_of changes))

-- what a key's changes come to, none where there is no change
abbrev pub standing : Schema → Bool → List Dated → Option Standing
standing schema masks changes = option_map (λ last. record { last = last; creation = creation_of changes; columns = mask_of schema masks Update changes }) (last_of changes)

-- the keys that changed, in key order, each with what its changes come to
abbrev pub standings : Schema → Bool → List Dated → List (Pair Standing)
standings schema masks changes = filter_map (λ key. option_map (λ value. record { key = key; value = value }) (standing schema masks (window changes key))) (keys_of changes)

-- only a U tells columns
abbrev pub told_by : Op → Option ℕ → Option ℕ
told_by Update columns = columns
told_by Insert columns = None
told_by Delete columns = None

-- the net row of a key whose changes come to this
abbrev pub shown : Standing → NetRow
shown it =
    let op = op_after it.last.change.op (is_some it.creation) in
    record {
      version = it.last.version;
      creation = it.creation;
      op = op;
      mask = told_by op it.columns;
      context = it.last.change.context;
      key = it.last.change.key;
    }

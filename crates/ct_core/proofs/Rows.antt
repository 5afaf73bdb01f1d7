-- The rows of a source are those that are made for it, or those that its table lends.
use Rattle.std.proofs.Common.{◌≡◌, ◌++◌, ◌∷◌, [], ap, map, Option, None, Some, Ok, Err, refl, List}
use Rattle.std.specs.List.{filter_map, cons_option}
use Rattle.std.specs.Option.{option_to_list}
use Rattle.std.proofs.lemmas.Simd.{map-map}
use Rattle.ct_types.specs.declared.entry.Kept.{Kept}
use Rattle.ct_types.specs.declared.bound.BoundSource.{BoundSource}
use Rattle.ct_types.specs.declared.bound.BoundSource.TheVariants as source
use Rattle.ct_types.specs.declared.bound.Join.{Join}
use Rattle.ct_types.specs.declared.bound.Join.TheVariants as join
use Rattle.ct_types.specs.declared.value.Row.{Row}
use Rattle.ct_types.specs.Answers.{Answer, ◌>>=◌, each}
use Rattle.ct_machine.specs.Reads.{optional_rows, right_rows, shown_commit, source_rows, version_on}
use Rattle.ct_state.specs.Seen.{Seen}
use Rattle.ct_core.specs.Rows.{made_rows, made_right, chosen_rows, shown_committed}
use Rattle.ct_database.specs.Commits.{committed}

pass : (outcome : Answer (List Row)) → outcome ≡ (outcome >>= (λ made. Ok made))
pass (Ok made) = refl
pass (Err refusal) = refl

pub optional_made : (seen : Seen) (it : Option BoundSource) → optional_rows seen it ≡ (made_rows seen it >>= (λ made. Ok (chosen_rows seen.db it made)))
optional_made seen None = refl
optional_made seen (Some (source.Table id)) = refl
optional_made seen (Some (source.Changes id since)) = pass (source_rows seen (source.Changes id since))
optional_made seen (Some (source.Version version)) = pass (source_rows seen (source.Version version))
optional_made seen (Some source.CommitTable) = refl
optional_made seen (Some source.TrackingTables) = refl

pub right_made : (seen : Seen) (it : Join) (right : Option BoundSource) (lefts : List Row)
    → right_rows seen it right lefts ≡ (made_right seen it right lefts >>= (λ made. Ok (chosen_rows seen.db right made)))
right_made seen join.Apply None lefts = refl
right_made seen join.Apply (Some (source.Table id)) lefts = refl
right_made seen join.Apply (Some (source.Changes id since)) lefts = optional_made seen (Some (source.Changes id since))
right_made seen join.Apply (Some (source.Version version)) lefts = pass (each (version_on seen version) lefts)
right_made seen join.Apply (Some source.CommitTable) lefts = refl
right_made seen join.Apply (Some source.TrackingTables) lefts = refl
right_made seen join.One right lefts = optional_made seen right
right_made seen join.Inner right lefts = optional_made seen right
right_made seen join.Left right lefts = optional_made seen right
right_made seen join.Right right lefts = optional_made seen right

-- picking from a list of one, behind what was picked before
pub one_picked : {A B : Type 0} (f : A → Option B) (before : List B) (x : A) (made : List B) → before ≡ made
    → (before ++ filter_map f (x ∷ [])) ≡ (made ++ option_to_list (f x))
one_picked {B = B} f before x made is = by (f x)
  where
    by : (picked : Option B) → (before ++ cons_option picked []) ≡ (made ++ option_to_list picked)
    by None = ap (λ some. some ++ []) is
    by (Some b) = ap (λ some. some ++ b ∷ []) is

-- what a database tells of its kept commits shows them
pub told_commits : (kept : List Kept) → map shown_committed (map committed kept) ≡ map shown_commit kept
told_commits kept = map-map shown_committed committed kept

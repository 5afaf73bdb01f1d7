-- The walk over the writes answers the first place at which an insert repeats a key.
use Rattle.std.proofs.Common.{◌≡◌, ℕ, ◌+◌, ◌<◌, Bool, true, false, List, [], ◌∷◌, ◌++◌, length, Option, Some, None, refl, sym, ap, ◌∙◌, subst, if◌then◌else◌, arith, append_assoc, length-append}
use Rattle.std.proofs.lemmas.Option.{slice_get_within}
use Rattle.ct_types.specs.declared.entry.Write.{Write}
use Rattle.ct_types.specs.declared.schema.Schema.{Schema}
use Rattle.ct_types.specs.declared.value.Row.{Row}
use Rattle.ct_write.specs.Duplicates.{repeats, duplicate_from, duplicate}
use Rattle.ct_write_laws.specs.Laws.{RepeatsAt, IsFirstRepeat, FirstIsAnswered, NoneIsAnswered}
use Rattle.ct_write_laws.proofs.Taken.{repeats_at, at_repeats}
use borrow.Author.Count.{below_more}

module _ (schema : Schema) (rows : List Row) where
  -- no place below this one repeats a key
  abbrev NoneBelow : List Write → ℕ → Type 0
  NoneBelow writes end = (place : ℕ) → place < end → ¬ RepeatsAt schema rows writes place

  -- what an answer tells of the writes
  abbrev Tells : List Write → Option ℕ → Type 0
  Tells writes None = (place : ℕ) → ¬ RepeatsAt schema rows writes place
  Tells writes (Some place) = IsFirstRepeat schema rows writes place

  none_at : (earlier : List Write) (write : Write) (more : List Write) → repeats schema rows earlier write ≡ false → ¬ RepeatsAt schema rows (earlier ++ write ∷ more) (length earlier)
  none_at earlier write more not at = let clash : true ≡ false = sym (at_repeats schema rows earlier write more at) ∙ not in absurd cc

  -- one write further
  further : (earlier : List Write) (write : Write) (more : List Write) → repeats schema rows earlier write ≡ false → NoneBelow (earlier ++ write ∷ more) (length earlier)
      → NoneBelow ((earlier ++ write ∷ []) ++ more) (length (earlier ++ write ∷ []))
  further earlier write more not none =
      let all : List Write = earlier ++ write ∷ more in
      let long : length earlier + 1 ≡ length (earlier ++ write ∷ []) = omega (arith, length-append earlier (write ∷ [])) in
      let below : NoneBelow all (length earlier + 1) = below_more (λ place. ¬ RepeatsAt schema rows all place) (length earlier) none (none_at earlier write more not) in
      subst (λ ws. NoneBelow ws (length (earlier ++ write ∷ []))) (sym (append_assoc earlier (write ∷ []) more)) (subst (NoneBelow all) long below)

  -- behind the last write there is none
  none_past : (earlier : List Write) (place : ℕ) → NoneBelow (earlier ++ []) (length earlier) → ¬ RepeatsAt schema rows (earlier ++ []) place
  none_past earlier place none at =
      let within : place < length (earlier ++ []) = slice_get_within (earlier ++ []) place at.1.0 at.1.1 in
      none place (omega (arith, within, length-append earlier [])) at

  told : (earlier writes : List Write) → NoneBelow (earlier ++ writes) (length earlier) → Tells (earlier ++ writes) (duplicate_from schema rows earlier writes)
  told earlier [] none = λ place. none_past earlier place none
  told earlier (write ∷ writes) none =
      let all : List Write = earlier ++ write ∷ writes in
      let rest : Option ℕ = duplicate_from schema rows (earlier ++ write ∷ []) writes in
      let step : (b : Bool) → b ≡ repeats schema rows earlier write → Tells all (if b then Some (length earlier) else rest) =
      elim [
        | true ↦ (λ is. record { here = repeats_at schema rows earlier write writes (sym is); none_before = none })
        | false ↦
            (λ is. subst (λ ws. Tells ws rest) (append_assoc earlier (write ∷ []) writes)
            (told (earlier ++ write ∷ []) writes (further earlier write writes (sym is) none)))
      ] in
      step (repeats schema rows earlier write) refl

  whole : (writes : List Write) → Tells writes (duplicate schema rows writes)
  whole writes = told [] writes (λ place below. absurd (omega arith))

  -- there is but one first
  one_first : (writes : List Write) (place other : ℕ) → IsFirstRepeat schema rows writes place → IsFirstRepeat schema rows writes other → place ≡ other
  one_first writes place other first second =
      let low : ¬ (place < other) = λ below. second.none_before place below first.here in
      let high : ¬ (other < place) = λ below. first.none_before other below second.here in
      omega arith

  first_told : (writes : List Write) (place : ℕ) (answer : Option ℕ) → Tells writes answer → IsFirstRepeat schema rows writes place → answer ≡ Some place
  first_told writes place None tells first = absurd (tells place first.here)
  first_told writes place (Some other) tells first = ap Some (one_first writes other place tells first)

  none_told : (writes : List Write) (answer : Option ℕ) → Tells writes answer → ((place : ℕ) → ¬ RepeatsAt schema rows writes place) → answer ≡ None
  none_told writes None tells none = refl
  none_told writes (Some place) tells none = absurd (none place tells.here)

pub first_is_answered : FirstIsAnswered
first_is_answered schema rows writes place = (
  λ e. subst (Tells schema rows writes) e (whole schema rows writes),
  λ first. first_told schema rows writes place (duplicate schema rows writes) (whole schema rows writes) first,
)

pub none_is_answered : NoneIsAnswered
none_is_answered schema rows writes = (
  λ e. subst (Tells schema rows writes) e (whole schema rows writes),
  λ none. none_told schema rows writes (duplicate schema rows writes) (whole schema rows writes) none,
)

-- What a table shows once it is pruned, key by key.
use Rattle.std.proofs.Common.{◌≡◌, ℕ, ◌<◌, inr, append_assoc, append-nil, Bool, true, false, cond, List, [], ◌∷◌, ◌++◌, length, filter, map, Option, None, option_map, refl, sym, ap, ap₂, ◌∙◌, arith}
use Rattle.std.specs.List.{filter_map, cons_option}
use Rattle.std.specs.Option.{option_and_then}
use Rattle.std.specs.Ordering.{is_eq, ordering_reverse}
use Rattle.std.specs.declared.cmp.Ordering.{Ordering}
use Rattle.std.specs.declared.cmp.Ordering.TheVariants.{Less, Equal, Greater}
use Rattle.std.proofs.lemmas.List.{map-append}
use Rattle.std.proofs.lemmas.List.Elements.{filter-append}
use Rattle.ct_types.specs.Order.{key_cmp}
use Rattle.ct_types.proofs.Orders.{key_cmp_total}
use Rattle.ct_types.specs.declared.value.Key.{Key}
use Rattle.ct_ptree.specs.declared.pair.Pair.{Pair}
use Rattle.ct_ptree.specs.Pairs.{Ascends, AllBelow, AllAbove, is_at, value_at, set_pair, with_pair, without}
use Rattle.ct_ptree.proofs.Around.{with_around, without_around, none_of_high}
use Rattle.ct_ptree.proofs.Rising.{ascends_back, below_front, above_rest}
use Rattle.ct_rows.specs.declared.version.Version.{Version}
use Rattle.ct_rows.specs.Versions.{row_seen, written_later}
use Rattle.ct_rows.specs.Prunes.{kept, is_filled, pruned, IsPrunedAt, SeesAlike}
use Rattle.ct_rows.proofs.Kept.{row_kept, written_kept}

self_cmp : (k : Key) → key_cmp k k ≡ Equal
self_cmp k =
    let step : (o : Ordering) → o ≡ ordering_reverse o → o ≡ Equal = elim [ Less ↦ (λ e. cc) | Equal ↦ (λ e. refl) | Greater ↦ (λ e. cc) ] in
    step (key_cmp k k) (key_cmp_total.antisymm k k)

equal_of : (o : Ordering) → is_eq o ≡ true → o ≡ Equal
equal_of Less e = cc
equal_of Equal e = refl
equal_of Greater e = cc

module _ {V : Type 0} where
  -- a change at a key that stands between those before it and those behind it
  pub without_here : (pair : Pair V) (front back : List (Pair V)) → AllBelow pair.key front → AllAbove pair.key back
      → without (front ++ pair ∷ back) pair.key ≡ front ++ back
  without_here pair front back low high =
      let none : without (pair ∷ []) pair.key ≡ [] = rw (self_cmp pair.key) refl in
      without_around pair.key front (pair ∷ []) back low high ∙ ap (λ r. front ++ (r ++ back)) none

  pub with_here : (pair new : Pair V) (front back : List (Pair V)) → new.key ≡ pair.key → AllBelow pair.key front → AllAbove pair.key back
      → with_pair (front ++ pair ∷ back) new ≡ front ++ new ∷ back
  with_here pair new front back same low high =
      let equal : key_cmp pair.key new.key ≡ Equal = rw same (self_cmp pair.key) in
      let one : with_pair (pair ∷ []) new ≡ new ∷ [] = rw equal refl in
      with_around new front (pair ∷ []) back (rw same low) (rw same high) ∙ ap (λ r. front ++ (r ++ back)) one

-- what stays of one key
pub pruned_gone : (pair : Pair (List Version)) (least : ℕ) → kept pair.value least ≡ [] → pruned (pair ∷ []) least ≡ []
pruned_gone pair least none = rw none refl

pub pruned_some : (pair : Pair (List Version)) (least : ℕ) (vs : List Version) → kept pair.value least ≡ vs → 0 < length vs
    → pruned (pair ∷ []) least ≡ record { key = pair.key; value = vs } ∷ []
pruned_some pair least [] stays some = absurd (omega arith)
pruned_some pair least (v ∷ vs) stays some = rw stays refl

pub pruned_append : (front back : List (Pair (List Version))) (least : ℕ) → pruned (front ++ back) least ≡ pruned front least ++ pruned back least
pruned_append front back least =
    ap (filter (λ (pair : Pair (List Version)). is_filled pair.value)) (map-append (λ (pair : Pair (List Version)). record { key = pair.key; value = kept pair.value least }) front back)
    ∙ filter-append (λ (pair : Pair (List Version)). is_filled pair.value) (map (λ (pair : Pair (List Version)). record { key = pair.key; value = kept pair.value least }) front) (map (λ (pair : Pair (List Version)). record { key = pair.key; value = kept pair.value least }) back)

-- the keys that stay are among those that were
pub pruned_below : (key : Key) (rows : List (Pair (List Version))) (least : ℕ) → AllBelow key rows → AllBelow key (pruned rows least)
pruned_below key [] least low = tt
pruned_below key (p ∷ rows) least low =
    let step : (b : Bool) → AllBelow key (cond b (record { key = p.key; value = kept p.value least } ∷ pruned rows least) (pruned rows least)) =
    elim [ true ↦ (low.0, pruned_below key rows least low.1) | false ↦ pruned_below key rows least low.1 ] in
    step (is_filled (kept p.value least))

-- an answer that the versions that stay give as all of them do
module _ {X : Type 0} (f : List Version → Option X) (least : ℕ) (same : (vs : List Version) → f (kept vs least) ≡ f vs) (nothing : f [] ≡ None) where
  gone_answer : (vs : List Version) → is_filled (kept vs least) ≡ false → f vs ≡ None
  gone_answer vs gone =
      let step : (ks : List Version) → is_filled ks ≡ false → f ks ≡ None = elim [ [] ↦ (λ e. nothing) | k ∷ ks ↦ (λ e. cc) ] in
      sym (same vs) ∙ step (kept vs least) gone

  pub scan_kept : (rows : List (Pair (List Version))) → filter_map (λ (p : Pair (List Version)). f p.value) (pruned rows least) ≡ filter_map (λ (p : Pair (List Version)). f p.value) rows
  scan_kept [] = refl
  scan_kept (p ∷ rows) =
      let g : Pair (List Version) → Option X = λ p. f p.value in
      let p' : Pair (List Version) = record { key = p.key; value = kept p.value least } in
      let step : (b : Bool) → is_filled (kept p.value least) ≡ b → filter_map g (cond b (p' ∷ pruned rows least) (pruned rows least)) ≡ cons_option (f p.value) (filter_map g rows) =
      elim [
        | true ↦ (λ e. ap₂ cons_option (same p.value) (scan_kept rows))
        | false ↦ (λ e. scan_kept rows ∙ ap (λ o. cons_option o (filter_map g rows)) (sym (gone_answer p.value e)))
      ] in
      step (is_filled (kept p.value least)) refl

  pub at_kept : (key : Key) (rows : List (Pair (List Version))) → Ascends rows → option_and_then f (value_at (pruned rows least) key) ≡ option_and_then f (value_at rows key)
  at_kept key [] rising = refl
  at_kept key (p ∷ rows) rising =
      let p' : Pair (List Version) = record { key = p.key; value = kept p.value least } in
      let rest : option_and_then f (value_at (pruned rows least) key) ≡ option_and_then f (value_at rows key) = at_kept key rows rising.1 in
      let none : is_at key p ≡ true → value_at rows key ≡ None = λ here.
      ap (option_map (λ (q : Pair (List Version)). q.value)) (none_of_high key rows (above_rest key p rows rising (inr (equal_of (key_cmp p.key key) here)))) in
      let here : (b : Bool) → is_filled (kept p.value least) ≡ b → is_at key p ≡ true
      → option_and_then f (value_at (cond b (p' ∷ pruned rows least) (pruned rows least)) key) ≡ option_and_then f (value_at (p ∷ rows) key) =
      elim [
        | true ↦ (λ e at. rw at (same p.value))
        | false ↦ (λ e at. rest ∙ ap (option_and_then f) (none at) ∙ sym (rw at (gone_answer p.value e)))
      ] in
      let elsewhere : (b : Bool) → is_at key p ≡ false
      → option_and_then f (value_at (cond b (p' ∷ pruned rows least) (pruned rows least)) key) ≡ option_and_then f (value_at (p ∷ rows) key) =
      elim [ true ↦ (λ at. rw at rest) | false ↦ (λ at. rw at rest) ] in
      let step : (a : Bool) → is_at key p ≡ a → option_and_then f (value_at (pruned (p ∷ rows) least) key) ≡ option_and_then f (value_at (p ∷ rows) key) =
      elim [ true ↦ (λ at. here (is_filled (kept p.value least)) refl at) | false ↦ (λ at. elsewhere (is_filled (kept p.value least)) at) ] in
      step (is_at key p) refl

-- views from the least one on see the same of a table once it is pruned
pub seen_alike : (rows : List (Pair (List Version))) (least : ℕ) → Ascends rows → SeesAlike (pruned rows least) rows least
seen_alike rows least rising = record {
  at = λ view key order. at_kept (row_seen view) least (row_kept least view order) refl key rows rising;
  scan = λ view order. scan_kept (row_seen view) least (row_kept least view order) refl rows;
  written = λ view key order. at_kept (written_later view) least (written_kept least view order) refl key rows rising;
}

-- a table that is pruned as far as a walk over it has come
abbrev pub IsPrunedSoFar : List (Pair (List Version)) → List (Pair (List Version)) → List (Pair (List Version)) → ℕ → Type 0
IsPrunedSoFar rows rest made least =
    (front : List (Pair (List Version))) × (front ++ rest ≡ rows) × (made ≡ pruned front least ++ rest)

pub prune_step : (rows rest next made new : List (Pair (List Version))) (p : Pair (List Version)) (least : ℕ) → Ascends rows → IsPrunedSoFar rows rest made least
    → rest ≡ p ∷ next → IsPrunedAt new made p least → IsPrunedSoFar rows next new least
prune_step rows rest next made new p least rising (front, whole, so_far) first step =
    let split : front ++ p ∷ next ≡ rows = ap (λ r. front ++ r) (sym first) ∙ whole in
    let rises : Ascends (front ++ p ∷ next) = rw split rising in
    let low : AllBelow p.key front = below_front p.key front p next rises (inr (self_cmp p.key)) in
    let high : AllAbove p.key next = above_rest p.key p next (ascends_back front (p ∷ next) rises) (inr (self_cmp p.key)) in (
      front ++ p ∷ [],
      append_assoc front (p ∷ []) next ∙ split,
      step (pruned front least) next (so_far ∙ ap (λ r. pruned front least ++ r) first) (pruned_below p.key front least low) high
          ∙ sym (append_assoc (pruned front least) (pruned (p ∷ []) least) next)
          ∙ ap (λ r. r ++ next) (sym (pruned_append front (p ∷ []) least)),
    )

pub prune_end : (rows rest made : List (Pair (List Version))) (least : ℕ) → IsPrunedSoFar rows rest made least → rest ≡ [] → made ≡ pruned rows least
prune_end rows rest made least (front, whole, so_far) over =
    let all : front ≡ rows = sym (append-nil front) ∙ ap (λ r. front ++ r) (sym over) ∙ whole in
    so_far ∙ ap (λ r. pruned front least ++ r) over ∙ append-nil (pruned front least) ∙ ap (λ r. pruned r least) all

-- what is put at a key is what stays of it
pub put_here : (pair : Pair (List Version)) (rows front back : List (Pair (List Version))) (key : Key) (vs : List Version) (least : ℕ) → rows ≡ front ++ pair ∷ back
    → AllBelow pair.key front → AllAbove pair.key back → key ≡ pair.key → kept pair.value least ≡ vs → 0 < length vs
    → set_pair rows key vs ≡ front ++ (pruned (pair ∷ []) least ++ back)
put_here pair rows front back key vs least split low high same stays some =
    ap (λ xs. set_pair xs key vs) split ∙ with_here pair (record { key = key; value = vs }) front back same low high
    ∙ ap (λ k. front ++ record { key = k; value = vs } ∷ back) same
    ∙ sym (ap (λ r. front ++ (r ++ back)) (pruned_some pair least vs stays some))

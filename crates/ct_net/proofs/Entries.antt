-- Pairs of keys and what a function gives of them: those that pass a test of keys, and the value of a key.
use Rattle.std.proofs.Common.{◌≡◌, Bool, true, false, ◌||◌, cond, List, [], ◌∷◌, filter, find, Option, None, Some, option_map, refl, sym, ap, ◌∙◌}
use Rattle.std.specs.List.{list_any, filter_map, cons_option}
use Rattle.std.specs.Ordering.{is_eq}
use Rattle.ct_types.specs.Order.{key_cmp}
use Rattle.ct_types.proofs.Orders.{key_cmp_exact}
use Rattle.ct_types.specs.declared.value.Key.{Key}
use Rattle.ct_model.proofs.Rising.{equal_of}
use Rattle.ct_ptree.specs.declared.pair.Pair.{Pair}
use Rattle.ct_ptree.specs.Pairs.{is_at, value_at}

-- whether a key is that key
abbrev pub is_that : Key → Key → Bool
is_that key k = is_eq (key_cmp k key)

module _ {V : Type 0} where
  -- the pair of a key and what is given of it
  abbrev pub entry : (Key → Option V) → Key → Option (Pair V)
  entry given key = option_map (λ value. record { key = key; value = value }) (given key)

  -- the pairs of the keys that pass a test are the pairs whose keys do
  pub entries_filter : (test : Key → Bool) (old new : Key → Option V) → ((key : Key) → test key ≡ true → new key ≡ old key) → (keys : List Key)
      → filter_map (entry new) (filter test keys) ≡ filter (λ (pair : Pair V). test pair.key) (filter_map (entry old) keys)
  entries_filter test old new same [] = refl
  entries_filter test old new same (key ∷ keys) =
      let passes : Pair V → Bool = (λ pair. test pair.key) in
      let made : V → Pair V = (λ value. record { key = key; value = value }) in
      let more : filter_map (entry new) (filter test keys) ≡ filter passes (filter_map (entry old) keys) = entries_filter test old new same keys in
      let yes : test key ≡ true → (o : Option V) → old key ≡ o
      → filter_map (entry new) (key ∷ filter test keys) ≡ filter passes (cons_option (option_map made o) (filter_map (entry old) keys)) =
      λ e. elim [
        | None ↦ (λ is. ap (λ v. cons_option (option_map made v) (filter_map (entry new) (filter test keys))) (same key e ∙ is) ∙ more)
        | Some value ↦
            (λ is. ap (λ v. cons_option (option_map made v) (filter_map (entry new) (filter test keys))) (same key e ∙ is)
            ∙ ap (λ rest. made value ∷ rest) more
            ∙ ap (λ b. cond b (made value ∷ filter passes (filter_map (entry old) keys)) (filter passes (filter_map (entry old) keys))) (sym e))
      ] in
      let no : test key ≡ false → (o : Option V)
      → filter_map (entry new) (filter test keys) ≡ filter passes (cons_option (option_map made o) (filter_map (entry old) keys)) =
      λ e. elim [
        | None ↦ more
        | Some value ↦ more ∙ ap (λ b. cond b (made value ∷ filter passes (filter_map (entry old) keys)) (filter passes (filter_map (entry old) keys))) (sym e)
      ] in
      let step : (b : Bool) → test key ≡ b
      → filter_map (entry new) (cond b (key ∷ filter test keys) (filter test keys)) ≡ filter passes (filter_map (entry old) (key ∷ keys)) =
      elim [ true ↦ (λ e. yes e (old key) refl) | false ↦ (λ e. no e (old key)) ] in
      step (test key) refl

  nothing : (b : Bool) (o : Option V) → o ≡ None → cond b o None ≡ None
  nothing true o e = e
  nothing false o e = refl

  -- the value of a key is what is given of it, where it is among the keys
  pub entry_value : (given : Key → Option V) (key : Key) (keys : List Key)
      → value_at (filter_map (entry given) keys) key ≡ cond (list_any (is_that key) keys) (given key) None
  entry_value given key [] = refl
  entry_value given key (k ∷ keys) =
      let made : V → Pair V = (λ value. record { key = k; value = value }) in
      let rest : List (Pair V) = filter_map (entry given) keys in
      let any : Bool = list_any (is_that key) keys in
      let more : value_at rest key ≡ cond any (given key) None = entry_value given key keys in
      let here : is_that key k ≡ true → given key ≡ given k = λ e. ap given (sym (key_cmp_exact k key (equal_of (key_cmp k key) e))) in
      let there : (o : Option V) → given k ≡ o → (b : Bool) → is_that key k ≡ b
      → value_at (cons_option (option_map made o) rest) key ≡ cond (b || any) (given key) None =
      elim [
        | None ↦ (λ is. elim [ true ↦ (λ e. more ∙ nothing any (given key) (here e ∙ is) ∙ sym (here e ∙ is)) | false ↦ (λ e. more) ])
        | Some value ↦
            (λ is. elim [
              | true ↦ (λ e. ap (λ b. option_map (λ (pair : Pair V). pair.value) (cond b (Some (made value)) (find (is_at key) rest))) e ∙ sym (here e ∙ is))
              | false ↦ (λ e. ap (λ b. option_map (λ (pair : Pair V). pair.value) (cond b (Some (made value)) (find (is_at key) rest))) e ∙ more)
            ])
      ] in
      there (given k) refl (is_that key k) refl

-- The laws of single lexemes, and of a table's name.
use Rattle.std.proofs.Common.{◌≡◌, ℕ, true, false, [], ◌∷◌, refl}
use Rattle.ct_grammar.specs.declared.kind.Kind.{Kind}
use Rattle.ct_grammar.specs.declared.kind.Kind.TheVariants as k
use Rattle.ct_grammar.specs.Kinds.{same, Set, has, apart, names}
use Rattle.ct_grammar.specs.Names as g
use Rattle.ct_grammar.specs.ReadNames as p
use Rattle.ct_grammar.specs.Rules.{one, kind, name, number, numbers, variable}
use Rattle.ct_grammar.specs.Reading as r
use Rattle.ct_grammar.proofs.Outcomes.{Opening, ReadsRule, HasSpelling}
use Rattle.ct_grammar.proofs.Sequences.{shape_then, shape_token, shape_of, some_token, some_of, some_then, law_token, law_of, law_then}
use Rattle.ct_grammar.proofs.Choices.{shape_maybe, some_maybe, law_option}

-- ---- single lexemes

pub only : (kind : Kind) → Opening (one kind) (one kind) (kind ∷ []) false
only kind = shape_of (shape_token (kind ∷ []))

pub shape_kind : (s : Set) → Opening (kind s) (kind s) s false
shape_kind s = shape_of (shape_token s)

pub shape_name : Opening name name names false
shape_name = shape_of (shape_token names)

pub some_one : {d : ℕ} (kind : Kind) → has (kind ∷ []) kind ≡ true → HasSpelling d (λ n. one kind)
some_one kind h = some_of (some_token (kind ∷ []) (record { kind = kind; word = [] }) h)

pub some_kind : {d : ℕ} (s : Set) (x : Kind) → has s x ≡ true → HasSpelling d (λ n. kind s)
some_kind s x h = some_of (some_token s (record { kind = x; word = [] }) h)

pub some_name : {d : ℕ} → HasSpelling d (λ n. name)
unfolding has same
some_name = some_of (some_token names (record { kind = k.Unlisted; word = [] }) refl)

pub some_number : {d : ℕ} → HasSpelling d (λ n. number)
unfolding has same
some_number = some_of (some_token numbers (record { kind = k.Zero; word = [] }) refl)

pub some_variable : {d : ℕ} → HasSpelling d (λ n. variable)
unfolding has same
some_variable = some_of (some_token (k.Variable ∷ []) (record { kind = k.Variable; word = [] }) refl)

pub law_one : {d : ℕ} (kind : Kind) → ReadsRule (λ n. one kind) d (r.need kind) (kind ∷ []) false []
law_one kind = law_of (law_token (kind ∷ []))

pub law_kind : {d : ℕ} (s : Set) → ReadsRule (λ n. kind s) d (r.kind s) s false []
law_kind s = law_of (law_token s)

pub law_name : {d : ℕ} → ReadsRule (λ n. name) d r.name names false []
law_name = law_of (law_token names)

pub law_number : {d : ℕ} → ReadsRule (λ n. number) d r.number numbers false []
law_number = law_of (law_token numbers)

pub law_variable : {d : ℕ} → ReadsRule (λ n. variable) d r.variable (k.Variable ∷ []) false []
law_variable = law_of (law_token (k.Variable ∷ []))

-- ---- the name of a table

pub second_shape : Opening g.second_part g.second_part (k.Dot ∷ []) false
second_shape = shape_of (shape_then (only k.Dot) shape_name)

pub table_name_shape : Opening g.table_name g.table_name names false
unfolding g.table_name
table_name_shape = shape_of (shape_then shape_name (shape_maybe second_shape))

pub some_table_name : {d : ℕ} → HasSpelling d (λ n. g.table_name)
unfolding g.table_name
some_table_name = some_of (some_then some_name (some_maybe _))

pub law_second : {d : ℕ} → ReadsRule (λ n. g.second_part) d p.second_part (k.Dot ∷ []) false []
unfolding p.second_part apart has same
law_second = law_of (law_then refl some_name (law_one k.Dot) law_name)

pub law_table_name : {d : ℕ} → ReadsRule (λ n. g.table_name) d p.table_name names false (k.Dot ∷ [])
unfolding g.table_name p.table_name apart has same
law_table_name = law_of (law_then refl (some_maybe _) law_name (law_option law_second))

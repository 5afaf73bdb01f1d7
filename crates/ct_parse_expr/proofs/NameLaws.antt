-- The laws of other names, and of lists of them.
use Rattle.std.proofs.Common.{◌≡◌, ℕ, true, false, [], ◌∷◌, refl}
use Rattle.ct_grammar.specs.declared.kind.Kind.TheVariants as k
use Rattle.ct_grammar.specs.Kinds.{same, has, apart, within, names}
use Rattle.ct_grammar.specs.Rules.{one, name}
use Rattle.ct_grammar.specs.Reading as r
use Rattle.ct_grammar.proofs.Outcomes.{Opening, ReadsRule, HasSpelling}
use Rattle.ct_grammar.proofs.Sequences.{shape_then, shape_of, some_of, some_then, law_of, law_then, law_weaken}
use Rattle.ct_grammar.proofs.Choices.{shape_maybe, some_maybe, law_option}
use Rattle.ct_grammar.proofs.Repetitions.{shape_many, some_many, law_repeat}
use Rattle.ct_grammar.proofs.NameLaws.{only, shape_name, second_shape, some_one, some_name, law_one, law_name, law_second}
use Rattle.ct_parse_expr.specs.Grammar as g
use Rattle.ct_parse_expr.specs.ReadExpr as p

pub alias_shape : Opening g.alias g.alias (k.As ∷ names) false
unfolding g.alias
alias_shape = shape_of (shape_then (shape_maybe (only k.As)) shape_name)

pub name_list_shape : Opening g.name_list g.name_list (k.Open ∷ []) false
unfolding g.name_list
name_list_shape = shape_of (shape_then (only k.Open) (shape_then shape_name (shape_then (shape_many (shape_of (shape_then (only k.Comma) shape_name))) (only k.Close))))

pub column_shape : Opening g.column g.column names false
unfolding g.column
column_shape = shape_of (shape_then shape_name (shape_maybe second_shape))

pub some_alias : {d : ℕ} → HasSpelling d (λ n. g.alias)
unfolding g.alias
some_alias = some_of (some_then (some_maybe _) some_name)

pub some_name_list : {d : ℕ} → HasSpelling d (λ n. g.name_list)
unfolding g.name_list has same
some_name_list = some_of (some_then (some_one k.Open refl) (some_then some_name (some_then (some_many _) (some_one k.Close refl))))

pub law_alias : {d : ℕ} → ReadsRule (λ n. g.alias) d p.alias (k.As ∷ names) false []
unfolding g.alias p.alias apart has same
law_alias = law_of (law_then refl some_name (law_option (law_one k.As)) law_name)

pub law_name_list : {d : ℕ} → ReadsRule (λ n. g.name_list) d p.name_list (k.Open ∷ []) false []
unfolding g.name_list p.name_list p.more_names p.next_name apart has same
law_name_list = law_of (law_then refl (some_then some_name (some_then (some_many _) (some_one k.Close refl))) (law_one k.Open)
    (law_then refl (some_then (some_many _) (some_one k.Close refl)) law_name
    (law_then refl (some_one k.Close refl) (law_repeat refl (law_of (law_then refl some_name (law_one k.Comma) law_name))) (law_one k.Close))))

pub law_column : {d : ℕ} → ReadsRule (λ n. g.column) d p.column names false (k.Open ∷ k.Dot ∷ [])
unfolding g.column p.column apart has same within
law_column = law_weaken (k.Open ∷ k.Dot ∷ []) refl (law_of (law_then refl (some_maybe _) law_name (law_option law_second)))

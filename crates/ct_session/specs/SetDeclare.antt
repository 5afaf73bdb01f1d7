-- What SET and DECLARE make of the variables of a session. Names compare with ASCII letters folded, as binding compares them.
-- T-SQL: DECLARE, SET; the refusals are this project's own.
use Rattle.std.specs.Prelude.{ℕ, not, List, [], ◌∷◌, ◌++◌, if◌then◌else◌}
use Rattle.ct_types.specs.Answers.{Answer, demand}
use Rattle.ct_types.specs.declared.catalogue.Variable.{Variable}
use Rattle.ct_types.specs.declared.schema.ColType.{ColType}
use Rattle.ct_types.specs.declared.value.Value.{Value}
use Rattle.ct_types.specs.declared.refusal.Refusal.TheVariants.{NoVariable, VariableExists}
use Rattle.ct_bind_names.specs.Names.{same}
use Rattle.ct_bind_names.specs.Catalogue.{is_declared}

-- SET is refused exactly where the name is not declared
abbrev pub may_set : List Variable → List ℕ → Answer (Unit {0})
may_set variables name = demand (is_declared variables name) (NoVariable name)

-- DECLARE is refused exactly where it is
abbrev pub may_declare : List Variable → List ℕ → Answer (Unit {0})
may_declare variables name = demand (not (is_declared variables name)) (VariableExists name)

-- the first variable of the name has this value; all else stays
abbrev pub with_value : List Variable → List ℕ → Value → List Variable
with_value [] name value = []
with_value (variable ∷ more) name value =
    if same variable.name name then record variable { value = value } ∷ more else variable ∷ with_value more name value

-- one more variable, behind those that are there
abbrev pub with_variable : List Variable → List ℕ → ColType → Value → List Variable
with_variable variables name kind value = variables ++ record { name = name; kind = kind; value = value } ∷ []

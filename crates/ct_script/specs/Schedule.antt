-- The script of phases of statements: each phase has a lane for each session that it names.
use Rattle.std.specs.Prelude.{ℕ, Bool, ◌+◌, ◌==◌, nat_eq, false, List, [], ◌∷◌, ◌++◌, map, filter, fold, count_by}
use Rattle.indexmap.specs.IndexSet.{insert_key}
use Rattle.ct_script.specs.Statements.{Statement}
use Rattle.ct_script.specs.declared.script.Script.{Script}
use Rattle.ct_script.specs.declared.script.Phase.{Phase}
use Rattle.ct_script.specs.declared.script.Lane.{Lane}

abbrev pub is_of : ℕ → Statement → Bool
is_of session statement = session == statement.session

-- the sessions of a phase, each once, in the order in which the phase names them
abbrev pub named : List Statement → List ℕ
named phase = fold (λ sessions statement. insert_key nat_eq sessions statement.session) [] phase

-- the texts of a session's statements, in order
abbrev pub texts_of : ℕ → List Statement → List (List ℕ)
texts_of session phase = map (λ statement. statement.text) (filter (is_of session) phase)

-- a session's lane of a phase; its statements are counted from 1 over the whole script, so those of earlier phases too
abbrev pub lane_of : List Statement → List Statement → ℕ → Lane
lane_of earlier phase session = record {
  session = session;
  first = count_by (is_of session) earlier + 1;
  statements = texts_of session phase;
}

abbrev pub lanes_of : List Statement → List Statement → List Lane
lanes_of earlier phase = map (lane_of earlier phase) (named phase)

-- the phases of a script, after the statements of earlier ones
unfoldable pub scheduled : List Statement → List (List Statement) → List Phase
scheduled earlier [] = []
scheduled earlier (phase ∷ more) =
    record { restart = false; sessions = lanes_of earlier phase } ∷ scheduled (earlier ++ phase) more

abbrev pub script_of : List (List Statement) → Script
script_of phases = record { phases = scheduled [] phases }

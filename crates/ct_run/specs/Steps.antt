-- How a play goes on through some statements, and what comes of a script, as the code does it. No promise speaks of them.
use Rattle.std.specs.Prelude.{◌≡◌, List, ◌⊎◌}
use Rattle.std.specs.Io.KnownBytes.{Keeps}
use Rattle.ct_types.specs.declared.command.Journaled.{Journaled}
use Rattle.ct_state.specs.Machine.{Machine}
use Rattle.ct_machine.specs.Play.{IsPlay, end_of}
use Rattle.ct_core.specs.Stands.{CoreState, Stands}
use Rattle.ct_print.specs.Growing.{Growing, with_journal, grown}
use Rattle.ct_script.specs.declared.script.Script.{Script}
use Rattle.ct_run.specs.Meant.{AreMeant}
use Rattle.ct_run.specs.Schedule.{Numbered, IsInOrder}
use Rattle.ct_run.specs.Top.{IsRunOf, IsSoundThroughout, SinkChange, PlaysScript}
use Rattle.ct_run.specs.declared.status.Status.{Status}
use Rattle.ct_run.specs.declared.status.Status.TheVariants.{Memory}

-- the transcript got a block for each of these statements, in their order, each reply follows, and the core stands for the machine
-- after them; the statements are what texts of code points mean
pub record Goes {D : Type 0} (statements : List Numbered) (old new : Growing) (before after : CoreState D) : Type 0 where
  pub own : List Journaled
  pub added : new ≡ with_journal old own
  pub in_order : IsInOrder statements own
  pub plays : (m : Machine) → Stands before m → IsPlay m own × Stands after (end_of m own)
  pub meant : AreMeant own

-- a run of the script, which is sound throughout, has this transcript
abbrev pub HasRun : Script → Growing → Type 0
HasRun script made = (journals : List (List Journaled)) × IsRunOf script journals × IsSoundThroughout journals × (made ≡ grown journals)

-- what comes of a script: a run that was written, or, where memory was wanting, maybe nothing at all
abbrev pub Performs : Status → SinkChange → Script → Type 0
Performs Memory sink script = Keeps sink.before sink.now ⊎ PlaysScript Memory sink script
Performs other sink script = PlaysScript other sink script

-- How large a script is: how many statements it has, how long their texts are, and how far their numbers go.
use Rattle.std.specs.Prelude.{ℕ, ◌+◌, ◌≤◌, length, sum_by}
use Rattle.std.specs.List.{All}
use Rattle.ct_script.specs.Faults.{most_text}
use Rattle.ct_script.specs.declared.script.Script.{Script}
use Rattle.ct_script.specs.declared.script.Phase.{Phase}
use Rattle.ct_script.specs.declared.script.Lane.{Lane}

-- how many statements a lane, a phase and a script have
abbrev pub lane_size : Lane → ℕ
lane_size lane = length lane.statements

abbrev pub phase_size : Phase → ℕ
phase_size phase = sum_by lane_size phase.sessions

abbrev pub script_size : Script → ℕ
script_size script = sum_by phase_size script.phases

-- no text of a lane is too long, and none of its statements has a number above the limit
pub record IsLaneWithin (most : ℕ) (lane : Lane) : Type 0 where
  pub texts : All (λ text. length text ≤ most_text) lane.statements
  pub numbers : lane.first + length lane.statements ≤ most + 1

abbrev pub IsPhaseWithin : ℕ → Phase → Type 0
IsPhaseWithin most phase = All (IsLaneWithin most) phase.sessions

-- a script has at most as many statements as the limit says, and they are numbered up to it
pub record IsWithin (most : ℕ) (script : Script) : Type 0 where
  pub size : script_size script ≤ most
  pub phases : All (IsPhaseWithin most) script.phases

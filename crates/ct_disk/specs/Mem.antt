-- A disk in memory, as contracts see it.
use Rattle.std.specs.Prelude.{◌≡◌, ◌⊎◌, ℕ, ◌+◌, ◌-◌, ◌<◌, ◌≤◌, ◌^◌, List, [], ◌∷◌, ◌++◌, length, take, drop, Vec, vec_capacity, Contains, Bool, true, false, if◌then◌else◌}
use Rattle.std.specs.declared.alloc.Global.{Global}
use Rattle.ct_faults.specs.Causes.{next_count}
use Rattle.ct_faults.specs.Disk.{Image}
use Rattle.ct_disk.specs.Steps.{Step, content_after, images_after}
use Rattle.ct_disk.specs.Steps.Step.{Wrote, WasCut, EndedSync}
use Rattle.ct_disk.specs.Areas.{area_at, contents_of, image_of, HaveRoom}
use Rattle.ct_disk.specs.declared.call.Call.{Call}
use Rattle.ct_disk.specs.declared.call.Call.TheVariants.{Write, Cut, Sync}

pub record DiskState : Type 0 where
  -- the bytes of each area before the first call
  pub first : List (List ℕ)
  -- the writes, cuts and syncs since
  pub steps : List Step
  -- for how many calls and bytes there is room
  pub room_calls : ℕ
  pub room_bytes : ℕ
  -- how many calls there were, of all kinds but `ready`
  pub made : ℕ
  -- the numbers of the calls that fail; the first call is 1
  pub failing : List ℕ
  -- all calls past this number fail
  pub fuse : ℕ
  -- how many calls failed
  pub faults : ℕ

-- what reads give, the moment, and what a crash at a moment may leave
abbrev pub content_of : DiskState → Image
content_of s = content_after (image_of s.first) s.steps

abbrev pub clock_of : DiskState → ℕ
clock_of s = length s.steps

abbrev pub images_of : DiskState → ℕ → Image → Type 0
images_of s = images_after (image_of s.first) s.steps

-- a disk on which no call was made, of which none is to fail, and which has no room
abbrev pub unused : List (List ℕ) → DiskState
unused first = record { first = first; steps = []; room_calls = 0; room_bytes = 0; made = 0; failing = []; fuse = 2 ^ 64 - 1; faults = 0 }

-- the next call is listed, or past the fuse
abbrev pub IsNextFailing : DiskState → Type 0
IsNextFailing s = Contains s.failing (next_count s.made) ⊎ (s.fuse < next_count s.made)

-- a call more, and whether it failed
abbrev pub counted : DiskState → Bool → DiskState
counted s failed = record {
  first = s.first;
  steps = s.steps;
  room_calls = s.room_calls;
  room_bytes = s.room_bytes;
  made = next_count s.made;
  failing = s.failing;
  fuse = s.fuse;
  faults = if failed then next_count s.faults else s.faults;
}

-- a write, cut or sync more, which takes a call and so many bytes of the room
abbrev pub stepped : DiskState → Step → ℕ → DiskState
stepped s step bytes = record {
  first = s.first;
  steps = s.steps ++ step ∷ [];
  room_calls = s.room_calls - 1;
  room_bytes = s.room_bytes - bytes;
  made = s.made;
  failing = s.failing;
  fuse = s.fuse;
  faults = s.faults;
}

-- the same with other first contents, with a call listed, with a fuse, and with room
abbrev pub with_first : DiskState → List (List ℕ) → DiskState
with_first s first = record { first = first; steps = s.steps; room_calls = s.room_calls; room_bytes = s.room_bytes; made = s.made; failing = s.failing; fuse = s.fuse; faults = s.faults }

abbrev pub with_failing : DiskState → ℕ → DiskState
with_failing s call = record { first = s.first; steps = s.steps; room_calls = s.room_calls; room_bytes = s.room_bytes; made = s.made; failing = s.failing ++ call ∷ []; fuse = s.fuse; faults = s.faults }

abbrev pub with_fuse : DiskState → ℕ → DiskState
with_fuse s after = record { first = s.first; steps = s.steps; room_calls = s.room_calls; room_bytes = s.room_bytes; made = s.made; failing = s.failing; fuse = after; faults = s.faults }

abbrev pub with_room : DiskState → ℕ → ℕ → DiskState
with_room s calls bytes = record { first = s.first; steps = s.steps; room_calls = calls; room_bytes = bytes; made = s.made; failing = s.failing; fuse = s.fuse; faults = s.faults }

-- a call as it is kept, with the bytes that it wrote, which stand in a list of all such bytes
abbrev pub step_of : List ℕ → Call → Step
step_of written (Write area at from len) = Wrote area at (take len (drop from written))
step_of written (Cut area len) = WasCut area len
step_of written (Sync ok) = EndedSync ok

abbrev pub steps_of : List ℕ → List Call → List Step
steps_of written [] = []
steps_of written (call ∷ calls) = step_of written call ∷ steps_of written calls

-- the call is of one of the areas, and its bytes are among the first n
abbrev pub CallWithin : ℕ → Call → Type 0
CallWithin n (Write area at from len) = (area < 6) × (from + len ≤ n)
CallWithin n (Cut area len) = area < 6
CallWithin n (Sync ok) = Unit {0}

abbrev pub CallsWithin : ℕ → List Call → Type 0
CallsWithin n [] = Unit {0}
CallsWithin n (call ∷ calls) = CallWithin n call × CallsWithin n calls

-- the areas are what the calls made of the first contents, and there is memory for the room
pub record Kept (first areas : List (Vec ℕ Global)) (calls : Vec Call Global) (written : Vec ℕ Global) (room_calls room_bytes : ℕ) : Type 0 where
  pub first_count : length first ≡ 6
  pub count : length areas ≡ 6
  pub is : (area : ℕ) → area_at areas area ≡ content_after (image_of (contents_of first)) (steps_of written.items calls.items) area
  pub within : CallsWithin (length written.items) calls.items
  pub calls_fit : length calls.items + room_calls ≤ vec_capacity calls
  pub bytes_fit : length written.items + room_bytes ≤ vec_capacity written
  pub room : HaveRoom room_bytes areas

-- the call is a sync that was one
abbrev pub is_synced : Call → Bool
is_synced (Write area at from len) = false
is_synced (Cut area len) = false
is_synced (Sync ok) = ok

-- none of the calls is
abbrev pub NoneSynced : List Call → Type 0
NoneSynced [] = Unit {0}
NoneSynced (call ∷ calls) = (is_synced call ≡ false) × NoneSynced calls

-- the last of the calls is, or there is none
abbrev pub EndsSynced : List Call → Type 0
EndsSynced calls = (calls ≡ []) ⊎ ((earlier : List Call) × (last : Call) × (calls ≡ earlier ++ last ∷ []) × (is_synced last ≡ true))

-- What follows of transcripts.
use Rattle.std.specs.Prelude.{◌≡◌, ◌+◌, List, [], ◌∷◌, ◌++◌, length}
use Rattle.ct_types.specs.declared.command.Journaled.{Journaled}
use Rattle.ct_machine.specs.Transcript.{block_text, transcript}
use Rattle.ct_print.specs.Growing.{nothing, with_phase, with_journal, grown}

-- the transcript of a journal and one entry more is that of the journal, then the block of this entry at the next place
abbrev pub TranscriptsGoOn : Type 0
TranscriptsGoOn = (journal : List Journaled) (one : Journaled) → transcript (journal ++ one ∷ []) ≡ transcript journal ++ block_text (length journal + 1) one

-- nothing is the transcript of no phase, and with one phase more, block by block, it is that of the journals and one more
abbrev pub TranscriptsGrow : Type 0
TranscriptsGrow =
    (nothing ≡ grown [])
    × ((journals : List (List Journaled)) (journal : List Journaled) → with_journal (with_phase (grown journals)) journal ≡ grown (journals ++ journal ∷ []))

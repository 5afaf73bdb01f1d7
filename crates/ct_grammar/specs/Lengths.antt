-- Words by the number of their bytes.
use Rattle.std.specs.Prelude.{Bool, ℕ, length, nat_eq}
use Rattle.ct_grammar.specs.declared.kind.Kind.{Kind}
use Rattle.ct_grammar.specs.Kinds.{spelling}

-- the word or the sign is spelled in so many bytes
abbrev pub is_spelled_in : ℕ → Kind → Bool
is_spelled_in n kind = nat_eq (length (spelling kind)) n

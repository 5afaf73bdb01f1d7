-- What a part mentions is among what the whole does.
use Rattle.std.proofs.Common.{List, [], ◌∷◌, ◌++◌, refl, arith}
use Rattle.std.specs.List.{Contains}
use Rattle.std.proofs.lemmas.List.Elements.{Contains-append_left, Contains-append_right}
use Rattle.ct_bind_refusal_laws.specs.Mentions.{Mention}

pub record Among (some all : List Mention) : Type 0 where
  pub holds : (mention : Mention) → Contains some mention → Contains all mention

pub itself : (all : List Mention) → Among all all
itself all = record { holds = λ mention is. is }

pub left : {all : List Mention} (some other : List Mention) → Among (some ++ other) all → Among some all
left some other among = record { holds = λ mention is. among.holds mention (Contains-append_left some other mention is) }

pub right : {all : List Mention} (some other : List Mention) → Among (some ++ other) all → Among other all
right some other among = record { holds = λ mention is. among.holds mention (Contains-append_right some other mention is) }

pub first : {all : List Mention} (mention : Mention) (more : List Mention) → Among (mention ∷ more) all → Contains all mention
first mention more among = among.holds mention (0, omega arith, refl)

pub rest : {all : List Mention} (mention : Mention) (more : List Mention) → Among (mention ∷ more) all → Among more all
rest mention more among = right (mention ∷ []) more among

use Rattle.std.proofs.Common.{◌≡◌, ◌+◌, ◌-◌, [], length, take, drop, ◌∙◌, sym, arith}
use Rattle.std.proofs.lemmas.Grind.{common_steps}
use Rattle.ct_script.proofs.FirstLines.{lines-Some, lines-None}
use Rattle.ct_script.proofs.lines.first_line.Goals as goal

pub returns-in-None-clause-first : goal.returns-in-None-clause-first
returns-in-None-clause-first c =
    let bytes = c.args.bytes.now in
    let nothing : take (length bytes - length bytes) (drop (length bytes) bytes) ≡ [] = grind (arith, common_steps) in
    lines-None bytes _ c.requires (sym c.line_end.ensures ∙ c.in-None.is) nothing

pub returns-in-Some-clause-first : goal.returns-in-Some-clause-first
returns-in-Some-clause-first c =
    let bytes = c.args.bytes.now in
    let end = c.in-Some.end in
    let after : take (length bytes - (end + 1)) (drop (end + 1) bytes) ≡ drop (end + 1) bytes = grind (arith, common_steps) in
    lines-Some bytes _ _ end (sym c.line_end.ensures ∙ c.in-Some.is) c.without_return.ensures after

use Rattle.std.proofs.Common.{◌≡◌, ◌<◌, ◌≤◌, ◌+◌, ◌++◌, ◌∷◌, [], length, None, ap, ◌∙◌, arith}
use Rattle.std.specs.List.{last_or}
use Rattle.ct_script.proofs.Lasts.{last_or-push}
use Rattle.ct_script.proofs.Steps.{with_more-long, with_more-last, Steps-pushed}
use Rattle.ct_script.proofs.reading.push_more.Goals as goal

pub returns-then-text_len-line-gt-MOST_TEXT : goal.returns-then-text_len-line-gt-MOST_TEXT
returns-then-text_len-line-gt-MOST_TEXT c =
    let whole : c.args.running.now.items ≡ c.pop.new.self.items ++ c.in-Some.last ∷ [] = c.in-Some.ensures.items in
    let long : 65536 < length c.in-Some.last.text + 1 + length c.args.line.now = omega arith in
    λ ended. with_more-long _ _ _ c.in-Some.last (ap (last_or None) whole ∙ last_or-push None c.pop.new.self.items c.in-Some.last) long

pub returns : goal.returns
returns c =
    let whole : c.args.running.now.items ≡ c.pop.new.self.items ++ c.in-Some.last ∷ [] = c.in-Some.ensures.items in
    let fits : length c.in-Some.last.text + 1 + length c.args.line.now ≤ 65536 = omega arith in
    λ ended. Steps-pushed c.push_back.result ended c.pop.new.self.items _ c.push_line.new.self _ c.push_back.ensures
    (with_more-last _ ended _ c.pop.new.self.items c.in-Some.last c.push_line.new.self whole fits c.in_ok-push_line.ensures)

use Rattle.std.proofs.Common.{◌≡◌, ◌∙◌, ℕ, ◌+◌, ◌-◌, ◌*◌, min, ap, drop, get_or, arith, List, []}
use Rattle.std.proofs.lemmas.List.{drop_more, drop_all}
use Rattle.ct_bind_names.specs.Numbers.{number_of, number_from}
use Rattle.ct_bind_names.proofs.Digits.{number_from-capped}
use Rattle.ct_bind_names.proofs.numbers.capped.Goals as goal

pub loop-digit-preserved : goal.loop-digit-preserved
loop-digit-preserved c =
    let s = c.args.digits.now in
    let i = c.loop-digit.digit-index in
    let n = c.loop-digit.number in
    let rest = drop (i + 1) s in
    let split = ap (λ (t : List ℕ). min (number_from n t) 18446744073709551615) (drop_more s i 0 c.loop-digit-test.true) in
    let next : min (n * 10 + (get_or s i 0 - 48)) 18446744073709551615 ≡ min c.saturating_add-number.result 18446744073709551615 = omega arith in
    (omega arith, c.loop-digit.invariant.1 ∙ split ∙ number_from-capped 18446744073709551615 rest (n * 10 + (get_or s i 0 - 48)) c.saturating_add-number.result next)

pub returns : goal.returns
unfolding number_of
returns c =
    let done : drop c.loop-digit.digit-index c.args.digits.now ≡ [] = drop_all c.loop-digit.digit-index c.args.digits.now c.loop-digit-test.false in
    let ended = ap (λ (t : List ℕ). min (number_from c.loop-digit.number t) 18446744073709551615) done in
    let whole = c.loop-digit.invariant.1 ∙ ended in
    omega (arith, whole)

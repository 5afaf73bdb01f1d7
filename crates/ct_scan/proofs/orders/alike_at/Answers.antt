use Rattle.std.proofs.Common.{◌≡◌, ℕ, length, None, ap, subst, arith}
use Rattle.std.proofs.lemmas.Result.{IfOk-weaker}
use Rattle.ct_scan.specs.Steps.{PinsRise}
use Rattle.ct_scan.proofs.Alike.{pins_stand_alike}
use Rattle.ct_scan.proofs.orders.alike_at.Goals as goal

pub returns : goal.returns
returns c =
    let env = c.args.env.now in let on = c.args.on.now in let table = c.args.lefts.now in let rights = c.args.rights.now in
    let width : c.in_ok-columns.columns ≡ length table.schema.columns = omega (arith, ap length c.as_slice.ensures, ap (λ s. length s.columns) c.schema.ensures) in
    let P : ℕ → Type 0 = λ columns. PinsRise env on c.args.at columns None rights in
    IfOk-weaker c.pins_rise.result _ _ (λ alike rise yes. pins_stand_alike env table.schema c.args.at on table.rows rights c.rows_rise.ensures.columns c.requires c.rows_rise.ensures.rising c.rows_rise.ensures.whole (subst P width (rise yes))) c.pins_rise.ensures

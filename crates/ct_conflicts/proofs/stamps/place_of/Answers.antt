use Rattle.std.proofs.Common.{rules, ◌≡◌, ◌-◌, None, length, position, refl, sym, ap, ◌∙◌}
use Rattle.std.proofs.lemmas.Bool.{eq-eqb}
use Rattle.ct_ptree.specs.Pairs.{value_at}
use Rattle.ct_conflicts.specs.Later.{is_of}
use Rattle.ct_conflicts.specs.declared.stamps.TableStamps.{TableStamps}
use Rattle.ct_conflicts.proofs.Placed.{none_placed, pushed_place}
use Rattle.ct_conflicts.proofs.stamps.place_of.Goals as goal

pub returns-clause-first : goal.returns-clause-first
returns-clause-first c =
    let added : TableStamps = record { table = c.args.table; altered = None; written = c.new.result } in
    let none : position (is_of c.args.table) c.args.later.now.items ≡ None = ap (position (is_of c.args.table)) (sym c.as_slice.ensures.value) ∙ sym c.in_default.ensures in
    let size : c.len.result ≡ length c.push.new.self.items = search rules in
    ap (λ n. n - 1) size ∙ pushed_place (is_of c.args.table) c.args.later.now.items c.push.new.self.items added none (eq-eqb c.args.table c.args.table refl) c.in_ok-push.ensures.items

pub returns-clause-written : goal.returns-clause-written
returns-clause-written c = λ other key.
    none_placed c.args.later.now.items c.push.new.self.items (record { table = c.args.table; altered = None; written = c.new.result }) c.in_ok-push.ensures.items
    (λ (stamps : TableStamps). value_at stamps.written key) (ap (λ pairs. value_at pairs key) c.new.ensures) other

pub returns-clause-altered : goal.returns-clause-altered
returns-clause-altered c = λ other.
    none_placed c.args.later.now.items c.push.new.self.items (record { table = c.args.table; altered = None; written = c.new.result }) c.in_ok-push.ensures.items
    (λ (stamps : TableStamps). stamps.altered) refl other

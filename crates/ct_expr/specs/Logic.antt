-- Three-valued logic, as the tables of T-SQL's AND, OR and NOT give it. None is unknown.
use Rattle.std.specs.Prelude.{Bool, true, false, Option, Some, None}

abbrev pub Truth : Type 0
Truth = Option Bool

-- unknown is not true
abbrev pub is_true : Truth → Bool
is_true (Some true) = true
is_true (Some false) = false
is_true None = false

abbrev pub not3 : Truth → Truth
not3 (Some true) = Some false
not3 (Some false) = Some true
not3 None = None

abbrev pub and3 : Truth → Truth → Truth
and3 (Some true) (Some true) = Some true
and3 (Some true) (Some false) = Some false
and3 (Some true) None = None
and3 (Some false) (Some true) = Some false
and3 (Some false) (Some false) = Some false
and3 (Some false) None = Some false
and3 None (Some true) = None
and3 None (Some false) = Some false
and3 None None = None

abbrev pub or3 : Truth → Truth → Truth
or3 (Some true) (Some true) = Some true
or3 (Some true) (Some false) = Some true
or3 (Some true) None = Some true
or3 (Some false) (Some true) = Some true
or3 (Some false) (Some false) = Some false
or3 (Some false) None = None
or3 None (Some true) = Some true
or3 None (Some false) = None
or3 None None = None

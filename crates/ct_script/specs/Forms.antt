-- What a line of a script is, by its bytes alone. The rules, by which a line is at fault, are this project's own:
-- 1 it is not UTF-8; 2 it has none of the forms; 3 its session is not from 1 to 32; 4 its text begins a command, of which none is
-- known; 5 it continues no statement; 6 it begins with `#` and is no directive; 9 its statement's text passes 65,536 bytes.
use Rattle.std.specs.Prelude.{ℕ, ◌+◌, ◌-◌, ◌*◌, ◌==◌, ◌&&◌, ◌||◌, nat_lt, nat_eq, not, Bool, List, length, take, drop, take_while, reverse, slice_index, fold, codes, if◌then◌else◌}
use Rattle.std.specs.List.{list_all, starts_with, before_first, after_first, position_or_len}
use Rattle.std.specs.Cmp.Lexicographic.{pointwise}
use Rattle.std.specs.Char.{is_ascii_digit}
use Rattle.std.specs.Str.{is_utf8}
use Rattle.ct_script.specs.declared.kind.Kind.{Kind}
use Rattle.ct_script.specs.declared.kind.Kind.TheVariants.{Ignored, Mark, Head, More, Fault}

-- a blank is a space or a tab
abbrev pub is_blank : ℕ → Bool
is_blank byte = byte == 32 || byte == 9

abbrev pub is_colon : ℕ → Bool
is_colon byte = byte == 58

-- bytes without the blanks at their front
abbrev pub without_front : List ℕ → List ℕ
without_front bytes = drop (length (take_while is_blank bytes)) bytes

-- bytes without the blanks at their end
abbrev pub without_end : List ℕ → List ℕ
without_end bytes = take (length bytes - length (take_while is_blank (reverse bytes))) bytes

-- bytes without the blanks at both ends
unfoldable pub trimmed : List ℕ → List ℕ
trimmed bytes = without_end (without_front bytes)

-- digits without a leading zero, where 0 alone is allowed
unfoldable pub is_number : List ℕ → Bool
is_number digits =
    nat_lt 0 (length digits) && list_all is_ascii_digit digits && (length digits == 1 || not (slice_index digits 0 == 48))

-- the number that decimal digits write
abbrev pub number_of : List ℕ → ℕ
number_of digits = fold (λ number digit. 10 * number + (digit - 48)) 0 digits

-- what stands before the first colon of a line, which is all where there is none
abbrev pub before_colon : List ℕ → List ℕ
before_colon line = before_first is_colon line

-- the text on a statement's first line: what stands after the first colon, without the blanks at both ends
unfoldable pub head_text : List ℕ → List ℕ
head_text line = trimmed (after_first is_colon line)

-- a first line of a statement, by its session and its text: a text that begins with `@` is a command
unfoldable pub headed : ℕ → List ℕ → Kind
headed session text =
    if session == 0 || nat_lt 32 session then Fault 3 else (if slice_index text 0 == 64 then Fault 4 else Head session)

-- a line that begins with neither a blank nor `#` nor `--`: a number and a colon begin a statement
unfoldable pub numbered : List ℕ → Kind
numbered line =
    if nat_lt (position_or_len is_colon line) (length line) && is_number (before_colon line)
    then headed (number_of (before_colon line)) (head_text line)
    else Fault 2

-- a line that begins with `#`
unfoldable pub directive : List ℕ → Kind
directive line = if pointwise nat_eq line (codes "#phase") then Mark else Fault 6

-- a line that is UTF-8
unfoldable pub form_of : List ℕ → Kind
form_of line =
    if list_all is_blank line then Ignored
    else (if starts_with nat_eq line (codes "--") then Ignored
    else (if slice_index line 0 == 35 then directive line
    else (if is_blank (slice_index line 0) then More else numbered line)))

-- a line
unfoldable pub kind_of : List ℕ → Kind
kind_of line = if is_utf8 line then form_of line else Fault 1

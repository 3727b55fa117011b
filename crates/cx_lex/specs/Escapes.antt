-- Escape sequences (ISO C99, 6.4.4.4).
use Rattle.std.specs.Prelude.{ℕ, ◌+◌, ◌&&◌, ◌||◌, ◌==◌, nat_lt, min, if◌then◌else◌, List, take, drop, slice_index, Option, Some, None}
use Rattle.std.specs.List.{prefix_len}
use Rattle.std.specs.Char.{is_ascii_hexdigit}
use Rattle.cx_lex.specs.Bytes.{double_quote, apostrophe, backslash, is_octal, number_of}

-- What a simple escape sequence stands for, by the byte behind the backslash (6.4.4.4p3, p4; 5.2.2): the quotes, `?` and
-- the backslash for themselves, a b f n r t v for alert, backspace, form feed, newline, carriage return and the tabs.
abbrev pub simple_escape : ℕ → Option ℕ
simple_escape b =
    if b == apostrophe || b == double_quote || b == 63 || b == backslash then Some b
    else (if b == 97 then Some 7
    else (if b == 98 then Some 8
    else (if b == 102 then Some 12
    else (if b == 110 then Some 10
    else (if b == 114 then Some 13
    else (if b == 116 then Some 9
    else (if b == 118 then Some 11
    else None)))))))

-- a size in bytes, and a value
pub record Valued : Type 0 where
  pub size : ℕ
  pub value : ℕ

-- one to three octal digits, as many as there are (6.4.4.4p5, p7)
abbrev pub octal_size : List ℕ → ℕ
octal_size bytes = min 3 (prefix_len is_octal bytes)

-- hexadecimal digits, as many as there are (6.4.4.4p6, p7)
abbrev pub hex_size : List ℕ → ℕ
hex_size bytes = prefix_len is_ascii_hexdigit bytes

abbrev pub simple_valued : Option ℕ → Option Valued → Option Valued
simple_valued (Some value) other = Some (record { size = 1; value = value })
simple_valued None other = other

-- the escape sequence that the bytes behind a backslash begin with, where they begin one
abbrev pub escape_at : List ℕ → Option Valued
escape_at bytes =
    simple_valued (simple_escape (slice_index bytes 0))
    (if nat_lt 0 (octal_size bytes) then Some (record { size = octal_size bytes; value = number_of 8 (take (octal_size bytes) bytes) })
    else (if slice_index bytes 0 == 120 && nat_lt 0 (hex_size (drop 1 bytes))
    then Some (record { size = 1 + hex_size (drop 1 bytes); value = number_of 16 (take (hex_size (drop 1 bytes)) (drop 1 bytes)) })
    else None))

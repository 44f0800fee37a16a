-- What a name is.
use Rattle.std.specs.Prelude.{ℕ, Bool, ◌&&◌, List, length, Some, None, Option, nat_le, if◌then◌else◌}
use Rattle.std.specs.List.{list_all}

-- a byte that a name may have: hexadecimal 21 to 7E
abbrev pub printable : ℕ → Bool
printable byte = nat_le 0x21 byte && nat_le byte 0x7E

-- whether bytes are a name: 1 to 255 of them, each of which a name may have
abbrev pub is_name : List ℕ → Bool
is_name bytes = (nat_le 1 (length bytes) && nat_le (length bytes) 255) && list_all printable bytes

-- the name that bytes are, if they are one
abbrev pub name_made : List ℕ → Option (List ℕ)
name_made bytes = if is_name bytes then Some bytes else None

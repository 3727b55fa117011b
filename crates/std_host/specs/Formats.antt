-- What `printf` writes of a format and the arguments behind it (ISO C99, 7.19.6.1p2 and p3).
use Rattle.std.specs.Prelude.{ℕ, ◌==◌, if◌then◌else◌, List, [], ◌∷◌, ◌++◌, Option, None, Some, option_map}
use Rattle.ext_calls.specs.declared.call.Arg.{Arg}
use Rattle.std_host.specs.Conversions.{plain_conversion, long_conversion, shown}
use Rattle.std_host.specs.declared.begun.Begun.{Begun}
use Rattle.std_host.specs.declared.begun.Begun.TheVariants.{Nothing, Percent, Long}
use Rattle.std_host.specs.declared.conversion.Conversion.{Conversion}

-- a piece of a format
pub data Piece : Type 0 where
  -- a byte that is written as it stands
  stands : ℕ → Piece
  -- a conversion, which takes the next argument
  takes_next : Conversion → Piece

-- the rest of a format, with one piece in front of it
abbrev pub with_piece : Piece → Option (List Piece) → Option (List Piece)
with_piece piece others = option_map (λ pieces. piece ∷ pieces) others

abbrev pub with_conversion : Option Conversion → Option (List Piece) → Option (List Piece)
with_conversion None others = None
with_conversion (Some conversion) others = with_piece (takes_next conversion) others

-- the pieces of what is left of a format, where `%`, `%l` or nothing of a conversion has been read in front of it; none where a
-- conversion isn't one of those that the host knows, or isn't ended. 37 is `%`, which `%%` writes, and 108 is `l`.
abbrev pub pieces_behind : Begun → List ℕ → Option (List Piece)
pieces_behind Nothing [] = Some []
pieces_behind Nothing (byte ∷ form) =
    if byte == 37 then pieces_behind Percent form else with_piece (stands byte) (pieces_behind Nothing form)
pieces_behind Percent [] = None
pieces_behind Percent (letter ∷ form) =
    if letter == 37 then with_piece (stands 37) (pieces_behind Nothing form) else
    (if letter == 108 then pieces_behind Long form else
    with_conversion (plain_conversion letter) (pieces_behind Nothing form))
pieces_behind Long [] = None
pieces_behind Long (letter ∷ form) = with_conversion (long_conversion letter) (pieces_behind Nothing form)

-- a text with another in front of it, where both are there
abbrev pub joined : Option (List ℕ) → Option (List ℕ) → Option (List ℕ)
joined None others = None
joined (Some text) others = option_map (λ more. text ++ more) others

-- what pieces write with these arguments: each conversion takes one of them, from the left; none where an argument is missing, is of
-- another kind than its conversion takes, or is left over
abbrev pub printed : List Piece → List Arg → Option (List ℕ)
printed [] [] = Some []
printed [] (arg ∷ args) = None
printed (stands byte ∷ pieces) args = joined (Some (byte ∷ [])) (printed pieces args)
printed (takes_next conversion ∷ pieces) [] = None
printed (takes_next conversion ∷ pieces) (arg ∷ args) = joined (shown conversion arg) (printed pieces args)

abbrev pub printed_if : Option (List Piece) → List Arg → Option (List ℕ)
printed_if None args = None
printed_if (Some pieces) args = printed pieces args

-- what a format writes with these arguments, or none where they don't fit it
abbrev pub formatted : List ℕ → List Arg → Option (List ℕ)
formatted form args = printed_if (pieces_behind Nothing form) args

-- What comes of a format of which a front was read: named by contracts inside this crate.
use Rattle.std.specs.Prelude.{◌≡◌, ℕ, Bool, true, false, List, ◌∷◌, ◌++◌, Option, None, Some, option_map}
use Rattle.ext_calls.specs.declared.call.Arg.{Arg}
use Rattle.std_host.specs.Formats.{Piece, with_conversion, pieces_behind, printed_if}
use Rattle.std_host.specs.declared.begun.Begun.{Begun}
use Rattle.std_host.specs.declared.begun.Begun.TheVariants.{Nothing}
use Rattle.std_host.specs.declared.conversion.Conversion.{Conversion}

-- a text grew by what a conversion prints, where the argument is of its kind, and otherwise stayed as it was
abbrev pub Shows : Option (List ℕ) → Bool → List ℕ → List ℕ → Type 0
Shows None fits before after = (fits ≡ false) × (after ≡ before)
Shows (Some more) fits before after = (fits ≡ true) × (after ≡ before ++ more)

-- what was read of a format and made of it: the text, how much of a conversion stands in front of what is left, and the arguments
-- that are left
pub record PrintingView : Type 0 where
  pub text : List ℕ
  pub begun : Begun
  pub args : List Arg

-- the text, with what these pieces write behind it
abbrev pub made_with : PrintingView → Option (List Piece) → Option (List ℕ)
made_with printing pieces = option_map (λ more. printing.text ++ more) (printed_if pieces printing.args)

-- the text, with what the rest of the format writes behind it
abbrev pub continued : PrintingView → List ℕ → Option (List ℕ)
continued printing form = made_with printing (pieces_behind printing.begun form)

-- a byte of the format was read: whatever is behind it, what comes of the whole is as before; or nothing does
abbrev pub Reads : Bool → ℕ → PrintingView → PrintingView → Type 0
Reads true byte before after = (form : List ℕ) → continued before (byte ∷ form) ≡ continued after form
Reads false byte before after = (form : List ℕ) → continued before (byte ∷ form) ≡ None

-- a conversion was ended: whatever pieces are behind it, what comes of the whole is as before; or nothing does
abbrev pub Converts : Bool → Option Conversion → PrintingView → PrintingView → Type 0
Converts true conversion before after =
    (after.begun ≡ Nothing) × ((others : Option (List Piece)) → made_with before (with_conversion conversion others) ≡ made_with after others)
Converts false conversion before after =
    (others : Option (List Piece)) → made_with before (with_conversion conversion others) ≡ None

-- How what comes of a format goes on from one byte to the next.
use Rattle.std.proofs.Common.{◌≡◌, ℕ, ◌+◌, ◌<◌, ◌==◌, Bool, true, false, List, [], ◌∷◌, ◌++◌, Option, None, Some, option_map, refl, sym, ap, ◌∙◌, append_assoc, suc, length, get_or, drop, drop-cons, add-one}
use Rattle.ext_calls.specs.declared.call.Arg.{Arg}
use Rattle.ext_calls.specs.declared.call.Call.{Call}
use Rattle.std_host.specs.Conversions.{shown}
use Rattle.std_host.specs.Formats.{Piece, stands, takes_next, with_piece, printed, printed_if, joined}
use Rattle.std_host.specs.Formats.{pieces_behind}
use Rattle.std_host.specs.Output.{output_of, out_of}
use Rattle.std_host.specs.Printing.{PrintingView, continued, Reads, Shows}
use Rattle.std_host.specs.declared.begun.Begun.{Begun}
use Rattle.std_host.specs.declared.begun.Begun.TheVariants.{Nothing, Percent}
use Rattle.std_host.specs.declared.conversion.Conversion.{Conversion}

-- what stands in front of a text may stand in front of the text before it
pub behind_joined : (text more : List ℕ) (others : Option (List ℕ)) → option_map (λ rest. text ++ rest) (joined (Some more) others) ≡ option_map (λ rest. (text ++ more) ++ rest) others
behind_joined text more None = refl
behind_joined text more (Some rest) = ap (λ (all : List ℕ). Some all) (sym (append_assoc text more rest))

-- a byte that stands for itself goes to the end of the text
pub behind_byte : (text : List ℕ) (byte : ℕ) (args : List Arg) (others : Option (List Piece)) → option_map (λ rest. text ++ rest) (printed_if (with_piece (stands byte) others) args) ≡ option_map (λ rest. (text ++ byte ∷ []) ++ rest) (printed_if others args)
behind_byte text byte args None = refl
behind_byte text byte args (Some pieces) = behind_joined text (byte ∷ []) (printed pieces args)

-- what a conversion prints of the next argument goes to the end of the text
pub behind_conversion : (text more : List ℕ) (conversion : Conversion) (arg : Arg) (args : List Arg) (others : Option (List Piece)) → shown conversion arg ≡ Some more → option_map (λ rest. text ++ rest) (printed_if (with_piece (takes_next conversion) others) (arg ∷ args)) ≡ option_map (λ rest. (text ++ more) ++ rest) (printed_if others args)
behind_conversion text more conversion arg args None is = refl
behind_conversion text more conversion arg args (Some pieces) is =
    ap (λ (o : Option (List ℕ)). option_map (λ (rest : List ℕ). text ++ rest) (joined o (printed pieces args))) is
    ∙ behind_joined text more (printed pieces args)

-- nothing comes of a conversion whose argument is of another kind
pub misfitting : (text : List ℕ) (conversion : Conversion) (arg : Arg) (args : List Arg) (others : Option (List Piece)) → shown conversion arg ≡ None → option_map (λ (rest : List ℕ). text ++ rest) (printed_if (with_piece (takes_next conversion) others) (arg ∷ args)) ≡ None
misfitting text conversion arg args None is = refl
misfitting text conversion arg args (Some pieces) is =
    ap (λ (o : Option (List ℕ)). option_map (λ (rest : List ℕ). text ++ rest) (joined o (printed pieces args))) is

-- nothing comes of a conversion without an argument
pub missing : (text : List ℕ) (conversion : Conversion) (others : Option (List Piece)) → option_map (λ (rest : List ℕ). text ++ rest) (printed_if (with_piece (takes_next conversion) others) []) ≡ None
missing text conversion None = refl
missing text conversion (Some pieces) = refl

-- a byte outside of a conversion was read, and stands for itself
pub read_byte : (text made : List ℕ) (args : List Arg) (begun : Begun) (byte : ℕ) → begun ≡ Nothing → (byte == 37) ≡ false → made ≡ text ++ byte ∷ [] → (form : List ℕ) → option_map (λ (rest : List ℕ). text ++ rest) (printed_if (pieces_behind begun (byte ∷ form)) args) ≡ option_map (λ (rest : List ℕ). made ++ rest) (printed_if (pieces_behind begun form) args)
read_byte text made args begun byte none other grown form = rw (none, other, grown) (behind_byte text byte args (pieces_behind Nothing form))

-- the second `%` of `%%` was read
pub read_percent : (text made : List ℕ) (args : List Arg) (begun : Begun) (letter : ℕ) → begun ≡ Percent → letter ≡ 37 → made ≡ text ++ 37 ∷ [] → (form : List ℕ) → option_map (λ (rest : List ℕ). text ++ rest) (printed_if (pieces_behind begun (letter ∷ form)) args) ≡ option_map (λ (rest : List ℕ). made ++ rest) (printed_if (pieces_behind Nothing form) args)
read_percent text made args begun letter at same grown form = rw (at, same, grown) (behind_byte text 37 args (pieces_behind Nothing form))

-- nothing comes of a format of which a byte doesn't fit
pub stopped : (whole : Option (List ℕ)) (bytes : List ℕ) (i : ℕ) (before after : PrintingView) (fits : Bool) → i < length bytes → whole ≡ continued before (drop i bytes) → Reads fits (get_or bytes i 0) before after → fits ≡ false → None ≡ whole
stopped whole bytes i before after true within so_far reads none = cc
stopped whole bytes i before after false within so_far reads none =
    sym (so_far ∙ ap (continued before) (drop-cons bytes i 0 within) ∙ reads (drop (suc i) bytes))

-- ---- what calls write

-- what one call writes goes to the end of the text
grown : (written now : List ℕ) (own others : Option (List ℕ)) (taken : Bool) → Shows own taken written now → taken ≡ true → joined (Some written) (joined own others) ≡ joined (Some now) others
grown written now None others taken shows is = absurd (cc (shows.0, is))
grown written now (Some more) others taken shows is = rw shows.1 (behind_joined written more others)

-- one more call was taken
pub one_more : (calls : List Call) (i : ℕ) (call : Call) (written now : List ℕ) (taken : Bool) → i < length calls → call ≡ get_or calls i call → out_of calls ≡ joined (Some written) (out_of (drop i calls)) → Shows (output_of call) taken written now → taken ≡ true → out_of calls ≡ joined (Some now) (out_of (drop (i + 1) calls))
one_more calls i call written now taken within at so_far shows is =
    let split : drop i calls ≡ call ∷ drop (suc i) calls = drop-cons calls i call within ∙ ap (λ (one : Call). one ∷ drop (suc i) calls) (sym at) in
    rw add-one (so_far ∙ ap (λ (some : List Call). joined (Some written) (out_of some)) split ∙ grown written now (output_of call) (out_of (drop (suc i) calls)) taken shows is)
